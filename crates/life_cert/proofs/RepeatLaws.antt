-- Which lines say a state, and which the number of one that does.
use Rattle.std.proofs.Common.{◌≡◌, ℕ, zero, suc, ◌+◌, ◌<◌, ◌≤◌, Bool, true, false, ◌||◌, if◌then◌else◌, List, [], ◌∷◌, ◌++◌, codes, Option, Some, None, is_some, IfSome, refl, sym, ap, ap₂, subst, ◌∙◌, ⊎_elim, add-one, arith}
use Rattle.std.specs.Prelude.{◌==◌, nat_eq}
use Rattle.std.specs.Cmp.Lexicographic.{pointwise, same_text}
use Rattle.std.proofs.lemmas.Bool.{cases_eq, eq-eqb, ne_eqb}
use Rattle.life_state.specs.Form.{IsFormed}
use Rattle.life_state.specs.States.{State}
use Rattle.life_state.specs.Order.{leq}
use Rattle.life_state.proofs.FormOrder.{leq_both}
use Rattle.life_state.proofs.OrderLaws.{leq_same}
use Rattle.life_state.proofs.Tests.{and2, split2}
use Rattle.life_cert.specs.StateText.{state_text}
use Rattle.life_cert.specs.CertText.{is_again, or_first, first_with}
use Rattle.life_cert.specs.Reading.{has_number, has_text}
use Rattle.life_cert.specs.Drafts.{told_first, told_line, told_below}

-- The same state.

no_own_fact : (s : State) → IsFormed s → (c : ℕ) → s.facts c c ≡ false
no_own_fact s f c = by (s.facts c c) refl
  where
    by : (b : Bool) → s.facts c c ≡ b → b ≡ false
    by false e = refl
    by true e = let is = f.facts c c e in let same = eq-eqb c c refl in cc (is, same)

pub is_itself : (s : State) → IsFormed s → is_again s (Some s) ≡ true
is_itself s f = let same = leq_same s (no_own_fact s f) in and2 (leq s s) (leq s s) same same

pub same_state : (s t : State) → IsFormed s → IsFormed t → is_again s (Some t) ≡ true → s ≡ t
same_state s t f g h = let both = split2 (leq s t) (leq t s) h in leq_both s t f g both.0 both.1

-- The first line with a state.

none_or : (a b : Option ℕ) → a ≡ None → or_first a b ≡ b
none_or a b h = ap (λ x. or_first x b) h

some_or : (a b : Option ℕ) (m : ℕ) → a ≡ Some m → or_first a b ≡ Some m
some_or a b m h = ap (λ x. or_first x b) h

or_none : (a : Option ℕ) → or_first a None ≡ a
or_none None = refl
or_none (Some m) = refl

at_last : (at : ℕ → Option State) (n : ℕ) (s : State) (b : Bool) → is_again s (at n) ≡ b → first_with at (suc n) s ≡ or_first (first_with at n s) (if b then Some n else None)
unfolding first_with
at_last at n s b h = ap (λ (x : Bool). or_first (first_with at n s) (if x then Some n else None)) h

-- one line that does not have it
pub not_last : (at : ℕ → Option State) (n : ℕ) (s : State) → is_again s (at n) ≡ false → first_with at (suc n) s ≡ first_with at n s
not_last at n s h = at_last at n s false h ∙ or_none (first_with at n s)

-- the first that has it
pub is_last : (at : ℕ → Option State) (n : ℕ) (s : State) → first_with at n s ≡ None → is_again s (at n) ≡ true → first_with at (suc n) s ≡ Some n
is_last at n s none h = at_last at n s true h ∙ none_or (first_with at n s) (Some n) none

-- what was found stays
pub found_stays : (at : ℕ → Option State) (m n : ℕ) (s : State) → first_with at m s ≡ None → is_again s (at m) ≡ true → m < n → first_with at n s ≡ Some m
unfolding first_with
found_stays at m zero s none h low = absurd (omega (arith, low))
found_stays at m (suc n) s none h low =
    ⊎_elim
    (λ (same : m ≡ n). subst (λ (k : ℕ). first_with at (suc k) s ≡ Some m) same (is_last at m s none h))
    (λ (other : m ≡ n → ⊥). some_or (first_with at n s) (if is_again s (at n) then Some n else None) m (found_stays at m n s none h (omega (arith, low, other))))
    (cases_eq m n)

pub same_first : (f g : ℕ → Option State) (n : ℕ) (s : State) → ((k : ℕ) → k < n → f k ≡ g k) → first_with f n s ≡ first_with g n s
unfolding first_with
same_first f g zero s same = refl
same_first f g (suc n) s same =
    ap₂ or_first (same_first f g n s (λ k low. same k (omega (arith, low)))) (ap (λ o. if is_again s o then Some n else None) (same n (omega arith)))

-- lines that have none
pub none_first : (at : ℕ → Option State) (n m : ℕ) (s : State) → ((k : ℕ) → n ≤ k → k < n + m → at k ≡ None) → first_with at (n + m) s ≡ first_with at n s
none_first at n zero s none = ap (λ (k : ℕ). first_with at k s) (omega arith)
none_first at n (suc m) s none =
    let more : n + suc m ≡ suc (n + m) = omega arith in
    ap (λ (k : ℕ). first_with at k s) more
    ∙ not_last at (n + m) s (ap (is_again s) (none (n + m) (omega arith) (omega arith)))
    ∙ none_first at n m s (λ k low high. none k low (omega (arith, high)))

pub record IsFoundAt (at : ℕ → Option State) (n : ℕ) (s : State) (m : ℕ) : Type 0 where
  pub below : m < n
  pub again : is_again s (at m) ≡ true
  pub first : first_with at m s ≡ None

pub found_at : (at : ℕ → Option State) (n : ℕ) (s : State) (m : ℕ) → first_with at n s ≡ Some m → IsFoundAt at n s m
unfolding first_with
found_at at zero s m h = cc h
found_at at (suc n) s m h = by (first_with at n s) refl (is_again s (at n)) refl (found_at at n s m)
  where
    by : (a : Option ℕ) → first_with at n s ≡ a → (b : Bool) → is_again s (at n) ≡ b → (first_with at n s ≡ Some m → IsFoundAt at n s m) → IsFoundAt at (suc n) s m
    by (Some k) e b is others =
        let here : Some k ≡ Some m = sym (some_or (first_with at n s) (if is_again s (at n) then Some n else None) k e) ∙ h in
        let same : k ≡ m = cc here in
        let before = others (e ∙ ap (λ (i : ℕ). (let o : Option ℕ = Some i in o)) same) in
        let low = before.below in
        record { below = omega (arith, low); again = before.again; first = before.first }
    by None e true is others =
        let here : Some n ≡ Some m = sym (is_last at n s e is) ∙ h in
        let same : n ≡ m = cc here in
        record {
          below = omega (arith, same);
          again = subst (λ (i : ℕ). is_again s (at i) ≡ true) same is;
          first = subst (λ (i : ℕ). first_with at i s ≡ None) same e;
        }
    by None e false is others = let here : None ≡ Some m = sym e ∙ sym (not_last at n s is) ∙ h in cc here

-- The lines that say a state.

pub same_told : (f g : ℕ → Option State) (n : ℕ) → ((k : ℕ) → k < n → f k ≡ g k) → told_below f n ≡ told_below g n
unfolding told_below
same_told f g zero same = refl
same_told f g (suc n) same = by (f n) refl (g n) refl (same_told f g n (λ k low. same k (omega (arith, low))))
  where
    by : (a : Option State) → f n ≡ a → (b : Option State) → g n ≡ b → told_below f n ≡ told_below g n → told_line f n a (told_below f n) ≡ told_line g n b (told_below g n)
    by None p None q before = before
    by None p (Some t) q before = let is = same n (omega arith) in cc (is, p, q)
    by (Some s) p None q before = let is = same n (omega arith) in cc (is, p, q)
    by (Some s) p (Some t) q before =
        let is : Some s ≡ Some t = sym p ∙ same n (omega arith) ∙ q in
        let eq : s ≡ t = cc is in
        ap₂ (λ (m : Option ℕ) (xs : List (ℕ × List ℕ)). told_first n m s xs) (same_first f g n s (λ k low. same k (omega (arith, low)))) before
        ∙ ap (λ (x : State). told_first n (first_with g n x) x (told_below g n)) eq

pub none_told : (at : ℕ → Option State) (n m : ℕ) → ((k : ℕ) → n ≤ k → k < n + m → at k ≡ None) → told_below at (n + m) ≡ told_below at n
unfolding told_below
none_told at n zero none = ap (told_below at) (omega arith)
none_told at n (suc m) none =
    let more : n + suc m ≡ suc (n + m) = omega arith in
    ap (told_below at) more
    ∙ ap (λ o. told_line at (n + m) o (told_below at (n + m))) (none (n + m) (omega arith) (omega arith))
    ∙ none_told at n m (λ k low high. none k low (omega (arith, high)))

-- one line more
pub more_told : (at : ℕ → Option State) (n : ℕ) (s : State) (m : Option ℕ) → at n ≡ Some s → first_with at n s ≡ m → told_below at (n + 1) ≡ told_first n m s (told_below at n)
unfolding told_below
more_told at n s m here first =
    ap (told_below at) (add-one n) ∙ ap (λ o. told_line at n o (told_below at n)) here ∙ ap (λ o. told_first n o s (told_below at n)) first

abbrev pub AllFormed : (ℕ → Option State) → Type 0
AllFormed at = (k : ℕ) → IfSome (at k) IsFormed

formed_here : (at : ℕ → Option State) → AllFormed at → (k : ℕ) (t : State) → at k ≡ Some t → IsFormed t
formed_here at f k t e = subst (λ (o : Option State). IfSome o IsFormed) e (f k)

abbrev behind_space : State → List ℕ
behind_space s = codes " " ++ state_text s

same_texts : (s : State) (t : State) → s ≡ t → pointwise nat_eq (behind_space s) (behind_space t) ≡ true
same_texts s t e = subst (λ (x : State). pointwise nat_eq (behind_space s) (behind_space x) ≡ true) e (alike (behind_space s))
  where
    alike : (xs : List ℕ) → pointwise nat_eq xs xs ≡ true
    alike [] = refl
    alike (x ∷ xs) = and2 (nat_eq x x) (pointwise nat_eq xs xs) (eq-eqb x x refl) (alike xs)

module _ (tell : (s t : State) → IsFormed s → IsFormed t → state_text s ≡ state_text t → s ≡ t) (at : ℕ → Option State) (f : AllFormed at) where
  other_texts : (s t : State) → IsFormed s → IsFormed t → is_again s (Some t) ≡ false → pointwise nat_eq (behind_space s) (behind_space t) ≡ false
  other_texts s t fs ft h = by (pointwise nat_eq (behind_space s) (behind_space t)) refl
    where
      by : (b : Bool) → pointwise nat_eq (behind_space s) (behind_space t) ≡ b → b ≡ false
      by false e = refl
      by true e =
          let whole : behind_space s ≡ behind_space t = same_text (behind_space s) (behind_space t) (sym e) in
          let text : state_text s ≡ state_text t = cc whole in
          let same = tell s t fs ft text in
          let itself = subst (λ (x : State). is_again s (Some x) ≡ true) same (is_itself s fs) in
          cc (h, itself)

  -- a state stands on an earlier line, where its text does
  pub text_told : (n : ℕ) (s : State) → IsFormed s → has_text (behind_space s) (told_below at n) ≡ is_some (first_with at n s)
  unfolding told_below first_with
  text_told zero s fs = refl
  text_told (suc n) s fs = by (at n) refl (text_told n s fs)
    where
      by : (o : Option State) → at n ≡ o → has_text (behind_space s) (told_below at n) ≡ is_some (first_with at n s) → has_text (behind_space s) (told_line at n o (told_below at n)) ≡ is_some (first_with at (suc n) s)
      by None e before = before ∙ ap (λ (o : Option ℕ). is_some o) (sym (not_last at n s (ap (is_again s) e)))
      by (Some t) e before = inner (first_with at n t) refl (is_again s (Some t)) refl
        where
          ft : IsFormed t
          ft = formed_here at f n t e

          here : (b : Bool) → is_again s (Some t) ≡ b → is_again s (at n) ≡ b
          here b is = ap (is_again s) e ∙ is

          some_there : (o : Option ℕ) → is_some (or_first o (Some n)) ≡ true
          some_there None = refl
          some_there (Some m) = refl

          inner : (m : Option ℕ) → first_with at n t ≡ m → (b : Bool) → is_again s (Some t) ≡ b → has_text (behind_space s) (told_first n m t (told_below at n)) ≡ is_some (first_with at (suc n) s)
          inner (Some m) p false is = before ∙ ap (λ (o : Option ℕ). is_some o) (sym (not_last at n s (here false is)))
          inner (Some m) p true is =
              let same = same_state s t fs ft is in
              let there : first_with at n s ≡ Some m = ap (first_with at n) same ∙ p in
              before ∙ ap (λ (o : Option ℕ). is_some o) there ∙ sym (ap (λ (o : Option ℕ). is_some o) (some_or (first_with at n s) (if is_again s (at n) then Some n else None) m there))
          inner None p false is =
              ap (λ (b : Bool). b || has_text (behind_space s) (told_below at n)) (other_texts s t fs ft is)
              ∙ before ∙ ap (λ (o : Option ℕ). is_some o) (sym (not_last at n s (here false is)))
          inner None p true is =
              ap (λ (b : Bool). b || has_text (behind_space s) (told_below at n)) (same_texts s t (same_state s t fs ft is))
              ∙ sym (ap (λ (o : Option ℕ). is_some o) (at_last at n s true (here true is)) ∙ some_there (first_with at n s))

-- the number of a line that says a state
pub record SaysAt (at : ℕ → Option State) (n m : ℕ) : Type 0 where
  pub state : State
  pub below : m < n
  pub here : at m ≡ Some state
  pub first : first_with at m state ≡ None

later : (at : ℕ → Option State) (n m : ℕ) → SaysAt at n m → SaysAt at (suc n) m
later at n m w = let low = w.below in record { state = w.state; below = omega (arith, low); here = w.here; first = w.first }

pub number_told : (at : ℕ → Option State) (n m : ℕ) → has_number m (told_below at n) ≡ true → SaysAt at n m
unfolding told_below
number_told at zero m h = cc h
number_told at (suc n) m h = by (at n) refl h (number_told at n m)
  where
    by : (o : Option State) → at n ≡ o → has_number m (told_line at n o (told_below at n)) ≡ true → (has_number m (told_below at n) ≡ true → SaysAt at n m) → SaysAt at (suc n) m
    by None e k others = later at n m (others k)
    by (Some t) e k others = inner (first_with at n t) refl k
      where
        inner : (o : Option ℕ) → first_with at n t ≡ o → has_number m (told_first n o t (told_below at n)) ≡ true → SaysAt at (suc n) m
        inner (Some j) p is = later at n m (others is)
        inner None p is =
            ⊎_elim
            (λ (same : n ≡ m). record {
              state = t;
              below = omega (arith, same);
              here = subst (λ (i : ℕ). at i ≡ Some t) same e;
              first = subst (λ (i : ℕ). first_with at i t ≡ None) same p;
            })
            (λ (other : n ≡ m → ⊥). later at n m (others (sym (ap (λ (b : Bool). b || has_number m (told_below at n)) (ne_eqb n m other)) ∙ is)))
            (cases_eq n m)

or_true : (a : Bool) → (a || true) ≡ true
or_true true = refl
or_true false = refl

pub told_number : (at : ℕ → Option State) (n m : ℕ) (s : State) → m < n → at m ≡ Some s → first_with at m s ≡ None → has_number m (told_below at n) ≡ true
unfolding told_below
told_number at zero m s low here first = absurd (omega (arith, low))
told_number at (suc n) m s low here first =
    ⊎_elim
    (λ (same : n ≡ m). now same)
    (λ (other : n ≡ m → ⊥). before (told_number at n m s (omega (arith, low, other)) here first) (at n) refl)
    (cases_eq n m)
  where
    now : n ≡ m → has_number m (told_line at n (at n) (told_below at n)) ≡ true
    now same =
        ap (λ o. has_number m (told_line at n o (told_below at n))) (ap at same ∙ here)
        ∙ ap (λ (o : Option ℕ). has_number m (told_first n o s (told_below at n))) (ap (λ (i : ℕ). first_with at i s) same ∙ first)
        ∙ ap (λ (b : Bool). b || has_number m (told_below at n)) (eq-eqb n m same)

    before : has_number m (told_below at n) ≡ true → (o : Option State) → at n ≡ o → has_number m (told_line at n o (told_below at n)) ≡ true
    before h None e = h
    before h (Some t) e = inner (first_with at n t)
      where
        inner : (o : Option ℕ) → has_number m (told_first n o t (told_below at n)) ≡ true
        inner (Some j) = h
        inner None = ap (λ (b : Bool). (n == m) || b) h ∙ or_true (n == m)
