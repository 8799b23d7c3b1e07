-- What the line of an instruction says, and what it leaves for later ones.
use Rattle.std.proofs.Common.{◌≡◌, ℕ, ◌+◌, ◌<◌, ◌≤◌, Bool, true, false, not, if◌then◌else◌, List, [], ◌∷◌, ◌++◌, codes, decimal, Option, Some, None, is_some, IfSome, refl, sym, ap, ap₂, subst, ◌∙◌, inl, inr, append-nil, arith}
use Rattle.life_state.specs.Form.{IsFormed}
use Rattle.life_state.specs.States.{State}
use Rattle.life_check.specs.Certificates.{Certificate}
use Rattle.life_cert.specs.StateFromText.{starts}
use Rattle.life_cert.specs.StateText.{brigade_text, cursor_text, each, facts_text, in_text, pool_text, sent_text, state_text}
use Rattle.life_cert.specs.CertText.{earlier, is_again, first_with, pc_line, said, said_by, said_line}
use Rattle.life_cert.specs.Reading.{IsSaid, has_number, has_text, with_said}
use Rattle.life_cert.specs.Drafts.{SaysState, told_below, told_so_far}
use Rattle.life_cert.proofs.RepeatLaws.{AllFormed, IsFoundAt, found_at, more_told, none_first, none_told, same_first, same_state, same_told, text_told, told_number}

abbrev pub TellStates : Type 0
TellStates = (s t : State) → IsFormed s → IsFormed t → state_text s ≡ state_text t → s ≡ t

-- a state is not the word that stands for one
pub no_same : (s : State) (m : List ℕ) → starts (codes " same ") (32 ∷ (state_text s ++ m)) ≡ false
unfolding state_text
no_same s m = by s.sent
  where
    rest : List ℕ
    rest = each 0 s.pool_count (λ q. pool_text q (s.pools q)) ++ (each 0 s.brigade_count (λ b. brigade_text b (s.brigades b)) ++ (in_text (s.brigades 8) ++ (each 0 9 (λ c. cursor_text c (s.cursors c)) ++ each 0 9 (facts_text s))))

    by : (b : Bool) → starts (codes " same ") (32 ∷ ((sent_text b ++ rest) ++ m)) ≡ false
    by true = refl
    by false = refl

pub same_starts : (m : ℕ) → starts (codes " same ") (codes " same " ++ decimal m) ≡ true
same_starts m = refl

earlier_same : (two : Bool) (f g : ℕ → Option State) (n : ℕ) (s : State) → ((k : ℕ) → k < n → f k ≡ g k) → earlier two f n s ≡ earlier two g n s
earlier_same true f g n s same = same_first f g n s same
earlier_same false f g n s same = refl

-- lines below are as before, so is this one
pub line_same : (two : Bool) (f g : ℕ → Option State) (pc : ℕ) → ((k : ℕ) → k ≤ pc → f k ≡ g k) → pc_line two f pc ≡ pc_line two g pc
line_same two f g pc same = by (g pc) ∙ ap (λ o. said_line pc (said two g pc o)) refl
  where
    by : (o : Option State) → pc_line two f pc ≡ said_line pc (said two g pc (g pc))
    by o = ap (λ x. said_line pc (said two f pc x)) (same pc (omega arith)) ∙ other (g pc)
      where
        other : (x : Option State) → said_line pc (said two f pc x) ≡ said_line pc (said two g pc x)
        other None = refl
        other (Some s) = ap (λ (m : Option ℕ). said_line pc (Some (said_by m s))) (earlier_same two f g pc s (λ k low. same k (omega (arith, low))))

-- a state that is added behind lines that have none
pub earlier_behind : (two : Bool) (f g : ℕ → Option State) (n m pc : ℕ) (s : State) → pc ≡ n + m → ((k : ℕ) → k < n → g k ≡ f k) → ((k : ℕ) → n ≤ k → k < pc → g k ≡ None)
    → earlier two g pc s ≡ earlier two f n s
earlier_behind false f g n m pc s at same none = refl
earlier_behind true f g n m pc s at same none =
    ap (λ (k : ℕ). first_with g k s) at ∙ none_first g n m s (λ k low high. none k low (omega (arith, high, at))) ∙ same_first g f n s same

pub told_behind : (f g : ℕ → Option State) (n m pc : ℕ) → pc ≡ n + m → ((k : ℕ) → k < n → g k ≡ f k) → ((k : ℕ) → n ≤ k → k < pc → g k ≡ None) → told_below g pc ≡ told_below f n
told_behind f g n m pc at same none = ap (told_below g) at ∙ none_told g n m (λ k low high. none k low (omega (arith, high, at))) ∙ same_told g f n same

-- What a line says is a state in form, where it says one.

module _ (tell : TellStates) (c : Certificate) (f : AllFormed c.at) where
  pub is_said : (two : Bool) (rest : List ℕ) (s : State) → SaysState two c rest s → IsSaid two (told_so_far two c) rest
  is_said false rest s h = (s, h)
  is_said true rest s h = by (first_with c.at c.lines s) refl
    where
      by : (o : Option ℕ) → first_with c.at c.lines s ≡ o → IsSaid true (told_below c.at c.lines) rest
      by None e =
          let text : rest ≡ codes " " ++ state_text s = h.1 ∙ ap (λ (o : Option ℕ). codes " " ++ said_by o s) e in
          let new : has_text rest (told_below c.at c.lines) ≡ false =
          ap (λ t. has_text t (told_below c.at c.lines)) text ∙ text_told tell c.at f c.lines s h.0 ∙ ap (λ (o : Option ℕ). is_some o) e in
          inl (s, (h.0, text), new)
      by (Some m) e =
          let text : rest ≡ codes " same " ++ decimal m = h.1 ∙ ap (λ (o : Option ℕ). codes " " ++ said_by o s) e in
          let at = found_at c.at c.lines s m e in
          inr (m, text, there m at (c.at m) refl)
        where
          there : (m : ℕ) → IsFoundAt c.at c.lines s m → (o : Option State) → c.at m ≡ o → has_number m (told_below c.at c.lines) ≡ true
          there m at None p = let again = at.again in cc (again, p)
          there m at (Some t) p =
              let ft : IsFormed t = subst (λ (o : Option State). IfSome o IsFormed) p (f m) in
              let same : s ≡ t = same_state s t h.0 ft (subst (λ (o : Option State). is_again s o ≡ true) p at.again) in
              told_number c.at c.lines m t at.below p (subst (λ (x : State). first_with c.at m x ≡ None) same at.first)

  -- and what it leaves
  pub left_said : (two : Bool) (pc : ℕ) (rest : List ℕ) (s : State) (at : ℕ → Option State) → SaysState two c rest s → at pc ≡ Some s → earlier two at pc s ≡ earlier two c.at c.lines s
      → told_below at pc ≡ told_below c.at c.lines → (if two then told_below at (pc + 1) else []) ≡ with_said two pc rest (told_so_far two c)
  left_said false pc rest s at h here same told = refl
  left_said true pc rest s at h here same told = by (first_with c.at c.lines s) refl
    where
      by : (o : Option ℕ) → first_with c.at c.lines s ≡ o → told_below at (pc + 1) ≡ with_said true pc rest (told_below c.at c.lines)
      by None e =
          let text : rest ≡ codes " " ++ state_text s = h.1 ∙ ap (λ (o : Option ℕ). codes " " ++ said_by o s) e in
          let new : starts (codes " same ") rest ≡ false = ap (starts (codes " same ")) (text ∙ sym (ap (λ t. 32 ∷ t) (append-nil (state_text s)))) ∙ no_same s [] in
          more_told at pc s None here (same ∙ e)
          ∙ ap₂ (λ (t : List ℕ) (xs : List (ℕ × List ℕ)). (pc, t) ∷ xs) (sym text) told
          ∙ sym (ap (λ (b : Bool). if not b then (pc, rest) ∷ told_below c.at c.lines else told_below c.at c.lines) new)
      by (Some m) e =
          let text : rest ≡ codes " same " ++ decimal m = h.1 ∙ ap (λ (o : Option ℕ). codes " " ++ said_by o s) e in
          let again : starts (codes " same ") rest ≡ true = ap (starts (codes " same ")) text in
          more_told at pc s (Some m) here (same ∙ e)
          ∙ told
          ∙ sym (ap (λ (b : Bool). if not b then (pc, rest) ∷ told_below c.at c.lines else told_below c.at c.lines) again)
