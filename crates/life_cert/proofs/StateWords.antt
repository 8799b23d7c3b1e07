-- Words in front of a text, as the code looks for them.
use Rattle.std.proofs.Common.{◌≡◌, ℕ, suc, ◌-◌, ◌<◌, ◌≤◌, Bool, true, false, ◌&&◌, cond, List, [], ◌∷◌, length, get_or, take, drop, codes, refl, sym, ap, ◌∙◌, eqb, arith, min, length-drop}
use Rattle.std.proofs.lemmas.List.{take_all}
use Rattle.std.specs.Prelude.{nat_eq, ◌==◌, if◌then◌else◌}
use Rattle.std.specs.Cmp.Lexicographic.{pointwise}
use Rattle.std.proofs.lemmas.Bool.{eqb-true, eqb-false}
use Rattle.byte_text.specs.Bytes.{begins}
use Rattle.life_state.specs.declared.parts.Contents.TheVariants.{Empty, Flushes, NoEos, NoLateData, Any}
use Rattle.life_cert.specs.StateFromText.{at_past, at_read, behind, behind_name, classes_past, classes_read, content_read, loose_past, loose_read, number_in, past, place_past, place_read, starts}
use Rattle.life_state.specs.States.{In, InOrEnd}
use Rattle.life_cert.proofs.Taking.{one, past_none}

same_test : (x y : ℕ) → eqb x y ≡ eqb y x
same_test x y = by (eqb x y) (eqb y x) refl refl
  where
    by : (a b : Bool) → eqb x y ≡ a → eqb y x ≡ b → a ≡ b
    by true true p q = refl
    by false false p q = refl
    by true false p q = let e = eqb-true x y p in let n = eqb-false y x q in absurd (n (sym e))
    by false true p q = let e = eqb-true y x q in let n = eqb-false x y p in absurd (n (sym e))

-- a text begins with a word where its first bytes are those of the word
pub starts_is : (w t : List ℕ) → starts w t ≡ pointwise nat_eq w (take (length w) t)
starts_is [] t = refl
starts_is (x ∷ xs) [] = refl
starts_is (x ∷ xs) (y ∷ ys) = ap (λ (b : Bool). b && starts xs ys) (same_test y x) ∙ ap (λ (b : Bool). eqb x y && b) (starts_is xs ys)

behind_drop : (w t : List ℕ) (n : ℕ) → n ≡ min (length w) (length t) → drop n t ≡ behind w t
behind_drop [] t n e = let none : n ≡ 0 = omega (arith, e) in ap (λ i. drop i t) none
behind_drop (x ∷ xs) [] n e = let none : n ≡ 0 = omega (arith, e) in ap (λ i. drop i []) none
behind_drop (x ∷ xs) (y ∷ ys) n e =
    let less : n ≡ suc (n - 1) = omega (arith, e) in
    ap (λ i. drop i (y ∷ ys)) less ∙ behind_drop xs ys (n - 1) (omega (arith, e))

-- what stands behind a word, by its length
pub behind_is : (w t : List ℕ) (n : ℕ) → n ≡ min (length w) (length t) → take (length t - n) (drop n t) ≡ behind w t
behind_is w t n e = take_all (length t - n) (drop n t) (omega (arith, length-drop n t)) ∙ behind_drop w t n e

pub past_found : (w t : List ℕ) → starts w t ≡ true → past w t ≡ behind w t
unfolding past
past_found w t h = ap (λ (b : Bool). cond b (behind w t) t) h

-- a word behind a comma
pub no_comma : (w t : List ℕ) → starts (one 44) t ≡ false → starts (44 ∷ w) t ≡ false
no_comma w [] h = refl
no_comma w (b ∷ m) h = by (eqb b 44) h
  where
    by : (x : Bool) → (x && true) ≡ false → (x && starts w m) ≡ false
    by false k = refl
    by true k = cc k

behind_comma : (w t : List ℕ) → starts (one 44) t ≡ true → starts (44 ∷ w) t ≡ starts w (behind (one 44) t)
behind_comma w [] h = cc h
behind_comma w (b ∷ m) h = by (eqb b 44) h
  where
    by : (x : Bool) → (x && true) ≡ true → (x && starts w m) ≡ starts w m
    by true k = refl
    by false k = cc k

behind_both : (w t : List ℕ) → behind (44 ∷ w) t ≡ behind w (behind (one 44) t)
behind_both [] [] = refl
behind_both (x ∷ xs) [] = refl
behind_both w (b ∷ m) = refl

module _ (w t u : List ℕ) (comma : starts (one 44) t ≡ true) (is : u ≡ past (one 44) t) where
  u_is : u ≡ behind (one 44) t
  u_is = is ∙ past_found (one 44) t comma

  pub next_starts : starts w u ≡ starts (44 ∷ w) t
  next_starts = ap (starts w) u_is ∙ sym (behind_comma w t comma)

  pub next_past : starts w u ≡ true → past w u ≡ past (44 ∷ w) t
  next_past h = past_found w u h ∙ ap (behind w) u_is ∙ sym (behind_both w t) ∙ sym (past_found (44 ∷ w) t (sym next_starts ∙ h))

  pub next_none : starts w u ≡ false → t ≡ past (44 ∷ w) t
  next_none h = past_none (44 ∷ w) t (sym next_starts ∙ h)

pub content_by_letter : (t : List ℕ)
    → content_read t ≡ (if begins 102 t then Flushes else (if begins 110 t then NoEos else (if begins 111 t then NoLateData else (if begins 97 t then Any else Empty))))
content_by_letter [] = refl
content_by_letter (b ∷ m) = refl

-- What is left where a word is looked for.
pub took : (w t u : List ℕ) → starts w t ≡ true → u ≡ past w t → u ≡ behind w t
took w t u h is = is ∙ past_found w t h

pub took_none : (w t u : List ℕ) → starts w t ≡ false → u ≡ past w t → u ≡ t
took_none w t u h is = is ∙ sym (past_none w t h)

-- A loose cursor, and one in a brigade.
pub at_loose : (t u : List ℕ) → starts (codes "loose/") t ≡ true → u ≡ past (codes "loose/") t → (loose_read u ≡ place_read t) × (loose_past u ≡ place_past t)
unfolding place_read place_past
at_loose t u there is =
    let left = took (codes "loose/") t u there is in
    (rw (there, left) refl, rw (there, left) refl)

pub in_brigade : (t u v : List ℕ) (b : ℕ) → starts (codes "loose/") t ≡ false → u ≡ past (codes "loose/") t → b ≡ number_in 110 u → v ≡ behind_name u
    → (at_read b v ≡ place_read t) × (at_past v ≡ place_past t)
unfolding place_read place_past
in_brigade t u v b never is named on =
    let same = took_none (codes "loose/") t u never is in
    let number : b ≡ number_in 110 t = named ∙ ap (number_in 110) same in
    let left : v ≡ behind_name t = on ∙ ap behind_name same in
    (rw (never, number, left) refl, rw (never, left) refl)

-- A cursor in a brigade: at a bucket or the end, or at a bucket.
pub at_either : (b : ℕ) (t u v : List ℕ) → starts (codes "$") t ≡ false → u ≡ past (codes "$") t → starts (codes "?/") u ≡ true → v ≡ past (codes "?/") u
    → (InOrEnd b (classes_read v) ≡ at_read b t) × (classes_past v ≡ at_past t)
unfolding at_read at_past
at_either b t u v end is there_is on =
    let same = took_none (codes "$") t u end is in
    let there : starts (codes "?/") t ≡ true = ap (starts (codes "?/")) (sym same) ∙ there_is in
    let left : v ≡ behind (codes "?/") t = took (codes "?/") u v there_is on ∙ ap (behind (codes "?/")) same in
    (rw (end, there, left) refl, rw (end, there, left) refl)

pub at_bucket : (b : ℕ) (t u v r : List ℕ) → starts (codes "$") t ≡ false → u ≡ past (codes "$") t → starts (codes "?/") u ≡ false → v ≡ past (codes "?/") u → r ≡ behind (codes "/") v
    → (In b (classes_read r) ≡ at_read b t) × (classes_past r ≡ at_past t)
unfolding at_read at_past
at_bucket b t u v r end is never on last =
    let same = took_none (codes "$") t u end is in
    let there : starts (codes "?/") t ≡ false = ap (starts (codes "?/")) (sym same) ∙ never in
    let left : r ≡ behind (codes "/") t = last ∙ ap (behind (codes "/")) (took_none (codes "?/") u v never on ∙ same) in
    (rw (end, there, left) refl, rw (end, there, left) refl)

-- Behind a name of two bytes.
pub behind_two : (t : List ℕ) → behind (codes "b0") t ≡ behind_name t
behind_two [] = refl
behind_two (a ∷ []) = refl
behind_two (a ∷ (b ∷ m)) = refl

pub no_number : (eight : ℕ) (t : List ℕ) → length t < 2 → number_in eight t ≡ 0
no_number eight [] h = refl
no_number eight (a ∷ []) h = refl
no_number eight (a ∷ (b ∷ m)) h = absurd (omega (arith, h))

pub some_number : (eight : ℕ) (t : List ℕ) (d : ℕ) → 2 ≤ length t → number_in eight t ≡ (if get_or t 1 d == eight then 8 else get_or t 1 d - 48)
some_number eight [] d h = absurd (omega (arith, h))
some_number eight (a ∷ []) d h = absurd (omega (arith, h))
some_number eight (a ∷ (b ∷ m)) d h = refl
