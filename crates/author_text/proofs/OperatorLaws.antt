-- Levels in order, and which tokens are operators.
use Rattle.std.proofs.Common.{◌≡◌, ℕ, ◌+◌, ◌<◌, ◌≤◌, zero, suc, length, get_or, drop, if◌then◌else◌, Bool, true, false, cond, List, [], ◌∷◌, Option, Some, None, refl, ap, sym, ◌∙◌, arith, codes, ltb, ◌⊎◌, inl, inr}
use Rattle.std.specs.Prelude.{nat_lt, ◌&&◌}
use Rattle.std.proofs.lemmas.Bool.{ltb-false, lt-ltb, le-ltb}
use Rattle.std.proofs.lemmas.List.{drop_all}
use Rattle.author_text.specs.declared.operators.Level.{Level}
use Rattle.author_text.specs.declared.operators.Level.TheVariants as level
use Rattle.author_text.specs.declared.source.BinaryOp.{BinaryOp}
use Rattle.author_text.specs.declared.source.BinaryOp.TheVariants as op
use Rattle.author_text.specs.Printed.{operator_level, operator_text, closer, left_level, rank}
use Rattle.author_text.specs.ReadExprs.{is_level, operator_among, operator_in}
use Rattle.author_text.specs.Tokens.{TokenTree, name_token, operator_token}
use Rattle.author_text.specs.UnreadTokens.{is_at}

level_at : ℕ → Level
level_at zero = level.Or
level_at (suc zero) = level.And
level_at (suc (suc zero)) = level.Compare
level_at (suc (suc (suc zero))) = level.Sum
level_at (suc (suc (suc (suc zero)))) = level.Product
level_at (suc (suc (suc (suc (suc n))))) = level.Unit

level_at_rank : (l : Level) → level_at (rank l) ≡ l
unfolding level_at
level_at_rank level.Or = refl
level_at_rank _ = refl

pub same_level : (l m : Level) → rank l ≡ rank m → l ≡ m
same_level l m e = sym (level_at_rank l) ∙ ap level_at e ∙ level_at_rank m

pub rank_most : (l : Level) → rank l ≤ 5
rank_most level.Or = omega arith
rank_most _ = omega arith

pub rank_closer : (l : Level) → rank l < 5 → rank (closer l) ≡ rank l + 1
rank_closer level.Or h = refl
rank_closer level.And h = refl
rank_closer level.Compare h = refl
rank_closer level.Sum h = refl
rank_closer level.Product h = refl
rank_closer level.Unit h = absurd (omega arith)

pub left_same : (l : Level) → is_level l level.Compare ≡ false → left_level l ≡ l
left_same level.Compare e = absurd (cc)
left_same _ e = refl

pub rank_operator : (o : BinaryOp) → rank (operator_level o) < 5
rank_operator op.Or = omega arith
rank_operator _ = omega arith

at_or : (o : BinaryOp) → operator_in level.Or (operator_token o) ≡ cond (is_level (operator_level o) level.Or) (Some o) None
unfolding operator_in
at_or op.Or = refl
at_or _ = refl

at_and : (o : BinaryOp) → operator_in level.And (operator_token o) ≡ cond (is_level (operator_level o) level.And) (Some o) None
unfolding operator_in
at_and op.Or = refl
at_and _ = refl

at_compare : (o : BinaryOp) → operator_in level.Compare (operator_token o) ≡ cond (is_level (operator_level o) level.Compare) (Some o) None
unfolding operator_in
at_compare op.Or = refl
at_compare _ = refl

at_sum : (o : BinaryOp) → operator_in level.Sum (operator_token o) ≡ cond (is_level (operator_level o) level.Sum) (Some o) None
unfolding operator_in
at_sum op.Or = refl
at_sum _ = refl

at_product : (o : BinaryOp) → operator_in level.Product (operator_token o) ≡ cond (is_level (operator_level o) level.Product) (Some o) None
unfolding operator_in
at_product op.Or = refl
at_product _ = refl

at_unit : (o : BinaryOp) → operator_in level.Unit (operator_token o) ≡ cond (is_level (operator_level o) level.Unit) (Some o) None
unfolding operator_in
at_unit op.Or = refl
at_unit _ = refl

pub operator_at : (o : BinaryOp) (l : Level) → operator_in l (operator_token o) ≡ cond (is_level (operator_level o) l) (Some o) None
operator_at o level.Or = at_or o
operator_at o level.And = at_and o
operator_at o level.Compare = at_compare o
operator_at o level.Sum = at_sum o
operator_at o level.Product = at_product o
operator_at o level.Unit = at_unit o

pub is_own_level : (l m : Level) → l ≡ m → is_level l m ≡ true
is_own_level level.Or m e = ap (is_level level.Or) (sym e)
is_own_level level.And m e = ap (is_level level.And) (sym e)
is_own_level level.Compare m e = ap (is_level level.Compare) (sym e)
is_own_level level.Sum m e = ap (is_level level.Sum) (sym e)
is_own_level level.Product m e = ap (is_level level.Product) (sym e)
is_own_level level.Unit m e = ap (is_level level.Unit) (sym e)

pub is_other_level : (l m : Level) → (rank l ≡ rank m → ⊥) → is_level l m ≡ false
is_other_level l m h = elim (rank_test (is_level l m) l m refl) [ inl e ↦ absurd (h e) | inr e ↦ e ]
  where
    rank_test : (b : Bool) (l m : Level) → is_level l m ≡ b → (rank l ≡ rank m) ⊎ (is_level l m ≡ false)
    rank_test true l m e = inl (search (e, arith))
    rank_test false l m e = inr e

-- an operator is read at its level
pub operator_own : (o : BinaryOp) (l : Level) → operator_level o ≡ l → operator_in l (operator_token o) ≡ Some o
operator_own o l e = operator_at o l ∙ rw (is_own_level (operator_level o) l e) refl

-- and at no closer one
pub operator_closer : (o : BinaryOp) (l : Level) → rank (operator_level o) < rank l → operator_in l (operator_token o) ≡ None
operator_closer o l h = operator_at o l ∙ rw (is_other_level (operator_level o) l (λ e. absurd (omega (arith, e, h)))) refl

pub operator_no_index : (o : BinaryOp) → is_at (operator_token o) (codes "[") ≡ false
operator_no_index op.Or = refl
operator_no_index _ = refl

-- a token that is no operator of any level
pub no_operator : (t : TokenTree) → operator_in level.Or t ≡ None → operator_in level.And t ≡ None → operator_in level.Compare t ≡ None
    → operator_in level.Sum t ≡ None → operator_in level.Product t ≡ None → operator_in level.Unit t ≡ None → (l : Level) → operator_in l t ≡ None
no_operator t a b c d e f level.Or = a
no_operator t a b c d e f level.And = b
no_operator t a b c d e f level.Compare = c
no_operator t a b c d e f level.Sum = d
no_operator t a b c d e f level.Product = e
no_operator t a b c d e f level.Unit = f

pub name_no_operator : (name : List ℕ) (l : Level) → operator_in l (name_token name) ≡ None
unfolding operator_in
name_no_operator name level.Or = refl
name_no_operator name _ = refl

-- a test is the same one further up, but at its own place
pub same_test : (r x y : ℕ) → y ≡ x + 1 → (r ≡ x → ⊥) → nat_lt r x ≡ nat_lt r y
same_test r x y e h = by_test (nat_lt r x) refl
  where
    by_test : (b : Bool) → nat_lt r x ≡ b → nat_lt r x ≡ nat_lt r y
    by_test true t = t ∙ sym (lt-ltb r y (less t))
      where
        less : nat_lt r x ≡ true → r < y
        less t = search (t, arith)
    by_test false t = t ∙ sym (le-ltb r y (elim (more (ltb-false r x t)) [ inl a ↦ a | inr b ↦ absurd (h b) ]))
      where
        more : x ≤ r → (y ≤ r) ⊎ (r ≡ x)
        more q = grind (arith, e, q)

-- the next operator is looked at
pub operator_next : (l : Level) (t : TokenTree) (os : List BinaryOp) (i : ℕ) (d : BinaryOp) → i < length os
    → operator_among l t (drop i os) ≡ (
    if is_level (operator_level (get_or os i d)) l && is_at t (operator_text (get_or os i d)) then Some (get_or os i d) else operator_among l t (drop (i + 1) os))
operator_next l t [] i d h = absurd (omega arith)
operator_next l t (o ∷ os) zero d h = refl
operator_next l t (o ∷ os) (suc i) d h =
    operator_next l t os i d (omega arith)
    ∙ ap (λ n. if is_level (operator_level (get_or os i d)) l && is_at t (operator_text (get_or os i d)) then Some (get_or os i d) else operator_among l t (drop n (o ∷ os))) (further i)
  where
    further : (i : ℕ) → suc (i + 1) ≡ suc i + 1
    further i = omega arith

chosen : (l : Level) (t : TokenTree) (o : BinaryOp) (rest : Option BinaryOp) → rank (operator_level o) ≡ rank l → is_at t (operator_text o) ≡ true
    → (if is_level (operator_level o) l && is_at t (operator_text o) then Some o else rest) ≡ Some o
chosen l t o rest e a = rw (is_own_level (operator_level o) l (same_level (operator_level o) l e)) (rw a refl)

not_chosen : (l : Level) (t : TokenTree) (o : BinaryOp) (rest : Option BinaryOp) → (rank (operator_level o) ≡ rank l → is_at t (operator_text o) ≡ false)
    → (if is_level (operator_level o) l && is_at t (operator_text o) then Some o else rest) ≡ rest
not_chosen l t o rest h = by_test (is_level (operator_level o) l) refl
  where
    same_rank : (t : Bool) → is_level (operator_level o) l ≡ t → t ≡ true → rank (operator_level o) ≡ rank l
    same_rank true e f = search (e, arith)
    same_rank false e f = absurd (cc)

    by_test : (b : Bool) → is_level (operator_level o) l ≡ b → (if is_level (operator_level o) l && is_at t (operator_text o) then Some o else rest) ≡ rest
    by_test true e = rw e (rw (h (same_rank true e refl)) refl)
    by_test false e = rw e refl

pub operator_found : (l : Level) (t : TokenTree) (os : List BinaryOp) (i : ℕ) (d : BinaryOp) (all : Option BinaryOp) → i < length os
    → rank (operator_level (get_or os i d)) ≡ rank l → is_at t (operator_text (get_or os i d)) ≡ true → operator_among l t (drop i os) ≡ all → Some (get_or os i d) ≡ all
operator_found l t os i d all h e a q =
    sym (chosen l t (get_or os i d) (operator_among l t (drop (i + 1) os)) e a) ∙ sym (operator_next l t os i d h) ∙ q

pub operator_passed : (l : Level) (t : TokenTree) (os : List BinaryOp) (i : ℕ) (d : BinaryOp) (all : Option BinaryOp) → i < length os
    → (rank (operator_level (get_or os i d)) ≡ rank l → is_at t (operator_text (get_or os i d)) ≡ false) → operator_among l t (drop i os) ≡ all
    → operator_among l t (drop (i + 1) os) ≡ all
operator_passed l t os i d all h f q =
    sym (not_chosen l t (get_or os i d) (operator_among l t (drop (i + 1) os)) f) ∙ sym (operator_next l t os i d h) ∙ q

pub operator_past : (l : Level) (t : TokenTree) (os : List BinaryOp) (i : ℕ) (all : Option BinaryOp) → length os ≤ i → operator_among l t (drop i os) ≡ all → None ≡ all
operator_past l t os i all h q = ap (operator_among l t) (sym (drop_all i os h)) ∙ q
