-- The printed text of a tree has the tokens of the tree.
use Rattle.std.proofs.Common.{◌≡◌, ℕ, Bool, true, false, List, [], ◌∷◌, ◌++◌, Option, Some, None, refl, sym, ◌∙◌, ap, subst, append_assoc, append-nil, codes}
use Rattle.std.specs.List.{flat_map, join_by}
use Rattle.author_text.specs.declared.operators.Level.{Level}
use Rattle.author_text.specs.declared.operators.Level.TheVariants as level
use Rattle.author_text.specs.declared.source.BinaryOp.{BinaryOp}
use Rattle.author_text.specs.declared.source.BinaryOp.TheVariants as op
use Rattle.author_text.specs.Printed.{operator_text, operator_level, closer, left_level, is_loose, hold_or_it, bracketed, expr_text}
use Rattle.author_text.specs.PrintedSource.{listed}
use Rattle.author_text.specs.PrintedTokens.{listed_tokens}
use Rattle.author_text.specs.Tokens.{TokenTree, name_token, word_token, mark_token, operator_token, hold_or_it_token, bracketed_tokens, expr_tokens}
use Rattle.author_text.specs.Trees.{ExprTree, number, variable, size, empty, has, look, negation, binary}
use Rattle.author_text.specs.Writable.{Each, WritableExpr, IsNameIfAny}
use Rattle.author_text.proofs.PieceLaws.{ReadsAs, ReadsAny, any_any, any_as, as_any, as_as, weak, as_space, nothing_reads, stops}
use Rattle.author_text.proofs.PieceLaws.{number_reads, name_reads, word_reads, word_space, mark_reads, pair_reads, space_reads}
use Rattle.author_text.proofs.PieceLaws.{open_reads, close_reads, open_index_reads, close_index_reads, comma_reads}

pub hold_or_it_reads : (of : Option (List ℕ)) → IsNameIfAny of → ReadsAs (hold_or_it of) (hold_or_it_token of ∷ [])
hold_or_it_reads None h = word_reads (codes "it") refl refl
hold_or_it_reads (Some name) h = name_reads name h

-- an operator, and the blank behind it
operator_reads : (o : BinaryOp) → ReadsAny (operator_text o ++ codes " ") (operator_token o ∷ [])
operator_reads op.Or = word_space (codes "or") refl refl
operator_reads op.And = word_space (codes "and") refl refl
operator_reads op.Less = mark_reads 60 (λ rest. refl)
operator_reads op.LessOrEqual = pair_reads 60 61 (λ rest. refl)
operator_reads op.Greater = mark_reads 62 (λ rest. refl)
operator_reads op.GreaterOrEqual = pair_reads 62 61 (λ rest. refl)
operator_reads op.Equal = pair_reads 61 61 (λ rest. refl)
operator_reads op.NotEqual = pair_reads 33 61 (λ rest. refl)
operator_reads op.Add = mark_reads 43 (λ rest. refl)
operator_reads op.Sub = mark_reads 45 (λ rest. refl)
operator_reads op.Times = mark_reads 42 (λ rest. refl)
operator_reads op.Over = mark_reads 47 (λ rest. refl)
operator_reads op.Modulo = mark_reads 37 (λ rest. refl)
operator_reads op.ShiftLeft = pair_reads 60 60 (λ rest. refl)
operator_reads op.ShiftRight = pair_reads 62 62 (λ rest. refl)

-- an operator behind its left operand and a blank
with_operator : {a : List ℕ} {x : List TokenTree} (o : BinaryOp) → ReadsAny a x → ReadsAny (a ++ operator_text o ++ codes " ") (x ++ operator_token o ∷ [])
with_operator {a} {x} o p = subst (λ t. ReadsAny t (x ++ operator_token o ∷ [])) (sym (append_assoc a (operator_text o) (codes " "))) (any_any p (operator_reads o))

bracketed_reads : {a : List ℕ} {x : List TokenTree} (b : Bool) → ReadsAs a x → ReadsAs (bracketed b a) (bracketed_tokens b x)
bracketed_reads false p = p
bracketed_reads true p = weak (as_any (any_as open_reads p) close_reads refl)

comma_space : ReadsAny (codes ", ") (mark_token (codes ",") ∷ [])
comma_space = any_any comma_reads space_reads

pub expr_reads : (e : ExprTree) → WritableExpr e → ReadsAs (expr_text e) (expr_tokens e)
expr_reads (number n) h = number_reads n h
expr_reads (variable name) h = name_reads name h
expr_reads (size of) h = weak (as_any (any_as (as_any (word_reads (codes "size") refl refl) open_reads refl) (hold_or_it_reads of h)) close_reads refl)
expr_reads (empty name) h = weak (as_any (any_as (as_any (word_reads (codes "empty") refl refl) open_reads refl) (name_reads name h)) close_reads refl)
expr_reads (has name e) h =
    weak (as_any (any_as (as_any (any_as (as_any (word_reads (codes "has") refl refl) open_reads refl) (name_reads name h.0)) comma_space refl) (expr_reads e h.1)) close_reads refl)
expr_reads (look name e) h = weak (as_any (any_as (as_any (name_reads name h.0) open_index_reads refl) (expr_reads e h.1)) close_index_reads refl)
expr_reads (negation e) h = any_as (word_space (codes "not") refl refl) (bracketed_reads (is_loose e level.Compare) (expr_reads e h))
expr_reads (binary o left right) h =
    let l = bracketed_tokens (is_loose left (left_level (operator_level o))) (expr_tokens left) in
    let r = bracketed_tokens (is_loose right (closer (operator_level o))) (expr_tokens right) in
    let whole = any_as (with_operator o (as_space (bracketed_reads (is_loose left (left_level (operator_level o))) (expr_reads left h.0)))) (bracketed_reads (is_loose right (closer (operator_level o))) (expr_reads right h.1)) in
    subst (λ ts. ReadsAs (expr_text (binary o left right)) ts) (append_assoc l (operator_token o ∷ []) r) whole

more_stop : {A : Type 0} (shown : A → List ℕ) (xs : List A) → stops (flat_map (λ y. codes ", " ++ shown y) xs) ≡ true
more_stop shown [] = refl
more_stop shown (y ∷ ys) = refl

-- items behind the first, with commas before them
more_reads : {A : Type 0} (shown : A → List ℕ) (tokens : A → List TokenTree) (P : A → Type 0) → ((x : A) → P x → ReadsAs (shown x) (tokens x)) → (xs : List A) → Each P xs
    → ReadsAs (flat_map (λ y. codes ", " ++ shown y) xs) (flat_map (λ y. (mark_token (codes ",") ∷ []) ++ tokens y) xs)
more_reads shown tokens P p [] h = weak nothing_reads
more_reads shown tokens P p (x ∷ xs) h = as_as (any_as comma_space (p x h.0)) (more_reads shown tokens P p xs h.1) (more_stop shown xs)

pub listed_reads : {A : Type 0} (shown : A → List ℕ) (tokens : A → List TokenTree) (P : A → Type 0) → ((x : A) → P x → ReadsAs (shown x) (tokens x)) → (xs : List A) → Each P xs
    → ReadsAny (listed shown xs) (listed_tokens tokens xs)
listed_reads shown tokens P p [] h = any_any (any_any open_reads nothing_reads) close_reads
listed_reads shown tokens P p (x ∷ xs) h = as_any (any_as open_reads (as_as (p x h.0) (more_reads shown tokens P p xs h.1) (more_stop shown xs))) close_reads refl
