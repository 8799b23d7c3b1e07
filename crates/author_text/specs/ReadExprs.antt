-- How tokens are read as an expression: the tree, and what is left. Where there is a mistake, no token is left.
use Rattle.std.specs.Prelude.{◌≡◌, ◌≤◌, ℕ, zero, suc, ◌+◌, Bool, true, false, ◌&&◌, ◌==◌, nat_le, List, [], ◌∷◌, Option, Some, None, is_some, length, bytes_eq, codes, if◌then◌else◌}
use Rattle.author_text.specs.declared.operators.Level.{Level}
use Rattle.author_text.specs.declared.operators.Level.TheVariants as level
use Rattle.author_text.specs.declared.source.BinaryOp.{BinaryOp}
use Rattle.author_text.specs.declared.source.BinaryOp.TheVariants as op
use Rattle.author_text.specs.Printed.{operator_text, operator_level, closer, rank}
use Rattle.author_text.specs.Tokens.{TokenTree, quoted_token, name_token, number_token, word_token, mark_token, end_token}
use Rattle.author_text.specs.Trees.{ExprTree, number, variable, size, empty, has, look, negation, binary}
use Rattle.author_text.specs.UnreadTokens.{UnreadTokens, first_token, next_token, passed, refused, is_at, needed, read_name, read_hold_or_it}

abbrev pub ReadExpr : Type 0
ReadExpr = ExprTree × UnreadTokens

abbrev pub is_level : Level → Level → Bool
is_level a b = rank a == rank b

abbrev pub operator_among : Level → TokenTree → List BinaryOp → Option BinaryOp
operator_among l t [] = None
operator_among l t (o ∷ os) = if is_level (operator_level o) l && is_at t (operator_text o) then Some o else operator_among l t os

abbrev pub all_operators : List BinaryOp
all_operators =
    op.Or ∷ op.And ∷ op.Less ∷ op.LessOrEqual ∷ op.Greater ∷ op.GreaterOrEqual ∷ op.Equal ∷ op.NotEqual ∷ op.Add ∷ op.Sub
    ∷ op.Times ∷ op.Over ∷ op.Modulo ∷ op.ShiftLeft ∷ op.ShiftRight ∷ []

-- the operator of a level that a token is
unfoldable pub operator_in : Level → TokenTree → Option BinaryOp
operator_in l t = operator_among l t all_operators

-- an operator is counted, of 250 at most
abbrev pub counted : UnreadTokens → UnreadTokens
counted u = if nat_le 250 u.operators then refused u else record { tokens = u.tokens; operators = u.operators + 1 }

-- no second comparison follows
abbrev pub unchained : Level → UnreadTokens → UnreadTokens
unchained l u = if is_level l level.Compare && is_some (operator_in l (next_token u)) then refused u else u

-- operators of a level with their right operands, so many at most
abbrev pub read_more : (UnreadTokens → ReadExpr) → Level → ℕ → ExprTree → UnreadTokens → ReadExpr
read_more operand l zero e u = (e, u)
read_more operand l (suc k) e u = elim (operator_in l (next_token u)) [
  | None ↦ (e, u)
  | Some o ↦ (let y = operand (passed (counted u)) in read_more operand l k (binary o e y.0) (unchained l y.1))
]

abbrev pub no_expr : UnreadTokens → ReadExpr
no_expr u = (number 0, refused u)

-- what begins with a bracket
abbrev pub read_marked : (UnreadTokens → ReadExpr) → UnreadTokens → ReadExpr
read_marked inner u =
    if is_at (next_token u) (codes "-") then no_expr u else if is_at (next_token u) (codes "(") then inner (passed u) else no_expr u

abbrev pub read_by : TokenTree → (named asked inner : UnreadTokens → ReadExpr) → UnreadTokens → ReadExpr
read_by (number_token n) named asked inner u = (number n, passed u)
read_by (name_token name) named asked inner u = named u
read_by (word_token w) named asked inner u = asked u
read_by (mark_token m) named asked inner u = read_marked inner u
read_by _ named asked inner u = no_expr u

-- the name of a hold behind a bracket
unfoldable pub read_hold_behind : UnreadTokens → List ℕ × UnreadTokens
read_hold_behind u = read_name (needed (codes "(") u)

abbrev pub read_size : UnreadTokens → ReadExpr
read_size u = let x = read_hold_or_it (needed (codes "(") u) in (size x.0, needed (codes ")") x.1)

abbrev pub read_empty : UnreadTokens → ReadExpr
read_empty u = let x = read_hold_behind u in (empty x.0, needed (codes ")") x.1)

abbrev pub read_has : (UnreadTokens → ReadExpr) → UnreadTokens → ReadExpr
read_has inner u = let x = read_hold_behind u in let y = inner (needed (codes ",") x.1) in (has x.0 y.0, y.1)

abbrev pub negated : ReadExpr → ReadExpr
negated x = (negation x.0, x.1)

-- the first number says how many calls may be in one another
unfoldable mutual
  pub read_chain : ℕ → Level → UnreadTokens → ReadExpr
  read_chain zero l u = no_expr u
  read_chain (suc d) l u = let x = read_operand d l u in read_more (read_operand d l) l (length x.1.tokens + 1) x.0 x.1

  pub read_operand : ℕ → Level → UnreadTokens → ReadExpr
  read_operand zero l u = no_expr u
  read_operand (suc d) l u =
      if is_level l level.Product then read_unit d u
      else if is_level l level.Compare && is_at (next_token u) (codes "not") then negated (read_chain d l (passed u))
      else read_chain d (closer l) u

  pub read_unit : ℕ → UnreadTokens → ReadExpr
  read_unit zero u = no_expr u
  read_unit (suc d) u = read_by (next_token u) (read_named d) (read_asked d) (read_inner d (codes ")")) u

  pub read_inner : ℕ → List ℕ → UnreadTokens → ReadExpr
  read_inner zero close u = no_expr u
  read_inner (suc d) close u = let x = read_chain d level.Or u in (x.0, needed close x.1)

  pub read_named : ℕ → UnreadTokens → ReadExpr
  read_named zero u = no_expr u
  read_named (suc d) u =
      let n = read_name u in
      if is_at (next_token n.1) (codes "[") then (let x = read_inner d (codes "]") (passed n.1) in (look n.0 x.0, x.1)) else (variable n.0, n.1)

  pub read_asked : ℕ → UnreadTokens → ReadExpr
  read_asked zero u = no_expr u
  read_asked (suc d) u =
      if is_at (next_token u) (codes "size") then read_size (passed u)
      else if is_at (next_token u) (codes "empty") then read_empty (passed u)
      else if is_at (next_token u) (codes "has") then read_has (read_inner d (codes ")")) (passed u)
      else no_expr u

-- a number or a condition
unfoldable pub read_expr : UnreadTokens → ReadExpr
read_expr u = let x = read_chain 1000 level.Or u in (x.0, record { tokens = x.1.tokens; operators = 0 })

-- with these tokens nothing goes on that binds so closely as this level: no operator, and no bracket of a table
abbrev pub StopsExpr : Level → List TokenTree → Type 0
StopsExpr l us = ((m : Level) → rank l ≤ rank m → operator_in m (first_token us) ≡ None) × (is_at (first_token us) (codes "[") ≡ false)
