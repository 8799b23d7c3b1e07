-- How much a tree may have for its text to be read: 250 operators in an expression, and so many calls of the reader in one another.
use Rattle.std.specs.Prelude.{ℕ, ◌+◌, ◌≤◌, max, Bool, true, false}
use Rattle.author_text.specs.declared.operators.Level.{Level}
use Rattle.author_text.specs.declared.operators.Level.TheVariants as level
use Rattle.author_text.specs.Printed.{operator_level, closer, left_level, is_loose}
use Rattle.author_text.specs.Trees.{ExprTree, number, variable, size, empty, has, look, negation, binary}

-- how many operators an expression has
abbrev pub operator_count : ExprTree → ℕ
operator_count (has name e) = operator_count e
operator_count (look name e) = operator_count e
operator_count (negation e) = operator_count e
operator_count (binary op left right) = operator_count left + operator_count right + 1
operator_count _ = 0

-- brackets take twelve calls
abbrev pub bracketed_calls : Bool → ℕ → ℕ
bracketed_calls false n = n
bracketed_calls true n = n + 12

-- how many calls of the reader are in one another where an expression is read
abbrev pub expr_calls : ExprTree → ℕ
expr_calls (number n) = 11
expr_calls (has name e) = expr_calls e + 13
expr_calls (look name e) = expr_calls e + 13
expr_calls (negation e) = bracketed_calls (is_loose e level.Compare) (expr_calls e) + 2
expr_calls (binary op left right) =
    max (bracketed_calls (is_loose left (left_level (operator_level op))) (expr_calls left)) (bracketed_calls (is_loose right (closer (operator_level op))) (expr_calls right))
expr_calls _ = 12

abbrev pub FitsExpr : ExprTree → Type 0
FitsExpr e = (operator_count e ≤ 250) × (expr_calls e ≤ 1000)
