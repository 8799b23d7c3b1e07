-- The text that a tree is printed as.
use Rattle.std.specs.Prelude.{ℕ, Bool, true, false, nat_lt, List, ◌++◌, Option, Some, None, codes, decimal}
use Rattle.author_text.specs.declared.operators.Level.{Level}
use Rattle.author_text.specs.declared.operators.Level.TheVariants as level
use Rattle.author_text.specs.declared.source.BinaryOp.{BinaryOp}
use Rattle.author_text.specs.declared.source.BinaryOp.TheVariants as op
use Rattle.author_text.specs.Trees.{ExprTree, number, variable, size, empty, has, look, negation, binary}

-- how an operator is written
abbrev pub operator_text : BinaryOp → List ℕ
operator_text op.Or = codes "or"
operator_text op.And = codes "and"
operator_text op.Less = codes "<"
operator_text op.LessOrEqual = codes "<="
operator_text op.Greater = codes ">"
operator_text op.GreaterOrEqual = codes ">="
operator_text op.Equal = codes "=="
operator_text op.NotEqual = codes "!="
operator_text op.Add = codes "+"
operator_text op.Sub = codes "-"
operator_text op.Times = codes "*"
operator_text op.Over = codes "/"
operator_text op.Modulo = codes "%"
operator_text op.ShiftLeft = codes "<<"
operator_text op.ShiftRight = codes ">>"

-- how closely an operator binds
abbrev pub operator_level : BinaryOp → Level
operator_level op.Or = level.Or
operator_level op.And = level.And
operator_level op.Less = level.Compare
operator_level op.LessOrEqual = level.Compare
operator_level op.Greater = level.Compare
operator_level op.GreaterOrEqual = level.Compare
operator_level op.Equal = level.Compare
operator_level op.NotEqual = level.Compare
operator_level op.Add = level.Sum
operator_level op.Sub = level.Sum
operator_level op.Times = level.Product
operator_level op.Over = level.Product
operator_level op.Modulo = level.Product
operator_level op.ShiftLeft = level.Product
operator_level op.ShiftRight = level.Product

-- the level that binds more closely
abbrev pub closer : Level → Level
closer level.Or = level.And
closer level.And = level.Compare
closer level.Compare = level.Sum
closer level.Sum = level.Product
closer level.Product = level.Unit
closer level.Unit = level.Unit

-- the levels in order, from the loosest
abbrev pub rank : Level → ℕ
rank level.Or = 0
rank level.And = 1
rank level.Compare = 2
rank level.Sum = 3
rank level.Product = 4
rank level.Unit = 5

-- how closely an expression binds
abbrev pub level_of : ExprTree → Level
level_of (negation of) = level.Compare
level_of (binary op left right) = operator_level op
level_of _ = level.Unit

-- how closely the left operand of an operator of this level binds at least: comparisons are not chained
abbrev pub left_level : Level → Level
left_level level.Compare = level.Sum
left_level l = l

-- a name, or `it` where there is none
abbrev pub hold_or_it : Option (List ℕ) → List ℕ
hold_or_it None = codes "it"
hold_or_it (Some name) = name

-- in brackets, where an expression does not bind closely enough
abbrev pub bracketed : Bool → List ℕ → List ℕ
bracketed false text = text
bracketed true text = codes "(" ++ text ++ codes ")"

-- whether an expression needs brackets where one stands that binds so closely at least
abbrev pub is_loose : ExprTree → Level → Bool
is_loose e l = nat_lt (rank (level_of e)) (rank l)

abbrev pub expr_text : ExprTree → List ℕ
expr_text (number n) = decimal n
expr_text (variable name) = name
expr_text (size of) = codes "size(" ++ hold_or_it of ++ codes ")"
expr_text (empty name) = codes "empty(" ++ name ++ codes ")"
expr_text (has name e) = codes "has(" ++ name ++ codes ", " ++ expr_text e ++ codes ")"
expr_text (look name e) = name ++ codes "[" ++ expr_text e ++ codes "]"
expr_text (negation e) = codes "not " ++ bracketed (is_loose e level.Compare) (expr_text e)
expr_text (binary op left right) =
    bracketed (is_loose left (left_level (operator_level op))) (expr_text left) ++ codes " " ++ operator_text op ++ codes " "
    ++ bracketed (is_loose right (closer (operator_level op))) (expr_text right)

-- an expression where one stands that binds so closely at least
abbrev pub within_text : ExprTree → Level → List ℕ
within_text e l = bracketed (is_loose e l) (expr_text e)
