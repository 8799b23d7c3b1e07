-- Tokens, apart from where they stand, and which tokens an expression has.
use Rattle.std.specs.Prelude.{◌≡◌, ℕ, Bool, true, false, List, [], ◌∷◌, ◌++◌, Option, Some, None, codes}
use Rattle.author_text.specs.declared.token.Kind.{Kind}
use Rattle.author_text.specs.declared.token.Kind.TheVariants as kind
use Rattle.author_text.specs.declared.token.Token.{Token}
use Rattle.author_text.specs.declared.operators.Level.{Level}
use Rattle.author_text.specs.declared.operators.Level.TheVariants as level
use Rattle.author_text.specs.declared.source.BinaryOp.{BinaryOp}
use Rattle.author_text.specs.declared.source.BinaryOp.TheVariants as op
use Rattle.author_text.specs.Printed.{operator_text, operator_level, closer, left_level, is_loose}
use Rattle.author_text.specs.Trees.{ExprTree, number, variable, size, empty, has, look, negation, binary}

-- a number, also a byte in quotes; a text, by what stands between its quotes; a name; a word of the language; an operator, a bracket or a comma; the end
pub data TokenTree : Type 0 where
  number_token : ℕ → TokenTree
  quoted_token : List ℕ → TokenTree
  name_token : List ℕ → TokenTree
  word_token : List ℕ → TokenTree
  mark_token : List ℕ → TokenTree
  end_token : TokenTree

abbrev pub kind_token : Kind → List ℕ → TokenTree
kind_token (kind.Number n) text = number_token n
kind_token kind.Text text = quoted_token text
kind_token kind.Name text = name_token text
kind_token kind.Word text = word_token text
kind_token kind.Mark text = mark_token text
kind_token kind.End text = end_token

-- a token, apart from its place
abbrev pub token_of : Token → TokenTree
token_of t = kind_token t.kind t.text.now

-- `or` and `and` are words, the other operators are marks
abbrev pub operator_token : BinaryOp → TokenTree
operator_token op.Or = word_token (operator_text op.Or)
operator_token op.And = word_token (operator_text op.And)
operator_token o = mark_token (operator_text o)

abbrev pub hold_or_it_token : Option (List ℕ) → TokenTree
hold_or_it_token None = word_token (codes "it")
hold_or_it_token (Some name) = name_token name

abbrev pub bracketed_tokens : Bool → List TokenTree → List TokenTree
bracketed_tokens false ts = ts
bracketed_tokens true ts = mark_token (codes "(") ∷ ts ++ mark_token (codes ")") ∷ []

-- the tokens of an expression
abbrev pub expr_tokens : ExprTree → List TokenTree
expr_tokens (number n) = number_token n ∷ []
expr_tokens (variable name) = name_token name ∷ []
expr_tokens (size of) = word_token (codes "size") ∷ mark_token (codes "(") ∷ hold_or_it_token of ∷ mark_token (codes ")") ∷ []
expr_tokens (empty name) = word_token (codes "empty") ∷ mark_token (codes "(") ∷ name_token name ∷ mark_token (codes ")") ∷ []
expr_tokens (has name e) =
    word_token (codes "has") ∷ mark_token (codes "(") ∷ name_token name ∷ mark_token (codes ",") ∷ expr_tokens e ++ mark_token (codes ")") ∷ []
expr_tokens (look name e) = name_token name ∷ mark_token (codes "[") ∷ expr_tokens e ++ mark_token (codes "]") ∷ []
expr_tokens (negation e) = word_token (codes "not") ∷ bracketed_tokens (is_loose e level.Compare) (expr_tokens e)
expr_tokens (binary o left right) =
    bracketed_tokens (is_loose left (left_level (operator_level o))) (expr_tokens left) ++ operator_token o ∷ bracketed_tokens (is_loose right (closer (operator_level o))) (expr_tokens right)

-- the same where an expression stands that binds so closely at least
abbrev pub within_tokens : ExprTree → Level → List TokenTree
within_tokens e l = bracketed_tokens (is_loose e l) (expr_tokens e)
