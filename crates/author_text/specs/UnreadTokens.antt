-- What is left of tokens while they are read, and what the first functions of a reader do with it.
use Rattle.std.specs.Prelude.{ℕ, Bool, true, false, List, [], ◌∷◌, Option, Some, None, bytes_eq, codes, if◌then◌else◌}
use Rattle.author_text.specs.Tokens.{TokenTree, quoted_token, name_token, word_token, mark_token, end_token}

-- tokens that are left, and how many operators the expression has that is read
pub record UnreadTokens : Type 0 where
  pub tokens : List TokenTree
  pub operators : ℕ

-- these tokens, and so many operators
abbrev pub tokens_at : List TokenTree → ℕ → UnreadTokens
tokens_at ts n = record { tokens = ts; operators = n }

-- the end is left alone
abbrev pub end_alone : UnreadTokens
end_alone = tokens_at (end_token ∷ []) 0

-- the next token, or the end
abbrev pub first_token : List TokenTree → TokenTree
first_token [] = end_token
first_token (t ∷ ts) = t

abbrev pub tokens_after : List TokenTree → List TokenTree
tokens_after [] = []
tokens_after (t ∷ ts) = ts

abbrev pub next_token : UnreadTokens → TokenTree
next_token u = first_token u.tokens

-- the next token is passed
abbrev pub passed : UnreadTokens → UnreadTokens
passed u = record { tokens = tokens_after u.tokens; operators = u.operators }

-- there is a mistake: no token is left
abbrev pub refused : UnreadTokens → UnreadTokens
refused u = record { tokens = []; operators = u.operators }

-- whether a token is this word or mark
abbrev pub is_at : TokenTree → List ℕ → Bool
is_at (word_token w) text = bytes_eq w text
is_at (mark_token m) text = bytes_eq m text
is_at _ text = false

-- a comma is refused, as one writes it in long numbers
abbrev pub no_comma : UnreadTokens → UnreadTokens
no_comma u = if is_at (next_token u) (codes ",") then refused u else u

abbrev pub is_end_token : TokenTree → Bool
is_end_token end_token = true
is_end_token _ = false

abbrev pub is_quoted_token : TokenTree → Bool
is_quoted_token (quoted_token text) = true
is_quoted_token _ = false

-- a word or mark is passed, if it is next
abbrev pub eaten : List ℕ → UnreadTokens → UnreadTokens
eaten text u = if is_at (next_token u) text then passed u else u

-- it must be next
abbrev pub needed : List ℕ → UnreadTokens → UnreadTokens
needed text u = if is_at (next_token u) text then passed u else refused u

-- a name must be next
abbrev pub name_at : TokenTree → UnreadTokens → List ℕ × UnreadTokens
name_at (name_token name) u = (name, passed u)
name_at _ u = ([], refused u)

unfoldable pub read_name : UnreadTokens → List ℕ × UnreadTokens
read_name u = name_at (next_token u) u

-- no hyphen follows a name that is declared
abbrev pub unhyphened : UnreadTokens → UnreadTokens
unhyphened u = if is_at (next_token u) (codes "-") then refused u else u

-- a name that is declared
unfoldable pub read_new_name : UnreadTokens → List ℕ × UnreadTokens
read_new_name u = let n = read_name u in (n.0, unhyphened n.1)

abbrev pub some_name : List ℕ × UnreadTokens → Option (List ℕ) × UnreadTokens
some_name x = (Some x.0, x.1)

-- a name, or `it`, which is none
unfoldable pub read_hold_or_it : UnreadTokens → Option (List ℕ) × UnreadTokens
read_hold_or_it u = if is_at (next_token u) (codes "it") then (None, passed u) else some_name (read_name u)
