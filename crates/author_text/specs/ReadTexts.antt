-- How tokens are read as names behind words, texts, and lists of what is read.
use Rattle.std.specs.Prelude.{ℕ, zero, suc, ◌+◌, Bool, true, false, List, [], ◌∷◌, ◌++◌, Option, Some, None, length, codes, if◌then◌else◌}
use Rattle.author_text.specs.Tokens.{TokenTree, quoted_token, name_token}
use Rattle.author_text.specs.Trees.{TextTree, quoted, param}
use Rattle.author_text.specs.Escapes.{spelled_bytes}
use Rattle.author_text.specs.UnreadTokens.{UnreadTokens, next_token, passed, refused, is_at, needed, read_name, read_new_name, some_name}

-- items, one behind the other, up to where they stop, and so many at most
abbrev pub read_items : {A : Type 0} → (UnreadTokens → Bool) → (UnreadTokens → A × UnreadTokens) → ℕ → UnreadTokens → List A × UnreadTokens
read_items stops item zero u = ([], u)
read_items stops item (suc k) u = if stops u then ([], u) else (let x = item u in let y = read_items stops item k x.1 in (x.0 ∷ y.0, y.1))

-- items with commas between them, up to a closing bracket
abbrev pub read_listed : {A : Type 0} → (UnreadTokens → A × UnreadTokens) → ℕ → UnreadTokens → List A × UnreadTokens
read_listed item zero u = ([], u)
read_listed item (suc k) u =
    if is_at (next_token u) (codes ")") then ([], u)
    else (
    let x = item u in
    if is_at (next_token x.1) (codes ",") then (let y = read_listed item k (passed x.1) in (x.0 ∷ y.0, y.1)) else (x.0 ∷ [], x.1))

-- the same behind an opening bracket, with the closing one
unfoldable pub read_list : {A : Type 0} → (UnreadTokens → A × UnreadTokens) → UnreadTokens → List A × UnreadTokens
read_list item u = let x = read_listed item (length u.tokens + 1) u in (x.0, needed (codes ")") x.1)

-- a name, and `=`
unfoldable pub read_name_is : UnreadTokens → List ℕ × UnreadTokens
read_name_is u = let n = read_new_name u in (n.0, needed (codes "=") n.1)

-- a name behind a word, where the word is next
unfoldable pub read_name_behind : List ℕ → UnreadTokens → Option (List ℕ) × UnreadTokens
read_name_behind word u = if is_at (next_token u) word then some_name (read_name (passed u)) else (None, u)

abbrev pub more_quoted : TokenTree → (UnreadTokens → List ℕ × UnreadTokens) → UnreadTokens → List ℕ × UnreadTokens
more_quoted (quoted_token text) more u = let x = more (passed u) in (spelled_bytes 0 text ++ x.0, x.1)
more_quoted _ more u = ([], u)

-- texts in quotes, one behind the other, which are one
abbrev pub read_texts : ℕ → UnreadTokens → List ℕ × UnreadTokens
read_texts zero u = ([], u)
read_texts (suc k) u = more_quoted (next_token u) (read_texts k) u

unfoldable pub read_quoted : UnreadTokens → List ℕ × UnreadTokens
read_quoted u = read_texts (length u.tokens + 1) u

abbrev pub text_at : TokenTree → UnreadTokens → TextTree × UnreadTokens
text_at (quoted_token text) u = let x = read_quoted u in (quoted x.0, x.1)
text_at (name_token name) u = (param name, passed u)
text_at _ u = (param [], refused u)

-- a text: one in quotes, or the name of one
unfoldable pub read_text : UnreadTokens → TextTree × UnreadTokens
read_text u = text_at (next_token u) u
