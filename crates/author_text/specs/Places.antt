-- Where something stands in a text.
use Rattle.std.specs.Prelude.{◌≡◌, ℕ, ◌+◌, ◌≤◌, ◌==◌, not, List, length, take, count_by}
use Rattle.std.specs.List.{suffix_len}
use Rattle.author_text.specs.declared.refusal.Refusal.{Refusal}
use Rattle.author_text.specs.declared.refusal.Refusal.TheVariants.{Mistake, NoMemory}

-- the line of what stands behind these bytes, counted from 1: one more than there are line ends
abbrev pub line_behind : List ℕ → ℕ
line_behind bytes = count_by (λ b. b == 10) bytes + 1

-- its column, counted from 1: one more than there are bytes behind the last line end
abbrev pub column_behind : List ℕ → ℕ
column_behind bytes = suffix_len (λ b. not (b == 10)) bytes + 1

-- the line and the column of a byte of the text, or of its end
abbrev pub HasPlace : List ℕ → ℕ → ℕ → Type 0
HasPlace text line column = (n : ℕ) × (n ≤ length text) × (line ≡ line_behind (take n text)) × (column ≡ column_behind (take n text))

-- what is refused of the text has its place there
abbrev pub IsRefusalOf : List ℕ → Refusal → Type 0
IsRefusalOf text (Mistake line column what) = HasPlace text line column
IsRefusalOf text NoMemory = Unit {0}
