-- The line `file` of a script, which adds a file.
use Rattle.std.specs.Prelude.{ℕ, ◌^◌, nat_lt, ◌==◌, if◌then◌else◌, List, [], ◌∷◌, length, Option, Some, None}
use Rattle.module_code.specs.Names.{is_name}
use Rattle.byte_text.specs.Quoted.{Quoted, quoted}
use Rattle.script_text.specs.declared.file_line.FileLine.{FileLine}
use Rattle.byte_text.specs.Bytes.{token, after_token}
use Rattle.script_text.specs.Words.{number_at, after_number}

-- a number below 2^32
abbrev pub count_in : Option ℕ → Option ℕ
count_in None = None
count_in (Some n) = if nat_lt n (2 ^ 32) then Some n else None

-- a text in quotes to the end
abbrev pub whole_text : Option Quoted → List ℕ → Option (List ℕ)
whole_text None bytes = None
whole_text (Some q) bytes = if q.used == length bytes then Some q.text else None

-- the text that stands after a space, with nothing behind it
abbrev pub last_text : List ℕ → Option (List ℕ)
last_text [] = None
last_text (b ∷ bs) = if b == 32 then whole_text (quoted bs) bs else None

abbrev pub file_with : List ℕ → Option ℕ → Option (List ℕ) → Option FileLine
file_with name None text = None
file_with name (Some count) None = None
file_with name (Some count) (Some text) = Some (record { name = name; count = count; text = text })

-- what follows `file` and a space: a name, a number and a text
unfoldable pub file_line_of : List ℕ → Option FileLine
file_line_of bytes =
    if is_name (token bytes)
    then file_with (token bytes) (count_in (number_at (after_token bytes))) (last_text (after_number (after_token bytes)))
    else None
