-- The lines with which texts in a script begin and end.
use Rattle.std.specs.Prelude.{Bool, ◌&&◌, ◌||◌, nat_eq, codes}
use Rattle.std.specs.Cmp.Lexicographic.{pointwise}
use Rattle.byte_text.specs.Bytes.{token, unindented}
use Rattle.byte_text.specs.TextLines.{RawLine}

-- the line `end`, which ends a text
abbrev pub is_end : RawLine → Bool
is_end l = l.ended && pointwise nat_eq (unindented l.text) (codes "end")

-- the first line of a certificate text, slim or not
abbrev pub begins_cert : RawLine → Bool
begins_cert l = pointwise nat_eq (token l.text) (codes "cert") || pointwise nat_eq (token l.text) (codes "slim")
