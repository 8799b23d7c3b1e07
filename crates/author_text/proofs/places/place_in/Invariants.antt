use Rattle.std.proofs.Common.{◌≡◌, ◌+◌, ◌≤◌, take}
use Rattle.author_text.specs.Places.{line_behind, column_behind}
use Rattle.author_text.proofs.places.place_in.Given as goal

abbrev pub invariant-loop-byte : goal.invariant-loop-byte
invariant-loop-byte l = (l.line ≡ line_behind (take l.byte-index l.text)) × (l.column ≡ column_behind (take l.byte-index l.text)) × (l.column ≤ l.byte-index + 1)
