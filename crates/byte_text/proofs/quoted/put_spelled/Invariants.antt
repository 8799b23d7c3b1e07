use Rattle.std.proofs.Common.{drop}
use Rattle.byte_text.specs.Quoted.{spelled_all}
use Rattle.byte_text.specs.Writes.{writer_state}
use Rattle.byte_text.proofs.WritingLaws.{Leaves}
use Rattle.byte_text.proofs.quoted.put_spelled.Given as goal

-- the spelling of these bytes is left
abbrev pub invariant-loop-byte : goal.invariant-loop-byte
invariant-loop-byte g l =
    Leaves (writer_state g.W.Write.contents l.fn.out) (writer_state g.W.Write.contents l.out) (spelled_all l.text) (spelled_all (drop l.byte-index l.text))
