use Rattle.std.proofs.Common.{◌≡◌, drop}
use Rattle.byte_text.specs.Bytes.{unindented}
use Rattle.byte_text.proofs.bytes.unindented.Given as goal

abbrev pub invariant-loop-i : goal.invariant-loop-i
invariant-loop-i l = unindented (drop l.i l.line) ≡ unindented l.line
