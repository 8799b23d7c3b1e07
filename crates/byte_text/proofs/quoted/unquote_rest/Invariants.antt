use Rattle.std.proofs.Common.{◌≡◌, ◌+◌, [], drop}
use Rattle.byte_text.specs.declared.quoted.Scan.TheVariants as scan
use Rattle.byte_text.specs.Quoted.{text_from, IsBelow16}
use Rattle.byte_text.proofs.quoted.unquote_rest.Given as goal

abbrev pub invariant-loop-i : goal.invariant-loop-i
invariant-loop-i l =
    IsBelow16 l.scan
    × (text_from l.scan l.text (l.i + 1) (drop l.i l.rest) ≡ text_from scan.Plain [] 1 l.rest)
