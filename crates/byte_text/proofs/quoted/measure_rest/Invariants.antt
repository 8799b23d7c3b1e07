use Rattle.std.proofs.Common.{◌≡◌, ◌+◌, ◌≤◌, [], drop}
use Rattle.byte_text.specs.declared.quoted.Scan.TheVariants as scan
use Rattle.byte_text.specs.Quoted.{measured_from, measure_of, text_from, IsBelow16}
use Rattle.byte_text.proofs.quoted.measure_rest.Given as goal

abbrev pub invariant-loop-i : goal.invariant-loop-i
invariant-loop-i l =
    (l.len ≤ l.i) × IsBelow16 l.scan
    × (measured_from l.scan l.len (l.i + 1) (drop l.i l.rest) ≡ measure_of (text_from scan.Plain [] 1 l.rest))
