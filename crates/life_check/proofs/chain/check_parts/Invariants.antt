-- The modules before the index are checked.
use Rattle.std.proofs.Common.{take, All}
use Rattle.life_check.specs.Accepted.{IsChecked}
use Rattle.life_check.proofs.chain.check_parts.Given as goal

abbrev pub invariant-loop-index : goal.invariant-loop-index
invariant-loop-index l = All IsChecked (take l.index l.parts)
