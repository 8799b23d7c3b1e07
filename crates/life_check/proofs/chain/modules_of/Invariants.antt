-- The modules so far, and those of the pairs that are left, are all.
use Rattle.std.proofs.Common.{◌≡◌, ◌++◌}
use Rattle.std.specs.Vec.Iter.{into_iter_items}
use Rattle.life_check.specs.Accepted.{modules_of}
use Rattle.life_check.proofs.chain.modules_of.Given as goal

abbrev pub invariant-loop-module : goal.invariant-loop-module
invariant-loop-module l = l.modules.items ++ modules_of (into_iter_items l.module-iterator) ≡ modules_of l.fn.parts.items
