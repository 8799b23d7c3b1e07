use Rattle.std.specs.Prelude.{length}
use Rattle.acceptance.proofs.shown.shown.Given as goal

abbrev pub decreases-loop-rest : goal.decreases-loop-rest
decreases-loop-rest l = length l.rest
