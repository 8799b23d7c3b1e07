use Rattle.std.proofs.Common.{length}
use Rattle.script_play.specs.Sessions.{IsMemHostAlive}
use Rattle.acceptance.proofs.scripts.take_all.Given as goal

-- the host stands for a world of the model
abbrev pub invariant-loop-alloc : goal.invariant-loop-alloc
invariant-loop-alloc g l = record { alive : IsMemHostAlive l.host }

-- what is not read yet
abbrev pub decreases-loop-alloc : goal.decreases-loop-alloc
decreases-loop-alloc g l = length l.rest
