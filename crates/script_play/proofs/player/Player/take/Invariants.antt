use Rattle.std.proofs.Common.{length}
use Rattle.script_play.specs.Sessions.{IsAt}
use Rattle.script_play.specs.Written.{Stage}
use Rattle.script_play.proofs.TakingLaws.{Taking}
use Rattle.script_play.proofs.player.Player.take.Given as goal

-- the lines before the rest were taken
abbrev pub invariant-loop-self : goal.invariant-loop-self
invariant-loop-self g l = (s : Stage) → IsAt l.fn.self s → Taking l.fn.self l.self l.fn.out.items l.out.items l.lines l.rest s

abbrev pub decreases-loop-self : goal.decreases-loop-self
decreases-loop-self g l = length l.rest
