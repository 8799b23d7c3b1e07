-- The pieces so far and those that are left are brought as all are.
use Rattle.std.specs.Vec.Iter.{into_iter_items}
use Rattle.script_play.proofs.BringLaws.{IsBringing}
use Rattle.script_play.proofs.commands.bring.Given as goal

abbrev pub invariant-loop-piece : goal.invariant-loop-piece
invariant-loop-piece g l = IsBringing l.fn.host l.host l.number l.fn.pieces l.ready (into_iter_items l.piece-iterator)
