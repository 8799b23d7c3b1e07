use Rattle.std.proofs.Common.{refl}
use Rattle.script_play.proofs.PlayerLaws.{served, unserved, passed}
use Rattle.script_play.proofs.player.Player.take_command.Goals as goal

pub returns-in_default : goal.returns-in_default
returns-in_default g c = record { ok = λ s at begun. passed c.args.self.now _ _ _ s c.in_default.not-Session at begun; err = tt; lines = refl }

pub returns-then-not-branch-clause-ok : goal.returns-then-not-branch-clause-ok
returns-then-not-branch-clause-ok g c = λ s at begun.
    rw c.stop.ensures (unserved _ c.args.self.now.stage c.in-Session.session _ _ _ _ _ c.in_ok-take.field-0 s (cc) (cc) refl c.in_ok-take.ensures.ok at.stage begun)

pub returns-else-not-branch-clause-ok : goal.returns-else-not-branch-clause-ok
returns-else-not-branch-clause-ok g c = λ s at begun.
    served _ c.args.self.now.stage c.in-Session.session _ _ _ _ _ c.in_ok-take.field-0 s (cc) (cc) refl c.in_ok-take.ensures.ok at.stage begun
