use Rattle.std.proofs.Common.{refl}
use Rattle.script_play.proofs.PlayerLaws.{begun_watched, begun_checked}
use Rattle.script_play.proofs.player.Player.begin.Goals as goal

pub returns-then-not-is_checked-clause-ok : goal.returns-then-not-is_checked-clause-ok
returns-then-not-is_checked-clause-ok g c = λ h ready.
    rw c.turn_to.ensures (begun_watched _ c.args.out.now.items c.args.self.now.stage c.in-Texts.texts h c.in_ok-session.session c.args.is_checked (cc) ready c.if-not-is_checked.true
    (rw c.replace-parts.ensures.value at c.in_ok-session.ensures) refl)

pub returns-in-Ok-clause-ok : goal.returns-in-Ok-clause-ok
returns-in-Ok-clause-ok g c = λ h ready.
    rw c.turn_to-in-Ok.ensures (begun_checked c.in_ok-session-2.field-0 _ c.args.out.now.items c.args.self.now.stage c.in-Texts.texts h c.in-Ok.session c.args.is_checked
    (cc) ready c.if-not-is_checked.false c.in-Ok.is
    (rw c.replace-parts.ensures.value at c.in_ok-session-2.ensures.accepted) refl)
