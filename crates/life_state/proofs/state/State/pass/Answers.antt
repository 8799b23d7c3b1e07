-- What may have been sent, the brigade, then the cursors.
use Rattle.std.proofs.Common.{Bool, true, false, ◌||◌, ap, ◌∙◌}
use Rattle.life_state.specs.States.{BrigadeKnown, State, passed_on, set_brigade}
use Rattle.life_state.specs.Facts.{moved}
use Rattle.life_state.specs.declared.motions.Motion.TheVariants as motion
use Rattle.life_state.specs.Rules.{may_end}
use Rattle.life_state.specs.Seen.{seen, motion_of}
use Rattle.life_state.proofs.state.State.pass.Goals as goal

pub returns : goal.returns
unfolding seen
returns c =
    let s = seen c.args.self in
    let sent : Bool → State = λ e. record s { sent = s.sent || e } in
    c.move_cursors.ensures
    ∙ ap (λ (t : State). moved (motion_of (motion.Left c.args.b) t) t)
    (c.set_brigade.ensures
    ∙ (ap (λ (v : BrigadeKnown). set_brigade c.args.b (record v { usable = false; passed = true }) (sent c.may_end.result)) c.empty.ensures
    ∙ ap (λ (e : Bool). set_brigade c.args.b passed_on (sent e)) (c.may_end.ensures ∙ ap may_end c.content.ensures)))
