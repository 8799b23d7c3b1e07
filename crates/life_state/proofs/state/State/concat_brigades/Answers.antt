-- The one brigade, then the other, then the cursors.
use Rattle.std.proofs.Common.{ap, ◌∙◌}
use Rattle.life_state.specs.declared.parts.Contents.{Contents}
use Rattle.life_state.specs.States.{BrigadeKnown, State, holds, set_brigade}
use Rattle.life_state.specs.Facts.{moved}
use Rattle.life_state.specs.declared.motions.Motion.TheVariants as motion
use Rattle.life_state.specs.Rules.{concat_content, after_bcreate}
use Rattle.life_state.specs.Seen.{seen, seen_homes, motion_of}
use Rattle.life_state.proofs.state.State.concat_brigades.Goals as goal

pub returns : goal.returns
returns c =
    let s = seen c.args.self in
    let content = c.concat-content.ensures ∙ (ap (λ (x : Contents). concat_content x c.content-2.result) c.content.ensures
    ∙ ap (concat_content (s.brigades c.args.a).content) c.content-2.ensures) in
    let first = c.with_brigade.ensures ∙ ap (λ (v : BrigadeKnown). set_brigade c.args.a v s)
    (c.holding.ensures ∙ ap (λ (x : Contents). holds x (seen_homes c.args.homes)) content) in
    c.move_cursors.ensures
    ∙ ap (λ (t : State). moved (motion_of (motion.Carried c.args.a c.args.b) t) t) (c.bcreate.ensures ∙ ap (after_bcreate c.args.b) first)
