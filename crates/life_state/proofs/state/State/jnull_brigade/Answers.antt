-- Not null, or null alone.
use Rattle.std.proofs.Common.{◌||◌, ap, ◌∙◌}
use Rattle.life_state.specs.States.{BrigadeKnown, State, never_made, set_brigade}
use Rattle.life_state.specs.Rules.{some_if, brigade_not_null}
use Rattle.life_state.specs.Seen.{seen, seen_brigade}
use Rattle.life_state.proofs.Picks.{edges_are}
use Rattle.life_state.proofs.state.State.jnull_brigade.Goals as goal

pub returns : goal.returns
returns c =
    let s = seen c.args.self in
    let v0 = seen_brigade c.brigade-brigade.result in
    edges_are _ _ _
    (c.some_if.ensures
    ∙ (ap (λ (t : State). some_if (v0.gone || v0.live) t) c.with_brigade.ensures
    ∙ ap (λ (v : BrigadeKnown). some_if (v.gone || v.live) (set_brigade c.args.b (brigade_not_null v) s)) c.brigade-brigade.ensures))
    (c.some_if-2.ensures
    ∙ (ap (λ (t : State). some_if v0.null t) (c.with_brigade-2.ensures ∙ ap (λ (v : BrigadeKnown). set_brigade c.args.b v s) c.never_made.ensures)
    ∙ ap (λ (v : BrigadeKnown). some_if v.null (set_brigade c.args.b never_made s)) c.brigade-brigade.ensures))
