-- By the contents, and empty.
use Rattle.std.proofs.Common.{Bool, not, ap, ◌∙◌}
use Rattle.std.specs.Prelude.{Some}
use Rattle.life_state.specs.declared.parts.Contents.{Contents}
use Rattle.life_state.specs.States.{State}
use Rattle.life_state.specs.Rules.{is_empty, some_if}
use Rattle.life_state.specs.Seen.{seen}
use Rattle.life_state.specs.declared.successors.Successors.{Successors}
use Rattle.life_state.proofs.Picks.{edges_are}
use Rattle.life_state.proofs.state.State.jempty.Goals as goal

pub returns : goal.returns
returns c =
    let s = seen c.args.self in
    let e : Successors = record { next = c.some_if.result; jump = Some c.bcreate.result } in
    edges_are e _ _ (c.some_if.ensures ∙ (ap (λ (e : Bool). some_if (not e) s) c.is_empty.ensures ∙ ap (λ (x : Contents). some_if (not (is_empty x)) s) c.content.ensures))
    (ap (λ (t : State). Some t) c.bcreate.ensures)
