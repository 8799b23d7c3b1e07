-- Told, if there is a class.
use Rattle.std.proofs.Common.{Bool, ap, ◌∙◌}
use Rattle.life_state.specs.States.{State, CursorKnown}
use Rattle.life_state.specs.Rules.{some_if, some_class, told, with_classes}
use Rattle.life_state.specs.Seen.{seen}
use Rattle.life_state.proofs.state.State.told_classes.Goals as goal

pub returns : goal.returns
returns c =
    let s = seen c.args.self in
    c.some_if.ensures
    ∙ (ap (λ (e : Bool). some_if e (seen c.told-told.result)) c.is_some.ensures
    ∙ ap (λ (t : State). some_if (some_class c.args.classes) t)
    (c.told-told.ensures ∙ ap (λ (v : CursorKnown). told c.args.c v s) (c.with_classes.ensures ∙ ap (with_classes c.args.classes) c.cursor.ensures)))
