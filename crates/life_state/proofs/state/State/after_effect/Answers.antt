-- The homes of both.
use Rattle.std.proofs.Common.{ap, sym, ◌∙◌, rules}
use Rattle.run_model.specs.declared.effect.Effect.{Effect}
use Rattle.life_state.specs.States.{Homes, homes_join}
use Rattle.life_state.specs.Rules.{after_concat, after}
use Rattle.life_state.specs.Seen.{seen, seen_homes}
use Rattle.life_state.proofs.state.State.after_effect.Goals as goal

pub returns-in-Concat : goal.returns-in-Concat
returns-in-Concat c =
    let s = seen c.args.self in
    let a = c.in-Concat.a in
    c.concat_brigades.ensures
    ∙ (ap (λ (h : Homes). after_concat a c.in-Concat.b h s)
    (c.join.ensures ∙ (ap (λ (h : Homes). homes_join h (seen_homes c.homes-in-Concat.result)) c.homes.ensures
    ∙ ap (homes_join (s.brigades a).homes) c.homes-in-Concat.ensures))
    ∙ sym (ap (λ (e : Effect). after c.args.code.now e s) c.in-Concat.is))

pub returns-in-Delete : goal.returns-in-Delete
returns-in-Delete c = search rules
