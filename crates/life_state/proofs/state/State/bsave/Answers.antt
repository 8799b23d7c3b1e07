-- The homes of the one and its pool.
use Rattle.std.proofs.Common.{ap, ◌∙◌}
use Rattle.life_state.specs.States.{Homes, homes_join, home_in}
use Rattle.life_state.specs.Rules.{after_concat}
use Rattle.life_state.specs.Seen.{seen, seen_homes}
use Rattle.life_state.proofs.state.State.bsave.Goals as goal

pub returns : goal.returns
returns c =
    let s = seen c.args.self in
    c.concat_brigades.ensures
    ∙ ap (λ (h : Homes). after_concat c.args.o c.args.b h s)
    (c.join.ensures
    ∙ (ap (λ (h : Homes). homes_join h (seen_homes c.in_pool.result)) c.homes.ensures
    ∙ ap (homes_join (s.brigades c.args.o).homes) (c.in_pool.ensures ∙ ap home_in c.pool_of_brigade-pool.ensures)))
