-- By whether its pool goes.
use Rattle.std.proofs.Common.{◌≡◌, true, false, ap, ◌∙◌, rules}
use Rattle.life_state.specs.States.{Homes, ended_brigade, with_homes, dead_where}
use Rattle.life_state.specs.Rules.{lies_under}
use Rattle.life_state.specs.Seen.{seen, seen_pools, seen_brigade}
use Rattle.life_state.proofs.ClearLaws.{cleared_gone, cleared_kept}
use Rattle.life_state.proofs.state.State.cleared_brigade.Goals as goal

pub returns-then-has : goal.returns-then-has
returns-then-has c =
    let gone : lies_under c.args.code.now (seen_pools c.args.under.now) c.args.b ≡ true = search rules in
    c.ended.ensures ∙ (ap ended_brigade c.brigade-brigade.ensures ∙ cleared_gone c.args.code.now (seen_pools c.args.under.now) (seen c.args.self.now) c.args.b gone)

pub returns-else-has : goal.returns-else-has
returns-else-has c =
    let stays : lies_under c.args.code.now (seen_pools c.args.under.now) c.args.b ≡ false = search rules in
    ap (λ (h : Homes). record (seen_brigade c.brigade-brigade.result) { homes = h }) c.dead_where.ensures
    ∙ (ap (with_homes (dead_where (seen_pools c.args.under.now))) c.brigade-brigade.ensures ∙ cleared_kept c.args.code.now (seen_pools c.args.under.now) (seen c.args.self.now) c.args.b stays)
