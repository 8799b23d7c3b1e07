-- A live pool is named, since there is no fault.
use Rattle.std.proofs.Common.{sym, ◌∙◌}
use Rattle.pool_tree.specs.Tree.{map_of}
use Rattle.interp_state.specs.Context.{in_context}
use Rattle.interp_state.specs.Seen.{seen_over}
use Rattle.interp_exec.proofs.Carried.{named_live, named_some}
use Rattle.interp_exec.proofs.live_pools.live_pool.Goals as goal

pub unreachable-requires : goal.unreachable-requires
unreachable-requires c =
    let there = c.requires.there in
    let view = there.1.1.0 in
    let call = there.1.1.1.0 in
    named_some (seen_over there.0 there.1.0 (in_context c.args.context.now (map_of c.args.tree.now) view) c.args.instance.now call) c.args.pool there.1.1.1.1
    (sym (c.pool_named.ensures (map_of c.args.tree.now) there.0 there.1.0 view call) ∙ c.in-None.is)

pub returns-clause-live : goal.returns-clause-live
unfolding seen_over
returns-clause-live c =
    let there = c.requires.there in
    let view = there.1.1.0 in
    let call = there.1.1.1.0 in
    named_live (seen_over there.0 there.1.0 (in_context c.args.context.now (map_of c.args.tree.now) view) c.args.instance.now call) c.args.pool c.in-Some.name there.1.1.1.1
    (sym (c.pool_named.ensures (map_of c.args.tree.now) there.0 there.1.0 view call) ∙ c.in-Some.is)
