-- By the tree, which is the world's.
use Rattle.std.proofs.Common.{◌∙◌, ap, subst}
use Rattle.byte_text.specs.Writes.{WroteAll, writer_state}
use Rattle.run_model.specs.declared.payload.Payload.{Payload}
use Rattle.run_model.specs.Pools.{Pools}
use Rattle.model_laws.proofs.chains.TreeParts.{reached_tree}
use Rattle.pool_tree.specs.Printed.{payload_text, printed}
use Rattle.filter_chain.specs.Hosting.{IsHosting, budget_of, chain_of}
use Rattle.filter_chain.proofs.host.Host.print_pools.Goals as goal

pub returns : goal.returns
unfolding IsHosting
returns g c w hosts =
    let host = c.args.self.now in
    let root = (reached_tree (budget_of host) (chain_of host) w hosts.chained hosts.reached).root in
    subst (λ (ps : Pools Payload). WroteAll c.print.result (writer_state g.W.Write.contents c.args.out.now) (writer_state g.W.Write.contents c.print.new.out) (printed payload_text ps 0 w.common.root)) hosts.pools
    (c.print.ensures w.common.root (ap (λ (ps : Pools Payload). ps.path w.common.root) hosts.pools ∙ root))
