-- The first bucket tells whether there is one.
use Rattle.brigade_ops.specs.Store.{lists, next_name}
use Rattle.interp_state.proofs.Asked.{empty_live}
use Rattle.interp_state.proofs.asks.is_empty.Goals as goal

pub returns : goal.returns
returns g c =
    λ view call. empty_live (lists c.args.store.now) (next_name c.args.store.now) view c.args.instance.now call c.args.b c.brigade.result c.start.result c.is_none.result
    (c.brigade.ensures.live (lists c.args.store.now) c.requires.live) c.start.ensures.first c.is_none.ensures
