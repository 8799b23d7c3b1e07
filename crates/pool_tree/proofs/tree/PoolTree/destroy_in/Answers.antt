-- What the clear hands on is handed on, and the pool that it left empty is ended.
use Rattle.pool_tree.proofs.Destroyed.{then_destroyed}
use Rattle.pool_tree.proofs.Trees.{tree_formed}
use Rattle.pool_tree.proofs.tree.PoolTree.destroy_in.Goals as goal

pub clear_in-ran-requires : goal.clear_in-ran-requires
clear_in-ran-requires g c = record { live = c.requires.live; room = c.requires.room }

pub returns : goal.returns
returns g c = record {
  ran = c.clear_in-ran.ensures.ran;
  ok = then_destroyed c.args.self.now c.args.pool _ c.clear_in-ran.ensures.ok c.requires.live _ cc;
  formed = tree_formed _;
  unasked = cc;
}
