use Rattle.std.proofs.Common.{sym}
use Rattle.pool_tree.proofs.Walks.{first_child, next_child}
use Rattle.pool_tree.proofs.tree.PoolTree.oldest_child.Goals as goal

pub loop-older-init : goal.loop-older-init
loop-older-init g c = first_child c.args.self.now c.args.pool c.in-Some.newest (sym c.in-Some.ensures)

pub loop-older-smaller : goal.loop-older-smaller
loop-older-smaller g c = (next_child c.args.self.now c.args.pool c.loop-older.oldest c.in-Some-older.older c.loop-older.invariant (sym c.in-Some-older.ensures)).1

pub loop-older-preserved : goal.loop-older-preserved
loop-older-preserved g c = (next_child c.args.self.now c.args.pool c.loop-older.oldest c.in-Some-older.older c.loop-older.invariant (sym c.in-Some-older.ensures)).0
