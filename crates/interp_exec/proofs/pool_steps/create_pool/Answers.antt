-- A new pool holds no brigade and no reference.
use Rattle.std.proofs.Common.{sym, subst}
use Rattle.run_model.specs.declared.payload.Payload.{Payload}
use Rattle.run_model.specs.Pools.{Pools}
use Rattle.pool_tree.specs.Tree.{map_of}
use Rattle.pool_tree.proofs.Trees.{tree_formed}
use Rattle.brigade_ops.specs.House.{AreHoused}
use Rattle.brigade_ops.proofs.Housed.{house_created}
use Rattle.interp_exec.proofs.pool_steps.create_pool.Goals as goal

pub returns-clause-house : goal.returns-clause-house
returns-clause-house c =
    λ rings pools references house.
    subst (λ (ps : Pools Payload). AreHoused rings pools references ps) (sym c.in-Ok.ensures.ok)
    (house_created rings pools references (map_of c.args.tree.now) house c.args.parent (tree_formed c.args.tree.now))
