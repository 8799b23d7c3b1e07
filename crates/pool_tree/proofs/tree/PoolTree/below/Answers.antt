-- The oldest child comes, or what is behind.
use Rattle.std.proofs.Common.{◌≡◌, ℕ, ◌+◌, List, ◌++◌, reverse, None, Some, sym, ap, subst, ◌∙◌, arith}
use Rattle.std.specs.List.{flat_map}
use Rattle.run_model.specs.RunOrder.{children}
use Rattle.pool_tree.specs.Left.{text_behind, text_left}
use Rattle.pool_tree.specs.Tree.{map_of}
use Rattle.pool_tree.proofs.Left.{behind_below, level_fits, place_child}
use Rattle.pool_tree.proofs.Printing.{done_start}
use Rattle.pool_tree.proofs.tree.PoolTree.below.Goals as goal

pub prove-unreachable-requires : goal.prove-unreachable-requires
prove-unreachable-requires g c = (let fits = level_fits c.args.self.now c.args.top c.requires.0 c.args.pool c.args.depth c.requires.1 in omega (arith, c.if-prove.true))

pub returns-in-Some-clause-place : goal.returns-in-Some-clause-place
returns-in-Some-clause-place g c start at = (place_child c.args.self.now c.args.top start c.args.pool c.args.depth c.in-Some.child at c.in-Some.ensures.0).0

pub returns-in-Some-clause-left : goal.returns-in-Some-clause-left
returns-in-Some-clause-left g c text start at =
    let tree = c.args.self.now in
    let top = c.args.top in
    let pool = c.args.pool in
    subst (λ (l : ℕ). text_left text tree top start (Some (c.in-Some.child, l + 1)) ≡ flat_map (text (l + 1)) (reverse (children (map_of tree) pool)) ++ text_behind text tree top start pool)
    (sym at.level_is)
    (behind_below tree text top start pool c.in-Some.child c.in-Some.ensures (place_child tree top start pool c.args.depth c.in-Some.child at c.in-Some.ensures.0).1)

pub returns-in-None-clause-left : goal.returns-in-None-clause-left
returns-in-None-clause-left g c text start at =
    let tree = c.args.self.now in
    let pool = c.args.pool in
    c.behind.ensures.left text start at
    ∙ ap (λ (xs : List ℕ). flat_map (text (c.args.depth + 1)) (reverse xs) ++ text_behind text tree c.args.top start pool) (sym (done_start tree pool None c.in-None.ensures))
