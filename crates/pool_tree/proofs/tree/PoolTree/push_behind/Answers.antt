use Rattle.std.proofs.Common.{◌≡◌, ◌∙◌, ◌++◌, ◌∷◌, [], ℕ, List, map, sym, ap}
use Rattle.std.proofs.lemmas.List.{append_assoc}
use Rattle.run_model.specs.declared.effect.CleanupKind.TheVariants.{Plain}
use Rattle.run_model.specs.RunOrder.{children_below}
use Rattle.pool_tree.specs.Tree.{map_of}
use Rattle.pool_tree.proofs.Walks.{behind_from, children_from, children_start, children_rest, first_child, next_child, next_left}
use Rattle.pool_tree.proofs.tree.PoolTree.push_behind.Goals as goal

pub loop-child-init : goal.loop-child-init
loop-child-init g c = record {
  whole = ap (λ (xs : List ℕ). c.args.turns.now.items ++ map (λ (n : ℕ). (n, Plain)) xs) (ap (children_from c.args.self.now c.args.pool) c.newest-child.ensures ∙ children_start c.args.self.now c.args.pool);
  child = λ k is. first_child c.args.self.now c.args.pool k (sym c.newest-child.ensures ∙ is);
}

pub loop-child-smaller : goal.loop-child-smaller
loop-child-smaller g c =
    rw (c.in-Some.is, c.older-child.ensures) (next_left c.args.self.now c.args.pool c.in-Some.name (c.loop-child.invariant.child c.in-Some.name c.in-Some.is))

pub loop-child-preserved : goal.loop-child-preserved
loop-child-preserved g c =
    let tree = c.args.self.now in
    let name = c.in-Some.name in
    let at = c.loop-child.invariant.child name c.in-Some.is in
    let rest = ap (children_from tree c.args.pool) c.older-child.ensures ∙ children_rest tree c.args.pool name at in
    let behind = map (λ (n : ℕ). (n, Plain)) (children_below (map_of tree) c.args.pool name) in
    let whole : c.loop-child.turns.items ++ (name, Plain) ∷ behind ≡ c.loop-child.turns.items ++ behind_from tree c.args.pool c.loop-child.child
    = ap (λ o. c.loop-child.turns.items ++ behind_from tree c.args.pool o) (sym c.in-Some.is) in
    record {
      whole = rw (c.in_ok-push.ensures.items, rest) (append_assoc c.loop-child.turns.items ((name, Plain) ∷ []) behind ∙ whole ∙ c.loop-child.invariant.whole);
      child = λ k is. (next_child tree c.args.pool name k at (sym c.older-child.ensures ∙ is)).0;
    }
