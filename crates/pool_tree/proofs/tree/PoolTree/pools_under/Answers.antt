use Rattle.std.proofs.Common.{◌≡◌, ◌∙◌, ◌++◌, ℕ, true, reverse, sym, ap, subst}
use Rattle.std.specs.List.{flat_map}
use Rattle.std.proofs.lemmas.List.{append-nil}
use Rattle.run_model.specs.Pools.{is_in, is_live}
use Rattle.run_model.specs.RunOrder.{children, order, order_under}
use Rattle.pool_tree.specs.Tree.{map_of}
use Rattle.pool_tree.proofs.Walks.{children_live, found_step, waiting_left, last_waits, waits_on}
use Rattle.pool_tree.proofs.tree.PoolTree.pools_under.Goals as goal

pub loop-next-init : goal.loop-next-init
unfolding order_under
loop-next-init g c =
    let names : c.push_children.new.names.items ≡ children (map_of c.args.self.now) c.args.pool
    = c.in_ok-push_children.ensures ∙ ap (λ xs. xs ++ children (map_of c.args.self.now) c.args.pool) c.new-waiting.ensures.items in
    record {
      whole = rw (names, c.new-found.ensures.items) (append-nil (flat_map (order (map_of c.args.self.now)) (children (map_of c.args.self.now) c.args.pool)));
      live = λ n inside. children_live c.args.self.now c.args.pool n (subst (λ xs. is_in n xs ≡ true) names inside);
    }

pub loop-next-smaller : goal.loop-next-smaller
loop-next-smaller g c =
    let tree = c.args.self.now in
    let all = c.in-Some.ensures.items in
    let live = c.loop-next.invariant.live c.in-Some.next (subst (λ xs. is_in c.in-Some.next xs ≡ true) (sym all) (last_waits tree c.pop.new.self.items c.in-Some.next)) in
    rw (all, c.in_ok-push_children-2.ensures) (waiting_left tree c.pop.new.self.items c.in-Some.next live)

pub loop-next-preserved : goal.loop-next-preserved
loop-next-preserved g c =
    let tree = c.args.self.now in
    let all = c.in-Some.ensures.items in
    let lives = subst (λ xs. (m : ℕ) → is_in m xs ≡ true → is_live (map_of tree) m ≡ true) all c.loop-next.invariant.live in
    let live = lives c.in-Some.next (last_waits tree c.pop.new.self.items c.in-Some.next) in
    let names = c.in_ok-push_children-2.ensures in
    record {
      whole = rw (names, c.in_ok-push.ensures.items) (found_step tree c.pop.new.self.items c.loop-next.found.items c.in-Some.next live
          ∙ ap (λ xs. flat_map (order (map_of tree)) xs ++ reverse c.loop-next.found.items) (sym all) ∙ c.loop-next.invariant.whole);
      live = λ m inside. waits_on tree c.pop.new.self.items c.in-Some.next lives m (subst (λ xs. is_in m xs ≡ true) names inside);
    }
