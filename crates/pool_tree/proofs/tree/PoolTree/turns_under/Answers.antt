use Rattle.std.proofs.Common.{◌≡◌, ◌∙◌, ◌++◌, ℕ, List, true, map, reverse, sym, ap, subst}
use Rattle.std.specs.List.{flat_map, list_any}
use Rattle.std.proofs.lemmas.List.{append-nil}
use Rattle.run_model.specs.declared.effect.CleanupKind.TheVariants.{Plain}
use Rattle.run_model.specs.Pools.{is_live}
use Rattle.run_model.specs.RunOrder.{Turn, turns_at, children}
use Rattle.pool_tree.specs.Tree.{map_of}
use Rattle.pool_tree.proofs.Walks.{turns_due, behind_start, behind_live, turn_step, turns_left, last_turn_waits, turns_wait}
use Rattle.pool_tree.proofs.tree.PoolTree.turns_under.Goals as goal

pub loop-turn-init : goal.loop-turn-init
loop-turn-init g c =
    let behind = map (λ (n : ℕ). (n, Plain)) (children (map_of c.args.self.now) c.args.pool) in
    let turns : c.push_behind.new.turns.items ≡ behind
    = c.in_ok-push_behind.ensures ∙ ap (λ (xs : List Turn). xs ++ behind) c.new-waiting.ensures.items in
    record {
      whole = rw (turns, c.new-found.ensures.items) (append-nil (flat_map (turns_due (map_of c.args.self.now)) behind) ∙ behind_start c.args.self.now c.args.pool);
      live = λ n inside. behind_live c.args.self.now c.args.pool n (subst (λ (xs : List Turn). list_any (turns_at n) xs ≡ true) turns inside);
    }

pub loop-turn-smaller : goal.loop-turn-smaller
loop-turn-smaller g c =
    let tree = c.args.self.now in
    let all = c.in-Some.ensures.items in
    let live = c.loop-turn.invariant.live c.in-Some.turn.0 (subst (λ (xs : List Turn). list_any (turns_at c.in-Some.turn.0) xs ≡ true) (sym all) (last_turn_waits tree c.pop.new.self.items c.in-Some.turn)) in
    rw (all, c.in_ok-push_before.ensures) (turns_left tree c.pop.new.self.items c.in-Some.turn live)

pub loop-turn-preserved : goal.loop-turn-preserved
loop-turn-preserved g c =
    let tree = c.args.self.now in
    let all = c.in-Some.ensures.items in
    let lives = subst (λ (xs : List Turn). (m : ℕ) → list_any (turns_at m) xs ≡ true → is_live (map_of tree) m ≡ true) all c.loop-turn.invariant.live in
    let live = lives c.in-Some.turn.0 (last_turn_waits tree c.pop.new.self.items c.in-Some.turn) in
    let turns = c.in_ok-push_before.ensures in
    record {
      whole = rw (turns, c.in_ok-push.ensures.items) (turn_step tree c.pop.new.self.items c.loop-turn.found.items c.in-Some.turn live
          ∙ ap (λ (xs : List Turn). flat_map (turns_due (map_of tree)) xs ++ reverse c.loop-turn.found.items) (sym all) ∙ c.loop-turn.invariant.whole);
      live = λ m inside. turns_wait tree c.pop.new.self.items c.in-Some.turn lives m (subst (λ (xs : List Turn). list_any (turns_at m) xs ≡ true) turns inside);
    }
