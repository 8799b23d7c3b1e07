use Rattle.std.proofs.Common.{◌≡◌, ◌∙◌, ◌++◌, ◌∷◌, [], ℕ, List, map, sym, ap}
use Rattle.std.proofs.lemmas.List.{append_assoc, append-nil}
use Rattle.run_model.specs.declared.effect.CleanupKind.TheVariants.{Plain, Pre}
use Rattle.run_model.specs.RunOrder.{Turn, children}
use Rattle.pool_tree.specs.Handed.{before_turn}
use Rattle.pool_tree.specs.Tree.{map_of}
use Rattle.pool_tree.proofs.tree.PoolTree.push_before.Goals as goal

pub returns-in-Pre : goal.returns-in-Pre
unfolding before_turn
returns-in-Pre g c = rw c.in-Pre.is (sym (append-nil c.args.turns.now.items))

pub returns-in_ok-push-in-Plain : goal.returns-in_ok-push-in-Plain
unfolding before_turn
returns-in_ok-push-in-Plain g c =
    let behind : List Turn = map (λ (n : ℕ). (n, Plain)) (children (map_of c.args.self.now) c.args.turn.0) in
    rw (c.in-Plain.is, ← append_assoc c.args.turns.now.items ((c.args.turn.0, Pre) ∷ []) behind, ← c.in_ok-push-in-Plain.ensures.items) c.push_behind.ensures
