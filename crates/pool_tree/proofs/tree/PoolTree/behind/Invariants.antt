-- What comes behind is the same all the way up.
use Rattle.std.proofs.Common.{◌≡◌, ℕ, List}
use Rattle.pool_tree.specs.Left.{IsPlace, text_behind}
use Rattle.pool_tree.proofs.tree.PoolTree.behind.Given as goal

abbrev pub invariant-loop-name : goal.invariant-loop-name
invariant-loop-name g l = record {
  place : (start : ℕ) → IsPlace l.self l.top start l.pool l.depth → IsPlace l.self l.top start l.name l.level;
  same : (text : ℕ → ℕ → List ℕ) (start : ℕ) → IsPlace l.self l.top start l.pool l.depth → text_behind text l.self l.top start l.name ≡ text_behind text l.self l.top start l.pool;
}

abbrev pub decreases-loop-name : goal.decreases-loop-name
decreases-loop-name g l = l.name
