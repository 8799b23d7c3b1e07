-- The references before this one are left.
use Rattle.std.proofs.Common.{◌≡◌, ℕ, ◌+◌, true, take}
use Rattle.run_model.specs.declared.payload.Payload.{Payload}
use Rattle.run_model.specs.Pools.{Pools, is_live}
use Rattle.run_model.specs.Steps.{all_referred}
use Rattle.pool_tree.specs.Tree.{map_of}
use Rattle.brigade_ops.specs.Files.{times_in}
use Rattle.brigade_ops.specs.Files.{count_at}
use Rattle.brigade_ops.proofs.references.unrefer_all.Given as goal

abbrev pub invariant-loop-index : goal.invariant-loop-index
invariant-loop-index l = record {
  live : is_live (map_of l.tree) l.pool ≡ true;
  left : (ps : Pools Payload) → map_of l.fn.tree ≡ all_referred l.pool l.files ps → map_of l.tree ≡ all_referred l.pool (take l.index l.files) ps;
  less : (f : ℕ) → count_at l.fn.counts f + times_in f (take l.index l.files) ≡ count_at l.counts f + times_in f l.files;
  asked : l.tree.asked ≡ l.fn.tree.asked;
}
