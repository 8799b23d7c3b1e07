-- The places up to one have nodes.
use Rattle.std.proofs.Common.{◌≡◌, ℕ, ◌+◌, ◌-◌, ◌≤◌}
use Rattle.raw_block.specs.Blocks.{at}
use Rattle.raw_nodes.specs.Free.{used, IsListed}
use Rattle.raw_nodes.proofs.nodes.list_free.Given as goal

abbrev pub invariant-loop-k : goal.invariant-loop-k
invariant-loop-k g l = record {
  listed : IsListed (at l.block) l.first l.count l.k;
  used : (j : ℕ) → used (at l.block j) ≡ used (at l.initial.block j);
  len : l.block.len ≡ l.initial.block.len;
  within : l.k ≤ l.block.len;
  count : l.count + l.initial.from ≡ l.initial.spare + l.k;
  from : l.initial.from ≤ l.k;
}

abbrev pub decreases-loop-k : goal.decreases-loop-k
decreases-loop-k g l = l.block.len - l.k
