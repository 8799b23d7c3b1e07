-- The filters before k have passed no EOS, and the others are as they were.
use Rattle.std.proofs.Common.{◌≡◌, ◌<◌, ◌≤◌, ℕ, length}
use Rattle.std.specs.Prelude.{slice_get}
use Rattle.std.specs.Option.{option_map}
use Rattle.module_run.specs.Destroyed.{quieted}
use Rattle.module_run.proofs.conn_end.start_over.Given as goal

abbrev pub invariant-loop-k : goal.invariant-loop-k
invariant-loop-k l = record {
  many : length l.filters.items ≡ length l.fn.filters.items;
  done : (j : ℕ) → j < l.k → slice_get l.filters.items j ≡ option_map quieted (slice_get l.fn.filters.items j);
  rest : (j : ℕ) → l.k ≤ j → slice_get l.filters.items j ≡ slice_get l.fn.filters.items j;
}
