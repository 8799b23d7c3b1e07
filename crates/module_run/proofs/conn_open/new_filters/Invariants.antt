-- So many were made, and each is new.
use Rattle.std.proofs.Common.{◌≡◌, ℕ, Some, length, slice_get}
use Rattle.module_run.specs.declared.conn.Filter.{Filter}
use Rattle.module_run.specs.Opening.{IsNewFilter}
use Rattle.module_run.proofs.conn_open.new_filters.Given as goal

abbrev pub invariant-loop : goal.invariant-loop
invariant-loop l = record {
  many : length l.filters.items ≡ l.counter;
  new : (k : ℕ) (f : Filter) → slice_get l.filters.items k ≡ Some f → IsNewFilter f;
}
