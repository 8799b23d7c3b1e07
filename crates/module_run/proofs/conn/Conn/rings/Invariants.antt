use Rattle.std.proofs.Common.{◌≡◌, ℕ, true, Some, ◌<◌}
use Rattle.run_model.specs.Pools.{is_in}
use Rattle.module_run.specs.declared.conn.Filter.{Filter}
use Rattle.module_run.specs.Conns.{filter_at}
use Rattle.module_run.specs.Neighbours.{HoldsName}
use Rattle.module_run.specs.Stacked.{named_at}
use Rattle.module_run.proofs.conn.Conn.rings.Given as goal

abbrev pub invariant-loop-filter : goal.invariant-loop-filter
invariant-loop-filter l = record {
  only : (n : ℕ) → is_in n l.rings.items ≡ true → HoldsName l.self n;
  named : (k b n : ℕ) (f : Filter) → k < l.filter-index → filter_at l.self k ≡ Some f → named_at f b ≡ Some n → is_in n l.rings.items ≡ true;
  loose : (k : ℕ) (f : Filter) → k < l.filter-index → filter_at l.self k ≡ Some f → is_in f.call.name l.rings.items ≡ true;
}
