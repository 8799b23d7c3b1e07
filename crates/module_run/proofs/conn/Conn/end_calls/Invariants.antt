use Rattle.std.proofs.Common.{◌≡◌, ℕ, Some, None, ◌<◌}
use Rattle.bucket_ring.specs.Kept.{NoneRevived}
use Rattle.brigade_ops.specs.Store.{lists, brigade_of, pool_of, references, next_name}
use Rattle.brigade_ops.specs.House.{IsHouse}
use Rattle.run_model.specs.declared.payload.Payload.{Payload}
use Rattle.run_model.specs.Pools.{Pools}
use Rattle.module_run.specs.declared.conn.Filter.{Filter}
use Rattle.module_run.specs.Conns.{filter_at}
use Rattle.module_run.specs.Neighbours.{HoldsName}
use Rattle.module_run.proofs.conn.Conn.end_calls.Given as goal

abbrev pub invariant-loop-filter : goal.invariant-loop-filter
invariant-loop-filter g l = record {
  others : (n : ℕ) → (HoldsName l.self n → ⊥) → lists l.store n ≡ lists l.fn.store n;
  gone : (k : ℕ) (f : Filter) → k < l.filter-index → filter_at l.self k ≡ Some f → lists l.store f.call.name ≡ None;
  next : next_name l.store ≡ next_name l.fn.store;
  names : NoneRevived (brigade_of l.fn.store) (brigade_of l.store) (next_name l.fn.store);
  pools : pool_of l.store ≡ pool_of l.fn.store;
  none : (n : ℕ) → lists l.fn.store n ≡ None → lists l.store n ≡ None;
  references : references l.store ≡ references l.fn.store;
  house : (ps : Pools Payload) → IsHouse l.fn.store ps → IsHouse l.store ps;
}
