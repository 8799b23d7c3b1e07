-- The call of a connection's first filter begins.
use Rattle.std.specs.Prelude.{◌≡◌, ◌≢◌, ℕ, true, List, [], length, Some}
use Rattle.module_code.specs.Program.{Program}
use Rattle.run_model.specs.Chains.{module_at}
use Rattle.run_model.specs.Passing.{handler_at}
use Rattle.interp_state.specs.declared.machine.CursorValue.TheVariants.{Unset}
use Rattle.module_run.specs.declared.conn.Filter.{Filter}
use Rattle.module_run.specs.declared.conn.Conn.{Conn}
use Rattle.module_run.specs.Conns.{filter_at}
use Rattle.interp_state.specs.Slots.{cursor_at}

-- A call of this name begins in a filter, at this instruction.
pub record CallStarts (name pc : ℕ) (f e : Filter) : Type 0 where
  pub instance : e.instance ≡ f.instance
  pub lent : e.lent ≡ f.lent
  pub named : e.call.name ≡ name
  pub cursors : (i : ℕ) → cursor_at e.call i ≡ Unset
  pub buffer : e.call.buffer ≡ []
  pub at : e.call.pc ≡ pc

-- The handler of the first filter begins, and those of the other filters are to come: `open`, or `init` where a request is open.
pub record CalledFirst (chain : List Program) (name : ℕ) (c d : Conn) : Type 0 where
  pub first : (f : Filter) → filter_at c 0 ≡ Some f → (e : Filter) × ((filter_at d 0 ≡ Some e) × CallStarts name (handler_at c.req (module_at chain 0)) f e)
  pub others : (k : ℕ) → k ≢ 0 → filter_at d k ≡ filter_at c k
  pub many : length d.filters.items ≡ length c.filters.items
  pub rest : d ≡ record c { filters = d.filters; first = 0; top = 0; queue = 1; busy = true; count = 0 }
