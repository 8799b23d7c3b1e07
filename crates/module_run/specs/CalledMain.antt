-- A brigade is brought to a filter of a connection, or to its output filter.
use Rattle.std.specs.Prelude.{◌≡◌, ◌≢◌, ◌==◌, ℕ, true, List, [], length, Some, None, if◌then◌else◌}
use Rattle.module_code.specs.Program.{Program}
use Rattle.run_model.specs.declared.bucket.Mark.TheVariants.{Usable}
use Rattle.run_model.specs.Chains.{module_at}
use Rattle.interp_state.specs.declared.machine.Slot.TheVariants.{Made}
use Rattle.interp_state.specs.declared.machine.CursorValue.TheVariants.{Unset}
use Rattle.module_run.specs.declared.conn.Filter.{Filter}
use Rattle.module_run.specs.declared.conn.Conn.{Conn}
use Rattle.module_run.specs.Conns.{filter_at}
use Rattle.interp_state.specs.Slots.{SameButSlots, cursor_at, slot_at}

-- A call of this name begins in a filter, at this instruction, and this brigade is its `in`.
pub record StartsWith (name brigade pc : ℕ) (f e : Filter) : Type 0 where
  pub slots : (a : ℕ) → slot_at e.instance a ≡ (if a == 8 then Made brigade None Usable else slot_at f.instance a)
  pub rest : SameButSlots f.instance e.instance
  pub lent : e.lent ≡ f.lent
  pub named : e.call.name ≡ name
  pub cursors : (i : ℕ) → cursor_at e.call i ≡ Unset
  pub buffer : e.call.buffer ≡ []
  pub at : e.call.pc ≡ pc

-- `main` of the filter at the place `to` begins.
pub record CalledMain (chain : List Program) (to name brigade : ℕ) (c d : Conn) : Type 0 where
  pub first : (f : Filter) → filter_at c to ≡ Some f → (e : Filter) × ((filter_at d to ≡ Some e) × StartsWith name brigade (module_at chain to).main f e)
  pub others : (k : ℕ) → k ≢ to → filter_at d k ≡ filter_at c k
  pub many : length d.filters.items ≡ length c.filters.items
  pub rest : d ≡ record c { filters = d.filters; first = to; top = to; busy = true; count = 0 }
