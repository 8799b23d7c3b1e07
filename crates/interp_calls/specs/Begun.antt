-- A call begins.
use Rattle.std.specs.Prelude.{◌≡◌, ℕ, ◌+◌, []}
use Rattle.run_model.specs.State.{Configuration, fresh_call}
use Rattle.interp_state.specs.declared.machine.Call.{Call}
use Rattle.interp_state.specs.declared.machine.CursorValue.TheVariants as cursor_value
use Rattle.interp_state.specs.Slots.{cursor_at}

-- a call of the next name, at this instruction
abbrev pub begun_as : ℕ → Configuration → Configuration
begun_as pc r = record r { call = fresh_call r.shared.next; shared = record r.shared { next = r.shared.next + 1 }; pc = pc }

-- a call of this name as it begins at an instruction
pub record IsBegun (name pc : ℕ) (call : Call) : Type 0 where
  pub named : call.name ≡ name
  pub cursors : (c : ℕ) → cursor_at call c ≡ cursor_value.Unset
  pub buffer : call.buffer ≡ []
  pub at : call.pc ≡ pc
