-- Names that an instance and its call hold.
use Rattle.std.specs.Prelude.{◌≡◌, ℕ, ◌<◌, Some}
use Rattle.bucket_ring.specs.declared.names.BucketId.{BucketId}
use Rattle.interp_state.specs.declared.machine.Instance.{Instance}
use Rattle.interp_state.specs.declared.machine.Call.{Call}
use Rattle.interp_state.specs.declared.machine.CursorValue.TheVariants as cursor_value
use Rattle.interp_state.specs.Slots.{slot_at, cursor_at, name_in}

-- The names of the buckets at cursors, of the brigades in variables and of the call are below a bound.
pub record AreNamedBelow (bound : ℕ) (i : Instance) (call : Call) : Type 0 where
  pub given : (c : ℕ) (id : BucketId) → cursor_at call c ≡ cursor_value.At id → id.birth < bound
  pub named : (b n : ℕ) → name_in (slot_at i b) ≡ Some n → n < bound
  pub called : call.name < bound
