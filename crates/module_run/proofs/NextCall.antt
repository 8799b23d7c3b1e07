-- The call of a further filter begins: what filters and the call read as.
use Rattle.std.proofs.Common.{◌≡◌, ℕ, ◌<◌, Bool, List, [], Option, Some, None, is_some, refl, sym, ap, subst, ◌∙◌}
use Rattle.std.specs.Option.{option_map_or}
use Rattle.std.proofs.Math.Path.{fun_ext}
use Rattle.bucket_ring.specs.declared.names.BucketId.{BucketId}
use Rattle.bucket_ring.specs.declared.rings.Rings.{Ghosts}
use Rattle.bucket_ring.specs.Lists.{list_at, times}
use Rattle.run_model.specs.declared.bucket.NamedBucket.{NamedBucket}
use Rattle.run_model.specs.declared.bucket.BrigadeVar.{BrigadeVar}
use Rattle.run_model.specs.declared.bucket.BrigadeVar.TheVariants as var
use Rattle.run_model.specs.declared.bucket.Cursor.{Cursor}
use Rattle.run_model.specs.Chains.{Frame}
use Rattle.run_model.specs.State.{fresh_call}
use Rattle.bucket_kinds.specs.declared.stored.Stored.{Stored}
use Rattle.brigade_ops.specs.declared.store.Brigades.{Brigades}
use Rattle.bucket_store.specs.Items.{Items}
use Rattle.brigade_ops.specs.Store.{lists, next_name}
use Rattle.brigade_ops.proofs.Stores.{in_listed, young}
use Rattle.module_run.specs.declared.conn.Filter.{Filter}
use Rattle.interp_state.specs.declared.machine.Slot.{Slot}
use Rattle.interp_state.specs.declared.machine.Slot.TheVariants as slot
use Rattle.interp_calls.specs.Begun.{IsBegun}
use Rattle.module_run.specs.Conns.{lent_by, shown_filter, shown_frame, shown_instance}
use Rattle.interp_state.specs.Seen.{is_running, shown, shown_as, shown_cursor, shown_slot}
use Rattle.interp_state.specs.Slots.{name_in, slot_at}
use Rattle.interp_calls.proofs.Begins.{items_begun}
use Rattle.module_run.proofs.ReturnedParts.{AreAsWere}

module _ {R : Type 0} {g : Ghosts R Stored} (store : Brigades R g) (M : ℕ → Option Items) where
  -- A call of the next name is no home of a bucket that is there.
  slot_begun : (s : Slot) → ((n : ℕ) → name_in s ≡ Some n → M n ≡ lists store n) → shown_slot (is_running (next_name store) []) M s ≡ shown_slot (is_running 0 []) M s
  slot_begun slot.Null same = refl
  slot_begun (slot.Made n pool mark) same =
      ap (shown_as (is_running (next_name store) []) n pool mark) (same n refl) ∙ (go (lists store n) refl ∙ ap (shown_as (is_running 0 []) n pool mark) (sym (same n refl))) where
        go : (o : Option Items) → lists store n ≡ o → shown_as (is_running (next_name store) []) n pool mark o ≡ shown_as (is_running 0 []) n pool mark o
        go None e = refl
        go (Some xs) e = ap live (items_begun (next_name store) [] xs older) where
          live : List NamedBucket → BrigadeVar
          live items = var.Live (record { name = n; on = pool; mark = mark; items = items })

          older : (id : BucketId) → 0 < times id xs → id.birth < next_name store
          older id h = young store id (ap is_some (in_listed store id n (subst (λ (o : Option Items). 0 < times id (option_map_or (λ bs. bs) o [])) (sym e) h)))

  pub filter_begun : (o : Option Filter) → ((f : Filter) → o ≡ Some f → AreAsWere (lists store) M f.instance) → shown_filter (is_running (next_name store) []) M o ≡ shown_filter (is_running 0 []) M o
  filter_begun None same = refl
  filter_begun (Some f) same =
      ap (λ (bs : ℕ → BrigadeVar). lent_by f.lent (record (shown_instance (is_running 0 []) M f.instance) { brigades = bs })) (fun_ext (λ b. slot_begun (slot_at f.instance b) (same f refl b)))

-- a call that begins, which has no loose buckets
pub frame_begun : (runs : ℕ → Bool) (M : ℕ → Option Items) (k name pc : ℕ) (f : Filter) → IsBegun name pc f.call → M name ≡ Some []
    → shown_frame runs M k (Some f) ≡ record { of = k; call = fresh_call name; pc = pc }
frame_begun runs M k name pc f begun empty =
    ap (λ (cs : ℕ → Cursor). made f.call.name cs f.call.buffer (shown runs (list_at M f.call.name)) f.call.pc) (fun_ext (λ n. ap shown_cursor (begun.cursors n)))
    ∙ (ap (λ (bytes : List ℕ). made f.call.name unset bytes (shown runs (list_at M f.call.name)) f.call.pc) begun.buffer
    ∙ (ap (λ (items : List NamedBucket). made f.call.name unset [] items f.call.pc) (ap (λ (o : Option Items). shown runs (option_map_or (λ bs. bs) o [])) (ap M begun.named ∙ empty))
    ∙ (ap (λ (n : ℕ). made n unset [] [] f.call.pc) begun.named
    ∙ ap (made name unset [] []) begun.at))) where
      unset : ℕ → Cursor
      unset n = Rattle.run_model.specs.declared.bucket.Cursor.TheVariants.Unset

      made : ℕ → (ℕ → Cursor) → List ℕ → List NamedBucket → ℕ → Frame
      made n cs bytes items pc = record { of = k; call = record { name = n; cursors = cs; buffer = bytes; loose = items }; pc = pc }
