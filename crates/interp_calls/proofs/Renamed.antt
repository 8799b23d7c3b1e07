-- What is held of an instance and its call is held whatever the next name is, where the names that they hold are below it.
use Rattle.std.proofs.Common.{◌≡◌, ℕ, ◌≤◌, Option, refl, sym, subst, arith}
use Rattle.std.proofs.Math.Path.{fun_ext}
use Rattle.bucket_ring.specs.declared.names.BucketId.{BucketId}
use Rattle.bucket_ring.specs.declared.rings.Rings.{Ghosts}
use Rattle.bucket_kinds.specs.declared.stored.Stored.{Stored}
use Rattle.brigade_ops.specs.declared.store.Brigades.{Brigades}
use Rattle.bucket_store.specs.Items.{Items}
use Rattle.brigade_ops.specs.Store.{lists, brigade_of, pool_of, next_name}
use Rattle.interp_state.specs.declared.machine.Instance.{Instance}
use Rattle.interp_state.specs.declared.machine.Call.{Call}
use Rattle.interp_state.specs.ContextViews.{ContextView}
use Rattle.interp_state.specs.Held.{HeldOver, IsHeld}
use Rattle.interp_calls.specs.NamedBelow.{AreNamedBelow}
use Rattle.interp_state.specs.Seen.{seen_over}

module _ (at : BucketId → Option ℕ) (rings : ℕ → Option Items) (pools : ℕ → Option ℕ) (next now : ℕ) (i : Instance) (call : Call) where
  -- the next name is one above those that are held
  pub held_renamed : AreNamedBelow now i call → HeldOver at rings pools next i call → HeldOver at rings pools now i call
  held_renamed below held = record {
    apart = held.apart;
    loose = held.loose;
    given = λ c id e. record { young = below.given c id e; only = (held.given c id e).only };
    named = below.named;
    real = held.real;
    called = below.called;
    runs = held.runs;
    free = held.free;
    on = held.on;
    incoming = held.incoming;
  }

  -- the next name rises
  pub held_rises : next ≤ now → HeldOver at rings pools next i call → HeldOver at rings pools now i call
  held_rises rises held = held_renamed (record {
    given = λ c id e. (let young = (held.given c id e).young in omega arith);
    named = λ b n e. (let young = held.named b n e in omega arith);
    called = (let young = held.called in omega arith);
  }) held

  -- what is held has names below the next
  pub named_below : HeldOver at rings pools next i call → AreNamedBelow next i call
  named_below held = record { given = λ c id e. (held.given c id e).young; named = held.named; called = held.called }

-- the configuration has another next name, and is else as it was
pub seen_renamed : (rings : ℕ → Option Items) (next now : ℕ) (view : ContextView) (i : Instance) (call : Call)
    → seen_over rings now view i call ≡ (let r = seen_over rings next view i call in record r { shared = record r.shared { next = now } })
unfolding seen_over
seen_renamed rings next now view i call = refl

-- The same of a store of which only the next name was set.
module _ {R : Type 0} {g : Ghosts R Stored} (old new : Brigades R g) (same : (b : ℕ) → lists new b ≡ lists old b) (places : (id : BucketId) → brigade_of new id ≡ brigade_of old id)
    (on : pool_of new ≡ pool_of old) (i : Instance) (call : Call) where
  moved_over : (next : ℕ) → HeldOver (brigade_of old) (lists old) (pool_of old) next i call → HeldOver (brigade_of new) (lists new) (pool_of new) next i call
  moved_over next held =
      subst (λ (at : BucketId → Option ℕ). HeldOver at (lists new) (pool_of new) next i call) (sym (fun_ext places))
      (subst (λ (rings : ℕ → Option Items). HeldOver (brigade_of old) rings (pool_of new) next i call) (sym (fun_ext same))
      (subst (λ (pools : ℕ → Option ℕ). HeldOver (brigade_of old) (lists old) pools next i call) (sym on) held))

  pub held_set : AreNamedBelow (next_name new) i call → IsHeld old i call → IsHeld new i call
  held_set below held = moved_over (next_name new) (held_renamed (brigade_of old) (lists old) (pool_of old) (next_name old) (next_name new) i call below held)

  pub held_raised : next_name old ≤ next_name new → IsHeld old i call → IsHeld new i call
  held_raised rises held = moved_over (next_name new) (held_rises (brigade_of old) (lists old) (pool_of old) (next_name old) (next_name new) i call rises held)
