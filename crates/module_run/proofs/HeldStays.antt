-- What is held of an instance and its call stays so where its brigades are as they were.
use Rattle.std.proofs.Common.{◌≡◌, ℕ, ◌<◌, ◌≤◌, Option, is_some, sym, ap, ◌∙◌, arith}
use Rattle.bucket_ring.specs.declared.names.BucketId.{BucketId}
use Rattle.bucket_ring.specs.Kept.{NoneRevived}
use Rattle.bucket_store.specs.Items.{Items}
use Rattle.interp_state.specs.declared.machine.Call.{Call}
use Rattle.interp_state.specs.declared.machine.Instance.{Instance}
use Rattle.interp_state.specs.Held.{HeldOver, IsName}
use Rattle.interp_state.specs.Slots.{name_in}
use Rattle.module_run.proofs.ReturnedParts.{AreAsWere}

pub held_stays : (at new_at : BucketId → Option ℕ) (L M : ℕ → Option Items) (p q : ℕ → Option ℕ) (k l : ℕ) (i : Instance) (call : Call) → k ≤ l → q ≡ p → NoneRevived at new_at k
    → AreAsWere L M i → (0 < call.name → M call.name ≡ L call.name) → HeldOver at L p k i call → HeldOver new_at M q l i call
held_stays at new_at L M p q k l i call rises pools names same loose held = record {
  apart = held.apart;
  loose = held.loose;
  given = λ c id is. still id (held.given c id is);
  named = λ b n is. let a = held.named b n is in omega (arith, a, rises);
  real = held.real;
  called = let a = held.called in omega (arith, a, rises);
  runs = λ pos. ap is_some (loose pos) ∙ held.runs pos;
  free = ap (λ (f : ℕ → Option ℕ). f call.name) pools ∙ held.free;
  on = λ b n pool mark own is there. ap (λ (f : ℕ → Option ℕ). f n) pools ∙ held.on b n pool mark own is (sym (ap is_some (same b n (ap name_in is))) ∙ there);
  incoming = held.incoming;
} where
  still : (id : BucketId) → IsName at k id → IsName new_at l id
  still id name = record {
    young = let a = name.young in omega (arith, a, rises);
    only = λ j there e. name.only j (names j there (let b = name.young in omega (arith, b, e))) e;
  }
