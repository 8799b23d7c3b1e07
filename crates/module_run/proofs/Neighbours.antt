-- A connection stays as it was where an event of another leaves what is foreign to that one.
use Rattle.std.proofs.Common.{◌≡◌, ℕ, zero, suc, ◌<◌, ◌≤◌, Bool, List, [], Option, Some, None, is_some, refl, sym, ap, subst, ◌∙◌, inl, inr, arith, ◌∷◌}
use Rattle.std.specs.Option.{option_map_or}
use Rattle.std.specs.Prelude.{if◌then◌else◌}
use Rattle.std.proofs.Math.Path.{fun_ext}
use Rattle.bucket_ring.specs.declared.names.BucketId.{BucketId}
use Rattle.bucket_ring.specs.declared.rings.Rings.{Ghosts}
use Rattle.bucket_ring.specs.Kept.{NoneRevived}
use Rattle.bucket_ring.specs.Lists.{list_at}
use Rattle.module_code.specs.Program.{Program}
use Rattle.run_model.specs.declared.bucket.BrigadeVar.{BrigadeVar}
use Rattle.run_model.specs.declared.payload.Payload.{Payload}
use Rattle.run_model.specs.Chains.{Connection, Frame}
use Rattle.run_model.specs.Pools.{Pools}
use Rattle.run_model.specs.State as model
use Rattle.bucket_kinds.specs.declared.stored.Stored.{Stored}
use Rattle.brigade_ops.specs.declared.store.Brigades.{Brigades}
use Rattle.bucket_store.specs.Items.{Items}
use Rattle.brigade_ops.specs.Store.{lists, brigade_of, pool_of, next_name}
use Rattle.interp_state.specs.Held.{IsHeld, IsName}
use Rattle.interp_state.specs.Seen.{shown}
use Rattle.interp_state.specs.Slots.{name_in, slot_at}
use Rattle.module_run.specs.declared.conn.Conn.{Conn}
use Rattle.module_run.specs.declared.conn.Filter.{Filter}
use Rattle.module_run.specs.Conns.{conn_of, filter_at, lent_by, runs_of, shown_filter, shown_frame, shown_instance, stack_of, stack_over, top_of}
use Rattle.module_run.specs.Neighbours.{HoldsName, IsForeign, LeavesOthers, SameRing}
use Rattle.module_run.specs.Stacked.{AreWhole, IsStacked, named_at}
use Rattle.module_run.proofs.Untouched.{slot_same}

-- Nothing changed but names that were given out.
pub unchanged : {R : Type 0} {g : Ghosts R Stored} (ps : Pools Payload) (old new : Brigades R g) (c d : Conn) → ((n : ℕ) → lists new n ≡ lists old n) → pool_of new ≡ pool_of old
    → next_name old ≤ next_name new
    → NoneRevived (brigade_of old) (brigade_of new) (next_name old) → ((k : ℕ) → filter_at d k ≡ filter_at c k) → LeavesOthers ps old new c d
unchanged ps old new c d same pools rises names filters = record {
  rises = rises;
  names = names;
  others = λ n foreign. record { list = same n; pool = ap (λ (f : ℕ → Option ℕ). f n) pools };
  holds = λ n pos h. inl (record { at = h.at; filter = h.filter; is = sym (filters h.at) ∙ h.is; by = h.by });
}

pub rises_by : {a b : ℕ} → b ≡ a → a ≤ b
rises_by e = omega arith

pub unmoved : {R : Type 0} {g : Ghosts R Stored} (ps : Pools Payload) (store : Brigades R g) (c d : Conn) → ((k : ℕ) → filter_at d k ≡ filter_at c k) → LeavesOthers ps store store c d
unmoved ps store c d filters = unchanged ps store store c d (λ n. refl) refl (rises_by refl) (λ id there young. there) filters

-- Nothing that is seen of the store changed after an event.
pub then_same : {R : Type 0} {g : Ghosts R Stored} (ps : Pools Payload) (old mid new : Brigades R g) (c d : Conn) → LeavesOthers ps old mid c d → ((n : ℕ) → lists new n ≡ lists mid n)
    → next_name new ≡ next_name mid → brigade_of new ≡ brigade_of mid → pool_of new ≡ pool_of mid → LeavesOthers ps old new c d
then_same ps old mid new c d left same next names pools = record {
  rises = subst (λ (k : ℕ). next_name old ≤ k) (sym next) left.rises;
  names = subst (λ (f : BucketId → Option ℕ). NoneRevived (brigade_of old) f (next_name old)) (sym names) left.names;
  others = λ n foreign. let was = left.others n foreign in record { list = same n ∙ was.list; pool = ap (λ (f : ℕ → Option ℕ). f n) pools ∙ was.pool };
  holds = left.holds;
}

-- An event of c left d, and e is another connection. 0 is no brigade's name.
module _ {R : Type 0} {g : Ghosts R Stored} (chain : List Program) (ps : Pools Payload) (old new : Brigades R g) (c d e : Conn) (left : LeavesOthers ps old new c d) (stacked : IsStacked chain old e)
    (foreign : (n : ℕ) → 0 < n → HoldsName e n → IsForeign ps old c n) (none : lists old 0 ≡ None) (none_now : lists new 0 ≡ None) (off : pool_of old 0 ≡ None) (off_now : pool_of new 0 ≡ None) where
  ring_same : (n : ℕ) → HoldsName e n → SameRing old new n
  ring_same zero h = record { list = none_now ∙ sym none; pool = off_now ∙ sym off }
  ring_same (suc n) h = left.others (suc n) (foreign (suc n) (omega arith) h)

  by_name : (k : ℕ) (f : Filter) → filter_at e k ≡ Some f → SameRing old new f.call.name
  by_name k f is = ring_same f.call.name (record { at = k; filter = f; is = is; by = inl refl })

  by_slot : (k b n : ℕ) (f : Filter) → filter_at e k ≡ Some f → named_at f b ≡ Some n → SameRing old new n
  by_slot k b n f is named = ring_same n (record { at = k; filter = f; is = is; by = inr (b, named) })

  instance_same : (runs : ℕ → Bool) (k : ℕ) (o : Option Filter) → filter_at e k ≡ o → shown_filter runs (lists new) o ≡ shown_filter runs (lists old) o
  instance_same runs k None is = refl
  instance_same runs k (Some f) is = ap shows (fun_ext (λ b. slot_same runs (lists old) (lists new) (slot_at f.instance b) (λ n named. (by_slot k b n f is named).list))) where
    shows : (ℕ → BrigadeVar) → model.Instance
    shows vars = lent_by f.lent (record (shown_instance runs (lists old) f.instance) { brigades = vars })

  frame_same : (runs : ℕ → Bool) (k : ℕ) (o : Option Filter) → filter_at e k ≡ o → shown_frame runs (lists new) k o ≡ shown_frame runs (lists old) k o
  frame_same runs k None is = refl
  frame_same runs k (Some f) is = ap shows (by_name k f is).list where
    shows : Option Items → Frame
    shows ring = (let was = shown_frame runs (lists old) k (Some f) in record was { call = record was.call { loose = shown runs (list_at (λ n. ring) f.call.name) } })

  -- It shows the same,
  pub shows_same : (qs : Pools Payload) (opened : ℕ → Option (List ℕ)) → conn_of qs (lists new) opened e ≡ conn_of qs (lists old) opened e
  unfolding conn_of
  shows_same qs opened =
      ap (λ (i : ℕ → model.Instance). with_parts i (stack_of (lists new) e)) (fun_ext (λ k. instance_same (runs_of e) k (filter_at e k) refl))
      ∙ ap (λ (frames : ℕ → Frame). with_parts (λ k. shown_filter (runs_of e) (lists old) (filter_at e k)) (stacks frames)) (fun_ext (λ k. frame_same (runs_of e) k (filter_at e k) refl)) where
        with_parts : (ℕ → model.Instance) → List Frame → Connection
        with_parts i s = record (conn_of qs (lists old) opened e) { instances = i; stack = s }

        stacks : (ℕ → Frame) → List Frame
        stacks frames = if e.busy then frames (top_of e) ∷ stack_over frames e.callers.items else []

  held_same : (k : ℕ) (f : Filter) → filter_at e k ≡ Some f → IsHeld new f.instance f.call
  held_same k f is = (let held = stacked.held k f is in record {
    apart = held.apart;
    loose = held.loose;
    given = λ i id at. still id (held.given i id at);
    named = λ b n at. (let a = held.named b n at in let rises = left.rises in omega arith);
    real = held.real;
    called = (let a = held.called in let rises = left.rises in omega arith);
    runs = λ pos. ap is_some (by_name k f is).list ∙ held.runs pos;
    free = (by_name k f is).pool ∙ held.free;
    on = λ b n pool mark own at there. (let same = by_slot k b n f is (ap name_in at) in same.pool ∙ held.on b n pool mark own at (sym (ap is_some same.list) ∙ there));
    incoming = held.incoming;
  }) where
    still : (id : BucketId) → IsName (brigade_of old) (next_name old) id → IsName (brigade_of new) (next_name new) id
    still id name = record {
      young = let a = name.young in let rises = left.rises in omega arith;
      only = λ j there same. name.only j (left.names j there (let a = name.young in omega (arith, a, same))) same;
    }

  -- and its filters and calls stand as they did.
  pub stacked_same : IsStacked chain new e
  stacked_same = record {
    many = stacked.many;
    within = stacked.within;
    queue = stacked.queue;
    held = held_same;
    apart = stacked.apart;
    called = stacked.called;
    brought = λ m f is named. (let was = stacked.brought m f is named in let same = by_slot e.first 8 m f is named in (same.pool ∙ was.0, ap is_some same.list ∙ was.1));
    whole = λ out m f is named. (let same = by_slot (top_of e) 8 m f is named in subst (λ (o : Option Items). AreWhole (option_map_or (λ bs. bs) o [])) (sym same.list) (stacked.whole out m f is named));
  }
