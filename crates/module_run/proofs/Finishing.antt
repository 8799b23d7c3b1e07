-- A call returns that none waits for, over the store: what both ways on have in common.
use Rattle.std.proofs.Common.{◌≡◌, ◌≢◌, ℕ, zero, suc, ◌+◌, ◌<◌, ◌≤◌, true, List, [], ◌∷◌, length, Option, Some, None, is_some, refl, sym, ap, subst, ◌∙◌, inl, inr, arith}
use Rattle.bucket_ring.specs.declared.rings.Rings.{Ghosts}
use Rattle.bucket_ring.specs.Kept.{once_in}
use Rattle.bucket_kinds.specs.Device.{Device}
use Rattle.module_code.specs.Program.{Program}
use Rattle.module_code.specs.declared.instr.Instr.TheVariants as instr
use Rattle.module_code.specs.declared.instr.Status.{Status}
use Rattle.run_model.specs.declared.bucket.BrigadeVar.{BrigadeVar}
use Rattle.run_model.specs.declared.bucket.BrigadeVar.TheVariants as var
use Rattle.run_model.specs.declared.event.Stepped.{Stepped}
use Rattle.run_model.specs.declared.payload.Payload.{Payload}
use Rattle.run_model.specs.Chains.{Frame, Connection, Linked}
use Rattle.run_model.specs.Effects.{handed_over}
use Rattle.run_model.specs.Passing.{returned_from, returns}
use Rattle.run_model.specs.State as model
use Rattle.run_model.proofs.Updates.{upd_either}
use Rattle.pool_tree.specs.declared.tree.PoolTree.{PoolTree}
use Rattle.pool_tree.specs.Tree.{map_of}
use Rattle.bucket_kinds.specs.declared.stored.Stored.{Stored}
use Rattle.brigade_ops.specs.declared.store.Brigades.{Brigades}
use Rattle.brigade_ops.specs.House.{AreOpen, IsHouse}
use Rattle.bucket_store.specs.Items.{Items}
use Rattle.brigade_ops.specs.Store.{lists, pool_of, references, next_name}
use Rattle.brigade_ops.proofs.Stores.{brigades}
use Rattle.module_run.specs.declared.conn.Conn.{Conn}
use Rattle.module_run.specs.declared.conn.Filter.{Filter}
use Rattle.interp_state.specs.declared.machine.Instance.{Instance}
use Rattle.interp_state.specs.declared.machine.Slot.{Slot}
use Rattle.interp_state.specs.declared.machine.Slot.TheVariants as slot
use Rattle.module_run.specs.Conns.{IsSeenAs, conn_of, filter_at, lent_by, runs_of, shown_filter, shown_frame, shown_instance, stack_over, top_of, waiting}
use Rattle.module_run.specs.Proceeding.{IsReady, RefinesReturn, LeftAs}
use Rattle.interp_state.specs.Seen.{shown_as, shown_slot}
use Rattle.interp_state.specs.Slots.{slot_at}
use Rattle.module_run.specs.Stacked.{IsStacked}
use Rattle.module_run.proofs.EndedLast.{EndsLast, HasNine}
use Rattle.module_run.proofs.Callers.{first_alone, no_callers}
use Rattle.module_run.proofs.TopFilter.{on_top_of, top_frame}
use Rattle.module_run.proofs.Tops.{frame_at, instances_are}

slot_null : (runs : ℕ → Rattle.std.proofs.Common.Bool) (L : ℕ → Option Items) (s : Slot) → shown_slot runs L s ≡ var.Null → s ≡ slot.Null
slot_null runs L slot.Null e = refl
slot_null runs L (slot.Made n pool mark) e = absurd (go (L n) e) where
  go : (o : Option Items) → shown_as runs n pool mark o ≡ var.Null → ⊥
  go None is = (let z = is in cc)
  go (Some xs) is = (let z = is in cc)

handed_null : (v : BrigadeVar) → handed_over v ≡ var.Null → v ≡ var.Null
handed_null var.Null e = refl
handed_null var.Gone e = absurd (cc)
handed_null (var.Live v) e = absurd (cc)

null_slot : (runs : ℕ → Rattle.std.proofs.Common.Bool) (L : ℕ → Option Items) (i : Instance) (b : ℕ) (o : Option ℕ) → (lent_by o (shown_instance runs L i)).brigades b ≡ var.Null
    → slot_at i b ≡ slot.Null
null_slot runs L i b None e = slot_null runs L (slot_at i b) e
null_slot runs L i b (Some a) e = elim (upd_either was a b (handed_over (was a))) [
  | inl p ↦ ap (slot_at i) p.0 ∙ slot_null runs L (slot_at i a) (handed_null (was a) (sym p.1 ∙ e))
  | inr p ↦ slot_null runs L (slot_at i b) (sym p.1 ∙ e)
] where
  was : ℕ → BrigadeVar
  was k = shown_slot runs L (slot_at i k)

module _ {R : Type 0} {g : Ghosts R Stored} (chain : List Program) (s : Status) (tree : PoolTree Payload) (store : Brigades R g) (device : Device) (c : Conn) (v : Linked) (f : Frame)
    (rest : List Frame)
    (ready : IsReady chain (instr.Ret s) tree store device c v f rest) (none : waiting c ≡ 0) where
  pub nine : HasNine c
  nine k b h is past = null_slot (runs_of c) (lists store) h.instance b h.lent
      (sym (ap (λ (o : Option Filter). (shown_filter (runs_of c) (lists store) o).brigades b) is)
      ∙ (sym (ap (λ (is : ℕ → model.Instance). (is k).brigades b) (instances_are (map_of tree) (lists store) (next_name store) c v ready.stands.left.seen))
      ∙ ready.stands.lawful.sound.names.slots k b past))

  pub top_first : top_of c ≡ c.first
  top_first = first_alone chain c ready.stands.left.stacked.called none

  pub rest_none : rest ≡ []
  unfolding stack_over
  rest_none = (on_top_of chain (instr.Ret s) tree store device c v f rest ready).below ∙ ap (stack_over (frame_at (lists store) c)) (no_callers c.callers.items none)

  pub returned_so : (t : Filter) → filter_at c c.first ≡ Some t
      → returns chain s f rest v ≡ returned_from chain s (shown_frame (runs_of c) (lists store) c.first (Some t)) (v.0, conn_of (map_of tree) (lists store) v.1.opened c)
  returned_so t is =
      ap (λ (h : Frame). returns chain s h rest v)
      (top_frame chain (instr.Ret s) tree store device c v f rest ready t (ap (filter_at c) top_first ∙ is) ∙ ap (λ (n : ℕ). shown_frame (runs_of c) (lists store) n (Some t)) top_first)
      ∙ (ap (λ (fs : List Frame). returns chain s (shown_frame (runs_of c) (lists store) c.first (Some t)) fs v) rest_none
      ∙ ap (λ (C : Connection). returned_from chain s (shown_frame (runs_of c) (lists store) c.first (Some t)) (v.0, C)) ready.stands.left.seen.conn)

  no_pool : (n : ℕ) (o : Option ℕ) → pool_of store n ≡ o → next_name store ≤ n → o ≡ None
  no_pool n None is past = refl
  no_pool n (Some p) is past = absurd (let a = brigades store n (ready.stands.left.house.there n p is) in omega (arith, a, past))

  -- a name that was not given out is on no pool
  pub new_free : pool_of store (next_name store) ≡ None
  new_free = no_pool (next_name store) (pool_of store (next_name store)) refl (omega arith)

  module _ (new : Brigades R g) (d : Conn) (x : EndsLast (lists store) (lists new) (next_name store) c d) (pools : pool_of new ≡ pool_of store) (refs : references new ≡ references store) where
    same_on : (n p : ℕ) → pool_of store n ≡ Some p → lists new n ≡ lists store n
    same_on n p is = x.rings n (brigades store n (ready.stands.left.house.there n p is))
        (λ e. let z : None ≡ Some p = sym (ready.stands.left.stacked.held c.first x.top x.on_top).free ∙ (ap (pool_of store) (sym e) ∙ is) in cc)
        (λ e. let z : None ≡ Some p = sym (ready.stands.left.stacked.brought n x.top x.on_top e).0 ∙ is in cc)

    house : IsHouse new (map_of tree)
    house = record {
      held = λ name p. ready.stands.left.house.held name p ∙ ap (λ (q : ℕ → Option ℕ). once_in p (q name)) (sym pools);
      there = λ name p is. let was : pool_of store name ≡ Some p = ap (λ (q : ℕ → Option ℕ). q name) (sym pools) ∙ is in ap is_some (same_on name p was) ∙ ready.stands.left.house.there name p was;
      referred = λ file. ap (λ (r : ℕ → ℕ). r file) refs ∙ ready.stands.left.house.referred file;
    }

    none_0 : lists new 0 ≡ None
    none_0 = x.rings 0 (let a = h.called in omega (arith, a)) (λ e. let p = runs in omega (arith, p, e)) (λ e. let p = h.real 8 0 e in omega (arith, p)) ∙ ready.stands.left.none where
      h : Rattle.interp_state.specs.Held.IsHeld store x.top.instance x.top.call
      h = ready.stands.left.stacked.held c.first x.top x.on_top

      runs : 0 < x.top.call.name
      runs = Rattle.module_run.proofs.TopFilter.top_runs chain (instr.Ret s) tree store device c v f rest ready x.top (ap (filter_at c) top_first ∙ x.on_top)

    -- what it leads to
    pub led : (answer : Stepped) (after : Linked) → returns chain s f rest v ≡ (answer, after) → after.1.opened ≡ v.1.opened
        → IsSeenAs (map_of tree) (lists new) (next_name new) d after
        → IsStacked chain new d → RefinesReturn chain s device v f rest tree new d answer
    led answer after so opened seen stacked = record {
      answers = ap (λ (z : Stepped × Linked). z.0) so;
      left = subst (LeftAs chain tree new device d) (sym (ap (λ (z : Stepped × Linked). z.1) so)) left_after;
    } where
      left_after : LeftAs chain tree new device d after
      left_after = record {
        seen = seen;
        opens = λ file bytes is. ready.stands.left.opens file bytes (sym (ap (λ (o : ℕ → Option (List ℕ)). o file) opened) ∙ is);
        formed = ready.stands.left.formed;
        house = house;
        references = subst (λ (r : ℕ → ℕ). AreOpen r device) (sym refs) ready.stands.left.references;
        none = none_0;
        stacked = stacked;
      }
