-- A call returns to the one that waits, over the store.
use Rattle.std.proofs.Common.{◌≡◌, ◌≢◌, ℕ, ◌<◌, true, List, ◌∷◌, length, Option, Some, None, is_some, refl, sym, ap, subst, ◌∙◌, arith, [], ◌++◌}
use Rattle.std.specs.Prelude.{All}
use Rattle.std.specs.Global.{Vec}
use Rattle.bucket_ring.specs.declared.rings.Rings.{Ghosts}
use Rattle.bucket_ring.specs.Kept.{NoneRevived, once_in}
use Rattle.bucket_kinds.specs.Device.{Device}
use Rattle.module_code.specs.Program.{Program}
use Rattle.module_code.specs.declared.instr.Instr.TheVariants as instr
use Rattle.module_code.specs.declared.instr.Status.{Status}
use Rattle.run_model.specs.declared.event.Stepped.{Stepped}
use Rattle.run_model.specs.declared.event.Stepped.TheVariants as stepped
use Rattle.run_model.specs.declared.payload.Payload.{Payload}
use Rattle.run_model.specs.Chains.{Frame, Connection, Linked, module_at}
use Rattle.model_laws.specs.ChainSound.{IsFramePlaced, WaitsAtPass}
use Rattle.run_model.specs.Passing.{returns, went}
use Rattle.run_model.specs.Steps.{current}
use Rattle.pool_tree.specs.declared.tree.PoolTree.{PoolTree}
use Rattle.pool_tree.specs.Tree.{map_of}
use Rattle.bucket_kinds.specs.declared.stored.Stored.{Stored}
use Rattle.brigade_ops.specs.declared.store.Brigades.{Brigades}
use Rattle.brigade_ops.specs.House.{AreHoused, IsHouse}
use Rattle.brigade_ops.specs.Store.{lists, brigade_of, pool_of, references, next_name}
use Rattle.module_run.specs.declared.conn.Conn.{Conn}
use Rattle.module_run.specs.declared.conn.Filter.{Filter}
use Rattle.module_run.specs.Conns.{conn_of, filter_at, runs_of, shown_frame, stack_over, top_of}
use Rattle.interp_state.specs.Held.{IsHeld}
use Rattle.module_run.specs.Proceeding.{IsReady, RefinesReturn, LeftAs}
use Rattle.interp_state.proofs.Changes.{ring_off}
use Rattle.module_run.proofs.Callers.{over_pushed}
use Rattle.module_run.proofs.GivenBack.{GivesBack, returned_is, runs_top, with_calls}
use Rattle.module_run.proofs.StackedBack.{stacked_back}
use Rattle.module_run.proofs.TopFilter.{on_top_of, top_frame}
use Rattle.module_run.proofs.Tops.{frame_at}

module _ {R : Type 0} {g : Ghosts R Stored} (chain : List Program) (s : Status) (tree : PoolTree Payload) (store : Brigades R g) (device : Device) (c : Conn) (v : Linked) (f : Frame)
    (rest : List Frame)
    (ready : IsReady chain (instr.Ret s) tree store device c v f rest) where
  -- the frames of the calls that wait
  below_frames : (left : List ℕ) (w : ℕ) (t : Filter) → c.callers.items ≡ left ++ w ∷ [] → filter_at c w ≡ Some t
      → rest ≡ shown_frame (runs_of c) (lists store) w (Some t) ∷ stack_over (frame_at (lists store) c) left
  below_frames left w t many is =
      let o = on_top_of chain (instr.Ret s) tree store device c v f rest ready in
      o.below ∙ (ap (stack_over (frame_at (lists store) c)) many
      ∙ (over_pushed (frame_at (lists store) c) left w
      ∙ ap (λ (h : Option Filter). shown_frame (runs_of c) (lists store) w h ∷ stack_over (frame_at (lists store) c) left) is))

  -- the one that waits stands at an instruction of its module
  pub wait_placed : (left : List ℕ) (w : ℕ) (t : Filter) → c.callers.items ≡ left ++ w ∷ [] → filter_at c w ≡ Some t → t.call.pc < length (module_at chain w).code
  wait_placed left w t many is = (placed 1 f (omega arith)).at where
    placed : All (IsFramePlaced chain v.1.req) (f ∷ shown_frame (runs_of c) (lists store) w (Some t) ∷ stack_over (frame_at (lists store) c) left)
    placed = subst (All (IsFramePlaced chain v.1.req)) (ready.on_top ∙ ap (λ (fs : List Frame). f ∷ fs) (below_frames left w t many is)) ready.stands.lawful.sound.calls.placed

  -- at its pass
  pub wait_passes : (left : List ℕ) (w : ℕ) (t : Filter) → c.callers.items ≡ left ++ w ∷ [] → filter_at c w ≡ Some t → (b : ℕ) × (l : ℕ) × (current (module_at chain w) t.call.pc ≡ instr.Pass b l)
  wait_passes left w t many is = passes 0 f (omega arith) where
    passes : All (WaitsAtPass chain) (shown_frame (runs_of c) (lists store) w (Some t) ∷ stack_over (frame_at (lists store) c) left)
    passes = subst (All (WaitsAtPass chain)) (below_frames left w t many is) (ready.stands.lawful.sound.calls.waiting f rest ready.on_top)

  module _ (new : Brigades R g) (filters : Vec Filter) (callers waits : Vec ℕ) (w : ℕ) (x : GivesBack chain s (lists store) (lists new) c (with_calls c filters callers waits w) w)
      (next : next_name new ≡ next_name store) (pools : pool_of new ≡ pool_of store) (refs : references new ≡ references store)
      (names : NoneRevived (brigade_of store) (brigade_of new) (next_name store))
      (held : IsHeld new x.ended.instance x.ended.call) where
    abbrev after : Linked
    after = (v.0, conn_of (map_of tree) (lists new) v.1.opened (with_calls c filters callers waits w))

    top_is : filter_at c (top_of c) ≡ Some x.top
    top_is = x.on_top

    proceeds_is : returns chain s f rest v ≡ (stepped.Went, after)
    proceeds_is =
        let left = ready.stands.left in
        ap (λ (h : Frame). returns chain s h rest v)
        (top_frame chain (instr.Ret s) tree store device c v f rest ready x.top top_is)
        ∙ (ap (λ (fs : List Frame). returns chain s (shown_frame (runs_of c) (lists store) (top_of c) (Some x.top)) fs v) (below_frames x.left w x.wait x.callers x.below)
        ∙ (ap (λ (C : Connection). returns chain s (shown_frame (runs_of c) (lists store) (top_of c) (Some x.top))
        (shown_frame (runs_of c) (lists store) w (Some x.wait) ∷ stack_over (frame_at (lists store) c) x.left) (v.0, C)) left.seen.conn
        ∙ ap went (returned_is chain s (brigade_of store) (lists store) (lists new) (pool_of store) (next_name store) c filters callers waits w left.stacked x (map_of tree) v.1.opened v.0)))

    house : IsHouse new (map_of tree)
    house = record {
      held = λ name p. ready.stands.left.house.held name p ∙ ap (λ (q : ℕ → Option ℕ). once_in p (q name)) (sym pools);
      there = there;
      referred = λ file. ap (λ (r : ℕ → ℕ). r file) refs ∙ ready.stands.left.house.referred file;
    } where
      there : (name p : ℕ) → pool_of new name ≡ Some p → is_some (lists new name) ≡ true
      there name p is = ap is_some (x.rings name ∙ ring_off (lists store) x.top.call.name name None off) ∙ ready.stands.left.house.there name p was where
        was : pool_of store name ≡ Some p
        was = ap (λ (q : ℕ → Option ℕ). q name) (sym pools) ∙ is

        off : name ≢ x.top.call.name
        off e = (let n : None ≡ Some p = sym (ready.stands.left.stacked.held (top_of c) x.top x.on_top).free ∙ (ap (pool_of store) (sym e) ∙ was) in cc)

    left_after : LeftAs chain tree new device (with_calls c filters callers waits w) after
    unfolding conn_of
    left_after =
        let left = ready.stands.left in
        record {
          seen = record { pools = left.seen.pools; given = left.seen.given ∙ sym next; conn = refl };
          opens = left.opens;
          formed = left.formed;
          house = house;
          references = subst (λ (r : ℕ → ℕ). Rattle.brigade_ops.specs.House.AreOpen r device) (sym refs) left.references;
          none = x.rings 0 ∙ (ring_off (lists store) x.top.call.name 0 None
              (λ e. (let p = runs_top chain s (brigade_of store) (lists store) (lists new) (pool_of store) (next_name store) c filters callers waits w left.stacked x in omega (arith, p, e))) ∙ left.none);
          stacked = stacked_back chain s (brigade_of store) (brigade_of new) (lists store) (lists new) (pool_of store) (pool_of new) (next_name store)
              (next_name new) c filters callers waits w left.stacked x next pools names held;
        }

    pub returning : RefinesReturn chain s device v f rest tree new (with_calls c filters callers waits w) stepped.Went
    returning = record {
      answers = ap (λ (z : Stepped × Linked). z.0) proceeds_is;
      left = subst (LeftAs chain tree new device (with_calls c filters callers waits w)) (sym (ap (λ (z : Stepped × Linked). z.1) proceeds_is)) left_after;
    }
