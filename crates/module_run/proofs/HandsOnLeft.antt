-- What a pass to the next filter leaves of a connection.
use Rattle.std.proofs.Common.{length, ◌≡◌, ℕ, ◌+◌, ◌<◌, ◌≤◌, Bool, true, false, List, [], Option, Some, None, is_some, refl, sym, ◌∙◌, ap, subst, inl, inr, arith}
use Rattle.std.specs.Prelude.{if◌then◌else◌}
use Rattle.std.specs.Global.{Vec}
use Rattle.std.proofs.lemmas.Bool.{cases_eq}
use Rattle.module_code.specs.Program.{Program}
use Rattle.module_code.specs.declared.instr.Instr.TheVariants as instr
use Rattle.bucket_kinds.specs.Device.{Device}
use Rattle.bucket_ring.specs.declared.names.BucketId.{BucketId}
use Rattle.bucket_ring.specs.declared.rings.Rings.{Ghosts}
use Rattle.bucket_ring.specs.Lists as ring
use Rattle.bucket_ring.specs.Kept.{NoneRevived, once_in}
use Rattle.run_model.specs.declared.bucket.Mark.TheVariants.{Usable}
use Rattle.run_model.specs.declared.event.Stepped.TheVariants as stepped
use Rattle.run_model.specs.declared.payload.Payload.{Payload}
use Rattle.run_model.specs.Chains.{Frame, Linked, is_last, module_at, next_place}
use Rattle.run_model.specs.Effects.{do_pass}
use Rattle.run_model.specs.Passing.{delivered_by, passed_to, proceeds}
use Rattle.run_model.specs.State.{items_of, set_brigade, fresh_call}
use Rattle.pool_tree.specs.declared.tree.PoolTree.{PoolTree}
use Rattle.pool_tree.specs.Tree.{map_of}
use Rattle.bucket_kinds.specs.declared.stored.Stored.{Stored}
use Rattle.brigade_ops.specs.declared.store.Brigades.{Brigades}
use Rattle.brigade_ops.specs.House.{IsHouse}
use Rattle.bucket_store.specs.Items.{Items}
use Rattle.brigade_ops.specs.Store.{lists, brigade_of, pool_of, references, next_name}
use Rattle.interp_state.specs.declared.machine.Instance.{Instance}
use Rattle.interp_state.specs.declared.machine.Call.{Call}
use Rattle.interp_state.specs.declared.machine.Slot.{Slot}
use Rattle.interp_state.specs.declared.machine.Slot.TheVariants as slot
use Rattle.module_run.specs.declared.conn.Filter.{Filter}
use Rattle.module_run.specs.declared.conn.Conn.{Conn}
use Rattle.interp_state.specs.ContextViews.{ContextView}
use Rattle.module_run.specs.Conns.{filter_at, place_in, top_of, shown_call}
use Rattle.interp_calls.specs.Delivery.{IfElse, ReadsGiven}
use Rattle.interp_calls.specs.Handed.{lent}
use Rattle.interp_state.specs.Held.{IsHeld, WasGiven}
use Rattle.module_run.specs.Proceeding.{IsReady, LeftAs, RefinesStep}
use Rattle.interp_state.specs.Seen.{seen, calls_in, is_running, shown_slot}
use Rattle.interp_state.specs.Slots.{name_in, live_in}
use Rattle.module_run.specs.Stacked.{IsStacked, called_of, named_at}
use Rattle.run_model.specs.Pools.{is_in}
use Rattle.module_run.proofs.Callers.{called_low, first_below, in_get, not_called}
use Rattle.module_run.proofs.CanPass.{passer, passer_alone, passes_there, names_known, next_is, not_last, next_there, next_alone}
use Rattle.interp_state.proofs.Changes.{ring_here, ring_off}
use Rattle.module_run.proofs.HandsOn.{HandsOn, HasNamesBelow, changed, same_some, top_rises, apart_after, named_top}
use Rattle.module_run.proofs.HandsOnCalls.{called_after}
use Rattle.module_run.proofs.HandsOnSeen.{seen_after}
use Rattle.module_run.proofs.MoreCalls.{all_older}

-- A call began in a store: its loose buckets are a new ring.
pub record OneMore {R : Type 0} {g : Ghosts R Stored} (old new : Brigades R g) : Type 0 where
  pub out : (n : ℕ) → lists new n ≡ ring.upd (lists old) (next_name old) (Some []) n
  pub next : next_name new ≡ next_name old + 1
  pub names : NoneRevived (brigade_of old) (brigade_of new) (next_name old)
  pub pools : pool_of new ≡ pool_of old
  pub references : references new ≡ references old

module _ {R : Type 0} {g : Ghosts R Stored} (old new : Brigades R g) (more : OneMore old new) where
  pub lists_kept : (n : ℕ) → n < next_name old → lists new n ≡ lists old n
  lists_kept n below = more.out n ∙ ring_off (lists old) (next_name old) n (Some []) (λ e. omega (arith, below, e))

  still_there : (n : ℕ) → is_some (lists old n) ≡ true → is_some (lists new n) ≡ true
  still_there n there = elim (cases_eq n (next_name old)) [
    | inl q ↦ ap is_some (more.out n ∙ (ap (ring.upd (lists old) (next_name old) (Some [])) q ∙ ring_here (lists old) (next_name old) (Some [])))
    | inr ne ↦ ap is_some (more.out n ∙ ring_off (lists old) (next_name old) n (Some []) ne) ∙ there
  ]

  -- a brigade that a variable names is there still
  pub live_more : (s : Slot) → ((n : ℕ) → name_in s ≡ Some n → n < next_name old) → is_some (live_in (lists old) s) ≡ true → is_some (live_in (lists new) s) ≡ true
  live_more slot.Null below there = there
  live_more (slot.Made n pool mark) below there = ap (λ (o : Option Items). is_some (live_in (λ (j : ℕ). o) (slot.Made n pool mark))) (lists_kept n (below n refl)) ∙ there

  -- what is held of others
  pub held_more : (i : Instance) (call : Call) → IsHeld old i call → IsHeld new i call
  held_more i call held = record {
    apart = held.apart;
    loose = held.loose;
    given = λ c id is. kept id (held.given c id is);
    named = λ b n is. (let a = held.named b n is in let r = more.next in omega (arith, a, r));
    real = held.real;
    called = (let a = held.called in let r = more.next in omega (arith, a, r));
    runs = λ real. ap is_some (lists_kept call.name held.called) ∙ held.runs real;
    free = ap (λ (f : ℕ → Option ℕ). f call.name) more.pools ∙ held.free;
    on = λ b n pool mark own is there. ap (λ (f : ℕ → Option ℕ). f n) more.pools ∙ held.on b n pool mark own is (sym (ap is_some (lists_kept n (held.named b n (ap name_in is)))) ∙ there);
    incoming = held.incoming;
  } where
    kept : (id : BucketId) → WasGiven old id → WasGiven new id
    kept id name = record {
      young = (let a = name.young in let r = more.next in omega (arith, a, r));
      only = λ j there e. name.only j (more.names j there (let b = name.young in omega (arith, b, e))) e;
    }

module _ {R : Type 0} {g : Ghosts R Stored} (chain : List Program) (b l : ℕ) (tree : PoolTree Payload) (old new : Brigades R g) (d : Device) (c : Conn) (v : Linked) (f : Frame) (rest : List Frame)
    (ready : IsReady chain (instr.Pass b l) tree old d c v f rest) (to : ℕ) (inside : to < length chain) (next : (rings : ℕ → Option Items) → to ≡ place_in chain rings c (top_of c + 1)) (more : OneMore old new)
    (fs : Vec Filter) (cs ws : Vec ℕ) (m : ℕ) (y z : Filter) where
  abbrev x : Filter
  x = (passer chain b l tree old d c v f rest ready).filter

  abbrev e : Filter
  e = (next_there chain b l tree old d c v f rest ready to inside next).0

  module _ (h : HandsOn c fs cs ws to (next_name old) b m x e y z) (here : IsHeld new y.instance y.call) (there : IsHeld new z.instance z.call) where
    old_left : LeftAs chain tree old d c v
    old_left = ready.stands.left

    names : HasNamesBelow c (next_name old)
    names = names_known chain b l tree old d c v f rest ready

    called_under : (j : ℕ) → is_in j cs.items ≡ true → j ≤ top_of c
    called_under j there = (let i = in_get (called_of c) j (ap (is_in j) (sym h.callers) ∙ there) in called_low chain c old_left.stacked.called i.0 j i.1)

    next_real : 0 < next_name old
    next_real = (let a = names.calls (top_of c) x h.top in omega (arith, a))

    stacked_after : IsStacked chain new (changed c fs cs ws to)
    stacked_after = record {
      many = h.many ∙ old_left.stacked.many;
      within = (let r = top_rises c fs cs ws to (next_name old) b m x e y z h in omega (arith, r, inside));
      queue = old_left.stacked.queue;
      held = held_each;
      apart = apart_after c fs cs ws to (next_name old) b m x e y z h names old_left.stacked.apart (not_called chain c old_left.stacked.called) old_left.stacked.called.incoming;
      called = called_after chain c fs cs ws to (next_name old) b m l x e y z h inside next_real (passes_there chain b l tree old d c v f rest ready) old_left.stacked.called;
      brought = brought_in;
      whole = λ out k n is named. absurd (let r = top_rises c fs cs ws to (next_name old) b m x e y z h in omega (arith, out, r, inside));
    } where
      at_top : (j : ℕ) (n : Filter) → filter_at (changed c fs cs ws to) j ≡ Some n → j ≡ top_of c → y ≡ n
      at_top j n is q = same_some y n (sym h.top_after ∙ (ap (filter_at (changed c fs cs ws to)) (sym q) ∙ is))

      held_each : (j : ℕ) (n : Filter) → filter_at (changed c fs cs ws to) j ≡ Some n → IsHeld new n.instance n.call
      held_each j n is = elim (cases_eq j (top_of c)) [
        | inl q ↦ subst (λ (t : Filter). IsHeld new t.instance t.call) (at_top j n is q) here
        | inr ne ↦ elim (cases_eq j to) [
          | inl q ↦ subst (λ (t : Filter). IsHeld new t.instance t.call) (same_some z n (sym h.behind_after ∙ (ap (filter_at (changed c fs cs ws to)) (sym q) ∙ is))) there
          | inr off ↦ held_more old new more n.instance n.call (old_left.stacked.held j n (sym (h.others j ne off) ∙ is))
        ]
      ]

      still_brought : (k : ℕ) (n : Filter) → filter_at c c.first ≡ Some n → named_at n 8 ≡ Some k → (pool_of new k ≡ None) × (is_some (lists new k) ≡ true)
      still_brought k n is named = (let was = old_left.stacked.brought k n is named in
          (ap (λ (f : ℕ → Option ℕ). f k) more.pools ∙ was.0, still_there old new more k was.1))

      brought_in : (k : ℕ) (n : Filter) → filter_at (changed c fs cs ws to) c.first ≡ Some n → named_at n 8 ≡ Some k → (pool_of new k ≡ None) × (is_some (lists new k) ≡ true)
      brought_in k n is named = elim (cases_eq c.first (top_of c)) [
        | inl q ↦ still_brought k x (ap (filter_at c) q ∙ h.top) (sym (named_top c fs cs ws to (next_name old) b m x e y z h 8) ∙ (ap (λ (t : Filter). named_at t 8) (at_top c.first n is q) ∙ named))
        | inr ne ↦ still_brought k n (sym (h.others c.first ne (λ r. let low = first_below chain c old_left.stacked.called in let l = h.later in omega (arith, r, low, l))) ∙ is) named
      ]

    house_after : IsHouse new (map_of tree)
    house_after = record {
      held = λ name p. old_left.house.held name p ∙ ap (λ (f : ℕ → Option ℕ). once_in p (f name)) (sym more.pools);
      there = λ name p on. still_there old new more name (old_left.house.there name p (ap (λ (f : ℕ → Option ℕ). f name) (sym more.pools) ∙ on));
      referred = λ file. ap (λ (f : ℕ → ℕ). f file) more.references ∙ old_left.house.referred file;
    }

    module _ (lends : (view : ContextView) (call : Call) → lent b (seen new view y.instance call) ≡ do_pass b (seen new view x.instance call))
        (takes : (view : ContextView) (call : Call)
        → seen new view z.instance call ≡ set_brigade 8 (shown_slot (calls_in view call) (lists new) (slot.Made m None Usable)) (seen new view e.instance call))
        (live : is_some (lists old m) ≡ true)
        (begun : (waits : List ℕ) → shown_call (is_running z.call.name waits) (lists new) z.call ≡ fresh_call (next_name old))
        (at : z.call.pc ≡ (module_at chain to).main) where
      left_after : LeftAs chain tree new d (changed c fs cs ws to) (passed_to (module_at chain to) to b f rest v)
      unfolding passed_to
      left_after = record {
        seen = seen_after (lists old) (lists new) (next_name old) (next_name new) c fs cs ws to b m x e y z h names called_under (lists_kept old new more) (all_older old) live
            (passer_alone chain b l tree old d c v f rest ready) (next_alone chain b l tree old d c v f rest ready to inside next) lends takes
            (module_at chain to).main f rest (passer chain b l tree old d c v f rest ready) begun at (map_of tree) v (module_at chain to) refl more.next old_left.seen;
        opens = old_left.opens;
        formed = old_left.formed;
        house = house_after;
        references = λ file pos. old_left.references file (subst (λ (n : ℕ). 0 < n) (ap (λ (f : ℕ → ℕ). f file) more.references) pos);
        none = lists_kept old new more 0 next_real ∙ old_left.none;
        stacked = stacked_after;
      }

      pub hands_on : RefinesStep chain (instr.Pass b l) d d v f rest tree new (changed c fs cs ws to) stepped.Went
      unfolding proceeds
      hands_on = record {
        reads = λ n. None;
        told = subst (λ (t : Bool). IfElse t (IfElse v.1.out.ended (d ≡ d) (ReadsGiven d d (items_of ((v.1.instances f.of).brigades b)) (λ n. None) 0)) (d ≡ d)) (sym last) refl;
        closed = tt;
        answers = refl;
        left = subst (λ (w : Linked). LeftAs chain tree new d (changed c fs cs ws to) w) (sym goes) left_after;
      } where
        last : is_last chain v.1 f.of ≡ false
        last = not_last chain b l tree old d c v f rest ready to inside next

        towards : ℕ → Linked
        towards n = passed_to (module_at chain n) n b f rest v

        goes : (proceeds chain (λ n. None) (instr.Pass b l) f rest v).1 ≡ passed_to (module_at chain to) to b f rest v
        goes =
            ap (λ (t : Bool). if t then delivered_by (module_at chain f.of) (λ n. None) b (instr.Pass b l) f rest v else towards (next_place chain v.1 f.of)) last
            ∙ ap towards (next_is chain b l tree old d c v f rest ready to inside next)
