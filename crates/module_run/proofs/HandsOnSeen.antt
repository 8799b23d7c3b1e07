-- What a connection reads as after a pass to the next filter.
use Rattle.std.proofs.Common.{◌≡◌, ◌≢◌, ◌==◌, ℕ, zero, suc, ◌+◌, ◌-◌, ◌<◌, ◌≤◌, ◌||◌, Bool, true, false, List, [], ◌∷◌, ◌++◌, Option, Some, None, is_some, refl, sym, ◌∙◌, ap, inl, inr, arith}
use Rattle.std.specs.Prelude.{if◌then◌else◌}
use Rattle.std.specs.Global.{Vec}
use Rattle.std.specs.List.{list_any}
use Rattle.std.proofs.Math.Path.{fun_ext}
use Rattle.std.proofs.lemmas.Bool.{cases_eq, ne_eqb, false≢true}
use Rattle.std.proofs.lemmas.List.Folds.{list_any-append}
use Rattle.module_code.specs.Program.{Program}
use Rattle.run_model.specs.declared.bucket.BrigadeVar.{BrigadeVar}
use Rattle.run_model.specs.declared.bucket.Mark.{Mark}
use Rattle.run_model.specs.declared.bucket.Mark.TheVariants.{Usable}
use Rattle.run_model.specs.declared.payload.Payload.{Payload}
use Rattle.run_model.specs.Buckets.{has_eos}
use Rattle.run_model.specs.Effects.{do_pass, handed_over}
use Rattle.run_model.specs.Indexed.{upd}
use Rattle.run_model.specs.Pools.{Pools}
use Rattle.run_model.specs.State as model
use Rattle.run_model.specs.State.{Configuration, items_of, set_brigade, fresh_call}
use Rattle.run_model.specs.Chains.{Frame, Connection, Linked, configuration}
use Rattle.run_model.specs.Passing.{handed_in, set_in, passed_to}
use Rattle.run_model.proofs.Updates.{upd_at, upd_off}
use Rattle.bucket_store.specs.Items.{Items}
use Rattle.interp_state.specs.declared.machine.Call.{Call}
use Rattle.interp_state.specs.declared.machine.Slot.{Slot}
use Rattle.interp_state.specs.declared.machine.Slot.TheVariants as slot
use Rattle.module_run.specs.declared.conn.Filter.{Filter}
use Rattle.module_run.specs.declared.conn.Conn.{Conn}
use Rattle.interp_state.specs.ContextViews.{ContextView}
use Rattle.module_run.specs.Conns.{modules_of, conn_of, IsSeenAs, filter_at, call_name, top_of, runs_of, counting, stack_over, stack_of, shown_frame, shown_filter, shown_instance, shown_call, lent_by}
use Rattle.interp_calls.specs.Handed.{lent}
use Rattle.interp_state.specs.Seen.{seen_over, calls_in, is_running, shown_as, shown_slot}
use Rattle.interp_state.specs.Slots.{slot_at}
use Rattle.interp_state.proofs.Changes.{name_is}
use Rattle.module_run.proofs.HandsOn.{HandsOn, HasNamesBelow, changed, top_rises}
use Rattle.module_run.proofs.MoreCalls.{AreOlder, amid, more_slot, more_instance, more_filter, more_frame}
use Rattle.run_model.specs.Pools.{is_in}
use Rattle.module_run.proofs.Callers.{frames_same, over_pushed}
use Rattle.module_run.proofs.Tops.{OnTop, frame_at, instances_are}

-- an instance that passed its brigade b
abbrev passing : ℕ → model.Instance → model.Instance
passing b i = record i { brigades = upd i.brigades b (handed_over (i.brigades b)); sent = i.sent || has_eos (items_of (i.brigades b)) }

-- the instances once that of the filter k passed its brigade b to the filter n
abbrev handed : (ℕ → model.Instance) → ℕ → ℕ → ℕ → ℕ → model.Instance
handed is k n b = let here = upd is k (passing b (is k)) in upd here n (set_in (handed_in ((is k).brigades b)) (here n))

-- one more call runs, and waits for none
running_more : (k t : ℕ) (waits : List ℕ) (n : ℕ) → n ≢ k → is_running k (waits ++ t ∷ []) n ≡ is_running t waits n
running_more k t waits zero ne = refl
running_more k t waits (suc n) ne =
    ap (λ s. s || list_any (λ w. suc n == w) (waits ++ t ∷ [])) (ne_eqb (suc n) k ne)
    ∙ (list_any-append (λ w. suc n == w) waits (t ∷ []) ∙ swap (list_any (λ w. suc n == w) waits) (suc n == t)) where
      swap : (a s : Bool) → (a || (s || false)) ≡ (s || a)
      swap true true = refl
      swap true false = refl
      swap false true = refl
      swap false false = refl

-- what is handed in is what the variable has
in_shown : (runs : ℕ → Bool) (m : ℕ) (pool : Option ℕ) (mark : Mark) (o : Option Items) → is_some o ≡ true → shown_as runs m None Usable o ≡ handed_in (shown_as runs m pool mark o)
in_shown runs m pool mark None there = absurd (false≢true there)
in_shown runs m pool mark (Some xs) there = refl

module _ (L M : ℕ → Option Items) (k l : ℕ) (c : Conn) (fs : Vec Filter) (cs ws : Vec ℕ) (to b m : ℕ) (x e y z : Filter) (h : HandsOn c fs cs ws to k b m x e y z) (names : HasNamesBelow c k)
    (under : (j : ℕ) → is_in j cs.items ≡ true → j ≤ top_of c) (kept : (n : ℕ) → n < k → M n ≡ L n) (older : AreOlder L k) (there : is_some (L m) ≡ true) (free : x.lent ≡ None) (idle : e.lent ≡ None)
    (lends : (view : ContextView) (call : Call) → lent b (seen_over M l view y.instance call) ≡ do_pass b (seen_over M l view x.instance call))
    (takes : (view : ContextView) (call : Call)
    → seen_over M l view z.instance call ≡ set_brigade 8 (shown_slot (calls_in view call) M (slot.Made m None Usable)) (seen_over M l view e.instance call)) where
  runs_after : runs_of (changed c fs cs ws to) ≡ is_running z.call.name ws.items
  runs_after = ap (λ (o : Option Filter). is_running (call_name o) ws.items) (ap (filter_at (changed c fs cs ws to)) (top_rises c fs cs ws to k b m x e y z h) ∙ h.behind_after)

  -- but for the call that began, the same calls run
  runs_more : (n : ℕ) → n ≢ k → runs_of (changed c fs cs ws to) n ≡ runs_of c n
  runs_more n ne =
      ap (λ (f : ℕ → Bool). f n) runs_after
      ∙ (ap (λ (ns : List ℕ). is_running z.call.name ns n) h.waits
      ∙ (running_more z.call.name x.call.name c.waits.items n (λ q. ne (q ∙ h.name))
      ∙ ap (λ (o : Option Filter). is_running (call_name o) c.waits.items n) (sym h.top)))

  slot_in : shown_slot (runs_of (changed c fs cs ws to)) M (slot.Made m None Usable) ≡ handed_in (shown_slot (runs_of c) L (slot_at x.instance b))
  slot_in =
      more_slot (runs_of c) (runs_of (changed c fs cs ws to)) k runs_more L M kept older (slot.Made m None Usable) (λ n q. names.below (top_of c) b n x h.top (h.handed ∙ q))
      ∙ (let s = name_is (slot_at x.instance b) m h.handed in in_shown (runs_of c) m s.0 s.1.0 (L m) there ∙ ap (λ (t : Slot). handed_in (shown_slot (runs_of c) L t)) (sym s.1.1))

  -- the two filters of the pass
  passed_instance : passing b (shown_instance (runs_of c) L x.instance) ≡ shown_filter (runs_of (changed c fs cs ws to)) M (Some y)
  unfolding seen_over set_brigade
  passed_instance =
      ap (passing b) (sym (more_instance (runs_of c) (runs_of (changed c fs cs ws to)) k runs_more L M kept older x.instance (λ a n q. names.below (top_of c) a n x h.top q)))
      ∙ (ap (λ (f : ℕ → Bool). passing b (shown_instance f M x.instance)) runs_after
      ∙ (sym (ap (λ (r : Configuration). r.instance) (lends (amid ws.items) z.call))
      ∙ (ap (λ (f : ℕ → Bool). lent_by (Some b) (shown_instance f M y.instance)) (sym runs_after)
      ∙ ap (λ (o : Option ℕ). lent_by o (shown_instance (runs_of (changed c fs cs ws to)) M y.instance)) (sym h.lent))))

  pub entered_instance : set_in (handed_in (shown_slot (runs_of c) L (slot_at x.instance b))) (shown_instance (runs_of c) L e.instance) ≡ shown_filter (runs_of (changed c fs cs ws to)) M (Some z)
  unfolding seen_over set_brigade
  entered_instance =
      ap (λ (v : BrigadeVar). set_in v (shown_instance (runs_of c) L e.instance)) (sym slot_in)
      ∙ (ap (set_in (shown_slot (runs_of (changed c fs cs ws to)) M (slot.Made m None Usable)))
      (sym (more_instance (runs_of c) (runs_of (changed c fs cs ws to)) k runs_more L M kept older e.instance (λ a n q. names.below to a n e h.behind q)))
      ∙ (ap (λ (f : ℕ → Bool). set_in (shown_slot f M (slot.Made m None Usable)) (shown_instance f M e.instance)) runs_after
      ∙ (sym (ap (λ (r : Configuration). r.instance) (takes (amid ws.items) z.call))
      ∙ (ap (λ (f : ℕ → Bool). shown_instance f M z.instance) (sym runs_after)
      ∙ ap (λ (o : Option ℕ). lent_by o (shown_instance (runs_of (changed c fs cs ws to)) M z.instance)) (sym h.alone)))))

  other_filter : (j : ℕ) (o : Option Filter) → filter_at c j ≡ o → shown_filter (runs_of c) L o ≡ shown_filter (runs_of (changed c fs cs ws to)) M o
  other_filter j None is = refl
  other_filter j (Some f) is = sym (more_filter (runs_of c) (runs_of (changed c fs cs ws to)) k runs_more L M kept older f (λ a n q. names.below j a n f is q))

  -- the instances as the connection has them
  abbrev shown_all : ℕ → model.Instance
  shown_all j = shown_filter (runs_of c) L (filter_at c j)

  top_shown : shown_all (top_of c) ≡ shown_instance (runs_of c) L x.instance
  top_shown = ap (shown_filter (runs_of c) L) h.top ∙ ap (λ (o : Option ℕ). lent_by o (shown_instance (runs_of c) L x.instance)) free

  behind_shown : shown_all to ≡ shown_instance (runs_of c) L e.instance
  behind_shown = ap (shown_filter (runs_of c) L) h.behind ∙ ap (λ (o : Option ℕ). lent_by o (shown_instance (runs_of c) L e.instance)) idle

  instances_after : (j : ℕ) → handed shown_all (top_of c) to b j ≡ shown_filter (runs_of (changed c fs cs ws to)) M (filter_at (changed c fs cs ws to) j)
  instances_after j = elim (cases_eq j to) [
    | inl q ↦
        (let here = upd shown_all (top_of c) (passing b (shown_all (top_of c))) in
        ap (handed shown_all (top_of c) to b) q
        ∙ (upd_at here to (set_in (handed_in ((shown_all (top_of c)).brigades b)) (here to))
        ∙ (ap (set_in (handed_in ((shown_all (top_of c)).brigades b))) (upd_off shown_all (top_of c) to (passing b (shown_all (top_of c))) (λ r. omega (arith, r)) ∙ behind_shown)
        ∙ (ap (λ (i : model.Instance). set_in (handed_in (i.brigades b)) (shown_instance (runs_of c) L e.instance)) top_shown
        ∙ (entered_instance
        ∙ (ap (shown_filter (runs_of (changed c fs cs ws to)) M) (sym h.behind_after)
        ∙ ap (λ (i : ℕ). shown_filter (runs_of (changed c fs cs ws to)) M (filter_at (changed c fs cs ws to) i)) (sym q)))))))
    | inr off ↦ elim (cases_eq j (top_of c)) [
      | inl q ↦
          (let here = upd shown_all (top_of c) (passing b (shown_all (top_of c))) in
          upd_off here to j (set_in (handed_in ((shown_all (top_of c)).brigades b)) (here to)) off
          ∙ (ap here q
          ∙ (upd_at shown_all (top_of c) (passing b (shown_all (top_of c)))
          ∙ (ap (passing b) top_shown
          ∙ (passed_instance
          ∙ (ap (shown_filter (runs_of (changed c fs cs ws to)) M) (sym h.top_after)
          ∙ ap (λ (i : ℕ). shown_filter (runs_of (changed c fs cs ws to)) M (filter_at (changed c fs cs ws to) i)) (sym q)))))))
      | inr ne ↦
          (let here = upd shown_all (top_of c) (passing b (shown_all (top_of c))) in
          upd_off here to j (set_in (handed_in ((shown_all (top_of c)).brigades b)) (here to)) off
          ∙ (upd_off shown_all (top_of c) j (passing b (shown_all (top_of c))) ne
          ∙ (other_filter j (filter_at c j) refl
          ∙ ap (shown_filter (runs_of (changed c fs cs ws to)) M) (sym (h.others j ne off)))))
    ]
  ]

  -- the calls that wait are as they were
  frame_kept : (j : ℕ) → j ≤ top_of c → frame_at M (changed c fs cs ws to) j ≡ frame_at L c j
  frame_kept j low = elim (cases_eq j (top_of c)) [
    | inl q ↦
        ap (λ (i : ℕ). shown_frame (runs_of (changed c fs cs ws to)) M j (filter_at (changed c fs cs ws to) i)) q
        ∙ (ap (shown_frame (runs_of (changed c fs cs ws to)) M j) h.top_after
        ∙ (ap (call_frame j (runs_of (changed c fs cs ws to))) h.call
        ∙ (more_frame (runs_of c) (runs_of (changed c fs cs ws to)) k runs_more L M kept older j x (names.calls (top_of c) x h.top)
        ∙ (ap (shown_frame (runs_of c) L j) (sym h.top)
        ∙ ap (λ (i : ℕ). shown_frame (runs_of c) L j (filter_at c i)) (sym q)))))
    | inr ne ↦ ap (shown_frame (runs_of (changed c fs cs ws to)) M j) (h.others j ne (omega (arith, low))) ∙ go (filter_at c j) refl
  ] where
    call_frame : ℕ → (ℕ → Bool) → Call → Frame
    call_frame i runs call = record { of = i; call = shown_call runs M call; pc = call.pc }

    go : (o : Option Filter) → filter_at c j ≡ o → shown_frame (runs_of (changed c fs cs ws to)) M j o ≡ shown_frame (runs_of c) L j o
    go None is = refl
    go (Some f) is = more_frame (runs_of c) (runs_of (changed c fs cs ws to)) k runs_more L M kept older j f (names.calls j f is)

  module _ (pc : ℕ) (f : Frame) (rest : List Frame) (t : OnTop L c f rest)
      (begun : (waits : List ℕ) → shown_call (is_running z.call.name waits) M z.call ≡ fresh_call k) (at : z.call.pc ≡ pc) where
    new_frame : frame_at M (changed c fs cs ws to) to ≡ record { of = to; call = fresh_call k; pc = pc }
    new_frame =
        ap (shown_frame (runs_of (changed c fs cs ws to)) M to) h.behind_after
        ∙ (ap (λ (g : ℕ → Bool). framed (shown_call g M z.call) z.call.pc) runs_after
        ∙ (ap (λ (call : model.Call). framed call z.call.pc) (begun ws.items)
        ∙ ap (framed (fresh_call k)) at)) where
          framed : model.Call → ℕ → Frame
          framed call pc = record { of = to; call = call; pc = pc }

    stack_after : stack_of M (changed c fs cs ws to) ≡ record { of = to; call = fresh_call k; pc = pc } ∷ (f ∷ rest)
    stack_after =
        ap (λ (s : Bool). if s then frame_at M (changed c fs cs ws to) to ∷ stack_over (frame_at M (changed c fs cs ws to)) cs.items else []) h.busy
        ∙ (ap (λ (g : Frame). g ∷ stack_over (frame_at M (changed c fs cs ws to)) cs.items) new_frame
        ∙ ap (λ (gs : List Frame). record { of = to; call = fresh_call k; pc = pc } ∷ gs)
        (frames_same (frame_at L c) (frame_at M (changed c fs cs ws to)) cs.items (λ j there. frame_kept j (under j there))
        ∙ (ap (stack_over (frame_at L c)) h.callers
        ∙ (over_pushed (frame_at L c) c.callers.items (top_of c)
        ∙ (ap (λ (g : Frame). g ∷ stack_over (frame_at L c) c.callers.items) (ap (shown_frame (runs_of c) L (top_of c)) t.is ∙ sym t.frame)
        ∙ ap (λ (gs : List Frame). f ∷ gs) (sym t.below))))))

    pub seen_after : (ps : Pools Payload) (v : Linked) (callee : Program) → callee.main ≡ pc → l ≡ k + 1 → IsSeenAs ps L k c v
        → IsSeenAs ps M l (changed c fs cs ws to) (passed_to callee to b f rest v)
    unfolding passed_to conn_of configuration set_brigade
    seen_after ps v callee main next seen = record {
      pools = seen.pools;
      given = ap (λ (n : ℕ). n + 1) seen.given ∙ sym next;
      conn = ap (λ (n : Connection). record n { instances = handed v.1.instances f.of to b; stack = entered to v.0.next callee.main }) seen.conn
          ∙ (ap (λ (is : ℕ → model.Instance). made is (entered to v.0.next callee.main) (counting c.queue (modules_of c - c.queue)))
          (ap (λ (is : ℕ → model.Instance). handed is f.of to b) (instances_are ps L k c v seen)
          ∙ (ap (λ (n : ℕ). handed shown_all n to b) of_top ∙ fun_ext instances_after))
          ∙ (ap (λ (fs : List Frame). made shown_then fs (counting c.queue (modules_of c - c.queue)))
          (ap (λ (n : ℕ). entered to n callee.main) seen.given ∙ (ap (entered to k) main ∙ sym stack_after))
          ∙ ap (λ (n : ℕ). made shown_then (stack_of M (changed c fs cs ws to)) (counting c.queue ((n - 1) - c.queue))) (sym h.many)));
    } where
      of_top : f.of ≡ top_of c
      of_top = ap (λ (g : Frame). g.of) t.frame

      entered : ℕ → ℕ → ℕ → List Frame
      entered of name pc = record { of = of; call = fresh_call name; pc = pc } ∷ (f ∷ rest)

      shown_then : ℕ → model.Instance
      shown_then j = shown_filter (runs_of (changed c fs cs ws to)) M (filter_at (changed c fs cs ws to) j)

      made : (ℕ → model.Instance) → List Frame → List ℕ → Connection
      made is stack queue = record (conn_of ps L v.1.opened c) { instances = is; stack = stack; queue = queue }
