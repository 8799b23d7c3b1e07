-- A call returned to the one that waits: what the connection reads as.
use Rattle.std.proofs.Common.{◌≡◌, ◌≢◌, ◌==◌, ℕ, suc, ◌-◌, ◌<◌, ◌&&◌, Bool, true, false, List, [], ◌∷◌, ◌++◌, length, map, Option, Some, None, is_some, refl, sym, ap, ◌∙◌, inl}
use Rattle.std.proofs.Common.{inr, arith}
use Rattle.std.specs.Prelude.{if◌then◌else◌, slice_get}
use Rattle.std.specs.Global.{Vec}
use Rattle.std.proofs.Math.Path.{fun_ext}
use Rattle.std.proofs.lemmas.Bool.{cases_eq, eq-eqb, ne_eqb}
use Rattle.bucket_ring.specs.declared.names.BucketId.{BucketId}
use Rattle.bucket_ring.specs.Lists as ring
use Rattle.module_code.specs.Program.{Program}
use Rattle.module_code.specs.declared.instr.Instr.{Instr}
use Rattle.module_code.specs.declared.instr.Status.{Status}
use Rattle.run_model.specs.declared.bucket.NamedBucket.{NamedBucket}
use Rattle.run_model.specs.declared.bucket.BrigadeVar.TheVariants as var
use Rattle.run_model.specs.declared.payload.Payload.{Payload}
use Rattle.run_model.specs.Buckets.{returned_bucket}
use Rattle.run_model.specs.Chains.{Frame, Connection, Common, Linked, configuration, module_at, put_back, touched_frame, touched_instance}
use Rattle.run_model.specs.Effects.{returned_var}
use Rattle.run_model.specs.Indexed.{upd}
use Rattle.run_model.specs.Passing.{after_pass, given_back, passed_by, returned_to}
use Rattle.run_model.specs.Pools.{Pools}
use Rattle.run_model.specs.State as model
use Rattle.run_model.specs.State.{items_of}
use Rattle.run_model.specs.Steps.{current}
use Rattle.run_model.proofs.Updates.{upd_either}
use Rattle.bucket_store.specs.Items.{Items}
use Rattle.module_run.specs.declared.conn.Conn.{Conn}
use Rattle.module_run.specs.declared.conn.Filter.{Filter}
use Rattle.interp_state.specs.declared.machine.Slot.TheVariants as slot
use Rattle.module_run.specs.Conns.{call_name, conn_of, counting, filter_at, lent_by, runs_of, shown_filter, shown_frame, shown_instance, stack_of, stack_over, top_of, waiting}
use Rattle.interp_state.specs.Seen.{is_running}
use Rattle.interp_state.specs.Slots.{SameButSlots, cursor_at, slot_at}
use Rattle.module_run.specs.Stacked.{StackedOver, called_of, is_waiting, names_of}
use Rattle.interp_state.proofs.Changes.{ring_off}
use Rattle.module_run.proofs.Filters.{names_none, running_last}
use Rattle.module_run.proofs.Known.{no_lent}
use Rattle.interp_calls.proofs.Returned.{RunsWithout}
use Rattle.module_run.proofs.ReturnedParts.{AreAsWere, ended_instance, given_instance, returned_filter, returned_frame}
use Rattle.interp_calls.proofs.Returns.{runs_without}
use Rattle.run_model.specs.Pools.{is_in}
use Rattle.std.proofs.lemmas.Option.{slice_get_within}
use Rattle.std.proofs.lemmas.List.{length-append}
use Rattle.interp_state.proofs.Pushed.{pushed_in}
use Rattle.module_run.proofs.Callers.{called_top, frames_mapped, get_last, get_left, in_get, names_more, top_at, waits_below, waits_not}
use Rattle.module_run.proofs.Tops.{frame_at}

-- a connection with these filters, and these calls that wait
abbrev pub with_calls : Conn → Vec Filter → Vec ℕ → Vec ℕ → ℕ → Conn
with_calls c filters callers waits top = record c { filters = filters; callers = callers; waits = waits; top = top }

-- The call of the filter `top` returned to that of `wait`, which is the filter w: they are `ended` and `resumed` then. The filters `left` wait still.
pub record GivesBack (chain : List Program) (s : Status) (L M : ℕ → Option Items) (c d : Conn) (w : ℕ) : Type 0 where
  pub top : Filter
  pub ended : Filter
  pub wait : Filter
  pub resumed : Filter
  pub busy : c.busy ≡ true
  pub left : List ℕ
  pub callers : c.callers.items ≡ left ++ w ∷ []
  pub callers_after : d.callers.items ≡ left
  pub on_top : filter_at c (top_of c) ≡ Some top
  pub below : filter_at c w ≡ Some wait
  pub top_after : filter_at d (top_of c) ≡ Some ended
  pub below_after : filter_at d w ≡ Some resumed
  pub others : (k : ℕ) → k ≢ top_of c → k ≢ w → filter_at d k ≡ filter_at c k
  pub waits : d.waits.items ≡ names_of c left
  pub count : length d.filters.items ≡ length c.filters.items
  pub rings : (n : ℕ) → M n ≡ ring.upd L top.call.name None n
  pub slots : (a : ℕ) → slot_at ended.instance a ≡ (if a == 8 then slot.Null else slot_at top.instance a)
  pub rest : SameButSlots top.instance ended.instance
  pub name : ended.call.name ≡ 0
  pub pc : ended.call.pc ≡ top.call.pc
  pub lent : ended.lent ≡ top.lent
  pub instance : resumed.instance ≡ wait.instance
  pub call : resumed.call ≡ record wait.call { pc = after_pass s (current (module_at chain w) wait.call.pc) wait.call.pc }
  pub given : resumed.lent ≡ None

one_lent : (o : Option ℕ) → is_some o ≡ true → (b : ℕ) × (o ≡ Some b)
one_lent None e = absurd (cc)
one_lent (Some b) e = (b, refl)

module _ (chain : List Program) (s : Status) (at : BucketId → Option ℕ) (L M : ℕ → Option Items) (pools : ℕ → Option ℕ) (next : ℕ) (c : Conn) (filters : Vec Filter) (callers waits : Vec ℕ) (w : ℕ)
    (st : StackedOver chain at L pools next c) (x : GivesBack chain s L M c (with_calls c filters callers waits w) w) where
  abbrev pub d : Conn
  d = with_calls c filters callers waits w

  abbrev pub t : ℕ
  t = top_of c

  pub w_waits : is_waiting c w ≡ true
  w_waits = ap (is_in w) x.callers ∙ pushed_in w w x.left refl

  pub w_below : w < top_of c
  w_below = waits_below chain c st.called w w_waits

  pub w_at : slice_get (called_of c) (length x.left) ≡ Some w
  w_at = get_left c.callers.items (top_of c ∷ []) (length x.left) w (ap (λ (ks : List ℕ). slice_get ks (length x.left)) x.callers ∙ get_last x.left w)

  pub many_callers : waiting c ≡ suc (length x.left)
  many_callers = (let n = ap (λ (ks : List ℕ). length ks) x.callers ∙ length-append x.left (w ∷ []) in omega (arith, n))

  pub top_next : slice_get (called_of c) (suc (length x.left)) ≡ Some (top_of c)
  top_next = ap (slice_get (called_of c)) (sym many_callers) ∙ top_at chain c st.called

  -- those that wait still are before it
  pub left_below : (k : ℕ) → is_in k x.left ≡ true → k < w
  left_below k there = (let i = in_get x.left k there in
      st.called.rises i.0 (length x.left) k w (slice_get_within x.left i.0 k i.1)
      (get_left c.callers.items (top_of c ∷ []) i.0 k (ap (λ (ks : List ℕ). slice_get ks i.0) x.callers ∙ get_left x.left (w ∷ []) i.0 k i.1)) w_at)

  pub alone : x.top.lent ≡ None
  alone = no_lent x.top.lent (st.called.lent t x.top x.on_top ∙ waits_not chain c st.called t (omega arith))

  pub lent_one : (b : ℕ) × (x.wait.lent ≡ Some b)
  lent_one = one_lent x.wait.lent (st.called.lent w x.wait x.below ∙ w_waits)

  pub runs_top : 0 < x.top.call.name
  runs_top = st.called.runs t x.top x.on_top (called_top c x.busy)

  -- the brigades of all variables, and the loose buckets of all other calls, are as they were
  pub stays : (k : ℕ) (f : Filter) → filter_at c k ≡ Some f → AreAsWere L M f.instance
  stays k f is b n named = x.rings n ∙ ring_off L x.top.call.name n None (λ e. st.apart.loose k t b f x.top is x.on_top (named ∙ ap (λ (m : ℕ). Some m) e))

  pub other_name : (k : ℕ) (f : Filter) → filter_at c k ≡ Some f → k ≢ t → x.top.call.name ≢ f.call.name
  other_name k f is ne e = ne (sym (st.apart.calls t k x.top f x.on_top is runs_top e))

  pub loose_stays : (k : ℕ) (f : Filter) → filter_at c k ≡ Some f → k ≢ t → M f.call.name ≡ L f.call.name
  loose_stays k f is ne = x.rings f.call.name ∙ ring_off L x.top.call.name f.call.name None (λ e. other_name k f is ne (sym e))

  not_named : (o : Option Filter) (k : ℕ) → filter_at c k ≡ o → k ≢ t → x.top.call.name ≢ call_name o
  not_named None k is ne e = (let pos = runs_top in omega (arith, pos, e))
  not_named (Some f) k is ne e = other_name k f is ne e

  -- all calls but one run
  pub without : RunsWithout (runs_of c) (runs_of d) x.top.call.name
  without n = after ∙ (runs_without x.top.call.name (names_of c c.callers.items) none n ∙ sym (ap (λ (r : Bool). r && Rattle.std.specs.Prelude.not (n == x.top.call.name)) before)) where
    none : Rattle.std.specs.List.list_any (λ j. x.top.call.name == j) (names_of c c.callers.items) ≡ false
    none = names_none c x.top.call.name c.callers.items (λ j there. not_named (filter_at c j) j refl (λ e. let low = waits_below chain c st.called j there in omega (arith, low, e)))

    before : runs_of c n ≡ is_running x.top.call.name (names_of c c.callers.items) n
    before = ap (λ (o : Option Filter). is_running (call_name o) c.waits.items n) x.on_top ∙ ap (λ (ws : List ℕ). is_running x.top.call.name ws n) st.called.waits

    names : names_of c x.left ++ x.resumed.call.name ∷ [] ≡ names_of c c.callers.items
    names = ap (λ (m : ℕ). names_of c x.left ++ m ∷ []) (ap (λ (k : Rattle.interp_state.specs.declared.machine.Call.Call). k.name) x.call ∙ sym (ap call_name x.below))
        ∙ (sym (names_more c x.left w) ∙ ap (names_of c) (sym x.callers))

    after : runs_of d n ≡ is_running 0 (names_of c c.callers.items) n
    after = ap (λ (o : Option Filter). is_running (call_name o) waits.items n) x.below_after
        ∙ (ap (λ (ws : List ℕ). is_running x.resumed.call.name ws n) x.waits
        ∙ (sym (running_last x.resumed.call.name (names_of c x.left) n) ∙ ap (λ (ws : List ℕ). is_running 0 ws n) names))

  module _ (ps : Pools Payload) (opened : ℕ → Option (List ℕ)) where
    abbrev pub C : Connection
    C = conn_of ps L opened c

    top_instance : shown_filter (runs_of c) L (filter_at c t) ≡ shown_instance (runs_of c) L x.top.instance
    top_instance = ap (shown_filter (runs_of c) L) x.on_top ∙ ap (λ (o : Option ℕ). lent_by o (shown_instance (runs_of c) L x.top.instance)) alone

    abbrev pub ended_as : model.Instance → model.Instance
    ended_as i = record i { brigades = λ b. if b == 8 then var.Null else returned_var x.top.call.name (i.brigades b) }

    abbrev pub left_of : model.Instance → List NamedBucket
    left_of i = map (returned_bucket x.top.call.name) (items_of (i.brigades 8))

    abbrev pub base : ℕ → model.Instance
    base k = if k == t then ended_as (shown_filter (runs_of c) L (filter_at c t)) else touched_instance (returned_var x.top.call.name) (shown_filter (runs_of c) L (filter_at c k))

    abbrev pub pass : Instr
    pass = current (module_at chain w) x.wait.call.pc

    abbrev pub back : model.Instance
    back = given_back (passed_by pass) (left_of (shown_filter (runs_of c) L (filter_at c t))) (base w)

    off_t : w ≢ t
    off_t e = (let low = w_below in omega (arith, e, low))

    back_is : shown_filter (runs_of d) M (filter_at d w) ≡ back
    back_is =
        let b = lent_one in
        let p = st.called.passes w b.0 x.wait x.below b.1 in
        let m = st.called.inward (length x.left) w t b.0 x.wait x.top w_at top_next x.below x.on_top b.1 in
        ap (shown_filter (runs_of d) M) x.below_after
        ∙ (ap (λ (o : Option ℕ). lent_by o (shown_instance (runs_of d) M x.resumed.instance)) x.given
        ∙ (ap (shown_instance (runs_of d) M) x.instance
        ∙ (given_instance (runs_of c) (runs_of d) x.top.call.name without L M x.wait.instance b.0 m.0 (slot_at x.top.instance 8) (stays w x.wait x.below)
        (st.called.passed w b.0 x.wait x.below b.1) m.1.0 m.1.1
        ∙ (ap (λ (i : Instr). given_back (passed_by i) (left_of (shown_instance (runs_of c) L x.top.instance))
        (touched_instance (returned_var x.top.call.name) (lent_by (Some b.0) (shown_instance (runs_of c) L x.wait.instance)))) (sym p.1.1)
        ∙ (ap (λ (i : model.Instance). given_back (passed_by pass) (left_of i) (touched_instance (returned_var x.top.call.name) (lent_by (Some b.0) (shown_instance (runs_of c) L x.wait.instance))))
        (sym top_instance)
        ∙ (ap (λ (o : Option ℕ). given_back (passed_by pass) (left_of (shown_filter (runs_of c) L (filter_at c t)))
        (touched_instance (returned_var x.top.call.name) (lent_by o (shown_instance (runs_of c) L x.wait.instance)))) (sym b.1)
        ∙ (ap (λ (o : Option Filter). given_back (passed_by pass) (left_of (shown_filter (runs_of c) L (filter_at c t)))
        (touched_instance (returned_var x.top.call.name) (shown_filter (runs_of c) L o))) (sym x.below)
        ∙ ap (λ (e : Bool). given_back (passed_by pass) (left_of (shown_filter (runs_of c) L (filter_at c t)))
        (if e then ended_as (shown_filter (runs_of c) L (filter_at c t)) else touched_instance (returned_var x.top.call.name) (shown_filter (runs_of c) L (filter_at c w))))
        (sym (ne_eqb w t off_t)))))))))

    ended_is : shown_filter (runs_of d) M (filter_at d t) ≡ ended_as (shown_filter (runs_of c) L (filter_at c t))
    ended_is = ap (shown_filter (runs_of d) M) x.top_after
        ∙ (ap (λ (o : Option ℕ). lent_by o (shown_instance (runs_of d) M x.ended.instance)) (x.lent ∙ alone)
        ∙ (ended_instance (runs_of c) (runs_of d) x.top.call.name without L M x.top.instance x.ended.instance x.slots x.rest (λ b n ne. stays t x.top x.on_top b n)
        ∙ ap ended_as (sym top_instance)))

    each_instance : (k : ℕ) → shown_filter (runs_of d) M (filter_at d k) ≡ upd base w back k
    each_instance k = elim (upd_either base w k back) [
      | inl p ↦ ap (λ (j : ℕ). shown_filter (runs_of d) M (filter_at d j)) p.0 ∙ (back_is ∙ sym p.1)
      | inr p ↦ (elim (cases_eq k t) [
        | inl e ↦ ap (λ (j : ℕ). shown_filter (runs_of d) M (filter_at d j)) e
            ∙ (ended_is ∙ sym (ap (λ (b : Bool). if b then ended_as (shown_filter (runs_of c) L (filter_at c t))
            else touched_instance (returned_var x.top.call.name) (shown_filter (runs_of c) L (filter_at c k))) (eq-eqb k t e)))
        | inr ne ↦ ap (shown_filter (runs_of d) M) (x.others k ne p.0)
            ∙ (returned_filter (runs_of c) (runs_of d) x.top.call.name without L M (filter_at c k) (stays k)
            ∙ sym (ap (λ (b : Bool). if b then ended_as (shown_filter (runs_of c) L (filter_at c t))
            else touched_instance (returned_var x.top.call.name) (shown_filter (runs_of c) L (filter_at c k))) (ne_eqb k t ne)))
      ]) ∙ sym p.1
    ]

    abbrev pub touched : Frame → Frame
    touched f = touched_frame (returned_bucket x.top.call.name) f

    abbrev pub resumed_as : Frame → Frame
    resumed_as f = record f { pc = after_pass s pass f.pc }

    abbrev pub wait_frame : Frame
    wait_frame = shown_frame (runs_of c) L w (Some x.wait)

    below_is : stack_over (frame_at M d) x.left ≡ map touched (stack_over (frame_at L c) x.left)
    below_is = frames_mapped touched (frame_at L c) (frame_at M d) x.left (λ k there.
        let low = left_below k there in
        let under = w_below in
        ap (shown_frame (runs_of d) M k) (x.others k (λ e. omega (arith, low, under, e)) (λ e. omega (arith, low, e)))
        ∙ returned_frame (runs_of c) (runs_of d) x.top.call.name without L M k (filter_at c k) (λ f is. loose_stays k f is (λ e. omega (arith, low, under, e))))

    resumed_is : frame_at M d w ≡ resumed_as (touched wait_frame)
    unfolding cursor_at
    resumed_is = ap (shown_frame (runs_of d) M w) x.below_after
        ∙ (ap (λ (k : Rattle.interp_state.specs.declared.machine.Call.Call). shown_frame (runs_of d) M w (Some (record x.resumed { call = k }))) x.call
        ∙ ap resumed_as (returned_frame (runs_of c) (runs_of d) x.top.call.name without L M w (Some x.wait) (λ f is. loose_stays w f (x.below ∙ is) off_t)))

    stack_is : stack_of M d ≡ resumed_as (touched wait_frame) ∷ map touched (stack_over (frame_at L c) x.left)
    stack_is = ap (λ (b : Bool). if b then frame_at M d w ∷ stack_over (frame_at M d) callers.items else []) x.busy
        ∙ (ap (λ (ks : List ℕ). frame_at M d w ∷ stack_over (frame_at M d) ks) x.callers_after
        ∙ (ap (λ (f : Frame). f ∷ stack_over (frame_at M d) x.left) resumed_is ∙ ap (λ (fs : List Frame). resumed_as (touched wait_frame) ∷ fs) below_is))

    -- what is left of the connection
    pub returned_is : (g : Common)
        → returned_to (module_at chain w) s (shown_frame (runs_of c) L t (Some x.top)) wait_frame (stack_over (frame_at L c) x.left) (g, C) ≡ (g, conn_of ps M opened d)
    unfolding returned_to put_back configuration conn_of
    returned_is g = ap (λ (is : ℕ → model.Instance). built is (resumed_as (touched wait_frame) ∷ map touched (stack_over (frame_at L c) x.left)) (length c.filters.items))
        (sym (fun_ext each_instance))
        ∙ (ap (λ (fs : List Frame). built (λ k. shown_filter (runs_of d) M (filter_at d k)) fs (length c.filters.items)) (sym stack_is)
        ∙ ap (λ (n : ℕ). built (λ k. shown_filter (runs_of d) M (filter_at d k)) (stack_of M d) n) (sym x.count)) where
          built : (ℕ → model.Instance) → List Frame → ℕ → Linked
          built is fs n = (g, record (conn_of ps L opened c) { instances = is; stack = fs; queue = counting c.queue ((n - 1) - c.queue) })
