-- A call returned to the one that waits: what is true of the filters and calls.
use Rattle.std.proofs.Common.{◌≡◌, ◌≢◌, ℕ, suc, ◌<◌, ◌&&◌, Bool, true, false, List, Option, Some, None, is_some, refl, sym, ap, subst, ◌∙◌, inl, inr, arith, ◌==◌, ◌||◌, [], ◌∷◌, ◌++◌, eqb-true}
use Rattle.std.specs.Global.{Vec}
use Rattle.std.proofs.lemmas.Bool.{cases_eq, eq-eqb, ne_eqb, false≢true, cases_Bool, or_cases, and_parts}
use Rattle.bucket_ring.specs.declared.names.BucketId.{BucketId}
use Rattle.bucket_ring.specs.Kept.{NoneRevived}
use Rattle.module_code.specs.Program.{Program}
use Rattle.module_code.specs.declared.instr.Instr.TheVariants as instr
use Rattle.module_code.specs.declared.instr.Status.{Status}
use Rattle.run_model.specs.declared.bucket.Mark.TheVariants.{Passed}
use Rattle.run_model.specs.Chains.{module_at}
use Rattle.run_model.specs.Steps.{current}
use Rattle.bucket_store.specs.Items.{Items}
use Rattle.module_run.specs.declared.conn.Conn.{Conn}
use Rattle.module_run.specs.declared.conn.Filter.{Filter}
use Rattle.interp_state.specs.declared.machine.Call.{Call}
use Rattle.interp_state.specs.declared.machine.Instance.{Instance}
use Rattle.interp_state.specs.declared.machine.Slot.TheVariants as slot
use Rattle.module_run.specs.Conns.{call_name, filter_at, top_of}
use Rattle.interp_state.specs.Held.{HeldOver}
use Rattle.interp_state.specs.Slots.{marked, name_in, slot_at}
use Rattle.module_run.specs.Stacked.{FiltersApart, AreCalled, StackedOver, is_called, is_waiting, called_of, named_at, names_of}
use Rattle.module_run.proofs.GivenBack.{GivesBack, alone, left_below, loose_stays, many_callers, stays, w_below, with_calls}
use Rattle.run_model.specs.Pools.{is_in}
use Rattle.std.specs.Prelude.{if◌then◌else◌, slice_get}
use Rattle.interp_state.proofs.Pushed.{pushed_only}
use Rattle.module_run.proofs.Callers.{get_in, get_left, get_split, in_pushed, names_same, off_in, waits_below}
use Rattle.interp_state.proofs.HeldAlike.{held_cursors}
use Rattle.module_run.proofs.HeldStays.{held_stays}
use Rattle.module_run.proofs.Known.{some_is}

-- Where a filter came from: the one whose call was on top is the last one then, the one before it waited.
pub record CameFrom (c : Conn) (w k : ℕ) (f e : Filter) : Type 0 where
  pub was : filter_at c k ≡ Some f
  pub names : (b m : ℕ) → named_at e b ≡ Some m → named_at f b ≡ Some m
  pub null : k ≡ top_of c → named_at e 8 ≡ None
  pub none : k ≡ top_of c → e.call.name ≡ 0
  pub instance : k ≢ top_of c → e.instance ≡ f.instance
  pub name : k ≢ top_of c → e.call.name ≡ f.call.name
  pub given : k ≡ w → e.lent ≡ None
  pub lent : k ≢ w → e.lent ≡ f.lent
  pub pc : k ≢ w → e.call.pc ≡ f.call.pc

module _ (chain : List Program) (s : Status) (at new_at : BucketId → Option ℕ) (L M : ℕ → Option Items) (pools new_pools : ℕ → Option ℕ) (next new_next : ℕ) (c : Conn) (filters : Vec Filter)
    (callers waits : Vec ℕ) (w : ℕ)
    (st : StackedOver chain at L pools next c) (x : GivesBack chain s L M c (with_calls c filters callers waits w) w) where
  abbrev d : Conn
  d = with_calls c filters callers waits w

  abbrev t : ℕ
  t = top_of c

  from_top : CameFrom c w t x.top x.ended
  from_top = record {
    was = x.on_top;
    names = λ b m is. go b m is;
    null = λ e. ap name_in (x.slots 8);
    none = λ e. x.name;
    instance = λ ne. absurd (ne refl);
    name = λ ne. absurd (ne refl);
    given = λ e. absurd (let low = w_below chain s at L M pools next c filters callers waits w st x in omega (arith, e, low));
    lent = λ ne. x.lent;
    pc = λ ne. x.pc;
  } where
    go : (b m : ℕ) → named_at x.ended b ≡ Some m → named_at x.top b ≡ Some m
    go b m is = elim (cases_eq b 8) [
      | inl e ↦ absurd (let n : None ≡ Some m = sym (ap name_in (x.slots b ∙ ap (λ (r : Bool). if r then slot.Null else slot_at x.top.instance b) (eq-eqb b 8 e))) ∙ is in cc)
      | inr ne ↦ sym (ap name_in (x.slots b ∙ ap (λ (r : Bool). if r then slot.Null else slot_at x.top.instance b) (ne_eqb b 8 ne))) ∙ is
    ]

  from_wait : CameFrom c w w x.wait x.resumed
  from_wait = record {
    was = x.below;
    names = λ b m is. sym (ap (λ (i : Instance). name_in (slot_at i b)) x.instance) ∙ is;
    null = λ e. absurd (let low = w_below chain s at L M pools next c filters callers waits w st x in omega (arith, e, low));
    none = λ e. absurd (let low = w_below chain s at L M pools next c filters callers waits w st x in omega (arith, e, low));
    instance = λ ne. x.instance;
    name = λ ne. ap (λ (k : Call). k.name) x.call;
    given = λ e. x.given;
    lent = λ ne. absurd (ne refl);
    pc = λ ne. absurd (ne refl);
  }

  pub came : (k : ℕ) (e : Filter) → filter_at d k ≡ Some e → (f : Filter) × CameFrom c w k f e
  came k e is = elim (cases_eq k t) [
    | inl q ↦ (x.top, subst (λ (n : ℕ). CameFrom c w n x.top e) (sym q) (subst (CameFrom c w t x.top) (some_is x.ended e (sym x.top_after ∙ (ap (filter_at d) (sym q) ∙ is))) from_top))
    | inr ne ↦ (elim (cases_eq k w) [
      | inl q ↦ (
        x.wait,
        subst (λ (n : ℕ). CameFrom c w n x.wait e) (sym q)
            (subst (CameFrom c w w x.wait) (some_is x.resumed e (sym x.below_after ∙ (ap (filter_at d) (sym q) ∙ is))) from_wait),
      )
      | inr off ↦ (
        e,
        record {
          was = sym (x.others k ne off) ∙ is;
          names = λ b m named. named;
          null = λ q. absurd (ne q);
          none = λ q. absurd (ne q);
          instance = λ z. refl;
          name = λ z. refl;
          given = λ q. absurd (off q);
          lent = λ z. refl;
          pc = λ z. refl;
        },
      )
    ])
  ]

  -- which run and wait

  same_called : (k : ℕ) → k ≢ t → is_called d k ≡ is_called c k
  same_called k ne =
      ap (λ (ks : List ℕ). c.busy && (k == w || is_in k ks)) x.callers_after
      ∙ (ap (λ (u : Bool). c.busy && u) (sym (in_pushed k w x.left) ∙ ap (is_in k) (sym x.callers))
      ∙ ap (λ (u : Bool). c.busy && (u || is_waiting c k)) (sym (ne_eqb k t ne)))

  -- the callers that are left, and the one that goes on, are those that waited
  called_is : called_of d ≡ c.callers.items
  called_is = ap (λ (ks : List ℕ). ks ++ w ∷ []) x.callers_after ∙ sym x.callers

  placed : (i k : ℕ) → slice_get (called_of d) i ≡ Some k → slice_get c.callers.items i ≡ Some k
  placed i k at = ap (λ (ks : List ℕ). slice_get ks i) (sym called_is) ∙ at

  placed_before : (i k : ℕ) → slice_get (called_of d) i ≡ Some k → slice_get (called_of c) i ≡ Some k
  placed_before i k at = get_left c.callers.items (t ∷ []) i k (placed i k at)

  -- between the one that goes on and the one that was on top there is no call
  between : (k : ℕ) → w < k → k ≢ t → is_called c k ≡ false
  between k past ne = elim (cases_Bool (is_called c k)) [
    | inr no_ ↦ no_
    | inl yes_ ↦ absurd (elim (or_cases (k == t) (is_waiting c k) (and_parts c.busy _ yes_).1) [
      | inl here ↦ ne (eqb-true k t here)
      | inr waiting ↦ elim (pushed_only k w x.left (ap (is_in k) (sym x.callers) ∙ waiting)) [
        | inl there ↦ (let low = left_below chain s at L M pools next c filters callers waits w st x k there in omega (arith, low, past))
        | inr same ↦ omega (arith, same, past)
      ]
    ])
  ]

  top_over : is_called d t ≡ false
  top_over = elim (cases_Bool (is_called d t)) [
    | inr no_ ↦ no_
    | inl yes_ ↦ absurd (let low = w_below chain s at L M pools next c filters callers waits w st x in elim (or_cases (t == w) (is_waiting d t) (and_parts c.busy _ yes_).1) [
      | inl here ↦ (let e = eqb-true t w here in omega (arith, e, low))
      | inr waiting ↦ (let under = left_below chain s at L M pools next c filters callers waits w st x t (ap (is_in t) (sym x.callers_after) ∙ waiting) in omega (arith, under, low))
    ])
  ]

  same_waiting : (k : ℕ) → k ≢ w → is_waiting d k ≡ is_waiting c k
  same_waiting k ne = ap (is_in k) x.callers_after ∙ sym (ap (is_in k) x.callers ∙ (in_pushed k w x.left ∙ ap (λ (u : Bool). u || is_in k x.left) (ne_eqb k w ne)))

  wait_over : is_waiting d w ≡ false
  wait_over = ap (is_in w) x.callers_after ∙ off_in w x.left (λ there. let low = left_below chain s at L M pools next c filters callers waits w st x w there in omega (arith, low))

  module _ (k : ℕ) (f e : Filter) (o : CameFrom c w k f e) where
    -- one that has lent a brigade waits still
    lent_off : (b : ℕ) → e.lent ≡ Some b → (k ≢ w) × (k ≢ t)
    lent_off b is = (
      (λ q. let n : None ≡ Some b = sym (o.given q) ∙ is in cc),
      (λ q. let n : None ≡ Some b = sym (alone chain s at L M pools next c filters callers waits w st x)
          ∙ (ap (λ (g : Filter). g.lent) (some_is x.top f (sym x.on_top ∙ (ap (filter_at c) (sym q) ∙ o.was))) ∙ (sym (o.lent (λ z. let low = w_below chain s at L M pools next c filters callers waits w st x in omega (arith, z, q, low))) ∙ is)) in cc),
    )

  real_name : (j b : ℕ) (e : Filter) → filter_at c j ≡ Some e → named_at e b ≡ Some 0 → ⊥
  real_name j b e is named = (let p = (st.held j e is).real b 0 named in omega (arith, p))

  apart_after : FiltersApart d
  apart_after = record {
    own = λ i j a b m f e low high is_i is_j n_i n_j. st.apart.own i j a b m (came i f is_i).0 (came j e is_j).0 low high (came i f is_i).1.was (came j e is_j).1.was
        ((came i f is_i).1.names a m n_i) ((came j e is_j).1.names b m n_j);
    later = λ i j b m f e lt low is_i is_j n_i n_j. st.apart.later i j b m (came i f is_i).0 (came j e is_j).0 lt low (came i f is_i).1.was (came j e is_j).1.was ((came i f is_i).1.names 8 m n_i)
        ((came j e is_j).1.names b m n_j);
    handed = handed;
    loose = loose;
    calls = calls;
  } where
    handed : (i j a m : ℕ) (f e : Filter) → i < j → filter_at d i ≡ Some f → filter_at d j ≡ Some e → named_at f a ≡ Some m → named_at e 8 ≡ Some m → f.lent ≡ Some a
    handed i j a m f e lt is_i is_j n_i n_j = o.1.lent off ∙ st.apart.handed i j a m o.0 q.0 lt o.1.was q.1.was (o.1.names a m n_i) (q.1.names 8 m n_j) where
      o : (g : Filter) × CameFrom c w i g f
      o = came i f is_i

      q : (g : Filter) × CameFrom c w j g e
      q = came j e is_j

      not_t : j ≢ t
      not_t same = (let n : None ≡ Some m = sym (q.1.null same) ∙ n_j in cc)

      off : i ≢ w
      off same = (let n : None ≡ Some m = sym (st.called.incoming j q.0 q.1.was (between j (omega (arith, lt, same)) not_t)) ∙ q.1.names 8 m n_j in cc)

    loose : (i j b : ℕ) (f e : Filter) → filter_at d i ≡ Some f → filter_at d j ≡ Some e → named_at f b ≢ Some e.call.name
    loose i j b f e is_i is_j named = elim (cases_eq j t) [
      | inl same ↦ real_name i b (came i f is_i).0 (came i f is_i).1.was ((came i f is_i).1.names b 0 (named ∙ ap (λ (n : ℕ). Some n) ((came j e is_j).1.none same)))
      | inr ne ↦ st.apart.loose i j b (came i f is_i).0 (came j e is_j).0 (came i f is_i).1.was (came j e is_j).1.was
          ((came i f is_i).1.names b _ (named ∙ ap (λ (n : ℕ). Some n) ((came j e is_j).1.name ne)))
    ]

    calls : (i j : ℕ) (f e : Filter) → filter_at d i ≡ Some f → filter_at d j ≡ Some e → 0 < f.call.name → f.call.name ≡ e.call.name → i ≡ j
    calls i j f e is_i is_j pos same =
        st.apart.calls i j (came i f is_i).0 (came j e is_j).0 (came i f is_i).1.was (came j e is_j).1.was (subst (λ (n : ℕ). 0 < n) name_i pos) (sym name_i ∙ (same ∙ name_j)) where
          name_i : f.call.name ≡ (came i f is_i).0.call.name
          name_i = (came i f is_i).1.name (λ q. let z = (came i f is_i).1.none q in omega (arith, z, pos))

          name_j : e.call.name ≡ (came j e is_j).0.call.name
          name_j = (came j e is_j).1.name (λ q. let z = (came j e is_j).1.none q in omega (arith, z, pos, same))

  called_now : AreCalled chain d
  called_now = record {
    runs = runs;
    idle = idle;
    lent = lent;
    passes = passes;
    passed = passed;
    inward = inward;
    incoming = incoming;
    waits = x.waits ∙ (sym (names_same c d x.left (λ j there. let low = left_below chain s at L M pools next c filters callers waits w st x j there in let under = w_below chain s at L M pools next c filters callers waits w st x in
        ap call_name (x.others j (λ e. omega (arith, e, low, under)) (λ e. omega (arith, e, low)))))
        ∙ ap (names_of d) (sym x.callers_after));
    rises = λ i j k l lt a b. st.called.rises i j k l lt (placed_before i k a) (placed_before j l b);
    bottom = ap (λ (ks : List ℕ). slice_get ks 0) called_is ∙ first_there;
    outer = λ e. absurd (let low = w_below chain s at L M pools next c filters callers waits w st x in let lt = st.within in omega (arith, e, low, lt));
    quiet = λ quiet. absurd (false≢true (sym quiet ∙ x.busy));
  } where
    runs : (k : ℕ) (f : Filter) → filter_at d k ≡ Some f → is_called d k ≡ true → 0 < f.call.name
    runs k f is called = subst (λ (n : ℕ). 0 < n) (sym ((came k f is).1.name off)) (st.called.runs k (came k f is).0 (came k f is).1.was (sym (same_called k off) ∙ called)) where
      off : k ≢ t
      off e = false≢true (sym (ap (is_called d) e ∙ top_over) ∙ called)

    idle : (k : ℕ) (f : Filter) → filter_at d k ≡ Some f → is_called d k ≡ false → f.call.name ≡ 0
    idle k f is over = elim (cases_eq k t) [
      | inl e ↦ (came k f is).1.none e
      | inr ne ↦ (came k f is).1.name ne ∙ st.called.idle k (came k f is).0 (came k f is).1.was (sym (same_called k ne) ∙ over)
    ]

    lent : (k : ℕ) (f : Filter) → filter_at d k ≡ Some f → is_some f.lent ≡ is_waiting d k
    lent k f is = elim (cases_eq k w) [
      | inl e ↦ ap is_some ((came k f is).1.given e) ∙ sym (ap (is_waiting d) e ∙ wait_over)
      | inr ne ↦ ap is_some ((came k f is).1.lent ne) ∙ (st.called.lent k (came k f is).0 (came k f is).1.was ∙ sym (same_waiting k ne))
    ]

    passes : (k b : ℕ) (f : Filter) → filter_at d k ≡ Some f → f.lent ≡ Some b → (b < 9) × ((l : ℕ) × (current (module_at chain k) f.call.pc ≡ instr.Pass b l))
    passes k b f is one =
        let o = came k f is in
        let off = (lent_off k o.0 f o.1 b one).0 in
        let p = st.called.passes k b o.0 o.1.was (sym (o.1.lent off) ∙ one) in
        (p.0, (p.1.0, ap (current (module_at chain k)) (o.1.pc off) ∙ p.1.1))

    passed : (k b : ℕ) (f : Filter) → filter_at d k ≡ Some f → f.lent ≡ Some b → slot_at f.instance b ≡ marked Passed (slot_at f.instance b)
    passed k b f is one =
        let o = came k f is in
        let off = lent_off k o.0 f o.1 b one in
        let same = o.1.instance off.1 in
        ap (λ (i : Instance). slot_at i b) same ∙ (st.called.passed k b o.0 o.1.was (sym (o.1.lent off.0) ∙ one) ∙ ap (λ (i : Instance). marked Passed (slot_at i b)) (sym same))

    first_there : slice_get c.callers.items 0 ≡ Some c.first
    first_there = elim (get_split c.callers.items t 0 c.first st.called.bottom) [
      | inl there ↦ there
      | inr last ↦ absurd (let none = last.0 in let some = many_callers chain s at L M pools next c filters callers waits w st x in omega (arith, none, some))
    ]

    inward : (i k j b : ℕ) (f e : Filter) → slice_get (called_of d) i ≡ Some k → slice_get (called_of d) (suc i) ≡ Some j → filter_at d k ≡ Some f → filter_at d j ≡ Some e → f.lent ≡ Some b
        → (m : ℕ) × ((named_at f b ≡ Some m) × (named_at e 8 ≡ Some m))
    inward i k j b f e here after is later one =
        let o = came k f is in
        let q = came j e later in
        let off = lent_off k o.0 f o.1 b one in
        let n = st.called.inward i k j b o.0 q.0 (placed_before i k here) (placed_before (suc i) j after) o.1.was q.1.was (sym (o.1.lent off.0) ∙ one) in
        let under = waits_below chain c st.called j (get_in c.callers.items (suc i) j (placed (suc i) j after)) in
        (n.0, (ap (λ (i : Instance). name_in (slot_at i b)) (o.1.instance off.1) ∙ n.1.0, ap (λ (i : Instance). name_in (slot_at i 8)) (q.1.instance (λ z. omega (arith, z, under))) ∙ n.1.1))

    incoming : (k : ℕ) (f : Filter) → filter_at d k ≡ Some f → is_called d k ≡ false → named_at f 8 ≡ None
    incoming k f is over = elim (cases_eq k t) [
      | inl e ↦ (came k f is).1.null e
      | inr ne ↦ ap (λ (i : Instance). name_in (slot_at i 8)) ((came k f is).1.instance ne) ∙ st.called.incoming k (came k f is).0 (came k f is).1.was (sym (same_called k ne) ∙ over)
    ]

  module _ (nexts : new_next ≡ next) (pool_same : new_pools ≡ pools) (names : NoneRevived at new_at next) (held_top : HeldOver new_at M new_pools new_next x.ended.instance x.ended.call) where
    held_same : (k : ℕ) (f : Filter) → filter_at c k ≡ Some f → k ≢ t → HeldOver new_at M new_pools new_next f.instance f.call
    held_same k f is ne = held_stays at new_at L M pools new_pools next new_next f.instance f.call (omega (arith, nexts)) pool_same names
        (stays chain s at L M pools next c filters callers waits w st x k f is) (λ pos. loose_stays chain s at L M pools next c filters callers waits w st x k f is ne) (st.held k f is)

    held_wait : HeldOver new_at M new_pools new_next x.resumed.instance x.resumed.call
    unfolding Rattle.interp_state.specs.Slots.cursor_at
    held_wait = subst (λ (i : Instance). HeldOver new_at M new_pools new_next i x.resumed.call) (sym x.instance)
        (held_cursors new_at M new_pools new_next x.wait.instance x.wait.call x.resumed.call (ap (λ (k : Call). k.name) x.call)
        (λ n. ap (λ (k : Call). Rattle.interp_state.specs.Slots.cursor_at k n) x.call)
        (held_same w x.wait x.below (λ e. let low = w_below chain s at L M pools next c filters callers waits w st x in omega (arith, e, low))))

    held_each : (k : ℕ) (f : Filter) → filter_at d k ≡ Some f → HeldOver new_at M new_pools new_next f.instance f.call
    held_each k f is = elim (cases_eq k t) [
      | inl q ↦ subst (λ (g : Filter). HeldOver new_at M new_pools new_next g.instance g.call) (some_is x.ended f (sym x.top_after ∙ (ap (filter_at d) (sym q) ∙ is))) held_top
      | inr ne ↦ (elim (cases_eq k w) [
        | inl q ↦ subst (λ (g : Filter). HeldOver new_at M new_pools new_next g.instance g.call) (some_is x.resumed f (sym x.below_after ∙ (ap (filter_at d) (sym q) ∙ is))) held_wait
        | inr off ↦ held_same k f (sym (x.others k ne off) ∙ is) ne
      ])
    ]

    pub stacked_back : StackedOver chain new_at M new_pools new_next d
    stacked_back = record {
      many = x.count ∙ st.many;
      within = (let a = st.within in let low = w_below chain s at L M pools next c filters callers waits w st x in omega (arith, a, low));
      queue = st.queue;
      held = held_each;
      apart = apart_after;
      called = called_now;
      whole = λ out m f is named. absurd (let a = st.within in let low = w_below chain s at L M pools next c filters callers waits w st x in omega (arith, out, a, low));
      brought = brought;
    } where
      brought : (m : ℕ) (f : Filter) → filter_at d c.first ≡ Some f → named_at f 8 ≡ Some m → (new_pools m ≡ None) × (is_some (M m) ≡ true)
      brought m f is named =
          let o = came c.first f is in
          let n = o.1.names 8 m named in
          let b = st.brought m o.0 o.1.was n in
          (ap (λ (p : ℕ → Option ℕ). p m) pool_same ∙ b.0, ap is_some (stays chain s at L M pools next c filters callers waits w st x c.first o.0 o.1.was 8 m n) ∙ b.1)
