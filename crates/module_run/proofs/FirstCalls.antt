-- The call of the first filter begins, where no call runs: what the connection reads as, and what is true of its filters.
use Rattle.std.proofs.Common.{◌≡◌, ◌≢◌, ℕ, zero, suc, ◌+◌, ◌-◌, ◌&&◌, Bool, true, false, List, [], ◌∷◌, ◌++◌, length, Option, Some, None, is_some, refl, sym, ap, ◌∙◌, ◌⊎◌, inl, inr, ◌==◌, ◌||◌}
use Rattle.std.proofs.Common.{arith}
use Rattle.std.specs.Prelude.{if◌then◌else◌}
use Rattle.std.specs.Option.{option_map_or}
use Rattle.std.proofs.Math.Path.{fun_ext}
use Rattle.bucket_ring.specs.declared.rings.Rings.{Ghosts}
use Rattle.bucket_ring.specs.Lists as ring
use Rattle.bucket_ring.specs.Lists.{list_at}
use Rattle.module_code.specs.Program.{Program}
use Rattle.run_model.specs.declared.bucket.BrigadeVar.{BrigadeVar}
use Rattle.run_model.specs.declared.bucket.Cursor.{Cursor}
use Rattle.run_model.specs.declared.bucket.Cursor.TheVariants as cursor
use Rattle.run_model.specs.declared.bucket.NamedBucket.{NamedBucket}
use Rattle.run_model.specs.declared.payload.Payload.{Payload}
use Rattle.run_model.specs.Chains.{Frame, Connection, Common, module_at}
use Rattle.run_model.specs.Passing.{called, handler_at}
use Rattle.run_model.specs.Pools.{Pools}
use Rattle.run_model.specs.State as model
use Rattle.run_model.specs.State.{fresh_call}
use Rattle.run_model.specs.Turns.{numbers_below, tail_of}
use Rattle.bucket_kinds.specs.declared.stored.Stored.{Stored}
use Rattle.brigade_ops.specs.declared.store.Brigades.{Brigades}
use Rattle.bucket_store.specs.Items.{Items}
use Rattle.brigade_ops.specs.Store.{lists, next_name}
use Rattle.module_run.specs.declared.conn.Conn.{Conn}
use Rattle.module_run.specs.declared.conn.Filter.{Filter}
use Rattle.interp_state.specs.declared.machine.Instance.{Instance}
use Rattle.module_run.specs.CalledFirst.{CalledFirst, CallStarts}
use Rattle.module_run.specs.Conns.{modules_of, call_name, conn_of, counting, filter_at, lent_by, runs_of, shown_call, shown_filter, shown_frame, shown_instance, stack_of, stack_over, top_of}
use Rattle.module_run.specs.Conns.{waiting}
use Rattle.interp_state.specs.Seen.{is_running, shown, shown_cursor, shown_slot}
use Rattle.interp_state.specs.Slots.{cursor_at, slot_at}
use Rattle.module_run.specs.Stacked.{IsStacked, is_called, is_waiting, named_at, names_of}
use Rattle.module_run.proofs.Callers.{no_callers, none_in_callers}
use Rattle.interp_calls.proofs.Begins.{by_slot}
use Rattle.interp_state.proofs.Changes.{ring_here}
use Rattle.module_run.proofs.Looked.{some_same}
use Rattle.module_run.proofs.Tops.{filter_within, frame_at}

-- The filters whose handlers are to come are those behind the first one.

counting_more : (k n : ℕ) → counting k (suc n) ≡ counting k n ++ (k + n) ∷ []
unfolding counting
counting_more k zero = ap (λ (j : ℕ). j ∷ []) (omega arith)
counting_more k (suc n) = ap (λ (xs : List ℕ). k ∷ xs) (counting_more (suc k) n ∙ ap (λ (j : ℕ). counting (suc k) n ++ j ∷ []) (omega arith))

below_counted : (n : ℕ) → numbers_below n ≡ counting 0 n
unfolding counting numbers_below
below_counted zero = refl
below_counted (suc n) = ap (λ (xs : List ℕ). xs ++ n ∷ []) (below_counted n) ∙ (ap (λ (j : ℕ). counting 0 n ++ j ∷ []) (omega arith) ∙ sym (counting_more 0 n))

pub later_filters : (n : ℕ) → counting 1 (n - 1) ≡ tail_of (numbers_below n)
unfolding counting
later_filters zero = ap tail_of (sym (below_counted zero))
later_filters (suc n) = ap (counting 1) (omega arith) ∙ ap tail_of (sym (below_counted (suc n)))

pub none_in : {X : Type 0} (xs : List X) → length xs ≡ 0 → xs ≡ []
none_in [] e = refl
none_in (x ∷ xs) e = absurd (omega (arith, e))

none_lent : (o : Option ℕ) → is_some o ≡ false → o ≡ None
none_lent None e = refl
none_lent (Some b) e = absurd (cc)

pub no_lent : (o : Option ℕ) (b : ℕ) → o ≡ None → o ≡ Some b → ⊥
no_lent o b e f = cc

pub true_false : (t : Bool) → t ≡ true → t ≡ false → ⊥
true_false t e f = cc

-- Where no call runs, none waits and nothing is lent.
module _ {R : Type 0} {g : Ghosts R Stored} (chain : List Program) (store : Brigades R g) (c : Conn) (stacked : IsStacked chain store c) (idle : c.busy ≡ false) where
  pub none_waits : c.waits.items ≡ []
  none_waits = stacked.called.waits ∙ ap (names_of c) (no_callers c.callers.items (stacked.called.quiet idle))

  pub not_called : (k : ℕ) → is_called c k ≡ false
  not_called k = ap (λ (b : Bool). b && (k == top_of c || is_waiting c k)) idle

  pub no_call : (k : ℕ) (f : Filter) → filter_at c k ≡ Some f → f.call.name ≡ 0
  no_call k f is = stacked.called.idle k f is (not_called k)

  pub not_waiting : (k : ℕ) → is_waiting c k ≡ false
  not_waiting k = none_in_callers c (stacked.called.quiet idle) k

  pub not_lent : (k : ℕ) (f : Filter) → filter_at c k ≡ Some f → f.lent ≡ None
  not_lent k f is = none_lent f.lent (stacked.called.lent k f is ∙ not_waiting k)

  pub nothing_in : (k : ℕ) (f : Filter) → filter_at c k ≡ Some f → named_at f 8 ≡ None
  nothing_in k f is = stacked.called.incoming k f is (not_called k)

  pub filter_first : (f : Filter) × (filter_at c 0 ≡ Some f)
  filter_first = filter_within c 0 (let a = stacked.within in let b = stacked.many in omega (arith, a, b))

  pub no_runs : runs_of c ≡ is_running 0 []
  no_runs =
      let top = filter_within c (top_of c) (let a = stacked.within in let b = stacked.many in omega (arith, a, b)) in
      ap (λ (o : Option Filter). is_running (call_name o) c.waits.items) top.1
      ∙ (ap (λ (n : ℕ). is_running n c.waits.items) (no_call (top_of c) top.0 top.1) ∙ ap (is_running 0) none_waits)

-- Where none waits, the first filter's call is the only one.
module _ (d : Conn) (waits : d.waits.items ≡ []) (callers : d.callers.items ≡ []) (top_is : top_of d ≡ 0) where
  pub runs_first : (f : Filter) (n : ℕ) → filter_at d 0 ≡ Some f → f.call.name ≡ n → runs_of d ≡ is_running n []
  runs_first f n at named =
      ap (λ (k : ℕ). is_running (call_name (filter_at d k)) d.waits.items) top_is
      ∙ (ap (λ (o : Option Filter). is_running (call_name o) d.waits.items) at
      ∙ (ap (λ (m : ℕ). is_running m d.waits.items) named ∙ ap (is_running n) waits))

  pub stack_first : (L : ℕ → Option Items) (f : Frame) → d.busy ≡ true → shown_frame (runs_of d) L 0 (filter_at d 0) ≡ f → stack_of L d ≡ f ∷ []
  unfolding stack_over
  stack_first L f busy at =
      ap (λ (b : Bool). if b then frame_at L d (top_of d) ∷ stack_over (frame_at L d) d.callers.items else []) busy
      ∙ (ap (λ (k : ℕ). frame_at L d k ∷ stack_over (frame_at L d) d.callers.items) top_is
      ∙ (ap (λ (ks : List ℕ). frame_at L d 0 ∷ stack_over (frame_at L d) ks) callers ∙ ap (λ (x : Frame). x ∷ []) at))

-- The call of the first filter begins, in a request or in none.
module _ {R : Type 0} {g : Ghosts R Stored} (chain : List Program) (old new : Brigades R g) (c d : Conn) (r : Option ℕ) (stacked : IsStacked chain old c) (idle : c.busy ≡ false)
    (begins : CalledFirst chain (next_name old) (record c { req = r }) d) (over : (n : ℕ) → lists new n ≡ ring.upd (lists old) (next_name old) (Some []) n) where
  pub started : (f : Filter) → filter_at c 0 ≡ Some f → (e : Filter) × ((filter_at d 0 ≡ Some e) × CallStarts (next_name old) (handler_at r (module_at chain 0)) f e)
  unfolding filter_at
  started = begins.first

  pub others_stay : (k : ℕ) → k ≢ 0 → filter_at d k ≡ filter_at c k
  unfolding filter_at
  others_stay = begins.others

  abbrev pub before : Filter
  before = (filter_first chain old c stacked idle).0

  pub before_is : filter_at c 0 ≡ Some before
  before_is = (filter_first chain old c stacked idle).1

  abbrev pub after : Filter
  after = (started before before_is).0

  pub after_is : filter_at d 0 ≡ Some after
  after_is = (started before before_is).1.0

  pub starts : CallStarts (next_name old) (handler_at r (module_at chain 0)) before after
  starts = (started before before_is).1.1

  pub waits_are : d.waits.items ≡ []
  waits_are = ap (λ (x : Conn). x.waits.items) begins.rest ∙ none_waits chain old c stacked idle

  pub first_is : d.first ≡ 0
  first_is = ap (λ (x : Conn). x.first) begins.rest

  pub top_is_first : top_of d ≡ 0
  top_is_first = ap (λ (x : Conn). x.top) begins.rest

  pub callers_are : d.callers.items ≡ []
  callers_are = ap (λ (x : Conn). x.callers.items) begins.rest ∙ no_callers c.callers.items (stacked.called.quiet idle)

  pub none_waiting : waiting d ≡ 0
  none_waiting = ap (λ (ks : List ℕ). length ks) callers_are

  pub runs_now : runs_of d ≡ is_running (next_name old) []
  runs_now = runs_first d waits_are callers_are top_is_first after (next_name old) after_is starts.named

  slot_as : (k : ℕ) (f : Filter) → filter_at c k ≡ Some f → (b : ℕ)
      → shown_slot (is_running (next_name old) []) (lists new) (slot_at f.instance b) ≡ shown_slot (is_running 0 []) (lists old) (slot_at f.instance b)
  slot_as k f is b =
      let none = no_call chain old c stacked idle k f is in
      ap (λ (n : ℕ). shown_slot (is_running n []) (lists new) (slot_at f.instance b)) (sym starts.named)
      ∙ (by_slot old new f.instance f.call after.call (stacked.held k f is) none over starts.named starts.cursors [] b
      ∙ ap (λ (n : ℕ). shown_slot (is_running n []) (lists old) (slot_at f.instance b)) none)

  filter_as : (k : ℕ) (f : Filter) → filter_at c k ≡ Some f → shown_filter (is_running (next_name old) []) (lists new) (Some f) ≡ shown_filter (is_running 0 []) (lists old) (Some f)
  filter_as k f is = ap shows (fun_ext (slot_as k f is)) where
    shows : (ℕ → BrigadeVar) → model.Instance
    shows vars = lent_by f.lent (record (shown_instance (is_running 0 []) (lists old) f.instance) { brigades = vars })

  started_as : shown_filter (is_running (next_name old) []) (lists new) (Some after) ≡ shown_filter (is_running (next_name old) []) (lists new) (Some before)
  started_as =
      ap (λ (o : Option ℕ). lent_by o (shown_instance (is_running (next_name old) []) (lists new) after.instance)) starts.lent
      ∙ ap (λ (i : Instance). lent_by before.lent (shown_instance (is_running (next_name old) []) (lists new) i)) starts.instance

  instance_as : (k : ℕ) → shown_filter (is_running (next_name old) []) (lists new) (filter_at d k) ≡ shown_filter (is_running 0 []) (lists old) (filter_at c k)
  instance_as zero = ap (shown_filter (is_running (next_name old) []) (lists new)) after_is
      ∙ (started_as ∙ (filter_as 0 before before_is ∙ ap (shown_filter (is_running 0 []) (lists old)) (sym before_is)))
  instance_as (suc k) = ap (shown_filter (is_running (next_name old) []) (lists new)) (others_stay (suc k) (λ e. omega (arith, e))) ∙ go (filter_at c (suc k)) refl where
    go : (o : Option Filter) → filter_at c (suc k) ≡ o → shown_filter (is_running (next_name old) []) (lists new) o ≡ shown_filter (is_running 0 []) (lists old) o
    go None is = refl
    go (Some f) is = filter_as (suc k) f is

  abbrev shown_now : ℕ → model.Instance
  shown_now k = shown_filter (runs_of d) (lists new) (filter_at d k)

  abbrev shown_before : ℕ → model.Instance
  shown_before k = shown_filter (runs_of c) (lists old) (filter_at c k)

  instances_as : shown_now ≡ shown_before
  instances_as = fun_ext (λ k.
      ap (λ (runs : ℕ → Bool). shown_filter runs (lists new) (filter_at d k)) runs_now
      ∙ (instance_as k ∙ ap (λ (runs : ℕ → Bool). shown_filter runs (lists old) (filter_at c k)) (sym (no_runs chain old c stacked idle))))

  call_as : (runs : ℕ → Bool) → shown_call runs (lists new) after.call ≡ fresh_call (next_name old)
  call_as runs =
      ap (λ (n : ℕ). made n (λ i. shown_cursor (cursor_at after.call i)) after.call.buffer (shown runs (list_at (lists new) after.call.name))) starts.named
      ∙ (ap (λ (f : ℕ → Cursor). made (next_name old) f after.call.buffer (shown runs (list_at (lists new) after.call.name))) (fun_ext (λ i. ap shown_cursor (starts.cursors i)))
      ∙ (ap (λ (bytes : List ℕ). made (next_name old) (λ i. cursor.Unset) bytes (shown runs (list_at (lists new) after.call.name))) starts.buffer
      ∙ ap (λ (o : Option Items). made (next_name old) (λ i. cursor.Unset) [] (shown runs (option_map_or (λ bs. bs) o [])))
      (ap (lists new) starts.named ∙ (over (next_name old) ∙ ring_here (lists old) (next_name old) (Some []))))) where
        made : ℕ → (ℕ → Cursor) → List ℕ → List NamedBucket → model.Call
        made n f bytes items = record { name = n; cursors = f; buffer = bytes; loose = items }

  frame_as : (runs : ℕ → Bool) → shown_frame runs (lists new) 0 (filter_at d 0) ≡ (record { of = 0; call = fresh_call (next_name old); pc = handler_at r (module_at chain 0) })
  frame_as runs =
      ap (shown_frame runs (lists new) 0) after_is
      ∙ (ap (λ (x : model.Call). frame x after.call.pc) (call_as runs) ∙ ap (frame (fresh_call (next_name old))) starts.at) where
        frame : model.Call → ℕ → Frame
        frame x pc = record { of = 0; call = x; pc = pc }

  stack_as : stack_of (lists new) d ≡ (record { of = 0; call = fresh_call (next_name old); pc = handler_at r (module_at chain 0) }) ∷ []
  stack_as = stack_first d waits_are callers_are top_is_first (lists new) _ (ap (λ (x : Conn). x.busy) begins.rest) (frame_as (runs_of d))

  queue_as : counting d.queue (modules_of d - d.queue) ≡ tail_of (numbers_below (length chain))
  queue_as =
      ap (λ (n : ℕ). counting n (modules_of d - n)) (ap (λ (x : Conn). x.queue) begins.rest)
      ∙ (ap (λ (n : ℕ). counting 1 ((n - 1) - 1)) (begins.many ∙ stacked.many) ∙ (ap (λ (n : ℕ). counting 1 (n - 1)) (let e : (length chain + 1) - 1 ≡ length chain = omega arith in e) ∙ later_filters (length chain)))

  -- what it reads as, over pools of which these are its paths and payloads
  pub conn_called : (ps : Pools Payload) (opened : ℕ → Option (List ℕ)) (k : Common) → k.next ≡ next_name old
      → conn_of ps (lists new) opened d ≡ (called chain 0 (tail_of (numbers_below (length chain))) (k, record (conn_of ps (lists old) opened c) { req = r; count = 0 })).1
  unfolding conn_of
  conn_called ps opened k given =
      ap (λ (i : ℕ → model.Instance). view d i (stack_of (lists new) d) (counting d.queue (modules_of d - d.queue))) instances_as
      ∙ (ap (λ (s : List Frame). view d (λ j. shown_filter (runs_of c) (lists old) (filter_at c j)) s (counting d.queue (modules_of d - d.queue))) stack_as
      ∙ (ap (λ (q : List ℕ). view d (λ j. shown_filter (runs_of c) (lists old) (filter_at c j)) (top (next_name old) ∷ []) q) queue_as
      ∙ (ap (λ (x : Conn). view x (λ j. shown_filter (runs_of c) (lists old) (filter_at c j)) (top (next_name old) ∷ []) (tail_of (numbers_below (length chain)))) begins.rest
      ∙ ap (λ (n : ℕ). view (record c { req = r; count = 0 }) (λ j. shown_filter (runs_of c) (lists old) (filter_at c j)) (top n ∷ []) (tail_of (numbers_below (length chain)))) (sym given)))) where
        top : ℕ → Frame
        top n = record { of = 0; call = fresh_call n; pc = handler_at r (module_at chain 0) }

        view : Conn → (ℕ → model.Instance) → List Frame → List ℕ → Connection
        view x i s q = record (conn_of ps (lists new) opened x) { instances = i; stack = s; queue = q }

  -- The filter that was there, of one that is there now.
  pub record Was (k : ℕ) (f : Filter) : Type 0 where
    pub filter : Filter
    pub is : filter_at c k ≡ Some filter
    pub instance : f.instance ≡ filter.instance
    pub lent : f.lent ≡ filter.lent
    pub call : ((k ≡ 0) × (f.call.name ≡ next_name old)) ⊎ ((k ≢ 0) × (f.call ≡ filter.call))

  pub was : (k : ℕ) (f : Filter) → filter_at d k ≡ Some f → Was k f
  was zero f is = (let same : after ≡ f = some_same after f (sym after_is ∙ is) in record {
    filter = before;
    is = before_is;
    instance = ap (λ (x : Filter). x.instance) (sym same) ∙ starts.instance;
    lent = ap (λ (x : Filter). x.lent) (sym same) ∙ starts.lent;
    call = inl (refl, ap (λ (x : Filter). x.call.name) (sym same) ∙ starts.named);
  })
  was (suc k) f is = record {
    filter = f;
    is = sym (others_stay (suc k) (λ e. omega (arith, e))) ∙ is;
    instance = refl;
    lent = refl;
    call = inr ((λ e. omega (arith, e)), refl);
  }
