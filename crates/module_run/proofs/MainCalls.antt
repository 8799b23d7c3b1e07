-- A brigade is brought, where no call runs: what the connection reads as.
use Rattle.std.proofs.Common.{inr, inl, ◌≡◌, ◌==◌, ℕ, zero, suc, ◌+◌, ◌-◌, ◌<◌, ◌||◌, Bool, true, false, List, [], ◌∷◌, length, Option, Some, None, is_some, refl, sym, ap, subst, ◌∙◌, arith}
use Rattle.std.specs.Prelude.{if◌then◌else◌, slice_index_or}
use Rattle.std.specs.Option.{option_map_or}
use Rattle.std.proofs.Math.Path.{fun_ext}
use Rattle.std.proofs.lemmas.Bool.{cases_eq, eq-eqb, ne_eqb}
use Rattle.bucket_ring.specs.declared.names.BucketId.{BucketId}
use Rattle.bucket_ring.specs.declared.rings.Rings.{Ghosts}
use Rattle.bucket_ring.specs.Lists.{list_at, times}
use Rattle.module_code.specs.Program.{Program}
use Rattle.run_model.specs.declared.bucket.BrigadeVar.{BrigadeVar}
use Rattle.run_model.specs.declared.bucket.BrigadeVar.TheVariants as var
use Rattle.run_model.specs.declared.bucket.Cursor.{Cursor}
use Rattle.run_model.specs.declared.bucket.Cursor.TheVariants as cursor
use Rattle.run_model.specs.declared.bucket.Mark.TheVariants.{Usable}
use Rattle.run_model.specs.declared.bucket.NamedBucket.{NamedBucket}
use Rattle.run_model.specs.declared.bucket.PoolVar.TheVariants as poolvar
use Rattle.run_model.specs.declared.event.Piece.{Piece}
use Rattle.run_model.specs.declared.payload.Payload.{Payload}
use Rattle.run_model.specs.Chains.{Frame, Connection, Common, module_at}
use Rattle.run_model.specs.Pieces.{bucket_of, named_from}
use Rattle.run_model.specs.Indexed.{upd}
use Rattle.run_model.specs.Passing.{set_in}
use Rattle.run_model.specs.Pools.{Pools}
use Rattle.run_model.specs.State as model
use Rattle.run_model.specs.State.{fresh_call}
use Rattle.run_model.specs.Turns.{brought_in}
use Rattle.bucket_kinds.specs.declared.stored.Stored.{Stored}
use Rattle.brigade_ops.specs.declared.store.Brigades.{Brigades}
use Rattle.bucket_store.specs.Items.{Items, named}
use Rattle.brigade_ops.specs.Store.{lists, next_name}
use Rattle.brigade_ops.proofs.Stores.{in_listed, young}
use Rattle.module_run.specs.declared.conn.Conn.{Conn}
use Rattle.module_run.specs.declared.conn.Filter.{Filter}
use Rattle.interp_state.specs.declared.machine.Slot.{Slot}
use Rattle.interp_state.specs.declared.machine.Slot.TheVariants as slot
use Rattle.module_run.specs.CalledMain.{CalledMain, StartsWith}
use Rattle.module_run.specs.Conns.{modules_of, call_name, conn_of, counting, filter_at, labels_handed, lengths, lent_by, runs_of, shown_call, shown_filter, shown_frame, shown_instance, stack_of, stack_over, top_of}
use Rattle.module_run.proofs.Callers.{no_callers}
use Rattle.module_run.specs.Conns.{place_in, waiting}
use Rattle.interp_state.specs.Seen.{is_running, shown, shown_as, shown_cursor, shown_slot}
use Rattle.interp_state.specs.Slots.{cursor_at, slot_at, name_in}
use Rattle.module_run.specs.Stacked.{IsStacked}
use Rattle.interp_calls.proofs.Begins.{items_begun}
use Rattle.module_run.proofs.Brought.{brought_shown}
use Rattle.module_run.proofs.FirstCalls.{no_runs, none_waits, not_lent}
use Rattle.module_run.proofs.Tops.{filter_within, frame_at}

-- a call runs
runs_itself : (n : ℕ) → 0 < n → is_running n [] n ≡ true
runs_itself zero pos = absurd (omega (arith, pos))
runs_itself (suc n) pos = ap (λ (t : Bool). t || false) (eq-eqb (suc n) (suc n) refl)

-- A store in which a call of the next name has its brigade of loose buckets, and the name behind it is that of the brigade of these pieces.
pub record HasBrought {R : Type 0} {g : Ghosts R Stored} (old new : Brigades R g) (req : ℕ) (pieces : List Piece) : Type 0 where
  pub items : Items
  pub reads : named items ≡ named_from (bucket_of (next_name old) req) (next_name old + 2) pieces
  pub before : (n : ℕ) → n < next_name old → lists new n ≡ lists old n
  pub loose : lists new (next_name old) ≡ Some []
  pub brigade : lists new (next_name old + 1) ≡ Some items

module _ {R : Type 0} {g : Ghosts R Stored} (chain : List Program) (old new : Brigades R g) (c d : Conn) (to : ℕ) (inside : to < length chain + 1) (req : ℕ) (pieces : List Piece) (stacked : IsStacked chain old c) (idle : c.busy ≡ false)
    (begins : CalledMain chain to (next_name old) (next_name old + 1) c d) (made : HasBrought old new req pieces) where
  -- the filter to which it is brought
  abbrev pub found : (f : Filter) × (filter_at c to ≡ Some f)
  found = filter_within c to (let m = stacked.many in omega (arith, m, inside))

  abbrev pub before : Filter
  before = found.0

  pub before_is : filter_at c to ≡ Some before
  before_is = found.1

  abbrev pub after : Filter
  after = (begins.first before before_is).0

  pub after_is : filter_at d to ≡ Some after
  after_is = (begins.first before before_is).1.0

  pub starts : StartsWith (next_name old) (next_name old + 1) (module_at chain to).main before after
  starts = (begins.first before before_is).1.1

  pub first_name : 0 < next_name old
  first_name = (let a = (stacked.held to before before_is).called in omega (arith, a))

  pub waits_are : d.waits.items ≡ []
  waits_are = ap (λ (x : Conn). x.waits.items) begins.rest ∙ none_waits chain old c stacked idle

  pub first_is : d.first ≡ to
  first_is = ap (λ (x : Conn). x.first) begins.rest

  pub callers_are : d.callers.items ≡ []
  callers_are = ap (λ (x : Conn). x.callers.items) begins.rest ∙ no_callers c.callers.items (stacked.called.quiet idle)

  pub none_waiting : waiting d ≡ 0
  none_waiting = ap (λ (xs : List ℕ). length xs) callers_are

  pub top_is : top_of d ≡ to
  top_is = ap (λ (x : Conn). x.top) begins.rest

  runs_now : runs_of d ≡ is_running (next_name old) []
  runs_now =
      ap (λ (k : ℕ). is_running (call_name (filter_at d k)) d.waits.items) top_is
      ∙ (ap (λ (o : Option Filter). is_running (call_name o) d.waits.items) after_is
      ∙ (ap (λ (n : ℕ). is_running n d.waits.items) starts.named ∙ ap (is_running (next_name old)) waits_are))

  -- a variable of before
  slot_as : (s : Slot) → ((n : ℕ) → name_in s ≡ Some n → n < next_name old) → shown_slot (is_running (next_name old) []) (lists new) s ≡ shown_slot (is_running 0 []) (lists old) s
  slot_as slot.Null below = refl
  slot_as (slot.Made n pool mark) below = ap (shown_as (is_running (next_name old) []) n pool mark) (made.before n (below n refl)) ∙ there (lists old n) refl where
    there : (o : Option Items) → lists old n ≡ o → shown_as (is_running (next_name old) []) n pool mark o ≡ shown_as (is_running 0 []) n pool mark o
    there None e = refl
    there (Some xs) e = ap live (items_begun (next_name old) [] xs older) where
      live : List NamedBucket → BrigadeVar
      live items = var.Live (record { name = n; on = pool; mark = mark; items = items })

      older : (id : BucketId) → 0 < times id xs → id.birth < next_name old
      older id h = young old id (ap is_some (in_listed old id n (subst (λ (o : Option Items). 0 < times id (option_map_or (λ bs. bs) o [])) (sym e) h)))

  slot_at_as : (k : ℕ) (f : Filter) → filter_at c k ≡ Some f → (b : ℕ)
      → shown_slot (is_running (next_name old) []) (lists new) (slot_at f.instance b) ≡ shown_slot (is_running 0 []) (lists old) (slot_at f.instance b)
  slot_at_as k f is b = slot_as (slot_at f.instance b) (λ n e. (stacked.held k f is).named b n e)

  abbrev in_var : BrigadeVar
  in_var = var.Live (record { name = next_name old + 1; on = None; mark = Usable; items = named_from (bucket_of (next_name old) req) (next_name old + 2) pieces })

  -- `in` has what was brought
  in_as : shown_slot (is_running (next_name old) []) (lists new) (slot.Made (next_name old + 1) None Usable) ≡ in_var
  in_as =
      ap (shown_as (is_running (next_name old) []) (next_name old + 1) None Usable) made.brigade
      ∙ ap live (brought_shown (is_running (next_name old) []) (next_name old) req (runs_itself (next_name old) first_name) (next_name old + 2) pieces made.items made.reads (omega arith)) where
        live : List NamedBucket → BrigadeVar
        live items = var.Live (record { name = next_name old + 1; on = None; mark = Usable; items = items })

  filter_as : (k : ℕ) (f : Filter) → filter_at c k ≡ Some f → shown_filter (is_running (next_name old) []) (lists new) (Some f) ≡ shown_filter (is_running 0 []) (lists old) (Some f)
  filter_as k f is = ap shows (fun_ext (slot_at_as k f is)) where
    shows : (ℕ → BrigadeVar) → model.Instance
    shows vars = lent_by f.lent (record (shown_instance (is_running 0 []) (lists old) f.instance) { brigades = vars })

  first_slots : (b : ℕ)
      → shown_slot (is_running (next_name old) []) (lists new) (slot_at after.instance b) ≡ upd (λ (a : ℕ). shown_slot (is_running 0 []) (lists old) (slot_at before.instance a)) 8 in_var b
  unfolding upd
  first_slots b = ap (shown_slot (is_running (next_name old) []) (lists new)) (starts.slots b) ∙ go (b == 8) where
    go : (t : Bool) → shown_slot (is_running (next_name old) []) (lists new)
        (if t then slot.Made (next_name old + 1) None Usable else slot_at before.instance b) ≡ (if t then in_var else shown_slot (is_running 0 []) (lists old) (slot_at before.instance b))
    go true = in_as
    go false = slot_at_as to before before_is b

  first_as : shown_filter (is_running (next_name old) []) (lists new) (Some after) ≡ set_in in_var (shown_filter (is_running 0 []) (lists old) (Some before))
  first_as =
      ap (λ (o : Option ℕ). lent_by o (shown_instance (is_running (next_name old) []) (lists new) after.instance)) (starts.lent ∙ alone)
      ∙ (ap (λ (vars : ℕ → BrigadeVar). record (shown_instance (is_running (next_name old) []) (lists new) after.instance) { brigades = vars }) (fun_ext first_slots)
      ∙ (ap (λ (ps : _). record (shows (slots_then)) { pools = λ p. slice_index_or ps p poolvar.Null; numbers = λ n. slice_index_or after.instance.numbers n 0; sent = after.instance.sent; left = after.instance.left })
      starts.rest.pools
      ∙ (ap (λ (ns : _). record (shows (slots_then)) { numbers = λ n. slice_index_or ns n 0; sent = after.instance.sent; left = after.instance.left }) starts.rest.numbers
      ∙ (ap (λ (s : Bool). record (shows (slots_then)) { sent = s; left = after.instance.left }) starts.rest.sent
      ∙ (ap (λ (s : Bool). record (shows (slots_then)) { left = s }) starts.rest.left
      ∙ ap (λ (o : Option ℕ). set_in in_var (lent_by o (shown_instance (is_running 0 []) (lists old) before.instance))) (sym alone)))))) where
        alone : before.lent ≡ None
        alone = not_lent chain old c stacked idle to before before_is

        slots_then : ℕ → BrigadeVar
        slots_then = upd (λ (a : ℕ). shown_slot (is_running 0 []) (lists old) (slot_at before.instance a)) 8 in_var

        shows : (ℕ → BrigadeVar) → model.Instance
        shows vars = record (shown_instance (is_running 0 []) (lists old) before.instance) { brigades = vars }

  abbrev shown_now : ℕ → model.Instance
  shown_now k = shown_filter (runs_of d) (lists new) (filter_at d k)

  abbrev shown_before : ℕ → model.Instance
  shown_before k = shown_filter (runs_of c) (lists old) (filter_at c k)

  instance_as : (k : ℕ) → shown_filter (is_running (next_name old) []) (lists new) (filter_at d k) ≡ upd (λ (j : ℕ). shown_filter (is_running 0 []) (lists old) (filter_at c j)) to
      (set_in in_var (shown_filter (is_running 0 []) (lists old) (filter_at c to))) k
  unfolding upd
  instance_as k = elim (cases_eq k to) [
    | inl e ↦ ap (λ (j : ℕ). shown_filter (is_running (next_name old) []) (lists new) (filter_at d j)) e
        ∙ (ap (shown_filter (is_running (next_name old) []) (lists new)) after_is
        ∙ (first_as
        ∙ (ap (λ (o : Option Filter). set_in in_var (shown_filter (is_running 0 []) (lists old) o)) (sym before_is)
        ∙ sym (ap chosen (eq-eqb k to e)))))
    | inr ne ↦ ap (shown_filter (is_running (next_name old) []) (lists new)) (begins.others k ne)
        ∙ (go (filter_at c k) refl ∙ sym (ap chosen (ne_eqb k to ne)))
  ] where
    chosen : Bool → model.Instance
    chosen t = if t then set_in in_var (shown_filter (is_running 0 []) (lists old) (filter_at c to)) else shown_filter (is_running 0 []) (lists old) (filter_at c k)

    go : (o : Option Filter) → filter_at c k ≡ o → shown_filter (is_running (next_name old) []) (lists new) o ≡ shown_filter (is_running 0 []) (lists old) o
    go None is = refl
    go (Some f) is = filter_as k f is

  instances_as : shown_now ≡ upd shown_before to (set_in in_var (shown_before to))
  instances_as = fun_ext (λ k.
      ap (λ (runs : ℕ → Bool). shown_filter runs (lists new) (filter_at d k)) runs_now
      ∙ (instance_as k ∙ ap (λ (runs : ℕ → Bool). upd (λ (j : ℕ). shown_filter runs (lists old) (filter_at c j)) to (set_in in_var (shown_filter runs (lists old) (filter_at c to))) k)
      (sym (no_runs chain old c stacked idle))))

  call_as : (runs : ℕ → Bool) → shown_call runs (lists new) after.call ≡ fresh_call (next_name old)
  call_as runs =
      ap (λ (n : ℕ). made_of n (λ i. shown_cursor (cursor_at after.call i)) after.call.buffer (shown runs (list_at (lists new) after.call.name))) starts.named
      ∙ (ap (λ (f : ℕ → Cursor). made_of (next_name old) f after.call.buffer (shown runs (list_at (lists new) after.call.name))) (fun_ext (λ i. ap shown_cursor (starts.cursors i)))
      ∙ (ap (λ (bytes : List ℕ). made_of (next_name old) (λ i. cursor.Unset) bytes (shown runs (list_at (lists new) after.call.name))) starts.buffer
      ∙ ap (λ (o : Option Items). made_of (next_name old) (λ i. cursor.Unset) [] (shown runs (option_map_or (λ bs. bs) o []))) (ap (lists new) starts.named ∙ made.loose))) where
        made_of : ℕ → (ℕ → Cursor) → List ℕ → List NamedBucket → model.Call
        made_of n f bytes items = record { name = n; cursors = f; buffer = bytes; loose = items }

  frame_as : (runs : ℕ → Bool) → shown_frame runs (lists new) to (filter_at d to) ≡ (record { of = to; call = fresh_call (next_name old); pc = (module_at chain to).main })
  frame_as runs =
      ap (shown_frame runs (lists new) to) after_is
      ∙ (ap (λ (x : model.Call). frame x after.call.pc) (call_as runs) ∙ ap (frame (fresh_call (next_name old))) starts.at) where
        frame : model.Call → ℕ → Frame
        frame x pc = record { of = to; call = x; pc = pc }

  stack_as : stack_of (lists new) d ≡ (record { of = to; call = fresh_call (next_name old); pc = (module_at chain to).main }) ∷ []
  unfolding stack_over
  stack_as =
      ap (λ (b : Bool). if b then frame_at (lists new) d (top_of d) ∷ stack_over (frame_at (lists new) d) d.callers.items else []) (ap (λ (x : Conn). x.busy) begins.rest)
      ∙ (ap (λ (k : ℕ). frame_at (lists new) d k ∷ stack_over (frame_at (lists new) d) d.callers.items) top_is
      ∙ (ap (λ (ks : List ℕ). frame_at (lists new) d to ∷ stack_over (frame_at (lists new) d) ks) callers_are
      ∙ ap (λ (f : Frame). f ∷ []) (frame_as (runs_of d))))

  queue_as : counting d.queue (modules_of d - d.queue) ≡ counting c.queue (modules_of c - c.queue)
  queue_as =
      ap (λ (n : ℕ). counting n (modules_of d - n)) (ap (λ (x : Conn). x.queue) begins.rest)
      ∙ ap (λ (n : ℕ). counting c.queue ((n - 1) - c.queue)) begins.many

  pub conn_brought : (ps : Pools Payload) (opened : ℕ → Option (List ℕ)) (k : Common) → k.next ≡ next_name old → to ≡ place_in chain (lists old) c 0
      → conn_of ps (lists new) opened d ≡ (brought_in chain pieces req (k, conn_of ps (lists old) opened c)).1
  unfolding conn_of
  conn_brought ps opened k given place =
      ap (λ (i : ℕ → model.Instance). view d i (stack_of (lists new) d) (counting d.queue (modules_of d - d.queue))) instances_as
      ∙ (ap (λ (s : List Frame). view d instances_then s (counting d.queue (modules_of d - d.queue))) stack_as
      ∙ (ap (λ (q : List ℕ). view d instances_then (top (next_name old) ∷ []) q) queue_as
      ∙ (ap (λ (x : Conn). view x instances_then (top (next_name old) ∷ []) (counting c.queue (modules_of c - c.queue))) begins.rest
      ∙ (ap (λ (n : ℕ). view (record c { count = 0 }) (upd shown_before to (set_in (var_of n) (shown_before to))) (top n ∷ []) (counting c.queue (modules_of c - c.queue))) (sym given)
      ∙ ap (λ (j : ℕ). view (record c { count = 0 }) (upd shown_before j (set_in (var_of k.next) (shown_before j))) (record { of = j; call = fresh_call k.next; pc = (module_at chain j).main } ∷ [])
      (counting c.queue (modules_of c - c.queue))) place)))) where
        var_of : ℕ → BrigadeVar
        var_of n = var.Live (record { name = n + 1; on = None; mark = Usable; items = named_from (bucket_of n req) (n + 2) pieces })

        instances_then : ℕ → model.Instance
        instances_then = upd shown_before to (set_in in_var (shown_before to))

        top : ℕ → Frame
        top n = record { of = to; call = fresh_call n; pc = (module_at chain to).main }

        view : Conn → (ℕ → model.Instance) → List Frame → List ℕ → Connection
        view x i s q = record {
          instances = i;
          stack = s;
          queue = q;
          path = ps.path;
          payloads = ps.payloads;
          conn = x.conn;
          req = x.req;
          labels = labels_handed x.labels.items;
          opened = opened;
          files = lengths x.files.items;
          out = record { bytes = x.out; ended = x.ended };
          count = x.count;
          broken = x.broken;
        }
