-- A connection is opened: what it stands for before its first call, and then.
use Rattle.std.proofs.Common.{◌≡◌, ℕ, zero, suc, ◌+◌, ◌-◌, ◌<◌, ◌≤◌, ◌&&◌, Bool, false, List, [], ◌∷◌, ◌++◌, length, Option, Some, None, is_some, ◌⊎◌, inl, inr, refl, sym, ap, subst, ◌∙◌, ◌==◌, ◌||◌}
use Rattle.std.proofs.Common.{arith}
use Rattle.std.specs.Prelude.{if◌then◌else◌, slice_get, slice_index_or}
use Rattle.std.specs.Global.{Vec}
use Rattle.std.proofs.Math.Path.{fun_ext}
use Rattle.bucket_kinds.specs.Device.{Device}
use Rattle.bucket_ring.specs.declared.rings.Rings.{Ghosts}
use Rattle.bucket_ring.specs.Kept.{NoneRevived}
use Rattle.bucket_ring.specs.Lists as ring
use Rattle.module_code.specs.Program.{Program}
use Rattle.run_model.specs.declared.bucket.BrigadeVar.{BrigadeVar}
use Rattle.run_model.specs.declared.bucket.BrigadeVar.TheVariants as var
use Rattle.run_model.specs.declared.bucket.PoolVar.{PoolVar}
use Rattle.run_model.specs.declared.bucket.PoolVar.TheVariants as poolvar
use Rattle.run_model.specs.declared.event.Cause.{Cause}
use Rattle.run_model.specs.declared.payload.Payload.{Payload}
use Rattle.run_model.specs.Chains.{Connection, Common, Frame, Linked}
use Rattle.run_model.specs.Pools.{Pools, created}
use Rattle.run_model.specs.RunOrder.{IsPoolMap}
use Rattle.run_model.specs.State as model
use Rattle.run_model.specs.State.{fresh_instance}
use Rattle.run_model.specs.Turns.{all_called, fresh_connection, opened, with_pools}
use Rattle.pool_tree.specs.declared.tree.PoolTree.{PoolTree}
use Rattle.pool_tree.specs.Tree.{map_of}
use Rattle.bucket_kinds.specs.declared.stored.Stored.{Stored}
use Rattle.brigade_ops.specs.declared.store.Brigades.{Brigades}
use Rattle.brigade_ops.specs.House.{AreHoused, AreOpen, IsHouse}
use Rattle.bucket_store.specs.Items.{Items}
use Rattle.brigade_ops.specs.Store.{lists, brigade_of, pool_of, next_name, references}
use Rattle.brigade_ops.proofs.Housed.{house_created}
use Rattle.module_run.specs.declared.conn.Conn.{Conn}
use Rattle.module_run.specs.declared.conn.Filter.{Filter}
use Rattle.module_run.specs.declared.conn.OpenFile.{OpenFile}
use Rattle.interp_state.specs.declared.machine.Instance.{Instance}
use Rattle.module_run.specs.CalledFirst.{CalledFirst}
use Rattle.module_run.specs.Conns.{modules_of, conn_of, counting, filter_at, labels_handed, lengths, lent_by, runs_of, shown_filter, shown_instance, stack_of, stack_over, top_of, waiting}
use Rattle.module_run.specs.Neighbours.{ComesBeside, HoldsName}
use Rattle.module_run.specs.Opening.{CanOpen, IsNewConn, IsNewFilter, over}
use Rattle.module_run.specs.Proceeding.{LeftAs}
use Rattle.interp_state.specs.Seen.{shown_slot}
use Rattle.interp_state.specs.Slots.{slot_at, name_in}
use Rattle.module_run.specs.Stacked.{FiltersApart, AreCalled, IsStacked, is_called, named_at, is_waiting}
use Rattle.module_run.proofs.FirstCalls.{no_lent, true_false}
use Rattle.module_run.proofs.FirstStacked.{left_called}
use Rattle.module_run.proofs.Callers.{alone_bottom, alone_names, alone_rises, none_in_callers}
use Rattle.module_run.proofs.Looked.{some_same}
use Rattle.module_run.proofs.Tops.{filter_within, frame_at}
use Rattle.module_run.proofs.Unchanged.{next_off_pools, off_pools}
use Rattle.interp_state.proofs.Changes.{ring_off}
use Rattle.std.proofs.lemmas.Bool.{cases_eq}
use Rattle.interp_exec.specs.declared.labels_run.LabelsRun.{LabelsRun}

pub all_pushed : {X : Type 0} (T : X → Type 0) (xs : List X) (x : X) → ((k : ℕ) (y : X) → slice_get xs k ≡ Some y → T y) → T x → (k : ℕ) (y : X) → slice_get (xs ++ x ∷ []) k ≡ Some y → T y
all_pushed T [] x each last zero y is = subst T (some_same x y is) last
all_pushed T [] x each last (suc k) y is = absurd (cc)
all_pushed T (z ∷ zs) x each last zero y is = each zero y is
all_pushed T (z ∷ zs) x each last (suc k) y is = all_pushed T zs x (λ j w at. each (suc j) w at) last k y is

new_instance : (runs : ℕ → Bool) (rings : ℕ → Option Items) (f : Filter) → IsNewFilter f → shown_filter runs rings (Some f) ≡ fresh_instance
new_instance runs rings f is =
    ap (λ (o : Option ℕ). lent_by o (shown_instance runs rings f.instance)) is.lent
    ∙ (ap (λ (t : Bool). record (shown_instance runs rings f.instance) { left = t }) is.left
    ∙ (ap (λ (ps : ℕ → PoolVar). made ps (λ b. shown_slot runs rings (slot_at f.instance b)) (λ n. slice_index_or f.instance.numbers n 0) f.instance.sent) (fun_ext is.pools)
    ∙ (ap (λ (bs : ℕ → BrigadeVar). made (λ p. poolvar.Null) bs (λ n. slice_index_or f.instance.numbers n 0) f.instance.sent) (fun_ext (λ b. ap (shown_slot runs rings) (is.slots b)))
    ∙ (ap (λ (ns : ℕ → ℕ). made (λ p. poolvar.Null) (λ b. var.Null) ns f.instance.sent) (fun_ext is.numbers)
    ∙ ap (made (λ p. poolvar.Null) (λ b. var.Null) (λ n. 0)) is.sent)))) where
      made : (ℕ → PoolVar) → (ℕ → BrigadeVar) → (ℕ → ℕ) → Bool → model.Instance
      made ps bs ns sent = record { pools = ps; brigades = bs; numbers = ns; sent = sent; left = false }

module _ {R : Type 0} {g : Ghosts R Stored} (chain : List Program) (tree : PoolTree Payload) (old : Brigades R g) (new : CanOpen tree old) (c : Conn) (some : 0 < length chain) (filters : Vec Filter)
    (is : IsNewConn filters (map_of tree).next c) (many : length c.filters.items ≡ length chain + 1) (fresh : (k : ℕ) (f : Filter) → filter_at c k ≡ Some f → IsNewFilter f) where
  none_named : (k b m : ℕ) (f : Filter) → filter_at c k ≡ Some f → named_at f b ≡ Some m → ⊥
  none_named k b m f at e = no_lent (named_at f b) m (ap name_in ((fresh k f at).slots b)) e

  none_lent_at : (k b : ℕ) (f : Filter) → filter_at c k ≡ Some f → f.lent ≡ Some b → ⊥
  none_lent_at k b f at e = no_lent f.lent b (fresh k f at).lent e

  queue_is : c.queue ≡ length chain
  queue_is = (let q = is.queue in let l : length filters.items ≡ length chain + 1 = ap (λ (fs : Vec Filter). length fs.items) (sym is.filters_are) ∙ many in omega (arith, q, l))

  -- 0 is on no pool
  zero_off : pool_of old 0 ≡ None
  zero_off = off_pools old (map_of tree) new.house 0 (λ there. let e : is_some (lists old 0) ≡ false = ap is_some new.none in cc)

  none_waits : waiting c ≡ 0
  none_waits = ap (λ (xs : List ℕ). length xs) is.callers

  new_apart : FiltersApart c
  new_apart = record {
    own = λ i j a b m f e la lb fi ej na nb. absurd (none_named i a m f fi na);
    later = λ i j b m f e lt lb fi ej nf. absurd (none_named i 8 m f fi nf);
    handed = λ i j a m f e lt fi ej na nb. absurd (none_named i a m f fi na);
    loose = λ i j b f e fi ej n. none_named i b e.call.name f fi n;
    calls = λ i j f e fi ej pos same. absurd (let q = (fresh i f fi).idle in omega (arith, q, pos));
  }

  new_called : AreCalled chain c
  new_called = record {
    runs = λ k f at e. absurd (true_false (is_called c k) e (ap (λ (b : Bool). b && (k == top_of c || is_waiting c k)) is.busy));
    idle = λ k f at e. (fresh k f at).idle;
    lent = λ k f at. ap is_some (fresh k f at).lent ∙ sym (none_in_callers c none_waits k);
    passes = λ k b f at e. absurd (none_lent_at k b f at e);
    passed = λ k b f at e. absurd (none_lent_at k b f at e);
    inward = λ i k j b f e before next at behind lends. absurd (none_lent_at k b f at lends);
    incoming = λ k f at e. ap name_in ((fresh k f at).slots 8);
    waits = alone_names c none_waits is.waits;
    rises = alone_rises c none_waits;
    bottom = alone_bottom c none_waits (is.top ∙ sym is.first);
    outer = λ e. is.callers;
    quiet = λ e. none_waits;
  }

  new_stacked : IsStacked chain old c
  new_stacked = record {
    many = many;
    within = (let a = is.top in omega (arith, a, some));
    queue = (let a = queue_is in omega (arith, a));
    held = λ k f at. (fresh k f at).held (brigade_of old) (lists old) (pool_of old) (next_name old) new.named zero_off;
    apart = new_apart;
    called = new_called;
    brought = λ m f at e. absurd (none_named c.first 8 m f at e);
    whole = λ out m f at e. absurd (none_named (top_of c) 8 m f at e);
  }

  abbrev shown_at : ℕ → model.Instance
  shown_at k = shown_filter (runs_of c) (lists old) (filter_at c k)

  abbrev fresh_at : ℕ → model.Instance
  fresh_at k = fresh_instance

  new_instances : fresh_at ≡ shown_at
  new_instances = fun_ext (λ k. sym (go k (filter_at c k) refl)) where
    go : (k : ℕ) (o : Option Filter) → filter_at c k ≡ o → shown_filter (runs_of c) (lists old) o ≡ fresh_instance
    go k None at = refl
    go k (Some f) at = new_instance (runs_of c) (lists old) f (fresh k f at)

  new_queue : [] ≡ counting c.queue (modules_of c - c.queue)
  unfolding counting
  new_queue = ap (counting c.queue) none_more where
    none_more : 0 ≡ modules_of c - c.queue
    none_more = (let a = queue_is in omega (arith, a, many))

  new_stack : [] ≡ stack_of (lists old) c
  new_stack = sym (ap (λ (b : Bool). if b then frame_at (lists old) c (top_of c) ∷ stack_over (frame_at (lists old) c) c.callers.items else []) is.busy)

  -- a connection before its first call, over these pools
  abbrev pub before : Common → Connection
  before k = record (fresh_connection k) { path = (map_of tree).path; payloads = (map_of tree).payloads }

  new_conn : (k : Common) → k.pools ≡ (map_of tree).next → before k ≡ conn_of (map_of tree) (lists old) (λ file. None) c
  unfolding conn_of
  new_conn k named =
      ap (λ (i : ℕ → model.Instance). view i [] [] k.pools None [] [] [] false 0 None) new_instances
      ∙ (ap (λ (s : List Frame). view shown_at s [] k.pools None [] [] [] false 0 None) new_stack
      ∙ (ap (λ (q : List ℕ). view shown_at (stack_of (lists old) c) q k.pools None [] [] [] false 0 None) new_queue
      ∙ (ap (λ (n : ℕ). rest n None [] [] [] false 0 None) (named ∙ sym is.conn)
      ∙ (ap (λ (r : Option ℕ). rest c.conn r [] [] [] false 0 None) (sym is.req)
      ∙ (ap (λ (ls : List LabelsRun). rest c.conn c.req (labels_handed ls) [] [] false 0 None) (sym is.labels)
      ∙ (ap (λ (fs : List OpenFile). rest c.conn c.req (labels_handed c.labels.items) (lengths fs) [] false 0 None) (sym is.files)
      ∙ (ap (λ (bytes : List ℕ). rest c.conn c.req (labels_handed c.labels.items) (lengths c.files.items) bytes false 0 None) (sym is.out)
      ∙ (ap (λ (e : Bool). rest c.conn c.req (labels_handed c.labels.items) (lengths c.files.items) c.out e 0 None) (sym is.ended)
      ∙ (ap (λ (n : ℕ). rest c.conn c.req (labels_handed c.labels.items) (lengths c.files.items) c.out c.ended n None) (sym is.count)
      ∙ ap (λ (b : Option Cause). rest c.conn c.req (labels_handed c.labels.items) (lengths c.files.items) c.out c.ended c.count b) (sym is.broken)))))))))) where
        view : (ℕ → model.Instance) → List Frame → List ℕ → ℕ → Option ℕ → List (List ℕ) → List (ℕ × ℕ) → List ℕ → Bool → ℕ → Option Cause → Connection
        view i s q conn req labels files bytes ended count broken = record {
          instances = i;
          stack = s;
          queue = q;
          path = (map_of tree).path;
          payloads = (map_of tree).payloads;
          conn = conn;
          req = req;
          labels = labels;
          opened = λ file. None;
          files = files;
          out = record { bytes = bytes; ended = ended };
          count = count;
          broken = broken;
        }

        rest : ℕ → Option ℕ → List (List ℕ) → List (ℕ × ℕ) → List ℕ → Bool → ℕ → Option Cause → Connection
        rest = view shown_at (stack_of (lists old) c) (counting c.queue (modules_of c - c.queue))

  pub new_left : (dev : Device) (k : Common) → AreOpen (references old) dev → k.pools ≡ (map_of tree).next → k.next ≡ next_name old → IsPoolMap (map_of tree)
      → LeftAs chain tree old dev c (k, before k)
  new_left dev k open_files named given formed = record {
    seen = record { pools = named; given = given; conn = new_conn k named };
    opens = λ file bytes e. absurd (cc);
    formed = formed;
    house = new.house;
    references = open_files;
    none = new.none;
    stacked = new_stacked;
  }

  pub opened_left : (newer : PoolTree Payload) (store : Brigades R g) (d : Conn) (dev : Device) (k : Common) (root : ℕ) → AreOpen (references old) dev → k.pools ≡ (map_of tree).next
      → k.next ≡ next_name old → IsPoolMap (map_of tree)
      → CalledFirst chain (next_name old) (record c { req = None }) d → map_of newer ≡ created root (map_of tree) → IsPoolMap (map_of newer)
      → ((n : ℕ) → lists store n ≡ ring.upd (lists old) (next_name old) (Some []) n)
      → next_name store ≡ next_name old + 1 → NoneRevived (brigade_of old) (brigade_of store) (next_name old) → pool_of store ≡ pool_of old → references store ≡ references old
      → LeftAs chain newer store dev d (over (map_of newer) (opened chain k))
  unfolding opened all_called created
  opened_left newer store d dev k root open_files named given formed begins map new_formed out next names pools refs =
      subst (λ (w : Linked). LeftAs chain newer store dev d w) (sym same)
      (left_called chain old store c d None new_stacked is.busy begins out next names pools (next_off_pools old (map_of tree) new.house) some tree newer dev k (before k)
      (new_left dev k open_files named given formed) refs new_formed house) where
        same : over (map_of newer) (opened chain k) ≡ all_called chain (with_pools (map_of newer) (k, before k))
        same = ap (λ (n : ℕ). over (map_of newer) (all_called chain (record k { pools = n }, fresh_connection k)))
            (let e : k.pools + 1 ≡ (map_of newer).next = ap (λ (n : ℕ). n + 1) named ∙ sym (ap (λ (ps : Pools Payload). ps.next) map) in e)

        house : IsHouse old (map_of newer)
        house = subst (AreHoused (lists old) (pool_of old) (references old)) (sym map) (house_created (lists old) (pool_of old) (references old) (map_of tree) new.house root formed)

  -- What it holds is new.
  pub opened_beside : (store : Brigades R g) (d : Conn) → CalledFirst chain (next_name old) (record c { req = None }) d → ((n : ℕ) → lists store n ≡ ring.upd (lists old) (next_name old) (Some []) n)
      → next_name store ≡ next_name old + 1 → NoneRevived (brigade_of old) (brigade_of store) (next_name old) → pool_of store ≡ pool_of old → ComesBeside old store d
  unfolding filter_at
  opened_beside store d begins out next names pools = record {
    rises = omega (arith, next);
    names = names;
    others = λ n below. record { list = out n ∙ ring_off (lists old) (next_name old) n (Some []) (λ e. omega (arith, below, e)); pool = ap (λ (f : ℕ → Option ℕ). f n) pools };
    holds = λ n pos h. elim (cases_eq h.at 0) [
      | inl q ↦ at_first n pos h q (filter_first_new)
      | inr ne ↦ absurd (not_fresh n pos h.at h.filter (sym (begins.others h.at ne) ∙ h.is) h.by)
    ];
  } where
    not_fresh : (n : ℕ) → 0 < n → (k : ℕ) (f : Filter) → filter_at c k ≡ Some f → (f.call.name ≡ n) ⊎ ((b : ℕ) × (named_at f b ≡ Some n)) → ⊥
    not_fresh n pos k f is by = elim by [
      | inl name ↦ (let idle = (fresh k f is).idle in omega (arith, idle, name, pos))
      | inr b ↦ none_named k b.0 n f is b.1
    ]

    filter_first_new : (f : Filter) × (filter_at c 0 ≡ Some f)
    filter_first_new = filter_within c 0 (omega (arith, some, many))

    at_first : (n : ℕ) → 0 < n → (h : HoldsName d n) → h.at ≡ 0 → (f : Filter) × (filter_at c 0 ≡ Some f) → next_name old ≤ n
    at_first n pos h q f =
        let e = begins.first f.0 f.1 in
        let same : h.filter ≡ e.0 = some_same h.filter e.0 (sym h.is ∙ (ap (filter_at d) q ∙ e.1.0)) in
        elim h.by [
          | inl name ↦ (let a = e.1.1.named in let b = ap (λ (x : Filter). x.call.name) same in omega (arith, a, b, name))
          | inr b ↦ absurd (none_named 0 b.0 n f.0 f.1 (ap (λ (i : Instance). name_in (slot_at i b.0)) (sym e.1.1.instance ∙ ap (λ (x : Filter). x.instance) (sym same)) ∙ b.1))
        ]
