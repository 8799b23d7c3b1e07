-- A brigade is brought, where no call runs: what is true of the filters and calls.
use Rattle.std.proofs.Common.{◌≡◌, ◌≢◌, ℕ, ◌+◌, ◌<◌, ◌≤◌, Bool, true, false, List, [], length, Option, Some, None, is_some, sym, ap, subst, ◌∙◌, ◌⊎◌, inl, inr, arith}
use Rattle.std.specs.Option.{option_map_or}
use Rattle.module_run.proofs.Whole.{brought_whole}
use Rattle.std.specs.Prelude.{if◌then◌else◌}
use Rattle.std.proofs.lemmas.Bool.{cases_eq, ne_eqb}
use Rattle.bucket_kinds.specs.Device.{Device}
use Rattle.bucket_ring.specs.declared.names.BucketId.{BucketId}
use Rattle.bucket_ring.specs.declared.rings.Rings.{Ghosts}
use Rattle.bucket_ring.specs.Kept.{NoneRevived}
use Rattle.bucket_ring.specs.Lists as ring
use Rattle.module_code.specs.Program.{Program}
use Rattle.run_model.specs.declared.bucket.Mark.TheVariants.{Usable}
use Rattle.run_model.specs.declared.event.Piece.{Piece}
use Rattle.run_model.specs.declared.payload.Payload.{Payload}
use Rattle.run_model.specs.Chains.{Connection, Common, module_at}
use Rattle.run_model.specs.Turns.{brought_in}
use Rattle.pool_tree.specs.declared.tree.PoolTree.{PoolTree}
use Rattle.pool_tree.specs.Tree.{map_of}
use Rattle.bucket_kinds.specs.declared.stored.Stored.{Stored}
use Rattle.brigade_ops.specs.declared.store.Brigades.{Brigades}
use Rattle.brigade_ops.specs.House.{AreOpen}
use Rattle.bucket_store.specs.Items.{Items, named}
use Rattle.brigade_ops.specs.Store.{lists, brigade_of, pool_of, next_name, references}
use Rattle.brigade_ops.proofs.HouseCalls.{house_paired}
use Rattle.run_model.specs.Pieces.{bucket_of, named_from}
use Rattle.module_run.specs.declared.conn.Conn.{Conn}
use Rattle.module_run.specs.declared.conn.Filter.{Filter}
use Rattle.interp_state.specs.declared.machine.Call.{Call}
use Rattle.interp_state.specs.declared.machine.Instance.{Instance}
use Rattle.interp_state.specs.declared.machine.Slot.TheVariants as slot
use Rattle.interp_state.specs.declared.machine.CursorValue.TheVariants as stand
use Rattle.module_run.specs.CalledMain.{CalledMain, StartsWith}
use Rattle.module_run.specs.Conns.{top_of, conn_of, filter_at, place_in}
use Rattle.interp_state.specs.Held.{IsHeld, WasGiven}
use Rattle.module_run.specs.Proceeding.{LeftAs}
use Rattle.interp_state.specs.Slots.{slot_at, name_in}
use Rattle.module_run.specs.Stacked.{AreWhole, FiltersApart, AreCalled, IsStacked, is_called, named_at}
use Rattle.interp_state.proofs.Changes.{ring_here, ring_off}
use Rattle.module_run.proofs.FirstCalls.{no_call, no_lent, not_lent, nothing_in, true_false}
use Rattle.module_run.proofs.Callers.{no_callers, alone_bottom, alone_called, alone_names, alone_rises, called_top, none_in_callers}
use Rattle.module_run.proofs.Looked.{some_same}
use Rattle.module_run.proofs.MainCalls.{HasBrought, after, after_is, before, before_is, conn_brought, first_is, first_name, none_waiting, starts, top_is, waits_are}

module _ {R : Type 0} {g : Ghosts R Stored} (chain : List Program) (old new : Brigades R g) (c d : Conn) (to : ℕ) (inside : to < length chain + 1) (req : ℕ) (pieces : List Piece) (stacked : IsStacked chain old c) (idle : c.busy ≡ false)
    (begins : CalledMain chain to (next_name old) (next_name old + 1) c d) (made : HasBrought old new req pieces)
    (next : next_name old + 2 ≤ next_name new) (names : NoneRevived (brigade_of old) (brigade_of new) (next_name old)) (pools : pool_of new ≡ pool_of old)
    (free : (n : ℕ) → next_name old ≤ n → pool_of old n ≡ None) where
  abbrev first : Filter
  first = after chain old new c d to inside req pieces stacked idle begins made

  abbrev was_first : Filter
  was_first = before chain old new c d to inside req pieces stacked idle begins made

  first_there : filter_at d to ≡ Some first
  first_there = after_is chain old new c d to inside req pieces stacked idle begins made

  first_was : filter_at c to ≡ Some was_first
  first_was = before_is chain old new c d to inside req pieces stacked idle begins made

  began : StartsWith (next_name old) (next_name old + 1) (module_at chain to).main was_first first
  began = starts chain old new c d to inside req pieces stacked idle begins made

  free_of : (n : ℕ) → next_name old ≤ n → pool_of new n ≡ None
  free_of n le = ap (λ (f : ℕ → Option ℕ). f n) pools ∙ free n le

  -- what was given out is given out
  kept : (id : BucketId) → WasGiven old id → WasGiven new id
  kept id name = record {
    young = let a = name.young in omega (arith, a, next);
    only = λ j there e. name.only j (names j there (let b = name.young in omega (arith, b, e))) e;
  }

  held_beside : (i : Instance) (call : Call) → IsHeld old i call → IsHeld new i call
  held_beside i call held = record {
    apart = held.apart;
    loose = held.loose;
    given = λ n id e. kept id (held.given n id e);
    named = λ b n e. (let a = held.named b n e in omega (arith, a, next));
    real = held.real;
    called = (let a = held.called in omega (arith, a, next));
    runs = λ pos. ap is_some (made.before call.name held.called) ∙ held.runs pos;
    free = ap (λ (f : ℕ → Option ℕ). f call.name) pools ∙ held.free;
    on = λ b n pool mark own is there. ap (λ (f : ℕ → Option ℕ). f n) pools ∙ held.on b n pool mark own is (sym (ap is_some (made.before n (held.named b n (ap name_in is)))) ∙ there);
    incoming = held.incoming;
  }

  -- The variables of the first filter.

  slot_in : slot_at first.instance 8 ≡ slot.Made (next_name old + 1) None Usable
  slot_in = began.slots 8

  slot_own : (b : ℕ) → b ≢ 8 → slot_at first.instance b ≡ slot_at was_first.instance b
  slot_own b ne = began.slots b ∙ ap (λ (t : Bool). if t then slot.Made (next_name old + 1) None Usable else slot_at was_first.instance b) (ne_eqb b 8 ne)

  names_in : (m : ℕ) → named_at first 8 ≡ Some m → m ≡ next_name old + 1
  names_in m e = some_same m (next_name old + 1) (sym e ∙ ap name_in slot_in)

  names_own : (b m : ℕ) → b ≢ 8 → named_at first b ≡ Some m → named_at was_first b ≡ Some m
  names_own b m ne e = sym (ap name_in (slot_own b ne)) ∙ e

  was_held : IsHeld old was_first.instance was_first.call
  was_held = stacked.held to was_first first_was

  below : (b m : ℕ) → b ≢ 8 → named_at first b ≡ Some m → m < next_name old
  below b m ne e = was_held.named b m (names_own b m ne e)

  held_first : IsHeld new first.instance first.call
  held_first = record {
    apart = λ a b n e f. elim (cases_eq a 8) [
      | inl q ↦ elim (cases_eq b 8) [
        | inl p ↦ q ∙ sym p
        | inr ne ↦ absurd (let m = names_in n (ap (named_at first) (sym q) ∙ e) in let lt = below b n ne f in omega (arith, m, lt))
      ]
      | inr na ↦ elim (cases_eq b 8) [
        | inl p ↦ absurd (let m = names_in n (ap (named_at first) (sym p) ∙ f) in let lt = below a n na e in omega (arith, m, lt))
        | inr nb ↦ was_held.apart a b n (names_own a n na e) (names_own b n nb f)
      ]
    ];
    loose = λ b e. elim (cases_eq b 8) [
      | inl q ↦ (let m = names_in first.call.name (ap (named_at first) (sym q) ∙ e) in let n = began.named in omega (arith, m, n))
      | inr ne ↦ (let lt = below b first.call.name ne e in let n = began.named in omega (arith, lt, n))
    ];
    given = λ i id e. absurd (let x : stand.Unset ≡ stand.At id = sym (began.cursors i) ∙ e in cc);
    named = λ b n e. elim (cases_eq b 8) [
      | inl q ↦ (let m = names_in n (ap (named_at first) (sym q) ∙ e) in omega (arith, m, next))
      | inr ne ↦ (let lt = below b n ne e in omega (arith, lt, next))
    ];
    real = λ b n e. elim (cases_eq b 8) [
      | inl q ↦ (let m = names_in n (ap (named_at first) (sym q) ∙ e) in omega (arith, m))
      | inr ne ↦ was_held.real b n (names_own b n ne e)
    ];
    called = (let n = began.named in omega (arith, n, next));
    runs = λ pos. ap (λ (n : ℕ). is_some (lists new n)) began.named ∙ ap is_some made.loose;
    free = ap (pool_of new) began.named ∙ free_of (next_name old) (omega arith);
    on = λ b n pool mark own is there. ap (λ (f : ℕ → Option ℕ). f n) pools
        ∙ was_held.on b n pool mark own (sym (slot_own b own) ∙ is) (sym (ap is_some (made.before n (below b n own (ap name_in is)))) ∙ there);
    incoming = λ n pool mark is. (let e : slot.Made (next_name old + 1) None Usable ≡ slot.Made n pool mark = sym slot_in ∙ is in let p : None ≡ pool = cc in sym p);
  }

  -- A filter that is there: the first, or one as it was.
  there : (k : ℕ) (f : Filter) → filter_at d k ≡ Some f → ((k ≡ to) × (f ≡ first)) ⊎ ((k ≢ to) × (filter_at c k ≡ Some f))
  there k f is = elim (cases_eq k to) [
    | inl e ↦ inl (e, some_same f first (sym is ∙ (ap (filter_at d) e ∙ first_there)))
    | inr ne ↦ inr (ne, sym (begins.others k ne) ∙ is)
  ]

  held_then : (k : ℕ) (f : Filter) → filter_at d k ≡ Some f → IsHeld new f.instance f.call
  held_then k f is = elim (there k f is) [
    | inl w ↦ subst (λ (x : Filter). IsHeld new x.instance x.call) (sym w.1) held_first
    | inr w ↦ held_beside f.instance f.call (stacked.held k f w.1)
  ]

  -- what an own variable names was named before
  own_was : (k b m : ℕ) (f : Filter) → filter_at d k ≡ Some f → b < 8 → named_at f b ≡ Some m → (x : Filter) × ((filter_at c k ≡ Some x) × (named_at x b ≡ Some m))
  own_was k b m f is lt e = elim (there k f is) [
    | inl w ↦ (was_first, (ap (filter_at c) w.0 ∙ first_was, names_own b m (λ q. omega (arith, q, lt)) (ap (λ (x : Filter). named_at x b) (sym w.1) ∙ e)))
    | inr w ↦ (f, (w.1, e))
  ]

  own_below : (k b m : ℕ) (f : Filter) → filter_at d k ≡ Some f → b < 8 → named_at f b ≡ Some m → m < next_name old
  own_below k b m f is lt e = (let w = own_was k b m f is lt e in (stacked.held k w.0 w.1.0).named b m w.1.1)

  named_below : (k b m : ℕ) (f : Filter) → filter_at d k ≡ Some f → b ≢ 8 → named_at f b ≡ Some m → m < next_name old
  named_below k b m f is ne e = elim (there k f is) [
    | inl w ↦ below b m ne (ap (λ (x : Filter). named_at x b) (sym w.1) ∙ e)
    | inr w ↦ (stacked.held k f w.1).named b m e
  ]

  -- only the first filter has something come in
  came_in : (k m : ℕ) (f : Filter) → filter_at d k ≡ Some f → named_at f 8 ≡ Some m → (k ≡ to) × (m ≡ next_name old + 1)
  came_in k m f is e = elim (there k f is) [
    | inl w ↦ (w.0, names_in m (ap (λ (x : Filter). named_at x 8) (sym w.1) ∙ e))
    | inr w ↦ absurd (no_lent (named_at f 8) m (nothing_in chain old c stacked idle k f w.1) e)
  ]

  no_name : (k : ℕ) (f : Filter) → filter_at d k ≡ Some f → k ≢ to → f.call.name ≡ 0
  no_name k f is ne = elim (there k f is) [
    | inl w ↦ absurd (ne w.0)
    | inr w ↦ no_call chain old c stacked idle k f w.1
  ]

  first_called : (k : ℕ) (f : Filter) → filter_at d k ≡ Some f → 0 < f.call.name → k ≡ to
  first_called k f is pos = elim (cases_eq k to) [
    | inl e ↦ e
    | inr ne ↦ absurd (let none = no_name k f is ne in omega (arith, none, pos))
  ]

  never_lent : (k b : ℕ) (f : Filter) → filter_at d k ≡ Some f → f.lent ≡ Some b → ⊥
  never_lent k b f is e = elim (there k f is) [
    | inl w ↦ no_lent was_first.lent b (not_lent chain old c stacked idle to was_first first_was) (sym began.lent ∙ (ap (λ (x : Filter). x.lent) (sym w.1) ∙ e))
    | inr w ↦ no_lent f.lent b (not_lent chain old c stacked idle k f w.1) e
  ]

  lends_none : (k : ℕ) (f : Filter) → filter_at d k ≡ Some f → f.lent ≡ None
  lends_none k f is = elim (there k f is) [
    | inl w ↦ ap (λ (x : Filter). x.lent) w.1 ∙ (began.lent ∙ not_lent chain old c stacked idle to was_first first_was)
    | inr w ↦ not_lent chain old c stacked idle k f w.1
  ]

  apart_then : FiltersApart d
  apart_then = record {
    own = λ i j a b m f e la lb fi ej na nb. (let w = own_was i a m f fi la na in let u = own_was j b m e ej lb nb in stacked.apart.own i j a b m w.0 u.0 la lb w.1.0 u.1.0 w.1.1 u.1.1);
    later = λ i j b m f e lt lb fi ej nf ne. (let came = came_in i m f fi nf in let low = own_below j b m e ej lb ne in let same = came.1 in omega (arith, same, low));
    handed = λ i j a m f e lt fi ej na nb. absurd (let came = came_in j m e ej nb in let at = came.0 in let same = came.1 in elim (cases_eq a 8) [
      | inl q ↦ (let other = (came_in i m f fi (ap (named_at f) (sym q) ∙ na)).0 in omega (arith, at, other, lt))
      | inr ne ↦ (let low = named_below i a m f fi ne na in omega (arith, same, low))
    ]);
    loose = λ i j b f e fi ej n. not_loose i j b f e fi ej n;
    calls = λ i j f e fi ej pos same. first_called i f fi pos ∙ sym (first_called j e ej (omega (arith, pos, same)));
  } where
    not_loose : (i j b : ℕ) (f e : Filter) → filter_at d i ≡ Some f → filter_at d j ≡ Some e → named_at f b ≡ Some e.call.name → ⊥
    not_loose i j b f e fi ej n = elim (there j e ej) [
      | inl w ↦ (let called : e.call.name ≡ next_name old = ap (λ (x : Filter). x.call.name) w.1 ∙ began.named in elim (there i f fi) [
        | inl u ↦ held_first.loose b (ap (λ (x : Filter). named_at x b) (sym u.1) ∙ (n ∙ ap (λ (m : ℕ). Some m) (called ∙ sym began.named)))
        | inr u ↦ (let low = (stacked.held i f u.1).named b e.call.name n in omega (arith, called, low))
      ])
      | inr w ↦ (let none = no_call chain old c stacked idle j e w.1 in let pos = (held_then i f fi).real b e.call.name n in omega (arith, none, pos))
    ]

  called_first : (k : ℕ) → is_called d k ≡ true → k ≡ to
  called_first k e = alone_called d (none_waiting chain old new c d to inside req pieces stacked idle begins made) k e ∙ top_is chain old new c d to inside req pieces stacked idle begins made

  first_is_called : is_called d to ≡ true
  first_is_called = ap (is_called d) (sym (top_is chain old new c d to inside req pieces stacked idle begins made)) ∙ called_top d (ap (λ (x : Conn). x.busy) begins.rest)

  called_then : AreCalled chain d
  called_then = record {
    runs = λ k f is e. runs_first k f is (called_first k e);
    idle = λ k f is e. no_name k f is (λ (z : k ≡ to). true_false (is_called d k) (ap (is_called d) z ∙ first_is_called) e);
    lent = λ k f is. ap is_some (lends_none k f is) ∙ sym (none_in_callers d (none_waiting chain old new c d to inside req pieces stacked idle begins made) k);
    passes = λ k b f is e. absurd (never_lent k b f is e);
    passed = λ k b f is e. absurd (never_lent k b f is e);
    inward = λ i k j b f e at next is behind lends. absurd (never_lent k b f is lends);
    incoming = λ k f is e. elim (there k f is) [
      | inl w ↦ absurd (true_false (is_called d k) (ap (is_called d) w.0 ∙ first_is_called) e)
      | inr w ↦ nothing_in chain old c stacked idle k f w.1
    ];
    waits = alone_names d (none_waiting chain old new c d to inside req pieces stacked idle begins made) (waits_are chain old new c d to inside req pieces stacked idle begins made);
    rises = alone_rises d (none_waiting chain old new c d to inside req pieces stacked idle begins made);
    bottom = alone_bottom d (none_waiting chain old new c d to inside req pieces stacked idle begins made) (top_is chain old new c d to inside req pieces stacked idle begins made ∙ sym (first_is chain old new c d to inside req pieces stacked idle begins made));
    outer = λ e. no_callers d.callers.items (none_waiting chain old new c d to inside req pieces stacked idle begins made);
    quiet = λ e. absurd (true_false d.busy (ap (λ (x : Conn). x.busy) begins.rest) e);
  } where
    runs_first : (k : ℕ) (f : Filter) → filter_at d k ≡ Some f → k ≡ to → 0 < f.call.name
    runs_first k f is z = elim (there k f is) [
      | inl w ↦ (let n = ap (λ (x : Filter). x.call.name) w.1 in let m = began.named in let pos = first_name chain old new c d to inside req pieces stacked idle begins made in omega (arith, n, m, pos))
      | inr w ↦ absurd (w.0 z)
    ]

  pub stacked_then : IsStacked chain new d
  stacked_then = record {
    many = begins.many ∙ stacked.many;
    within = (let top = top_is chain old new c d to inside req pieces stacked idle begins made in omega (arith, top, inside));
    queue = (let q = ap (λ (x : Conn). x.queue) begins.rest in let le = stacked.queue in omega (arith, q, le));
    held = held_then;
    apart = apart_then;
    called = called_then;
    brought = λ m f is e. (let came = came_in d.first m f is e in
        (free_of m (let q = came.1 in omega (arith, q)), ap is_some (ap (lists new) came.1 ∙ made.brigade)));
    whole = λ out m f is e. (let came = came_in (top_of d) m f is e in
        subst (λ (o : Option Items). AreWhole (option_map_or (λ bs. bs) o [])) (sym (ap (lists new) came.1 ∙ made.brigade)) (brought_whole (next_name old) req (next_name old + 2) pieces made.items made.reads));
  }

  -- All of it.
  pub left_brought : to ≡ place_in chain (lists old) c 0 → (tree : PoolTree Payload) (dev : Device) (k : Common) (x : Connection) → LeftAs chain tree old dev c (k, x) → references new ≡ references old
      → next_name new ≡ next_name old + 2 + length pieces
      → ((n : ℕ) → lists new n ≡ ring.upd (ring.upd (lists old) (next_name old) (Some [])) (next_name old + 1) (Some made.items) n)
      → LeftAs chain tree new dev d (brought_in chain pieces req (k, x))
  unfolding conn_of
  left_brought place tree dev k x left refs after_all over = record {
    seen = record {
      pools = left.seen.pools;
      given = ap (λ (n : ℕ). n + 2 + length pieces) left.seen.given ∙ sym after_all;
      conn = ap (λ (y : Connection). (brought_in chain pieces req (k, y)).1) left.seen.conn
          ∙ sym (conn_brought chain old new c d to inside req pieces stacked idle begins made (map_of tree) x.opened k left.seen.given place);
    };
    opens = left.opens;
    formed = left.formed;
    house = house_paired old new (map_of tree) pools refs left.house (next_name old) (next_name old + 1) [] made.items over;
    references = subst (λ (f : ℕ → ℕ). AreOpen f dev) (sym refs) left.references;
    none = made.before 0 (first_name chain old new c d to inside req pieces stacked idle begins made) ∙ left.none;
    stacked = stacked_then;
  }

-- the rings of the call and the brigade
abbrev pub has_brought : {R : Type 0} {g : Ghosts R Stored} (old new : Brigades R g) (req : ℕ) (pieces : List Piece) (xs : Items)
    → named xs ≡ named_from (bucket_of (next_name old) req) (next_name old + 2) pieces
    → ((n : ℕ) → lists new n ≡ ring.upd (ring.upd (lists old) (next_name old) (Some [])) (next_name old + 1) (Some xs) n) → HasBrought old new req pieces
has_brought old new req pieces xs reads over = record {
  items = xs;
  reads = reads;
  before = λ n lt. over n ∙ (ring_off (ring.upd (lists old) (next_name old) (Some [])) (next_name old + 1) n (Some xs) (λ e. omega (arith, e, lt))
      ∙ ring_off (lists old) (next_name old) n (Some []) (λ e. omega (arith, e, lt)));
  loose = over (next_name old)
      ∙ (ring_off (ring.upd (lists old) (next_name old) (Some [])) (next_name old + 1) (next_name old) (Some xs) (λ e. omega (arith, e)) ∙ ring_here (lists old) (next_name old) (Some []));
  brigade = over (next_name old + 1) ∙ ring_here (ring.upd (lists old) (next_name old) (Some [])) (next_name old + 1) (Some xs);
}
