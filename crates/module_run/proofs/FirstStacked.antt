-- The call of the first filter begins, where no call runs: what is true of the filters and calls.
use Rattle.std.proofs.Common.{◌≡◌, ◌≢◌, ℕ, zero, suc, ◌+◌, ◌<◌, ◌≤◌, true, false, List, [], length, Option, Some, None, is_some, refl, sym, ap, subst, ◌∙◌, inl, inr, arith}
use Rattle.bucket_kinds.specs.Device.{Device}
use Rattle.bucket_ring.specs.declared.rings.Rings.{Ghosts}
use Rattle.bucket_ring.specs.Kept.{NoneRevived}
use Rattle.bucket_ring.specs.Lists as ring
use Rattle.module_code.specs.Program.{Program}
use Rattle.run_model.specs.declared.payload.Payload.{Payload}
use Rattle.run_model.specs.Chains.{Connection, Common, module_at}
use Rattle.run_model.specs.Passing.{called, handler_at}
use Rattle.run_model.specs.RunOrder.{IsPoolMap}
use Rattle.run_model.specs.Turns.{all_called, numbers_below, tail_of, with_pools}
use Rattle.pool_tree.specs.declared.tree.PoolTree.{PoolTree}
use Rattle.pool_tree.specs.Tree.{map_of}
use Rattle.bucket_kinds.specs.declared.stored.Stored.{Stored}
use Rattle.brigade_ops.specs.declared.store.Brigades.{Brigades}
use Rattle.brigade_ops.specs.House.{IsHouse, AreOpen}
use Rattle.brigade_ops.specs.Store.{lists, brigade_of, pool_of, next_name, references}
use Rattle.brigade_ops.proofs.HouseCalls.{house_loose}
use Rattle.module_run.specs.declared.conn.Conn.{Conn}
use Rattle.module_run.specs.declared.conn.Filter.{Filter}
use Rattle.interp_state.specs.declared.machine.Call.{Call}
use Rattle.interp_state.specs.declared.machine.Instance.{Instance}
use Rattle.module_run.specs.CalledFirst.{CalledFirst, CallStarts}
use Rattle.module_run.specs.Conns.{top_of, conn_of, filter_at}
use Rattle.interp_state.specs.Held.{IsHeld}
use Rattle.module_run.specs.Proceeding.{LeftAs}
use Rattle.interp_state.specs.Slots.{slot_at, name_in}
use Rattle.module_run.specs.Stacked.{FiltersApart, AreCalled, IsStacked, is_called, is_waiting, named_at}
use Rattle.module_run.proofs.Callers.{no_callers, alone_bottom, alone_called, alone_names, alone_rises, called_top, none_in_callers}
use Rattle.interp_calls.proofs.Begins.{held_begun}
use Rattle.interp_state.proofs.Changes.{ring_off}
use Rattle.module_run.proofs.FirstCalls.{Was, was, others_stay, waits_are, first_is, none_waiting, starts, before, before_is, after, after_is, conn_called, no_call, nothing_in, not_lent, top_is_first}
use Rattle.module_run.proofs.FirstCalls.{no_lent, true_false}
use Rattle.module_run.proofs.HeldStays.{held_stays}
use Rattle.module_run.proofs.Looked.{some_same}

less : (a b : ℕ) → a < b → a ≢ b
less a b lt e = omega (arith, lt, e)

-- what is held of a filter is held where the brigades of before stay
module _ {R : Type 0} {g : Ghosts R Stored} (old new : Brigades R g) (stays : (n : ℕ) → n < next_name old → lists new n ≡ lists old n)
    (rises : next_name old ≤ next_name new) (names : NoneRevived (brigade_of old) (brigade_of new) (next_name old)) (pools : pool_of new ≡ pool_of old) where
  pub held_beside : (i : Instance) (call : Call) → IsHeld old i call → IsHeld new i call
  held_beside i call held =
      held_stays (brigade_of old) (brigade_of new) (lists old) (lists new) (pool_of old) (pool_of new) (next_name old) (next_name new) i call rises pools names
      (λ b n named. stays n (held.named b n named)) (λ pos. stays call.name held.called) held

module _ {R : Type 0} {g : Ghosts R Stored} (chain : List Program) (old new : Brigades R g) (c d : Conn) (r : Option ℕ) (stacked : IsStacked chain old c) (idle : c.busy ≡ false)
    (begins : CalledFirst chain (next_name old) (record c { req = r }) d) (over : (n : ℕ) → lists new n ≡ ring.upd (lists old) (next_name old) (Some []) n)
    (next : next_name new ≡ next_name old + 1) (names : NoneRevived (brigade_of old) (brigade_of new) (next_name old)) (pools : pool_of new ≡ pool_of old)
    (free : pool_of old (next_name old) ≡ None) where
  abbrev FilterThere : ℕ → Filter → Type 0
  FilterThere k f = Was chain old new c d r stacked idle begins over k f

  there : (k : ℕ) (f : Filter) → filter_at d k ≡ Some f → FilterThere k f
  there = was chain old new c d r stacked idle begins over

  abbrev first : Filter
  first = after chain old new c d r stacked idle begins over

  named_as : (k b : ℕ) (f : Filter) (w : FilterThere k f) → named_at f b ≡ named_at w.filter b
  named_as k b f w = ap (λ (i : Instance). name_in (slot_at i b)) w.instance

  named_so : (k b m : ℕ) (f : Filter) (w : FilterThere k f) → named_at f b ≡ Some m → named_at w.filter b ≡ Some m
  named_so k b m f w e = sym (named_as k b f w) ∙ e

  not_in : (k : ℕ) (f : Filter) → filter_at d k ≡ Some f → (m : ℕ) → named_at f 8 ≡ Some m → ⊥
  not_in k f is m e = (let w = there k f is in no_lent (named_at w.filter 8) m (nothing_in chain old c stacked idle k w.filter w.is) (named_so k 8 m f w e))

  never_lent : (k b : ℕ) (f : Filter) → filter_at d k ≡ Some f → f.lent ≡ Some b → ⊥
  never_lent k b f is e = (let w = there k f is in no_lent w.filter.lent b (not_lent chain old c stacked idle k w.filter w.is) (sym w.lent ∙ e))

  -- only the first filter has a call
  name_of : (k : ℕ) (f : Filter) (w : FilterThere k f) → k ≢ 0 → f.call.name ≡ 0
  name_of k f w other = elim w.call [
    | inl e ↦ absurd (other e.0)
    | inr e ↦ ap (λ (x : Call). x.name) e.1 ∙ no_call chain old c stacked idle k w.filter w.is
  ]

  is_first : (k : ℕ) (f : Filter) → filter_at d k ≡ Some f → 0 < f.call.name → k ≡ 0
  is_first zero f is pos = refl
  is_first (suc k) f is pos = absurd (let e = name_of (suc k) f (there (suc k) f is) (λ e. omega (arith, e)) in omega (arith, e, pos))

  apart_called : FiltersApart d
  apart_called = record {
    own = λ i j a b m f e la lb fi ej na nb.
        (let w = there i f fi in let u = there j e ej in stacked.apart.own i j a b m w.filter u.filter la lb w.is u.is (named_so i a m f w na) (named_so j b m e u nb));
    later = λ i j b m f e lt lb fi ej nf. absurd (not_in i f fi m nf);
    handed = λ i j a m f e lt fi ej na nb. absurd (not_in j e ej m nb);
    loose = λ i j b f e fi ej. no_loose i j b f e fi (there i f fi) (there j e ej);
    calls = λ i j f e fi ej pos same. is_first i f fi pos ∙ sym (is_first j e ej (omega (arith, pos, same)));
  } where
    no_loose : (i j b : ℕ) (f e : Filter) → filter_at d i ≡ Some f → FilterThere i f → FilterThere j e → named_at f b ≢ Some e.call.name
    no_loose i j b f e fi w u is = elim u.call [
      | inl q ↦ (let lt = (stacked.held i w.filter w.is).named b e.call.name (named_so i b e.call.name f w is) in let same = q.1 in omega (arith, lt, same))
      | inr q ↦ stacked.apart.loose i j b w.filter u.filter w.is u.is (named_so i b e.call.name f w is ∙ ap (λ (x : Call). Some x.name) q.1)
    ]

  called_there : (k : ℕ) → is_called d k ≡ true → k ≡ 0
  called_there k e = alone_called d (none_waiting chain old new c d r stacked idle begins over) k e ∙ top_is_first chain old new c d r stacked idle begins over

  first_called : is_called d 0 ≡ true
  first_called = ap (is_called d) (sym (top_is_first chain old new c d r stacked idle begins over)) ∙ called_top d (ap (λ (x : Conn). x.busy) begins.rest)

  none_wait : (k : ℕ) → is_waiting d k ≡ false
  none_wait k = none_in_callers d (none_waiting chain old new c d r stacked idle begins over) k

  calls_called : AreCalled chain d
  calls_called = record {
    runs = λ k f is e. first_runs k f is (there k f is) (called_there k e);
    idle = λ k f is e. name_of k f (there k f is) (λ (z : k ≡ 0). true_false (is_called d k) (ap (is_called d) z ∙ first_called) e);
    lent = λ k f is. (let w = there k f is in ap is_some w.lent ∙ (ap is_some (not_lent chain old c stacked idle k w.filter w.is) ∙ sym (none_wait k)));
    passes = λ k b f is e. absurd (never_lent k b f is e);
    passed = λ k b f is e. absurd (never_lent k b f is e);
    inward = λ i k j b f e at next is behind lends. absurd (never_lent k b f is lends);
    incoming = λ k f is e. (let w = there k f is in named_as k 8 f w ∙ nothing_in chain old c stacked idle k w.filter w.is);
    waits = alone_names d (none_waiting chain old new c d r stacked idle begins over) (waits_are chain old new c d r stacked idle begins over);
    rises = alone_rises d (none_waiting chain old new c d r stacked idle begins over);
    bottom = alone_bottom d (none_waiting chain old new c d r stacked idle begins over) (top_is_first chain old new c d r stacked idle begins over ∙ sym (first_is chain old new c d r stacked idle begins over));
    outer = λ e. no_callers d.callers.items (none_waiting chain old new c d r stacked idle begins over);
    quiet = λ e. absurd (true_false d.busy (ap (λ (x : Conn). x.busy) begins.rest) e);
  } where
    first_runs : (k : ℕ) (f : Filter) → filter_at d k ≡ Some f → FilterThere k f → k ≡ 0 → 0 < f.call.name
    first_runs k f is w z = elim w.call [
      | inl e ↦ (let same = e.1 in let pos = (stacked.held k w.filter w.is).called in omega (arith, same, pos))
      | inr e ↦ absurd (e.0 z)
    ]

  abbrev was_first : Filter
  was_first = before chain old new c d r stacked idle begins over

  first_was : filter_at c 0 ≡ Some was_first
  first_was = before_is chain old new c d r stacked idle begins over

  began : CallStarts (next_name old) (handler_at r (module_at chain 0)) was_first first
  began = starts chain old new c d r stacked idle begins over

  held_called : (k : ℕ) (f : Filter) → filter_at d k ≡ Some f → IsHeld new f.instance f.call
  held_called zero f is = subst (λ (x : Filter). IsHeld new x.instance x.call) same
      (subst (λ (i : Instance). IsHeld new i first.call) (sym began.instance)
      (held_begun old new was_first.instance was_first.call first.call (stacked.held 0 was_first first_was)
      (no_call chain old c stacked idle 0 was_first first_was) over began.named began.cursors next names pools free)) where
        same : first ≡ f
        same = some_same first f (sym (after_is chain old new c d r stacked idle begins over) ∙ is)
  held_called (suc k) f is =
      held_beside old new (λ n lt. over n ∙ ring_off (lists old) (next_name old) n (Some []) (less n (next_name old) lt)) (omega (arith, next)) names pools f.instance f.call
      (stacked.held (suc k) f (sym (others_stay chain old new c d r stacked idle begins over (suc k) (λ e. omega (arith, e))) ∙ is))

  pub stacked_called : 0 < length chain → IsStacked chain new d
  stacked_called some = record {
    many = begins.many ∙ stacked.many;
    within = (let top = top_is_first chain old new c d r stacked idle begins over in omega (arith, top));
    queue = (let q = ap (λ (x : Conn). x.queue) begins.rest in omega (arith, q, some));
    held = held_called;
    apart = apart_called;
    called = calls_called;
    brought = λ m f is e. absurd (not_in d.first f is m e);
    whole = λ out m f is e. absurd (not_in (top_of d) f is m e);
  }

  -- All of it. Its pools may have been changed, and a request begun.
  pub left_called : 0 < length chain → (tree newer : PoolTree Payload) (dev : Device) (k : Common) (x : Connection) → LeftAs chain tree old dev c (k, x) → references new ≡ references old
      → IsPoolMap (map_of newer) → IsHouse old (map_of newer) → LeftAs chain newer new dev d (all_called chain (with_pools (map_of newer) (k, record x { req = r })))
  unfolding conn_of all_called
  left_called some tree newer dev k x left refs formed house = record {
    seen = record {
      pools = refl;
      given = ap (λ (n : ℕ). n + 1) left.seen.given ∙ sym next;
      conn = ap (λ (y : Connection). (called chain 0 (tail_of (numbers_below (length chain))) (with_pools (map_of newer) (k, record y { req = r; count = 0 }))).1) left.seen.conn
          ∙ sym (conn_called chain old new c d r stacked idle begins over (map_of newer) x.opened (record k { pools = (map_of newer).next }) left.seen.given);
    };
    opens = left.opens;
    formed = formed;
    house = house_loose old new (map_of newer) pools refs house (next_name old) [] over;
    references = subst (λ (f : ℕ → ℕ). AreOpen f dev) (sym refs) left.references;
    none = over 0 ∙ (ring_off (lists old) (next_name old) 0 (Some []) (less 0 (next_name old) first_name) ∙ left.none);
    stacked = stacked_called some;
  } where
    first_name : 0 < next_name old
    first_name = (let a = (stacked.held 0 was_first first_was).called in omega (arith, a))
