-- A connection whose call on top is at a pass that may proceed.
use Rattle.std.proofs.Common.{◌≡◌, ◌≢◌, ℕ, ◌+◌, ◌-◌, ◌^◌, ◌<◌, ◌≤◌, nat_le, nat_lt, Bool, true, false, List, length, Option, Some, None, is_some, refl, sym, ◌∙◌, ap, inl, inr, arith}
use Rattle.std.specs.Prelude.{if◌then◌else◌}
use Rattle.std.proofs.lemmas.Bool.{cases_eq, le-leb, lt-leb, ltb-false, false≢true}
use Rattle.module_code.specs.Program.{Program}
use Rattle.module_code.specs.declared.instr.Instr.TheVariants as instr
use Rattle.bucket_kinds.specs.Device.{Device}
use Rattle.bucket_ring.specs.declared.rings.Rings.{Ghosts}
use Rattle.run_model.specs.declared.bucket.BrigadeVar.{BrigadeVar}
use Rattle.run_model.specs.declared.bucket.BrigadeVar.TheVariants as var
use Rattle.run_model.specs.declared.payload.Payload.{Payload}
use Rattle.run_model.specs.Chains.{Frame, Linked, configuration, is_last, module_at, next_place, place_from}
use Rattle.model_laws.proofs.chains.Modules.{next_later}
use Rattle.run_model.specs.Effects.{handed_over}
use Rattle.run_model.specs.Faults.{fault}
use Rattle.run_model.specs.State as model
use Rattle.run_model.specs.State.{Configuration}
use Rattle.run_model.specs.Steps.{current, is_spent}
use Rattle.run_model.proofs.Updates.{upd_either}
use Rattle.pool_tree.specs.declared.tree.PoolTree.{PoolTree}
use Rattle.pool_tree.specs.Tree.{map_of}
use Rattle.bucket_kinds.specs.declared.stored.Stored.{Stored}
use Rattle.brigade_ops.specs.declared.store.Brigades.{Brigades}
use Rattle.bucket_store.specs.Items.{Items}
use Rattle.brigade_ops.specs.Store.{lists, next_name, pool_of}
use Rattle.brigade_ops.proofs.Stores.{brigades}
use Rattle.interp_state.specs.declared.machine.Slot.{Slot}
use Rattle.interp_state.specs.declared.machine.Slot.TheVariants as slot
use Rattle.module_run.specs.declared.conn.Filter.{Filter}
use Rattle.module_run.specs.declared.conn.Conn.{Conn}
use Rattle.module_run.specs.Conns.{filter_at, place_in, top_of, runs_of, lent_by, shown_instance, shown_filter}
use Rattle.module_run.specs.Proceeding.{IsReady}
use Rattle.interp_state.specs.Seen.{seen_over, shown_as, shown_slot}
use Rattle.interp_state.specs.Slots.{slot_at, name_in, live_in}
use Rattle.module_run.specs.Stacked.{named_at}
use Rattle.interp_state.proofs.Changes.{live_is}
use Rattle.interp_state.proofs.Faultless.{usable_live}
use Rattle.module_run.proofs.HandsOn.{HasNamesBelow, cases_le}
use Rattle.module_run.proofs.Callers.{not_called, waits_not}
use Rattle.module_run.proofs.TopFilter.{on_top_of}
use Rattle.module_run.proofs.Tops.{OnTop, view_of, configured, filter_within, instances_are}

pub none_of : {X : Type 0} (o : Option X) → is_some o ≡ false → o ≡ None
none_of None e = refl
none_of (Some x) e = absurd (cc)

abbrev is_null : BrigadeVar → Bool
is_null var.Null = true
is_null var.Gone = false
is_null (var.Live v) = false

-- a variable that names a brigade is not null, also where that was handed over
shown_not : (runs : ℕ → Bool) (L : ℕ → Option Items) (s : Slot) (n : ℕ) → name_in s ≡ Some n → (is_null (shown_slot runs L s) ≡ false) × (is_null (handed_over (shown_slot runs L s)) ≡ false)
shown_not runs L slot.Null n e = absurd (cc)
shown_not runs L (slot.Made k pool mark) n e = go (L k) where
  go : (o : Option Items) → (is_null (shown_as runs k pool mark o) ≡ false) × (is_null (handed_over (shown_as runs k pool mark o)) ≡ false)
  go None = (refl, refl)
  go (Some xs) = (refl, refl)

filter_not : (runs : ℕ → Bool) (L : ℕ → Option Items) (f : Filter) (a n : ℕ) (o : Option ℕ) → named_at f a ≡ Some n → is_null ((lent_by o (shown_instance runs L f.instance)).brigades a) ≡ false
filter_not runs L f a n None named = (shown_not runs L (slot_at f.instance a) n named).0
filter_not runs L f a n (Some b) named = elim (upd_either (λ d. shown_slot runs L (slot_at f.instance d)) b a (handed_over (shown_slot runs L (slot_at f.instance b)))) [
  | inl p ↦ ap is_null p.1 ∙ (ap (λ (d : ℕ). is_null (handed_over (shown_slot runs L (slot_at f.instance d)))) (sym p.0) ∙ (shown_not runs L (slot_at f.instance a) n named).1)
  | inr p ↦ ap is_null p.1 ∙ (shown_not runs L (slot_at f.instance a) n named).0
]

module _ {R : Type 0} {g : Ghosts R Stored} (chain : List Program) (b l : ℕ) (tree : PoolTree Payload) (store : Brigades R g) (d : Device) (c : Conn) (v : Linked) (f : Frame) (rest : List Frame)
    (ready : IsReady chain (instr.Pass b l) tree store d c v f rest) where
  pub passer : OnTop (lists store) c f rest
  passer = on_top_of chain (instr.Pass b l) tree store d c v f rest ready

  pub passer_alone : passer.filter.lent ≡ None
  passer_alone = none_of passer.filter.lent (ready.stands.left.stacked.called.lent (top_of c) passer.filter passer.is ∙ waits_not chain c ready.stands.left.stacked.called (top_of c) (omega arith))

  pub passer_sees : configuration v.0 v.1 f ≡ seen_over (lists store) (next_name store) (view_of (map_of tree) c v) passer.filter.instance passer.filter.call
  passer_sees = configured (map_of tree) (lists store) (next_name store) c v ready.stands.left.seen f rest passer passer_alone

  pub passer_at : f.of ≡ top_of c
  passer_at = ap (λ (h : Frame). h.of) passer.frame

  -- the brigade that is passed
  pub passed_live : is_some (live_in (lists store) (slot_at passer.filter.instance b)) ≡ true
  passed_live = usable_live (module_at chain f.of) (lists store) (next_name store) (view_of (map_of tree) c v) passer.filter.instance passer.filter.call (instr.Pass b l) (instr.Pass b l) refl
      (ap (λ (r : Configuration). fault (module_at chain f.of) r (instr.Pass b l)) (sym passer_sees) ∙ ready.faultless) 0 b refl

  -- it is an instruction of the module of its filter
  pub passes_there : current (module_at chain (top_of c)) passer.filter.call.pc ≡ instr.Pass b l
  passes_there =
      ap (λ (h : Frame). current (module_at chain (top_of c)) h.pc) (sym passer.frame)
      ∙ (ap (λ (n : ℕ). current (module_at chain n) f.pc) (sym passer_at) ∙ sym ready.next)

  -- names of the filters
  pub names_known : HasNamesBelow c (next_name store)
  names_known = record {
    below = λ j a n h is named. (ready.stands.left.stacked.held j h is).named a n named;
    calls = λ j h is. (ready.stands.left.stacked.held j h is).called;
    apart = λ j a e n h is one other. (ready.stands.left.stacked.held j h is).apart a e n one other;
    nine = λ j a n h is named. elim (cases_le 9 a) [
      | inr low ↦ low
      | inl high ↦ absurd (false≢true (sym (filter_not (runs_of c) (lists store) h a n h.lent named)
          ∙ (ap (λ (o : Option Filter). is_null ((shown_filter (runs_of c) (lists store) o).brigades a)) (sym is)
          ∙ (ap (λ (is : ℕ → model.Instance). is_null ((is j).brigades a)) (sym (instances_are (map_of tree) (lists store) (next_name store) c v ready.stands.left.seen))
          ∙ null_is j a high))))
    ];
  } where
    null_is : (j a : ℕ) → 9 ≤ a → is_null ((v.1.instances j).brigades a) ≡ true
    null_is j a high = ap is_null (ready.stands.lawful.sound.names.slots j a high)

  pub passed_variable : b < 9
  passed_variable = names_known.nine (top_of c) b (name passed_live).0 passer.filter passer.is (name passed_live).1 where
    name : is_some (live_in (lists store) (slot_at passer.filter.instance b)) ≡ true → (n : ℕ) × (named_at passer.filter b ≡ Some n)
    name there = go (live_in (lists store) (slot_at passer.filter.instance b)) refl there where
      go : (o : Option ℕ) → live_in (lists store) (slot_at passer.filter.instance b) ≡ o → is_some o ≡ true → (n : ℕ) × (named_at passer.filter b ≡ Some n)
      go None e some = absurd (false≢true some)
      go (Some n) e some = (n, ap name_in (live_is (lists store) (slot_at passer.filter.instance b) n e).1.1.0)

  -- where the brigade goes
  pub goes_to : (to : ℕ) → ((rings : ℕ → Option Items) → to ≡ place_in chain rings c (top_of c + 1)) → next_place chain v.1 f.of ≡ to
  goes_to to next =
      ap (λ (is : ℕ → model.Instance). place_from chain is (f.of + 1)) (instances_are (map_of tree) (lists store) (next_name store) c v ready.stands.left.seen)
      ∙ (ap (λ (n : ℕ). place_in chain (lists store) c (n + 1)) passer_at ∙ sym (next (lists store)))

  -- where no filter comes after it
  pub last_there : (to : ℕ) → ((rings : ℕ → Option Items) → to ≡ place_in chain rings c (top_of c + 1)) → length chain ≤ to → is_last chain v.1 f.of ≡ true
  last_there to next le = ap (nat_le (length chain)) (goes_to to next) ∙ le-leb (length chain) to le

  -- The next filter, where there is one: it has no call, and nothing came in to it.
  module _ (to : ℕ) (inside : to < length chain) (next : (rings : ℕ → Option Items) → to ≡ place_in chain rings c (top_of c + 1)) where
    pub next_is : next_place chain v.1 f.of ≡ to
    next_is = goes_to to next

    pub not_last : is_last chain v.1 f.of ≡ false
    not_last = ap (nat_le (length chain)) next_is ∙ lt-leb (length chain) to inside

    pub next_behind : top_of c < to
    next_behind = (let at = passer_at in let low = next_later chain v.1 f.of in let is = next_is in omega (arith, at, low, is))

    -- a name is left for its call
    pub next_left : next_name store < 2 ^ 64 - 1
    unfolding is_spent
    next_left =
        (let at = ready.stands.left.seen.given in
        let left : nat_lt (2 ^ 64 - 1) (v.0.next + 1) ≡ false =
        ap (λ (t : Bool). nat_lt (2 ^ 64 - 1) (v.0.next + (if t then 0 else 1))) (sym not_last) ∙ ready.calls_last in
        let low = ltb-false (2 ^ 64 - 1) (v.0.next + 1) left in
        omega (arith, at, low))

    pub next_free : pool_of store (next_name store) ≡ None
    next_free = go (pool_of store (next_name store)) refl where
      go : (o : Option ℕ) → pool_of store (next_name store) ≡ o → pool_of store (next_name store) ≡ None
      go None is = is
      go (Some p) is = absurd (let a = brigades store (next_name store) (ready.stands.left.house.there (next_name store) p is) in omega (arith, a))

    pub next_there : (e : Filter) × (filter_at c to ≡ Some e)
    next_there = filter_within c to (let a = ready.stands.left.stacked.many in omega (arith, a, inside))

    pub next_idle : next_there.0.call.name ≡ 0
    next_idle = ready.stands.left.stacked.called.idle to next_there.0 next_there.1 (not_called chain c ready.stands.left.stacked.called to next_behind)

    pub next_empty : named_at next_there.0 8 ≡ None
    next_empty = ready.stands.left.stacked.called.incoming to next_there.0 next_there.1 (not_called chain c ready.stands.left.stacked.called to next_behind)

    pub next_alone : next_there.0.lent ≡ None
    next_alone = none_of next_there.0.lent (ready.stands.left.stacked.called.lent to next_there.0 next_there.1 ∙ waits_not chain c ready.stands.left.stacked.called to (let low = next_behind in omega (arith, low)))

    -- the brigade of the pass is in no variable of it
    pub next_lacks : (m a : ℕ) → named_at passer.filter b ≡ Some m → named_at next_there.0 a ≢ Some m
    next_lacks m a here there =
        (let v = passed_variable in let nine = names_known.nine to a m next_there.0 next_there.1 there in
        elim (cases_eq a 8) [
          | inl q ↦ none_some m (sym next_empty ∙ (ap (named_at next_there.0) (sym q) ∙ there))
          | inr off ↦ elim (cases_eq b 8) [
            | inl q ↦ ready.stands.left.stacked.apart.later (top_of c) to a m passer.filter next_there.0 next_behind (omega (arith, nine, off)) passer.is next_there.1
                (ap (named_at passer.filter) (sym q) ∙ here) there
            | inr ne ↦ (let same = ready.stands.left.stacked.apart.own (top_of c) to b a m passer.filter next_there.0 (omega (arith, v, ne))
                (omega (arith, nine, off)) passer.is next_there.1 here there in let low = next_behind in omega (arith, same, low))
          ]
        ]) where
          none_some : (n : ℕ) → None ≡ Some n → ⊥
          none_some n e = cc
