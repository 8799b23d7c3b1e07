-- One more call runs, whose name is new: what was there reads as it did.
use Rattle.run_model.specs.Pools.{no_cleanups}
use Rattle.std.proofs.Common.{◌≡◌, ◌≢◌, ℕ, suc, ◌<◌, Bool, true, false, ◌&&◌, nat_lt, cond, List, [], ◌∷◌, Option, Some, None, is_some, refl, sym, ap, subst, ◌∙◌, inl, inr, arith}
use Rattle.std.specs.Prelude.{if◌then◌else◌}
use Rattle.std.specs.Option.{option_map_or}
use Rattle.std.proofs.Math.Path.{fun_ext}
use Rattle.std.proofs.lemmas.Bool.{cases_eq, ltb-true}
use Rattle.bucket_ring.specs.declared.names.BucketId.{BucketId}
use Rattle.bucket_ring.specs.declared.rings.Rings.{Ghosts}
use Rattle.bucket_ring.specs.Lists.{list_at, times, same}
use Rattle.bucket_ring.specs.Laws.{same_self}
use Rattle.run_model.specs.declared.bucket.Bucket.{Bucket}
use Rattle.run_model.specs.declared.bucket.BrigadeVar.{BrigadeVar}
use Rattle.run_model.specs.declared.bucket.BrigadeVar.TheVariants as var
use Rattle.run_model.specs.declared.bucket.Home.{Home}
use Rattle.run_model.specs.declared.bucket.Home.TheVariants as home
use Rattle.run_model.specs.declared.bucket.Mark.{Mark}
use Rattle.run_model.specs.declared.bucket.NamedBucket.{NamedBucket}
use Rattle.run_model.specs.State as model
use Rattle.run_model.specs.State.{Configuration, fresh_call}
use Rattle.run_model.specs.Chains.{Frame}
use Rattle.bucket_kinds.specs.declared.stored.Stored.{Stored}
use Rattle.brigade_ops.specs.declared.store.Brigades.{Brigades}
use Rattle.bucket_store.specs.Items.{Item, Items, named_item}
use Rattle.brigade_ops.specs.Store.{lists, next_name}
use Rattle.brigade_ops.proofs.Stores.{in_listed, young}
use Rattle.interp_state.specs.declared.machine.Instance.{Instance}
use Rattle.interp_state.specs.declared.machine.Call.{Call}
use Rattle.interp_state.specs.declared.machine.Slot.{Slot}
use Rattle.interp_state.specs.declared.machine.Slot.TheVariants as slot
use Rattle.module_run.specs.declared.conn.Filter.{Filter}
use Rattle.interp_state.specs.ContextViews.{ContextView}
use Rattle.interp_calls.specs.Begun.{begun_as}
use Rattle.module_run.specs.Conns.{shown_instance, shown_call, shown_filter, shown_frame, lent_by}
use Rattle.interp_state.specs.Seen.{seen_over, calls_in, home_in, item_in, shown, shown_as, shown_slot}
use Rattle.interp_state.specs.Slots.{slot_at, name_in}

-- the buckets of these lists are older than the name k
abbrev pub AreOlder : (ℕ → Option Items) → ℕ → Type 0
AreOlder L k = (n : ℕ) (xs : Items) → L n ≡ Some xs → (id : BucketId) → 0 < times id xs → id.birth < k

pub all_older : {R : Type 0} {g : Ghosts R Stored} (s : Brigades R g) → AreOlder (lists s) (next_name s)
all_older s n xs e id h = young s id (ap is_some (in_listed s id n (subst (λ (o : Option Items). 0 < times id (option_map_or (λ bs. bs) o [])) (sym e) h)))

-- names that an instance has are below k
abbrev pub InstanceNamesBelow : Instance → ℕ → Type 0
InstanceNamesBelow i k = (b n : ℕ) → name_in (slot_at i b) ≡ Some n → n < k

module _ (old new : ℕ → Bool) (k : ℕ) (runs : (n : ℕ) → n ≢ k → new n ≡ old n) where
  more_home : (birth : ℕ) → birth < k → (h : Home) → home_in new birth h ≡ home_in old birth h
  more_home birth older home.Free = refl
  more_home birth older (home.Pool n) = refl
  more_home birth older home.Ended = refl
  more_home birth older (home.Call n) = elim (cases_eq n k) [
    | inl e ↦ go (new n) (old n) (nat_lt n birth) (λ below. (let y = ltb-true n birth below in omega (arith, y, older, e)))
    | inr ne ↦ ap (λ t. cond (t && nat_lt n birth) (home.Call n) home.Ended) (runs n ne)
  ] where
    go : (t u v : Bool) → (v ≡ true → ⊥) → cond (t && v) (home.Call n) home.Ended ≡ cond (u && v) (home.Call n) home.Ended
    go t u true never = absurd (never refl)
    go true true false never = refl
    go true false false never = refl
    go false true false never = refl
    go false false false never = refl

  more_item : (x : Item) → x.0.birth < k → named_item (item_in new x) ≡ named_item (item_in old x)
  more_item x older = ap (λ (h : Home). let y : Bucket = record x.1 { home = h } in named_item (x.0, y)) (more_home x.0.birth older x.1.home)

  pub more_items : (xs : Items) → ((id : BucketId) → 0 < times id xs → id.birth < k) → shown new xs ≡ shown old xs
  more_items [] older = refl
  more_items (x ∷ xs) older =
      ap (λ (b : NamedBucket). b ∷ shown new xs) (more_item x (older x.0 here))
      ∙ ap (λ (bs : List NamedBucket). named_item (item_in old x) ∷ bs) (more_items xs (λ id there. older id (behind id there))) where
        here : 0 < times x.0 (x ∷ xs)
        here = rw (same_self x.0) (omega (arith))

        behind : (id : BucketId) → 0 < times id xs → 0 < times id (x ∷ xs)
        behind id there = go (same x.0 id) where
          go : (t : Bool) → 0 < (if t then suc (times id xs) else times id xs)
          go true = omega (arith)
          go false = there

  module _ (L M : ℕ → Option Items) (kept : (n : ℕ) → n < k → M n ≡ L n) (older : AreOlder L k) where
    more_there : (n : ℕ) (pool : Option ℕ) (mark : Mark) (o : Option Items) → L n ≡ o → shown_as new n pool mark o ≡ shown_as old n pool mark o
    more_there n pool mark None e = refl
    more_there n pool mark (Some xs) e = ap live (more_items xs (older n xs e)) where
      live : List NamedBucket → BrigadeVar
      live items = var.Live (record { name = n; on = pool; mark = mark; items = items })

    pub more_slot : (s : Slot) → ((n : ℕ) → name_in s ≡ Some n → n < k) → shown_slot new M s ≡ shown_slot old L s
    more_slot slot.Null below = refl
    more_slot (slot.Made n pool mark) below = ap (shown_as new n pool mark) (kept n (below n refl)) ∙ more_there n pool mark (L n) refl

    pub more_list : (n : ℕ) → n < k → shown new (list_at M n) ≡ shown old (list_at L n)
    more_list n below = ap (λ (o : Option Items). shown new (option_map_or (λ bs. bs) o [])) (kept n below) ∙ go (L n) refl where
      go : (o : Option Items) → L n ≡ o → shown new (option_map_or (λ bs. bs) o []) ≡ shown old (option_map_or (λ bs. bs) o [])
      go None e = refl
      go (Some xs) e = more_items xs (older n xs e)

    pub more_instance : (i : Instance) → InstanceNamesBelow i k → shown_instance new M i ≡ shown_instance old L i
    more_instance i below = ap with_brigades (fun_ext (λ b. more_slot (slot_at i b) (below b))) where
      with_brigades : (ℕ → BrigadeVar) → model.Instance
      with_brigades f = record (shown_instance old L i) { brigades = f }

    pub more_call : (call : Call) → call.name < k → shown_call new M call ≡ shown_call old L call
    more_call call below = ap with_loose (more_list call.name below) where
      with_loose : List NamedBucket → model.Call
      with_loose items = record (shown_call old L call) { loose = items }

    pub more_filter : (f : Filter) → InstanceNamesBelow f.instance k → shown_filter new M (Some f) ≡ shown_filter old L (Some f)
    more_filter f below = ap (lent_by f.lent) (more_instance f.instance below)

    pub more_frame : (j : ℕ) (f : Filter) → f.call.name < k → shown_frame new M j (Some f) ≡ shown_frame old L j (Some f)
    more_frame j f below = ap with_call (more_call f.call below) where
      with_call : model.Call → Frame
      with_call call = record { of = j; call = call; pc = f.call.pc }

-- surroundings with nothing but these calls that wait
abbrev pub amid : List ℕ → ContextView
amid waits = record {
  pools = record { path = λ n. []; payloads = λ n. no_cleanups; next = 0 };
  conn = 0;
  req = None;
  labels = [];
  files = record { named = λ name. None; opened = λ file. None; next = 0; fails_in = None };
  out = record { bytes = []; ended = false };
  waits = waits;
}

module _ (L M : ℕ → Option Items) (k l : ℕ) (view : ContextView) (i : Instance) (call begun : Call) (pc : ℕ) (is : seen_over M l view i begun ≡ begun_as pc (seen_over L k view i call)) where
  pub begun_call : shown_call (calls_in view begun) M begun ≡ fresh_call k
  unfolding seen_over
  begun_call = ap (λ (r : Configuration). r.call) is

  pub begun_pc : begun.pc ≡ pc
  unfolding seen_over
  begun_pc = ap (λ (r : Configuration). r.pc) is
