-- A call begins: what its instance reads as, and what is held.
use Rattle.std.proofs.Common.{◌≡◌, ◌≢◌, ℕ, zero, suc, ◌+◌, ◌<◌, Bool, true, false, ◌&&◌, nat_lt, cond, List, [], ◌∷◌, Some, None, Option, is_some, refl, sym, ap, subst, ◌∙◌, inl, inr, arith}
use Rattle.std.specs.Option.{option_map_or}
use Rattle.std.proofs.Math.Path.{fun_ext}
use Rattle.std.proofs.lemmas.Bool.{cases_eq, ltb-true}
use Rattle.bucket_ring.specs.declared.names.BucketId.{BucketId}
use Rattle.bucket_ring.specs.declared.rings.Rings.{Ghosts}
use Rattle.bucket_ring.specs.Lists as ring
use Rattle.bucket_ring.specs.Lists.{list_at, times, same}
use Rattle.bucket_ring.specs.Kept.{NoneRevived}
use Rattle.run_model.specs.declared.bucket.Bucket.{Bucket}
use Rattle.run_model.specs.declared.bucket.NamedBucket.{NamedBucket}
use Rattle.run_model.specs.declared.bucket.BrigadeVar.{BrigadeVar}
use Rattle.run_model.specs.declared.bucket.Home.{Home}
use Rattle.run_model.specs.declared.bucket.Home.TheVariants as home
use Rattle.run_model.specs.declared.bucket.Cursor.{Cursor}
use Rattle.run_model.specs.declared.bucket.Cursor.TheVariants as cursor
use Rattle.run_model.specs.declared.bucket.Mark.{Mark}
use Rattle.run_model.specs.State.{Configuration}
use Rattle.bucket_kinds.specs.declared.stored.Stored.{Stored}
use Rattle.brigade_ops.specs.declared.store.Brigades.{Brigades}
use Rattle.bucket_store.specs.Items.{Item, Items, named_item}
use Rattle.brigade_ops.specs.Store.{lists, brigade_of, pool_of, next_name}
use Rattle.brigade_ops.proofs.Stores.{in_listed, young}
use Rattle.interp_state.specs.declared.machine.Instance.{Instance}
use Rattle.interp_state.specs.declared.machine.Call.{Call}
use Rattle.interp_state.specs.declared.machine.Slot.{Slot}
use Rattle.interp_state.specs.declared.machine.Slot.TheVariants as slot
use Rattle.interp_state.specs.declared.machine.CursorValue.TheVariants as cursor_value
use Rattle.interp_state.specs.ContextViews.{ContextView}
use Rattle.interp_calls.specs.Begun.{begun_as}
use Rattle.interp_state.specs.Held.{IsHeld}
use Rattle.interp_state.specs.Slots.{slot_at, cursor_at, name_in}
use Rattle.interp_state.specs.Seen.{seen_over, calls_in, is_running, home_in, item_in, shown, shown_as, shown_slot, shown_cursor}
use Rattle.interp_state.proofs.Changes.{ring_here, ring_off}
use Rattle.interp_state.proofs.Points.{times_behind}
use Rattle.interp_state.proofs.Running.{running_waits}
use Rattle.interp_state.proofs.Slots.{head_in}

running_other : (k : ℕ) (waits : List ℕ) (n : ℕ) → n ≢ k → is_running k waits n ≡ is_running 0 waits n
running_other k waits zero ne = refl
running_other k waits (suc m) ne = running_waits k waits (suc m) (λ e. omega (arith, e)) ne ∙ sym (running_waits 0 waits (suc m) (λ e. omega (arith, e)) (λ e. omega (arith, e)))

-- a call that is no older than a bucket is not its home
home_begun : (k : ℕ) (waits : List ℕ) (birth : ℕ) → birth < k → (h : Home) → home_in (is_running k waits) birth h ≡ home_in (is_running 0 waits) birth h
home_begun k waits birth older home.Free = refl
home_begun k waits birth older (home.Pool n) = refl
home_begun k waits birth older home.Ended = refl
home_begun k waits birth older (home.Call n) = elim (cases_eq n k) [
  | inl e ↦ go (is_running k waits n) (is_running 0 waits n) (nat_lt n birth) (λ young. (let y = ltb-true n birth young in omega (arith, y, older, e)))
  | inr ne ↦ ap (λ t. cond (t && nat_lt n birth) (home.Call n) home.Ended) (running_other k waits n ne)
] where
  go : (t u v : Bool) → (v ≡ true → ⊥) → cond (t && v) (home.Call n) home.Ended ≡ cond (u && v) (home.Call n) home.Ended
  go t u true never = absurd (never refl)
  go true true false never = refl
  go true false false never = refl
  go false true false never = refl
  go false false false never = refl

item_begun : (k : ℕ) (waits : List ℕ) (x : Item) → x.0.birth < k → named_item (item_in (is_running k waits) x) ≡ named_item (item_in (is_running 0 waits) x)
item_begun k waits x older = ap (λ (h : Home). let y : Bucket = record x.1 { home = h } in named_item (x.0, y)) (home_begun k waits x.0.birth older x.1.home)

pub items_begun : (k : ℕ) (waits : List ℕ) (xs : Items) → ((id : BucketId) → 0 < times id xs → id.birth < k) → shown (is_running k waits) xs ≡ shown (is_running 0 waits) xs
items_begun k waits [] older = refl
items_begun k waits (x ∷ xs) older =
    ap (λ (b : NamedBucket). b ∷ shown (is_running k waits) xs) (item_begun k waits x (older x.0 (head_in x xs)))
    ∙ ap (λ (bs : List NamedBucket). named_item (item_in (is_running 0 waits) x) ∷ bs) (items_begun k waits xs (λ id there. older id (times_behind id x [] xs there)))

module _ {R : Type 0} {g : Ghosts R Stored} (old new : Brigades R g) (i : Instance) (call begun : Call) (held : IsHeld old i call)
    (idle : call.name ≡ 0) (over : (n : ℕ) → lists new n ≡ ring.upd (lists old) (next_name old) (Some []) n) (name : begun.name ≡ next_name old)
    (unset : (c : ℕ) → cursor_at begun c ≡ cursor_value.Unset) where
  as_was : (n : ℕ) → n < next_name old → lists new n ≡ lists old n
  as_was n below = over n ∙ ring_off (lists old) (next_name old) n (Some []) (λ e. omega (arith, below, e))

  pub by_slot : (waits : List ℕ) (b : ℕ) → shown_slot (is_running begun.name waits) (lists new) (slot_at i b) ≡ shown_slot (is_running call.name waits) (lists old) (slot_at i b)
  by_slot waits b = ap (λ n. shown_slot (is_running n waits) (lists new) (slot_at i b)) name
      ∙ (go (slot_at i b) refl ∙ ap (λ n. shown_slot (is_running n waits) (lists old) (slot_at i b)) (sym idle)) where
        there : (n : ℕ) (pool : Option ℕ) (mark : Mark) (o : Option Items) → lists old n ≡ o → shown_as (is_running (next_name old) waits) n pool mark o ≡ shown_as (is_running 0 waits) n pool mark o
        there n pool mark None e = refl
        there n pool mark (Some xs) e = ap live (items_begun (next_name old) waits xs older) where
          live : List NamedBucket → BrigadeVar
          live items = Rattle.run_model.specs.declared.bucket.BrigadeVar.TheVariants.Live (record { name = n; on = pool; mark = mark; items = items })

          older : (id : BucketId) → 0 < times id xs → id.birth < next_name old
          older id h = young old id (ap is_some (in_listed old id n (subst (λ (o : Option Items). 0 < times id (option_map_or (λ bs. bs) o [])) (sym e) h)))

        go : (s : Slot) → slot_at i b ≡ s → shown_slot (is_running (next_name old) waits) (lists new) s ≡ shown_slot (is_running 0 waits) (lists old) s
        go slot.Null e = refl
        go (slot.Made n pool mark) e = ap (shown_as (is_running (next_name old) waits) n pool mark) (as_was n (held.named b n (ap name_in e))) ∙ there n pool mark (lists old n) refl

  pub seen_begun : (pc : ℕ) (view : ContextView) → next_name new ≡ next_name old + 1 → begun.buffer ≡ [] → begun.pc ≡ pc
      → seen_over (lists new) (next_name new) view i begun ≡ begun_as pc (seen_over (lists old) (next_name old) view i call)
  unfolding seen_over
  seen_begun pc view next empty at =
      let r = seen_over (lists old) (next_name old) view i call in
      let made : (ℕ → BrigadeVar) → ℕ → (ℕ → Cursor) → List ℕ → List NamedBucket → ℕ → ℕ → Configuration =
      λ bs name cursors buffer items next pc. record r
      { instance = record r.instance { brigades = bs }; call = record { name = name; cursors = cursors; buffer = buffer; loose = items }; shared = record r.shared { next = next }; pc = pc } in
      ap (λ bs. made bs begun.name (λ c. shown_cursor (cursor_at begun c)) begun.buffer (shown (calls_in view begun) (list_at (lists new) begun.name)) (next_name new) begun.pc)
      (fun_ext (by_slot view.waits))
      ∙ (ap (λ cs. made r.instance.brigades begun.name cs begun.buffer (shown (calls_in view begun) (list_at (lists new) begun.name)) (next_name new) begun.pc)
      (fun_ext (λ c. ap shown_cursor (unset c)))
      ∙ (ap (λ bytes. made r.instance.brigades begun.name (λ c. cursor.Unset) bytes (shown (calls_in view begun) (list_at (lists new) begun.name)) (next_name new) begun.pc) empty
      ∙ (ap (λ items. made r.instance.brigades begun.name (λ c. cursor.Unset) [] items (next_name new) begun.pc) no_loose
      ∙ (ap (λ n. made r.instance.brigades n (λ c. cursor.Unset) [] [] (next_name new) begun.pc) name
      ∙ (ap (λ n. made r.instance.brigades (next_name old) (λ c. cursor.Unset) [] [] n begun.pc) next
      ∙ ap (λ n. made r.instance.brigades (next_name old) (λ c. cursor.Unset) [] [] (next_name old + 1) n) at))))) where
        no_loose : shown (calls_in view begun) (list_at (lists new) begun.name) ≡ []
        no_loose = ap (λ (o : Option Items). shown (calls_in view begun) (option_map_or (λ bs. bs) o []))
            (ap (lists new) name ∙ (over (next_name old) ∙ ring_here (lists old) (next_name old) (Some [])))

  pub held_begun : next_name new ≡ next_name old + 1 → NoneRevived (brigade_of old) (brigade_of new) (next_name old) → pool_of new ≡ pool_of old → pool_of old (next_name old) ≡ None
      → IsHeld new i begun
  held_begun next names pools free = record {
    apart = held.apart;
    loose = λ b e. (let a = held.named b (next_name old) (e ∙ ap (λ (n : ℕ). Some n) name) in omega (arith, a));
    given = λ c id e. absurd (let x : cursor_value.Unset ≡ cursor_value.At id = sym (unset c) ∙ e in cc);
    named = λ b n e. (let a = held.named b n e in omega (arith, a, next));
    real = held.real;
    called = omega (arith, name, next);
    runs = λ pos. ap (λ n. is_some (lists new n)) name ∙ ap is_some (over (next_name old) ∙ ring_here (lists old) (next_name old) (Some []));
    free = ap (λ (f : ℕ → Option ℕ). f begun.name) pools ∙ (ap (pool_of old) name ∙ free);
    on = λ b n pool mark own is there. ap (λ (f : ℕ → Option ℕ). f n) pools ∙ held.on b n pool mark own is (sym (ap is_some (as_was n (held.named b n (ap name_in is)))) ∙ there);
    incoming = held.incoming;
  }
