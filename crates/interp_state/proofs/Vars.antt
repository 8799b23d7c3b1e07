-- A brigade variable is set.
use Rattle.std.proofs.Common.{◌≡◌, ◌==◌, ℕ, Bool, true, false, List, [], Some, None, Option, is_some, refl, sym, ap, ◌∙◌, inl, inr}
use Rattle.std.specs.Prelude.{if◌then◌else◌, slice_index_or}
use Rattle.std.specs.Option.{option_map}
use Rattle.std.proofs.Math.Path.{fun_ext}
use Rattle.std.proofs.lemmas.Bool.{cases_eq, eq-eqb, ne_eqb}
use Rattle.bucket_ring.specs.declared.names.BucketId.{BucketId}
use Rattle.bucket_ring.specs.Lists.{on}
use Rattle.run_model.specs.declared.bucket.BrigadeVar.{BrigadeVar}
use Rattle.run_model.specs.declared.bucket.Mark.{Mark}
use Rattle.run_model.specs.declared.bucket.Mark.TheVariants.{Usable}
use Rattle.run_model.specs.declared.bucket.PoolVar.{PoolVar}
use Rattle.run_model.specs.declared.bucket.PoolVar.TheVariants as poolvar
use Rattle.run_model.specs.Effects.{cleaned, do_clean, with_items}
use Rattle.run_model.specs.Indexed.{upd}
use Rattle.run_model.specs.State.{Configuration, set_brigade}
use Rattle.run_model.proofs.Updates.{upd_upd}
use Rattle.bucket_store.specs.Items.{Items}
use Rattle.interp_state.specs.declared.machine.Instance.{Instance}
use Rattle.interp_state.specs.declared.machine.Call.{Call}
use Rattle.interp_state.specs.declared.machine.Slot.{Slot}
use Rattle.interp_state.specs.declared.machine.Slot.TheVariants as slot
use Rattle.interp_state.specs.ContextViews.{ContextView}
use Rattle.interp_state.specs.Held.{HeldOver}
use Rattle.interp_state.specs.Slots.{slot_at, name_in, live_in, marked, SameButSlots}
use Rattle.interp_state.specs.Seen.{seen_over, calls_in, shown_as, shown_slot}
use Rattle.interp_state.proofs.Changes.{ApartIn, ring_here, live_is, seen_same, seen_slot}

abbrev instance_as : (ℕ → PoolVar) → (ℕ → BrigadeVar) → (ℕ → ℕ) → Bool → Bool → Configuration → Configuration
instance_as pools brigades numbers sent left r = record r { instance = record { pools = pools; brigades = brigades; numbers = numbers; sent = sent; left = left } }

pub seen_var : (L : ℕ → Option Items) (k : ℕ) (view : ContextView) (i new : Instance) (call : Call) (b : ℕ) (s : Slot) → SameButSlots i new
    → ((a : ℕ) → slot_at new a ≡ (if a == b then s else slot_at i a))
    → seen_over L k view new call ≡ set_brigade b (shown_slot (calls_in view call) L s) (seen_over L k view i call)
unfolding seen_over set_brigade upd
seen_var L k view i new call b s same sets =
    let r = seen_over L k view i call in
    let runs = calls_in view call in
    ap (λ (f : ℕ → BrigadeVar).
    record r { instance = record { pools = λ p. slice_index_or new.pools p poolvar.Null; brigades = f; numbers = λ n. slice_index_or new.numbers n 0; sent = new.sent; left = new.left } }) (fun_ext by_slot)
    ∙ (ap (λ (ps : List PoolVar). record r {
      instance = record {
        pools = λ p. slice_index_or ps p poolvar.Null;
        brigades = upd r.instance.brigades b (shown_slot runs L s);
        numbers = λ n. slice_index_or new.numbers n 0;
        sent = new.sent;
        left = new.left;
      };
    }) same.pools
    ∙ (ap (λ (ns : List ℕ).
    record r { instance = record { pools = r.instance.pools; brigades = upd r.instance.brigades b (shown_slot runs L s); numbers = λ n. slice_index_or ns n 0; sent = new.sent; left = new.left } }) same.numbers
    ∙ (ap (λ (t : Bool). record r { instance = record { pools = r.instance.pools; brigades = upd r.instance.brigades b (shown_slot runs L s); numbers = r.instance.numbers; sent = t; left = new.left } }) same.sent
    ∙ ap (λ (t : Bool). record r { instance = record { pools = r.instance.pools; brigades = upd r.instance.brigades b (shown_slot runs L s); numbers = r.instance.numbers; sent = r.instance.sent; left = t } }) same.left)))
  where
    by_slot : (a : ℕ) → shown_slot (calls_in view call) L (slot_at new a) ≡ upd (λ c. shown_slot (calls_in view call) L (slot_at i c)) b (shown_slot (calls_in view call) L s) a
    by_slot a = ap (shown_slot (calls_in view call) L) (sets a) ∙ go (a == b) where
      go : (t : Bool) → shown_slot (calls_in view call) L (if t then s else slot_at i a) ≡ (if t then shown_slot (calls_in view call) L s else shown_slot (calls_in view call) L (slot_at i a))
      go true = refl
      go false = refl

set_twice : (b : ℕ) (v w : BrigadeVar) (r : Configuration) → set_brigade b w (set_brigade b v r) ≡ set_brigade b w r
unfolding set_brigade
set_twice b v w r = ap (λ (f : ℕ → BrigadeVar). record r { instance = record r.instance { brigades = f } }) (upd_upd r.instance.brigades b v w)

clean_shown : (runs : ℕ → Bool) (n : ℕ) (pool : Option ℕ) (mark : Mark) (o : Option Items) → is_some o ≡ true
    → shown_as runs n pool Usable (option_map (λ xs. []) o) ≡ cleaned (shown_as runs n pool mark o)
clean_shown runs n pool mark None there = absurd (cc)
clean_shown runs n pool mark (Some xs) there = refl

module _ (L M : ℕ → Option Items) (k l : ℕ) (view : ContextView) (i new : Instance) (call : Call) (b : ℕ) where
  pub cleaned_step : (n : ℕ) → ApartIn i call → live_in L (slot_at i b) ≡ Some n → SameButSlots i new → ((a : ℕ) → slot_at new a ≡ (if a == b then marked Usable (slot_at i b) else slot_at i a))
      → l ≡ k → ((j : ℕ) → M j ≡ on n (λ xs. []) L j)
      → seen_over M l view new call ≡ do_clean b (seen_over L k view i call)
  unfolding seen_over
  cleaned_step n held is rest sets same out =
      let t = live_is L (slot_at i b) n is in
      let N : ℕ → Option Items = on n (λ xs. []) L in
      let runs = calls_in view call in
      let r = seen_over L k view i call in
      let mark : marked Usable (slot_at i b) ≡ slot.Made n t.0 Usable = ap (marked Usable) t.1.1.0 in
      let v : shown_slot runs N (marked Usable (slot_at i b)) ≡ cleaned (r.instance.brigades b) =
      ap (shown_slot runs N) mark ∙ (ap (shown_as runs n t.0 Usable) (ring_here L n (option_map (λ xs. []) (L n)))
      ∙ (clean_shown runs n t.0 t.1.0 (L n) t.1.1.1 ∙ ap (λ (s : Slot). cleaned (shown_slot runs L s)) (sym t.1.1.0))) in
      seen_same N k view new call M l same out
      ∙ (seen_var N k view i new call b (marked Usable (slot_at i b)) rest sets
      ∙ (ap (λ (y : Configuration). set_brigade b (shown_slot runs N (marked Usable (slot_at i b))) y) (seen_slot L k view i call b n t.0 t.1.0 (λ xs. []) [] held t.1.1.0 refl)
      ∙ (set_twice b (with_items [] (r.instance.brigades b)) (shown_slot runs N (marked Usable (slot_at i b))) r ∙ ap (λ (w : BrigadeVar). set_brigade b w r) v)))

pub named_marked : (mark : Mark) (s : Slot) → name_in (marked mark s) ≡ name_in s
named_marked mark slot.Null = refl
named_marked mark (slot.Made n pool old) = refl

pub live_marked : {X : Type 0} (L : ℕ → Option X) (mark : Mark) (s : Slot) → live_in L (marked mark s) ≡ live_in L s
live_marked L mark slot.Null = refl
live_marked L mark (slot.Made n pool old) = refl

-- a variable keeps its brigade where it is marked
pub held_marked : (at : BucketId → Option ℕ) (L : ℕ → Option Items) (p : ℕ → Option ℕ) (next : ℕ) (i new : Instance) (call : Call) (b : ℕ) (mark : Mark)
    → ((a : ℕ) → slot_at new a ≡ (if a == b then marked mark (slot_at i b) else slot_at i a))
    → HeldOver at L p next i call → HeldOver at L p next new call
held_marked at L p next i new call b mark sets held = record {
  apart = λ a c n e f. held.apart a c n (sym (same a) ∙ e) (sym (same c) ∙ f);
  loose = λ a e. held.loose a (sym (same a) ∙ e);
  given = held.given;
  named = λ a n e. held.named a n (sym (same a) ∙ e);
  real = λ a n e. held.real a n (sym (same a) ∙ e);
  called = held.called;
  runs = held.runs;
  free = held.free;
  on = λ a n pool m own is there. (let was = unmarked a n pool m is in held.on a n pool was.0 own was.1 there);
  incoming = λ n pool m is. (let was = unmarked 8 n pool m is in held.incoming n pool was.0 was.1);
} where
  of_marked : (s : Slot) (n : ℕ) (pool : Option ℕ) (m : Mark) → marked mark s ≡ slot.Made n pool m → (old : Mark) × (s ≡ slot.Made n pool old)
  of_marked slot.Null n pool m e = absurd (cc)
  of_marked (slot.Made j on k) n pool m e = (k, (let name : j ≡ n = cc in let p : on ≡ pool = cc in ap (λ (x : ℕ). slot.Made x on k) name ∙ ap (λ (x : Option ℕ). slot.Made n x k) p))

  unmarked : (a n : ℕ) (pool : Option ℕ) (m : Mark) → slot_at new a ≡ slot.Made n pool m → (old : Mark) × (slot_at i a ≡ slot.Made n pool old)
  unmarked a n pool m is = elim (cases_eq a b) [
    | inl e ↦ let was = of_marked (slot_at i b) n pool m (sym (sets a ∙ ap (λ (t : Bool). if t then marked mark (slot_at i b) else slot_at i a) (eq-eqb a b e)) ∙ is) in
        (was.0, ap (λ (c : ℕ). slot_at i c) e ∙ was.1)
    | inr ne ↦ (m, sym (sets a ∙ ap (λ (t : Bool). if t then marked mark (slot_at i b) else slot_at i a) (ne_eqb a b ne)) ∙ is)
  ]

  same : (a : ℕ) → name_in (slot_at new a) ≡ name_in (slot_at i a)
  same a = elim (cases_eq a b) [
    | inl e ↦ ap name_in (sets a ∙ ap (λ (t : Bool). if t then marked mark (slot_at i b) else slot_at i a) (eq-eqb a b e))
        ∙ (named_marked mark (slot_at i b) ∙ ap (λ (c : ℕ). name_in (slot_at i c)) (sym e))
    | inr ne ↦ ap name_in (sets a ∙ ap (λ (t : Bool). if t then marked mark (slot_at i b) else slot_at i a) (ne_eqb a b ne))
  ]
