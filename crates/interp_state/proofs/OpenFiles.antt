-- Files of ranges and of references are opens.
use Rattle.std.proofs.Common.{◌≡◌, ◌≢◌, ◌+◌, ◌<◌, ℕ, zero, suc, Bool, true, false, ◌||◌, List, [], ◌∷◌, filter_map, All, Some, None, Option, refl, sym, ap, subst, ◌∙◌, arith, inl, inr}
use Rattle.std.specs.Prelude.{if◌then◌else◌}
use Rattle.std.specs.List.{cons_option, list_any}
use Rattle.std.proofs.lemmas.Bool.{cases_eq, ne_eqb, false≢true}
use Rattle.std.proofs.lemmas.List.Elements.{All-nil, All-cons, All-head, All-tail}
use Rattle.bucket_kinds.specs.Device.{Device, is_there}
use Rattle.bucket_kinds.specs.Reading.{IsOpenFor}
use Rattle.bucket_ring.specs.declared.names.BucketId.{BucketId}
use Rattle.bucket_ring.specs.Lists.{found, same}
use Rattle.run_model.specs.declared.bucket.Bucket.{Bucket}
use Rattle.run_model.specs.declared.bucket.Content.{Content}
use Rattle.run_model.specs.declared.bucket.Content.TheVariants as content
use Rattle.run_model.specs.declared.bucket.Kind.{Kind}
use Rattle.run_model.specs.declared.bucket.Kind.TheVariants as kind
use Rattle.run_model.specs.declared.bucket.Home.{Home}
use Rattle.run_model.specs.declared.bucket.Home.TheVariants as home
use Rattle.run_model.specs.declared.bucket.NamedBucket.{NamedBucket}
use Rattle.run_model.specs.declared.payload.Payload.{Payload}
use Rattle.run_model.specs.Buckets.{is_dead, is_ended}
use Rattle.run_model.specs.BucketSteps.{content_at}
use Rattle.run_model.specs.Cursors.{CursorPlace, Nowhere, AtLoose, Within, AtEndOf, at_cursor, bucket_at}
use Rattle.run_model.specs.Effects.{file_of, is_above, new_ref}
use Rattle.run_model.specs.Faults.{home_fault, homes_fault}
use Rattle.run_model.specs.Pools.{Pools}
use Rattle.run_model.specs.State.{Configuration, items_of}
use Rattle.run_model.specs.declared.fault.FaultKind.TheVariants.{F5}
use Rattle.run_model.proofs.EachBucket.{of_named}
use Rattle.run_model.proofs.CursorPlaces.{StandsThere, stands}
use Rattle.brigade_ops.specs.Files.{times_in}
use Rattle.brigade_ops.specs.House as house
use Rattle.bucket_store.specs.Items.{Items, named, file_for, count_for}
use Rattle.interp_state.specs.Given.{RangeIsOpen, HasOpenAlive, RangesOpen}
use Rattle.interp_state.specs.Seen.{shown}
use Rattle.interp_state.proofs.Homes.{not_dead}

not_ended : (h : Home) → is_ended h ≡ false → h ≢ home.Ended
not_ended h live e = false≢true (sym live ∙ ap is_ended e)

-- what is opens where its home has not ended is opens
alive_open : (d : Device) (x : NamedBucket) → HasOpenAlive d x → is_dead x ≡ false → RangeIsOpen d x
alive_open d x opens live = opens (not_ended x.bucket.home live)

-- the bucket at a cursor
pub open_at_cursor : (d : Device) (r : Configuration) (c : ℕ) → RangesOpen d r → home_fault (bucket_at (at_cursor r c)) ≡ None → IsOpenFor d (content_at (at_cursor r c))
open_at_cursor d r c opens = go (at_cursor r c) (stands r (r.call.cursors c)) where
  go : (s : CursorPlace) → StandsThere r s → home_fault (bucket_at s) ≡ None → IsOpenFor d (content_at s)
  go Nowhere at e = tt
  go (AtLoose x) at e = alive_open d x (of_named (HasOpenAlive d) x.name x r.call.loose at opens.loose) (not_dead x e)
  go (Within b x) at e = alive_open d x (of_named (HasOpenAlive d) x.name x (items_of (r.instance.brigades b)) at.1 (opens.brigades b)) (not_dead x e)
  go (AtEndOf b) at e = tt

each_open : (d : Device) (xs : List NamedBucket) → All (HasOpenAlive d) xs → list_any is_dead xs ≡ false → All (RangeIsOpen d) xs
each_open d [] opens none = All-nil (RangeIsOpen d)
each_open d (y ∷ ys) opens none = go (is_dead y) refl none (each_open d ys (All-tail (HasOpenAlive d) y ys opens)) where
  go : (t : Bool) → is_dead y ≡ t → (t || list_any is_dead ys) ≡ false → (list_any is_dead ys ≡ false → All (RangeIsOpen d) ys) → All (RangeIsOpen d) (y ∷ ys)
  go true dead f later = absurd (cc)
  go false live f later = All-cons (RangeIsOpen d) y ys (alive_open d y (All-head (HasOpenAlive d) y ys opens) live) (later f)

-- the buckets of a brigade
pub open_items : (d : Device) (xs : List NamedBucket) → All (HasOpenAlive d) xs → homes_fault xs ≡ None → All (RangeIsOpen d) xs
open_items d xs opens e = each_open d xs opens (none_dead (list_any is_dead xs) refl e) where
  none_dead : (t : Bool) → list_any is_dead xs ≡ t → (if t then Some F5 else None) ≡ None → list_any is_dead xs ≡ false
  none_dead true is f = absurd (cc)
  none_dead false is f = is

-- one of them, by its name
pub open_found : (d : Device) (runs : ℕ → Bool) (id : BucketId) (x : Bucket) (xs : Items) → All (RangeIsOpen d) (shown runs xs) → found id xs ≡ Some x → IsOpenFor d x.content
open_found d runs id x [] opens is = absurd (cc)
open_found d runs id x (y ∷ ys) opens is = go (same y.0 id) refl (open_found d runs id x ys (All-tail (RangeIsOpen d) _ (shown runs ys) opens)) where
  go : (t : Bool) → same y.0 id ≡ t → (found id ys ≡ Some x → IsOpenFor d x.content) → IsOpenFor d x.content
  go true hit later = let first : Some y.1 ≡ Some x = rw hit at is in let e : y.1 ≡ x = cc in subst (λ (z : Bucket). IsOpenFor d z.content) e (All-head (RangeIsOpen d) _ (shown runs ys) opens)
  go false miss later = later (rw miss at is)

-- References.

file_open : (d : Device) (k : Kind) (x : Content) (file : ℕ) → file_of k x ≡ Some file → IsOpenFor d x → is_there (d.numbered file) ≡ true
file_open d kind.File (content.Range f start len) file e opens = let same : f ≡ file = cc in subst (λ (n : ℕ). is_there (d.numbered n) ≡ true) same opens
file_open d kind.File (content.Bytes bs) file e opens = absurd (cc)
file_open d kind.File content.Nothing file e opens = absurd (cc)
file_open d kind.Heap x file e opens = absurd (cc)
file_open d kind.Transient x file e opens = absurd (cc)
file_open d kind.Immortal x file e opens = absurd (cc)
file_open d (kind.Pool p) x file e opens = absurd (cc)
file_open d kind.Flush x file e opens = absurd (cc)
file_open d kind.Eos x file e opens = absurd (cc)

-- the file of a new reference is opens
ref_open : (d : Device) (above : Bool) (k : Kind) (x : Content) (file : ℕ) → (if above then None else file_of k x) ≡ Some file → IsOpenFor d x → is_there (d.numbered file) ≡ true
ref_open d true k x file e opens = absurd (cc)
ref_open d false k x file e opens = file_open d k x file e opens

-- no reference more
pub refs_same : (d : Device) (old new : ℕ → ℕ) → ((f : ℕ) → new f ≡ old f) → house.AreOpen old d → house.AreOpen new d
refs_same d old new same all file held = all file (subst (λ (n : ℕ). 0 < n) (same file) held)

-- one more reference
pub refs_one : (d : Device) (ps : Pools Payload) (pool : ℕ) (x : Bucket) (old new : ℕ → ℕ) → ((f : ℕ) → new f ≡ count_for f (file_for ps pool x) (old f)) → IsOpenFor d x.content
    → house.AreOpen old d → house.AreOpen new d
refs_one d ps pool x old new counts opens all file held = go (file_for ps pool x) refl where
  go : (o : Option ℕ) → file_for ps pool x ≡ o → is_there (d.numbered file) ≡ true
  go None is = all file (subst (λ (n : ℕ). 0 < n) (counts file ∙ ap (λ (o : Option ℕ). count_for file o (old file)) is) held)
  go (Some f) is = elim (cases_eq file f) [
    | inl e ↦ subst (λ (n : ℕ). is_there (d.numbered n) ≡ true) (sym e) (ref_open d (is_above ps pool x.home) x.kind x.content f is opens)
    | inr ne ↦ all file (subst (λ (n : ℕ). 0 < n)
        (counts file ∙ (ap (λ (o : Option ℕ). count_for file o (old file)) is ∙ ap (λ (t : Bool). if t then old file + 1 else old file) (ne_eqb file f ne))) held)
  ]

-- A file of which setting aside takes references is opens.
refs_open : (d : Device) (runs : ℕ → Bool) (ps : Pools Payload) (pool file : ℕ) (xs : Items) → All (RangeIsOpen d) (shown runs xs) → 0 < times_in file (filter_map (new_ref ps pool) (named xs))
    → is_there (d.numbered file) ≡ true
unfolding times_in
refs_open d runs ps pool file [] opens some = absurd (let n = some in omega (arith, n))
refs_open d runs ps pool file (y ∷ ys) opens some =
    go (if is_above ps pool y.1.home then None else file_of y.1.kind y.1.content) refl (refs_open d runs ps pool file ys (All-tail (RangeIsOpen d) _ (shown runs ys) opens)) some where
      go : (o : Option ℕ) → (if is_above ps pool y.1.home then None else file_of y.1.kind y.1.content) ≡ o
          → (0 < times_in file (filter_map (new_ref ps pool) (named ys)) → is_there (d.numbered file) ≡ true)
          → 0 < times_in file (cons_option o (filter_map (new_ref ps pool) (named ys))) → is_there (d.numbered file) ≡ true
      go None is later more = later more
      go (Some f) is later more = elim (cases_eq f file) [
        | inl e ↦ subst (λ (n : ℕ). is_there (d.numbered n) ≡ true) e (ref_open d (is_above ps pool y.1.home) y.1.kind y.1.content f is (All-head (RangeIsOpen d) _ (shown runs ys) opens))
        | inr ne ↦ later (rw (ne_eqb f file ne) at more)
      ]

-- those of a brigade
pub refs_all : (d : Device) (runs : ℕ → Bool) (ps : Pools Payload) (pool : ℕ) (xs : Items) (old new : ℕ → ℕ) → ((f : ℕ) → new f ≡ old f + times_in f (filter_map (new_ref ps pool) (named xs)))
    → All (RangeIsOpen d) (shown runs xs)
    → house.AreOpen old d → house.AreOpen new d
refs_all d runs ps pool xs old new counts opens all file held = by_count (old file) refl where
  by_count : (n : ℕ) → old file ≡ n → is_there (d.numbered file) ≡ true
  by_count zero e = refs_open d runs ps pool file xs opens (let c = counts file in let h = held in omega (arith, c, h, e))
  by_count (suc n) e = all file (omega (arith, e))
