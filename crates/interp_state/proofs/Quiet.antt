-- What takes no memory: nothing is named, cut, referred to or read.
use Rattle.std.proofs.Common.{◌≡◌, ℕ, zero, suc, ◌+◌, ◌-◌, ◌<◌, nat_lt, nat_le, Bool, true, false, ◌&&◌, ◌||◌, not, List, [], ◌∷◌, Option, None, Some, is_some, Result, Ok, Err, filter_map, refl, ap}
use Rattle.std.proofs.Common.{◌⊎◌, inl, inr, arith}
use Rattle.std.specs.Prelude.{if◌then◌else◌, IsOk, OnErr}
use Rattle.std.specs.List.{list_any, cons_option}
use Rattle.std.proofs.lemmas.Bool.{ltb-true}
use Rattle.std.proofs.lemmas.Bool.Decides.{nat_tests}
use Rattle.bucket_ring.specs.declared.names.BucketId.{BucketId}
use Rattle.run_model.specs.declared.bucket.Bucket.{Bucket}
use Rattle.run_model.specs.declared.bucket.NamedBucket.{NamedBucket}
use Rattle.run_model.specs.BrigadeLists.{bucket_across, split_refusal}
use Rattle.run_model.specs.BucketSteps.{names_if}
use Rattle.run_model.specs.Buckets.{is_data_kind, is_eos_kind}
use Rattle.run_model.specs.Cutting.{length_of}
use Rattle.run_model.specs.Steps.{has_bytes}
use Rattle.bucket_store.specs.Items.{Items, named, named_item}
use Rattle.bucket_store.specs.Points.{point_in, is_inside}
use Rattle.interp_state.specs.Seen.{shown, item_in}
use Rattle.interp_state.proofs.Points.{Inside}

none_over : (n : ℕ) → nat_lt 0 n ≡ false → n ≡ 0
none_over n h = grind (arith, nat_tests)

none_or : (n : ℕ) (u : Bool) → (nat_lt 0 n || u) ≡ false → (n ≡ 0) × (u ≡ false)
none_or n u h = go (nat_lt 0 n) (none_over n) h where
  go : (t : Bool) → (t ≡ false → n ≡ 0) → (t || u) ≡ false → (n ≡ 0) × (u ≡ false)
  go true zero_is h = absurd (cc)
  go false zero_is h = (zero_is refl, h)

-- neither a name nor room is wanted
pub grown_none : (n m : ℕ) (t : Bool) → (nat_lt 0 (n + m) || t) ≡ false → (n ≡ 0) × (t ≡ false)
grown_none n m t h = (let both = none_or (n + m) t h in (omega (arith, both.0), both.1))

-- where something is named, memory is wanted
pub grown_one : (m : ℕ) (t : Bool) → (nat_lt 0 (1 + m) || t) ≡ false → ⊥
grown_one m t h = (let both = none_or (1 + m) t h in omega (arith, both.0))

pub names_none : (t : Bool) → names_if t ≡ 0 → t ≡ false
names_none true h = absurd (omega arith)
names_none false h = refl

not_one : ◌≡◌ {A = ℕ} 1 0 → ⊥
not_one h = omega (arith, h)

pub uncut : (t : Bool) → ◌≡◌ {A = ℕ} (if t then 0 else 1) 0 → t ≡ true
uncut true h = refl
uncut false h = absurd (not_one h)

-- why a bucket is not split
pub refused_why : (n : ℕ) (y : NamedBucket) → is_some (split_refusal n y) ≡ true → (is_data_kind y.bucket.kind ≡ false) ⊎ ((is_data_kind y.bucket.kind ≡ true) × (length_of y.bucket.content < n))
refused_why n y h = go (is_data_kind y.bucket.kind) h where
  go : (t : Bool) → is_some (if t then (if nat_lt (length_of y.bucket.content) n then Some Rattle.run_model.specs.BrigadeLists.TooLong else None)
      else Some Rattle.run_model.specs.BrigadeLists.Metadata) ≡ true → (t ≡ false) ⊎ ((t ≡ true) × (length_of y.bucket.content < n))
  go true h = inr (refl, long (nat_lt (length_of y.bucket.content) n) refl h) where
    long : (u : Bool) → nat_lt (length_of y.bucket.content) n ≡ u → is_some (if u then Some Rattle.run_model.specs.BrigadeLists.TooLong else None) ≡ true → length_of y.bucket.content < n
    long true e h = ltb-true (length_of y.bucket.content) n e
    long false e h = absurd (cc)
  go false h = inl refl

-- the first of some buckets that stand for no bytes, where it is no EOS
pub quiet_head : (t : Bool) (n : ℕ) (u : Bool) → t ≡ false → (not t && (nat_lt 0 n || u)) ≡ false → (n ≡ 0) × (u ≡ false)
quiet_head true n u e h = absurd (cc)
quiet_head false n u e h = none_or n u h

pub quiet_more : (id : BucketId) (x : Bucket) (ys : Items) → is_eos_kind x.kind ≡ false → has_bytes (named ((id, x) ∷ ys)) ≡ false → (length_of x.content ≡ 0) × (has_bytes (named ys) ≡ false)
unfolding has_bytes
quiet_more id x ys plain none = quiet_head (is_eos_kind x.kind) (length_of x.content) (has_bytes (named ys)) plain none

-- homes do not matter to bytes
pub bytes_shown : (runs : ℕ → Bool) (xs : Items) → has_bytes (shown runs xs) ≡ has_bytes (named xs)
unfolding has_bytes
bytes_shown runs [] = refl
bytes_shown runs (x ∷ xs) = ap (λ (u : Bool). not (is_eos_kind x.1.kind) && (nat_lt 0 (length_of x.1.content) || u)) (bytes_shown runs xs)

-- nor to points
pub cut_shown : (p : ℕ) (runs : ℕ → Bool) (xs : Items) → is_some (bucket_across p (shown runs xs)) ≡ is_inside (point_in p xs)
unfolding point_in bucket_across
cut_shown zero runs [] = refl
cut_shown zero runs (x ∷ xs) = refl
cut_shown (suc p) runs [] = refl
cut_shown (suc p) runs (x ∷ xs) = go (nat_le (length_of x.1.content) (suc p)) (cut_shown (suc p - length_of x.1.content) runs xs) where
  go : (t : Bool) → is_some (bucket_across (suc p - length_of x.1.content) (shown runs xs)) ≡ is_inside (point_in (suc p - length_of x.1.content) xs)
      → is_some (if t then bucket_across (suc p - length_of x.1.content) (shown runs xs) else Some (named_item (item_in runs x))) ≡ is_inside
      (if t then point_in (suc p - length_of x.1.content) xs else Inside x.0 (suc p))
  go true later = later
  go false later = refl

-- no reference is taken
pub none_referred : (f : NamedBucket → Option ℕ) (xs : List NamedBucket) → list_any (λ x. is_some (f x)) xs ≡ false → filter_map f xs ≡ []
none_referred f [] h = refl
none_referred f (x ∷ xs) h = go (f x) (none_referred f xs) h where
  go : (o : Option ℕ) → (list_any (λ y. is_some (f y)) xs ≡ false → filter_map f xs ≡ []) → (is_some o || list_any (λ y. is_some (f y)) xs) ≡ false → cons_option o (filter_map f xs) ≡ []
  go None later h = later h
  go (Some file) later h = absurd (cc)

pub one_referred : (o : Option ℕ) → (is_some o || false) ≡ false → o ≡ None
one_referred None h = refl
one_referred (Some file) h = absurd (cc)

pub same_err : {X E : Type 0} (d e : E) → ◌≡◌ {A = Result X E} (Err d) (Err e) → d ≡ e
same_err d e is = cc

-- a result that is not refused is one
pub ok_never : {X E : Type 0} (r : Result X E) → IsOk r → ((x : X) → r ≡ Ok x → ⊥) → ⊥
ok_never (Ok x) sure never = never x refl
ok_never (Err e) sure never = absurd (cc)

pub ok_unless : {X E P : Type 0} (r : Result X E) → OnErr r P → (P → ⊥) → IsOk r
ok_unless (Ok x) told never = refl
ok_unless (Err e) told never = absurd (never told)

-- a fact that is so whatever was answered
pub told_err : {T E : Type 0} (r : Result T E) (P : Type 0) → P → OnErr r P
told_err (Ok x) P so = tt
told_err (Err e) P so = so
