-- Lists of stored buckets are changed as the lists of the buckets that they show.
use Rattle.std.proofs.Common.{◌≡◌, ◌==◌, ℕ, suc, ◌+◌, Bool, true, false, Option, None, Some, is_some, Result, Ok, Err, List, [], ◌∷◌, ◌++◌, take, drop, map, refl, sym, ap, ◌∙◌}
use Rattle.std.specs.Bool.{if◌then◌else◌}
use Rattle.std.specs.Prelude.{IfOk, OnOk}
use Rattle.std.specs.List.{list_all}
use Rattle.std.specs.Option.{option_map, option_map_or}
use Rattle.std.proofs.lemmas.Bool.{and_parts}
use Rattle.std.proofs.lemmas.List.{map-append}
use Rattle.bucket_ring.specs.declared.names.BucketId.{BucketId}
use Rattle.bucket_ring.specs.Lists.{upd, on, list_at, same, times, front, rest, first_of, next_in, or_end, found, payload_of, put_tail, put_head, put_before, put_after, without, with_payload}
use Rattle.bucket_ring.specs.Lists.{by_birth, numbered}
use Rattle.bucket_ring.specs.Kept.{IsKept}
use Rattle.run_model.specs.declared.bucket.Bucket.{Bucket}
use Rattle.bucket_kinds.specs.declared.stored.Stored.{Stored}
use Rattle.bucket_kinds.specs.Stored.{Look, shown}
use Rattle.bucket_store.specs.Items.{Items, StoredItem, StoredItems}
use Rattle.bucket_store.specs.Shown.{shown_item, shown_items, all_shown, is_held, held_item}

-- what is done in one ring and then in another
pub on_cong : {B : Type 0} (r : ℕ) (f : List B → List B) (a b : ℕ → Option (List B)) → ((n : ℕ) → a n ≡ b n) → (n : ℕ) → on r f a n ≡ on r f b n
unfolding upd
on_cong r f a b e n = rw (e n, e r) refl

pub upd_cong : {X : Type 0} (r : ℕ) (o : X) (a b : ℕ → X) → ((n : ℕ) → a n ≡ b n) → (n : ℕ) → upd a r o n ≡ upd b r o n
unfolding upd
upd_cong r o a b e n = rw (e n) refl

module _ (look : Look) where
  times_shown : (id : BucketId) (xs : StoredItems) → times id (shown_items look xs) ≡ times id xs
  times_shown id [] = refl
  times_shown id (x ∷ xs) = ap (λ n. if same x.0 id then suc n else n) (times_shown id xs)

  pub front_shown : (id : BucketId) (xs : StoredItems) → shown_items look (front id xs) ≡ front id (shown_items look xs)
  front_shown id [] = refl
  front_shown id (x ∷ xs) = go (front_shown id xs) (same x.0 id) where
    go : shown_items look (front id xs) ≡ front id (shown_items look xs) → (s : Bool)
        → shown_items look (if s then [] else x ∷ front id xs) ≡ (if s then [] else shown_item look x ∷ front id (shown_items look xs))
    go later true = refl
    go later false = ap (λ ys. shown_item look x ∷ ys) later

  pub rest_shown : (id : BucketId) (xs : StoredItems) → shown_items look (rest id xs) ≡ rest id (shown_items look xs)
  rest_shown id [] = refl
  rest_shown id (x ∷ xs) = go (rest_shown id xs) (same x.0 id) where
    go : shown_items look (rest id xs) ≡ rest id (shown_items look xs) → (s : Bool)
        → shown_items look (if s then x ∷ xs else rest id xs) ≡ (if s then shown_item look x ∷ shown_items look xs else rest id (shown_items look xs))
    go later true = refl
    go later false = later

  pub first_shown : (xs : StoredItems) → first_of (shown_items look xs) ≡ first_of xs
  first_shown [] = refl
  first_shown (x ∷ xs) = refl

  drop_shown : (xs : StoredItems) → shown_items look (drop 1 xs) ≡ drop 1 (shown_items look xs)
  drop_shown [] = refl
  drop_shown (x ∷ xs) = refl

  take_shown : (xs : StoredItems) → shown_items look (take 1 xs) ≡ take 1 (shown_items look xs)
  take_shown [] = refl
  take_shown (x ∷ xs) = refl

  payload_shown : (xs : StoredItems) → payload_of (shown_items look xs) ≡ option_map (shown look) (payload_of xs)
  payload_shown [] = refl
  payload_shown (x ∷ xs) = refl

  pub found_shown : (id : BucketId) (xs : StoredItems) → found id (shown_items look xs) ≡ option_map (shown look) (found id xs)
  found_shown id xs = ap payload_of (sym (rest_shown id xs)) ∙ payload_shown (rest id xs)

  behind_shown : (id : BucketId) (xs : StoredItems) → shown_items look (drop 1 (rest id xs)) ≡ drop 1 (rest id (shown_items look xs))
  behind_shown id xs = drop_shown (rest id xs) ∙ ap (λ ys. drop 1 ys) (rest_shown id xs)

  pub next_shown : (r : ℕ) (id : BucketId) (xs : StoredItems) → next_in r id xs ≡ next_in r id (shown_items look xs)
  next_shown r id xs = ap (or_end r) (sym (first_shown (drop 1 (rest id xs))) ∙ ap first_of (behind_shown id xs))

  pub append_shown : (xs ys : StoredItems) → shown_items look (xs ++ ys) ≡ shown_items look xs ++ shown_items look ys
  append_shown xs ys = map-append (shown_item look) xs ys

  pub tail_shown : (x : StoredItem) (xs : StoredItems) → shown_items look (put_tail x xs) ≡ put_tail (shown_item look x) (shown_items look xs)
  tail_shown x xs = append_shown xs (x ∷ [])

  pub head_shown : (x : StoredItem) (xs : StoredItems) → shown_items look (put_head x xs) ≡ put_head (shown_item look x) (shown_items look xs)
  head_shown x xs = refl

  amid_shown : (xs : StoredItems) (x : StoredItem) (ys : StoredItems) → shown_items look ((xs ++ x ∷ []) ++ ys) ≡ (shown_items look xs ++ shown_item look x ∷ []) ++ shown_items look ys
  amid_shown xs x ys = append_shown (xs ++ x ∷ []) ys ∙ ap (λ zs. zs ++ shown_items look ys) (append_shown xs (x ∷ []))

  pub before_shown : (at : BucketId) (x : StoredItem) (xs : StoredItems) → shown_items look (put_before at x xs) ≡ put_before at (shown_item look x) (shown_items look xs)
  before_shown at x xs = amid_shown (front at xs) x (rest at xs) ∙ rw (front_shown at xs, rest_shown at xs) refl

  pub after_shown : (at : BucketId) (x : StoredItem) (xs : StoredItems) → shown_items look (put_after at x xs) ≡ put_after at (shown_item look x) (shown_items look xs)
  after_shown at x xs =
      amid_shown (front at xs ++ take 1 (rest at xs)) x (drop 1 (rest at xs))
      ∙ rw (append_shown (front at xs) (take 1 (rest at xs)), front_shown at xs, take_shown (rest at xs), behind_shown at xs, rest_shown at xs) refl

  pub without_shown : (id : BucketId) (xs : StoredItems) → shown_items look (without id xs) ≡ without id (shown_items look xs)
  without_shown id xs = append_shown (front id xs) (drop 1 (rest id xs)) ∙ rw (front_shown id xs, behind_shown id xs) refl

  pub set_shown : (id : BucketId) (x : Stored) (xs : StoredItems) → shown_items look (with_payload id x xs) ≡ with_payload id (shown look x) (shown_items look xs)
  set_shown id x xs = amid_shown (front id xs) (id, x) (drop 1 (rest id xs)) ∙ rw (front_shown id xs, behind_shown id xs) refl

  births_shown : (next : ℕ) (xs : StoredItems) (ys : List Stored) → by_birth xs ≡ numbered next ys → by_birth (shown_items look xs) ≡ numbered next (map (shown look) ys)
  births_shown next [] [] e = refl
  births_shown next [] (y ∷ ys) e = cc
  births_shown next (x ∷ xs) [] e = cc
  births_shown next (x ∷ xs) (y ∷ ys) e =
      let later : by_birth xs ≡ numbered (next + 1) ys = cc in
      let head : ◌≡◌ {A = ℕ × Stored} (x.0.birth, x.1) (next, y) = cc in
      let one : ◌≡◌ {A = ℕ × Bucket} (x.0.birth, shown look x.1) (next, shown look y) = ap (λ (p : ℕ × Stored). (p.0, shown look p.1)) head in
      rw (one, births_shown (next + 1) xs ys later) refl

  pub brought_shown : (next : ℕ) (xs : StoredItems) (held : List Stored) (given : List Bucket) → by_birth xs ≡ numbered next held → map (shown look) held ≡ given
      → by_birth (shown_items look xs) ≡ numbered next given
  brought_shown next xs held given e is = births_shown next xs held e ∙ ap (numbered next) is

  -- new buckets are held as they were brought
  pub brought_held : (next : ℕ) (xs : StoredItems) (held : List Stored) → by_birth xs ≡ numbered next held → list_all (is_held look) held ≡ true → list_all (held_item look) xs ≡ true
  brought_held next [] held e all = refl
  brought_held next (x ∷ xs) [] e all = cc
  brought_held next (x ∷ xs) (y ∷ ys) e all =
      let later : by_birth xs ≡ numbered (next + 1) ys = cc in
      let head : ◌≡◌ {A = ℕ × Stored} (x.0.birth, x.1) (next, y) = cc in
      let parts = and_parts (is_held look y) (list_all (is_held look) ys) all in
      let one : is_held look x.1 ≡ true = ap (λ (p : ℕ × Stored). is_held look p.1) head ∙ parts.0 in
      rw (one, brought_held (next + 1) xs ys later parts.1) refl

  pub some_shown : (o : Option StoredItems) → is_some (option_map (shown_items look) o) ≡ is_some o
  some_shown None = refl
  some_shown (Some xs) = refl

  pub list_shown : (lists : ℕ → Option StoredItems) (r : ℕ) → list_at (all_shown look lists) r ≡ shown_items look (list_at lists r)
  list_shown lists r = go (lists r) where
    go : (o : Option StoredItems) → option_map_or (λ xs. xs) (option_map (shown_items look) o) [] ≡ shown_items look (option_map_or (λ xs. xs) o [])
    go None = refl
    go (Some xs) = refl

  pub upd_shown : (lists : ℕ → Option StoredItems) (r : ℕ) (o : Option StoredItems) (n : ℕ) → all_shown look (upd lists r o) n ≡ upd (all_shown look lists) r (option_map (shown_items look) o) n
  unfolding upd
  upd_shown lists r o n = go (n == r) where
    go : (s : Bool) → option_map (shown_items look) (if s then o else lists n) ≡ (if s then option_map (shown_items look) o else option_map (shown_items look) (lists n))
    go true = refl
    go false = refl

  pub on_shown : (r : ℕ) (f : StoredItems → StoredItems) (h : Items → Items) → ((xs : StoredItems) → shown_items look (f xs) ≡ h (shown_items look xs)) → (lists : ℕ → Option StoredItems) (n : ℕ)
      → all_shown look (on r f lists) n ≡ on r h (all_shown look lists) n
  on_shown r f h e lists n = upd_shown lists r (option_map f (lists r)) n ∙ ap (λ o. upd (all_shown look lists) r o n) (go (lists r)) where
    go : (o : Option StoredItems) → option_map (shown_items look) (option_map f o) ≡ option_map h (option_map (shown_items look) o)
    go None = refl
    go (Some xs) = ap (λ ys. Some ys) (e xs)

  -- what is true of rings is true of what they show
  pub kept_shown : (at : BucketId → Option ℕ) (lists : ℕ → Option StoredItems) (next : ℕ) → IsKept at lists next → IsKept at (all_shown look lists) next
  kept_shown at lists next law = record {
    counted = λ id r. ap (times id) (list_shown lists r) ∙ (times_shown id (list_at lists r) ∙ law.counted id r);
    young = law.young;
    births = law.births;
    rings = λ r e. law.rings r (sym (some_shown (lists r)) ∙ e);
    limit = law.limit;
  }

-- a number that was mapped to
mapped_some : {A B : Type 0} (f : A → B) (o : Option A) (x : B) → option_map f o ≡ Some x → (y : A) × (o ≡ Some y) × (f y ≡ x)
mapped_some f None x e = cc
mapped_some f (Some y) x e = (y, refl, cc)

-- A bucket that is found, as it is seen.
module _ (look : Look) (old new : ℕ → Option StoredItems) where
  pub found_stored : (q : ℕ) (id : BucketId) (x : Bucket) → found id (list_at (all_shown look old) q) ≡ Some x → (y : Stored) × (found id (list_at old q) ≡ Some y) × (shown look y ≡ x)
  found_stored q id x is = mapped_some (shown look) (found id (list_at old q)) x (sym (found_shown look id (list_at old q)) ∙ (ap (found id) (sym (list_shown look old q)) ∙ is))

  pub stored_found : (q : ℕ) (id : BucketId) (y : Stored) → found id (list_at old q) ≡ Some y → found id (list_at (all_shown look old) q) ≡ Some (shown look y)
  stored_found q id y is = ap (found id) (list_shown look old q) ∙ (found_shown look id (list_at old q) ∙ ap (option_map (shown look)) is)

pub ok_then : {A E : Type 0} (P Q : Type 0) (r : Result A E) → OnOk r P → (P → Q) → OnOk r Q
ok_then P Q (Ok a) ok f = f ok
ok_then P Q (Err e) ok f = tt

pub if_ok_then : {A E : Type 0} (P Q : A → Type 0) (r : Result A E) → IfOk r P → ((a : A) → P a → Q a) → IfOk r Q
if_ok_then P Q (Ok a) ok f = f a ok
if_ok_then P Q (Err e) ok f = tt

pub if_ok_and : {A E : Type 0} (P : A → Type 0) (Q : Type 0) (S : A → Type 0) (r : Result A E) → IfOk r P → OnOk r Q → ((a : A) → P a → Q → S a) → IfOk r S
if_ok_and P Q S (Ok a) p q f = f a p q
if_ok_and P Q S (Err e) p q f = tt
