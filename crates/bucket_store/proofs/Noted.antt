-- Buckets are noted under the pools that they depend on, whatever is done to the lists that they stand in.
use Rattle.std.proofs.Common.{◌≡◌, ◌≤◌, ◌+◌, ℕ, suc, Bool, true, false, cond, ◌&&◌, ◌||◌, ltb, Option, None, Some, is_some, List, [], ◌∷◌, ◌++◌, take, drop, refl, sym, ap, ◌∙◌, arith, inl, inr}
use Rattle.std.specs.List.{list_all}
use Rattle.std.specs.Option.{option_map, option_map_or}
use Rattle.std.proofs.lemmas.Bool.{cases_Bool, cases_eq, eq-eqb, ne_eqb, and_parts, le-ltb, ltb-false}
use Rattle.std.proofs.Math.Nat.{le_refl}
use Rattle.std.proofs.lemmas.List.Folds.{list_all-append}
use Rattle.bucket_kinds.specs.declared.stored.Stored.{Stored}
use Rattle.bucket_ring.specs.declared.names.BucketId.{BucketId}
use Rattle.bucket_ring.specs.Lists.{upd, on, list_at, same, times, by_birth, numbered, front, rest, found, put_tail, put_head, put_before, put_after, without, with_payload}
use Rattle.bucket_ring.specs.Laws.{found_times, same_self}
use Rattle.bucket_store.specs.Items.{StoredItem, StoredItems}
use Rattle.bucket_store.specs.Due.{kind_pool, home_pool}
use Rattle.bucket_store.specs.Noted.{kind_under, home_under, place_under, place_of, is_noted, AreNoted}
use Rattle.bucket_store.proofs.Lists.{front_rest, rest_head}

pub both : {a b : Bool} → a ≡ true → b ≡ true → (a && b) ≡ true
both e f = rw (e, f) refl

module _ (p : StoredItem → Bool) where
  -- all items of a list pass
  abbrev All : StoredItems → Type 0
  All xs = list_all p xs ≡ true

  abbrev AllIn : (ℕ → Option StoredItems) → Type 0
  AllIn lists = (n : ℕ) → All (list_at lists n)

  pub all_joined : (xs ys : StoredItems) → All xs → All ys → All (xs ++ ys)
  all_joined xs ys a b = list_all-append p xs ys ∙ rw (a, b) refl

  all_parts : (xs ys : StoredItems) → All (xs ++ ys) → (list_all p xs ≡ true) × (list_all p ys ≡ true)
  all_parts xs ys a = and_parts (list_all p xs) (list_all p ys) (sym (list_all-append p xs ys) ∙ a)

  all_split : (id : BucketId) (xs : StoredItems) → All xs → (list_all p (front id xs) ≡ true) × (list_all p (rest id xs) ≡ true)
  all_split id xs a = all_parts (front id xs) (rest id xs) (ap (list_all p) (front_rest id xs) ∙ a)

  pub all_front : (id : BucketId) (xs : StoredItems) → All xs → All (front id xs)
  all_front id xs a = (all_split id xs a).0

  pub all_rest : (id : BucketId) (xs : StoredItems) → All xs → All (rest id xs)
  all_rest id xs a = (all_split id xs a).1

  all_drop : (xs : StoredItems) → All xs → All (drop 1 xs)
  all_drop [] a = refl
  all_drop (x ∷ xs) a = (and_parts (p x) (list_all p xs) a).1

  all_one : (x : StoredItem) → p x ≡ true → All (x ∷ [])
  all_one x e = rw e refl

  all_take : (xs : StoredItems) → All xs → All (take 1 xs)
  all_take [] a = refl
  all_take (x ∷ xs) a = all_one x (and_parts (p x) (list_all p xs) a).0

  pub all_without : (id : BucketId) (xs : StoredItems) → All xs → All (without id xs)
  all_without id xs a = all_joined (front id xs) (drop 1 (rest id xs)) (all_front id xs a) (all_drop (rest id xs) (all_rest id xs a))

  pub all_tail : (x : StoredItem) (xs : StoredItems) → p x ≡ true → All xs → All (put_tail x xs)
  all_tail x xs e a = all_joined xs (x ∷ []) a (all_one x e)

  pub all_head : (x : StoredItem) (xs : StoredItems) → p x ≡ true → All xs → All (put_head x xs)
  all_head x xs e a = rw e a

  -- an item behind some and before others
  all_amid : (xs : StoredItems) (x : StoredItem) (ys : StoredItems) → p x ≡ true → All xs → All ys → All ((xs ++ x ∷ []) ++ ys)
  all_amid xs x ys e a b = all_joined (xs ++ x ∷ []) ys (all_joined xs (x ∷ []) a (all_one x e)) b

  pub all_before : (at : BucketId) (x : StoredItem) (xs : StoredItems) → p x ≡ true → All xs → All (put_before at x xs)
  all_before at x xs e a = all_amid (front at xs) x (rest at xs) e (all_front at xs a) (all_rest at xs a)

  pub all_after : (at : BucketId) (x : StoredItem) (xs : StoredItems) → p x ≡ true → All xs → All (put_after at x xs)
  all_after at x xs e a =
      let later = all_rest at xs a in
      all_amid (front at xs ++ take 1 (rest at xs)) x (drop 1 (rest at xs)) e (all_joined (front at xs) (take 1 (rest at xs)) (all_front at xs a) (all_take (rest at xs) later))
      (all_drop (rest at xs) later)

  pub all_set : (id : BucketId) (x : Stored) (xs : StoredItems) → p (id, x) ≡ true → All xs → All (with_payload id x xs)
  all_set id x xs e a = all_amid (front id xs) (id, x) (drop 1 (rest id xs)) e (all_front id xs a) (all_drop (rest id xs) (all_rest id xs a))

  -- a bucket that is found in a list passes
  pub all_found : (id : BucketId) (x : Stored) (xs : StoredItems) → All xs → found id xs ≡ Some x → p (id, x) ≡ true
  all_found id x xs a is = (and_parts (p (id, x)) (list_all p (drop 1 (rest id xs))) (ap (list_all p) (sym (rest_head id xs x is)) ∙ all_rest id xs a)).0

  -- All items of all lists pass.
  module _ (lists : ℕ → Option StoredItems) (all : AllIn lists) where
    pub same_lists : (new : ℕ → Option StoredItems) → ((n : ℕ) → new n ≡ lists n) → AllIn new
    same_lists new same n = ap (λ (o : Option StoredItems). list_all p (option_map_or (λ xs. xs) o [])) (same n) ∙ all n

    pub one_other : (b : ℕ) (o : Option StoredItems) → list_all p (option_map_or (λ xs. xs) o []) ≡ true → AllIn (upd lists b o)
    unfolding upd
    one_other b o other n = elim (cases_eq n b) [
      | inl e ↦ rw (eq-eqb n b e) other
      | inr ne ↦ rw (ne_eqb n b ne) (all n)
    ]

    pub one_changed : (b : ℕ) (f : StoredItems → StoredItems) → (All (list_at lists b) → All (f (list_at lists b))) → AllIn (on b f lists)
    one_changed b f step = one_other b (option_map f (lists b)) (go (lists b) (all b) step) where
      go : (o : Option StoredItems) → list_all p (option_map_or (λ xs. xs) o []) ≡ true → (list_all p (option_map_or (λ xs. xs) o []) ≡ true → list_all p (f (option_map_or (λ xs. xs) o [])) ≡ true)
          → list_all p (option_map_or (λ xs. xs) (option_map f o) []) ≡ true
      go None a step = refl
      go (Some xs) a step = step a

-- what a bucket that is noted is noted under
pub noted_parts : (names : ℕ → BucketId → Bool) (id : BucketId) (x : Stored) → is_noted names (id, x) ≡ true
    → (kind_under (λ p. names p id) x.kind ≡ true) × (home_under (λ p. names p id) x.home ≡ true) × (place_under (λ p. names p id) (place_of x.kept) ≡ true)
noted_parts names id x e =
    let one = and_parts (kind_under (λ p. names p id) x.kind) (home_under (λ p. names p id) x.home && place_under (λ p. names p id) (place_of x.kept)) e in
    let two = and_parts (home_under (λ p. names p id) x.home) (place_under (λ p. names p id) (place_of x.kept)) one.1 in
    (one.0, two.0, two.1)

-- More names are noted.
module _ (names more : ℕ → BucketId → Bool) (kept : (p : ℕ) (j : BucketId) → names p j ≡ true → more p j ≡ true) where
  pool_kept : (id : BucketId) (q : Option ℕ) → place_under (λ p. names p id) q ≡ true → place_under (λ p. more p id) q ≡ true
  pool_kept id None e = refl
  pool_kept id (Some p) e = kept p id e

  pub item_kept : (x : StoredItem) → is_noted names x ≡ true → is_noted more x ≡ true
  item_kept x e =
      let parts = noted_parts names x.0 x.1 e in
      rw (pool_kept x.0 (kind_pool x.1.kind) parts.0, pool_kept x.0 (home_pool x.1.home) parts.1, pool_kept x.0 (place_of x.1.kept) parts.2) refl

  all_kept : (xs : StoredItems) → list_all (is_noted names) xs ≡ true → list_all (is_noted more) xs ≡ true
  all_kept [] a = refl
  all_kept (x ∷ xs) a =
      let parts = and_parts (is_noted names x) (list_all (is_noted names) xs) a in
      rw (item_kept x parts.0, all_kept xs parts.1) refl

  pub are_kept : (lists : ℕ → Option StoredItems) → AreNoted names lists → AreNoted more lists
  are_kept lists are n = all_kept (list_at lists n) (are n)

pub noted_item : (names : ℕ → BucketId → Bool) (id : BucketId) (x : Stored) → kind_under (λ p. names p id) x.kind ≡ true → home_under (λ p. names p id) x.home ≡ true
    → place_under (λ p. names p id) (place_of x.kept) ≡ true → is_noted names (id, x) ≡ true
noted_item names id x k h q = rw (k, h, q) refl

few : (s : Bool) (n : ℕ) → cond s (suc n) n ≤ 1 → n ≤ 1
few true n le = omega arith
few false n le = le

-- A list of buckets passes where each that is found does.
pub listed_by_found : (p : StoredItem → Bool) (xs : StoredItems) → ((i : BucketId) → times i xs ≤ 1) → ((id : BucketId) (x : Stored) → found id xs ≡ Some x → p (id, x) ≡ true) → list_all p xs ≡ true
listed_by_found p [] once each = refl
listed_by_found p (x ∷ xs) once each = rw (each x.0 x.1 head, listed_by_found p xs (λ i. few (same x.0 i) (times i xs) (once i)) later) refl where
  head : found x.0 (x ∷ xs) ≡ Some x.1
  head = rw (same_self x.0) refl

  later : (id : BucketId) (y : Stored) → found id xs ≡ Some y → p (id, y) ≡ true
  later id y is = elim (cases_Bool (same x.0 id)) [
    | inl hit ↦ absurd (let two : suc (times id xs) ≤ 1 = rw hit at (once id) in let one = found_times id xs (ap is_some is) in omega arith)
    | inr miss ↦ each id y (rw miss is)
  ]

same_birth : (y z : ℕ × Stored) (ys zs : List (ℕ × Stored)) → y ∷ ys ≡ z ∷ zs → y.0 ≡ z.0
same_birth y z ys zs e = let head : y ≡ z = cc in ap (λ (w : ℕ × Stored). w.0) head

-- New buckets pass where each of their ring that is not older does.
module _ (p : StoredItem → Bool) (from : ℕ) where
  abbrev old_or : StoredItem → Bool
  old_or x = ltb x.0.birth from || p x

  fresh_pass : (next : ℕ) (bs : StoredItems) (given : List Stored) → from ≤ next → by_birth bs ≡ numbered next given → list_all old_or bs ≡ true → list_all p bs ≡ true
  fresh_pass next [] given le is all = refl
  fresh_pass next (b ∷ bs) [] le is all = cc
  fresh_pass next (b ∷ bs) (x ∷ xs) le is all =
      let at : b.0.birth ≡ next = same_birth (b.0.birth, b.1) (next, x) (by_birth bs) (numbered (next + 1) xs) is in
      let others : by_birth bs ≡ numbered (next + 1) xs = cc in
      let parts = and_parts (old_or b) (list_all old_or bs) all in
      let this : p b ≡ true = rw (le-ltb b.0.birth from (omega (arith, at, le))) at parts.0 in
      rw (this, fresh_pass (next + 1) bs xs (omega (arith, le)) others parts.1) refl

  pub fresh_noted : (xs bs : StoredItems) (given : List Stored) → by_birth bs ≡ numbered from given → ((i : BucketId) → times i (xs ++ bs) ≤ 1)
      → ((id : BucketId) (x : Stored) → found id (xs ++ bs) ≡ Some x → from ≤ id.birth → p (id, x) ≡ true) → list_all p bs ≡ true
  fresh_noted xs bs given is once each = fresh_pass from bs given (le_refl from) is (all_parts old_or xs bs (listed_by_found old_or (xs ++ bs) once by_age)).1 where
    by_age : (id : BucketId) (x : Stored) → found id (xs ++ bs) ≡ Some x → old_or (id, x) ≡ true
    by_age id x there = elim (cases_Bool (ltb id.birth from)) [
      | inl old ↦ rw old refl
      | inr new ↦ rw (new, each id x there (ltb-false id.birth from new)) refl
    ]

pub list_now : {X : Type 0} (f : ℕ → X) (n : ℕ) (x : X) → upd f n x n ≡ x
unfolding upd
list_now f n x = rw (eq-eqb n n refl) refl

-- a ring that was changed is there still
pub still_there : (b : ℕ) (f : StoredItems → StoredItems) (lists new : ℕ → Option StoredItems) → ((n : ℕ) → new n ≡ on b f lists n) → is_some (lists b) ≡ true → is_some (new b) ≡ true
still_there b f lists new change there = ap is_some (change b ∙ list_now lists b (option_map f (lists b))) ∙ go (lists b) there where
  go : (o : Option StoredItems) → is_some o ≡ true → is_some (option_map f o) ≡ true
  go None h = cc
  go (Some xs) h = refl
