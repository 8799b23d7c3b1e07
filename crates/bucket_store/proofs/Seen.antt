-- What is done to the rings of a shelf, seen as the buckets that they show.
use Rattle.std.proofs.Common.{◌≡◌, ℕ, Bool, true, false, Option, Some, [], ◌++◌, refl, sym, ap, ◌∙◌}
use Rattle.std.specs.Bool.{if◌then◌else◌}
use Rattle.std.specs.Option.{option_map}
use Rattle.bucket_ring.specs.declared.names.BucketId.{BucketId}
use Rattle.bucket_ring.specs.declared.rings.Rings.{Ghosts}
use Rattle.bucket_ring.specs.Lists.{upd, on, list_at, same, front, rest, found, put_before, without}
use Rattle.run_model.specs.declared.bucket.Bucket.{Bucket}
use Rattle.bucket_kinds.specs.declared.stored.Stored.{Stored}
use Rattle.bucket_kinds.specs.Stored.{Look, shown}
use Rattle.bucket_store.specs.declared.bucket_store.BucketStore.{BucketStore}
use Rattle.bucket_store.specs.Items.{Item, Items, StoredItem, StoredItems}
use Rattle.bucket_store.specs.Regions.{look}
use Rattle.bucket_store.specs.Shown.{shown_item, shown_items, all_shown}
use Rattle.bucket_store.proofs.Shown.{on_cong, upd_cong, front_shown, rest_shown, append_shown, before_shown, without_shown, list_shown, upd_shown, on_shown, found_stored}

-- a list is changed as the list that it shows
abbrev pub Shows : (StoredItem → StoredItems → StoredItems) → (Item → Items → Items) → Type 0
Shows put place = (see : Look) (x : StoredItem) (xs : StoredItems) → shown_items see (put x xs) ≡ place (shown_item see x) (shown_items see xs)

module _ {R : Type 0} {g : Ghosts R Stored} (s : BucketStore R g) (to : R) where
  abbrev see : Look
  see = look s.regions

  abbrev old : ℕ → Option StoredItems
  old = g.lists s.rings.rings

  abbrev new : ℕ → Option StoredItems
  new = g.lists to

  abbrev seen_old : ℕ → Option Items
  seen_old = all_shown see old

  abbrev seen_new : ℕ → Option Items
  seen_new = all_shown see new

  pub on_seen : (r : ℕ) (f : StoredItems → StoredItems) (h : Items → Items) → ((xs : StoredItems) → shown_items see (f xs) ≡ h (shown_items see xs))
      → ((n : ℕ) → new n ≡ on r f old n) → (n : ℕ) → seen_new n ≡ on r h seen_old n
  on_seen r f h e change n = ap (option_map (shown_items see)) (change n) ∙ on_shown see r f h e old n

  pub upd_seen : (r : ℕ) (o : Option StoredItems) → ((n : ℕ) → new n ≡ upd old r o n) → (n : ℕ) → seen_new n ≡ upd seen_old r (option_map (shown_items see) o) n
  upd_seen r o change n = ap (option_map (shown_items see)) (change n) ∙ upd_shown see old r o n

  twice_seen : (r q : ℕ) (f k : StoredItems → StoredItems) (h m : Items → Items)
      → ((xs : StoredItems) → shown_items see (f xs) ≡ h (shown_items see xs))
      → ((xs : StoredItems) → shown_items see (k xs) ≡ m (shown_items see xs))
      → ((n : ℕ) → new n ≡ on r f (on q k old) n) → (n : ℕ) → seen_new n ≡ on r h (on q m seen_old) n
  twice_seen r q f k h m e d change n =
      ap (option_map (shown_items see)) (change n) ∙ (on_shown see r f h e (on q k old) n ∙ on_cong r h (all_shown see (on q k old)) (on q m seen_old) (on_shown see q k m d old) n)

  -- a new bucket
  pub added_seen : (put : StoredItem → StoredItems → StoredItems) (place : Item → Items → Items) → Shows put place
      → (r : ℕ) (id : BucketId) (x : Stored) → ((n : ℕ) → new n ≡ on r (put (id, x)) old n) → (n : ℕ)
      → seen_new n ≡ on r (place (id, shown see x)) seen_old n
  added_seen put place shows r id x change = on_seen r (put (id, x)) (place (id, shown see x)) (shows see (id, x)) change

  pub added_seen_at : (put : BucketId → StoredItem → StoredItems → StoredItems) (place : BucketId → Item → Items → Items)
      → ((l : Look) (at : BucketId) (y : StoredItem) (xs : StoredItems) → shown_items l (put at y xs) ≡ place at (shown_item l y) (shown_items l xs)) → (at id : BucketId) (x : Stored)
      → ((r n : ℕ) → g.ring_at s.rings.rings at ≡ Some r → new n ≡ on r (put at (id, x)) old n) → (r n : ℕ) → g.ring_at s.rings.rings at ≡ Some r
      → seen_new n ≡ on r (place at (id, shown see x)) seen_old n
  added_seen_at put place shows at id x change r n is = added_seen (put at) (place at) (λ l. shows l at) r id x (λ m. change r m is) n

  moved_seen : (put : StoredItem → StoredItems → StoredItems) (place : Item → Items → Items) → Shows put place
      → (r q n : ℕ) (id : BucketId) (x : Bucket) → found id (list_at seen_old q) ≡ Some x
      → ((m : ℕ) (y : Stored) → found id (list_at old q) ≡ Some y → new m ≡ on r (put (id, y)) (on q (without id) old) m)
      → seen_new n ≡ on r (place (id, x)) (on q (without id) seen_old) n
  moved_seen put place shows r q n id x is change =
      let y = found_stored see old new q id x is in
      twice_seen r q (put (id, y.0)) (without id) (place (id, shown see y.0)) (without id) (shows see (id, y.0)) (without_shown see id) (λ m. change m y.0 y.1) n
      ∙ ap (λ (z : Bucket). on r (place (id, z)) (on q (without id) seen_old) n) y.2

  pub move_seen : (put : StoredItem → StoredItems → StoredItems) (place : Item → Items → Items) → Shows put place → (r : ℕ) (id : BucketId)
      → ((q n : ℕ) (y : Stored) → g.ring_at s.rings.rings id ≡ Some q → found id (list_at old q) ≡ Some y → new n ≡ on r (put (id, y)) (on q (without id) old) n)
      → (q n : ℕ) (x : Bucket) → g.ring_at s.rings.rings id ≡ Some q → found id (list_at seen_old q) ≡ Some x → seen_new n ≡ on r (place (id, x)) (on q (without id) seen_old) n
  move_seen put place shows r id change q n x at is = moved_seen put place shows r q n id x is (λ m y here. change q m y at here)

  pub before_seen : (at : BucketId) (r q n : ℕ) (id : BucketId) (x : Bucket) → found id (list_at seen_old q) ≡ Some x
      → ((m : ℕ) (y : Stored) → found id (list_at old q) ≡ Some y → new m ≡ (if same at id then old m else on r (put_before at (id, y)) (on q (without id) old) m))
      → seen_new n ≡ (if same at id then seen_old n else on r (put_before at (id, x)) (on q (without id) seen_old) n)
  before_seen at r q n id x is change = go (same at id) refl where
    go : (b : Bool) → same at id ≡ b → seen_new n ≡ (if same at id then seen_old n else on r (put_before at (id, x)) (on q (without id) seen_old) n)
    go true hit = let y = found_stored see old new q id x is in rw hit (ap (option_map (shown_items see)) (change n y.0 y.1 ∙ rw hit refl))
    go false miss = rw miss (moved_seen (put_before at) (put_before at) (λ l. before_shown l at) r q n id x is (λ m y here. change m y here ∙ rw miss refl))

  pub spliced_seen : (r from : ℕ) → ((n : ℕ) → new n ≡ on r (λ xs. xs ++ list_at old from) (on from (λ xs. []) old) n) → (n : ℕ)
      → seen_new n ≡ on r (λ xs. xs ++ list_at seen_old from) (on from (λ xs. []) seen_old) n
  spliced_seen r from change =
      twice_seen r from (λ xs. xs ++ list_at old from) (λ xs. []) (λ xs. xs ++ list_at seen_old from) (λ xs. [])
      (λ xs. append_shown see xs (list_at old from) ∙ ap (λ ys. shown_items see xs ++ ys) (sym (list_shown see old from))) (λ xs. refl) change

  pub cut_seen : (r q : ℕ) (id : BucketId) → ((n : ℕ) → new n ≡ on r (λ xs. xs ++ rest id (list_at old q)) (on q (front id) old) n) → (n : ℕ)
      → seen_new n ≡ on r (λ xs. xs ++ rest id (list_at seen_old q)) (on q (front id) seen_old) n
  cut_seen r q id change =
      twice_seen r q (λ xs. xs ++ rest id (list_at old q)) (front id) (λ xs. xs ++ rest id (list_at seen_old q)) (front id)
      (λ xs. append_shown see xs (rest id (list_at old q)) ∙ ap (λ ys. shown_items see xs ++ ys)
      (rest_shown see id (list_at old q) ∙ ap (rest id) (sym (list_shown see old q)))) (front_shown see id) change

  pub joined_seen : (r : ℕ) (bs : StoredItems) → ((n : ℕ) → new n ≡ on r (λ xs. xs ++ bs) old n) → (n : ℕ) → seen_new n ≡ on r (λ xs. xs ++ shown_items see bs) seen_old n
  joined_seen r bs change = on_seen r (λ xs. xs ++ bs) (λ xs. xs ++ shown_items see bs) (λ xs. append_shown see xs bs) change

  pub paired_seen : (a b : ℕ) (bs : StoredItems) → ((n : ℕ) → new n ≡ upd (upd old a (Some [])) b (Some bs) n) → (n : ℕ) → seen_new n ≡ upd (upd seen_old a (Some [])) b (Some (shown_items see bs)) n
  paired_seen a b bs change n =
      ap (option_map (shown_items see)) (change n)
      ∙ (upd_shown see (upd old a (Some [])) b (Some bs) n ∙ upd_cong b (Some (shown_items see bs)) (all_shown see (upd old a (Some [])))
      (upd seen_old a (Some [])) (upd_shown see old a (Some [])) n)
