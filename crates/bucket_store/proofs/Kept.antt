-- A change of regions keeps what all buckets are, where it keeps the bytes of each.
use Rattle.std.proofs.Common.{◌≡◌, ◌≢◌, ◌==◌, ◌&&◌, ◌||◌, not, ℕ, Bool, true, false, Option, None, Some, is_some, List, [], ◌∷◌, refl, sym, ap, ◌∙◌}
use Rattle.std.specs.List.{list_all}
use Rattle.std.specs.Option.{option_map, option_map_or}
use Rattle.std.proofs.lemmas.Bool.{and_parts, eq-eqb, false≢true}
use Rattle.apr_region.specs.declared.region.Span.{Span}
use Rattle.bucket_ring.specs.declared.names.BucketId.{BucketId}
use Rattle.bucket_ring.specs.Kept.{IsKept}
use Rattle.bucket_ring.specs.Laws.{in_found}
use Rattle.bucket_ring.specs.Lists.{list_at, times}
use Rattle.run_model.specs.declared.bucket.Bucket.{Bucket}
use Rattle.run_model.specs.declared.bucket.Content.{Content}
use Rattle.run_model.specs.declared.bucket.Content.TheVariants as content
use Rattle.bucket_kinds.specs.declared.stored.Kept.{Kept}
use Rattle.bucket_kinds.specs.declared.stored.Kept.TheVariants as kept
use Rattle.bucket_kinds.specs.declared.stored.RegionBytes.{RegionBytes}
use Rattle.bucket_kinds.specs.declared.stored.Stored.{Stored}
use Rattle.bucket_kinds.specs.Stored.{Look, part, has_part, is_whole, shown, shown_content}
use Rattle.bucket_store.specs.declared.dependents.Dependents.{Dependents}
use Rattle.bucket_store.specs.Dependents.{names_of, noted}
use Rattle.bucket_store.specs.Due.{kind_reached, home_reached, place_reached}
use Rattle.bucket_store.specs.Items.{Item, StoredItem, StoredItems}
use Rattle.bucket_store.specs.Noted.{place_of, held_under, still_under, NoneDepends}
use Rattle.bucket_store.specs.Shown.{shown_item, shown_items, all_shown, lies_right, is_held, held_item, AreHeld}
use Rattle.bucket_store.proofs.Noted.{listed_by_found}
use Rattle.bucket_store.proofs.Saves.{here_at}
use Rattle.bucket_store.proofs.Walks.{once_listed}

-- What is kept of each bucket that passes a test.
module _ (old new : Look) (q : StoredItem → Bool) (each : (x : StoredItem) → q x ≡ true → (shown_content new x.1.kept ≡ shown_content old x.1.kept) × (held_item new x ≡ true)) where
  items_same : (xs : StoredItems) → list_all q xs ≡ true → shown_items new xs ≡ shown_items old xs
  items_same [] a = refl
  items_same (x ∷ xs) a =
      let parts = and_parts (q x) (list_all q xs) a in
      let one : shown_item new x ≡ shown_item old x =
      ap (λ (c : Content). (let b : Bucket = record { kind = x.1.kind; content = c; home = x.1.home } in let i : Item = (x.0, b) in i)) (each x parts.0).0 in
      rw (one, items_same xs parts.1) refl

  items_whole : (xs : StoredItems) → list_all q xs ≡ true → list_all (held_item new) xs ≡ true
  items_whole [] a = refl
  items_whole (x ∷ xs) a =
      let parts = and_parts (q x) (list_all q xs) a in
      rw ((each x parts.0).1, items_whole xs parts.1) refl

  pub seen_same : (lists : ℕ → Option StoredItems) → ((b : ℕ) → list_all q (list_at lists b) ≡ true) → (n : ℕ) → all_shown new lists n ≡ all_shown old lists n
  seen_same lists all n = go (lists n) (all n) where
    go : (o : Option StoredItems) → list_all q (option_map_or (λ xs. xs) o []) ≡ true → option_map (shown_items new) o ≡ option_map (shown_items old) o
    go None a = refl
    go (Some xs) a = ap (λ ys. Some ys) (items_same xs a)

  pub whole_still : (lists : ℕ → Option StoredItems) → ((b : ℕ) → list_all q (list_at lists b) ≡ true) → AreHeld new lists
  whole_still lists all b = items_whole (list_at lists b) (all b)

all_both : (p q : StoredItem → Bool) (xs : StoredItems) → list_all p xs ≡ true → list_all q xs ≡ true → list_all (λ x. p x && q x) xs ≡ true
all_both p q [] a b = refl
all_both p q (x ∷ xs) a b =
    let one = and_parts (p x) (list_all p xs) a in
    let two = and_parts (q x) (list_all q xs) b in
    rw (one.0, two.0, all_both p q xs one.1 two.1) refl

-- Bytes were placed: all that was there is there.
module _ (old new : Look) (same : (p : ℕ) (s : Span) → is_some (old p s) ≡ true → new p s ≡ old p s) where
  there : (o : Option (List ℕ)) (p : RegionBytes) → has_part o p ≡ true → is_some o ≡ true
  there None p e = absurd (false≢true e)
  there (Some bs) p e = refl

  kept_placed : (k : Kept) → is_whole old k ≡ true → (shown_content new k ≡ shown_content old k) × (is_whole new k ≡ true)
  kept_placed (kept.Own c) e = (refl, refl)
  kept_placed (kept.Placed p) e =
      let is : new p.pool p.span ≡ old p.pool p.span = same p.pool p.span (there (old p.pool p.span) p e) in
      (ap (λ o. content.Bytes (part o p)) is, ap (λ o. has_part o p) is ∙ e)

  item_placed : (x : StoredItem) → held_item old x ≡ true → (shown_content new x.1.kept ≡ shown_content old x.1.kept) × (held_item new x ≡ true)
  item_placed x e =
      let parts = and_parts (is_whole old x.1.kept) (lies_right x.1.kind x.1.kept) e in
      let one = kept_placed x.1.kept parts.0 in
      (one.0, rw (one.1, parts.1) refl)

  pub placed_seen : (lists : ℕ → Option StoredItems) → AreHeld old lists → (n : ℕ) → all_shown new lists n ≡ all_shown old lists n
  placed_seen lists all = seen_same old new (held_item old) item_placed lists all

  pub placed_whole : (lists : ℕ → Option StoredItems) → AreHeld old lists → AreHeld new lists
  placed_whole lists all = whole_still old new (held_item old) item_placed lists all

  -- and what is to be put in is held as before
  pub one_still : (x : Stored) → is_held old x ≡ true → (shown new x ≡ shown old x) × (is_held new x ≡ true)
  one_still x held =
      let parts = and_parts (is_whole old x.kept) (lies_right x.kind x.kept) held in
      let one = kept_placed x.kept parts.0 in
      (ap (λ (c : Content). (let b : Bucket = record { kind = x.kind; content = c; home = x.home } in b)) one.0, rw (one.1, parts.1) refl)

-- The region of a pool on which no bucket depends was given up.
module _ (old new : Look) (pool : ℕ) (others : (p : ℕ) (s : Span) → p ≢ pool → new p s ≡ old p s) where
  abbrev off : StoredItem → Bool
  off x = not (held_under (λ q. q == pool) x.1)

  kept_freed : (k : Kept) → place_reached (λ q. q == pool) (place_of k) ≡ false → is_whole old k ≡ true → (shown_content new k ≡ shown_content old k) × (is_whole new k ≡ true)
  kept_freed (kept.Own c) apart e = (refl, refl)
  kept_freed (kept.Placed p) apart e =
      let is : new p.pool p.span ≡ old p.pool p.span = others p.pool p.span (λ same. false≢true (sym apart ∙ eq-eqb p.pool pool same)) in
      (ap (λ o. content.Bytes (part o p)) is, ap (λ o. has_part o p) is ∙ e)

  last_off : (a b c : Bool) → not (a || (b || c)) ≡ true → c ≡ false
  last_off true b c e = absurd (false≢true e)
  last_off false true c e = absurd (false≢true e)
  last_off false false true e = absurd (false≢true e)
  last_off false false false e = refl

  each_freed : (x : StoredItem) → (off x && held_item old x) ≡ true → (shown_content new x.1.kept ≡ shown_content old x.1.kept) × (held_item new x ≡ true)
  each_freed x e =
      let parts = and_parts (off x) (held_item old x) e in
      let held = and_parts (is_whole old x.1.kept) (lies_right x.1.kind x.1.kept) parts.1 in
      let one = kept_freed x.1.kept (last_off (kind_reached (λ q. q == pool) x.1.kind) (home_reached (λ q. q == pool) x.1.home) _ parts.0) held.0 in
      (one.0, rw (one.1, held.1) refl)

  pub freed_seen : (lists : ℕ → Option StoredItems) → ((b : ℕ) → list_all off (list_at lists b) ≡ true) → AreHeld old lists → (n : ℕ) → all_shown new lists n ≡ all_shown old lists n
  freed_seen lists none whole = seen_same old new (λ x. off x && held_item old x) each_freed lists (λ b. all_both off (held_item old) (list_at lists b) (none b) (whole b))

  pub freed_whole : (lists : ℕ → Option StoredItems) → ((b : ℕ) → list_all off (list_at lists b) ≡ true) → AreHeld old lists → AreHeld new lists
  freed_whole lists none whole = whole_still old new (λ x. off x && held_item old x) each_freed lists (λ b. all_both off (held_item old) (list_at lists b) (none b) (whole b))

  -- where no bucket that is there depends on it
  pub all_off : (at : BucketId → Option ℕ) (lists : ℕ → Option StoredItems) (next : ℕ) → IsKept at lists next → NoneDepends at lists pool → (b : ℕ) → list_all off (list_at lists b) ≡ true
  all_off at lists next law none b =
      listed_by_found off (list_at lists b) (λ i. once_listed b (at i) (times i (list_at lists b)) (law.counted i b))
      (λ id x is.
      ap not (sym (ap (still_under pool) (here_at (at id) lists id b x (in_found at lists next law id b (ap is_some is)) is)) ∙ none id))

-- no bucket is noted under a pool that has no names
pub none_noted : (deps : Dependents) (pool : ℕ) → names_of deps pool ≡ [] → deps.lost ≡ false → (id : BucketId) → noted deps pool id ≡ false
unfolding noted
none_noted deps pool none kept id = rw (none, kept) refl
