-- New buckets get their places.
use Rattle.std.proofs.Common.{◌≡◌, ◌<◌, ◌+◌, ◌||◌, ℕ, suc, Bool, true, false, Option, None, Some, is_some, List, [], ◌∷◌, map, length, get_or, refl, sym, ap, ◌∙◌, arith}
use Rattle.std.specs.List.{list_all, list_any}
use Rattle.std.proofs.lemmas.Bool.{false≢true}
use Rattle.apr_region.specs.declared.region.Span.{Span}
use Rattle.run_model.specs.declared.bucket.Bucket.{Bucket}
use Rattle.bucket_ring.specs.declared.names.BucketId.{BucketId}
use Rattle.bucket_ring.specs.Lists.{by_birth, numbered}
use Rattle.bucket_kinds.specs.declared.stored.Stored.{Stored}
use Rattle.bucket_kinds.specs.Stored.{Look, own, shown}
use Rattle.bucket_store.specs.Due.{home_pool, home_reached, kind_pool, kind_reached, place_reached}
use Rattle.bucket_store.specs.Items.{StoredItem, StoredItems}
use Rattle.bucket_store.specs.Noted.{held_under, is_noted, place_of, place_under}
use Rattle.bucket_store.specs.Shown.{is_held, is_own, own_bucket}
use Rattle.bucket_store.proofs.Kept.{one_still}

-- It is held, and shows what it was brought as.
abbrev pub IsHeldAs : Look → Stored → Stored → Type 0
IsHeldAs look was now = (shown look now ≡ own_bucket was) × (is_held look now ≡ true)

-- Where more bytes are placed it stays so.
pub held_on : (old new : Look) → ((p : ℕ) (s : Span) → is_some (old p s) ≡ true → new p s ≡ old p s) → (was now : Stored) → IsHeldAs old was now → IsHeldAs new was now
held_on old new same was now held = (let still = one_still old new same now held.1 in (still.0 ∙ held.0, still.1))

-- Bucket by bucket, all are.
pub all_held : (see : Look) (was now : List Stored) → length now ≡ length was → ((j : ℕ) (d : Stored) → j < length was → IsHeldAs see (get_or was j d) (get_or now j d))
    → (map (shown see) now ≡ map own_bucket was) × (list_all (is_held see) now ≡ true)
all_held see [] [] many each = (refl, refl)
all_held see [] (y ∷ ys) many each = absurd (omega (arith, many))
all_held see (x ∷ xs) [] many each = absurd (omega (arith, many))
all_held see (x ∷ xs) (y ∷ ys) many each =
    let one = each 0 x (omega arith) in
    let more = all_held see xs ys (omega (arith, many)) (λ j d lt. each (suc j) d (omega (arith, lt))) in
    (rw (one.0, more.0) refl, rw (one.1, more.1) refl)

-- A bucket that depends on no pool has its name under each pool that it depends on.
or_parts : (a b : Bool) → (a || b) ≡ false → (a ≡ false) × (b ≡ false)
or_parts true b e = absurd (false≢true (sym e))
or_parts false b e = (refl, e)

on_none : (test : ℕ → Bool) (o : Option ℕ) → place_reached (λ p. true) o ≡ false → place_under test o ≡ true
on_none test None e = refl
on_none test (Some p) e = absurd (false≢true (sym e))

free_noted : (names : ℕ → BucketId → Bool) (x : StoredItem) → held_under (λ p. true) x.1 ≡ false → is_noted names x ≡ true
free_noted names x e =
    let test : ℕ → Bool = λ p. names p x.0 in
    let kind = or_parts (kind_reached (λ p. true) x.1.kind) (home_reached (λ p. true) x.1.home || place_reached (λ p. true) (place_of x.1.kept)) e in
    let rest = or_parts (home_reached (λ p. true) x.1.home) (place_reached (λ p. true) (place_of x.1.kept)) kind.1 in
    rw (on_none test (kind_pool x.1.kind) kind.0, on_none test (home_pool x.1.home) rest.0, on_none test (place_of x.1.kept) rest.1) refl

pub all_free : (names : ℕ → BucketId → Bool) (next : ℕ) (xs : StoredItems) (given : List Stored) → by_birth xs ≡ numbered next given
    → list_any (held_under (λ p. true)) given ≡ false → list_all (is_noted names) xs ≡ true
all_free names next [] given e none = refl
all_free names next (x ∷ xs) [] e none = cc
all_free names next (x ∷ xs) (y ∷ ys) e none =
    let later : by_birth xs ≡ numbered (next + 1) ys = cc in
    let head : ◌≡◌ {A = ℕ × Stored} (x.0.birth, x.1) (next, y) = cc in
    let parts = or_parts (held_under (λ p. true) y) (list_any (held_under (λ p. true)) ys) none in
    let one : is_noted names x ≡ true = free_noted names x (ap (λ (p : ℕ × Stored). held_under (λ q. true) p.1) head ∙ parts.0) in
    rw (one, all_free names (next + 1) xs ys later parts.1) refl

-- Buckets that keep their own are new ones.
module _ {X : Type 0} (make : X → Bucket) where
  pub all_own : (xs : List X) → list_all is_own (map (λ x. own (make x)) xs) ≡ true
  all_own [] = refl
  all_own (x ∷ xs) = all_own xs

  pub own_shown : (xs : List X) → map own_bucket (map (λ x. own (make x)) xs) ≡ map make xs
  own_shown [] = refl
  own_shown (x ∷ xs) = ap (λ bs. make x ∷ bs) (own_shown xs)
