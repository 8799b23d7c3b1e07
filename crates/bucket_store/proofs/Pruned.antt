-- Names of buckets that depend on a pool no more may be thrown out.
use Rattle.std.proofs.Common.{◌≡◌, ◌≢◌, ◌==◌, ◌||◌, ℕ, Bool, true, false, cond, Option, None, Some, List, [], ◌∷◌, filter, is_some, ◌⊎◌, refl, sym, ap, ◌∙◌, inl, inr}
use Rattle.std.proofs.lemmas.Bool.{cases_eq, eq-eqb, eqb-true, false≢true, ne_eqb}
use Rattle.std.specs.Option.{option_and_then}
use Rattle.bucket_kinds.specs.declared.stored.Stored.{Stored}
use Rattle.bucket_ring.specs.declared.names.BucketId.{BucketId}
use Rattle.bucket_ring.specs.Lists.{list_at, times, found}
use Rattle.bucket_ring.specs.Kept.{IsKept}
use Rattle.bucket_ring.specs.Laws.{in_found}
use Rattle.bucket_store.specs.declared.dependents.Dependents.{Dependents}
use Rattle.bucket_store.specs.Dependents.{names_of, noted, StayNoted}
use Rattle.bucket_store.specs.Due.{kind_pool, home_pool, place_reached, kind_reached, home_reached}
use Rattle.bucket_store.specs.Items.{StoredItems}
use Rattle.bucket_store.specs.Morphs.{is_named}
use Rattle.bucket_store.specs.Noted.{place_under, place_of, held_under, is_noted, AreNoted, NoneDepends, bucket_named, still_under}
use Rattle.bucket_store.proofs.DueBuckets.{held_one, named_filtered, either_named, first_named, second_named}
use Rattle.bucket_store.proofs.Noted.{all_found, are_kept, listed_by_found, noted_item, noted_parts}
use Rattle.bucket_store.proofs.Saves.{here_at}
use Rattle.bucket_store.proofs.Walks.{once_listed}

-- What a bucket depends on stays noted, so it stays noted under all of them.
module _ (names more : ℕ → BucketId → Bool) (id : BucketId) (x : Stored) (kept : (p : ℕ) → held_under (λ q. q == p) x ≡ true → names p id ≡ true → more p id ≡ true) where
  stays : (q : Option ℕ) → ((p : ℕ) → q ≡ Some p → held_under (λ r. r == p) x ≡ true) → place_under (λ p. names p id) q ≡ true → place_under (λ p. more p id) q ≡ true
  stays None held e = refl
  stays (Some p) held e = kept p (held p refl) e

  item_stays : is_noted names (id, x) ≡ true → is_noted more (id, x) ≡ true
  item_stays e =
      let parts = noted_parts names id x e in
      let is_it : (q : Option ℕ) (p : ℕ) → q ≡ Some p → place_reached (λ r. r == p) q ≡ true = λ q p is. ap (place_reached (λ r. r == p)) is ∙ eq-eqb p p refl in
      let by_other : (p : ℕ) → (home_reached (λ r. r == p) x.home || place_reached (λ r. r == p) (place_of x.kept)) ≡ true → held_under (λ r. r == p) x ≡ true =
      λ p. second_named (kind_reached (λ r. r == p) x.kind) (home_reached (λ r. r == p) x.home || place_reached (λ r. r == p) (place_of x.kept)) in
      noted_item more id x
      (stays (kind_pool x.kind) (λ p is. first_named (kind_reached (λ r. r == p) x.kind)
      (home_reached (λ r. r == p) x.home || place_reached (λ r. r == p) (place_of x.kept)) (is_it (kind_pool x.kind) p is)) parts.0)
      (stays (home_pool x.home) (λ p is. by_other p (first_named (home_reached (λ r. r == p) x.home) (place_reached (λ r. r == p) (place_of x.kept)) (is_it (home_pool x.home) p is))) parts.1)
      (stays (place_of x.kept) (λ p is. by_other p (second_named (home_reached (λ r. r == p) x.home) (place_reached (λ r. r == p) (place_of x.kept)) (is_it (place_of x.kept) p is))) parts.2)

-- Names are thrown out from under one pool whose buckets are gone or depend on it no more.
module _ (at : BucketId → Option ℕ) (lists : ℕ → Option StoredItems) (next : ℕ) (law : IsKept at lists next) (old new : Dependents) (pool : ℕ)
    (out : (p : ℕ) → names_of new p ≡ cond (p == pool) (filter (λ i. still_under pool (bucket_named at lists i)) (names_of old p)) (names_of old p)) (still : new.lost ≡ old.lost) where
  under_kept : (id : BucketId) (x : Stored) → bucket_named at lists id ≡ Some x → (p : ℕ) → held_under (λ q. q == p) x ≡ true → noted old p id ≡ true → noted new p id ≡ true
  unfolding noted
  under_kept id x there p on e = elim (either_named old.lost (is_named id (names_of old p)) e) [
    | inl gone ↦ first_named new.lost (is_named id (names_of new p)) (still ∙ gone)
    | inr named ↦ second_named new.lost (is_named id (names_of new p)) (ap (is_named id) (out p) ∙ by_pool (cases_eq p pool) named)
  ] where
    by_pool : (p ≡ pool) ⊎ (p ≢ pool) → is_named id (names_of old p) ≡ true
        → is_named id (cond (p == pool) (filter (λ i. still_under pool (bucket_named at lists i)) (names_of old p)) (names_of old p)) ≡ true
    by_pool (inl here) named =
        rw (eq-eqb p pool here) (named_filtered (λ i. still_under pool (bucket_named at lists i)) id (names_of old p)
        ∙ rw (ap (still_under pool) there ∙ (ap (λ (q : ℕ). held_under (λ n. n == q) x) (sym here) ∙ on), named) refl)
    by_pool (inr apart) named = rw (ne_eqb p pool apart) named

  pub pruned : AreNoted (noted old) lists → AreNoted (noted new) lists
  pruned are b =
      listed_by_found (is_noted (noted new)) (list_at lists b) (λ i. once_listed b (at i) (times i (list_at lists b)) (law.counted i b))
      (λ id x is.
      let there = here_at (at id) lists id b x (in_found at lists next law id b (ap is_some is)) is in
      item_stays (noted old) (noted new) id x (under_kept id x there) (all_found (is_noted (noted old)) id x (list_at lists b) (are b) is))

-- Where no bucket depends on a pool, no name stays under it.
pub all_thrown : (test : BucketId → Bool) → ((id : BucketId) → test id ≡ false) → (names : List BucketId) → filter test names ≡ []
all_thrown test none [] = refl
all_thrown test none (name ∷ names) = rw (none name) (all_thrown test none names)

-- Where no bucket is noted under a pool, none depends on it.
pub none_under : (names : ℕ → BucketId → Bool) (at : BucketId → Option ℕ) (lists : ℕ → Option StoredItems) (pool : ℕ) → AreNoted names lists → ((id : BucketId) → names pool id ≡ false)
    → NoneDepends at lists pool
none_under names at lists pool are none id = by_ring (at id) where
  by_test : (b : ℕ) (x : Stored) → found id (list_at lists b) ≡ Some x → (t : Bool) → held_under (λ q. q == pool) x ≡ t → t ≡ false
  by_test b x is false e = refl
  by_test b x is true e =
      let one = held_one (λ q. q == pool) names id x (all_found (is_noted names) id x (list_at lists b) (are b) is) e in
      absurd (false≢true (sym (none id) ∙ (sym (ap (λ (p : ℕ). names p id) (eqb-true one.0 pool one.1)) ∙ one.2)))

  by_found : (b : ℕ) (o : Option Stored) → found id (list_at lists b) ≡ o → still_under pool o ≡ false
  by_found b None e = refl
  by_found b (Some x) e = by_test b x e (held_under (λ q. q == pool) x) refl

  by_ring : (o : Option ℕ) → still_under pool (option_and_then (λ b. found id (list_at lists b)) o) ≡ false
  by_ring None = refl
  by_ring (Some b) = by_found b (found id (list_at lists b)) refl

-- Where the names under all pools are as they were, what was noted is noted.
pub same_names : (old new : Dependents) → ((p : ℕ) → names_of new p ≡ names_of old p) → new.lost ≡ old.lost → StayNoted old new
unfolding noted
same_names old new names lost lists are = are_kept (noted old) (noted new)
    (λ p id e. ap (λ (b : Bool). b || is_named id (names_of new p)) lost ∙ (ap (λ (ns : List BucketId). old.lost || is_named id ns) (names p) ∙ e)) lists are
