-- Lists of named buckets, as the model has them.
use Rattle.std.proofs.Common.{◌≡◌, ◌==◌, ◌&&◌, ℕ, suc, ◌+◌, ◌<◌, Bool, true, false, cond, List, [], ◌∷◌, ◌++◌, drop, map, Some, refl, sym, ap, ◌∙◌, arith, inl, inr, append_assoc}
use Rattle.std.specs.Prelude.{if◌then◌else◌}
use Rattle.std.specs.List.{AllByRecursion}
use Rattle.std.proofs.lemmas.Bool.{cases_eq, eq-eqb, ne_eqb}
use Rattle.bucket_ring.specs.declared.names.BucketId.{BucketId}
use Rattle.bucket_ring.specs.Lists as ring
use Rattle.bucket_ring.specs.Lists.{same, times, front, rest, found, by_birth, numbered}
use Rattle.bucket_ring.specs.Laws.{same_self}
use Rattle.run_model.specs.declared.bucket.Bucket.{Bucket}
use Rattle.run_model.specs.declared.bucket.NamedBucket.{NamedBucket}
use Rattle.run_model.specs.declared.event.Piece.{Piece}
use Rattle.run_model.specs.Buckets.{cleared_bucket}
use Rattle.run_model.specs.Pieces.{named_from}
use Rattle.run_model.specs.Cutting.{split_at}
use Rattle.run_model.specs.declared.payload.Payload.{Payload}
use Rattle.run_model.specs.Pools.{Pools}
use Rattle.run_model.specs.Steps.{aside_named}
use Rattle.run_model.specs.BrigadeLists as model
use Rattle.run_model.specs.BrigadeLists.{buckets_before, buckets_from, first_split}
use Rattle.bucket_store.specs.Items.{Item, Items, named, named_item, replaced, aside_item}
use Rattle.bucket_store.specs.declared.morph.Morph.{Morph}
use Rattle.bucket_store.specs.Morphs.{morphed, all_morphed, cleared_as}
use Rattle.bucket_store.specs.Laws.{IsGiven, ListsAreTheModels, birth_of}
use Rattle.bucket_store.proofs.Lists.{rest_head}

more : (s : Bool) (n : ℕ) → 0 < n → 0 < (if s then suc n else n)
more true n h = omega arith
more false n h = h

head_here : (b : Item) (bs : Items) → 0 < times b.0 (b ∷ bs)
head_here b bs = rw (same_self b.0) (omega arith)

and_false : (a : Bool) → (a && false) ≡ false
and_false true = refl
and_false false = refl

-- the birth alone tells the bucket
same_birth_test : (id : BucketId) (b : Item) (bs : Items) → IsGiven id (b ∷ bs) → same b.0 id ≡ (b.0.birth == id.birth)
same_birth_test id b bs given = elim (cases_eq b.0.birth id.birth) [
  | inl e ↦ rw (eq-eqb b.0.birth id.birth e, eq-eqb b.0.slot id.slot (given b.0 (head_here b bs) e)) refl
  | inr ne ↦ rw (ne_eqb b.0.birth id.birth ne) (and_false (b.0.slot == id.slot))
]

given_rest : (id : BucketId) (b : Item) (bs : Items) → IsGiven id (b ∷ bs) → IsGiven id bs
given_rest id b bs given i h e = given i (more (same b.0 i) (times i bs) h) e

stays_law : (id : BucketId) (xs : Items) → IsGiven id xs → named (front id xs) ≡ buckets_before id.birth (named xs)
unfolding buckets_before
stays_law id [] given = refl
stays_law id (b ∷ bs) given = go (stays_law id bs (given_rest id b bs given)) (b.0.birth == id.birth) refl where
  go : named (front id bs) ≡ buckets_before id.birth (named bs) → (t : Bool) → (b.0.birth == id.birth) ≡ t
      → named (front id (b ∷ bs)) ≡ cond (b.0.birth == id.birth) [] (named_item b ∷ buckets_before id.birth (named bs))
  go later true is = rw (same_birth_test id b bs given ∙ is, is) refl
  go later false is = rw (same_birth_test id b bs given ∙ is, is) (ap (λ (ys : List NamedBucket). named_item b ∷ ys) later)

moves_law : (id : BucketId) (xs : Items) → IsGiven id xs → named (rest id xs) ≡ buckets_from id.birth (named xs)
unfolding buckets_from
moves_law id [] given = refl
moves_law id (b ∷ bs) given = go (moves_law id bs (given_rest id b bs given)) (b.0.birth == id.birth) refl where
  go : named (rest id bs) ≡ buckets_from id.birth (named bs) → (t : Bool) → (b.0.birth == id.birth) ≡ t
      → named (rest id (b ∷ bs)) ≡ cond (b.0.birth == id.birth) (named (b ∷ bs)) (buckets_from id.birth (named bs))
  go later true is = rw (same_birth_test id b bs given ∙ is, is) refl
  go later false is = rw (same_birth_test id b bs given ∙ is, is) later

named_append : (xs ys : Items) → named (xs ++ ys) ≡ named xs ++ named ys
named_append [] ys = refl
named_append (x ∷ xs) ys = ap (λ (zs : List NamedBucket). named_item x ∷ zs) (named_append xs ys)

named_drop : (xs : Items) → named (drop 1 xs) ≡ drop 1 (named xs)
named_drop [] = refl
named_drop (x ∷ xs) = refl

first_law : (xs : Items) → birth_of (ring.first_of xs) ≡ model.first_place (named xs)
first_law [] = refl
first_law (x ∷ xs) = refl

before_law : (at : BucketId) (x : Item) (xs : Items) → IsGiven at xs → named (ring.put_before at x xs) ≡ model.put_before at.birth (named_item x) (named xs)
before_law at x xs given =
    named_append (front at xs ++ x ∷ []) (rest at xs)
    ∙ (ap (λ (ys : List NamedBucket). ys ++ named (rest at xs)) (named_append (front at xs) (x ∷ []))
    ∙ (ap (λ (ys : List NamedBucket). (ys ++ named_item x ∷ []) ++ named (rest at xs)) (stays_law at xs given)
    ∙ (ap (λ (ys : List NamedBucket). (buckets_before at.birth (named xs) ++ named_item x ∷ []) ++ ys) (moves_law at xs given)
    ∙ one_by_one (buckets_before at.birth (named xs)) (named_item x) (buckets_from at.birth (named xs))))) where
      one_by_one : (xs : List NamedBucket) (b : NamedBucket) (cs : List NamedBucket) → (xs ++ b ∷ []) ++ cs ≡ xs ++ b ∷ cs
      one_by_one xs b cs = append_assoc xs (b ∷ []) cs

taken_law : (id : BucketId) (xs : Items) → IsGiven id xs → named (ring.without id xs) ≡ model.taken_out id.birth (named xs)
taken_law id xs given =
    named_append (front id xs) (drop 1 (rest id xs))
    ∙ (ap (λ (ys : List NamedBucket). ys ++ named (drop 1 (rest id xs))) (stays_law id xs given)
    ∙ ap (λ (ys : List NamedBucket). buckets_before id.birth (named xs) ++ ys) (named_drop (rest id xs) ∙ ap (λ (ys : List NamedBucket). drop 1 ys) (moves_law id xs given)))

split_law : (id new : BucketId) (n : ℕ) (x : Bucket) (xs : Items) → IsGiven id xs → found id xs ≡ Some x
    → named (replaced id (split_at n x).0 ((new, (split_at n x).1) ∷ []) xs) ≡ model.bucket_split new.birth id.birth n (named xs)
split_law id new n x xs given here =
    let y : Item = (id, (split_at n x).0) in
    let z : Item = (new, (split_at n x).1) in
    named_append (front id xs) (y ∷ z ∷ drop 1 (rest id xs))
    ∙ (ap (λ (ys : List NamedBucket). ys ++ (named_item y ∷ named_item z ∷ named (drop 1 (rest id xs)))) (stays_law id xs given)
    ∙ ap (λ (ys : List NamedBucket). buckets_before id.birth (named xs) ++ ys)
    (sym (ap (λ (zs : Items). first_split new.birth n (named zs)) (rest_head id xs x here)) ∙ ap (λ (ys : List NamedBucket). first_split new.birth n ys) (moves_law id xs given)))

aside_law : (ps : Pools Payload) (pool : ℕ) (xs : Items) → named (map (aside_item ps pool) xs) ≡ map (aside_named ps pool) (named xs)
aside_law ps pool [] = refl
aside_law ps pool (x ∷ xs) = ap (λ (ys : List NamedBucket). aside_named ps pool (named_item x) ∷ ys) (aside_law ps pool xs)

cleared_law : (reached : ℕ → Bool) (ms : List Morph) (xs : Items) → AllByRecursion (λ (x : Item). morphed ms x.0 x.1 ≡ cleared_as reached x.1) xs
    → named (all_morphed ms xs) ≡ map (cleared_bucket reached) (named xs)
cleared_law reached ms [] all = refl
cleared_law reached ms (x ∷ xs) all =
    ap (λ (y : Bucket). named_item (x.0, y) ∷ named (all_morphed ms xs)) all.0
    ∙ ap (λ (ys : List NamedBucket). cleared_bucket reached (named_item x) ∷ ys) (cleared_law reached ms xs all.1)

brought_law : (make : Piece → Bucket) (next : ℕ) (pieces : List Piece) (xs : Items) → by_birth xs ≡ numbered next (map make pieces) → named xs ≡ named_from make next pieces
brought_law make next [] [] e = refl
brought_law make next [] (x ∷ xs) e = cc
brought_law make next (p ∷ ps) [] e = cc
brought_law make next (p ∷ ps) (x ∷ xs) e =
    let both : ◌≡◌ {A = ℕ × Bucket} (x.0.birth, x.1) (next, make p) = cc in
    let birth : x.0.birth ≡ next = ap (λ (q : ℕ × Bucket). q.0) both in
    let made : x.1 ≡ make p = ap (λ (q : ℕ × Bucket). q.1) both in
    let others : by_birth xs ≡ numbered (next + 1) (map make ps) = cc in
    ap (λ (n : ℕ). (let b : NamedBucket = record { name = n; bucket = x.1 } in b) ∷ named xs) birth
    ∙ (ap (λ (y : Bucket). (let b : NamedBucket = record { name = next; bucket = y } in b) ∷ named xs) made
    ∙ ap (λ (ys : List NamedBucket). (let b : NamedBucket = record { name = next; bucket = make p } in b) ∷ ys) (brought_law make (next + 1) ps xs others))

pub lists_are_the_models : ListsAreTheModels
lists_are_the_models = record {
  first = first_law;
  head = λ x xs. refl;
  tail = λ x xs. named_append xs (x ∷ []);
  before = before_law;
  taken = taken_law;
  stays = stays_law;
  moves = moves_law;
  split = split_law;
  aside = aside_law;
  cleared = cleared_law;
  brought = brought_law;
}
