-- What a clear of a pool makes of buckets.
use Rattle.std.proofs.Common.{◌≡◌, ◌||◌, ℕ, suc, ◌≤◌, Bool, true, false, cond, Option, None, Some, is_some, List, [], ◌∷◌, ◌++◌, refl, sym, ap, ◌∙◌, arith, inl, inr}
use Rattle.std.specs.Prelude.{IfSome}
use Rattle.std.specs.List.{cons_option}
use Rattle.std.specs.Option.{option_map, option_map_or, option_and_then}
use Rattle.std.proofs.lemmas.Bool.{false≢true, cases_eq, eq-eqb, ne_eqb}
use Rattle.std.proofs.lemmas.List.{append-nil}
use Rattle.std.proofs.lemmas.List.Folds.{list_any-append}
use Rattle.bucket_ring.specs.declared.names.BucketId.{BucketId}
use Rattle.bucket_ring.specs.Kept.{once_in}
use Rattle.bucket_ring.specs.Laws.{same_name}
use Rattle.bucket_ring.specs.Lists.{upd, on, list_at, same, times, found, with_payload}
use Rattle.run_model.specs.declared.bucket.Bucket.{Bucket}
use Rattle.run_model.specs.declared.bucket.Kind.{Kind}
use Rattle.run_model.specs.declared.bucket.Kind.TheVariants as kind
use Rattle.run_model.specs.Buckets.{to_heap, end_pools}
use Rattle.bucket_store.specs.declared.morph.Morph.{Morph}
use Rattle.bucket_store.specs.Items.{Item, Items}
use Rattle.bucket_store.specs.Morphs.{kind_given, given_by, morph_one, morphed, all_morphed, cleared_as, is_named}

pub morphed_append : (ms ns : List Morph) (id : BucketId) (x : Bucket) → morphed (ms ++ ns) id x ≡ morphed ns id (morphed ms id x)
unfolding morphed
morphed_append [] ns id x = refl
morphed_append (m ∷ ms) ns id x = morphed_append ms ns id (morph_one m id x)

pub morphed_none : (id : BucketId) (x : Bucket) → morphed [] id x ≡ x
unfolding morphed
morphed_none id x = refl

pub not_some_none : {X : Type 0} (o : Option X) → is_some o ≡ false → o ≡ None
not_some_none None absence = refl
not_some_none (Some x) absence = cc

-- a bucket that is there is in a brigade
pub at_some : (at : Option ℕ) (f : ℕ → Option Bucket) (x : Bucket) → option_and_then f at ≡ Some x → is_some at ≡ true
at_some None f x is = cc
at_some (Some b) f x is = refl

pub none_there : {X : Type 0} (r : Option X) (at : Option ℕ) → is_some r ≡ is_some at → is_some at ≡ true → r ≡ None → ⊥
none_there r at same_there there gone = false≢true (sym (ap is_some gone) ∙ (same_there ∙ there))

or_none : (b : Bool) → (b || (false || false)) ≡ b
or_none true = refl
or_none false = refl

or_one : (b : Bool) → (b || (true || false)) ≡ true
or_one true = refl
or_one false = refl

-- the kind that a clear makes of a kind, once and again
pub given_once : (reached : ℕ → Bool) (k : Kind) → kind_given k (to_heap reached k) ≡ to_heap reached k
given_once reached (kind.Pool p) = go (reached p) where
  go : (b : Bool) → kind_given (kind.Pool p) (cond b kind.Heap (kind.Pool p)) ≡ cond b kind.Heap (kind.Pool p)
  go true = refl
  go false = refl
given_once reached k = refl

pub given_twice : (reached : ℕ → Bool) (k : Kind) → kind_given (to_heap reached k) (to_heap reached k) ≡ to_heap reached k
given_twice reached k = go (to_heap reached k) where
  go : (j : Kind) → kind_given j j ≡ j
  go kind.Heap = refl
  go j = refl

-- What was made ready for the names so far, and for one name more.
module _ (reached : ℕ → Bool) (ready : List Morph) (names : List BucketId) (name id : BucketId) (x : Bucket) (so_far : morphed ready id x ≡ cond (is_named id names) (cleared_as reached x) x) where
  other : same id name ≡ false → cond (is_named id names) (cleared_as reached x) x ≡ cond (is_named id (names ++ name ∷ [])) (cleared_as reached x) x
  other miss = ap (λ b. cond b (cleared_as reached x) x) (sym (list_any-append (λ n. same id n) names (name ∷ []) ∙ (ap (λ b. is_named id names || (b || false)) miss ∙ or_none (is_named id names))))

  this : same id name ≡ true → cleared_as reached x ≡ cond (is_named id (names ++ name ∷ [])) (cleared_as reached x) x
  this hit = ap (λ b. cond b (cleared_as reached x) x) (sym (list_any-append (λ n. same id n) names (name ∷ []) ∙ (ap (λ b. is_named id names || (b || false)) hit ∙ or_one (is_named id names))))

  over : (b : Bool) (m : Morph) → same id m.id ≡ true → m.kind ≡ to_heap reached x.kind → m.home ≡ end_pools reached x.home → morph_one m id (cond b (cleared_as reached x) x) ≡ cleared_as reached x
  over true m hit k h = rw (hit, k, h, given_twice reached x.kind) refl
  over false m hit k h = rw (hit, k, h, given_once reached x.kind) refl

  kept : (m : Morph) (y : Bucket) → same id m.id ≡ false → morph_one m id y ≡ y
  kept m y miss = rw miss refl

  pub plan_step : (r : Option Morph) → (same id name ≡ true → r ≡ None → ⊥) → IfSome r (λ m. m.id ≡ name) → (same id name ≡ true → IfSome r (λ m. m.kind ≡ to_heap reached x.kind))
      → (same id name ≡ true → IfSome r (λ m. m.home ≡ end_pools reached x.home))
      → morphed (ready ++ cons_option r []) id x ≡ cond (is_named id (names ++ name ∷ [])) (cleared_as reached x) x
  unfolding morphed
  plan_step None there is k h = go (same id name) refl where
    go : (s : Bool) → same id name ≡ s → morphed (ready ++ []) id x ≡ cond (is_named id (names ++ name ∷ [])) (cleared_as reached x) x
    go true hit = absurd (there hit refl)
    go false miss = ap (λ ms. morphed ms id x) (append-nil ready) ∙ (so_far ∙ other miss)
  plan_step (Some m) there is k h = go (same id name) refl where
    go : (s : Bool) → same id name ≡ s → morphed (ready ++ m ∷ []) id x ≡ cond (is_named id (names ++ name ∷ [])) (cleared_as reached x) x
    go true hit =
        morphed_append ready (m ∷ []) id x
        ∙ (ap (λ y. morph_one m id y) so_far
        ∙ (over (is_named id names) m (ap (λ n. same id n) is ∙ hit) (k hit) (h hit) ∙ this hit))
    go false miss = morphed_append ready (m ∷ []) id x ∙ (kept m (morphed ready id x) (ap (λ n. same id n) is ∙ miss) ∙ (so_far ∙ other miss))

-- One bucket gets what was made ready for it.
module _ (m : Morph) where
  abbrev one : List Morph
  one = m ∷ []

  absent : (xs : Items) → times m.id xs ≡ 0 → all_morphed one xs ≡ xs
  unfolding morphed
  absent [] none = refl
  absent (b ∷ bs) none = go (absent bs) (same b.0 m.id) refl where
    go : (times m.id bs ≡ 0 → all_morphed one bs ≡ bs) → (s : Bool) → same b.0 m.id ≡ s → all_morphed one (b ∷ bs) ≡ b ∷ bs
    go later true hit = let some : suc (times m.id bs) ≡ 0 = rw hit at none in absurd (omega arith)
    go later false miss = rw miss (ap (λ (zs : Items). b ∷ zs) (later (rw miss at none)))

  once : (x : Bucket) (xs : Items) → times m.id xs ≤ 1 → found m.id xs ≡ Some x → all_morphed one xs ≡ with_payload m.id (given_by m x) xs
  unfolding morphed
  once x [] few here = cc
  once x (b ∷ bs) few here = go (once x bs) (same b.0 m.id) refl where
    head : b.0 ≡ m.id → b.1 ≡ x → all_morphed one bs ≡ bs → (b.0, given_by m b.1) ∷ all_morphed one bs ≡ (m.id, given_by m x) ∷ bs
    head at is same_rest = rw (at, is, same_rest) refl

    go : (times m.id bs ≤ 1 → found m.id bs ≡ Some x → all_morphed one bs ≡ with_payload m.id (given_by m x) bs) → (s : Bool) → same b.0 m.id ≡ s
        → all_morphed one (b ∷ bs) ≡ with_payload m.id (given_by m x) (b ∷ bs)
    go later true hit =
        let few_more : suc (times m.id bs) ≤ 1 = rw hit at few in
        let is : b.1 ≡ x = (let e : Some b.1 ≡ Some x = rw hit at here in cc) in
        simp hit (head (same_name b.0 m.id hit) is (absent bs (omega arith)))
    go later false miss = simp miss (ap (λ (zs : Items). b ∷ zs) (later (rw miss at few) (rw miss at here)))

  pub absent_kept : (o : Option Items) → times m.id (option_map_or (λ xs. xs) o []) ≡ 0 → o ≡ option_map (all_morphed one) o
  absent_kept None none = refl
  absent_kept (Some xs) none = ap (λ (zs : Items). Some zs) (sym (absent xs none))

  pub once_kept : (b n : ℕ) (x : Bucket) (lists : ℕ → Option Items) → ((r : ℕ) → times m.id (list_at lists r) ≡ once_in r (Some b)) → found m.id (list_at lists b) ≡ Some x
      → on b (with_payload m.id (given_by m x)) lists n ≡ option_map (all_morphed one) (lists n)
  unfolding upd
  once_kept b n x lists count here = elim (cases_eq n b) [
    | inl same_ring ↦ rw (eq-eqb n b same_ring) (at (lists b) (count b) here ∙ ap (λ k. option_map (all_morphed one) (lists k)) (sym same_ring))
    | inr ne ↦ rw (ne_eqb n b ne) (absent_kept (lists n) (count n ∙ rw (ne_eqb b n (λ e. ne (sym e))) refl))
  ] where
    one_here : times m.id (list_at lists b) ≡ 1
    one_here = count b ∙ rw (eq-eqb b b refl) refl

    at : (o : Option Items) → times m.id (option_map_or (λ xs. xs) o []) ≡ once_in b (Some b) → found m.id (option_map_or (λ xs. xs) o []) ≡ Some x
        → option_map (with_payload m.id (given_by m x)) o ≡ option_map (all_morphed one) o
    at None c is = refl
    at (Some xs) c is = let few : times m.id xs ≡ 1 = c ∙ rw (eq-eqb b b refl) refl in ap (λ (zs : Items). Some zs) (sym (once x xs (omega arith) is))

-- one after another
pub morphs_step : (m : Morph) (ms : List Morph) (o : Option Items) → option_map (all_morphed ms) (option_map (all_morphed (m ∷ [])) o) ≡ option_map (all_morphed (m ∷ ms)) o
unfolding morphed
morphs_step m ms None = refl
morphs_step m ms (Some xs) = ap (λ (zs : Items). Some zs) (at xs) where
  at : (xs : Items) → all_morphed ms (all_morphed (m ∷ []) xs) ≡ all_morphed (m ∷ ms) xs
  at [] = refl
  at (x ∷ xs) = ap (λ (zs : Items). (let y : Item = (x.0, morphed ms x.0 (morph_one m x.0 x.1)) in y) ∷ zs) (at xs)

pub morphs_none : (o : Option Items) → option_map (all_morphed []) o ≡ o
unfolding morphed
morphs_none None = refl
morphs_none (Some xs) = ap (λ (zs : Items). Some zs) (at xs) where
  at : (xs : Items) → all_morphed [] xs ≡ xs
  at [] = refl
  at (x ∷ xs) = ap (λ (zs : Items). x ∷ zs) (at xs)
