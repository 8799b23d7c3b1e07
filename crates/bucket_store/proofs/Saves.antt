-- The buckets of a brigade are set aside, one after another.
use Rattle.std.proofs.Common.{◌≡◌, ℕ, suc, ◌<◌, Bool, true, false, Option, None, Some, is_some, List, [], ◌∷◌, ◌++◌, drop, map, filter_map, length, refl, sym, ap, ◌∙◌, arith}
use Rattle.std.specs.Prelude.{IfSome}
use Rattle.std.specs.List.{cons_option}
use Rattle.std.specs.Option.{option_and_then}
use Rattle.std.proofs.lemmas.Bool.{ne_eqb}
use Rattle.std.proofs.lemmas.List.{append_assoc, append_cancel_right, append-nil}
use Rattle.run_model.specs.declared.bucket.Bucket.{Bucket}
use Rattle.run_model.specs.declared.payload.Payload.{Payload}
use Rattle.run_model.specs.Pools.{Pools}
use Rattle.run_model.specs.Cutting.{set_aside}
use Rattle.run_model.specs.Steps.{is_above, new_ref}
use Rattle.bucket_ring.specs.declared.names.BucketId.{BucketId}
use Rattle.bucket_ring.specs.Lists.{on, list_at, same, times, front, rest, found, payload_of, with_payload}
use Rattle.bucket_ring.specs.Kept.{once_in}
use Rattle.bucket_ring.specs.Laws.{same_self}
use Rattle.bucket_store.specs.Items.{Items, named, before_place, from_place, aside_item, aside_behind}
use Rattle.bucket_store.proofs.Lists.{rest_head, front_rest, rest_append, list_on, list_off, there_off}
use Rattle.bucket_store.proofs.Walks.{count_head}

module _ {T : Type 0} where
  pub found_some : (id : BucketId) (xs : List (BucketId × T)) → is_some (found id xs) ≡ true → (x : T) × (found id xs ≡ Some x)
  found_some id xs there = go (found id xs) refl there where
    go : (o : Option T) → found id xs ≡ o → is_some o ≡ true → (x : T) × (found id xs ≡ Some x)
    go None is h = cc
    go (Some x) is h = (x, is)

-- the bucket of a name, by the brigade that it is in
pub here_at : {T : Type 0} (at : Option ℕ) (lists : ℕ → Option (List (BucketId × T))) (id : BucketId) (b : ℕ) (x : T) → at ≡ Some b → found id (list_at lists b) ≡ Some x
    → option_and_then (λ q. found id (list_at lists q)) at ≡ Some x
here_at at lists id b x is here = ap (option_and_then (λ q. found id (list_at lists q))) is ∙ here

-- what stands from a bucket on after it got another payload
rest_set : (id : BucketId) (v : Bucket) (xs : Items) → is_some (found id xs) ≡ true → rest id (with_payload id v xs) ≡ (id, v) ∷ drop 1 (rest id xs)
rest_set id v [] e = cc
rest_set id v (b ∷ bs) e = go (rest_set id v bs) (same b.0 id) refl where
  go : (is_some (found id bs) ≡ true → rest id (with_payload id v bs) ≡ (id, v) ∷ drop 1 (rest id bs)) → (s : Bool) → same b.0 id ≡ s
      → rest id (with_payload id v (b ∷ bs)) ≡ (id, v) ∷ drop 1 (rest id (b ∷ bs))
  go later true hit = simp (hit, same_self id) refl
  go later false miss = simp miss (later (rw miss at e))

front_append : (id : BucketId) (xs ys : Items) → times id xs ≡ 0 → front id (xs ++ ys) ≡ xs ++ front id ys
front_append id [] ys none = refl
front_append id (b ∷ bs) ys none = go (front_append id bs ys) (same b.0 id) refl where
  go : (times id bs ≡ 0 → front id (bs ++ ys) ≡ bs ++ front id ys) → (s : Bool) → same b.0 id ≡ s → front id ((b ∷ bs) ++ ys) ≡ (b ∷ bs) ++ front id ys
  go later true hit = let some : suc (times id bs) ≡ 0 = rw hit at none in absurd (omega arith)
  go later false miss = rw miss (ap (λ zs. b ∷ zs) (later (rw miss at none)))

-- a bucket of another brigade
pub none_other : (o b n : ℕ) (at : Option ℕ) → (o ≡ b → ⊥) → at ≡ Some b → n ≡ once_in o at → n ≡ 0
none_other o b n at apart is count = count ∙ (ap (once_in o) is ∙ rw (ne_eqb b o (λ e. apart (sym e))) refl)

pub found_append : (id : BucketId) (xs ys : Items) → times id xs ≡ 0 → is_some (found id ys) ≡ true → is_some (found id (xs ++ ys)) ≡ true
found_append id xs ys none there = ap (λ (zs : Items). is_some (payload_of zs)) (rest_append id xs ys none) ∙ there

-- the buckets of one brigade moved behind those of another
pub joined : (o b : ℕ) (lists new : ℕ → Option Items) → (o ≡ b → ⊥) → is_some (lists o) ≡ true → ((n : ℕ) → new n ≡ on o (λ xs. xs ++ list_at lists b) (on b (λ xs. []) lists) n)
    → list_at new o ≡ list_at lists o ++ list_at lists b
joined o b lists new apart there change =
    list_on o (λ xs. xs ++ list_at lists b) (on b (λ xs. []) lists) new change (ap is_some (there_off o b (λ xs. []) lists apart) ∙ there)
    ∙ ap (λ (zs : Items). zs ++ list_at lists b) (list_off o b (λ xs. []) lists apart)

place_whole : (place : Option BucketId) (xs : Items) → before_place place xs ++ from_place place xs ≡ xs
place_whole None xs = append-nil xs
place_whole (Some id) xs = front_rest id xs

module _ (ps : Pools Payload) (pool : ℕ) where
  abbrev aside : Bucket → Bucket
  aside x = set_aside pool (is_above ps pool x.home) x

  module _ (id : BucketId) (place : Option BucketId) (x : Bucket) (xs : Items) (here : found id xs ≡ Some x)
      (behind : from_place place (with_payload id (aside x) xs) ≡ drop 1 (rest id (with_payload id (aside x) xs))) where
    left : from_place place (with_payload id (aside x) xs) ≡ drop 1 (rest id xs)
    left = behind ∙ ap (λ (zs : Items). drop 1 zs) (rest_set id (aside x) xs (ap is_some here))

    done : before_place place (with_payload id (aside x) xs) ≡ front id xs ++ (id, aside x) ∷ []
    done =
        let ys = with_payload id (aside x) xs in
        let t = drop 1 (rest id xs) in
        append_cancel_right (before_place place ys) (front id xs ++ (id, aside x) ∷ []) t
        (ap (λ (zs : Items). before_place place ys ++ zs) (sym left) ∙ place_whole place ys)

    -- one bucket more is set aside
    pub aside_step : aside_behind ps pool place (with_payload id (aside x) xs) ≡ aside_behind ps pool (Some id) xs
    aside_step =
        let t = drop 1 (rest id xs) in
        ap (λ (zs : Items). zs ++ map (aside_item ps pool) (from_place place (with_payload id (aside x) xs))) done
        ∙ (ap (λ (zs : Items). (front id xs ++ (id, aside x) ∷ []) ++ map (aside_item ps pool) zs) left
        ∙ (append_assoc (front id xs) ((id, aside x) ∷ []) (map (aside_item ps pool) t)
        ∙ ap (λ (zs : Items). front id xs ++ map (aside_item ps pool) zs) (sym (rest_head id xs x here))))

    pub fewer_left : length (from_place place (with_payload id (aside x) xs)) < length (rest id xs)
    fewer_left = let e = ap length left in let c = count_head id xs x here in omega (arith, e, c)

  pub none_left : (xs : Items) → aside_behind ps pool None xs ≡ xs
  none_left xs = append-nil xs

  -- what was moved behind others is set aside
  pub moved_aside : (first : Option BucketId) (xs bs : Items) → from_place first bs ≡ bs → IfSome first (λ id. times id xs ≡ 0)
      → aside_behind ps pool first (xs ++ bs) ≡ xs ++ map (aside_item ps pool) bs
  moved_aside None xs [] whole none = append-nil (xs ++ [])
  moved_aside None xs (b ∷ bs) whole none = cc
  moved_aside (Some id) xs bs whole none =
      let none_before : front id bs ≡ [] = append_cancel_right (front id bs) [] bs (ap (λ (zs : Items). front id bs ++ zs) (sym whole) ∙ front_rest id bs) in
      ap (λ (zs : Items). zs ++ map (aside_item ps pool) (rest id (xs ++ bs))) (front_append id xs bs none ∙ (ap (λ (zs : Items). xs ++ zs) none_before ∙ append-nil xs))
      ∙ ap (λ (zs : Items). xs ++ map (aside_item ps pool) zs) (rest_append id xs bs none ∙ whole)

  push_more : (o : Option ℕ) (files later : List ℕ) → (files ++ cons_option o []) ++ later ≡ files ++ cons_option o later
  push_more None files later = ap (λ (zs : List ℕ). zs ++ later) (append-nil files)
  push_more (Some f) files later = append_assoc files (f ∷ []) later

  -- the files of one bucket more
  pub files_step : (id : BucketId) (x : Bucket) (xs later : Items) (files : List ℕ) → found id xs ≡ Some x → later ≡ drop 1 (rest id xs)
      → (files ++ cons_option (new_ref ps pool (record { name = id.birth; bucket = x })) []) ++ filter_map (new_ref ps pool) (named later) ≡ files ++ filter_map (new_ref ps pool) (named (rest id xs))
  files_step id x xs later files here is =
      push_more (new_ref ps pool (record { name = id.birth; bucket = x })) files (filter_map (new_ref ps pool) (named later))
      ∙ (ap (λ (zs : Items). files ++ filter_map (new_ref ps pool) (named ((id, x) ∷ zs))) is
      ∙ ap (λ (zs : Items). files ++ filter_map (new_ref ps pool) (named zs)) (sym (rest_head id xs x here)))

-- nothing was put where nothing is
pub none_put : (files : List ℕ) (file : Option ℕ) (later : List ℕ) → (files ++ cons_option file []) ++ later ≡ [] → file ≡ None
none_put files None later e = refl
none_put [] (Some f) later e = absurd (cc)
none_put (g ∷ files) (Some f) later e = absurd (cc)
