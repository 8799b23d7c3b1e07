-- Lists of named buckets, one bucket at a time.
use Rattle.std.proofs.Common.{◌≡◌, ◌==◌, ℕ, suc, ◌<◌, ◌≤◌, Bool, true, false, cond, Option, None, Some, is_some, List, [], ◌∷◌, ◌++◌, drop, length, refl, sym, ap, subst, ◌∙◌, arith, inl, inr}
use Rattle.std.specs.Bool.{if◌then◌else◌}
use Rattle.std.specs.Option.{option_map, option_map_or, option_and_then}
use Rattle.std.proofs.lemmas.List.{append_assoc}
use Rattle.std.proofs.lemmas.Bool.{eq-eqb, ne_eqb, cases_eq}
use Rattle.bucket_ring.specs.declared.names.BucketId.{BucketId}
use Rattle.bucket_ring.specs.Lists.{upd, on, list_at, same, times, front, rest, first_of, found, put_after, without, with_payload}
use Rattle.bucket_ring.specs.Kept.{once_in}
use Rattle.bucket_ring.specs.Laws.{same_name, same_self, first_times, behind_times}

rest_once : (s : Bool) (n : ℕ) → (if s then suc n else n) ≤ 1 → n ≤ 1
rest_once true n h = omega arith
rest_once false n h = h

twice : (n : ℕ) → suc n ≤ 1 → 0 < n → ⊥
twice n h k = omega arith

module _ {T : Type 0} where
  -- a bucket that is found stands at the head of what begins with it
  pub rest_head : (id : BucketId) (xs : List (BucketId × T)) (x : T) → found id xs ≡ Some x → rest id xs ≡ (id, x) ∷ drop 1 (rest id xs)
  rest_head id [] x e = cc
  rest_head id (b ∷ bs) x e = go (rest_head id bs x) (same b.0 id) refl where
    pair : b.0 ≡ id → Some b.1 ≡ Some x → b ∷ bs ≡ (id, x) ∷ bs
    pair at is = let one : b.1 ≡ x = cc in ap (λ (i : BucketId). let y : BucketId × T = (i, b.1) in y ∷ bs) at ∙ ap (λ (z : T). let y : BucketId × T = (id, z) in y ∷ bs) one

    go : (found id bs ≡ Some x → rest id bs ≡ (id, x) ∷ drop 1 (rest id bs)) → (s : Bool) → same b.0 id ≡ s → rest id (b ∷ bs) ≡ (id, x) ∷ drop 1 (rest id (b ∷ bs))
    go later true hit = rw hit (pair (same_name b.0 id hit) (rw hit at e))
    go later false miss = rw miss (later (rw miss at e))

  pub first_rest : (j : BucketId) (xs : List (BucketId × T)) → first_of xs ≡ Some j → rest j xs ≡ xs
  first_rest j [] e = cc
  first_rest j (b ∷ bs) e =
      let here : b.0 ≡ j = cc in
      rw (ap (λ i. same i j) here ∙ same_self j) refl

  -- what stands behind a bucket, where each name stands once
  pub rest_next : (id j : BucketId) (xs : List (BucketId × T)) → ((i : BucketId) → times i xs ≤ 1) → first_of (drop 1 (rest id xs)) ≡ Some j → rest j xs ≡ drop 1 (rest id xs)
  rest_next id j [] once e = cc
  rest_next id j (b ∷ bs) once e = go (rest_next id j bs (λ i. rest_once (same b.0 i) (times i bs) (once i))) (same b.0 id) refl (same b.0 j) refl where
    go : (first_of (drop 1 (rest id bs)) ≡ Some j → rest j bs ≡ drop 1 (rest id bs)) → (s : Bool) → same b.0 id ≡ s → (t : Bool) → same b.0 j ≡ t → rest j (b ∷ bs) ≡ drop 1 (rest id (b ∷ bs))
    go later true hit true again = absurd (twice (times j bs) (rw again at (once j)) (first_times j bs (rw hit at e)))
    go later false miss true again = absurd (twice (times j bs) (rw again at (once j)) (behind_times id j bs (rw miss at e)))
    go later true hit false other = rw (other, hit) (first_rest j bs (rw hit at e))
    go later false miss false other = rw (other, miss) (later (rw miss at e))

  -- a bucket that gets another payload after one was put behind it
  pub set_behind : (id : BucketId) (y : BucketId × T) (f : T) (xs : List (BucketId × T)) → is_some (found id xs) ≡ true
      → with_payload id f (put_after id y xs) ≡ front id xs ++ (id, f) ∷ y ∷ drop 1 (rest id xs)
  set_behind id y f [] e = cc
  set_behind id y f (b ∷ bs) e = go (set_behind id y f bs) (same b.0 id) refl where
    go : (is_some (found id bs) ≡ true → with_payload id f (put_after id y bs) ≡ front id bs ++ (id, f) ∷ y ∷ drop 1 (rest id bs)) → (s : Bool) → same b.0 id ≡ s
        → with_payload id f (put_after id y (b ∷ bs)) ≡ front id (b ∷ bs) ++ (id, f) ∷ y ∷ drop 1 (rest id (b ∷ bs))
    go later true hit = simp hit refl
    go later false miss = simp miss (ap (λ zs. b ∷ zs) (later (rw miss at e)))

  -- what stands before a bucket and from it on is the whole
  pub front_rest : (id : BucketId) (xs : List (BucketId × T)) → front id xs ++ rest id xs ≡ xs
  front_rest id [] = refl
  front_rest id (b ∷ bs) = go (front_rest id bs) (same b.0 id) refl where
    go : front id bs ++ rest id bs ≡ bs → (s : Bool) → same b.0 id ≡ s → front id (b ∷ bs) ++ rest id (b ∷ bs) ≡ b ∷ bs
    go later true hit = simp hit refl
    go later false miss = simp miss (ap (λ zs. b ∷ zs) later)

  -- a bucket that gets the payload that it has
  pub put_back : (id : BucketId) (x : T) (xs : List (BucketId × T)) → found id xs ≡ Some x → front id xs ++ (id, x) ∷ drop 1 (rest id xs) ≡ xs
  put_back id x xs e = ap (λ (zs : List (BucketId × T)). front id xs ++ zs) (sym (rest_head id xs x e)) ∙ front_rest id xs

  pub set_same : (id : BucketId) (x : T) (xs : List (BucketId × T)) → found id xs ≡ Some x → with_payload id x xs ≡ xs
  set_same id x xs e = append_assoc (front id xs) ((id, x) ∷ []) (drop 1 (rest id xs)) ∙ put_back id x xs e

  -- a bucket that gets one payload after another
  pub set_twice : (id : BucketId) (x y : T) (xs : List (BucketId × T)) → is_some (found id xs) ≡ true → with_payload id y (with_payload id x xs) ≡ with_payload id y xs
  set_twice id x y [] e = cc
  set_twice id x y (b ∷ bs) e = go (set_twice id x y bs) (same b.0 id) refl where
    go : (is_some (found id bs) ≡ true → with_payload id y (with_payload id x bs) ≡ with_payload id y bs) → (s : Bool) → same b.0 id ≡ s
        → with_payload id y (with_payload id x (b ∷ bs)) ≡ with_payload id y (b ∷ bs)
    go later true hit = simp (hit, same_self id) refl
    go later false miss = simp miss (ap (λ zs. b ∷ zs) (later (rw miss at e)))

  pub found_set : (id : BucketId) (x : T) (xs : List (BucketId × T)) → is_some (found id xs) ≡ true → is_some (found id (with_payload id x xs)) ≡ true
  found_set id x [] e = cc
  found_set id x (b ∷ bs) e = go (found_set id x bs) (same b.0 id) refl where
    go : (is_some (found id bs) ≡ true → is_some (found id (with_payload id x bs)) ≡ true) → (s : Bool) → same b.0 id ≡ s → is_some (found id (with_payload id x (b ∷ bs))) ≡ true
    go later true hit = simp (hit, same_self id) refl
    go later false miss = simp miss (later (rw miss at e))

  -- a bucket that is put behind another leaves that where it is
  pub found_behind : (id : BucketId) (y : BucketId × T) (xs : List (BucketId × T)) → is_some (found id xs) ≡ true → is_some (found id (put_after id y xs)) ≡ true
  found_behind id y [] e = cc
  found_behind id y (b ∷ bs) e = go (found_behind id y bs) (same b.0 id) refl where
    go : (is_some (found id bs) ≡ true → is_some (found id (put_after id y bs)) ≡ true) → (s : Bool) → same b.0 id ≡ s → is_some (found id (put_after id y (b ∷ bs))) ≡ true
    go later true hit = simp hit refl
    go later false miss = simp miss (later (rw miss at e))

  -- a bucket that was put behind another is there
  pub found_put : (id : BucketId) (y : BucketId × T) (xs : List (BucketId × T)) → is_some (found id xs) ≡ true → times y.0 xs ≡ 0 → is_some (found y.0 (put_after id y xs)) ≡ true
  found_put id y [] e none = cc
  found_put id y (b ∷ bs) e none = go (found_put id y bs) (same b.0 id) refl (same b.0 y.0) refl where
    go : (is_some (found id bs) ≡ true → times y.0 bs ≡ 0 → is_some (found y.0 (put_after id y bs)) ≡ true) → (s : Bool) → same b.0 id ≡ s → (t : Bool) → same b.0 y.0 ≡ t
        → is_some (found y.0 (put_after id y (b ∷ bs))) ≡ true
    go later s is true again = let some : suc (times y.0 bs) ≡ 0 = rw again at none in absurd (omega arith)
    go later true hit false other = simp (hit, other, same_self y.0) refl
    go later false miss false other = simp (miss, other) (later (rw miss at e) (rw other at none))

  -- a bucket that was put behind another is taken out again
  pub without_behind : (id : BucketId) (y : BucketId × T) (xs : List (BucketId × T)) → is_some (found id xs) ≡ true → times y.0 xs ≡ 0 → without y.0 (put_after id y xs) ≡ xs
  without_behind id y [] e none = cc
  without_behind id y (b ∷ bs) e none = go (without_behind id y bs) (same b.0 id) refl (same b.0 y.0) refl where
    go : (is_some (found id bs) ≡ true → times y.0 bs ≡ 0 → without y.0 (put_after id y bs) ≡ bs) → (s : Bool) → same b.0 id ≡ s → (t : Bool) → same b.0 y.0 ≡ t
        → without y.0 (put_after id y (b ∷ bs)) ≡ b ∷ bs
    go later s is true again = let some : suc (times y.0 bs) ≡ 0 = rw again at none in absurd (omega arith)
    go later true hit false other = simp (hit, other, same_self y.0) refl
    go later false miss false other = simp (miss, other) (ap (λ zs. b ∷ zs) (later (rw miss at e) (rw other at none)))

  -- the list of a ring that was changed
  pub list_on : (b : ℕ) (f : List (BucketId × T) → List (BucketId × T)) (lists new : ℕ → Option (List (BucketId × T))) → ((n : ℕ) → new n ≡ on b f lists n) → is_some (lists b) ≡ true
      → list_at new b ≡ f (list_at lists b)
  unfolding upd
  list_on b f lists new change there = ap (λ o. option_map_or (λ xs. xs) o []) (change b) ∙ at (lists b) there where
    at : (o : Option (List (BucketId × T))) → is_some o ≡ true → option_map_or (λ xs. xs) (cond (b == b) (option_map f o) (lists b)) [] ≡ f (option_map_or (λ xs. xs) o [])
    at None h = cc
    at (Some xs) h = rw (eq-eqb b b refl) refl

  -- two changes of one ring, one after the other
  pub on_after : (b m : ℕ) (f g h : List (BucketId × T) → List (BucketId × T)) (lists new : ℕ → Option (List (BucketId × T))) → ((n : ℕ) → new n ≡ on b f lists n)
      → g (f (list_at lists b)) ≡ h (list_at lists b) → on b g new m ≡ on b h lists m
  unfolding upd
  on_after b m f g h lists new change same_list = elim (cases_eq m b) [
    | inl e ↦ rw (eq-eqb m b e) (ap (option_map g) (change b ∙ first) ∙ both (lists b) same_list)
    | inr ne ↦ rw (ne_eqb m b ne) (change m ∙ rw (ne_eqb m b ne) refl)
  ] where
    first : cond (b == b) (option_map f (lists b)) (lists b) ≡ option_map f (lists b)
    first = rw (eq-eqb b b refl) refl

    both : (o : Option (List (BucketId × T))) → g (f (option_map_or (λ xs. xs) o [])) ≡ h (option_map_or (λ xs. xs) o []) → option_map g (option_map f o) ≡ option_map h o
    both None e = refl
    both (Some xs) e = ap (λ ys. Some ys) e

  -- a change that changes nothing
  pub on_same : (b m : ℕ) (f : List (BucketId × T) → List (BucketId × T)) (lists : ℕ → Option (List (BucketId × T))) → f (list_at lists b) ≡ list_at lists b → lists m ≡ on b f lists m
  unfolding upd
  on_same b m f lists e = elim (cases_eq m b) [
    | inl here ↦ rw (eq-eqb m b here) (ap lists here ∙ kept (lists b) e)
    | inr ne ↦ rw (ne_eqb m b ne) refl
  ] where
    kept : (o : Option (List (BucketId × T))) → f (option_map_or (λ xs. xs) o []) ≡ option_map_or (λ xs. xs) o [] → o ≡ option_map f o
    kept None e = refl
    kept (Some xs) e = ap (λ ys. Some ys) (sym e)

  -- the same change of the same lists
  pub on_pointwise : (b m : ℕ) (f : List (BucketId × T) → List (BucketId × T)) (lists others : ℕ → Option (List (BucketId × T))) → ((n : ℕ) → lists n ≡ others n) → on b f lists m ≡ on b f others m
  on_pointwise b m f lists others e = let same_lists : lists ≡ others = λ i n. e n i in ap (λ ls. on b f ls m) same_lists

  -- another ring is as it was
  pub list_off : (a b : ℕ) (f : List (BucketId × T) → List (BucketId × T)) (lists : ℕ → Option (List (BucketId × T))) → (a ≡ b → ⊥) → list_at (on b f lists) a ≡ list_at lists a
  unfolding upd
  list_off a b f lists ne = rw (ne_eqb a b ne) refl

  pub there_off : (a b : ℕ) (f : List (BucketId × T) → List (BucketId × T)) (lists : ℕ → Option (List (BucketId × T))) → (a ≡ b → ⊥) → on b f lists a ≡ lists a
  unfolding upd
  there_off a b f lists ne = rw (ne_eqb a b ne) refl

  -- The first bucket goes.

  pub rest_off : (first id : BucketId) (xs : List (BucketId × T)) → first_of xs ≡ Some first → same first id ≡ false → rest id (without first xs) ≡ rest id xs
  rest_off first id [] e other = cc
  rest_off first id (b ∷ bs) e other =
      let here : b.0 ≡ first = cc in
      let hit : same b.0 first ≡ true = ap (λ i. same i first) here ∙ same_self first in
      let miss : same b.0 id ≡ false = ap (λ i. same i id) here ∙ other in
      simp (hit, miss) refl

  pub shorter : (first : BucketId) (xs : List (BucketId × T)) → first_of xs ≡ Some first → length (without first xs) < length xs
  shorter first [] e = cc
  shorter first (b ∷ bs) e =
      let here : b.0 ≡ first = cc in
      let hit : same b.0 first ≡ true = ap (λ i. same i first) here ∙ same_self first in
      simp hit (omega arith)

  pub never_empty : (id : BucketId) (xs : List (BucketId × T)) → is_some (found id xs) ≡ true → ((x : BucketId) → first_of xs ≡ Some x → ⊥) → ⊥
  never_empty id [] e none = cc
  never_empty id (b ∷ bs) e none = none b.0 refl

  -- Behind others.

  pub rest_append : (id : BucketId) (xs ys : List (BucketId × T)) → times id xs ≡ 0 → rest id (xs ++ ys) ≡ rest id ys
  rest_append id [] ys none = refl
  rest_append id (b ∷ bs) ys none = go (rest_append id bs ys) (same b.0 id) refl where
    go : (times id bs ≡ 0 → rest id (bs ++ ys) ≡ rest id ys) → (s : Bool) → same b.0 id ≡ s → rest id ((b ∷ bs) ++ ys) ≡ rest id ys
    go later true hit = let some : suc (times id bs) ≡ 0 = rw hit at none in absurd (omega arith)
    go later false miss = rw miss (later (rw miss at none))

  pub rest_again : (id : BucketId) (xs : List (BucketId × T)) → rest id (rest id xs) ≡ rest id xs
  rest_again id [] = refl
  rest_again id (b ∷ bs) = go (rest_again id bs) (same b.0 id) refl where
    go : rest id (rest id bs) ≡ rest id bs → (s : Bool) → same b.0 id ≡ s → rest id (rest id (b ∷ bs)) ≡ rest id (b ∷ bs)
    go later true hit = simp hit refl
    go later false miss = simp miss later

  -- A ring is split at a place that is none.
  pub none_place : (a b n : ℕ) (lists : ℕ → Option (List (BucketId × T))) (stays : Option BucketId → List (BucketId × T) → List (BucketId × T))
      (goes : Option BucketId → List (BucketId × T) → List (BucketId × T)) (place : Option BucketId)
      → ((id : BucketId) → place ≡ Some id → ⊥) → ((xs : List (BucketId × T)) → stays None xs ≡ xs) → ((xs : List (BucketId × T)) → goes None xs ≡ [])
      → on a (λ xs. []) lists n ≡ on a (λ xs. goes place (list_at lists b)) (on b (stays place) lists) n
  none_place a b n lists stays goes None never all none =
      on_pointwise a n (λ xs. []) lists (on b (stays None) lists) (λ m. on_same b m (stays None) lists (all (list_at lists b)))
      ∙ ap (λ (ys : List (BucketId × T)). on a (λ xs. ys) (on b (stays None) lists) n) (sym (none (list_at lists b)))
  none_place a b n lists stays goes (Some id) never all none = absurd (never id refl)

-- what is told of the ring that a bucket is in
pub and_then_told : {X : Type 0} (o : Option ℕ) (f : ℕ → Option X) (b : ℕ) (x : X) → o ≡ Some b → option_and_then f o ≡ Some x → f b ≡ Some x
and_then_told None f b x at e = cc
and_then_told (Some c) f b x at e = let c_is : c ≡ b = cc in subst (λ (d : ℕ). f d ≡ Some x) c_is e

pub some_of : (o : Option ℕ) → is_some o ≡ true → (b : ℕ) × (o ≡ Some b)
some_of None h = absurd (cc)
some_of (Some b) h = (b, refl)

pub not_some : {X : Type 0} (o : Option X) → (is_some o ≡ true → ⊥) → o ≡ None
not_some None never = refl
not_some (Some x) never = absurd (never refl)

-- a bucket that is in no ring stands in none
pub none_of : (r : ℕ) (o : Option ℕ) → (is_some o ≡ true → ⊥) → once_in r o ≡ 0
none_of r None never = refl
none_of r (Some q) never = absurd (never refl)

pub still_in : (o p : Option ℕ) → is_some o ≡ true → ((b : ℕ) → o ≡ Some b → p ≡ Some b) → is_some p ≡ true
still_in None p h still = cc
still_in (Some b) p h still = ap is_some (still b refl)
