-- Where names are single, what a cursor names is in one place.
use Rattle.std.proofs.Common.{◌≡◌, ◌≢◌, ℕ, zero, suc, ◌+◌, ◌<◌, ◌≤◌, Bool, true, false, ◌||◌, ◌==◌, cond, List, [], ◌∷◌, Option, Some, None, inl, inr, refl, sym, ◌∙◌, ap, subst, arith, eq-eqb}
use Rattle.std.proofs.lemmas.Bool.{cases_lt, or_parts}
use Rattle.run_model.specs.declared.bucket.NamedBucket.{NamedBucket}
use Rattle.run_model.specs.declared.bucket.BrigadeVar.{BrigadeVar}
use Rattle.run_model.specs.declared.bucket.BrigadeVar.TheVariants as var
use Rattle.run_model.specs.declared.bucket.Cursor.TheVariants as cursor
use Rattle.run_model.specs.BrigadeLists.{buckets_from, first_bucket, bucket_named, is_there}
use Rattle.run_model.specs.State.{Configuration, items_of, is_named}
use Rattle.run_model.specs.Cursors.{found_below, holder_of, variable_of, place_of_loose, place_in_brigade, place_of_bucket, place_of_end, place_of_cursor}
use Rattle.run_model.specs.BucketSteps.{items_at}
use Rattle.run_model.specs.Sound.{SoundNames, brigade_name, sum_below, count_named, count}
use Rattle.model_laws.specs.CursorLaws.{LooseOnce, WithinOnce, BucketOnce, BrigadeOnce, CursorsStandOnce}
use Rattle.run_model.proofs.Names.{count_none, count_cons}
use Rattle.run_model.proofs.CursorPlaces.{found_tells, named_is, named_in}
use Rattle.run_model.proofs.Sums.{term_below, two_below, all_none}
use Rattle.model_laws.proofs.CursorNames.{found_there}

-- What is not found below a number is not there.
none_found : (n : ℕ) (p : ℕ → Bool) → found_below n p ≡ None → (k : ℕ) → k < n → p k ≡ false
unfolding found_below
none_found zero p is k lt = absurd (omega arith)
none_found (suc n) p is k lt = by_test (p n) refl (none_found n p) is where
  by_test : (c : Bool) → p n ≡ c → (found_below n p ≡ None → (k : ℕ) → k < n → p k ≡ false) → cond c (Some n) (found_below n p) ≡ None → p k ≡ false
  by_test true tells rest is = absurd (cc)
  by_test false tells rest is = elim (cases_lt k n) [ inl less ↦ rest is k less | inr le ↦ (let same : k ≡ n = omega arith in ap p same ∙ tells) ]

absent : (n : ℕ) (bs : List NamedBucket) → is_there n bs ≡ false → count_named n bs ≡ 0
absent n [] is = count_none n
absent n (b ∷ bs) is =
    let parts = or_parts (b.name == n) (is_there n bs) is in
    let other : ◌≡◌ {A = ℕ} (cond (b.name == n) 1 0) 0 = ap (λ (c : Bool). cond c 1 0) parts.0 in
    omega (arith, other, count_cons n b bs, absent n bs parts.1)

unnamed : (n : ℕ) (bs : List NamedBucket) → bucket_named n bs ≡ None → count_named n bs ≡ 0
unfolding buckets_from
unnamed n [] is = count_none n
unnamed n (b ∷ bs) is = sum (b.name == n) (unnamed n bs) is (sym (count_cons n b bs)) where
  sum : (c : Bool) → (bucket_named n bs ≡ None → count_named n bs ≡ 0) → first_bucket (cond c (b ∷ bs) (buckets_from n bs)) ≡ None → cond c 1 0 + count_named n bs ≡ count_named n (b ∷ bs)
      → count_named n (b ∷ bs) ≡ 0
  sum true rest is all = absurd (cc)
  sum false rest is all = omega (arith, rest is, all)

there_named : (n : ℕ) (bs : List NamedBucket) → is_there n bs ≡ true → bucket_named n bs ≡ None → ⊥
unfolding buckets_from
there_named n [] is none = absurd (cc)
there_named n (b ∷ bs) is none = by_name (b.name == n) (there_named n bs) is none where
  by_name : (c : Bool) → (is_there n bs ≡ true → bucket_named n bs ≡ None → ⊥) → (c || is_there n bs) ≡ true → first_bucket (cond c (b ∷ bs) (buckets_from n bs)) ≡ None → ⊥
  by_name true rest is none = absurd (cc)
  by_name false rest is none = rest is none

-- no variable beyond the nine has a bucket
none_beyond : (r : Configuration) (n k : ℕ) → SoundNames r → 9 ≤ k → count_named n (items_at r k) ≡ 0
none_beyond r n k s le = ap (λ (v : BrigadeVar). count_named n (items_of v)) (s.slots k le) ∙ count_none n

-- Loose buckets.

loose_once : (r : Configuration) (n : ℕ) (x : NamedBucket) → SoundNames r → bucket_named n r.call.loose ≡ Some x → LooseOnce r n x
loose_once r n x s is = record {
  name = named_is n r.call.loose x is;
  there = is;
  once = (let one : count r n ≤ 1 = s.once n in omega (arith, here));
  brigades = λ k. elim (cases_lt k 9) [
    | inl lt ↦ (let one : count r n ≤ 1 = s.once n in let term : count_named n (items_at r k) ≤ sum_below 9 (λ j. count_named n (items_at r j)) =
        term_below 9 k (λ j. count_named n (items_at r j)) lt in omega (arith, here))
    | inr le ↦ none_beyond r n k s le
  ];
} where
  here : 1 ≤ count_named n r.call.loose
  here = subst (λ (m : ℕ). 1 ≤ count_named m r.call.loose) (named_is n r.call.loose x is) (found_there n x r.call.loose is)

within_once : (r : Configuration) (n b : ℕ) (x : NamedBucket) → SoundNames r → b < 9 → bucket_named n (items_at r b) ≡ Some x → WithinOnce r n b x
within_once r n b x s lt is = record {
  name = named_is n (items_at r b) x is;
  there = is;
  once = (let one : count r n ≤ 1 = s.once n in omega (arith, here, term));
  others = λ k ne. elim (cases_lt k 9) [
    | inl below ↦ (let one : count r n ≤ 1 = s.once n in
        let two : count_named n (items_at r b) + count_named n (items_at r k) ≤ sum_below 9 (λ j. count_named n (items_at r j)) =
        two_below 9 b k (λ j. count_named n (items_at r j)) lt below (λ e. ne (sym e)) in
        omega (arith, here))
    | inr le ↦ none_beyond r n k s le
  ];
  loose = (let one : count r n ≤ 1 = s.once n in omega (arith, here, term));
} where
  here : 1 ≤ count_named n (items_at r b)
  here = subst (λ (m : ℕ). 1 ≤ count_named m (items_at r b)) (named_is n (items_at r b) x is) (found_there n x (items_at r b) is)

  term : count_named n (items_at r b) ≤ sum_below 9 (λ j. count_named n (items_at r j))
  term = term_below 9 b (λ j. count_named n (items_at r j)) lt

not_named : (v : BrigadeVar) (n : ℕ) → is_named (brigade_name v) n ≡ false → brigade_name v ≢ Some n
not_named var.Null n is e = absurd (cc)
not_named var.Gone n is e = absurd (cc)
not_named (var.Live v) n is e = (let same : v.name ≡ n = cc in let yes : (n == v.name) ≡ true = eq-eqb n v.name (sym same) in absurd (cc))

pub cursors_stand_once : CursorsStandOnce
unfolding place_of_cursor holder_of variable_of
cursors_stand_once r cursor.Unset s = refl
cursors_stand_once r (cursor.At n) s = of_holder (holder_of r n) refl where
  of_loose : (o : Option NamedBucket) → ((k : ℕ) → k < 9 → is_there n (items_at r k) ≡ false) → bucket_named n r.call.loose ≡ o → BucketOnce r n (place_of_loose o)
  of_loose None nowhere is =
      let brigades : sum_below 9 (λ k. count_named n (items_at r k)) ≡ 0 = all_none 9 (λ k. count_named n (items_at r k)) (λ k lt. absent n (items_at r k) (nowhere k lt)) in
      omega (arith, brigades, unnamed n r.call.loose is)
  of_loose (Some x) nowhere is = loose_once r n x s is

  of_items : (b : ℕ) (o : Option NamedBucket) → b < 9 → is_there n (items_at r b) ≡ true → bucket_named n (items_at r b) ≡ o → BucketOnce r n (place_in_brigade b o)
  of_items b None lt there is = absurd (there_named n (items_at r b) there is)
  of_items b (Some x) lt there is = within_once r n b x s lt is

  of_holder : (o : Option ℕ) → holder_of r n ≡ o → BucketOnce r n (place_of_bucket r n o)
  of_holder None is = of_loose (bucket_named n r.call.loose) (none_found 9 (λ k. is_there n (items_at r k)) is) refl
  of_holder (Some b) is = (let found = found_tells 9 (λ k. is_there n (items_at r k)) b is in of_items b (bucket_named n (items_at r b)) found.0 found.1 refl)
cursors_stand_once r (cursor.End n) s = of_variable (variable_of r n) refl where
  beyond : (k : ℕ) → 9 ≤ k → brigade_name (r.instance.brigades k) ≢ Some n
  beyond k le e = (let none : None ≡ Some n = sym (ap brigade_name (s.slots k le)) ∙ e in absurd (cc))

  of_variable : (o : Option ℕ) → variable_of r n ≡ o → BrigadeOnce r n (place_of_end o)
  of_variable None is = λ k e. elim (cases_lt k 9) [
    | inl lt ↦ not_named (r.instance.brigades k) n (none_found 9 (λ j. is_named (brigade_name (r.instance.brigades j)) n) is k lt) e
    | inr le ↦ beyond k le e
  ]
  of_variable (Some b) is =
      let found = found_tells 9 (λ j. is_named (brigade_name (r.instance.brigades j)) n) b is in
      record { there = named_in (r.instance.brigades b) n found.1; others = λ k e. s.apart k b n e (named_in (r.instance.brigades b) n found.1) }
