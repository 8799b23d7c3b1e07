-- Brigades whose buckets are cut or read: each bucket keeps its name, its class and a home that is covered, and a rest of the same
-- class may stand behind it under a new name.
use Rattle.std.proofs.Common.{◌≡◌, ◌≢◌, ◌⊎◌, ℕ, Bool, true, false, ◌&&◌, ◌||◌, ◌==◌, cond, List, [], ◌∷◌, Some, inl, inr, refl, sym, ◌∙◌, ap, subst, ne_eqb}
use Rattle.run_model.specs.declared.bucket.NamedBucket.{NamedBucket}
use Rattle.run_model.specs.declared.bucket.Home.{Home}
use Rattle.run_model.specs.Buckets.{is_data, is_eos, has_data, has_eos, data_after_eos}
use Rattle.run_model.specs.BrigadeLists.{buckets_from, first_bucket, bucket_named}
use Rattle.life_state.specs.declared.parts.Contents.{Contents}
use Rattle.life_state.specs.declared.parts.Contents.TheVariants.{Empty, Flushes, NoEos, NoLateData, Any}
use Rattle.life_state.specs.declared.parts.Classes.{Classes}
use Rattle.life_state.specs.States.{Homes}
use Rattle.life_check.specs.Meaning.{class_has, HoldsOfEach, HoldsContents}

-- Looking for a bucket by its name.
here : (n : ℕ) (y : NamedBucket) (ys : List NamedBucket) → (y.name == n) ≡ true → bucket_named n (y ∷ ys) ≡ Some y
unfolding buckets_from
here n y ys h = ap (λ t. first_bucket (cond t (y ∷ ys) (buckets_from n ys))) h

later : (n : ℕ) (y : NamedBucket) (ys : List NamedBucket) → (y.name == n) ≡ false → bucket_named n (y ∷ ys) ≡ bucket_named n ys
unfolding buckets_from
later n y ys h = ap (λ t. first_bucket (cond t (y ∷ ys) (buckets_from n ys))) h

none_there : (n : ℕ) (w : NamedBucket) → bucket_named n [] ≡ Some w → ⊥
unfolding buckets_from
none_there n w is = absurd (cc)

named_cases : (n : ℕ) (x w : NamedBucket) (xs : List NamedBucket) → bucket_named n (x ∷ xs) ≡ Some w
    → (((x.name == n) ≡ true) × (x ≡ w)) ⊎ (((x.name == n) ≡ false) × (bucket_named n xs ≡ Some w))
unfolding buckets_from
named_cases n x w xs is = by_name (x.name == n) refl is where
  by_name : (t : Bool) → (x.name == n) ≡ t → first_bucket (cond t (x ∷ xs) (buckets_from n xs)) ≡ Some w
      → (((x.name == n) ≡ true) × (x ≡ w)) ⊎ (((x.name == n) ≡ false) × (bucket_named n xs ≡ Some w))
  by_name true tells is = inl (tells, cc)
  by_name false tells is = inr (tells, is)

module _ (C : Homes → Home → Type 0) where
  -- y stands for x: of the same class, with a home that is covered where that of x is
  pub record Like (y x : NamedBucket) : Type 0 where
    pub bytes : is_data y ≡ is_data x
    pub ends : is_eos y ≡ is_eos x
    pub classed : (t : Classes) → class_has t x.bucket.kind ≡ true → class_has t y.bucket.kind ≡ true
    pub covered : (h : Homes) → C h x.bucket.home → C h y.bucket.home

  -- y and z are the parts of x, the second under this name
  pub record AreParts (new : ℕ) (y z x : NamedBucket) : Type 0 where
    pub name : y.name ≡ x.name
    pub fresh : z.name ≡ new
    pub bytes : is_data x ≡ true
    pub middle : is_eos x ≡ false
    pub first : Like y x
    pub rest : Like z x

  -- the first list has the buckets of the second, of which some have a rest of this name behind them
  unfoldable pub Finer : ℕ → List NamedBucket → List NamedBucket → Type 0
  Finer new ys [] = ys ≡ []
  Finer new [] (x ∷ xs) = ⊥
  Finer new (y ∷ ys) (x ∷ xs) = ((y.name ≡ x.name) × Like y x × Finer new ys xs) ⊎ ((z : NamedBucket) × (zs : List NamedBucket) × (ys ≡ z ∷ zs) × AreParts new y z x × Finer new zs xs)

  pub like_itself : (x : NamedBucket) → Like x x
  like_itself x = record { bytes = refl; ends = refl; classed = λ t h. h; covered = λ h c. c }

  pub finer_same : (new : ℕ) (xs : List NamedBucket) → Finer new xs xs
  unfolding Finer
  finer_same new [] = refl
  finer_same new (x ∷ xs) = inl (refl, like_itself x, finer_same new xs)

  -- What is asked of the classes of a list is the same of the finer one.
  finer_data : (new : ℕ) (ys xs : List NamedBucket) → Finer new ys xs → has_data ys ≡ has_data xs
  unfolding Finer
  finer_data new ys [] f = ap has_data f
  finer_data new [] (x ∷ xs) f = absurd f
  finer_data new (y ∷ ys) (x ∷ xs) f = elim f [
    | inl t ↦ ap (λ b. b || has_data ys) t.1.bytes ∙ ap (λ b. is_data x || b) (finer_data new ys xs t.2)
    | inr t ↦ ap (λ b. b || has_data ys) (t.3.first.bytes ∙ t.3.bytes) ∙ sym (ap (λ b. b || has_data xs) t.3.bytes)
  ]

  finer_eos : (new : ℕ) (ys xs : List NamedBucket) → Finer new ys xs → has_eos ys ≡ has_eos xs
  unfolding Finer
  finer_eos new ys [] f = ap has_eos f
  finer_eos new [] (x ∷ xs) f = absurd f
  finer_eos new (y ∷ ys) (x ∷ xs) f = elim f [
    | inl t ↦ ap (λ b. b || has_eos ys) t.1.ends ∙ ap (λ b. is_eos x || b) (finer_eos new ys xs t.2)
    | inr t ↦ ap (λ b. b || has_eos ys) (t.3.first.ends ∙ t.3.middle) ∙ ap has_eos t.2 ∙ ap (λ b. b || has_eos t.1) (t.3.rest.ends ∙ t.3.middle) ∙ finer_eos new t.1 xs t.4
        ∙ sym (ap (λ b. b || has_eos xs) t.3.middle)
  ]

  finer_late : (new : ℕ) (ys xs : List NamedBucket) → Finer new ys xs → data_after_eos ys ≡ data_after_eos xs
  unfolding Finer
  finer_late new ys [] f = ap data_after_eos f
  finer_late new [] (x ∷ xs) f = absurd f
  finer_late new (y ∷ ys) (x ∷ xs) f = elim f [
    | inl t ↦ ap (λ b. (b && has_data ys) || data_after_eos ys) t.1.ends ∙ ap (λ b. (is_eos x && b) || data_after_eos ys) (finer_data new ys xs t.2)
        ∙ ap (λ b. (is_eos x && has_data xs) || b) (finer_late new ys xs t.2)
    | inr t ↦ ap (λ b. (b && has_data ys) || data_after_eos ys) (t.3.first.ends ∙ t.3.middle) ∙ ap data_after_eos t.2 ∙ ap (λ b. (b && has_data t.1) || data_after_eos t.1) (t.3.rest.ends ∙ t.3.middle)
        ∙ finer_late new t.1 xs t.4 ∙ sym (ap (λ b. (b && has_data xs) || data_after_eos xs) t.3.middle)
  ]

  no_longer : (new : ℕ) (ys xs : List NamedBucket) → Finer new ys xs → xs ≡ [] → ys ≡ []
  unfolding Finer
  no_longer new ys [] f is = f
  no_longer new ys (x ∷ xs) f is = absurd (cc)

  pub finer_holds : (new : ℕ) (ys xs : List NamedBucket) (k : Contents) → Finer new ys xs → HoldsContents k xs → HoldsContents k ys
  finer_holds new ys xs Empty f h = no_longer new ys xs f h
  finer_holds new ys xs Flushes f h = (finer_data new ys xs f ∙ h.0, finer_eos new ys xs f ∙ h.1)
  finer_holds new ys xs NoEos f h = finer_eos new ys xs f ∙ h
  finer_holds new ys xs NoLateData f h = finer_late new ys xs f ∙ h
  finer_holds new ys xs Any f h = h

  pub finer_covered : (new : ℕ) (ys xs : List NamedBucket) (h : Homes) → Finer new ys xs → HoldsOfEach (λ x. C h x.bucket.home) xs → HoldsOfEach (λ x. C h x.bucket.home) ys
  unfolding HoldsOfEach Finer
  finer_covered new ys [] h f e = subst (λ zs. HoldsOfEach (λ x. C h x.bucket.home) zs) (sym f) e
  finer_covered new [] (x ∷ xs) h f e = absurd f
  finer_covered new (y ∷ ys) (x ∷ xs) h f e = elim f [
    | inl t ↦ (t.1.covered h e.0, finer_covered new ys xs h t.2 e.1)
    | inr t ↦ (t.3.first.covered h e.0, subst (λ zs. HoldsOfEach (λ x. C h x.bucket.home) zs) (sym t.2) (t.3.rest.covered h e.0, finer_covered new t.1 xs h t.4 e.1))
  ]

  -- A bucket is found under its name as before.
  pub record FoundLike (n : ℕ) (x : NamedBucket) (ys : List NamedBucket) : Type 0 where
    pub bucket : NamedBucket
    pub there : bucket_named n ys ≡ Some bucket
    pub name : bucket.name ≡ x.name
    pub like : Like bucket x

  turned_found : (n : ℕ) (w y : NamedBucket) (ys : List NamedBucket) → FoundLike n w ys → (y.name == n) ≡ false → FoundLike n w (y ∷ ys)
  turned_found n w y ys f other = record { bucket = f.bucket; there = later n y ys other ∙ f.there; name = f.name; like = f.like }

  pub finer_found : (new n : ℕ) (w : NamedBucket) (ys xs : List NamedBucket) → Finer new ys xs → new ≢ n → bucket_named n xs ≡ Some w → FoundLike n w ys
  unfolding Finer
  finer_found new n w ys [] f ne is = absurd (none_there n w is)
  finer_found new n w [] (x ∷ xs) f ne is = absurd f
  finer_found new n w (y ∷ ys) (x ∷ xs) f ne is = elim f [
    | inl t ↦ first_or t.0 t.1 (λ still. finer_found new n w ys xs t.2 ne still) (named_cases n x w xs is)
    | inr t ↦ first_or t.3.name t.3.first (λ still. subst (λ zs. FoundLike n w zs) (sym t.2)
        (turned_found n w t.0 t.1 (finer_found new n w t.1 xs t.4 ne still) (ap (λ m. m == n) t.3.fresh ∙ ne_eqb new n ne))) (named_cases n x w xs is)
  ] where
    first_or : y.name ≡ x.name → Like y x → (bucket_named n xs ≡ Some w → FoundLike n w ys)
        → (((x.name == n) ≡ true) × (x ≡ w)) ⊎ (((x.name == n) ≡ false) × (bucket_named n xs ≡ Some w)) → FoundLike n w (y ∷ ys)
    first_or same l rest (inl h) = record { bucket = y; there = here n y ys (ap (λ m. m == n) same ∙ h.0); name = same ∙ ap (λ b. b.name) h.1; like = subst (λ b. Like y b) h.1 l }
    first_or same l rest (inr h) = turned_found n w y ys (rest h.1) (ap (λ m. m == n) same ∙ h.0)
