-- Where cursors stand, which of them are at different buckets, and that they stay where their buckets do.
use Rattle.std.proofs.Common.{◌≡◌, ◌≢◌, ℕ, ◌+◌, ◌<◌, ◌≤◌, Bool, true, false, ◌&&◌, ◌||◌, not, ◌==◌, cond, List, Some, None, ◌⊎◌, inl, inr, refl, sym, ◌∙◌, ap, subst, arith, eq-eqb}
use Rattle.std.proofs.lemmas.Bool.{cases_lt, cases_eq, and_parts}
use Rattle.std.proofs.lemmas.Bool.Decides.{eqb_tells}
use Rattle.run_model.specs.declared.bucket.NamedBucket.{NamedBucket}
use Rattle.run_model.specs.declared.bucket.Home.{Home}
use Rattle.run_model.specs.declared.bucket.Cursor.{Cursor}
use Rattle.run_model.specs.declared.bucket.Cursor.TheVariants as cursor
use Rattle.run_model.specs.Indexed.{upd}
use Rattle.run_model.specs.BrigadeLists.{bucket_named}
use Rattle.run_model.specs.BucketSteps.{items_at}
use Rattle.run_model.specs.Cursors.{CursorPlace, Nowhere, AtLoose, Within, AtEndOf, place_of_cursor}
use Rattle.model_laws.specs.CursorLaws.{LooseOnce, WithinOnce, BucketOnce}
use Rattle.run_model.specs.Faults.{usable_fault}
use Rattle.run_model.specs.Sound.{SoundNames, brigade_name, count_named, count}
use Rattle.run_model.specs.State.{Configuration}
use Rattle.run_model.proofs.Updates.{upd_at, upd_off}
use Rattle.run_model.proofs.CursorPlaces.{named_is}
use Rattle.model_laws.proofs.CursorSteps.{stands_behind}
use Rattle.model_laws.proofs.CursorNames.{in_brigade, found_there}
use Rattle.model_laws.proofs.CursorPlaceLaws.{cursors_stand_once}
use Rattle.life_state.specs.declared.parts.Classes.{Classes}
use Rattle.life_state.specs.States.{Homes, CursorKnown, Unset, Loose, In, End, InOrEnd, State}
use Rattle.life_state.specs.Facts.{is_set, is_end, place_of, is_apart, known, facts_of, known_but, forgotten}
use Rattle.life_state.proofs.Tests.{or_either}
use Rattle.life_check.specs.Meaning.{class_has, IsAtLoose, IsAtBucketOf, IsEndOf, FitsCursor, Differ, Fits}

-- Two functions of an index that are both written at one, and one of them.

pub upd_both : {X Y : Type 0} (P : X → Y → Type 0) (f : ℕ → X) (g : ℕ → Y) (i : ℕ) (v : X) (w : Y) → P v w → ((k : ℕ) → k ≢ i → P (f k) (g k)) → (k : ℕ) → P (upd f i v k) (upd g i w k)
upd_both P f g i v w here there k = elim (cases_eq k i) [
  | inl same ↦ subst (λ (j : ℕ). P (upd f i v j) (upd g i w j)) (sym same) (subst (λ x. P x (upd g i w i)) (sym (upd_at f i v)) (subst (λ y. P v y) (sym (upd_at g i w)) here))
  | inr differ ↦ subst (λ x. P x (upd g i w k)) (sym (upd_off f i k v differ)) (subst (λ y. P (f k) y) (sym (upd_off g i k w differ)) (there k differ))
]

pub upd_first : {X Y : Type 0} (P : X → Y → Type 0) (f : ℕ → X) (g : ℕ → Y) (i : ℕ) (v : X) → P v (g i) → ((k : ℕ) → k ≢ i → P (f k) (g k)) → (k : ℕ) → P (upd f i v k) (g k)
upd_first P f g i v here there k = elim (cases_eq k i) [
  | inl same ↦ subst (λ (j : ℕ). P (upd f i v j) (g j)) (sym same) (subst (λ x. P x (g i)) (sym (upd_at f i v)) here)
  | inr differ ↦ subst (λ x. P x (g k)) (sym (upd_off f i k v differ)) (there k differ)
]

-- one of them, where what it says depends on the index
pub upd_second : {Y : Type 0} (P : ℕ → Y → Type 0) (g : ℕ → Y) (i : ℕ) (w : Y) → P i w → ((k : ℕ) → k ≢ i → P k (g k)) → (k : ℕ) → P k (upd g i w k)
upd_second P g i w here there k = elim (cases_eq k i) [
  | inl same ↦ subst (λ (j : ℕ). P j (upd g i w j)) (sym same) (subst (λ y. P i y) (sym (upd_at g i w)) here)
  | inr differ ↦ subst (λ y. P k y) (sym (upd_off g i k w differ)) (there k differ)
]

-- From what is there to where a cursor stands.

-- a brigade that may be used is in one of nine variables
pub usable_below : (r : Configuration) (b : ℕ) → SoundNames r → usable_fault (r.instance.brigades b) ≡ None → b < 9
usable_below r b s usable = elim (cases_lt b 9) [
  | inl lt ↦ lt
  | inr le ↦ absurd (let fault = sym (ap usable_fault (s.slots b le)) ∙ usable in cc)
]

-- there is a bucket of the name of one that is found
there : (n : ℕ) (x : NamedBucket) (xs : List NamedBucket) → bucket_named n xs ≡ Some x → 1 ≤ count_named n xs
there n x xs is = subst (λ (k : ℕ). 1 ≤ count_named k xs) (named_is n xs x is) (found_there n x xs is)

some_is : (x y : NamedBucket) → Some x ≡ Some y → x ≡ y
some_is x y e = cc

pub within_at : (r : Configuration) (n b : ℕ) (x : NamedBucket) → SoundNames r → bucket_named n (items_at r b) ≡ Some x → place_of_cursor r (cursor.At n) ≡ Within b x
within_at r n b x s is = of_place (place_of_cursor r (cursor.At n)) (cursors_stand_once r (cursor.At n) s) where
  one : 1 ≤ count_named n (items_at r b)
  one = there n x (items_at r b) is

  same : (k : ℕ) → (b ≢ k → count_named n (items_at r b) ≡ 0) → k ≡ b
  same k others = elim (cases_eq b k) [ inl e ↦ sym e | inr ne ↦ absurd (omega (arith, others ne, one)) ]

  of_place : (at : CursorPlace) → BucketOnce r n at → at ≡ Within b x
  of_place Nowhere none = absurd (omega (arith, none, in_brigade b n r s, one))
  of_place (AtLoose y) once = absurd (omega (arith, once.brigades b, one))
  of_place (Within k y) once =
      let place : k ≡ b = same k (once.others b) in
      ap (λ (j : ℕ). Within j y) place ∙ ap (Within b) (some_is y x (sym once.there ∙ (ap (λ (j : ℕ). bucket_named n (items_at r j)) place ∙ is)))
  of_place (AtEndOf k) once = absurd once

pub loose_at : (r : Configuration) (n : ℕ) (x : NamedBucket) → SoundNames r → bucket_named n r.call.loose ≡ Some x → place_of_cursor r (cursor.At n) ≡ AtLoose x
loose_at r n x s is = of_place (place_of_cursor r (cursor.At n)) (cursors_stand_once r (cursor.At n) s) where
  one : 1 ≤ count_named n r.call.loose
  one = there n x r.call.loose is

  of_place : (at : CursorPlace) → BucketOnce r n at → at ≡ AtLoose x
  of_place Nowhere none = absurd (omega (arith, none, one))
  of_place (AtLoose y) once = ap AtLoose (some_is y x (sym once.there ∙ is))
  of_place (Within k y) once = absurd (omega (arith, once.loose, one))
  of_place (AtEndOf k) once = absurd once

pub cursor_loose : (C : Homes → Home → Type 0) (r : Configuration) (v : Cursor) (t : Classes) (h : Homes) → SoundNames r → (i : IsAtLoose C r v t h) → place_of_cursor r v ≡ AtLoose i.bucket
cursor_loose C r v t h s i = ap (place_of_cursor r) i.at ∙ loose_at r i.bucket.name i.bucket s i.there

pub cursor_in : (r : Configuration) (v : Cursor) (b : ℕ) (t : Classes) → SoundNames r → (i : IsAtBucketOf r v b t) → place_of_cursor r v ≡ Within b i.bucket
cursor_in r v b t s i = ap (place_of_cursor r) i.at ∙ within_at r i.bucket.name b i.bucket s i.there

pub cursor_at_end : (r : Configuration) (v : Cursor) (b : ℕ) → SoundNames r → IsEndOf r v b → place_of_cursor r v ≡ AtEndOf b
cursor_at_end r v b s i = ap (place_of_cursor r) i.at ∙ stands_behind b i.called r s i.there

-- it is in that list alone
pub once_in : (r : Configuration) (v : Cursor) (b : ℕ) (t : Classes) → SoundNames r → (i : IsAtBucketOf r v b t) → WithinOnce r i.bucket.name b i.bucket
once_in r v b t s i = subst (BucketOnce r i.bucket.name) (within_at r i.bucket.name b i.bucket s i.there) (cursors_stand_once r (cursor.At i.bucket.name) s)

pub once_loose : (C : Homes → Home → Type 0) (r : Configuration) (v : Cursor) (t : Classes) (h : Homes) → SoundNames r → (i : IsAtLoose C r v t h) → LooseOnce r i.bucket.name i.bucket
once_loose C r v t h s i = subst (BucketOnce r i.bucket.name) (loose_at r i.bucket.name i.bucket s i.there) (cursors_stand_once r (cursor.At i.bucket.name) s)

-- Cursors at different buckets.

-- the bucket of this name stands at a place: 0 where it is loose, 1 and more in a brigade
data BucketAt (r : Configuration) (n place : ℕ) : Type 0 where
  LooseThere : (x : NamedBucket) → bucket_named n r.call.loose ≡ Some x → place ≡ 0 → BucketAt r n place
  WithinThere : (b : ℕ) (x : NamedBucket) → bucket_named n (items_at r b) ≡ Some x → place ≡ b + 1 → BucketAt r n place

one_place : (r : Configuration) (n i j : ℕ) → SoundNames r → BucketAt r n i → BucketAt r n j → i ≡ j
one_place r n i j s (LooseThere x is here) (LooseThere y too there) = here ∙ sym there
one_place r n i j s (LooseThere x is here) (WithinThere b y too there) = absurd (let both = sym (loose_at r n x s is) ∙ within_at r n b y s too in cc)
one_place r n i j s (WithinThere a x is here) (LooseThere y too there) = absurd (let both = sym (within_at r n a x s is) ∙ loose_at r n y s too in cc)
one_place r n i j s (WithinThere a x is here) (WithinThere b y too there) =
    (let both = sym (within_at r n a x s is) ∙ within_at r n b y s too in let same : a ≡ b = cc in here ∙ (ap (λ (k : ℕ). k + 1) same ∙ sym there))

name_is : (m n : ℕ) (v : Cursor) → v ≡ cursor.At m → v ≡ cursor.At n → m ≡ n
name_is m n v is too = (let both = sym is ∙ too in cc)

in_placed : (r : Configuration) (v : Cursor) (b n : ℕ) (t : Classes) → v ≡ cursor.At n → IsAtBucketOf r v b t → BucketAt r n (b + 1)
in_placed r v b n t at i = WithinThere b i.bucket (ap (λ (k : ℕ). bucket_named k (items_at r b)) (sym (name_is i.bucket.name n v i.at at)) ∙ i.there) refl

not_end : (r : Configuration) (v : Cursor) (b n : ℕ) → v ≡ cursor.At n → IsEndOf r v b → ⊥
not_end r v b n at i = (let both = sym at ∙ i.at in cc)

module _ (C : Homes → Home → Type 0) (r : Configuration) where
  placed : (k : CursorKnown) (v : Cursor) (n : ℕ) → v ≡ cursor.At n → is_set k ≡ true → FitsCursor C r k v → BucketAt r n (place_of k)
  placed Unset v n at set f = absurd (cc)
  placed (Loose t h) v n at set f = LooseThere f.bucket (ap (λ (k : ℕ). bucket_named k r.call.loose) (sym (name_is f.bucket.name n v f.at at)) ∙ f.there) refl
  placed (In b t) v n at set f = in_placed r v b n t at f
  placed (End b) v n at set f = absurd (not_end r v b n at f)
  placed (InOrEnd b t) v n at set f = elim f [ inl i ↦ in_placed r v b n t at i | inr e ↦ absurd (not_end r v b n at e) ]

  -- a cursor that is set is at a bucket that is there
  pub set_there : SoundNames r → (k : CursorKnown) (v : Cursor) (n : ℕ) → v ≡ cursor.At n → is_set k ≡ true → FitsCursor C r k v → 1 ≤ count r n
  set_there s k v n at set f = by_place (placed k v n at set f) where
    by_place : BucketAt r n (place_of k) → 1 ≤ count r n
    by_place (LooseThere x is here) = omega (arith, there n x r.call.loose is)
    by_place (WithinThere b x is here) = omega (arith, there n x (items_at r b) is, in_brigade b n r s)

  ends_nowhere : (k : CursorKnown) (v : Cursor) (n : ℕ) → v ≡ cursor.At n → is_end k ≡ true → FitsCursor C r k v → ⊥
  ends_nowhere (End b) v n at ends f = not_end r v b n at f
  ends_nowhere k v n at ends f = absurd (cc)

  pub apart_differ : (k l : CursorKnown) (v w : Cursor) → SoundNames r → is_apart k l ≡ true → FitsCursor C r k v → FitsCursor C r l w → Differ v w
  apart_differ k l v w s apart f g n at too =
      let parts = and_parts (is_set k && is_set l) (is_end k || is_end l || not (place_of k == place_of l)) apart in
      let set = and_parts (is_set k) (is_set l) (parts.0) in
      elim (or_either (is_end k || is_end l) (not (place_of k == place_of l)) (parts.1)) [
        | inl ends ↦ elim (or_either (is_end k) (is_end l) ends) [ inl first ↦ ends_nowhere k v n at first f | inr second ↦ ends_nowhere l w n too second g ]
        | inr away ↦ (let here : (place_of k == place_of l) ≡ true =
            eq-eqb (place_of k) (place_of l) (one_place r n (place_of k) (place_of l) s (placed k v n at (set.0) f) (placed l w n too (set.1) g)) in
            let none : not true ≡ true = sym (ap not here) ∙ away in cc)
      ]

  -- what is known is so
  pub known_differ : (s : State) (c d : ℕ) → SoundNames r → Fits C s r → known s c d ≡ true → Differ (r.call.cursors c) (r.call.cursors d)
  unfolding known
  known_differ s c d names f is =
      let parts = and_parts (not (c == d)) (s.facts c d || is_apart (s.cursors c) (s.cursors d)) is in
      elim (or_either (s.facts c d) (is_apart (s.cursors c) (s.cursors d)) (parts.1)) [
        | inl written ↦ f.facts c d written
        | inr apart ↦ apart_differ (s.cursors c) (s.cursors d) (r.call.cursors c) (r.call.cursors d) names apart (f.cursors c) (f.cursors d)
      ]

pub differ_sym : (v w : Cursor) → Differ v w → Differ w v
differ_sym v w differ n at too = differ n too at

-- Facts.

-- what a fact that is written says
pub record IsFact (keep : ℕ → ℕ → Bool) (cursors : ℕ → CursorKnown) (c d : ℕ) : Type 0 where
  pub apart : c ≢ d
  pub kept : keep c d ≡ true
  pub first : is_set (cursors c) ≡ true
  pub second : is_set (cursors d) ≡ true

not_same : (c d : ℕ) → not (c == d) ≡ true → c ≢ d
not_same c d is same = (let none : not true ≡ true = sym (ap not (eq-eqb c d same)) ∙ is in cc)

pub fact_of : (keep : ℕ → ℕ → Bool) (cursors : ℕ → CursorKnown) (c d : ℕ) → facts_of keep cursors c d ≡ true → IsFact keep cursors c d
unfolding facts_of
fact_of keep cursors c d is =
    let four = and_parts (not (c == d) && keep c d && is_set (cursors c) && is_set (cursors d)) (not (is_apart (cursors c) (cursors d))) is in
    let three = and_parts (not (c == d) && keep c d && is_set (cursors c)) (is_set (cursors d)) (four.0) in
    let two = and_parts (not (c == d) && keep c d) (is_set (cursors c)) (three.0) in
    let one = and_parts (not (c == d)) (keep c d) (two.0) in
    record { apart = not_same c d (one.0); kept = one.1; first = two.1; second = three.1 }

module _ (C : Homes → Home → Type 0) (r : Configuration) (s : State) where
  -- where cursors move, and none is set
  pub moved_facts : SoundNames r → Fits C s r → (cursors : ℕ → CursorKnown) (c d : ℕ) → facts_of (known s) cursors c d ≡ true → Differ (r.call.cursors c) (r.call.cursors d)
  moved_facts names f cursors c d is = known_differ C r s c d names f (fact_of (known s) cursors c d is).kept

  -- where c is set, to w
  pub set_facts : SoundNames r → Fits C s r → (c : ℕ) (v : CursorKnown) (w : Cursor) (new : ℕ → Bool)
      → ((k : ℕ) → k ≢ c → is_set (s.cursors k) ≡ true → new k ≡ true → Differ w (r.call.cursors k))
      → (i j : ℕ) → facts_of (known_but s c new) (upd s.cursors c v) i j ≡ true → Differ (upd r.call.cursors c w i) (upd r.call.cursors c w j)
  set_facts names f c v w new away i j is = by_place (eqb_tells i c) (eqb_tells j c) (fact_of (known_but s c new) (upd s.cursors c v) i j is) where
    -- the one that is set, and another
    one : (k : ℕ) → k ≢ c → is_set (upd s.cursors c v k) ≡ true → new k ≡ true → Differ (upd r.call.cursors c w c) (upd r.call.cursors c w k)
    one k differ set told =
        subst (λ (x : Cursor). Differ x (upd r.call.cursors c w k)) (sym (upd_at r.call.cursors c w))
        (subst (λ (y : Cursor). Differ w y) (sym (upd_off r.call.cursors c k w differ)) (away k differ (sym (ap is_set (upd_off s.cursors c k v differ)) ∙ set) told))

    by_place : (((i == c) ≡ true) × (i ≡ c)) ⊎ (((i == c) ≡ false) × (i ≢ c)) → (((j == c) ≡ true) × (j ≡ c)) ⊎ (((j == c) ≡ false) × (j ≢ c))
        → IsFact (known_but s c new) (upd s.cursors c v) i j → Differ (upd r.call.cursors c w i) (upd r.call.cursors c w j)
    by_place (inl p) (inl q) is = absurd (is.apart (p.1 ∙ sym q.1))
    by_place (inl p) (inr q) is =
        subst (λ (k : ℕ). Differ (upd r.call.cursors c w k) (upd r.call.cursors c w j)) (sym p.1)
        (one j q.1 is.second (sym (ap (λ (b : Bool). cond b (new j) (cond (j == c) (new i) (known s i j))) p.0) ∙ is.kept))
    by_place (inr p) (inl q) is =
        subst (λ (k : ℕ). Differ (upd r.call.cursors c w i) (upd r.call.cursors c w k)) (sym q.1)
        (differ_sym (upd r.call.cursors c w c) (upd r.call.cursors c w i)
        (one i p.1 is.first (sym (ap (λ (b : Bool). cond b (new j) (cond (j == c) (new i) (known s i j))) p.0 ∙ ap (λ (b : Bool). cond b (new i) (known s i j)) q.0) ∙ is.kept)))
    by_place (inr p) (inr q) is =
        subst (λ (x : Cursor). Differ x (upd r.call.cursors c w j)) (sym (upd_off r.call.cursors c i w p.1))
        (subst (λ (y : Cursor). Differ (r.call.cursors i) y) (sym (upd_off r.call.cursors c j w q.1))
        (known_differ C r s i j names f (sym (ap (λ (b : Bool). cond b (new j) (cond (j == c) (new i) (known s i j))) p.0 ∙ ap (λ (b : Bool). cond b (new i) (known s i j)) q.0) ∙ is.kept)))

-- Cursors that stay.

-- The bucket y that is found in a list under the name of x: it has the classes of x, and its home is covered where that of x is.
pub record IsFound (C D : Homes → Home → Type 0) (n : ℕ) (x : NamedBucket) (ys : List NamedBucket) : Type 0 where
  pub bucket : NamedBucket
  pub there : bucket_named n ys ≡ Some bucket
  pub classed : (t : Classes) → class_has t x.bucket.kind ≡ true → class_has t bucket.bucket.kind ≡ true
  pub covered : (h : Homes) → C h x.bucket.home → D h bucket.bucket.home

-- Where a bucket of this name is in xs, it is in ys.
abbrev pub Finds : (Homes → Home → Type 0) → (Homes → Home → Type 0) → ℕ → List NamedBucket → List NamedBucket → Type 0
Finds C D n xs ys = (x : NamedBucket) → bucket_named n xs ≡ Some x → IsFound C D n x ys

-- where lists agree on a name
pub finds_same : (C D : Homes → Home → Type 0) (n : ℕ) (xs ys : List NamedBucket) → ((h : Homes) (x : Home) → C h x → D h x) → bucket_named n ys ≡ bucket_named n xs → Finds C D n xs ys
finds_same C D n xs ys more same x is = record { bucket = x; there = same ∙ is; classed = λ t e. e; covered = λ h e. more h x.bucket.home e }

module _ (C D : Homes → Home → Type 0) (r new : Configuration) (v : Cursor) where
  pub loose_stays : (t : Classes) (h : Homes) → ((n : ℕ) → v ≡ cursor.At n → Finds C D n r.call.loose new.call.loose) → IsAtLoose C r v t h → IsAtLoose D new v t h
  loose_stays t h finds i = found (finds i.bucket.name i.at i.bucket i.there) where
    found : IsFound C D i.bucket.name i.bucket new.call.loose → IsAtLoose D new v t h
    found y =
        let name : y.bucket.name ≡ i.bucket.name = named_is i.bucket.name new.call.loose y.bucket y.there in
        record {
          bucket = y.bucket;
          at = i.at ∙ ap cursor.At (sym name);
          there = ap (λ (n : ℕ). bucket_named n new.call.loose) name ∙ y.there;
          classed = y.classed t i.classed;
          covered = y.covered h i.covered;
        }

  -- in a brigade, which may have come to another variable
  pub in_stays : (a b : ℕ) (t : Classes) → ((n : ℕ) → v ≡ cursor.At n → Finds C D n (items_at r a) (items_at new b)) → usable_fault (new.instance.brigades b) ≡ None → IsAtBucketOf r v a t
      → IsAtBucketOf new v b t
  in_stays a b t finds usable i = found (finds i.bucket.name i.at i.bucket i.there) where
    found : IsFound C D i.bucket.name i.bucket (items_at new b) → IsAtBucketOf new v b t
    found y =
        let name : y.bucket.name ≡ i.bucket.name = named_is i.bucket.name (items_at new b) y.bucket y.there in
        record {
          bucket = y.bucket;
          at = i.at ∙ ap cursor.At (sym name);
          there = ap (λ (n : ℕ). bucket_named n (items_at new b)) name ∙ y.there;
          classed = y.classed t i.classed;
          usable = usable;
        }

  pub end_stays : (b : ℕ) → brigade_name (new.instance.brigades b) ≡ brigade_name (r.instance.brigades b) → usable_fault (new.instance.brigades b) ≡ None → IsEndOf r v b → IsEndOf new v b
  end_stays b name usable i = record { called = i.called; at = i.at; there = name ∙ i.there; usable = usable }

  -- What a change leaves of the place of a cursor.
  pub record CursorStays : Type 0 where
    pub loose : (n : ℕ) → v ≡ cursor.At n → Finds C D n r.call.loose new.call.loose
    pub within : (b n : ℕ) → v ≡ cursor.At n → Finds C D n (items_at r b) (items_at new b)
    pub names : (b : ℕ) → brigade_name (new.instance.brigades b) ≡ brigade_name (r.instance.brigades b)
    pub usable : (b : ℕ) → usable_fault (r.instance.brigades b) ≡ None → usable_fault (new.instance.brigades b) ≡ None

  in_place : (b : ℕ) (t : Classes) → CursorStays → IsAtBucketOf r v b t → IsAtBucketOf new v b t
  in_place b t s i = in_stays b b t (s.within b) (s.usable b i.usable) i

  end_place : (b : ℕ) → CursorStays → IsEndOf r v b → IsEndOf new v b
  end_place b s i = end_stays b (s.names b) (s.usable b i.usable) i

  -- it fits what was known of it
  pub cursor_stays : CursorStays → (k : CursorKnown) → FitsCursor C r k v → FitsCursor D new k v
  cursor_stays s Unset f = tt
  cursor_stays s (Loose t h) f = loose_stays t h s.loose f
  cursor_stays s (In b t) f = in_place b t s f
  cursor_stays s (End b) f = end_place b s f
  cursor_stays s (InOrEnd b t) f = elim f [ inl i ↦ inl (in_place b t s i) | inr e ↦ inr (end_place b s e) ]

-- a cursor other than c stays what is known of it, or is unset
pub forgotten_fits : (C D : Homes → Home → Type 0) (r new : Configuration) (s : State) (c k : ℕ) → SoundNames r → Fits C s r → k ≢ c
    → (Differ (r.call.cursors c) (r.call.cursors k) → FitsCursor D new (s.cursors k) (r.call.cursors k)) → FitsCursor D new (forgotten s c k) (r.call.cursors k)
forgotten_fits C D r new s c k names f differ stays = by_place (eqb_tells k c) where
  by_known : (b : Bool) → known s c k ≡ b → FitsCursor D new (cond b (s.cursors k) Unset) (r.call.cursors k)
  by_known true is = stays (known_differ C r s c k names f is)
  by_known false is = tt

  by_place : (((k == c) ≡ true) × (k ≡ c)) ⊎ (((k == c) ≡ false) × (k ≢ c)) → FitsCursor D new (forgotten s c k) (r.call.cursors k)
  by_place (inl p) = absurd (differ p.1)
  by_place (inr p) = subst (λ (b : Bool). FitsCursor D new (cond b (s.cursors k) (cond (known s c k) (s.cursors k) Unset)) (r.call.cursors k)) (sym p.0) (by_known (known s c k) refl)
