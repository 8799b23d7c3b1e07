-- A cursor that is set to the first bucket of a brigade, or to the next one.
use Rattle.std.proofs.Common.{◌≡◌, ◌≢◌, ℕ, ◌≤◌, Bool, true, false, ◌==◌, cond, List, [], ◌∷◌, drop, Option, None, Some, ◌⊎◌, inl, inr, refl, sym, ◌∙◌, ap, subst, arith, eq-eqb, eqb-true}
use Rattle.std.proofs.lemmas.Bool.{or_parts}
use Rattle.module_code.specs.declared.instr.Instr.TheVariants as instr
use Rattle.run_model.specs.declared.bucket.BrigadeVar.{BrigadeVar}
use Rattle.run_model.specs.declared.bucket.BrigadeVar.TheVariants as var
use Rattle.run_model.specs.declared.bucket.Cursor.{Cursor}
use Rattle.run_model.specs.declared.bucket.Cursor.TheVariants as cursor
use Rattle.run_model.specs.declared.bucket.Home.{Home}
use Rattle.run_model.specs.declared.bucket.Kind.{Kind}
use Rattle.run_model.specs.declared.bucket.Kind.TheVariants as kind
use Rattle.run_model.specs.declared.bucket.NamedBucket.{NamedBucket}
use Rattle.run_model.specs.Buckets.{is_data_kind, is_eos_kind, is_data, is_eos, has_data, has_eos}
use Rattle.run_model.specs.BrigadeLists.{buckets_before, buckets_from, bucket_named, first_place, next_place, taken_out}
use Rattle.run_model.specs.BucketSteps.{items_at, end_called, cursor_at, do_next}
use Rattle.run_model.specs.Cursors.{CursorPlace, at_cursor}
use Rattle.run_model.specs.Faults.{InBrigade, usable_fault}
use Rattle.run_model.specs.Sound.{SoundNames, brigade_name, count_named}
use Rattle.run_model.specs.State.{Configuration, pool_view, set_cursor}
use Rattle.model_laws.proofs.CursorNames.{first_there, next_there}
use Rattle.model_laws.proofs.Marks.{first_none}
use Rattle.model_laws.proofs.BrigadeLists.{moves_keep_names}
use Rattle.run_model.proofs.CursorPlaces.{named_is}
use Rattle.run_model.proofs.Names.{count_none, count_append, count_cons}
use Rattle.life_state.specs.declared.parts.Classes.{Classes}
use Rattle.life_state.specs.declared.parts.Contents.{Contents}
use Rattle.life_state.specs.declared.parts.Contents.TheVariants.{Empty, Flushes, NoEos, NoLateData, Any}
use Rattle.life_state.specs.States.{Homes, CursorKnown, In, State}
use Rattle.life_state.specs.Facts.{is_set, set_cursor as known_set}
use Rattle.life_state.specs.Rules.{cursor_need, bucket_or_end, after_next, no_other}
use Rattle.life_check.specs.Meaning.{class_has, Covers, HoldsOfEach, HoldsContents, IsAtBucketOf, IsEndOf, FitsCursor, Differ, Fits}
use Rattle.life_check.specs.Soundness.{LawOf}
use Rattle.life_check.proofs.Lists.{named_first, named_later, each_named}
use Rattle.life_check.proofs.Standing.{cursor_in, once_in, CursorStays, cursor_stays}
use Rattle.life_check.proofs.Filled.{full_of, finds_kept}
use Rattle.life_check.proofs.Sets.{with_cursor, cursor_set}

-- The classes of the buckets in a brigade.

-- any bucket is of one of them
abbrev all_classes : Classes
all_classes = record { bytes = true; flush = true; eos = true }

each_no_data : (xs : List NamedBucket) → has_data xs ≡ false → HoldsOfEach (λ x. is_data x ≡ false) xs
unfolding HoldsOfEach
each_no_data [] none = tt
each_no_data (x ∷ xs) none = (let parts = or_parts (is_data x) (has_data xs) none in (parts.0, each_no_data xs (parts.1)))

each_no_eos : (xs : List NamedBucket) → has_eos xs ≡ false → HoldsOfEach (λ x. is_eos x ≡ false) xs
unfolding HoldsOfEach
each_no_eos [] none = tt
each_no_eos (x ∷ xs) none = (let parts = or_parts (is_eos x) (has_eos xs) none in (parts.0, each_no_eos xs (parts.1)))

any_class : (k : Kind) → class_has all_classes k ≡ true
any_class kind.Eos = refl
any_class k = refl

no_eos_class : (k : Kind) → is_eos_kind k ≡ false → class_has (record { bytes = true; flush = true; eos = false }) k ≡ true
no_eos_class kind.Eos none = absurd (cc)
no_eos_class k none = refl

flush_class : (k : Kind) → is_data_kind k ≡ false → is_eos_kind k ≡ false → class_has (record { bytes = false; flush = true; eos = false }) k ≡ true
flush_class kind.Flush none plain = refl
flush_class k none plain = absurd (cc)

in_of_classes : (r : Configuration) (v : Cursor) (b : ℕ) (t : Classes) → (i : IsAtBucketOf r v b all_classes) → class_has t i.bucket.bucket.kind ≡ true → IsAtBucketOf r v b t
in_of_classes r v b t i classed = record { bucket = i.bucket; at = i.at; there = i.there; classed = classed; usable = i.usable }

not_in_empty : (r : Configuration) (v : Cursor) (b : ℕ) → items_at r b ≡ [] → IsAtBucketOf r v b all_classes → ⊥
unfolding buckets_from
not_in_empty r v b none i = (let both : None ≡ Some i.bucket = sym (ap (bucket_named i.bucket.name) none) ∙ i.there in cc)

-- a cursor at a bucket of a brigade or at its end, by the brigade's contents
pub bucket_or_end_fits : (C : Homes → Home → Type 0) (r : Configuration) (v : Cursor) (b : ℕ) (k : Contents) → HoldsContents k (items_at r b) → IsAtBucketOf r v b all_classes ⊎ IsEndOf r v b
    → FitsCursor C r (bucket_or_end b k) v
bucket_or_end_fits C r v b Empty h at = elim at [ inl i ↦ absurd (not_in_empty r v b h i) | inr e ↦ e ]
bucket_or_end_fits C r v b Flushes h at = elim at [
  | inl i ↦ inl (in_of_classes r v b _ i (flush_class i.bucket.bucket.kind
      (each_named (λ x. is_data x ≡ false) i.bucket.name (items_at r b) i.bucket i.there (each_no_data (items_at r b) (h.0)))
      (each_named (λ x. is_eos x ≡ false) i.bucket.name (items_at r b) i.bucket i.there (each_no_eos (items_at r b) (h.1)))))
  | inr e ↦ inr e
]
bucket_or_end_fits C r v b NoEos h at = elim at [
  | inl i ↦ inl (in_of_classes r v b _ i (no_eos_class i.bucket.bucket.kind (each_named (λ x. is_eos x ≡ false) i.bucket.name (items_at r b) i.bucket i.there (each_no_eos (items_at r b) h))))
  | inr e ↦ inr e
]
bucket_or_end_fits C r v b NoLateData h at = at
bucket_or_end_fits C r v b Any h at = at

-- A place in a brigade.

-- where there is a bucket of the name, one is found
found_named : (n : ℕ) (xs : List NamedBucket) → 1 ≤ count_named n xs → (x : NamedBucket) × (bucket_named n xs ≡ Some x)
found_named n [] some = absurd (omega (arith, count_none n))
found_named n (x ∷ xs) some = by_name (x.name == n) refl (found_named n xs) where
  by_name : (c : Bool) → (x.name == n) ≡ c → (1 ≤ count_named n xs → (y : NamedBucket) × (bucket_named n xs ≡ Some y)) → (y : NamedBucket) × (bucket_named n (x ∷ xs) ≡ Some y)
  by_name true is rest = (x, named_first n x xs (eqb-true x.name n is))
  by_name false is rest =
      let none : ◌≡◌ {A = ℕ} (cond (x.name == n) 1 0) 0 = ap (λ (c : Bool). cond c 1 0) is in
      let y = rest (omega (arith, none, count_cons n x xs)) in
      (y.0, named_later n x xs (λ same. (let both : true ≡ false = sym (eq-eqb x.name n same) ∙ is in cc)) ∙ y.1)

named_brigade : (v : BrigadeVar) → usable_fault v ≡ None → (n : ℕ) × (brigade_name v ≡ Some n)
named_brigade var.Null usable = absurd (cc)
named_brigade var.Gone usable = absurd (cc)
named_brigade (var.Live v) usable = (v.name, refl)

-- a place is one of its buckets or its end
pub place_stands : (r : Configuration) (b : ℕ) (place : Option ℕ) → usable_fault (r.instance.brigades b) ≡ None → ((n : ℕ) → place ≡ Some n → 1 ≤ count_named n (items_at r b))
    → IsAtBucketOf r (cursor_at (r.instance.brigades b) place) b all_classes ⊎ IsEndOf r (cursor_at (r.instance.brigades b) place) b
place_stands r b None usable there = (let n = named_brigade (r.instance.brigades b) usable in inr (record { called = n.0; at = ap end_called (n.1); there = n.1; usable = usable }))
place_stands r b (Some n) usable there =
    let x = found_named n (items_at r b) (there n refl) in
    let name : (x.0).name ≡ n = named_is n (items_at r b) (x.0) (x.1) in
    inl (record { bucket = x.0; at = ap cursor.At (sym name); there = ap (λ (m : ℕ). bucket_named m (items_at r b)) name ∙ x.1; classed = any_class (x.0).bucket.kind; usable = usable })

-- a cursor is set to a place in the brigade of b
pub placed_fits : (C : Homes → Home → Type 0) (r : Configuration) (s : State) → SoundNames r → Fits C s r → (c b : ℕ) (place : Option ℕ) (other : ℕ → Bool)
    → usable_fault (r.instance.brigades b) ≡ None → ((n : ℕ) → place ≡ Some n → 1 ≤ count_named n (items_at r b))
    → ((k : ℕ) → k ≢ c → is_set (s.cursors k) ≡ true → other k ≡ true → Differ (cursor_at (r.instance.brigades b) place) (r.call.cursors k))
    → Fits C (known_set c (bucket_or_end b (s.brigades b).content) other s) (set_cursor c (cursor_at (r.instance.brigades b) place) r)
unfolding set_cursor
placed_fits C r s names f c b place other usable there away =
    let v : Cursor = cursor_at (r.instance.brigades b) place in
    let new : Configuration = with_cursor c v r.call.loose r.shared.next r in
    let stays : (w : Cursor) → CursorStays C C r new w = λ w. record {
      loose = λ m at. finds_kept C m r.call.loose r.call.loose (λ y is. is);
      within = λ j m at. finds_kept C m (items_at r j) (items_at r j) (λ y is. is);
      names = λ j. refl;
      usable = λ j is. is;
    } in
    cursor_set C r s names f c (bucket_or_end b (s.brigades b).content) v r.call.loose r.shared.next other (λ k. stays (r.call.cursors k))
    (cursor_stays C C r new v (stays v) (bucket_or_end b (s.brigades b).content)
    (bucket_or_end_fits C r v b (s.brigades b).content (full_of C (s.brigades b) (r.instance.brigades b) usable (f.brigades b)).holds (place_stands r b place usable there)))
    away

pub law_first : {lives : Home → Type 0} (c b : ℕ) → LawOf lives (instr.First c b)
unfolding set_cursor
law_first {lives = lives} c b p choice r s ready =
    placed_fits (Covers p (pool_view r) lives) r s ready.sound.names ready.fits c b (first_place (items_at r b)) no_other (first_none (usable_fault (r.instance.brigades b)) None ready.may.faultless)
    (λ n is. first_there n (items_at r b) is) (λ k differ set none. absurd (cc))

-- the bucket after x is another
next_differs : (x : NamedBucket) (xs : List NamedBucket) → bucket_named x.name xs ≡ Some x → count_named x.name xs ≡ 1 → next_place x.name xs ≡ Some x.name → ⊥
next_differs x xs is once next =
    let behind : 1 ≤ count_named x.name (drop 1 (buckets_from x.name xs)) = first_there x.name (drop 1 (buckets_from x.name xs)) next in
    let all : count_named x.name (x ∷ taken_out x.name xs) ≡ count_named x.name xs = moves_keep_names.taken x.name x xs x.name is in
    let head : ◌≡◌ {A = ℕ} (cond (x.name == x.name) 1 0) 1 = ap (λ (c : Bool). cond c 1 0) (eq-eqb x.name x.name refl) in
    absurd (omega (arith, count_cons x.name x (taken_out x.name xs), count_append x.name (buckets_before x.name xs) (drop 1 (buckets_from x.name xs))))

name_at : (v : BrigadeVar) (place : Option ℕ) (n : ℕ) → cursor_at v place ≡ cursor.At n → place ≡ Some n
name_at v (Some m) n is = (let same : m ≡ n = cc in ap (λ (k : ℕ). Some k) same)
name_at var.Null None n is = absurd (cc)
name_at var.Gone None n is = absurd (cc)
name_at (var.Live v) None n is = absurd (cc)

-- so a cursor that is set to it is not at x
next_away : (r : Configuration) (b c k n : ℕ) (t : Classes) → SoundNames r → (i : IsAtBucketOf r (r.call.cursors c) b t) → (k == c) ≡ true
    → cursor_at (r.instance.brigades b) (next_place i.bucket.name (items_at r b)) ≡ cursor.At n → r.call.cursors k ≡ cursor.At n → ⊥
next_away r b c k n t names i same at too =
    let here : cursor.At n ≡ cursor.At i.bucket.name = sym too ∙ (ap r.call.cursors (eqb-true k c same) ∙ i.at) in
    let name : n ≡ i.bucket.name = cc in
    next_differs i.bucket (items_at r b) i.there (once_in r (r.call.cursors c) b t names i).once
    (name_at (r.instance.brigades b) (next_place i.bucket.name (items_at r b)) n at ∙ ap (λ (m : ℕ). Some m) name)

pub law_next : {lives : Home → Type 0} (d c : ℕ) → LawOf lives (instr.Next d c)
unfolding set_cursor
law_next {lives = lives} d c p choice r s ready = by_known (s.cursors c) refl (first_none (cursor_need InBrigade (s.cursors c)) None ready.met) where
  by_known : (k : CursorKnown) → s.cursors c ≡ k → cursor_need InBrigade k ≡ None → Fits (Covers p (pool_view (do_next d (at_cursor r c) r)) lives) (after_next d c k s) (do_next d (at_cursor r c) r)
  by_known (In b t) is met =
      let C : Homes → Home → Type 0 = Covers p (pool_view r) lives in
      let i : IsAtBucketOf r (r.call.cursors c) b t = subst (λ (k : CursorKnown). FitsCursor C r k (r.call.cursors c)) is (ready.fits.cursors c) in
      let place : Option ℕ = next_place i.bucket.name (items_at r b) in
      subst (λ (at : CursorPlace). Fits (Covers p (pool_view (do_next d at r)) lives) (after_next d c (In b t) s) (do_next d at r)) (sym (cursor_in r (r.call.cursors c) b t ready.sound.names i))
      (placed_fits C r s ready.sound.names ready.fits d b place (λ k. k == c) i.usable (λ n at. next_there i.bucket.name n (items_at r b) at)
      (λ k differ set same n at too. next_away r b c k n t ready.sound.names i same at too))
  by_known k is met = absurd (cc)
