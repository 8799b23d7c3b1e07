-- Copies are new, and splits and partitions give the parts of the whole in order.
use Rattle.std.proofs.Common.{◌≡◌, ◌≢◌, ℕ, zero, suc, ◌+◌, ◌-◌, ◌<◌, ◌≤◌, Bool, true, false, ◌==◌, cond, nat_le, inl, inr, List, [], ◌∷◌, ◌++◌, length, take, drop, Option, Some, None, is_some, refl}
use Rattle.std.proofs.Common.{sym, ◌∙◌, ap, subst, arith}
use Rattle.std.proofs.lemmas.Bool.{cases_eq, or_from}
use Rattle.std.proofs.lemmas.Bool.Decides.{nat_tests}
use Rattle.module_code.specs.declared.instr.Instr.TheVariants as instr
use Rattle.run_model.specs.declared.bucket.Bucket.{Bucket}
use Rattle.run_model.specs.declared.bucket.NamedBucket.{NamedBucket}
use Rattle.run_model.specs.declared.bucket.BrigadeVar.{BrigadeVar}
use Rattle.run_model.specs.declared.bucket.BrigadeVar.TheVariants as var
use Rattle.run_model.specs.declared.bucket.Cursor.TheVariants as cursor
use Rattle.run_model.specs.Indexed.{upd}
use Rattle.run_model.specs.State.{Configuration, items_of, set_brigade, set_loose, set_cursor}
use Rattle.run_model.specs.Faults.{brigade_fault, usable_fault, cursor_fault, InThis}
use Rattle.run_model.specs.BrigadeLists.{buckets_before, buckets_from, first_bucket, bucket_named, is_there, put_tail, stays, moves, SplitRefusal, split_refusal, first_bytes, rest_as, first_split}
use Rattle.run_model.specs.BrigadeLists.{bucket_split, length_in, all_bytes, Cut, Incomplete, bucket_across, front_to, back_from, place_before, partition_answer, partitioned, place_of}
use Rattle.model_laws.specs.BrigadeLaws.{may_split, SameBytes, PartedAt, SplitsThere}
use Rattle.run_model.specs.Cutting.{length_of}
use Rattle.run_model.specs.Effects.{with_items}
use Rattle.run_model.specs.Cursors.{CursorPlace, Nowhere, AtLoose, Within, AtEndOf, found_below, holder_of, place_of_loose, place_of_bucket, place_of_cursor, at_cursor}
use Rattle.run_model.specs.BucketSteps.{items_at, cursor_at, end_called, set_items, name_given, names_given, new_loose, do_make, is_unsplit, split_there, do_split, place_at, is_incomplete, names_if}
use Rattle.run_model.specs.BucketSteps.{names_to_part, do_bsplit, do_bpart}
use Rattle.run_model.specs.declared.effect.Effect.{Effect}
use Rattle.run_model.specs.Steps.{do_effect, Outcome, jumps_if, value_of}
use Rattle.run_model.specs.Sound.{SoundNames, brigade_name, count_named, count}
use Rattle.model_laws.specs.CursorLaws.{BucketOnce, BrigadeOnce, MakesLoose, MadeAreNew, SplitsBucket, SplitsInOrder, RefusedSplitJumps, BrigadesSplitInOrder, IsPlaceIn, PartsBrigade}
use Rattle.model_laws.specs.CursorLaws.{PartitionsInOrder, IsPastEnd, PastEndJumps}
use Rattle.run_model.proofs.Updates.{upd_at, upd_off, upd_same}
use Rattle.model_laws.proofs.Marks.{first_none, second_none}
use Rattle.model_laws.proofs.Operands.{split_brigades}
use Rattle.run_model.proofs.Names.{count_cons}
use Rattle.model_laws.proofs.BrigadeLists.{at_seam, brigade_splits_in_order, bucket_splits_in_order, split_keeps_bytes, parts_at_point, partition_keeps_bytes, place_is_behind_front}
use Rattle.model_laws.proofs.BrigadeLists.{short_is_incomplete}
use Rattle.run_model.proofs.CursorPlaces.{StandsThere, stands}
use Rattle.model_laws.proofs.StepNames.{step_names}
use Rattle.model_laws.proofs.CursorNames.{in_brigade, part_there}
use Rattle.model_laws.proofs.CursorPlaceLaws.{cursors_stand_once}

-- Buckets that are made.

none_passes : (n : ℕ) (p : ℕ → Bool) → ((k : ℕ) → k < n → p k ≡ false) → found_below n p ≡ None
unfolding found_below
none_passes zero p none = refl
none_passes (suc n) p none = ap (λ (c : Bool). cond c (Some n) (found_below n p)) (none n (omega arith)) ∙ none_passes n p (λ k lt. none k (omega arith))

not_there : (n : ℕ) (bs : List NamedBucket) → count_named n bs ≡ 0 → is_there n bs ≡ false
not_there n [] none = refl
not_there n (b ∷ bs) none = or_from (b.name == n) (is_there n bs) (other (b.name == n) (sym (count_cons n b bs) ∙ none)) (not_there n bs (omega (arith, none, count_cons n b bs))) where
  other : (c : Bool) → cond c 1 0 + count_named n bs ≡ 0 → c ≡ false
  other true is = absurd (omega arith)
  other false is = refl

makes_loose : (c : ℕ) (b : Bucket) (r : Configuration) → SoundNames r → MakesLoose c b r (new_loose c b r)
unfolding set_loose set_cursor place_of_cursor holder_of
makes_loose c b r s = record {
  unused = unused;
  loose = refl;
  brigades = refl;
  cursor = ap (place_of_cursor (new_loose c b r)) (upd_at r.call.cursors c (cursor.At r.shared.next)) ∙ (ap (place_of_bucket (new_loose c b r) r.shared.next) holder ∙ ap place_of_loose found);
} where
  unused : count r r.shared.next ≡ 0
  unused = s.fresh r.shared.next (omega arith)

  holder : found_below 9 (λ k. is_there r.shared.next (items_at r k)) ≡ None
  holder = none_passes 9 (λ k. is_there r.shared.next (items_at r k)) (λ k lt. not_there r.shared.next (items_at r k) (omega (arith, unused, in_brigade k r.shared.next r s)))

  found : bucket_named r.shared.next (put_tail (record { name = r.shared.next; bucket = b }) r.call.loose) ≡ Some (record { name = r.shared.next; bucket = b })
  found = ap first_bucket (at_seam r.call.loose (record { name = r.shared.next; bucket = b }) [] (omega (arith, unused))).1

pub made_are_new : MadeAreNew
made_are_new p choice i c source b r s does is =
    subst (λ (e : Effect). MakesLoose c b r (do_effect p choice e r)) (sym does) (subst (λ (o : Option Bucket). MakesLoose c b r (do_make c o r)) (sym is) (makes_loose c b r s))

-- Brigades that are there.

abbrev IsThere : BrigadeVar → Type 0
IsThere v = brigade_fault v ≡ None

usable_there : (v : BrigadeVar) → usable_fault v ≡ None → IsThere v
usable_there var.Null is = is
usable_there var.Gone is = is
usable_there (var.Live v) is = refl

holds_there : (n : ℕ) (x : NamedBucket) (v : BrigadeVar) → bucket_named n (items_of v) ≡ Some x → IsThere v
unfolding buckets_from
holds_there n x var.Null is = absurd (cc)
holds_there n x var.Gone is = absurd (cc)
holds_there n x (var.Live v) is = refl

filled : (xs : List NamedBucket) (v : BrigadeVar) → IsThere v → items_of (with_items xs v) ≡ xs
filled xs var.Null is = absurd (cc)
filled xs var.Gone is = absurd (cc)
filled xs (var.Live v) is = refl

set_there : (b : ℕ) (xs : List NamedBucket) (r : Configuration) → IsThere (r.instance.brigades b) → items_at (set_items b xs r) b ≡ xs
unfolding set_brigade
set_there b xs r is = ap items_of (upd_at r.instance.brigades b (with_items xs (r.instance.brigades b))) ∙ filled xs (r.instance.brigades b) is

-- Splits of a bucket.

split_shape : (new n : ℕ) (x : NamedBucket) (bs : List NamedBucket) → bucket_named x.name bs ≡ Some x
    → bucket_split new x.name n bs ≡ buckets_before x.name bs ++ first_bytes n x ∷ rest_as new n x ∷ drop 1 (buckets_from x.name bs)
split_shape new n x bs is = of_first (buckets_from x.name bs) is where
  of_first : (ys : List NamedBucket) → first_bucket ys ≡ Some x → buckets_before x.name bs ++ first_split new n ys ≡ buckets_before x.name bs ++ first_bytes n x ∷ rest_as new n x ∷ drop 1 ys
  of_first [] is = absurd (cc)
  of_first (y ∷ ys) is = (let same : y ≡ x = cc in ap (λ (z : NamedBucket). buckets_before x.name bs ++ first_bytes n z ∷ rest_as new n z ∷ ys) same)

abbrev splitting : ℕ → CursorPlace → Configuration → Outcome
splitting n s r = record { exit = jumps_if (is_unsplit n s); state = do_split n s r }

splits_bucket : (n b : ℕ) (x : NamedBucket) (r : Configuration) → SoundNames r → StandsThere r (Within b x) → split_refusal n x ≡ None → SplitsBucket n b x r (splitting n (Within b x) r)
unfolding set_brigade
splits_bucket n b x r s at may = by_refusal (split_refusal n x) may where
  there : IsThere (r.instance.brigades b)
  there = holds_there x.name x (r.instance.brigades b) at.1

  items : items_at (split_there n (Within b x) r) b ≡ bucket_split r.shared.next x.name n (items_at r b)
  items = set_there b (bucket_split r.shared.next x.name n (items_at r b)) (name_given r) there

  same : SameBytes r.shared.next (items_at r b) (bucket_split r.shared.next x.name n (items_at r b))
  same = split_keeps_bytes r.shared.next x.name n (items_at r b) (subst (may_split n) (sym at.1) may)

  by_refusal : (o : Option SplitRefusal) → o ≡ None → SplitsBucket n b x r (record { exit = jumps_if (is_some o); state = cond (is_some o) r (split_there n (Within b x) r) })
  by_refusal (Some k) is = absurd (cc)
  by_refusal None is = record {
    exit = refl;
    unused = s.fresh r.shared.next (omega arith);
    halves = bucket_splits_in_order n x may;
    items = items ∙ split_shape r.shared.next n x (items_at r b) at.1;
    bytes = λ file. ap (all_bytes file) items ∙ same.bytes file;
  }

pub splits_in_order : SplitsInOrder
splits_in_order p choice c n l b x r s is may =
    subst (λ (at : CursorPlace). SplitsBucket (value_of r n) b x r (splitting (value_of r n) at r)) (sym is)
    (splits_bucket (value_of r n) b x r s (subst (StandsThere r) is (stands r (r.call.cursors c))) may)

pub refused_split_jumps : RefusedSplitJumps
refused_split_jumps p choice c n l b x k r is refused =
    ap (λ (at : CursorPlace). splitting (value_of r n) at r) is
    ∙ ap (λ (o : Option SplitRefusal). record { exit = jumps_if (is_some o); state = cond (is_some o) r (split_there (value_of r n) (Within b x) r) }) refused

-- Splits of a brigade.

cut_brigade : (b a : ℕ) (place : CursorPlace) (r : Configuration) → b ≢ a → IsThere (r.instance.brigades b) → IsThere (r.instance.brigades a)
    → (items_at (do_bsplit b place a r) b ≡ stays (place_at place) (items_at r b)) × (items_at (do_bsplit b place a r) a ≡ moves (place_at place) (items_at r b))
unfolding set_brigade
cut_brigade b a place r ne first second =
    let g = r.instance.brigades in
    let left : Configuration = set_items b (stays (place_at place) (items_at r b)) r in
    let other : BrigadeVar = with_items (moves (place_at place) (items_at r b)) (left.instance.brigades a) in
    let at_a : left.instance.brigades a ≡ g a = upd_off g b a (with_items (stays (place_at place) (items_at r b)) (g b)) (λ e. ne (sym e)) in (
      ap items_of (upd_off left.instance.brigades a b other ne) ∙ set_there b (stays (place_at place) (items_at r b)) r first,
      set_there a (moves (place_at place) (items_at r b)) left (ap brigade_fault at_a ∙ second),
    )

pub brigades_split_in_order : BrigadesSplitInOrder
brigades_split_in_order p choice b c a r may =
    let first = first_none (usable_fault (r.instance.brigades b)) _ may.faultless in
    let second = first_none (usable_fault (r.instance.brigades a)) None
    (second_none (cursor_fault r (InThis b) (at_cursor r c)) _ (second_none (usable_fault (r.instance.brigades b)) _ may.faultless)) in
    let cut = cut_brigade b a (at_cursor r c) r (split_brigades p may.proper b c a may.fit).differ (usable_there (r.instance.brigades b) first) (usable_there (r.instance.brigades a) second) in
    record {
      stay = cut.0;
      move = cut.1;
      whole = ap (λ (xs : List NamedBucket). xs ++ items_at (do_bsplit b (at_cursor r c) a r) a) cut.0
          ∙ (ap (λ (ys : List NamedBucket). stays (place_at (at_cursor r c)) (items_at r b) ++ ys) cut.1 ∙ brigade_splits_in_order (place_at (at_cursor r c)) (items_at r b));
    }

-- Partitions.

-- a cursor stands at this place in a brigade
record IsPlacedIn (b : ℕ) (place : Option ℕ) (at : CursorPlace) : Type 0 where
  there : place_at at ≡ place
  inside : IsPlaceIn b at

-- so does a cursor at a bucket of it
stands_in : (b n : ℕ) (r : Configuration) → SoundNames r → 1 ≤ count_named n (items_at r b) → IsPlacedIn b (Some n) (place_of_cursor r (cursor.At n))
stands_in b n r s there = of_place (place_of_cursor r (cursor.At n)) (cursors_stand_once r (cursor.At n) s) where
  same : (k : ℕ) → (b ≢ k → count_named n (items_at r b) ≡ 0) → k ≡ b
  same k others = elim (cases_eq b k) [ inl e ↦ sym e | inr ne ↦ absurd (omega (arith, others ne, there)) ]

  of_place : (at : CursorPlace) → BucketOnce r n at → IsPlacedIn b (Some n) at
  of_place Nowhere none = absurd (omega (arith, none, in_brigade b n r s, there))
  of_place (AtLoose x) once = absurd (omega (arith, once.brigades b, there))
  of_place (Within k x) once = record { there = ap (λ (m : ℕ). Some m) once.name; inside = same k (once.others b) }
  of_place (AtEndOf k) once = absurd once

-- and one at its end stands at that
pub stands_behind : (b n : ℕ) (r : Configuration) → SoundNames r → brigade_name (r.instance.brigades b) ≡ Some n → place_of_cursor r (cursor.End n) ≡ AtEndOf b
stands_behind b n r s named = of_place (place_of_cursor r (cursor.End n)) (cursors_stand_once r (cursor.End n) s) where
  of_place : (at : CursorPlace) → BrigadeOnce r n at → at ≡ AtEndOf b
  of_place Nowhere none = absurd (none b named)
  of_place (AtLoose x) once = absurd once
  of_place (Within k x) once = absurd once
  of_place (AtEndOf k) once = ap AtEndOf (sym (once.others b named))

-- a cursor at the end of a brigade that is there
ends : (b : ℕ) (r : Configuration) → SoundNames r → IsThere (r.instance.brigades b) → place_of_cursor r (end_called (brigade_name (r.instance.brigades b))) ≡ AtEndOf b
ends b r s is = of_name (brigade_name (r.instance.brigades b)) refl where
  named : (v : BrigadeVar) → IsThere v → brigade_name v ≡ None → ⊥
  named var.Null is none = absurd (cc)
  named var.Gone is none = absurd (cc)
  named (var.Live v) is none = absurd (cc)

  of_name : (o : Option ℕ) → brigade_name (r.instance.brigades b) ≡ o → place_of_cursor r (end_called o) ≡ AtEndOf b
  of_name None none = absurd (named (r.instance.brigades b) is none)
  of_name (Some n) name = stands_behind b n r s name

-- a cursor that is set to a place in a brigade stands there
stands_at : (b : ℕ) (place : Option ℕ) (r : Configuration) → SoundNames r → ((k : ℕ) → place ≡ Some k → 1 ≤ count_named k (items_at r b)) → IsThere (r.instance.brigades b)
    → IsPlacedIn b place (place_of_cursor r (cursor_at (r.instance.brigades b) place))
stands_at b (Some k) r s there is = stands_in b k r s (there k refl)
stands_at b None r s there is = subst (IsPlacedIn b None) (sym (ends b r s is)) (record { there = refl; inside = refl })

still_there : (xs : List NamedBucket) (v : BrigadeVar) → IsThere v → IsThere (with_items xs v)
still_there xs var.Null is = is
still_there xs var.Gone is = is
still_there xs (var.Live v) is = is

refilled : (v : BrigadeVar) → with_items (items_of v) v ≡ v
refilled var.Null = refl
refilled var.Gone = refl
refilled (var.Live v) = refl

found_place : (new point : ℕ) (bs : List NamedBucket) → is_incomplete (place_before (back_from new point bs)) ≡ false
found_place new point bs = of_back (back_from new point bs) where
  of_back : (back : List NamedBucket) → is_incomplete (place_before back) ≡ false
  of_back [] = refl
  of_back (x ∷ back) = refl

-- where the point is past the end it lies inside no bucket
none_across : (point : ℕ) (bs : List NamedBucket) → length_in bs < point → bucket_across point bs ≡ None
unfolding length_in bucket_across
none_across zero bs lt = absurd (omega arith)
none_across (suc p) [] lt = refl
none_across (suc p) (b ∷ bs) lt = by_length (nat_le (length_of b.bucket.content) (suc p)) refl (none_across (suc p - length_of b.bucket.content) bs) where
  more_told : (a b : ℕ) → nat_le a b ≡ false → b < a
  more_told a b is = grind (arith, nat_tests)

  by_length : (c : Bool) → nat_le (length_of b.bucket.content) (suc p) ≡ c
      → (length_in bs < suc p - length_of b.bucket.content → bucket_across (suc p - length_of b.bucket.content) bs ≡ None)
      → cond c (bucket_across (suc p - length_of b.bucket.content) bs) (Some b) ≡ None
  by_length true is rest = rest (omega arith)
  by_length false is rest = absurd (omega (arith, more_told (length_of b.bucket.content) (suc p) is))

-- The brigade of b, which is there, is parted at a point, where names are single before and after.
module _ (b point c : ℕ) (r : Configuration) (names : SoundNames r) (after : SoundNames (do_bpart b point c r)) (is : IsThere (r.instance.brigades b)) where
  parted : items_at (do_bpart b point c r) b ≡ partitioned r.shared.next point (items_at r b)
  unfolding set_cursor
  parted = set_there b (partitioned r.shared.next point (items_at r b)) (names_given (names_to_part point (items_at r b)) r) is

  left_there : IsThere ((do_bpart b point c r).instance.brigades b)
  unfolding set_cursor set_brigade
  left_there =
      ap brigade_fault (upd_at r.instance.brigades b (with_items (partitioned r.shared.next point (items_at r b)) (r.instance.brigades b)))
      ∙ still_there (partitioned r.shared.next point (items_at r b)) (r.instance.brigades b) is

  cursor_set : at_cursor (do_bpart b point c r) c ≡ place_of_cursor (do_bpart b point c r)
      (cursor_at ((do_bpart b point c r).instance.brigades b) (place_of (partition_answer r.shared.next point (items_at r b))))
  unfolding set_cursor set_brigade
  cursor_set = ap (place_of_cursor (do_bpart b point c r)) (upd_at r.call.cursors c
      (cursor_at ((do_bpart b point c r).instance.brigades b) (place_of (partition_answer r.shared.next point (items_at r b)))))

  placed : IsPlacedIn b (place_of (partition_answer r.shared.next point (items_at r b))) (at_cursor (do_bpart b point c r) c)
  placed =
      subst (IsPlacedIn b (place_of (partition_answer r.shared.next point (items_at r b)))) (sym cursor_set)
      (stands_at b (place_of (partition_answer r.shared.next point (items_at r b))) (do_bpart b point c r) after
      (λ k e. subst (λ (xs : List NamedBucket). 1 ≤ count_named k xs) (sym parted) (part_there r.shared.next point k (items_at r b) e)) left_there)

  once : (n : ℕ) → count_named n (items_at r b) ≤ 1
  once n = omega (arith, in_brigade b n r names, names.once n)

  fresh : count_named r.shared.next (items_at r b) ≡ 0
  fresh = omega (arith, in_brigade b r.shared.next r names, names.fresh r.shared.next (omega arith))

  parts_brigade : point ≤ length_in (items_at r b)
      → PartsBrigade b point c r (record { exit = jumps_if (is_incomplete (partition_answer r.shared.next point (items_at r b))); state = do_bpart b point c r })
  parts_brigade le =
      let at : PartedAt r.shared.next point (items_at r b) = parts_at_point r.shared.next point (items_at r b) le in
      let split : SplitsThere r.shared.next point (items_at r b) = place_is_behind_front r.shared.next point (items_at r b) le once fresh in
      let same : SameBytes r.shared.next (items_at r b) (partitioned r.shared.next point (items_at r b)) = partition_keeps_bytes r.shared.next point (items_at r b) in
      let front : stays (place_at (at_cursor (do_bpart b point c r) c)) (items_at (do_bpart b point c r) b) ≡ front_to point (items_at r b)
      = ap (λ (o : Option ℕ). stays o (items_at (do_bpart b point c r) b)) placed.there ∙ (ap (stays (place_of (partition_answer r.shared.next point (items_at r b)))) parted ∙ split.front) in
      record {
        exit = ap (λ (x : Cut). jumps_if (is_incomplete x)) at.answer ∙ ap jumps_if (found_place r.shared.next point (items_at r b));
        bytes = λ file. ap (all_bytes file) parted ∙ same.bytes file;
        cursor = placed.inside;
        adds_up = ap length_in front ∙ at.adds_up;
        shortest = λ k lt. subst (λ (xs : List NamedBucket). k < length xs → length_in (take k xs) < point) (sym front) (at.shortest k) lt;
      }

  past_end : length_in (items_at r b) < point → IsPastEnd b c r (record { exit = jumps_if (is_incomplete (partition_answer r.shared.next point (items_at r b))); state = do_bpart b point c r })
  unfolding set_cursor set_brigade
  past_end lt =
      let short = short_is_incomplete r.shared.next point (items_at r b) in
      let told : partition_answer r.shared.next point (items_at r b) ≡ Incomplete = short.told lt in
      record {
        exit = ap (λ (x : Cut). jumps_if (is_incomplete x)) told;
        cursor = cursor_set ∙ (ap (λ (x : Cut). place_of_cursor (do_bpart b point c r) (cursor_at ((do_bpart b point c r).instance.brigades b) (place_of x))) told
            ∙ ends b (do_bpart b point c r) after left_there);
        brigades = ap (λ (v : BrigadeVar). upd r.instance.brigades b v)
            (ap (λ (xs : List NamedBucket). with_items xs (r.instance.brigades b)) (short.unchanged told) ∙ refilled (r.instance.brigades b)) ∙ upd_same r.instance.brigades b;
        loose = refl;
        names = omega (arith, ap (λ (o : Option NamedBucket). names_if (is_some o)) (none_across point (items_at r b) lt));
      }

pub partitions_in_order : PartitionsInOrder
partitions_in_order p choice b x c l r may names le =
    parts_brigade b (value_of r x) c r names (step_names p choice (instr.BPart b x c l) r may names)
    (usable_there (r.instance.brigades b) (first_none (usable_fault (r.instance.brigades b)) _ may.faultless)) le

pub past_end_jumps : PastEndJumps
past_end_jumps p choice b x c l r may names lt =
    past_end b (value_of r x) c r names (step_names p choice (instr.BPart b x c l) r may names)
    (usable_there (r.instance.brigades b) (first_none (usable_fault (r.instance.brigades b)) _ may.faultless)) lt
