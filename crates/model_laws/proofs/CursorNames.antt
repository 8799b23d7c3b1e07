-- A cursor that is set holds a name that was given out.
use Rattle.std.proofs.Common.{◌≡◌, ℕ, ◌+◌, ◌<◌, ◌≤◌, Bool, true, false, ◌==◌, cond, List, [], ◌∷◌, ◌++◌, drop, Option, Some, None, inl, inr, refl, sym, ◌∙◌, ap, subst, arith, eq-eqb}
use Rattle.std.proofs.lemmas.Option.{same_Some}
use Rattle.std.proofs.lemmas.Bool.{cases_lt}
use Rattle.module_code.specs.declared.instr.PoolRef.TheVariants as pool
use Rattle.run_model.specs.declared.bucket.Bucket.{Bucket, Bucket}
use Rattle.run_model.specs.declared.bucket.NamedBucket.{NamedBucket}
use Rattle.run_model.specs.declared.bucket.BrigadeVar.{BrigadeVar}
use Rattle.run_model.specs.declared.bucket.BrigadeVar.TheVariants as var
use Rattle.run_model.specs.declared.bucket.Cursor.{Cursor}
use Rattle.run_model.specs.declared.bucket.Cursor.TheVariants as cursor
use Rattle.run_model.specs.Clearing.{run_down}
use Rattle.run_model.specs.State.{Configuration, items_of, set_brigade, set_loose, set_cursor, set_number, set_pool, with_pools, pool_named}
use Rattle.run_model.specs.BrigadeLists.{buckets_from, bucket_named, taken_out, first_place, next_place, stays, partition_answer, partitioned, place_of, place_before, front_to, back_from, is_short}
use Rattle.run_model.specs.BrigadeLists.{Incomplete}
use Rattle.run_model.specs.Cursors.{CursorPlace, Within, at_cursor, read_cursor}
use Rattle.run_model.specs.BucketSteps.{items_at, cursor_at, set_place, set_items, do_first, do_next, names_given, new_loose, do_make, read_given, read_within, do_read, names_to_part, do_bpart}
use Rattle.run_model.specs.declared.effect.Effect.{Effect}
use Rattle.run_model.specs.declared.effect.Effect.TheVariants as effect
use Rattle.run_model.specs.EffectOf.{effect_of}
use Rattle.module_code.specs.Program.{Program}
use Rattle.run_model.specs.Effects.{after_clear}
use Rattle.run_model.specs.Steps.{Choice, do_effect, made_of, do_create, do_clean, do_concat, do_pass, label_registered, label_killed, text_of, saved_into, made_on}
use Rattle.run_model.specs.Steps.{value_of}
use Rattle.run_model.specs.Sound.{SoundNames, brigade_name, sum_below, count_named, count}
use Rattle.model_laws.specs.CursorLaws.{name_held, SoundCursors, StepKeepsCursors}
use Rattle.run_model.proofs.Updates.{upd_either}
use Rattle.run_model.proofs.Sums.{term_below}
use Rattle.run_model.proofs.Names.{count_none, count_append, count_cons}
use Rattle.model_laws.proofs.BrigadeLists.{brigade_splits_in_order, moves_keep_names}
use Rattle.run_model.proofs.CursorPlaces.{StandsThere, stands}
use Rattle.model_laws.proofs.SlotNames.{CountRises, slot_carried, part_rises}
use Rattle.model_laws.proofs.NamedPools.{on_named, made_under_named}
use Rattle.model_laws.proofs.BucketFrame.{IsFrame, SetsAsideAlive, alive_aside, framed}

-- A bucket that is in a list has a name that was given out.

pub in_brigade : (b n : ℕ) (r : Configuration) → SoundNames r → count_named n (items_at r b) ≤ count r n
in_brigade b n r s = elim (cases_lt b 9) [
  | inl lt ↦ (let term : count_named n (items_at r b) ≤ sum_below 9 (λ k. count_named n (items_at r k)) = term_below 9 b (λ k. count_named n (items_at r k)) lt in omega arith)
  | inr le ↦ (let none : count_named n (items_at r b) ≡ 0 = ap (λ (v : BrigadeVar). count_named n (items_of v)) (s.slots b le) ∙ count_none n in omega arith)
]

pub given_out : (b n : ℕ) (r : Configuration) → SoundNames r → 1 ≤ count_named n (items_at r b) → n < r.shared.next
given_out b n r s there = elim (cases_lt n r.shared.next) [
  | inl lt ↦ lt
  | inr le ↦ absurd (let none : count r n ≡ 0 = s.fresh n le in let all : count_named n (items_at r b) ≤ count r n = in_brigade b n r s in omega arith)
]

itself : (x : NamedBucket) (bs : List NamedBucket) → 1 ≤ count_named x.name (x ∷ bs)
itself x bs = (let one : ◌≡◌ {A = ℕ} (cond (x.name == x.name) 1 0) 1 = ap (λ (c : Bool). cond c 1 0) (eq-eqb x.name x.name refl) in omega (arith, one, count_cons x.name x bs))

pub found_there : (n : ℕ) (x : NamedBucket) (bs : List NamedBucket) → bucket_named n bs ≡ Some x → 1 ≤ count_named x.name bs
found_there n x bs is = (let one : 1 ≤ count_named x.name (x ∷ taken_out n bs) = itself x (taken_out n bs) in omega (arith, one, moves_keep_names.taken n x bs x.name is))

pub first_there : (k : ℕ) (bs : List NamedBucket) → first_place bs ≡ Some k → 1 ≤ count_named k bs
first_there k [] is = absurd (cc)
first_there k (x ∷ bs) is = (let same : x.name ≡ k = cc in subst (λ (m : ℕ). 1 ≤ count_named m (x ∷ bs)) same (itself x bs))

fewer_behind : (n : ℕ) (bs : List NamedBucket) → count_named n (drop 1 bs) ≤ count_named n bs
fewer_behind n [] = omega arith
fewer_behind n (x ∷ bs) = omega (arith, count_cons n x bs)

pub next_there : (at k : ℕ) (bs : List NamedBucket) → next_place at bs ≡ Some k → 1 ≤ count_named k bs
next_there at k bs is =
    let one : 1 ≤ count_named k (drop 1 (buckets_from at bs)) = first_there k (drop 1 (buckets_from at bs)) is in
    let whole : count_named k bs ≡ count_named k (stays (Some at) bs) + count_named k (buckets_from at bs) =
    sym (ap (count_named k) (brigade_splits_in_order (Some at) bs)) ∙ count_append k (stays (Some at) bs) (buckets_from at bs) in
    omega (arith, one, whole, fewer_behind k (buckets_from at bs))

pub part_there : (new point k : ℕ) (bs : List NamedBucket) → place_of (partition_answer new point bs) ≡ Some k → 1 ≤ count_named k (partitioned new point bs)
part_there new point k bs is = by_test (is_short point bs) is where
  before : (back : List NamedBucket) → place_of (place_before back) ≡ Some k → 1 ≤ count_named k back
  before [] is = absurd (cc)
  before (x ∷ back) is = first_there k (x ∷ back) is

  by_test : (c : Bool) → place_of (cond c Incomplete (place_before (back_from new point bs))) ≡ Some k → 1 ≤ count_named k (cond c bs (front_to point bs ++ back_from new point bs))
  by_test true is = absurd (cc)
  by_test false is = omega (arith, before (back_from new point bs) is, count_append k (front_to point bs) (back_from new point bs))

-- Cursors that are set.

set_held : (c : ℕ) (v : Cursor) (r : Configuration) → ((n : ℕ) → name_held v ≡ Some n → n < r.shared.next) → SoundCursors r → SoundCursors (set_cursor c v r)
unfolding set_cursor
set_held c v r held s = record { given = λ k n e. elim (upd_either r.call.cursors c k v) [ inl p ↦ held n (sym (ap name_held p.1) ∙ e) | inr p ↦ s.given k n (sym (ap name_held p.1) ∙ e) ] }

end_held : (v : BrigadeVar) (n : ℕ) → name_held (cursor_at v None) ≡ Some n → brigade_name v ≡ Some n
end_held var.Null n e = absurd (cc)
end_held var.Gone n e = absurd (cc)
end_held (var.Live v) n e = e

place_held : (c b : ℕ) (place : Option ℕ) (r : Configuration) → ((k : ℕ) → place ≡ Some k → k < r.shared.next) → ((n : ℕ) → brigade_name (r.instance.brigades b) ≡ Some n → n < r.shared.next)
    → SoundCursors r → SoundCursors (set_place c b place r)
place_held c b place r found named s = set_held c (cursor_at (r.instance.brigades b) place) r (λ n e. held place found n e) s where
  held : (o : Option ℕ) → ((k : ℕ) → o ≡ Some k → k < r.shared.next) → (n : ℕ) → name_held (cursor_at (r.instance.brigades b) o) ≡ Some n → n < r.shared.next
  held None found n e = named n (end_held (r.instance.brigades b) n e)
  held (Some k) found n e = found n e

held_frame : IsFrame SoundCursors
unfolding set_brigade set_loose set_number with_pools
held_frame = record {
  items = λ b xs r s. record { given = s.given };
  loose = λ xs r s. record { given = s.given };
  numbers = λ n v r s. record { given = s.given };
  buffer = λ bytes r s. record { given = s.given };
  left = λ r s. record { given = s.given };
  names = λ k r s. record { given = λ c n e. (let lt : n < r.shared.next = s.given c n e in omega arith) };
  refs = λ target files r lives s. record { given = s.given };
}

new_held : (c : ℕ) (b : Bucket) (r : Configuration) → SoundCursors r → SoundCursors (new_loose c b r)
unfolding set_loose
new_held c b r s = set_held c (cursor.At r.shared.next) _ (λ n e. (let is : r.shared.next ≡ n = same_Some r.shared.next n e in omega arith)) (held_frame.loose _ _ (held_frame.names 1 r s))

first_held : (c b : ℕ) (r : Configuration) → SoundNames r → SoundCursors r → SoundCursors (do_first c b r)
first_held c b r names s = place_held c b (first_place (items_at r b)) r (λ k is. given_out b k r names (first_there k (items_at r b) is)) (names.given b) s

next_held : (d : ℕ) (at : CursorPlace) (r : Configuration) → SoundNames r → SoundCursors r → SoundCursors (do_next d at r)
next_held d (Within b x) r names s = place_held d b (next_place x.name (items_at r b)) r (λ k is. given_out b k r names (next_there x.name k (items_at r b) is)) (names.given b) s
next_held d at r names s = s

make_held : (c : ℕ) (o : Option Bucket) (r : Configuration) → SoundCursors r → SoundCursors (do_make c o r)
make_held c None r s = s
make_held c (Some b) r s = new_held c b r s

read_held : (given : Option (List ℕ)) (at : CursorPlace) (r : Configuration) → StandsThere r at → SoundNames r → SoundCursors r → SoundCursors (do_read given at r)
unfolding set_brigade
read_held given (Within b x) r there names s = by_given (read_given given x.bucket.content) where
  lt : x.name < r.shared.next
  lt = given_out b x.name r names (found_there x.name x (items_at r b) there.1)

  by_given : (o : Option (List ℕ)) → SoundCursors (read_within b x o r)
  by_given None = set_held read_cursor cursor.Unset r (λ n e. absurd (cc)) s
  by_given (Some bytes) =
      set_held read_cursor (cursor.At x.name) _ (λ n e. (let is : x.name ≡ n = same_Some x.name n e in let below : x.name < r.shared.next = lt in omega arith))
      (held_frame.items b _ _ (held_frame.names _ r s))
read_held given at r there names s = s

bpart_held : (b point c : ℕ) (r : Configuration) → SoundNames r → SoundCursors r → SoundCursors (do_bpart b point c r)
unfolding set_brigade
bpart_held b point c r names s =
    let cut : Configuration = set_items b (partitioned r.shared.next point (items_at r b)) (names_given (names_to_part point (items_at r b)) r) in
    place_held c b (place_of (partition_answer r.shared.next point (items_at r b))) cut found
    (λ n e. (let lt : n < r.shared.next = names.given b n ((slot_carried b (partitioned r.shared.next point (items_at r b)) r b).name n e) in omega arith))
    (held_frame.items b (partitioned r.shared.next point (items_at r b)) (names_given (names_to_part point (items_at r b)) r) (held_frame.names (names_to_part point (items_at r b)) r s)) where
      found : (k : ℕ) → place_of (partition_answer r.shared.next point (items_at r b)) ≡ Some k → k < r.shared.next + names_to_part point (items_at r b)
      found k is = elim (cases_lt k (r.shared.next + names_to_part point (items_at r b))) [
        | inl lt ↦ lt
        | inr le ↦ absurd (let rises : CountRises r.shared.next (r.shared.next + names_to_part point (items_at r b)) k (count_named k (items_at r b))
            (count_named k (partitioned r.shared.next point (items_at r b))) = part_rises r.shared.next point k (items_at r b) in
            let none : count r k ≡ 0 = names.fresh k (omega arith) in
            omega (arith, none, in_brigade b k r names, rises.later le, part_there r.shared.next point k (items_at r b) is))
      ]

-- Steps.

-- where cursors stay
stay_held : (r new : Configuration) → new.call.cursors ≡ r.call.cursors → r.shared.next ≤ new.shared.next → SoundCursors r → SoundCursors new
stay_held r new cursors rises s = record { given = λ c n e. (let lt : n < r.shared.next = s.given c n (ap (λ (g : ℕ → Cursor). name_held (g c)) (sym cursors) ∙ e) in omega arith) }

effect_cursors : (p : Program) (choice : Choice) (e : Effect) (r : Configuration) → SetsAsideAlive r e → SoundNames r → SoundCursors r → SoundCursors (do_effect p choice e r)
unfolding set_brigade set_pool with_pools run_down
effect_cursors p choice (effect.MakePool q) r alive names s = made_under_named SoundCursors p q r s (λ parent is. stay_held r _ refl (omega arith) s)
effect_cursors p choice (effect.EmptyPool k q) r alive names s = on_named SoundCursors (after_clear k) (pool_named r (pool.Own q)) r s (λ n is. stay_held r (after_clear k n r) refl (omega arith) s)
effect_cursors p choice (effect.Register k q t) r alive names s = on_named SoundCursors (label_registered k (text_of p t)) (pool_named r q) r s (λ n is. stay_held r _ refl (omega arith) s)
effect_cursors p choice (effect.Kill q t) r alive names s = on_named SoundCursors (label_killed (text_of p t)) (pool_named r q) r s (λ n is. stay_held r _ refl (omega arith) s)
effect_cursors p choice (effect.MakeBrigade o) r alive names s = stay_held r (do_create p o r) refl (omega arith) s
effect_cursors p choice (effect.Clean b) r alive names s = stay_held r (do_clean b r) refl (omega arith) s
effect_cursors p choice (effect.Concat a b) r alive names s = stay_held r (do_concat a b r) refl (omega arith) s
effect_cursors p choice (effect.Save o b) r alive names s =
    on_named SoundCursors (saved_into o b) (made_on (r.instance.brigades o)) r s (λ target is. stay_held r (saved_into o b target r) refl (omega arith) s)
effect_cursors p choice (effect.Pass b) r alive names s = stay_held r (do_pass b r) refl (omega arith) s
effect_cursors p choice effect.Return r alive names s = record { given = λ c n is. absurd (cc) }
effect_cursors p choice (effect.First c b) r alive names s = first_held c b r names s
effect_cursors p choice (effect.Next d c) r alive names s = next_held d (at_cursor r c) r names s
effect_cursors p choice (effect.PartBrigade b x c) r alive names s = bpart_held b (value_of r x) c r names s
effect_cursors p choice (effect.Make c source) r alive names s = make_held c (made_of p r source) r s
effect_cursors p choice (effect.Read c) r alive names s = read_held choice.given (at_cursor r c) r (stands r (r.call.cursors c)) names s
effect_cursors p choice e r alive names s = framed SoundCursors held_frame p choice e r refl refl alive s

pub step_cursors : StepKeepsCursors
step_cursors p choice i r may names s = effect_cursors p choice (effect_of i) r (alive_aside p i r may) names s
