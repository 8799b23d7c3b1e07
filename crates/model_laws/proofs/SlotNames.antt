-- How many buckets of a name there are where the buckets of one brigade change, or the loose ones.
use Rattle.std.proofs.Common.{◌≡◌, ℕ, ◌+◌, ◌^◌, ◌<◌, ◌≤◌, Bool, true, false, ◌==◌, cond, nat_le, nat_lt, List, [], ◌∷◌, ◌++◌, Option, Some, None, is_some, inl, inr, refl, sym, ◌∙◌, ap, subst, arith}
use Rattle.std.proofs.Common.{ne_eqb}
use Rattle.std.proofs.lemmas.Bool.Decides.{nat_tests, eqb_tells}
use Rattle.run_model.specs.declared.bucket.Bucket.{Bucket}
use Rattle.run_model.specs.declared.bucket.Content.{Content}
use Rattle.run_model.specs.declared.bucket.Content.TheVariants as content
use Rattle.run_model.specs.declared.bucket.NamedBucket.{NamedBucket}
use Rattle.run_model.specs.declared.bucket.BrigadeVar.{BrigadeVar}
use Rattle.run_model.specs.declared.bucket.Cursor.{Cursor}
use Rattle.run_model.specs.declared.bucket.Cursor.TheVariants as cursor
use Rattle.run_model.specs.Indexed.{upd}
use Rattle.run_model.specs.Cutting.{read_of, read_as, read_limit}
use Rattle.run_model.specs.BrigadeLists.{buckets_before, buckets_from, first_bucket, bucket_named, taken_out, put_head, put_tail, put_before, stays, moves, bucket_across, partitioned, SplitRefusal}
use Rattle.run_model.specs.BrigadeLists.{split_refusal, bucket_split}
use Rattle.model_laws.specs.BrigadeLaws.{SameBytes, may_split}
use Rattle.run_model.specs.State.{Configuration, items_of, set_brigade, set_loose, set_cursor, with_pools}
use Rattle.run_model.specs.Effects.{with_items, aside_named}
use Rattle.run_model.specs.Cursors.{CursorPlace, AtLoose, Within, read_cursor}
use Rattle.run_model.specs.declared.effect.Side.{Side}
use Rattle.run_model.specs.declared.effect.Side.TheVariants.{AtTail, AtHead}
use Rattle.run_model.specs.Steps.{put_at}
use Rattle.run_model.specs.BucketSteps.{set_items, items_at, do_unlink, do_delete, put_into, do_before, name_given, names_given, new_loose, do_make, names_to_split, split_there, do_split, changed_at}
use Rattle.run_model.specs.BucketSteps.{aside_into, read_given, rest_named, first_read, bucket_read, has_rest, names_if, names_to_read, read_within, do_read, place_at, do_bsplit, names_to_part}
use Rattle.run_model.specs.BucketSteps.{do_bpart}
use Rattle.run_model.specs.Sound.{NamesStep, sum_below, count_named, count}
use Rattle.run_model.proofs.Sums.{sum_below_upd}
use Rattle.run_model.proofs.Names.{count_none, count_append, count_cons, count_map, Carried, carried_same, filled_carried, filled_items, at_each}
use Rattle.model_laws.proofs.BrigadeLists.{brigade_splits_in_order, moves_keep_names, split_keeps_bytes, partition_keeps_bytes, unsplit_is_unchanged}
use Rattle.run_model.proofs.CursorPlaces.{StandsThere}

-- How many buckets a name may have, where `old` had it and the names from `from` to `to` are given out.
pub record CountRises (from to n old new : ℕ) : Type 0 where
  pub kept : n < from → new ≤ old
  pub given : new ≤ old + 1
  pub later : to ≤ n → new ≤ old

pub no_more : (from to n old new : ℕ) → new ≤ old → CountRises from to n old new
no_more from to n old new le = record { kept = λ lt. le; given = omega arith; later = λ above. le }

pub one_more : (from to n old new : ℕ) → from ≤ n → n < to → new ≤ old + 1 → CountRises from to n old new
one_more from to n old new low high le = record { kept = λ lt. absurd (omega arith); given = le; later = λ above. absurd (omega arith) }

-- Where brigades keep their names, and of each name there are so many buckets.
pub rising_names : (r new : Configuration) → ((b : ℕ) → Carried (r.instance.brigades b) (new.instance.brigades b)) → r.shared.next ≤ new.shared.next → new.shared.next < 2 ^ 64
    → ((n : ℕ) → CountRises r.shared.next new.shared.next n (count r n) (count new n)) → NamesStep r new
rising_names r new carried rises limit counts = record {
  rises = rises;
  limit = limit;
  old = λ n lt. (counts n).kept lt;
  born = λ n le none. (let h : count new n ≤ count r n + 1 = (counts n).given in omega arith);
  fresh = λ n le none. (let h : count new n ≤ count r n = (counts n).later le in omega arith);
  named = λ b n h. inl ((carried b).name n h);
  apart = λ b c n hb hc. inl ((carried b).name n hb);
  slots = λ b le none. (carried b).null none;
}

-- The brigade of b has these buckets.
pub slot_counts : (b : ℕ) (items : List NamedBucket) (r : Configuration) (n : ℕ) → b < 9 → count (set_items b items r) n + count_named n (items_at r b) ≤ count r n + count_named n items
unfolding set_brigade
slot_counts b items r n lt =
    let filled : BrigadeVar = with_items items (r.instance.brigades b) in
    let all : sum_below 9 (λ k. count_named n (items_of (upd r.instance.brigades b filled k))) + count_named n (items_at r b) ≡ sum_below 9 (λ k. count_named n (items_at r k)) + count_named n
    (items_of filled)
    = sum_below_upd 9 b r.instance.brigades filled (λ x. count_named n (items_of x)) lt in
    let most : count_named n (items_of filled) ≤ count_named n items = filled_items n items (r.instance.brigades b) in
    omega arith

pub slot_carried : (b : ℕ) (items : List NamedBucket) (r : Configuration) (k : ℕ) → Carried (r.instance.brigades k) ((set_items b items r).instance.brigades k)
unfolding set_brigade
slot_carried b items r k = at_each Carried r.instance.brigades b (with_items items (r.instance.brigades b)) (filled_carried items (r.instance.brigades b)) carried_same k

-- Cursors have no part in it.
pub cursor_names : (c : ℕ) (v : Cursor) (r new : Configuration) → NamesStep r new → NamesStep r (set_cursor c v new)
unfolding set_cursor
cursor_names c v r new s = record { rises = s.rises; limit = s.limit; old = s.old; born = s.born; fresh = s.fresh; named = s.named; apart = s.apart; slots = s.slots }

all_carried : (r : Configuration) (k : ℕ) → Carried (r.instance.brigades k) (r.instance.brigades k)
all_carried r k = carried_same (r.instance.brigades k)

-- Moves.

taken_counts : (n : ℕ) (x : NamedBucket) (bs : List NamedBucket) → bucket_named x.name bs ≡ Some x → cond (x.name == n) 1 0 + count_named n (taken_out x.name bs) ≡ count_named n bs
taken_counts n x bs is = sym (count_cons n x (taken_out x.name bs)) ∙ moves_keep_names.taken x.name x bs n is

abbrev AddsOne : (NamedBucket → List NamedBucket → List NamedBucket) → Type 0
AddsOne insert = (x : NamedBucket) (bs : List NamedBucket) (n : ℕ) → count_named n (insert x bs) ≡ cond (x.name == n) 1 0 + count_named n bs

tail_counts : AddsOne put_tail
tail_counts x bs n = moves_keep_names.tail x bs n ∙ count_cons n x bs

head_counts : AddsOne put_head
head_counts x bs n = count_cons n x bs

before_counts : (at : ℕ) → AddsOne (put_before at)
before_counts at x bs n = moves_keep_names.before at x bs n ∙ count_cons n x bs

-- a bucket is taken out of its brigade
slot_taken : (n b : ℕ) (x : NamedBucket) (r : Configuration) → StandsThere r (Within b x) → count (set_items b (taken_out x.name (items_at r b)) r) n + cond (x.name == n) 1 0 ≤ count r n
slot_taken n b x r at =
    let slot : count (set_items b (taken_out x.name (items_at r b)) r) n + count_named n (items_at r b) ≤ count r n + count_named n
    (taken_out x.name (items_at r b)) = slot_counts b (taken_out x.name (items_at r b)) r n at.0 in
    omega (arith, slot, taken_counts n x (items_at r b) at.1)

pub unlink_names : (s : CursorPlace) (r : Configuration) → StandsThere r s → r.shared.next < 2 ^ 64 → NamesStep r (do_unlink s r)
unfolding set_brigade set_loose
unlink_names (Within b x) r at limit =
    rising_names r _ (slot_carried b (taken_out x.name (items_at r b)) r) (omega arith) limit (λ n. no_more _ _ n _ _ (omega (arith, slot_taken n b x r at, tail_counts x r.call.loose n)))
unlink_names s r at limit = rising_names r r (all_carried r) (omega arith) limit (λ n. no_more _ _ n _ _ (omega arith))

pub delete_names : (s : CursorPlace) (r : Configuration) → StandsThere r s → r.shared.next < 2 ^ 64 → NamesStep r (do_delete s r)
unfolding set_brigade set_loose
delete_names (Within b x) r at limit = rising_names r _ (slot_carried b (taken_out x.name (items_at r b)) r) (omega arith) limit (λ n. no_more _ _ n _ _ (omega (arith, slot_taken n b x r at)))
delete_names (AtLoose x) r at limit = rising_names r _ (all_carried r) (omega arith) limit (λ n. no_more _ _ n _ _ (omega (arith, taken_counts n x r.call.loose at)))
delete_names s r at limit = rising_names r r (all_carried r) (omega arith) limit (λ n. no_more _ _ n _ _ (omega arith))

put_names : (insert : NamedBucket → List NamedBucket → List NamedBucket) (b : ℕ) (s : CursorPlace) (r : Configuration) → AddsOne insert → b < 9 → StandsThere r s → r.shared.next < 2 ^ 64
    → NamesStep r (put_into insert b s r)
unfolding set_brigade set_loose
put_names insert b (AtLoose x) r adds lt at limit =
    rising_names r _ (slot_carried b (insert x (items_at r b)) (set_loose (taken_out x.name r.call.loose) r)) (omega arith) limit (λ n. no_more _ _ n _ _ (fewer n)) where
      fewer : (n : ℕ) → count (put_into insert b (AtLoose x) r) n ≤ count r n
      fewer n =
          let left : Configuration = set_loose (taken_out x.name r.call.loose) r in
          let slot : count (set_items b (insert x (items_at r b)) left) n + count_named n (items_at r b) ≤ count left n + count_named n (insert x (items_at r b)) =
          slot_counts b (insert x (items_at r b)) left n lt in
          omega (arith, slot, taken_counts n x r.call.loose at, adds x (items_at r b) n)
put_names insert b s r adds lt at limit = rising_names r r (all_carried r) (omega arith) limit (λ n. no_more _ _ n _ _ (omega arith))

pub insert_names : (side : Side) (b : ℕ) (s : CursorPlace) (r : Configuration) → b < 9 → StandsThere r s → r.shared.next < 2 ^ 64 → NamesStep r (put_into (put_at side) b s r)
insert_names AtTail b s r lt at limit = put_names put_tail b s r tail_counts lt at limit
insert_names AtHead b s r lt at limit = put_names put_head b s r head_counts lt at limit

pub before_names : (s t : CursorPlace) (r : Configuration) → StandsThere r s → StandsThere r t → r.shared.next < 2 ^ 64 → NamesStep r (do_before s t r)
before_names s (Within b y) r at there limit = put_names (put_before y.name) b s r (before_counts y.name) there.0 at limit
before_names s t r at there limit = rising_names r r (all_carried r) (omega arith) limit (λ n. no_more _ _ n _ _ (omega arith))

-- Brigades that are cut.

pub bsplit_names : (b : ℕ) (place : CursorPlace) (a : ℕ) (r : Configuration) → b < 9 → a < 9 → r.shared.next < 2 ^ 64 → NamesStep r (do_bsplit b place a r)
unfolding set_brigade
bsplit_names b place a r lt below limit = rising_names r _ carried (omega arith) limit (λ n. no_more _ _ n _ _ (fewer n)) where
  carried : (k : ℕ) → Carried (r.instance.brigades k) ((do_bsplit b place a r).instance.brigades k)
  carried k =
      let first : Carried (r.instance.brigades k) ((set_items b (stays (place_at place) (items_at r b)) r).instance.brigades k) = slot_carried b (stays (place_at place) (items_at r b)) r k in
      let second : Carried ((set_items b (stays (place_at place) (items_at r b)) r).instance.brigades k) ((do_bsplit b place a r).instance.brigades k)
      = slot_carried a (moves (place_at place) (items_at r b)) (set_items b (stays (place_at place) (items_at r b)) r) k in
      record { name = λ n h. first.name n (second.name n h); null = λ h. second.null (first.null h) }

  fewer : (n : ℕ) → count (do_bsplit b place a r) n ≤ count r n
  fewer n =
      let cut : Configuration = set_items b (stays (place_at place) (items_at r b)) r in
      let first : count cut n + count_named n (items_at r b) ≤ count r n + count_named n (stays (place_at place) (items_at r b)) = slot_counts b (stays (place_at place) (items_at r b)) r n lt in
      let second : count (do_bsplit b place a r) n + count_named n (items_at cut a) ≤ count cut n + count_named n (moves (place_at place) (items_at r b)) =
      slot_counts a (moves (place_at place) (items_at r b)) cut n below in
      omega (
        arith,
        first,
        second,
        count_append n (stays (place_at place) (items_at r b)) (moves (place_at place) (items_at r b)),
        ap (count_named n) (brigade_splits_in_order (place_at place) (items_at r b)),
      )

-- the buckets of b become these, of which the new name is one's at most
remade_names : (b names : ℕ) (items : List NamedBucket) (r : Configuration) → b < 9 → r.shared.next + names < 2 ^ 64
    → ((n : ℕ) → CountRises r.shared.next (r.shared.next + names) n (count_named n (items_at r b)) (count_named n items)) → NamesStep r (set_items b items (names_given names r))
unfolding set_brigade
remade_names b names items r lt limit same =
    rising_names r (set_items b items (names_given names r)) (slot_carried b items r) (omega arith) limit (λ n. remade n (same n) (slot_counts b items r n lt)) where
      remade : (n : ℕ) → CountRises r.shared.next (r.shared.next + names) n (count_named n (items_at r b)) (count_named n items)
          → count (set_items b items r) n + count_named n (items_at r b) ≤ count r n + count_named n items
          → CountRises r.shared.next (r.shared.next + names) n (count r n) (count (set_items b items r) n)
      remade n h slot = record {
        kept = λ lt. (let less : count_named n items ≤ count_named n (items_at r b) = h.kept lt in omega arith);
        given = (let less : count_named n items ≤ count_named n (items_at r b) + 1 = h.given in omega arith);
        later = λ le. (let less : count_named n items ≤ count_named n (items_at r b) = h.later le in omega arith);
      }

same_rises : (new n : ℕ) (old left : List NamedBucket) → SameBytes new old left → CountRises new (new + 1) n (count_named n old) (count_named n left)
same_rises new n old left s = elim (eqb_tells n new) [
  | inl p ↦ one_more _ _ n _ _ (omega (arith, p.1)) (omega (arith, p.1)) (subst (λ (k : ℕ). count_named k left ≤ count_named k old + 1) (sym p.1) s.one)
  | inr p ↦ no_more _ _ n _ _ (omega (arith, s.others n p.1))
]

pub part_rises : (new point n : ℕ) (bs : List NamedBucket) → CountRises new (new + names_to_part point bs) n (count_named n bs) (count_named n (partitioned new point bs))
part_rises new point n bs = by_across (bucket_across point bs) refl where
  by_across : (o : Option NamedBucket) → bucket_across point bs ≡ o → CountRises new (new + names_if (is_some o)) n (count_named n bs) (count_named n (partitioned new point bs))
  by_across None is = no_more _ _ n _ _ (omega (arith, ap (count_named n) (unsplit_is_unchanged new point bs is)))
  by_across (Some b) is = same_rises new n bs (partitioned new point bs) (partition_keeps_bytes new point bs)

pub bpart_names : (b point c : ℕ) (r : Configuration) → b < 9 → r.shared.next + names_to_part point (items_at r b) < 2 ^ 64 → NamesStep r (do_bpart b point c r)
bpart_names b point c r lt limit =
    cursor_names c _ r _ (remade_names b (names_to_part point (items_at r b)) (partitioned r.shared.next point (items_at r b)) r lt limit (λ n. part_rises r.shared.next point n (items_at r b)))

-- Buckets that are split, read, set aside and made.

pub split_names : (n : ℕ) (s : CursorPlace) (r : Configuration) → StandsThere r s → r.shared.next + names_to_split n s < 2 ^ 64 → NamesStep r (do_split n s r)
unfolding set_brigade
split_names n (Within b x) r at limit = by_refusal (split_refusal n x) refl limit where
  by_refusal : (o : Option SplitRefusal) → split_refusal n x ≡ o → r.shared.next + cond (is_some o) 0 1 < 2 ^ 64 → NamesStep r (cond (is_some o) r (split_there n (Within b x) r))
  by_refusal (Some k) is limit = rising_names r r (all_carried r) (omega arith) (omega arith) (λ n. no_more _ _ n _ _ (omega arith))
  by_refusal None is limit = remade_names b 1 (bucket_split r.shared.next x.name n (items_at r b)) r at.0 limit
      (λ m. same_rises r.shared.next m (items_at r b) _ (split_keeps_bytes r.shared.next x.name n (items_at r b) (subst (may_split n) (sym at.1) is)))
split_names n s r at limit = rising_names r r (all_carried r) (omega arith) (omega arith) (λ n. no_more _ _ n _ _ (omega arith))

at_most : (c : Bool) → cond c 1 0 ≤ 1
at_most true = omega arith
at_most false = omega arith

-- the rest of a read has the new name, where there is one
rest_rises : (new n : ℕ) (bytes : List ℕ) (b : Bucket) → CountRises new (new + names_if (has_rest b.content)) n 0 (count_named n (rest_named new (read_of bytes b).1))
rest_rises new n bytes b = of_content b.content where
  none : (to : ℕ) → CountRises new to n 0 (count_named n [])
  none to = no_more _ _ n _ _ (omega (arith, count_none n))

  one : (rest : Bucket) → CountRises new (new + 1) n 0 (count_named n (record { name = new; bucket = rest } ∷ []))
  one rest = elim (eqb_tells n new) [
    | inl p ↦ one_more _ _ n _ _ (omega (arith, p.1)) (omega (arith, p.1)) (omega (arith, at_most (new == n), count_cons n (record { name = new; bucket = rest }) [], count_none n))
    | inr p ↦ no_more _ _ n _ _ (let other : ◌≡◌ {A = ℕ} (cond (new == n) 1 0) 0 = ap (λ (c : Bool). cond c 1 0) (ne_eqb new n (λ e. p.1 (sym e))) in
        omega (arith, other, count_cons n (record { name = new; bucket = rest }) [], count_none n))
  ]

  longer : (len limit : ℕ) → nat_le len limit ≡ false → nat_lt limit len ≡ true
  longer len limit is = grind (arith, nat_tests)

  of_length : (len : ℕ) (rest : Bucket) (c : Bool) → nat_le len read_limit ≡ c → CountRises new (new + names_if (nat_lt read_limit len)) n 0 (count_named n (rest_named new (cond c None (Some rest))))
  of_length len rest true is = none _
  of_length len rest false is = subst (λ (t : Bool). CountRises new (new + names_if t) n 0 (count_named n (record { name = new; bucket = rest } ∷ []))) (sym (longer len read_limit is)) (one rest)

  of_content : (c : Content) → CountRises new (new + names_if (has_rest c)) n 0 (count_named n (rest_named new (read_as bytes b c).1))
  of_content (content.Bytes bs) = none _
  of_content (content.Range file start len) = of_length len _ (nat_le len read_limit) refl
  of_content content.Nothing = none _

-- what is read keeps its name, and the rest comes to it
read_counts : (new n : ℕ) (bytes : List ℕ) (x : NamedBucket) (bs : List NamedBucket) → bucket_named x.name bs ≡ Some x
    → count_named n (bucket_read new x.name bytes bs) ≡ count_named n bs + count_named n (rest_named new (read_of bytes x.bucket).1)
read_counts new n bytes x bs is = omega (
  arith,
  count_append n (buckets_before x.name bs) (first_read new bytes (buckets_from x.name bs)),
  of_first (buckets_from x.name bs) is,
  count_append n (buckets_before x.name bs) (buckets_from x.name bs),
  ap (count_named n) (brigade_splits_in_order (Some x.name) bs),
) where
  of_first : (ys : List NamedBucket) → first_bucket ys ≡ Some x → count_named n (first_read new bytes ys) ≡ count_named n ys + count_named n (rest_named new (read_of bytes x.bucket).1)
  of_first [] is = absurd (cc)
  of_first (y ∷ ys) is =
      let same : y ≡ x = cc in
      let rest : count_named n (rest_named new (read_of bytes y.bucket).1) ≡ count_named n (rest_named new (read_of bytes x.bucket).1) =
      ap (λ (z : NamedBucket). count_named n (rest_named new (read_of bytes z.bucket).1)) same in
      omega (
        arith,
        rest,
        count_cons n (record y { bucket = (read_of bytes y.bucket).0 }) (rest_named new (read_of bytes y.bucket).1 ++ ys),
        count_append n (rest_named new (read_of bytes y.bucket).1) ys,
        count_cons n y ys,
      )

pub read_names : (given : Option (List ℕ)) (s : CursorPlace) (r : Configuration) → StandsThere r s → r.shared.next + names_to_read s < 2 ^ 64 → NamesStep r (do_read given s r)
read_names given (Within b x) r at limit = by_given (read_given given x.bucket.content) where
  rises : (bytes : List ℕ) (n : ℕ)
      → CountRises r.shared.next (r.shared.next + names_if (has_rest x.bucket.content)) n (count_named n (items_at r b)) (count_named n (bucket_read r.shared.next x.name bytes (items_at r b)))
  rises bytes n =
      let h : CountRises r.shared.next (r.shared.next + names_if (has_rest x.bucket.content)) n 0 (count_named n (rest_named r.shared.next (read_of bytes x.bucket).1)) =
      rest_rises r.shared.next n bytes x.bucket in
      let all : count_named n (bucket_read r.shared.next x.name bytes (items_at r b)) ≡ count_named n (items_at r b) + count_named n (rest_named r.shared.next (read_of bytes x.bucket).1) =
      read_counts r.shared.next n bytes x (items_at r b) at.1 in
      record {
        kept = λ lt. omega (arith, all, h.kept lt);
        given = omega (arith, all, h.given);
        later = λ le. omega (arith, all, h.later le);
      }

  by_given : (o : Option (List ℕ)) → NamesStep r (read_within b x o r)
  by_given None = cursor_names read_cursor cursor.Unset r r (rising_names r r (all_carried r) (omega arith) (omega arith) (λ n. no_more _ _ n _ _ (omega arith)))
  by_given (Some bytes) =
      cursor_names read_cursor (cursor.At x.name) r _ (remade_names b (names_if (has_rest x.bucket.content)) (bucket_read r.shared.next x.name bytes (items_at r b)) r at.0 limit (rises bytes))
read_names given s r at limit = rising_names r r (all_carried r) (omega arith) (omega arith) (λ n. no_more _ _ n _ _ (omega arith))

-- a new loose bucket
pub new_names : (c : ℕ) (b : Bucket) (r : Configuration) → r.shared.next + 1 < 2 ^ 64 → NamesStep r (new_loose c b r)
unfolding set_loose
new_names c b r limit = cursor_names c (cursor.At r.shared.next) r _
    (rising_names r (set_loose (put_tail (record { name = r.shared.next; bucket = b }) r.call.loose) (name_given r)) (all_carried r) (omega arith) limit rises) where
      rises : (n : ℕ) → CountRises r.shared.next (r.shared.next + 1) n (count r n) (count (set_loose (put_tail (record { name = r.shared.next; bucket = b }) r.call.loose) (name_given r)) n)
      rises n =
          let all : count_named n (put_tail (record { name = r.shared.next; bucket = b }) r.call.loose) ≡ cond (r.shared.next == n) 1 0 + count_named n r.call.loose =
          tail_counts (record { name = r.shared.next; bucket = b }) r.call.loose n in
          elim (eqb_tells n r.shared.next) [
            | inl p ↦ one_more _ _ n _ _ (omega (arith, p.1)) (omega (arith, p.1)) (omega (arith, all, at_most (r.shared.next == n)))
            | inr p ↦ no_more _ _ n _ _ (let other : ◌≡◌ {A = ℕ} (cond (r.shared.next == n) 1 0) 0 =
                ap (λ (c : Bool). cond c 1 0) (ne_eqb r.shared.next n (λ e. p.1 (sym e))) in omega (arith, all, other))
          ]

-- a bucket that is made, where it is
pub make_names : (c : ℕ) (o : Option Bucket) (r : Configuration) → r.shared.next + 1 < 2 ^ 64 → NamesStep r (do_make c o r)
make_names c None r limit = rising_names r r (all_carried r) (omega arith) (omega arith) (λ n. no_more _ _ n _ _ (omega arith))
make_names c (Some b) r limit = new_names c b r limit

-- a change of one bucket that leaves its name
changed_counts : (at n : ℕ) (change : NamedBucket → NamedBucket) → ((x : NamedBucket) → (change x).name ≡ x.name) → (bs : List NamedBucket) → count_named n (changed_at at change bs) ≡ count_named n bs
changed_counts at n change same bs = count_map n (λ b. cond (b.name == at) (change b) b) (λ b. by_name b (b.name == at)) bs where
  by_name : (b : NamedBucket) (c : Bool) → (cond c (change b) b).name ≡ b.name
  by_name b true = same b
  by_name b false = refl

pub aside_names : (s : CursorPlace) (target : ℕ) (r : Configuration) → StandsThere r s → r.shared.next < 2 ^ 64 → NamesStep r (aside_into s target r)
unfolding set_brigade set_loose with_pools
aside_names (Within b x) target r at limit =
    rising_names r _ (slot_carried b (changed_at x.name (aside_named r.shared.pools target) (items_at r b)) r) (omega arith) limit (λ n. no_more _ _ n _ _ (fewer n)) where
      fewer : (n : ℕ) → count (aside_into (Within b x) target r) n ≤ count r n
      fewer n =
          let slot : count (set_items b (changed_at x.name (aside_named r.shared.pools target) (items_at r b)) r) n + count_named n (items_at r b) ≤ count r n + count_named n
          (changed_at x.name (aside_named r.shared.pools target) (items_at r b))
          = slot_counts b (changed_at x.name (aside_named r.shared.pools target) (items_at r b)) r n at.0 in
          omega (arith, slot, changed_counts x.name n (aside_named r.shared.pools target) (λ y. refl) (items_at r b))
aside_names (AtLoose x) target r at limit =
    rising_names r _ (all_carried r) (omega arith) limit (λ n. no_more _ _ n _ _ (omega (arith, changed_counts x.name n (aside_named r.shared.pools target) (λ y. refl) r.call.loose)))
aside_names s target r at limit = rising_names r r (all_carried r) (omega arith) limit (λ n. no_more _ _ n _ _ (omega arith))
