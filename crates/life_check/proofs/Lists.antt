-- Lists of buckets: what is true of each, what a brigade may hold, and which bucket is found by its name, where buckets are taken
-- out, put in, moved and changed.
use Rattle.std.proofs.Common.{◌≡◌, ◌≢◌, ℕ, ◌≤◌, Bool, true, false, ◌&&◌, ◌||◌, ◌==◌, cond, List, [], ◌∷◌, ◌++◌, append-nil, map, drop, Option, Some, None, All, refl, sym, ◌∙◌, ap, subst, arith}
use Rattle.std.proofs.Common.{eqb-true, eq-eqb, ne_eqb}
use Rattle.std.proofs.lemmas.Bool.{or_parts, or_from}
use Rattle.std.proofs.lemmas.List.Folds.{list_any-append}
use Rattle.std.proofs.lemmas.List.Elements.{All-nil, All-cons, All-head, All-tail}
use Rattle.run_model.specs.declared.bucket.Kind.{Kind}
use Rattle.run_model.specs.declared.bucket.Kind.TheVariants as kind
use Rattle.run_model.specs.declared.bucket.NamedBucket.{NamedBucket}
use Rattle.run_model.specs.Buckets.{is_data_kind, is_eos_kind, is_data, is_eos, has_data, has_eos, data_after_eos}
use Rattle.run_model.specs.BrigadeLists.{buckets_before, buckets_from, first_bucket, bucket_named, taken_out, put_head, put_tail, put_before}
use Rattle.run_model.specs.BucketSteps.{changed_at}
use Rattle.run_model.specs.Sound.{count_named}
use Rattle.model_laws.proofs.BrigadeLists.{before_and_from}
use Rattle.run_model.proofs.EachBucket as buckets
use Rattle.run_model.proofs.CursorPlaces.{named_is}
use Rattle.model_laws.proofs.CursorNames.{found_there}
use Rattle.life_state.specs.declared.parts.Contents.{Contents}
use Rattle.life_state.specs.declared.parts.Contents.TheVariants.{Empty, Flushes, NoEos, NoLateData, Any}
use Rattle.life_state.specs.declared.parts.Classes.{Classes}
use Rattle.life_state.specs.Order.{content_leq, content_join}
use Rattle.life_state.specs.Rules.{concat_content, content_of, tail_content, head_content, before_eos, before_data, before_content}
use Rattle.life_check.specs.Meaning.{class_has, HoldsOfEach, HoldsContents}

-- What is true of each bucket.

pub each_of_all : (P : NamedBucket → Type 0) (xs : List NamedBucket) → All P xs → HoldsOfEach P xs
unfolding HoldsOfEach
each_of_all P [] h = tt
each_of_all P (x ∷ xs) h = (All-head P x xs h, each_of_all P xs (All-tail P x xs h))

pub all_of_each : (P : NamedBucket → Type 0) (xs : List NamedBucket) → HoldsOfEach P xs → All P xs
unfolding HoldsOfEach
all_of_each P [] h = All-nil P
all_of_each P (x ∷ xs) h = All-cons P x xs (h.0) (all_of_each P xs (h.1))

pub each_none : (P : NamedBucket → Type 0) → HoldsOfEach P []
unfolding HoldsOfEach
each_none P = tt

pub each_cons : (P : NamedBucket → Type 0) (x : NamedBucket) (xs : List NamedBucket) → P x → HoldsOfEach P xs → HoldsOfEach P (x ∷ xs)
unfolding HoldsOfEach
each_cons P x xs here rest = (here, rest)

pub each_append : (P : NamedBucket → Type 0) (xs ys : List NamedBucket) → HoldsOfEach P xs → HoldsOfEach P ys → HoldsOfEach P (xs ++ ys)
unfolding HoldsOfEach
each_append P [] ys h k = k
each_append P (x ∷ xs) ys h k = (h.0, each_append P xs ys (h.1) k)

pub each_more : (P Q : NamedBucket → Type 0) → ((x : NamedBucket) → P x → Q x) → (xs : List NamedBucket) → HoldsOfEach P xs → HoldsOfEach Q xs
unfolding HoldsOfEach
each_more P Q more [] h = tt
each_more P Q more (x ∷ xs) h = (more x (h.0), each_more P Q more xs (h.1))

pub each_map : (P Q : NamedBucket → Type 0) (f : NamedBucket → NamedBucket) → ((x : NamedBucket) → P x → Q (f x)) → (xs : List NamedBucket) → HoldsOfEach P xs → HoldsOfEach Q (map f xs)
unfolding HoldsOfEach
each_map P Q f more [] h = tt
each_map P Q f more (x ∷ xs) h = (more x (h.0), each_map P Q f more xs (h.1))

module _ (P : NamedBucket → Type 0) (n : ℕ) (xs : List NamedBucket) where
  pub each_before : HoldsOfEach P xs → HoldsOfEach P (buckets_before n xs)
  each_before h = each_of_all P (buckets_before n xs) (buckets.each_before P n xs (all_of_each P xs h))

  pub each_from : HoldsOfEach P xs → HoldsOfEach P (buckets_from n xs)
  each_from h = each_of_all P (buckets_from n xs) (buckets.each_from P n xs (all_of_each P xs h))

  pub each_taken_out : HoldsOfEach P xs → HoldsOfEach P (taken_out n xs)
  each_taken_out h = each_of_all P (taken_out n xs) (buckets.each_taken_out P n xs (all_of_each P xs h))

  pub each_put_before : (x : NamedBucket) → P x → HoldsOfEach P xs → HoldsOfEach P (put_before n x xs)
  each_put_before x here h = each_of_all P (put_before n x xs) (buckets.each_put_before P n x xs here (all_of_each P xs h))

  -- the bucket that is found is one of them
  pub each_named : (x : NamedBucket) → bucket_named n xs ≡ Some x → HoldsOfEach P xs → P x
  each_named x is h = buckets.of_named P n x xs is (all_of_each P xs h)

pub each_put_tail : (P : NamedBucket → Type 0) (x : NamedBucket) (xs : List NamedBucket) → P x → HoldsOfEach P xs → HoldsOfEach P (put_tail x xs)
each_put_tail P x xs here h = each_append P xs (x ∷ []) h (each_cons P x [] here (each_none P))

-- Which bucket is found by its name.

abbrev pub or_found : Option NamedBucket → Option NamedBucket → Option NamedBucket
or_found None second = second
or_found (Some x) second = Some x

found_by : (c : Bool) (x : NamedBucket) (xs ys : List NamedBucket) → first_bucket (cond c (x ∷ xs) ys) ≡ cond c (Some x) (first_bucket ys)
found_by true x xs ys = refl
found_by false x xs ys = refl

pub named_cons : (n : ℕ) (x : NamedBucket) (xs : List NamedBucket) → bucket_named n (x ∷ xs) ≡ cond (x.name == n) (Some x) (bucket_named n xs)
unfolding buckets_from
named_cons n x xs = found_by (x.name == n) x xs (buckets_from n xs)

-- it is the first
pub named_first : (n : ℕ) (x : NamedBucket) (xs : List NamedBucket) → x.name ≡ n → bucket_named n (x ∷ xs) ≡ Some x
named_first n x xs same = named_cons n x xs ∙ ap (λ (c : Bool). cond c (Some x) (bucket_named n xs)) (eq-eqb x.name n same)

-- it is not the first
pub named_later : (n : ℕ) (x : NamedBucket) (xs : List NamedBucket) → x.name ≢ n → bucket_named n (x ∷ xs) ≡ bucket_named n xs
named_later n x xs differ = named_cons n x xs ∙ ap (λ (c : Bool). cond c (Some x) (bucket_named n xs)) (ne_eqb x.name n differ)

pub named_append : (n : ℕ) (xs ys : List NamedBucket) → bucket_named n (xs ++ ys) ≡ or_found (bucket_named n xs) (bucket_named n ys)
unfolding buckets_from
named_append n [] ys = refl
named_append n (x ∷ xs) ys =
    named_cons n x (xs ++ ys) ∙ (by_name (x.name == n) (named_append n xs ys) ∙ ap (λ (o : Option NamedBucket). or_found o (bucket_named n ys)) (sym (named_cons n x xs))) where
      by_name : (c : Bool) → bucket_named n (xs ++ ys) ≡ or_found (bucket_named n xs) (bucket_named n ys)
          → cond c (Some x) (bucket_named n (xs ++ ys)) ≡ or_found (cond c (Some x) (bucket_named n xs)) (bucket_named n ys)
      by_name true rest = refl
      by_name false rest = rest

pub named_front : (n : ℕ) (x : NamedBucket) (xs ys : List NamedBucket) → bucket_named n xs ≡ Some x → bucket_named n (xs ++ ys) ≡ Some x
named_front n x xs ys is = named_append n xs ys ∙ ap (λ (o : Option NamedBucket). or_found o (bucket_named n ys)) is

pub named_behind : (n : ℕ) (xs ys : List NamedBucket) → bucket_named n xs ≡ None → bucket_named n (xs ++ ys) ≡ bucket_named n ys
named_behind n xs ys none = named_append n xs ys ∙ ap (λ (o : Option NamedBucket). or_found o (bucket_named n ys)) none

-- where no bucket has the name, none is found
pub none_named : (n : ℕ) (xs : List NamedBucket) → count_named n xs ≡ 0 → bucket_named n xs ≡ None
none_named n xs none = by_found (bucket_named n xs) refl where
  by_found : (o : Option NamedBucket) → bucket_named n xs ≡ o → o ≡ None
  by_found None is = refl
  by_found (Some x) is = absurd (let one : 1 ≤ count_named x.name xs = found_there n x xs is in let same : count_named x.name xs ≡ count_named n xs =
      ap (λ (k : ℕ). count_named k xs) (named_is n xs x is) in omega arith)

-- what is behind a bucket of another name
behind_from : (m n : ℕ) (xs : List NamedBucket) → m ≢ n → bucket_named m (drop 1 (buckets_from n xs)) ≡ bucket_named m (buckets_from n xs)
unfolding buckets_from
behind_from m n [] differ = refl
behind_from m n (x ∷ xs) differ = by_name (x.name == n) refl (behind_from m n xs differ) where
  by_name : (c : Bool) → (x.name == n) ≡ c → bucket_named m (drop 1 (buckets_from n xs)) ≡ bucket_named m (buckets_from n xs)
      → bucket_named m (drop 1 (cond c (x ∷ xs) (buckets_from n xs))) ≡ bucket_named m (cond c (x ∷ xs) (buckets_from n xs))
  by_name true is rest = sym (named_later m x xs (λ same. differ (sym same ∙ eqb-true x.name n is)))
  by_name false is rest = rest

-- a bucket of another name is found where one is taken out
pub named_taken_out : (m n : ℕ) (xs : List NamedBucket) → m ≢ n → bucket_named m (taken_out n xs) ≡ bucket_named m xs
named_taken_out m n xs differ =
    named_append m (buckets_before n xs) (drop 1 (buckets_from n xs))
    ∙ (ap (λ (o : Option NamedBucket). or_found (bucket_named m (buckets_before n xs)) o) (behind_from m n xs differ)
    ∙ (sym (named_append m (buckets_before n xs) (buckets_from n xs)) ∙ ap (λ (ys : List NamedBucket). bucket_named m ys) (before_and_from n xs)))

-- and where one is put in
pub named_put_tail : (m : ℕ) (x y : NamedBucket) (xs : List NamedBucket) → bucket_named m xs ≡ Some y → bucket_named m (put_tail x xs) ≡ Some y
named_put_tail m x y xs is = named_front m y xs (x ∷ []) is

pub named_put_before : (m n : ℕ) (x : NamedBucket) (xs : List NamedBucket) → x.name ≢ m → bucket_named m (put_before n x xs) ≡ bucket_named m xs
named_put_before m n x xs differ =
    named_append m (buckets_before n xs) (x ∷ buckets_from n xs)
    ∙ (ap (λ (o : Option NamedBucket). or_found (bucket_named m (buckets_before n xs)) o) (named_later m x (buckets_from n xs) differ)
    ∙ (sym (named_append m (buckets_before n xs) (buckets_from n xs)) ∙ ap (λ (ys : List NamedBucket). bucket_named m ys) (before_and_from n xs)))

-- the bucket that is put in is found, where none had its name
pub new_put_tail : (x : NamedBucket) (xs : List NamedBucket) → count_named x.name xs ≡ 0 → bucket_named x.name (put_tail x xs) ≡ Some x
new_put_tail x xs none = named_behind x.name xs (x ∷ []) (none_named x.name xs none) ∙ named_first x.name x [] refl

none_before : (m n : ℕ) (xs : List NamedBucket) → bucket_named m xs ≡ None → bucket_named m (buckets_before n xs) ≡ None
none_before m n xs none = by_found (bucket_named m (buckets_before n xs)) refl where
  by_found : (o : Option NamedBucket) → bucket_named m (buckets_before n xs) ≡ o → o ≡ None
  by_found None is = refl
  by_found (Some x) is =
      absurd (let both : Some x ≡ None = sym (named_front m x (buckets_before n xs) (buckets_from n xs) is) ∙ (ap (λ (ys : List NamedBucket). bucket_named m ys) (before_and_from n xs) ∙ none) in cc)

pub new_put_before : (n : ℕ) (x : NamedBucket) (xs : List NamedBucket) → count_named x.name xs ≡ 0 → bucket_named x.name (put_before n x xs) ≡ Some x
new_put_before n x xs none =
    named_behind x.name (buckets_before n xs) (x ∷ buckets_from n xs) (none_before x.name n xs (none_named x.name xs none)) ∙ named_first x.name x (buckets_from n xs) refl

-- where buckets change in place
abbrev pub map_found : (NamedBucket → NamedBucket) → Option NamedBucket → Option NamedBucket
map_found f None = None
map_found f (Some x) = Some (f x)

pub named_map : (n : ℕ) (f : NamedBucket → NamedBucket) → ((x : NamedBucket) → (f x).name ≡ x.name) → (xs : List NamedBucket) → bucket_named n (map f xs) ≡ map_found f (bucket_named n xs)
unfolding buckets_from
named_map n f same [] = refl
named_map n f same (x ∷ xs) =
    named_cons n (f x) (map f xs)
    ∙ (ap (λ (k : ℕ). cond (k == n) (Some (f x)) (bucket_named n (map f xs))) (same x)
    ∙ (by_name (x.name == n) (named_map n f same xs) ∙ ap (map_found f) (sym (named_cons n x xs)))) where
      by_name : (c : Bool) → bucket_named n (map f xs) ≡ map_found f (bucket_named n xs) → cond c (Some (f x)) (bucket_named n (map f xs)) ≡ map_found f (cond c (Some x) (bucket_named n xs))
      by_name true rest = refl
      by_name false rest = rest

-- Classes.

-- a bucket of a class that is not among these is not of that sort
pub no_data : (t : Classes) (k : Kind) → class_has t k ≡ true → t.bytes ≡ false → is_data_kind k ≡ false
no_data t kind.Flush has none = refl
no_data t kind.Eos has none = refl
no_data t k has none = absurd (let both : true ≡ false = sym has ∙ none in cc)

pub no_eos : (t : Classes) (k : Kind) → class_has t k ≡ true → t.eos ≡ false → is_eos_kind k ≡ false
no_eos t kind.Eos has none = absurd (let both : true ≡ false = sym has ∙ none in cc)
no_eos t k has none = refl

-- What a brigade may hold.

both_false : (x y : Bool) → y ≡ false → (x && y) ≡ false
both_false true y h = h
both_false false y h = refl

first_false : (x y : Bool) → x ≡ false → (x && y) ≡ false
first_false x y h = ap (λ (b : Bool). b && y) h

and_less : (x y z : Bool) → (y ≡ false → z ≡ false) → (x && y) ≡ false → (x && z) ≡ false
and_less true y z less h = less h
and_less false y z less h = refl

or_less : (x y z : Bool) → (y ≡ false → z ≡ false) → (x || y) ≡ false → (x || z) ≡ false
or_less x y z less h = or_from x z (or_parts x y h).0 (less (or_parts x y h).1)

-- where no EOS is, none has data behind it
pub no_late_data : (xs : List NamedBucket) → has_eos xs ≡ false → data_after_eos xs ≡ false
no_late_data [] none = refl
no_late_data (x ∷ xs) none =
    let parts = or_parts (is_eos x) (has_eos xs) none in
    or_from (is_eos x && has_data xs) (data_after_eos xs) (first_false (is_eos x) (has_data xs) (parts.0)) (no_late_data xs (parts.1))

-- nor where no data is
pub no_data_late : (xs : List NamedBucket) → has_data xs ≡ false → data_after_eos xs ≡ false
no_data_late [] none = refl
no_data_late (x ∷ xs) none =
    let parts = or_parts (is_data x) (has_data xs) none in
    or_from (is_eos x && has_data xs) (data_after_eos xs) (both_false (is_eos x) (has_data xs) (parts.1)) (no_data_late xs (parts.1))

-- what holds so much holds more
pub holds_more : (a b : Contents) (xs : List NamedBucket) → content_leq a b ≡ true → HoldsContents a xs → HoldsContents b xs
holds_more Empty Empty xs le h = h
holds_more Empty Flushes xs le h = (ap has_data h, ap has_eos h)
holds_more Empty NoEos xs le h = ap has_eos h
holds_more Empty NoLateData xs le h = ap data_after_eos h
holds_more Flushes Flushes xs le h = h
holds_more Flushes NoEos xs le h = h.1
holds_more Flushes NoLateData xs le h = no_late_data xs (h.1)
holds_more NoEos NoEos xs le h = h
holds_more NoEos NoLateData xs le h = no_late_data xs h
holds_more NoLateData NoLateData xs le h = h
holds_more a Any xs le h = tt
holds_more a b xs le h = absurd (cc)

-- what stands in ys stands in xs, in that order
pub record Thins (xs ys : List NamedBucket) : Type 0 where
  pub empty : xs ≡ [] → ys ≡ []
  pub bytes : has_data xs ≡ false → has_data ys ≡ false
  pub eos : has_eos xs ≡ false → has_eos ys ≡ false
  pub late : data_after_eos xs ≡ false → data_after_eos ys ≡ false

pub thins_same : (xs : List NamedBucket) → Thins xs xs
thins_same xs = record { empty = λ h. h; bytes = λ h. h; eos = λ h. h; late = λ h. h }

pub thins_none : (xs : List NamedBucket) → Thins xs []
thins_none xs = record { empty = λ h. refl; bytes = λ h. refl; eos = λ h. refl; late = λ h. refl }

pub thins_trans : (xs ys zs : List NamedBucket) → Thins xs ys → Thins ys zs → Thins xs zs
thins_trans xs ys zs a b = record { empty = λ h. b.empty (a.empty h); bytes = λ h. b.bytes (a.bytes h); eos = λ h. b.eos (a.eos h); late = λ h. b.late (a.late h) }

pub thins_tail : (x : NamedBucket) (xs : List NamedBucket) → Thins (x ∷ xs) xs
thins_tail x xs = record {
  empty = λ h. absurd (cc);
  bytes = λ h. (or_parts (is_data x) (has_data xs) h).1;
  eos = λ h. (or_parts (is_eos x) (has_eos xs) h).1;
  late = λ h. (or_parts (is_eos x && has_data xs) (data_after_eos xs) h).1;
}

pub thins_cons : (x : NamedBucket) (xs ys : List NamedBucket) → Thins xs ys → Thins (x ∷ xs) (x ∷ ys)
thins_cons x xs ys t = record {
  empty = λ h. absurd (cc);
  bytes = λ h. or_less (is_data x) (has_data xs) (has_data ys) t.bytes h;
  eos = λ h. or_less (is_eos x) (has_eos xs) (has_eos ys) t.eos h;
  late = λ h. (let parts = or_parts (is_eos x && has_data xs) (data_after_eos xs) h in
      or_from (is_eos x && has_data ys) (data_after_eos ys) (and_less (is_eos x) (has_data xs) (has_data ys) t.bytes (parts.0)) (t.late (parts.1)));
}

-- behind the same buckets
pub thins_behind : (front xs ys : List NamedBucket) → Thins xs ys → Thins (front ++ xs) (front ++ ys)
thins_behind [] xs ys t = t
thins_behind (x ∷ front) xs ys t = thins_cons x (front ++ xs) (front ++ ys) (thins_behind front xs ys t)

pub thins_front : (xs ys : List NamedBucket) → Thins (xs ++ ys) xs
thins_front xs ys = subst (λ (zs : List NamedBucket). Thins (xs ++ ys) zs) (append-nil xs) (thins_behind xs ys [] (thins_none ys))

pub thins_back : (xs ys : List NamedBucket) → Thins (xs ++ ys) ys
thins_back [] ys = thins_same ys
thins_back (x ∷ xs) ys = thins_trans (x ∷ xs ++ ys) (xs ++ ys) ys (thins_tail x (xs ++ ys)) (thins_back xs ys)

pub thins_before : (n : ℕ) (xs : List NamedBucket) → Thins xs (buckets_before n xs)
thins_before n xs = subst (λ (zs : List NamedBucket). Thins zs (buckets_before n xs)) (before_and_from n xs) (thins_front (buckets_before n xs) (buckets_from n xs))

pub thins_from : (n : ℕ) (xs : List NamedBucket) → Thins xs (buckets_from n xs)
thins_from n xs = subst (λ (zs : List NamedBucket). Thins zs (buckets_from n xs)) (before_and_from n xs) (thins_back (buckets_before n xs) (buckets_from n xs))

thins_one : (xs : List NamedBucket) → Thins xs (drop 1 xs)
thins_one [] = thins_same []
thins_one (x ∷ xs) = thins_tail x xs

pub thins_taken_out : (n : ℕ) (xs : List NamedBucket) → Thins xs (taken_out n xs)
thins_taken_out n xs = subst (λ (zs : List NamedBucket). Thins zs (taken_out n xs)) (before_and_from n xs)
    (thins_behind (buckets_before n xs) (buckets_from n xs) (drop 1 (buckets_from n xs)) (thins_one (buckets_from n xs)))

pub holds_thinner : (k : Contents) (xs ys : List NamedBucket) → Thins xs ys → HoldsContents k xs → HoldsContents k ys
holds_thinner Empty xs ys t h = t.empty h
holds_thinner Flushes xs ys t h = (t.bytes (h.0), t.eos (h.1))
holds_thinner NoEos xs ys t h = t.eos h
holds_thinner NoLateData xs ys t h = t.late h
holds_thinner Any xs ys t h = tt

-- buckets that change in place, each to one of its sort
pub record IsSorted (f : NamedBucket → NamedBucket) : Type 0 where
  pub bytes : (x : NamedBucket) → is_data (f x) ≡ is_data x
  pub eos : (x : NamedBucket) → is_eos (f x) ≡ is_eos x

map_data : (f : NamedBucket → NamedBucket) → IsSorted f → (xs : List NamedBucket) → has_data (map f xs) ≡ has_data xs
map_data f s [] = refl
map_data f s (x ∷ xs) = ap (λ (b : Bool). b || has_data (map f xs)) (s.bytes x) ∙ ap (λ (b : Bool). is_data x || b) (map_data f s xs)

map_eos : (f : NamedBucket → NamedBucket) → IsSorted f → (xs : List NamedBucket) → has_eos (map f xs) ≡ has_eos xs
map_eos f s [] = refl
map_eos f s (x ∷ xs) = ap (λ (b : Bool). b || has_eos (map f xs)) (s.eos x) ∙ ap (λ (b : Bool). is_eos x || b) (map_eos f s xs)

map_late : (f : NamedBucket → NamedBucket) → IsSorted f → (xs : List NamedBucket) → data_after_eos (map f xs) ≡ data_after_eos xs
map_late f s [] = refl
map_late f s (x ∷ xs) =
    ap (λ (b : Bool). (b && has_data (map f xs)) || data_after_eos (map f xs)) (s.eos x)
    ∙ (ap (λ (b : Bool). (is_eos x && b) || data_after_eos (map f xs)) (map_data f s xs) ∙ ap (λ (b : Bool). (is_eos x && has_data xs) || b) (map_late f s xs))

pub holds_map : (k : Contents) (f : NamedBucket → NamedBucket) → IsSorted f → (xs : List NamedBucket) → HoldsContents k xs → HoldsContents k (map f xs)
holds_map Empty f s xs h = ap (map f) h
holds_map Flushes f s xs h = (map_data f s xs ∙ h.0, map_eos f s xs ∙ h.1)
holds_map NoEos f s xs h = map_eos f s xs ∙ h
holds_map NoLateData f s xs h = map_late f s xs ∙ h
holds_map Any f s xs h = tt

-- One list behind another.

pub joined_data : (xs ys : List NamedBucket) → has_data xs ≡ false → has_data ys ≡ false → has_data (xs ++ ys) ≡ false
joined_data xs ys h k = list_any-append is_data xs ys ∙ or_from (has_data xs) (has_data ys) h k

pub joined_eos : (xs ys : List NamedBucket) → has_eos xs ≡ false → has_eos ys ≡ false → has_eos (xs ++ ys) ≡ false
joined_eos xs ys h k = list_any-append is_eos xs ys ∙ or_from (has_eos xs) (has_eos ys) h k

-- no EOS, and no late data behind it
pub joined_behind : (xs ys : List NamedBucket) → has_eos xs ≡ false → data_after_eos ys ≡ false → data_after_eos (xs ++ ys) ≡ false
joined_behind [] ys none h = h
joined_behind (x ∷ xs) ys none h =
    let parts = or_parts (is_eos x) (has_eos xs) none in
    or_from (is_eos x && has_data (xs ++ ys)) (data_after_eos (xs ++ ys)) (first_false (is_eos x) (has_data (xs ++ ys)) (parts.0)) (joined_behind xs ys (parts.1) h)

-- no late data, and no data behind it
pub joined_ahead : (xs ys : List NamedBucket) → data_after_eos xs ≡ false → has_data ys ≡ false → data_after_eos (xs ++ ys) ≡ false
joined_ahead [] ys h none = no_data_late ys none
joined_ahead (x ∷ xs) ys h none =
    let parts = or_parts (is_eos x && has_data xs) (data_after_eos xs) h in
    or_from (is_eos x && has_data (xs ++ ys)) (data_after_eos (xs ++ ys)) (and_less (is_eos x) (has_data xs) (has_data (xs ++ ys)) (λ e. joined_data xs ys e none) (parts.0))
    (joined_ahead xs ys (parts.1) none)

pub holds_concat : (a b : Contents) (xs ys : List NamedBucket) → HoldsContents a xs → HoldsContents b ys → HoldsContents (concat_content a b) (xs ++ ys)
holds_concat Empty b xs ys h k = subst (λ (zs : List NamedBucket). HoldsContents b (zs ++ ys)) (sym h) k
holds_concat Flushes Empty xs ys h k = (joined_data xs ys (h.0) (ap has_data k), joined_eos xs ys (h.1) (ap has_eos k))
holds_concat Flushes Flushes xs ys h k = (joined_data xs ys (h.0) (k.0), joined_eos xs ys (h.1) (k.1))
holds_concat Flushes NoEos xs ys h k = joined_eos xs ys (h.1) k
holds_concat Flushes NoLateData xs ys h k = joined_behind xs ys (h.1) k
holds_concat Flushes Any xs ys h k = tt
holds_concat NoEos Empty xs ys h k = joined_eos xs ys h (ap has_eos k)
holds_concat NoEos Flushes xs ys h k = joined_eos xs ys h (k.1)
holds_concat NoEos NoEos xs ys h k = joined_eos xs ys h k
holds_concat NoEos NoLateData xs ys h k = joined_behind xs ys h k
holds_concat NoEos Any xs ys h k = tt
holds_concat NoLateData Empty xs ys h k = joined_ahead xs ys h (ap has_data k)
holds_concat NoLateData Flushes xs ys h k = joined_ahead xs ys h (k.0)
holds_concat NoLateData NoEos xs ys h k = tt
holds_concat NoLateData NoLateData xs ys h k = tt
holds_concat NoLateData Any xs ys h k = tt
holds_concat Any b xs ys h k = tt

-- One bucket.

-- a bucket of these classes alone
pub one_holds : (t : Classes) (x : NamedBucket) → class_has t x.bucket.kind ≡ true → HoldsContents (content_of t) (x ∷ [])
one_holds t x has = by_class t.eos t.bytes refl refl where
  by_class : (eos bytes : Bool) → t.eos ≡ eos → t.bytes ≡ bytes → HoldsContents (cond eos NoLateData (cond bytes NoEos Flushes)) (x ∷ [])
  by_class true bytes e d = or_from (is_eos x && false) false (both_false (is_eos x) false refl) refl
  by_class false true e d = or_from (is_eos x) false (no_eos t x.bucket.kind has e) refl
  by_class false false e d = (or_from (is_data x) false (no_data t x.bucket.kind has d) refl, or_from (is_eos x) false (no_eos t x.bucket.kind has e) refl)

pub holds_tail : (k : Contents) (t : Classes) (x : NamedBucket) (xs : List NamedBucket) → class_has t x.bucket.kind ≡ true → HoldsContents k xs → HoldsContents (tail_content k t) (put_tail x xs)
holds_tail Empty t x xs has h = more t.eos t.bytes (holds_concat Empty (content_of t) xs (x ∷ []) h (one_holds t x has)) where
  more : (eos bytes : Bool) → HoldsContents (cond eos NoLateData (cond bytes NoEos Flushes)) (put_tail x xs)
      → HoldsContents (content_join Empty (cond eos NoLateData (cond bytes NoEos Flushes))) (put_tail x xs)
  more true bytes h = h
  more false true h = h
  more false false h = h
holds_tail Flushes t x xs has h = holds_concat Flushes (content_of t) xs (x ∷ []) h (one_holds t x has)
holds_tail NoEos t x xs has h = holds_concat NoEos (content_of t) xs (x ∷ []) h (one_holds t x has)
holds_tail NoLateData t x xs has h = by_class t.bytes refl where
  by_class : (bytes : Bool) → t.bytes ≡ bytes → HoldsContents (cond bytes Any NoLateData) (put_tail x xs)
  by_class true d = tt
  by_class false d = joined_ahead xs (x ∷ []) h (or_from (is_data x) false (no_data t x.bucket.kind has d) refl)
holds_tail Any t x xs has h = tt

-- at the head: as a list of the one before the others
head_concat : (k : Contents) (t : Classes) → concat_content (content_of t) k ≡ head_content k t
head_concat k t = by_class k t.eos t.bytes where
  by_class : (k : Contents) (eos bytes : Bool)
      → concat_content (cond eos NoLateData (cond bytes NoEos Flushes)) k ≡ head_content k (record { bytes = bytes; flush = t.flush; eos = eos })
  by_class Empty true bytes = refl
  by_class Flushes true bytes = refl
  by_class NoEos true bytes = refl
  by_class NoLateData true bytes = refl
  by_class Any true bytes = refl
  by_class Empty false true = refl
  by_class Flushes false true = refl
  by_class NoEos false true = refl
  by_class NoLateData false true = refl
  by_class Any false true = refl
  by_class Empty false false = refl
  by_class Flushes false false = refl
  by_class NoEos false false = refl
  by_class NoLateData false false = refl
  by_class Any false false = refl

pub holds_head : (k : Contents) (t : Classes) (x : NamedBucket) (xs : List NamedBucket) → class_has t x.bucket.kind ≡ true → HoldsContents k xs → HoldsContents (head_content k t) (put_head x xs)
holds_head k t x xs has h = subst (λ (c : Contents). HoldsContents c (x ∷ xs)) (head_concat k t) (holds_concat (content_of t) k (x ∷ []) xs (one_holds t x has) h)

-- Before another bucket.

metadata_data : (x : NamedBucket) (xs ys : List NamedBucket) → is_data x ≡ false → has_data (xs ++ x ∷ ys) ≡ has_data (xs ++ ys)
metadata_data x [] ys none = ap (λ (b : Bool). b || has_data ys) none
metadata_data x (y ∷ xs) ys none = ap (λ (b : Bool). is_data y || b) (metadata_data x xs ys none)

metadata_late : (x : NamedBucket) (xs ys : List NamedBucket) → is_data x ≡ false → is_eos x ≡ false → data_after_eos (xs ++ x ∷ ys) ≡ data_after_eos (xs ++ ys)
metadata_late x [] ys none plain = ap (λ (b : Bool). (b && has_data ys) || data_after_eos ys) plain
metadata_late x (y ∷ xs) ys none plain =
    ap (λ (b : Bool). (is_eos y && b) || data_after_eos (xs ++ x ∷ ys)) (metadata_data x xs ys none) ∙ ap (λ (b : Bool). (is_eos y && has_data (xs ++ ys)) || b) (metadata_late x xs ys none plain)

-- the parts before and from a bucket have what the whole has
module _ (at : ℕ) (x : NamedBucket) (xs : List NamedBucket) where
  put_eos : is_eos x ≡ false → has_eos xs ≡ false → has_eos (put_before at x xs) ≡ false
  put_eos here none = joined_eos (buckets_before at xs) (x ∷ buckets_from at xs) ((thins_before at xs).eos none) (or_from (is_eos x) (has_eos (buckets_from at xs)) here ((thins_from at xs).eos none))

  put_data : is_data x ≡ false → has_data xs ≡ false → has_data (put_before at x xs) ≡ false
  put_data here none =
      joined_data (buckets_before at xs) (x ∷ buckets_from at xs) ((thins_before at xs).bytes none) (or_from (is_data x) (has_data (buckets_from at xs)) here ((thins_from at xs).bytes none))

  put_late : is_data x ≡ false → is_eos x ≡ false → data_after_eos xs ≡ false → data_after_eos (put_before at x xs) ≡ false
  put_late here plain none = metadata_late x (buckets_before at xs) (buckets_from at xs) here plain ∙ (ap data_after_eos (before_and_from at xs) ∙ none)

  -- any bucket where there is neither data nor an EOS
  put_any : has_data xs ≡ false → has_eos xs ≡ false → data_after_eos (put_before at x xs) ≡ false
  put_any none plain =
      joined_behind (buckets_before at xs) (x ∷ buckets_from at xs) ((thins_before at xs).eos plain)
      (or_from (is_eos x && has_data (buckets_from at xs)) (data_after_eos (buckets_from at xs)) (both_false (is_eos x) (has_data (buckets_from at xs)) ((thins_from at xs).bytes none))
      (no_data_late (buckets_from at xs) ((thins_from at xs).bytes none)))

  eos_before : (k : Contents) → HoldsContents k xs → HoldsContents (before_eos k) (put_before at x xs)
  eos_before Empty h = put_any (ap has_data h) (ap has_eos h)
  eos_before Flushes h = put_any (h.0) (h.1)
  eos_before NoEos h = tt
  eos_before NoLateData h = tt
  eos_before Any h = tt

  data_before : (k : Contents) → is_eos x ≡ false → HoldsContents k xs → HoldsContents (before_data k) (put_before at x xs)
  data_before Empty plain h = put_eos plain (ap has_eos h)
  data_before Flushes plain h = put_eos plain (h.1)
  data_before NoEos plain h = put_eos plain h
  data_before NoLateData plain h = tt
  data_before Any plain h = tt

  flush_before : (k : Contents) → is_data x ≡ false → is_eos x ≡ false → HoldsContents k xs → HoldsContents (content_join k Flushes) (put_before at x xs)
  flush_before Empty none plain h = (put_data none (ap has_data h), put_eos plain (ap has_eos h))
  flush_before Flushes none plain h = (put_data none (h.0), put_eos plain (h.1))
  flush_before NoEos none plain h = put_eos plain h
  flush_before NoLateData none plain h = put_late none plain h
  flush_before Any none plain h = tt

  pub holds_before : (k : Contents) (t : Classes) → class_has t x.bucket.kind ≡ true → HoldsContents k xs → HoldsContents (before_content k t) (put_before at x xs)
  holds_before k t has h = by_class t.eos t.bytes refl refl where
    by_class : (eos bytes : Bool) → t.eos ≡ eos → t.bytes ≡ bytes → HoldsContents (cond eos (before_eos k) (cond bytes (before_data k) (content_join k Flushes))) (put_before at x xs)
    by_class true bytes e d = eos_before k h
    by_class false true e d = data_before k (no_eos t x.bucket.kind has e) h
    by_class false false e d = flush_before k (no_data t x.bucket.kind has d) (no_eos t x.bucket.kind has e) h

-- Buckets of one name change.

changed_name : (n : ℕ) (f : NamedBucket → NamedBucket) → ((x : NamedBucket) → (f x).name ≡ x.name) → (x : NamedBucket) → (cond (x.name == n) (f x) x).name ≡ x.name
changed_name n f same x = by_name (x.name == n) where
  by_name : (c : Bool) → (cond c (f x) x).name ≡ x.name
  by_name true = same x
  by_name false = refl

pub named_changed : (m n : ℕ) (f : NamedBucket → NamedBucket) → ((x : NamedBucket) → (f x).name ≡ x.name) → (xs : List NamedBucket)
    → bucket_named m (changed_at n f xs) ≡ map_found (λ x. cond (x.name == n) (f x) x) (bucket_named m xs)
named_changed m n f same xs = named_map m (λ x. cond (x.name == n) (f x) x) (changed_name n f same) xs
