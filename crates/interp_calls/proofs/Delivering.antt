-- What is taken of a brigade, read by read.
use Rattle.std.proofs.Common.{◌≡◌, ◌⊎◌, ℕ, zero, suc, ◌+◌, ◌-◌, ◌<◌, ◌≤◌, Bool, true, false, min, List, [], ◌∷◌, ◌++◌, length, Option, Some, None, refl, sym, ap, subst, ⊎_elim, ◌∙◌, append_assoc}
use Rattle.std.proofs.Common.{arith}
use Rattle.std.proofs.lemmas.Bool.{false≢true, cases_lt}
use Rattle.std.specs.Prelude.{if◌then◌else◌}
use Rattle.std.proofs.lemmas.List.{append-nil, length-append}
use Rattle.bucket_ring.specs.declared.names.BucketId.{BucketId}
use Rattle.bucket_kinds.specs.Device.{Device, moved, MayGoWell, WentWell, HasFailed, SomeWentWell}
use Rattle.bucket_kinds.specs.Reading.{MayGiveBytes, MayEnd}
use Rattle.run_model.specs.declared.bucket.Bucket.{Bucket}
use Rattle.run_model.specs.declared.bucket.Content.{Content}
use Rattle.run_model.specs.declared.bucket.Content.TheVariants as content
use Rattle.run_model.specs.declared.bucket.NamedBucket.{NamedBucket}
use Rattle.run_model.specs.Buckets.{is_eos, is_eos_kind, has_eos}
use Rattle.run_model.specs.Cutting.{read_limit}
use Rattle.run_model.specs.Files.{parts_of}
use Rattle.run_model.specs.Passing.{Reads, Taken, taken_whole, and_taken, unless_unread, parts_taken, content_taken, followed, taken, delivered}
use Rattle.bucket_store.specs.Items.{Items, named_item, from_place}
use Rattle.interp_calls.specs.Delivery.{IfElse, PartGiven, PartsGiven, ContentGiven, ReadsGiven, HasReads, taken_by, ContentTaken, ItemsTaken, WasDelivered, out_of}
use Rattle.interp_state.specs.Seen.{shown, item_in}
use Rattle.interp_calls.proofs.WellRead.{none_went}

-- Reads that were made.

pub has_both : (gs hs : List (Option (List ℕ))) (k n : ℕ) (rs : Reads) → n ≡ k + length gs → HasReads rs k (gs ++ hs) → HasReads rs k gs × HasReads rs n hs
has_both [] hs k n rs is h = (tt, subst (λ (j : ℕ). HasReads rs j hs) (let j : k ≡ n = omega (arith, is) in j) h)
has_both (g ∷ gs) hs k n rs is h = let later = has_both gs hs (k + 1) n rs (omega (arith, is)) h.1 in ((h.0, later.0), later.1)

pub one_more : (gs : List (Option (List ℕ))) (g : Option (List ℕ)) (k : ℕ) → k + length (gs ++ g ∷ []) ≡ k + length gs + 1
one_more gs g k = let e = length-append gs (g ∷ []) in omega (arith, e)

pub both_taken : (a b : List ℕ) (t : Taken) → and_taken a (and_taken b t) ≡ and_taken (a ++ b) t
both_taken a b t = ap (λ (bytes : List ℕ). let u : Taken = record t { bytes = bytes } in u) (sym (append_assoc a b t.bytes))

-- A range, part by part.

parts_more : (m : ℕ) → 0 < m → parts_of m ≡ suc (parts_of (m - 8000))
parts_more m some = omega arith

less_left : (m n : ℕ) → n ≡ min m 8000 → m - 8000 ≡ m - n
less_left m n is = omega (arith, is)

step_taken : (m n j : ℕ) (bytes : List ℕ) (rs : Reads) → 0 < m → n ≡ min m 8000 → rs j ≡ Some bytes → parts_taken (parts_of m) j rs ≡ and_taken bytes (parts_taken (parts_of (m - n)) (j + 1) rs)
unfolding parts_taken
step_taken m n j bytes rs some is read =
    ap (λ (p : ℕ). parts_taken p j rs) (parts_more m some)
    ∙ (ap (λ (o : Option (List ℕ)). unless_unread o j (parts_taken (parts_of (m - 8000)) (j + 1) rs)) read
    ∙ ap (λ (q : ℕ). and_taken bytes (parts_taken (parts_of q) (j + 1) rs)) (less_left m n is))

step_failed : (m j : ℕ) (rs : Reads) → 0 < m → rs j ≡ None → parts_taken (parts_of m) j rs ≡ record { bytes = []; whole = false; reads = j + 1 }
unfolding parts_taken
step_failed m j rs some read =
    ap (λ (p : ℕ). parts_taken p j rs) (parts_more m some)
    ∙ ap (λ (o : Option (List ℕ)). unless_unread o j (parts_taken (parts_of (m - 8000)) (j + 1) rs)) read

none_left : (j : ℕ) (rs : Reads) → parts_taken (parts_of 0) j rs ≡ taken_whole [] j
unfolding parts_taken
none_left j rs = refl

module _ (e : Device) (file : ℕ) (rs : Reads) (next : Device → ℕ → Type 0) where
  -- the rest of a range of which m bytes are left, by the device d
  abbrev rest_given : Device → ℕ → ℕ → ℕ → Type 0
  rest_given d m at j = PartsGiven d e (parts_of m) file at m rs next j

  end_given : (d : Device) (m at j : ℕ) → m ≡ 0 → next d j → rest_given d m at j
  unfolding PartsGiven
  end_given d m at j none h = subst (λ (n : ℕ). PartsGiven d e (parts_of n) file at n rs next j) (sym none) h

  end_taken : (d : Device) (m at j : ℕ) → m ≡ 0 → rest_given d m at j → next d j
  unfolding PartsGiven
  end_taken d m at j none h = subst (λ (n : ℕ). PartsGiven d e (parts_of n) file at n rs next j) none h

  same_given : (d : Device) (m at n j : ℕ) → n ≡ min m 8000 → rest_given d (m - n) (at + n) j → rest_given d (m - 8000) (at + 8000) j
  same_given d m at n j is h =
      ⊎_elim
      (λ (lt : m < 8000). end_given d (m - 8000) (at + 8000) j (omega (arith, lt)) (end_taken d (m - n) (at + n) j (omega (arith, lt, is)) h))
      (λ (le : 8000 ≤ m). subst (λ (k : ℕ). rest_given d (m - k) (at + k) j) (let w : n ≡ 8000 = omega (arith, le, is) in w) h)
      (cases_lt m 8000)

  abbrev part_given : Device → ℕ → ℕ → ℕ → Option (List ℕ) → Type 0
  part_given d m at j o =
      PartGiven d e file at (min m read_limit) o (PartsGiven (moved d) e (parts_of (m - 8000)) file (at + read_limit) (m - read_limit) rs next (j + 1))

  step_given : (d : Device) (m at n j : ℕ) (bytes : List ℕ) → 0 < m → n ≡ min m 8000 → rs j ≡ Some bytes → MayGiveBytes (d.numbered file) at n bytes → MayGoWell d.plan
      → rest_given (moved d) (m - n) (at + n) (j + 1) → rest_given d m at j
  unfolding PartsGiven
  step_given d m at n j bytes some is read gives well h =
      subst (λ (p : ℕ). PartsGiven d e p file at m rs next j) (sym (parts_more m some))
      (subst (λ (o : Option (List ℕ)). part_given d m at j o) (sym read)
      (subst (λ (k : ℕ). MayGiveBytes (d.numbered file) at k bytes) is gives, well, same_given (moved d) m at n (j + 1) is h))

  failed_given : (d : Device) (m at n j : ℕ) → 0 < m → n ≡ min m 8000 → rs j ≡ None → HasFailed d e ⊎ (WentWell d e × MayEnd (d.numbered file) at n) → rest_given d m at j
  unfolding PartsGiven
  failed_given d m at n j some is read why =
      subst (λ (p : ℕ). PartsGiven d e p file at m rs next j) (sym (parts_more m some))
      (subst (λ (o : Option (List ℕ)). part_given d m at j o) (sym read)
      (subst (λ (k : ℕ). HasFailed d e ⊎ (WentWell d e × MayEnd (d.numbered file) at k)) is why))

-- So many bytes of a range were read, by devices d and `now`.
pub record RangeSoFar (d now : Device) (file start len count : ℕ) (front : List ℕ) : Type 0 where
  pub reads : List (Option (List ℕ))
  pub takes : (k : ℕ) (rs : Reads) → HasReads rs k reads → parts_taken (parts_of len) k rs ≡ and_taken front (parts_taken (parts_of (len - count)) (k + length reads) rs)
  pub goes_on : (last : Device) (bs : List NamedBucket) (k : ℕ) (rs : Reads) → HasReads rs k reads
      → rest_given last file rs (λ f j. ReadsGiven f last bs rs j) now (len - count) (start + count) (k + length reads)
      → PartsGiven d last (parts_of len) file start len rs (λ f j. ReadsGiven f last bs rs j) k

module _ (d : Device) (file start len : ℕ) where
  pub range_none : (front : List ℕ) → front ≡ [] → RangeSoFar d d file start len 0 front
  range_none front none = record {
    reads = [];
    takes = λ k rs h. ap (λ (n : ℕ). parts_taken (parts_of n) k rs) (let e : len ≡ len - 0 = omega arith in e) ∙ (ap (λ (j : ℕ). and_taken [] (parts_taken (parts_of (len - 0)) j rs))
        (let e : k ≡ k + 0 = omega arith in e) ∙ ap (λ (bytes : List ℕ). and_taken bytes (parts_taken (parts_of (len - 0)) (k + 0) rs)) (sym none));
    goes_on = λ last bs k rs h rest.
        let next : Device → ℕ → Type 0 = λ f j. ReadsGiven f last bs rs j in
        subst (λ (n : ℕ). rest_given last file rs next d n start k) (let e : len - 0 ≡ len = omega arith in e)
        (subst (λ (at : ℕ). rest_given last file rs next d (len - 0) at k) (let e : start + 0 ≡ start = omega arith in e)
        (subst (λ (i : ℕ). rest_given last file rs next d (len - 0) (start + 0) i) (let e : k + 0 ≡ k = omega arith in e) rest));
  }

  pub range_read : (now : Device) (count n past : ℕ) (front bytes more : List ℕ) → RangeSoFar d now file start len count front → count < len → n ≡ min (len - count) 8000
      → MayGiveBytes (now.numbered file) (start + count) n bytes → MayGoWell now.plan → more ≡ front ++ bytes → past ≡ count + n
      → RangeSoFar d (moved now) file start len past more
  range_read now count n past front bytes more s below is gives well grown on = record {
    reads = s.reads ++ Some bytes ∷ [];
    takes = λ k rs h.
        let p = has_both s.reads (Some bytes ∷ []) k (k + length s.reads) rs refl h in
        let m = len - count in
        s.takes k rs p.0
        ∙ (ap (and_taken front) (step_taken m n (k + length s.reads) bytes rs (omega (arith, below)) is p.1.0)
        ∙ (both_taken front bytes (parts_taken (parts_of (m - n)) (k + length s.reads + 1) rs)
        ∙ (ap (λ (bs : List ℕ). and_taken bs (parts_taken (parts_of (m - n)) (k + length s.reads + 1) rs)) (sym grown)
        ∙ (ap (λ (q : ℕ). and_taken more (parts_taken (parts_of q) (k + length s.reads + 1) rs)) (left on)
        ∙ ap (λ (j : ℕ). and_taken more (parts_taken (parts_of (len - past)) j rs)) (sym (one_more s.reads (Some bytes) k))))));
    goes_on = λ last bs k rs h rest.
        let p = has_both s.reads (Some bytes ∷ []) k (k + length s.reads) rs refl h in
        let next : Device → ℕ → Type 0 = λ f j. ReadsGiven f last bs rs j in
        s.goes_on last bs k rs p.0
        (step_given last file rs next now (len - count) (start + count) n (k + length s.reads) bytes (omega (arith, below)) is p.1.0 gives well
        (subst (λ (q : ℕ). rest_given last file rs next (moved now) q (start + count + n) (k + length s.reads + 1)) (sym (left on))
        (subst (λ (at : ℕ). rest_given last file rs next (moved now) (len - past) at (k + length s.reads + 1)) (let e : start + past ≡ start + count + n = omega (arith, on) in e)
        (subst (λ (j : ℕ). rest_given last file rs next (moved now) (len - past) (start + past) j) (one_more s.reads (Some bytes) k) rest))));
  } where
    left : past ≡ count + n → len - count - n ≡ len - past
    left e = omega (arith, e)

  pub range_failed : (now e : Device) (count n : ℕ) (front : List ℕ) → RangeSoFar d now file start len count front → count < len → n ≡ min (len - count) 8000
      → HasFailed now e ⊎ (WentWell now e × MayEnd (now.numbered file) (start + count) n)
      → ContentTaken d e (content.Range file start len) front false
  range_failed now e count n front s below is why = record {
    reads = s.reads ++ None ∷ [];
    takes = λ k rs h.
        let p = has_both s.reads (None ∷ []) k (k + length s.reads) rs refl h in
        s.takes k rs p.0
        ∙ (ap (and_taken front) (step_failed (len - count) (k + length s.reads) rs (omega (arith, below)) p.1.0)
        ∙ (ap (λ (bytes : List ℕ). taken_by bytes false (k + length s.reads + 1)) (append-nil front)
        ∙ ap (taken_by front false) (sym (one_more s.reads None k))));
    went = λ never. absurd (false≢true never);
    goes_on = λ never. absurd (false≢true never);
    fails = λ _ bs k rs h.
        let p = has_both s.reads (None ∷ []) k (k + length s.reads) rs refl h in
        s.goes_on e bs k rs p.0 (failed_given e file rs (λ f j. ReadsGiven f e bs rs j) now (len - count) (start + count) n (k + length s.reads) (omega (arith, below)) is p.1.0 why);
  }

  pub range_done : (now : Device) (count : ℕ) (front : List ℕ) → RangeSoFar d now file start len count front → len ≤ count → SomeWentWell d now
      → ContentTaken d now (content.Range file start len) front true
  range_done now count front s all went = record {
    reads = s.reads;
    takes = λ k rs h.
        s.takes k rs h
        ∙ (ap (λ (n : ℕ). and_taken front (parts_taken (parts_of n) (k + length s.reads) rs)) (done all)
        ∙ (ap (and_taken front) (none_left (k + length s.reads) rs)
        ∙ ap (λ (bytes : List ℕ). taken_by bytes true (k + length s.reads)) (append-nil front)));
    went = λ _. went;
    goes_on = λ _ last bs k rs h rest. s.goes_on last bs k rs h (end_given last file rs (λ f j. ReadsGiven f last bs rs j) now (len - count) (start + count) (k + length s.reads) (done all) rest);
    fails = λ never. absurd (false≢true (sym never));
  } where
    done : len ≤ count → len - count ≡ 0
    done e = omega (arith, e)

-- Bytes in memory.

memory : (d : Device) (c : Content) (bs : List ℕ) → ((k : ℕ) (rs : Reads) → content_taken c k rs ≡ taken_whole bs k)
    → ((last : Device) (rs : Reads) (next : Device → ℕ → Type 0) (k : ℕ) → next d k → ContentGiven d last c rs next k) → ContentTaken d d c bs true
memory d c bs takes gives = record {
  reads = [];
  takes = λ k rs h. takes k rs ∙ ap (λ (j : ℕ). taken_whole bs j) (let e : k ≡ k + 0 = omega arith in e);
  went = λ _. none_went d;
  goes_on = λ _ last bs k rs h more. gives last rs (λ f j. ReadsGiven f last bs rs j) k (subst (λ (j : ℕ). ReadsGiven d last bs rs j) (let e : k + 0 ≡ k = omega arith in e) more);
  fails = λ never. absurd (false≢true (sym never));
}

pub memory_taken : (d : Device) (bs : List ℕ) → ContentTaken d d (content.Bytes bs) bs true
memory_taken d bs = memory d (content.Bytes bs) bs (λ k rs. refl) (λ last rs next k h. h)

pub nothing_taken : (d : Device) → ContentTaken d d content.Nothing [] true
nothing_taken d = memory d content.Nothing [] (λ k rs. refl) (λ last rs next k h. h)

-- Buckets, one after another.

module _ (b : NamedBucket) (bs : List NamedBucket) (k : ℕ) (rs : Reads) where
  eos_taken : is_eos b ≡ true → taken (b ∷ bs) k rs ≡ taken_whole [] k
  unfolding taken
  eos_taken eos = ap (λ (t : Bool). if t then taken_whole [] k else followed (content_taken b.bucket.content k rs) (λ j. taken bs j rs)) eos

  plain_taken : is_eos b ≡ false → taken (b ∷ bs) k rs ≡ followed (content_taken b.bucket.content k rs) (λ j. taken bs j rs)
  unfolding taken
  plain_taken plain = ap (λ (t : Bool). if t then taken_whole [] k else followed (content_taken b.bucket.content k rs) (λ j. taken bs j rs)) plain

  part_taken : (bytes : List ℕ) (w : Bool) (j : ℕ) → is_eos b ≡ false → content_taken b.bucket.content k rs ≡ record { bytes = bytes; whole = w; reads = j } → w ≡ false
      → taken (b ∷ bs) k rs ≡ record { bytes = bytes; whole = false; reads = j }
  part_taken bytes w j plain is failed =
      plain_taken plain
      ∙ ap (λ (t : Taken). followed t (λ i. taken bs i rs)) (is ∙ ap (λ (v : Bool). let t : Taken = record { bytes = bytes; whole = v; reads = j } in t) failed)

  more_taken : (bytes : List ℕ) (w : Bool) (j : ℕ) → is_eos b ≡ false → content_taken b.bucket.content k rs ≡ record { bytes = bytes; whole = w; reads = j } → w ≡ true
      → taken (b ∷ bs) k rs ≡ and_taken bytes (taken bs j rs)
  more_taken bytes w j plain is went =
      plain_taken plain
      ∙ ap (λ (t : Taken). followed t (λ i. taken bs i rs)) (is ∙ ap (λ (v : Bool). let t : Taken = record { bytes = bytes; whole = v; reads = j } in t) went)

  eos_given : (d e : Device) → is_eos b ≡ true → e ≡ d → ReadsGiven d e (b ∷ bs) rs k
  unfolding ReadsGiven
  eos_given d e eos same = subst (λ (t : Bool). IfElse t (e ≡ d) (ContentGiven d e b.bucket.content rs (λ f j. ReadsGiven f e bs rs j) k)) (sym eos) same

  more_given : (d e : Device) → is_eos b ≡ false → ContentGiven d e b.bucket.content rs (λ f j. ReadsGiven f e bs rs j) k → ReadsGiven d e (b ∷ bs) rs k
  unfolding ReadsGiven
  more_given d e plain h = subst (λ (t : Bool). IfElse t (e ≡ d) (ContentGiven d e b.bucket.content rs (λ f j. ReadsGiven f e bs rs j) k)) (sym plain) h

none_taken : (k : ℕ) (rs : Reads) → taken [] k rs ≡ taken_whole [] k
unfolding taken
none_taken k rs = refl

nothing_given : (d e : Device) (k : ℕ) (rs : Reads) → e ≡ d → ReadsGiven d e [] rs k
unfolding ReadsGiven
nothing_given d e k rs same = same

-- The buckets before a place were taken, by devices d and `now`.
pub record ItemsSoFar (d now : Device) (xs left : Items) (front : List ℕ) : Type 0 where
  pub reads : List (Option (List ℕ))
  pub takes : (runs : ℕ → Bool) (k : ℕ) (rs : Reads) → HasReads rs k reads → taken (shown runs xs) k rs ≡ and_taken front (taken (shown runs left) (k + length reads) rs)
  pub goes_on : (runs : ℕ → Bool) (last : Device) (k : ℕ) (rs : Reads) → HasReads rs k reads → ReadsGiven now last (shown runs left) rs (k + length reads) → ReadsGiven d last (shown runs xs) rs k

module _ (d : Device) (xs : Items) where
  pub items_none : (left : Items) (front : List ℕ) → left ≡ xs → front ≡ [] → ItemsSoFar d d xs left front
  items_none left front all none = record {
    reads = [];
    takes = λ runs k rs h.
        ap (λ (zs : Items). taken (shown runs zs) k rs) (sym all)
        ∙ (ap (λ (j : ℕ). and_taken [] (taken (shown runs left) j rs)) (let e : k ≡ k + 0 = omega arith in e)
        ∙ ap (λ (bytes : List ℕ). and_taken bytes (taken (shown runs left) (k + 0) rs)) (sym none));
    goes_on = λ runs last k rs h rest. subst (λ (zs : Items). ReadsGiven d last (shown runs zs) rs k) all
        (subst (λ (j : ℕ). ReadsGiven d last (shown runs left) rs j) (let e : k + 0 ≡ k = omega arith in e) rest);
  }

  pub items_end : (now : Device) (left : Items) (front : List ℕ) → ItemsSoFar d now xs left front → left ≡ [] → ItemsTaken d now xs front true
  items_end now left front s none = record {
    reads = s.reads;
    takes = λ runs k rs h.
        s.takes runs k rs h
        ∙ (ap (λ (zs : Items). and_taken front (taken (shown runs zs) (k + length s.reads) rs)) none
        ∙ (ap (and_taken front) (none_taken (k + length s.reads) rs)
        ∙ ap (λ (bytes : List ℕ). taken_whole bytes (k + length s.reads)) (append-nil front)));
    given = λ runs k rs h. s.goes_on runs now k rs h
        (subst (λ (zs : Items). ReadsGiven now now (shown runs zs) rs (k + length s.reads)) (sym none) (nothing_given now now (k + length s.reads) rs refl));
  }

  module _ (now : Device) (left : Items) (id : BucketId) (x : Bucket) (ys : Items) (front : List ℕ) (s : ItemsSoFar d now xs left front) (head : left ≡ (id, x) ∷ ys) where
    first : (ℕ → Bool) → NamedBucket
    first runs = named_item (item_in runs (id, x))

    -- what is taken of all is what was taken so far, and what the first of the others begins
    taken_on : (runs : ℕ → Bool) (k : ℕ) (rs : Reads) (t : Taken) → HasReads rs k s.reads → taken (first runs ∷ shown runs ys) (k + length s.reads) rs ≡ t
        → taken (shown runs xs) k rs ≡ and_taken front t
    unfolding first
    taken_on runs k rs t h is = s.takes runs k rs h ∙ (ap (λ (zs : Items). and_taken front (taken (shown runs zs) (k + length s.reads) rs)) head ∙ ap (and_taken front) is)

    given_on : (runs : ℕ → Bool) (last : Device) (k : ℕ) (rs : Reads) → HasReads rs k s.reads → ReadsGiven now last (first runs ∷ shown runs ys) rs (k + length s.reads)
        → ReadsGiven d last (shown runs xs) rs k
    unfolding first
    given_on runs last k rs h more = s.goes_on runs last k rs h (subst (λ (zs : Items). ReadsGiven now last (shown runs zs) rs (k + length s.reads)) (sym head) more)

    pub items_eos : is_eos_kind x.kind ≡ true → ItemsTaken d now xs front true
    unfolding first
    items_eos eos = record {
      reads = s.reads;
      takes = λ runs k rs h.
          taken_on runs k rs _ h (eos_taken (first runs) (shown runs ys) (k + length s.reads) rs eos) ∙ ap (λ (bytes : List ℕ). taken_whole bytes (k + length s.reads)) (append-nil front);
      given = λ runs k rs h. given_on runs now k rs h (eos_given (first runs) (shown runs ys) (k + length s.reads) rs now now eos refl);
    }

    module _ (e : Device) (whole : Bool) (part : List ℕ) (plain : is_eos_kind x.kind ≡ false) (c : ContentTaken now e x.content part whole) where
      all_long : (k : ℕ) → k + length s.reads + length c.reads ≡ k + length (s.reads ++ c.reads)
      all_long k = let l = length-append s.reads c.reads in omega (arith, l)

      pub items_failed : whole ≡ false → ItemsTaken d e xs (front ++ part) false
      unfolding first
      items_failed failed = record {
        reads = s.reads ++ c.reads;
        takes = λ runs k rs h.
            let p = has_both s.reads c.reads k (k + length s.reads) rs refl h in
            taken_on runs k rs _ p.0
            (part_taken (first runs) (shown runs ys) (k + length s.reads) rs part whole (k + length s.reads + length c.reads) plain (c.takes (k + length s.reads) rs p.1) failed)
            ∙ ap (taken_by (front ++ part) false) (all_long k);
        given = λ runs k rs h.
            let p = has_both s.reads c.reads k (k + length s.reads) rs refl h in
            given_on runs e k rs p.0 (more_given (first runs) (shown runs ys) (k + length s.reads) rs now e plain (c.fails failed (shown runs ys) (k + length s.reads) rs p.1));
      }

      pub items_more : whole ≡ true → ItemsSoFar d e xs ys (front ++ part)
      unfolding first
      items_more went = record {
        reads = s.reads ++ c.reads;
        takes = λ runs k rs h.
            let p = has_both s.reads c.reads k (k + length s.reads) rs refl h in
            taken_on runs k rs _ p.0 (more_taken (first runs) (shown runs ys) (k + length s.reads) rs part whole (k + length s.reads + length c.reads) plain (c.takes (k + length s.reads) rs p.1) went)
            ∙ (both_taken front part (taken (shown runs ys) (k + length s.reads + length c.reads) rs)
            ∙ ap (λ (j : ℕ). and_taken (front ++ part) (taken (shown runs ys) j rs)) (all_long k));
        goes_on = λ runs last k rs h rest.
            let p = has_both s.reads c.reads k (k + length s.reads) rs refl h in
            given_on runs last k rs p.0 (more_given (first runs) (shown runs ys) (k + length s.reads) rs now last plain (c.goes_on went last (shown runs ys) (k + length s.reads) rs p.1
            (subst (λ (j : ℕ). ReadsGiven e last (shown runs ys) rs j) (sym (all_long k)) rest)));
      }

-- a walk that stands at no bucket
pub place_end : (place : Option BucketId) (xs : Items) → ((id : BucketId) → place ≡ Some id → ⊥) → from_place place xs ≡ []
place_end None xs never = refl
place_end (Some id) xs never = absurd (never id refl)

pub items_left : (d now : Device) (xs ys zs : Items) (front : List ℕ) → zs ≡ ys → ItemsSoFar d now xs ys front → ItemsSoFar d now xs zs front
items_left d now xs ys zs front same s = subst (λ (ws : Items). ItemsSoFar d now xs ws front) (sym same) s

-- The output.

-- the first reads are these, and no other is made
reads_of : List (Option (List ℕ)) → Reads
reads_of [] k = None
reads_of (g ∷ gs) zero = g
reads_of (g ∷ gs) (suc k) = reads_of gs k

has_later : (g : Option (List ℕ)) (gs hs : List (Option (List ℕ))) (k : ℕ) → HasReads (reads_of gs) k hs → HasReads (reads_of (g ∷ gs)) (k + 1) hs
unfolding reads_of
has_later g gs [] k h = tt
has_later g gs (x ∷ hs) k h = (ap (reads_of (g ∷ gs)) (let e : k + 1 ≡ suc k = omega arith in e) ∙ h.0, has_later g gs hs (k + 1) h.1)

has_these : (gs : List (Option (List ℕ))) → HasReads (reads_of gs) 0 gs
unfolding reads_of
has_these [] = tt
has_these (g ∷ gs) = (refl, has_later g gs gs 0 (has_these gs))

pub was_ended : (d : Device) (bytes : List ℕ) (ended : Bool) (items : List NamedBucket) → ended ≡ true → WasDelivered d d (out_of bytes ended) items (out_of bytes ended) true
unfolding delivered
was_ended d bytes ended items is = record {
  reads = λ k. None;
  given = subst (λ (t : Bool). IfElse t (d ≡ d) (ReadsGiven d d items (λ k. None) 0)) (sym is) refl;
  told = ap (λ (t : Bool). if t then (out_of bytes ended, true) else (out_of (bytes ++ (taken items 0 (λ k. None)).bytes) (has_eos items), (taken items 0 (λ k. None)).whole)) is;
}

-- nothing is put out of no buckets
pub none_delivered : (d : Device) (bytes : List ℕ) (ended : Bool) → WasDelivered d d (out_of bytes ended) [] (out_of bytes ended) true
unfolding delivered ReadsGiven taken
none_delivered d bytes true = was_ended d bytes true [] refl
none_delivered d bytes false = record { reads = λ k. None; given = refl; told = ap (λ (bs : List ℕ). (out_of bs false, true)) (append-nil bytes) }

pub was_delivered : (d e : Device) (runs : ℕ → Bool) (xs : Items) (whole : Bool) (more bytes after : List ℕ) (ended eos : Bool) → ended ≡ false → ItemsTaken d e xs more whole
    → after ≡ bytes ++ more → eos ≡ has_eos (shown runs xs)
    → WasDelivered d e (out_of bytes ended) (shown runs xs) (out_of after eos) whole
unfolding delivered
was_delivered d e runs xs whole more bytes after ended eos open_to s grown ends =
    let rs = reads_of s.reads in
    let items = shown runs xs in
    let took : taken items 0 rs ≡ taken_by more whole (0 + length s.reads) = s.takes runs 0 rs (has_these s.reads) in
    record {
      reads = rs;
      given = subst (λ (t : Bool). IfElse t (e ≡ d) (ReadsGiven d e items rs 0)) (sym open_to) (s.given runs 0 rs (has_these s.reads));
      told =
          ap (λ (t : Bool). if t then (out_of bytes ended, true) else (out_of (bytes ++ (taken items 0 rs).bytes) (has_eos items), (taken items 0 rs).whole)) open_to
          ∙ (ap (λ (t : Taken). (out_of (bytes ++ t.bytes) (has_eos items), t.whole)) took
          ∙ (ap (λ (ys : List ℕ). (out_of ys (has_eos items), whole)) (sym grown) ∙ ap (λ (t : Bool). (out_of after t, whole)) (sym ends)));
    }
