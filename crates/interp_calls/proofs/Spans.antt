-- Bytes that are fetched at once are those of the reads of which they are made.
use Rattle.std.proofs.Common.{◌≡◌, ◌≢◌, ◌⊎◌, inl, inr, ℕ, zero, suc, ◌+◌, ◌-◌, ◌*◌, ◌<◌, ◌≤◌, min, Bool, true, false, cond, List, [], ◌++◌, length, take, drop, refl, sym, ap, subst, ⊎_elim, ◌∙◌}
use Rattle.std.proofs.Common.{append_assoc, arith}
use Rattle.std.proofs.Math.Seq.{drop-append_seam, take-append_seam}
use Rattle.std.proofs.lemmas.Bool.{cases_lt}
use Rattle.std.proofs.lemmas.List.{append-nil, length-take-le, length-drop, nil_from_length, take-take, drop-take, drop-drop, take-append-drop}
use Rattle.bucket_kinds.specs.Device.{Held, Missing, Untold, Holds, Device, counts, moved, MayGoWell, WentWell, HasFailed, SomeWentWell}
use Rattle.bucket_kinds.specs.Reading.{MayGiveBytes, MayEnd}
use Rattle.run_model.specs.declared.bucket.Content.TheVariants as content
use Rattle.run_model.specs.Cutting.{read_limit}
use Rattle.interp_calls.specs.Delivery.{ContentAdded, HasFront, SpanAdded, given_of}
use Rattle.interp_calls.specs.Filled.{end_after}
use Rattle.interp_calls.specs.declared.output.Fetched.{Fetched}
use Rattle.interp_calls.specs.declared.output.Fetched.TheVariants as fetched
use Rattle.interp_calls.proofs.Buffers.{behind, both_parts}
use Rattle.interp_calls.proofs.Delivering.{RangeSoFar, range_read, range_failed}
use Rattle.interp_calls.proofs.WellRead.{one_went, more_went, still_there}

given_len : (h : Held) (at n : ℕ) (bytes : List ℕ) → MayGiveBytes h at n bytes → length bytes ≡ n
given_len Missing at n bytes never = absurd never
given_len Untold at n bytes is = is
given_len (Holds text) at n bytes g = g.0

-- the first bytes of those that were given
give_first : (h : Held) (at m n : ℕ) (bytes : List ℕ) → m ≤ n → MayGiveBytes h at n bytes → MayGiveBytes h at m (take m bytes)
give_first Missing at m n bytes le never = absurd never
give_first Untold at m n bytes le is = length-take-le m bytes (omega (arith, le, is))
give_first (Holds text) at m n bytes le g = (let long = g.0 in length-take-le m bytes (omega (arith, le, long)), ap (take m) g.1 ∙ take-take m n (drop at text) le)

-- those behind them
give_rest : (h : Held) (at m n k : ℕ) (bytes : List ℕ) → n ≡ m + k → MayGiveBytes h at n bytes → MayGiveBytes h (at + m) k (drop m bytes)
give_rest Missing at m n k bytes is never = absurd never
give_rest Untold at m n k bytes is g = let all = length-drop m bytes in omega (arith, all, g, is)
give_rest (Holds text) at m n k bytes is g = (
  let all = length-drop m bytes in let long = g.0 in omega (arith, all, long, is),
  ap (drop m) (g.1 ∙ ap (λ j. take j (drop at text)) is) ∙ (drop-take m k (drop at text) ∙ ap (take k) (drop-drop m at text)),
)

-- So many reads are made at once: one, or some of a device that is after each what it was.
pub record SpanOf (now : Device) (limit : ℕ) : Type 0 where
  pub reads : ℕ
  pub limit_is : limit ≡ 8000 * reads
  pub some : 0 < reads
  pub alike : (reads ≡ 1) ⊎ (moved now ≡ now)

pub span_one : (now : Device) → SpanOf now 8000
span_one now = record { reads = 1; limit_is = omega arith; some = omega arith; alike = inl refl }

pub span_of : (now : Device) (limit : ℕ) → limit ≡ cond (counts now.plan) read_limit (10 * read_limit) → SpanOf now limit
span_of now limit is = go (counts now.plan) refl is where
  go : (t : Bool) → counts now.plan ≡ t → limit ≡ cond t read_limit (10 * read_limit) → SpanOf now limit
  go true e one = record { reads = 1; limit_is = omega (arith, one); some = omega arith; alike = inl refl }
  go false e ten = record { reads = 10; limit_is = omega (arith, ten); some = omega arith; alike = inr (still_there now e) }

span_on : (now e : Device) (limit : ℕ) → WentWell now e → SpanOf now limit → SpanOf e limit
span_on now e limit well span = record {
  reads = span.reads;
  limit_is = span.limit_is;
  some = span.some;
  alike = elim (span.alike) [
    | inl one ↦ inl one
    | inr same ↦ inr (subst (λ (x : Device). moved x ≡ x) (sym (well.1 ∙ same)) same)
  ];
}

pub none_given : (f : Fetched) (bytes : List ℕ) → f ≢ fetched.All → given_of f bytes ≡ []
none_given fetched.All bytes never = absurd (never refl)
none_given fetched.Ended bytes _ = refl
none_given fetched.Failed bytes _ = refl

pub end_stays : (f : Fetched) (end n : ℕ) → f ≢ fetched.All → end_after f end n ≡ end
end_stays fetched.All end n never = absurd (never refl)
end_stays fetched.Ended end n _ = refl
end_stays fetched.Failed end n _ = refl

module _ (d : Device) (file start len : ℕ) where
  module _ (now : Device) where
    span_none : (count n : ℕ) (front bytes : List ℕ) → RangeSoFar d now file start len count front → n ≡ 0 → MayGiveBytes (now.numbered file) (start + count) n bytes
        → RangeSoFar d now file start len (count + n) (front ++ bytes)
    span_none count n front bytes s none gives =
        subst (λ (c : ℕ). RangeSoFar d now file start len c (front ++ bytes)) (let e : count ≡ count + n = omega (arith, none) in e)
        (subst (λ (bs : List ℕ). RangeSoFar d now file start len count bs)
        (sym (ap (λ (bs : List ℕ). front ++ bs) (nil_from_length bytes (given_len (now.numbered file) (start + count) n bytes gives ∙ none)) ∙ append-nil front)) s)

    -- So many bytes are those of k reads, or of fewer at the end of the range.
    span_still : moved now ≡ now → MayGoWell now.plan → (k count n : ℕ) (front bytes : List ℕ) → RangeSoFar d now file start len count front → n ≡ min (len - count) (8000 * k)
        → MayGiveBytes (now.numbered file) (start + count) n bytes
        → RangeSoFar d now file start len (count + n) (front ++ bytes)
    span_still same well zero count n front bytes s is gives = span_none count n front bytes s (omega (arith, is)) gives
    span_still same well (suc k) count n front bytes s is gives =
        ⊎_elim
        (λ (below : count < len).
        let m : ℕ = min (len - count) 8000 in
        let within : m ≤ n = omega (arith, is) in
        let parts : n ≡ m + (n - m) = omega (arith, within) in
        let first = subst (λ (x : Device). RangeSoFar d x file start len (count + m) (front ++ take m bytes)) same
        (range_read d file start len now count m (count + m) front (take m bytes) (front ++ take m bytes) s below refl
        (give_first (now.numbered file) (start + count) m n bytes within gives) well refl refl) in
        let on : start + count + m ≡ start + (count + m) = omega arith in
        let later = span_still same well k (count + m) (n - m) (front ++ take m bytes) (drop m bytes) first (omega (arith, is, below))
        (subst (λ (at : ℕ). MayGiveBytes (now.numbered file) at (n - m) (drop m bytes)) on (give_rest (now.numbered file) (start + count) m n (n - m) bytes parts gives)) in
        subst (λ (c : ℕ). RangeSoFar d now file start len c (front ++ bytes)) (let e : count + m + (n - m) ≡ count + n = omega (arith, within) in e)
        (subst (λ (bs : List ℕ). RangeSoFar d now file start len (count + m + (n - m)) bs)
        (append_assoc front (take m bytes) (drop m bytes) ∙ ap (λ (bs : List ℕ). front ++ bs) (take-append-drop m bytes)) later))
        (λ (past : len ≤ count). span_none count n front bytes s (omega (arith, is, past)) gives)
        (cases_lt count len)

    -- One read leaves the device moved; some leave it as it was, and so does one.
    pub span_read : (e : Device) (limit count n : ℕ) (front bytes : List ℕ) → WentWell now e → SpanOf now limit → count < len → n ≡ min limit (len - count)
        → RangeSoFar d now file start len count front → MayGiveBytes (now.numbered file) (start + count) n bytes
        → RangeSoFar d e file start len (count + n) (front ++ bytes)
    span_read e limit count n front bytes well span below is s gives =
        let of = span.limit_is in
        elim (span.alike) [
          | inl one ↦ subst (λ (x : Device). RangeSoFar d x file start len (count + n) (front ++ bytes)) (sym well.1)
              (range_read d file start len now count n (count + n) front bytes (front ++ bytes) s below (omega (arith, of, is, one)) gives well.0 refl refl)
          | inr same ↦ subst (λ (x : Device). RangeSoFar d x file start len (count + n) (front ++ bytes)) (sym (well.1 ∙ same))
              (span_still same well.0 span.reads count n front bytes s (omega (arith, of, is)) gives)
        ]

  -- So far `out` stands behind what was there before. A span more was asked for.
  module _ (now e : Device) (count n : ℕ) (before out new : List ℕ) (front : HasFront before out) (went : SomeWentWell d now)
      (s : RangeSoFar d now file start len count (drop (length before) out)) where
    abbrev SpanAsked : Fetched → Type 0
    SpanAsked f = SpanAdded now e file (start + count) n f out new

    -- all of it was given
    pub span_all : (limit : ℕ) (f : Fetched) → SpanOf now limit → count < len → n ≡ min limit (len - count) → SpanAsked f → f ≡ fetched.All
        → HasFront before new × SomeWentWell d e × RangeSoFar d e file start len (count + n) (drop (length before) new) × SpanOf e limit
    span_all limit fetched.Ended span below is a never = absurd (cc never)
    span_all limit fetched.Failed span below is a never = absurd (cc never)
    span_all limit fetched.All span below is a _ =
        let kept : List ℕ = drop (length before) out in
        let all : new ≡ before ++ (kept ++ a.added) = behind before out a.added new front a.grown in (
          ap (take (length before)) all ∙ take-append_seam before (kept ++ a.added),
          more_went d now e went (one_went now e a.fetched_so.1),
          subst (λ (bs : List ℕ). RangeSoFar d e file start len (count + n) bs) (sym (ap (drop (length before)) all ∙ drop-append_seam before (kept ++ a.added)))
              (span_read now e limit count n kept a.added a.fetched_so.1 span below is s a.fetched_so.0),
          span_on now e limit a.fetched_so.1 span,
        )

    -- The file ends within it, and it was more than one read.
    pub span_ended : (limit : ℕ) (f : Fetched) → SpanOf now limit → 8000 < n → n ≡ min limit (len - count) → SpanAsked f → f ≡ fetched.Ended → HasFront before new × SomeWentWell d e
        × RangeSoFar d e file start len count (drop (length before) new)
    span_ended limit fetched.All span more is a never = absurd (cc never)
    span_ended limit fetched.Failed span more is a never = absurd (cc never)
    span_ended limit fetched.Ended span more is a _ =
        let alike : new ≡ out = a.grown ∙ append-nil out in
        let of = span.limit_is in (
          subst (λ (bs : List ℕ). HasFront before bs) (sym alike) front,
          more_went d now e went (one_went now e a.fetched_so.1),
          subst (λ (bs : List ℕ). RangeSoFar d e file start len count (drop (length before) bs)) (sym alike)
              (elim (span.alike) [
                | inl one ↦ absurd (omega (arith, of, is, one, more))
                | inr same ↦ subst (λ (x : Device). RangeSoFar d x file start len count (drop (length before) out)) (sym (a.fetched_so.1.1 ∙ same)) s
              ]),
        )

    lacks : (m : ℕ) → new ≡ out → count < len → m ≡ min (len - count) 8000 → HasFailed now e ⊎ (WentWell now e × MayEnd (now.numbered file) (start + count) m)
        → ContentAdded d e (content.Range file start len) false before new
    lacks m alike below is why =
        record { added = drop (length before) out; grown = alike ∙ both_parts before out front; taken_so = range_failed d file start len now e count m (drop (length before) out) s below is why }

    -- It is one read, and was not given; or the device failed.
    pub span_lacks : (f : Fetched) → count < len → SpanAsked f → f ≢ fetched.All → (f ≡ fetched.Ended → n ≡ min (len - count) 8000) → ContentAdded d e (content.Range file start len) false before new
    span_lacks fetched.All below a never one = absurd (never refl)
    span_lacks fetched.Ended below a _ one = lacks n (a.grown ∙ append-nil out) below (one refl) (inr (a.fetched_so.1, a.fetched_so.0))
    span_lacks fetched.Failed below a _ one = lacks (min (len - count) 8000) (a.grown ∙ append-nil out) below refl (inl a.fetched_so)
