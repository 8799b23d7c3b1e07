-- The buckets of pieces, where the request has their files: what is true of ranges of those files is true of each, and they are held.
use Rattle.std.proofs.Common.{◌≡◌, ℕ, ◌+◌, Bool, true, false, not, List, [], ◌∷◌, All, refl, sym, ◌∙◌, ap, subst}
use Rattle.std.specs.List.{list_any}
use Rattle.std.proofs.lemmas.List.Elements.{All-nil, All-cons}
use Rattle.run_model.specs.declared.bucket.Content.{Content}
use Rattle.run_model.specs.declared.bucket.Content.TheVariants as content
use Rattle.run_model.specs.declared.bucket.Home.TheVariants as home
use Rattle.run_model.specs.declared.bucket.NamedBucket.{NamedBucket}
use Rattle.run_model.specs.declared.event.Piece.{Piece}
use Rattle.run_model.specs.declared.event.Piece.TheVariants as piece
use Rattle.run_model.specs.declared.payload.Payload.{Payload}
use Rattle.run_model.specs.Pools.{Pools}
use Rattle.run_model.specs.Pieces.{lacks_file, has_range, bucket_of, named_from}
use Rattle.run_model.specs.Holding.{refers}
use Rattle.model_laws.specs.Laws.{is_range}
use Rattle.model_laws.proofs.StepFiles.{HeldList, neither}

module _ (T : NamedBucket → Type 0) (files : List (ℕ × ℕ)) (call req : ℕ)
    (ranges : (n file start len : ℕ) → has_range files file (start + len) ≡ true → T (record { name = n; bucket = bucket_of call req (piece.File file start len) }))
    (others : (x : NamedBucket) → is_range x.bucket.content ≡ false → T x) where
  pub pieces_each : (n : ℕ) (xs : List Piece) → list_any (lacks_file files) xs ≡ false → All T (named_from (bucket_of call req) n xs)
  pieces_each n [] there = All-nil T
  pieces_each n (x ∷ xs) there =
      let parts = neither (lacks_file files x) (list_any (lacks_file files) xs) there in
      All-cons T _ (named_from (bucket_of call req) (n + 1) xs) (one x parts.0) (pieces_each (n + 1) xs parts.1) where
        has : (b : Bool) → not b ≡ false → b ≡ true
        has true h = refl
        has false h = absurd (cc)

        one : (y : Piece) → lacks_file files y ≡ false → T (record { name = n; bucket = bucket_of call req y })
        one (piece.File file start len) lacks = ranges n file start len (has (has_range files file (start + len)) lacks)
        one y lacks = others _ refl

-- so is what is said of each range whose home is a pool
module _ (R : ℕ → ℕ → ℕ → ℕ → Type 0) (files : List (ℕ × ℕ)) (call req : ℕ) (ranges : (file start len : ℕ) → has_range files file (start + len) ≡ true → R file start len req) where
  abbrev OfRanges : NamedBucket → Type 0
  OfRanges x = (file start len p : ℕ) → x.bucket.content ≡ content.Range file start len → x.bucket.home ≡ home.Pool p → R file start len p

  no_range : (c : Content) (file start len : ℕ) → is_range c ≡ false → c ≡ content.Range file start len → ⊥
  no_range c file start len off is = absurd (let both : true ≡ false = sym (ap is_range is) ∙ off in cc)

  held : (m f st l : ℕ) → has_range files f (st + l) ≡ true → OfRanges (record { name = m; bucket = bucket_of call req (piece.File f st l) })
  held m f st l has file start len p e at =
      let same_file : f ≡ file = cc in
      let same_start : st ≡ start = cc in
      let same_len : l ≡ len = cc in
      let same_pool : req ≡ p = cc in
      subst (R file start len) same_pool
      (subst (λ (k : ℕ). R file start k req) same_len (subst (λ (k : ℕ). R file k l req) same_start (subst (λ (k : ℕ). R k st l req) same_file (ranges f st l has))))

  pub pieces_ranges : (n : ℕ) (xs : List Piece) → list_any (lacks_file files) xs ≡ false → All OfRanges (named_from (bucket_of call req) n xs)
  pieces_ranges n xs there = pieces_each OfRanges files call req held (λ x off. λ file start len p e at. absurd (no_range x.bucket.content file start len off e)) n xs there

pub pieces_held : (ps : Pools Payload) (files : List (ℕ × ℕ)) (call req n : ℕ) (xs : List Piece) → list_any (lacks_file files) xs ≡ false
    → ((file end : ℕ) → has_range files file end ≡ true → refers ps req file ≡ true) → HeldList ps (named_from (bucket_of call req) n xs)
pieces_held ps files call req n xs there request = pieces_ranges (λ file start len p. refers ps p file ≡ true) files call req (λ file start len has. request file (start + len) has) n xs there
