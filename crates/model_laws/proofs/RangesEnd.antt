-- A step keeps ranges below 2^64, and so are those of what is brought.
use Rattle.std.proofs.Common.{◌≡◌, ℕ, ◌+◌, ◌^◌, ◌<◌, ◌≤◌, Bool, true, false, ◌&&◌, not, ◌==◌, nat_le, List, [], ◌∷◌, All, inl, inr, refl, arith}
use Rattle.std.specs.List.{list_any}
use Rattle.std.proofs.lemmas.Bool.Decides.{nat_tests}
use Rattle.std.proofs.lemmas.List.Elements.{All-nil, All-cons, All-head, All-tail}
use Rattle.run_model.specs.declared.bucket.Content.{Content}
use Rattle.run_model.specs.declared.bucket.Content.TheVariants as content
use Rattle.run_model.specs.declared.bucket.Bucket.{Bucket}
use Rattle.run_model.specs.declared.event.Piece.{Piece}
use Rattle.run_model.specs.declared.event.Piece.TheVariants as piece
use Rattle.run_model.specs.Cutting.{EndsInFile, length_of, front_of, rest_of}
use Rattle.run_model.specs.State.{Configuration}
use Rattle.run_model.specs.Pieces.{bucket_of, named_from, has_range, lacks_file}
use Rattle.model_laws.specs.RangesEnd.{RangesEnd, StepKeepsEnds, PieceEnds, LengthsEnd}
use Rattle.model_laws.proofs.StepFiles.{neither}
use Rattle.run_model.proofs.References.{one_of}
use Rattle.model_laws.proofs.Origins.{EachBucketIs, PassesParts, Holds}
use Rattle.model_laws.proofs.Contents.{step_contents}

-- Parts of a bucket.

abbrev pub Ends : Bucket → Type 0
Ends b = EndsInFile b.content

front_ends : (n : ℕ) (c : Content) → n ≤ length_of c → EndsInFile c → EndsInFile (front_of n c)
front_ends n (content.Bytes bs) le h = tt
front_ends n (content.Range file start len) le h = omega arith
front_ends n content.Nothing le h = tt

rest_ends : (n : ℕ) (c : Content) → n ≤ length_of c → EndsInFile c → EndsInFile (rest_of n c)
rest_ends n (content.Bytes bs) le h = tt
rest_ends n (content.Range file start len) le h = omega arith
rest_ends n content.Nothing le h = tt

parts : PassesParts Ends
parts = record { front = λ n b le h. front_ends n b.content le h; rest = λ n b le h. rest_ends n b.content le h }

-- Steps.

held : (r : Configuration) → RangesEnd r → Holds Ends r
held r s = record { brigades = s.brigades; loose = s.loose }

pub step_ends : StepKeepsEnds
step_ends p choice i r s = let left = step_contents EndsInFile p choice i r parts (λ b new put. new.ends) (λ c bytes is. tt) (held r s) in record { brigades = left.brigades; loose = left.loose }

-- What is brought.

piece_ends : (call req : ℕ) (x : Piece) → PieceEnds x → Ends (bucket_of call req x)
piece_ends call req (piece.File file start len) h = h
piece_ends call req x h = tt

pub pieces_end : (call req n : ℕ) (xs : List Piece) → All PieceEnds xs → EachBucketIs Ends (named_from (bucket_of call req) n xs)
pieces_end call req n [] all = All-nil (λ x. Ends x.bucket)
pieces_end call req n (x ∷ xs) all =
    All-cons (λ x. Ends x.bucket) _ (named_from (bucket_of call req) (n + 1) xs) (piece_ends call req x (All-head PieceEnds x xs all)) (pieces_end call req (n + 1) xs (All-tail PieceEnds x xs all))

-- a file that is told reaches no further than it was told
reach_ends : (files : List (ℕ × ℕ)) (file end : ℕ) → LengthsEnd files → has_range files file end ≡ true → end < 2 ^ 64
reach_ends [] file end all has = absurd (cc)
reach_ends (f ∷ rest) file end all has = elim (one_of (f.0 == file && nat_le end f.1) (has_range rest file end) has) [
  | inl here ↦ reaches f.1 (second (f.0 == file) (nat_le end f.1) here) (All-head (λ f. f.1 < 2 ^ 64) f rest all)
  | inr later ↦ reach_ends rest file end (All-tail (λ f. f.1 < 2 ^ 64) f rest all) later
] where
  second : (a b : Bool) → (a && b) ≡ true → b ≡ true
  second true b e = e
  second false b e = absurd (cc)

  reaches : (n : ℕ) → nat_le end n ≡ true → n < 2 ^ 64 → end < 2 ^ 64
  reaches n e lt = let le : end ≤ n = grind (arith, nat_tests) in omega arith

told_ends : (files : List (ℕ × ℕ)) (x : Piece) → LengthsEnd files → lacks_file files x ≡ false → PieceEnds x
told_ends files (piece.File file start len) all there = reach_ends files file (start + len) all (has (has_range files file (start + len)) there) where
  has : (b : Bool) → not b ≡ false → b ≡ true
  has true h = refl
  has false h = absurd (cc)
told_ends files x all there = tt

pub told_end : (files : List (ℕ × ℕ)) (xs : List Piece) → LengthsEnd files → list_any (lacks_file files) xs ≡ false → All PieceEnds xs
told_end files [] all there = All-nil PieceEnds
told_end files (x ∷ xs) all there =
    let parts = neither (lacks_file files x) (list_any (lacks_file files) xs) there in
    All-cons PieceEnds x xs (told_ends files x all parts.0) (told_end files xs all parts.1)
