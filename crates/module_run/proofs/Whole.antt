-- A brigade that was brought has its files: where a bucket has a range of one, its home is a pool.
use Rattle.std.proofs.Common.{◌≡◌, ℕ, ◌+◌, List, [], ◌∷◌, refl, sym, subst, ap}
use Rattle.std.proofs.lemmas.List.Elements.{All-cons, All-nil}
use Rattle.run_model.specs.declared.bucket.NamedBucket.{NamedBucket}
use Rattle.run_model.specs.declared.event.Piece.{Piece}
use Rattle.run_model.specs.declared.event.Piece.TheVariants as piece
use Rattle.run_model.specs.Pieces.{bucket_of, named_from}
use Rattle.bucket_store.specs.Items.{Item, Items, named}
use Rattle.module_run.specs.Stacked.{AreWhole, IsWhole}

first_same : (a b : NamedBucket) (xs ys : List NamedBucket) → a ∷ xs ≡ b ∷ ys → a ≡ b
first_same a b xs ys e = cc

rest_same : (a b : NamedBucket) (xs ys : List NamedBucket) → a ∷ xs ≡ b ∷ ys → xs ≡ ys
rest_same a b xs ys e = cc

piece_whole : (call req : ℕ) (x : Piece) → IsWhole (bucket_of call req x)
piece_whole call req (piece.Heap bytes) = λ file start len e. absurd (cc)
piece_whole call req (piece.Transient bytes) = λ file start len e. absurd (cc)
piece_whole call req (piece.Immortal bytes) = λ file start len e. absurd (cc)
piece_whole call req (piece.Pool bytes) = λ file start len e. absurd (cc)
piece_whole call req (piece.File number from count) = λ file start len e. (req, refl)
piece_whole call req piece.Flush = λ file start len e. absurd (cc)
piece_whole call req piece.Eos = λ file start len e. absurd (cc)

pub brought_whole : (call req n : ℕ) (pieces : List Piece) (items : Items) → named items ≡ named_from (bucket_of call req) n pieces → AreWhole items
brought_whole call req n [] [] e = All-nil (λ (x : Item). IsWhole x.1)
brought_whole call req n [] (y ∷ ys) e = absurd (cc)
brought_whole call req n (x ∷ xs) [] e = absurd (cc)
brought_whole call req n (x ∷ xs) (y ∷ ys) e =
    All-cons (λ (z : Item). IsWhole z.1) y ys (subst IsWhole (sym (ap (λ (z : NamedBucket). z.bucket) (first_same _ _ _ _ e))) (piece_whole call req x)) (brought_whole call req (n + 1) xs ys (rest_same _ _ _ _ e))
