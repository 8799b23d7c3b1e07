-- What was brought to a call that runs reads as it was brought.
use Rattle.std.proofs.Common.{◌≡◌, ℕ, ◌+◌, ◌<◌, Bool, true, List, [], ◌∷◌, None, refl, sym, ap, ◌∙◌, arith}
use Rattle.std.proofs.lemmas.Bool.{lt-ltb}
use Rattle.pool_tree.proofs.Trees.{not_there}
use Rattle.bucket_ring.specs.declared.rings.Rings.{Ghosts}
use Rattle.run_model.specs.declared.bucket.Bucket.{Bucket}
use Rattle.run_model.specs.declared.bucket.Home.{Home}
use Rattle.run_model.specs.declared.bucket.Home.TheVariants as home
use Rattle.run_model.specs.declared.bucket.NamedBucket.{NamedBucket}
use Rattle.run_model.specs.declared.event.Piece.{Piece}
use Rattle.run_model.specs.declared.event.Piece.TheVariants as piece
use Rattle.run_model.specs.Pieces.{bucket_of, named_from}
use Rattle.bucket_kinds.specs.declared.stored.Stored.{Stored}
use Rattle.brigade_ops.specs.declared.store.Brigades.{Brigades}
use Rattle.bucket_store.specs.Items.{Item, Items, named, named_item}
use Rattle.brigade_ops.specs.Store.{lists, next_name}
use Rattle.brigade_ops.proofs.Stores.{brigades}
use Rattle.interp_state.specs.Seen.{home_in, bucket_in, read_in, shown}

module _ (runs : ℕ → Bool) (call req : ℕ) (alive : runs call ≡ true) where
  home_reads : (n : ℕ) → call < n → home_in runs n (home.Call call) ≡ home.Call call
  home_reads n young = rw (alive, lt-ltb call n young) refl

  piece_reads : (n : ℕ) (x : Piece) → call < n → bucket_in runs n (bucket_of call req x) ≡ bucket_of call req x
  piece_reads n (piece.Heap bytes) young = refl
  piece_reads n (piece.Transient bytes) young = ap (λ (h : Home). let b : Bucket = record (bucket_of call req (piece.Transient bytes)) { home = h } in b) (home_reads n young)
  piece_reads n (piece.Immortal bytes) young = refl
  piece_reads n (piece.Pool bytes) young = refl
  piece_reads n (piece.File file start len) young = refl
  piece_reads n piece.Flush young = refl
  piece_reads n piece.Eos young = refl

  pub brought_reads : (n : ℕ) (pieces : List Piece) (xs : Items) → named xs ≡ named_from (bucket_of call req) n pieces → call < n → read_in runs xs ≡ xs
  brought_reads n [] [] is young = refl
  brought_reads n [] (x ∷ xs) is young = cc
  brought_reads n (p ∷ ps) [] is young = cc
  brought_reads n (p ∷ ps) (x ∷ xs) is young =
      let first : named_item x ≡ record { name = n; bucket = bucket_of call req p } = cc in
      let made : x.1 ≡ bucket_of call req p = ap (λ (y : NamedBucket). y.bucket) first in
      let birth : x.0.birth ≡ n = ap (λ (y : NamedBucket). y.name) first in
      let others : named xs ≡ named_from (bucket_of call req) (n + 1) ps = cc in
      let reads : bucket_in runs x.0.birth x.1 ≡ x.1 =
      ap (bucket_in runs x.0.birth) made ∙ (piece_reads x.0.birth p (omega (arith, birth)) ∙ sym made) in
      ap (λ (y : Bucket). (let z : Item = (x.0, y) in z) ∷ read_in runs xs) reads ∙ ap (λ (ys : Items). x ∷ ys) (brought_reads (n + 1) ps xs others (omega arith))

  -- so it is shown as the model has it
  pub brought_shown : (n : ℕ) (pieces : List Piece) (xs : Items) → named xs ≡ named_from (bucket_of call req) n pieces → call < n → shown runs xs ≡ named_from (bucket_of call req) n pieces
  brought_shown n pieces xs is young = ap named (brought_reads n pieces xs is young) ∙ is

-- The next name is no brigade's.
pub next_free : {R : Type 0} {g : Ghosts R Stored} (store : Brigades R g) → lists store (next_name store) ≡ None
next_free store = not_there (lists store (next_name store)) (λ there. omega (arith, brigades store (next_name store) there))
