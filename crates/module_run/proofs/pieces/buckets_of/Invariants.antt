-- The buckets so far, and those of the pieces that are left, are all.
use Rattle.std.proofs.Common.{◌≡◌, ◌++◌, map}
use Rattle.std.specs.Vec.Iter.{into_iter_items}
use Rattle.run_model.specs.Pieces.{bucket_of}
use Rattle.bucket_kinds.specs.Stored.{own}
use Rattle.module_run.proofs.pieces.buckets_of.Given as goal

abbrev pub invariant-loop-piece : goal.invariant-loop-piece
invariant-loop-piece l =
    l.buckets.items ++ map (λ piece. own (bucket_of l.fn.call l.fn.req piece)) (into_iter_items l.piece-iterator)
    ≡ map (λ piece. own (bucket_of l.fn.call l.fn.req piece)) l.fn.pieces
