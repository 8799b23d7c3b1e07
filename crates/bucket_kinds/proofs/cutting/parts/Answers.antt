-- A range is cut at a point into the ranges before it and from it on.
use Rattle.std.proofs.Common.{sym, ap}
use Rattle.run_model.specs.declared.bucket.Content.{Content}
use Rattle.run_model.specs.Cutting.{front_of, rest_of}
use Rattle.bucket_kinds.proofs.cutting.parts.Goals as goal

pub returns-in-Range-clause-ok : goal.returns-in-Range-clause-ok
returns-in-Range-clause-ok c =
    let n = c.args.n in
    ap (λ k. let both : Content × Content = (front_of n k, rest_of n k) in both) (sym c.in-Range.is)
