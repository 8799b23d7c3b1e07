-- A place is cut at a point into the places before it and from it on.
use Rattle.std.proofs.Common.{sym, ap}
use Rattle.bucket_kinds.specs.Stored.{kept_front, kept_rest}
use Rattle.bucket_kinds.specs.declared.stored.Kept.{Kept}
use Rattle.bucket_kinds.proofs.placing.kept_parts.Goals as goal

pub returns-in-Placed-clause-ok : goal.returns-in-Placed-clause-ok
returns-in-Placed-clause-ok c =
    let n = c.args.n in
    ap (λ k. let both : Kept × Kept = (kept_front n k, kept_rest n k) in both) (sym c.in-Placed.is)
