-- A content of its own is copied, and a place is kept as it is.
use Rattle.std.proofs.Common.{◌≡◌, sym, ◌∙◌, ap}
use Rattle.bucket_kinds.specs.declared.stored.Kept.TheVariants as kept
use Rattle.bucket_kinds.specs.declared.stored.Stored.{Stored}
use Rattle.bucket_kinds.proofs.placing.stored_copy.Goals as goal
use Rattle.bucket_kinds.proofs.placing.stored_copy.Goals.{in-Own+in_ok-content_copy-in-Own, in-Placed}

pub returns-clause-ok : goal.returns-clause-ok
returns-clause-ok c =
    let same : c.match-stored.kept ≡ c.args.stored.now.kept = elim c.match-stored.branch [
      | in-Own+in_ok-content_copy-in-Own w ↦ w.kept-is ∙ (ap (λ k. kept.Own k) w.in_ok-content_copy-in-Own.ensures.ok ∙ sym w.in-Own.is)
      | in-Placed w ↦ (let is : c.match-stored.kept ≡ kept.Placed w.in-Placed.place = w.kept-is in is ∙ sym w.in-Placed.is)
    ] in ap (λ k. let x : Stored = record c.args.stored.now { kept = k } in x) same
