use Rattle.std.proofs.Common.{ap, ◌∙◌, arith}
use Rattle.run_model.specs.declared.bucket.Bucket.{Bucket}
use Rattle.bucket_kinds.specs.declared.stored.Kept.{Kept}
use Rattle.bucket_kinds.specs.declared.stored.Stored.{Stored}
use Rattle.bucket_kinds.specs.Stored.{shown}
use Rattle.bucket_kinds.proofs.Places.{both_shown}
use Rattle.bucket_kinds.proofs.placing.stored_halves.Goals as goal

pub returns-clause-shown : goal.returns-clause-shown
returns-clause-shown c look =
    let x = c.args.stored.now in
    ap (λ (p : Kept × Kept). let a : Stored = record x { kept = p.0 } in let b : Stored = record x { kept = p.1 } in let both : Bucket × Bucket = (shown look a, shown look b) in both)
    c.in_ok-front.ensures.ok
    ∙ both_shown look c.args.n x (let e = c.kept_length.ensures in let f = c.if-n-kept_length.false in omega (arith, e, f))
