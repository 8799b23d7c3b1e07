-- A FILE bucket whose home is no ancestor of the target gets the target as its home.
use Rattle.std.proofs.Common.{sym, ◌∙◌, ap}
use Rattle.run_model.specs.declared.bucket.Kind.TheVariants as kind
use Rattle.run_model.specs.Cutting.{set_aside_as}
use Rattle.bucket_kinds.proofs.cutting.aside_bucket.Goals as goal

pub returns-in-File-clause-new : goal.returns-in-File-clause-new
returns-in-File-clause-new c =
    let b = c.args.bucket.now in
    let target = c.args.target in
    sym (ap (set_aside_as target c.args.is_ancestor b) c.in-File.is ∙ ap (λ above. set_aside_as target above b kind.File) c.if-not-is_ancestor.true)
