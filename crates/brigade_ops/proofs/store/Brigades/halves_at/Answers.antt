use Rattle.std.proofs.Common.{sym, ap, ◌∙◌}
use Rattle.std.proofs.lemmas.Option.{same_Some}
use Rattle.run_model.specs.declared.bucket.Bucket.{Bucket}
use Rattle.run_model.specs.Cutting.{split_at}
use Rattle.bucket_kinds.specs.declared.stored.Stored.{Stored}
use Rattle.bucket_kinds.specs.Stored.{shown}
use Rattle.bucket_kinds.proofs.Places.{parts_shown}
use Rattle.bucket_store.specs.Regions.{look}
use Rattle.bucket_store.specs.Shown.{lies_right}
use Rattle.bucket_store.proofs.Lying.{front_lies, rest_lies}
use Rattle.bucket_store.proofs.Shown.{if_ok_and, if_ok_then}
use Rattle.brigade_ops.proofs.store.Brigades.halves_at.Goals as goal

pub returns-clause-rest : goal.returns-clause-rest
returns-clause-rest g c =
    let see = look c.args.self.now.held.regions in
    let n = c.args.n in
    let stored = c.stored.result.now in
    if_ok_and _ _ _ c.stored_halves.result c.stored_halves.ensures.ok c.stored_halves.ensures.within
    (λ p is le x at.
    ap (λ (q : Stored × Stored). shown see q.1) is
    ∙ ((parts_shown see n stored le).1 ∙ ap (λ (y : Bucket). (split_at n y).1) (same_Some (shown see stored) x (sym c.stored.ensures.shown ∙ at))))

pub returns-clause-front_lies : goal.returns-clause-front_lies
returns-clause-front_lies g c =
    let stored = c.stored.result.now in
    if_ok_then _ _ c.stored_halves.result c.stored_halves.ensures.ok
    (λ p is. ap (λ (q : Stored × Stored). lies_right q.0.kind q.0.kept) is ∙ front_lies c.args.n stored.kind stored.kept c.stored.ensures.lies)

pub returns-clause-rest_lies : goal.returns-clause-rest_lies
returns-clause-rest_lies g c =
    let stored = c.stored.result.now in
    if_ok_then _ _ c.stored_halves.result c.stored_halves.ensures.ok
    (λ p is. ap (λ (q : Stored × Stored). lies_right q.1.kind q.1.kept) is ∙ rest_lies c.args.n stored.kind stored.kept c.stored.ensures.lies)
