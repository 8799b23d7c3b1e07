use Rattle.std.proofs.Common.{sym, ◌∙◌}
use Rattle.bucket_ring.specs.Lists.{list_at, times}
use Rattle.bucket_ring.specs.Laws.{next_found}
use Rattle.bucket_store.proofs.Walks.{once_listed, behind_some, behind_none}
use Rattle.bucket_store.proofs.noting.after.Goals as goal

pub returns-in-Ok-clause-rest : goal.returns-in-Ok-clause-rest
returns-in-Ok-clause-rest g c =
    let s = c.args.rings.now in
    let b = c.args.ring in
    let xs = list_at (g.R.Rings.lists s) b in
    behind_some b c.args.id c.in-Ok.next xs (λ i. once_listed b (g.R.Rings.ring_at s i) (times i xs) (g.met.R.Rings.counted s i b)) (sym (c.next.ensures b c.requires) ∙ c.in-Ok.is)

pub returns-in-Ok-clause-inside : goal.returns-in-Ok-clause-inside
returns-in-Ok-clause-inside g c =
    let s = c.args.rings.now in
    let b = c.args.ring in
    g.met.R.Rings.in_found s c.in-Ok.next b (next_found b c.args.id c.in-Ok.next (list_at (g.R.Rings.lists s) b) (sym (c.next.ensures b c.requires) ∙ c.in-Ok.is))

pub returns-in-Err-clause-rest : goal.returns-in-Err-clause-rest
returns-in-Err-clause-rest g c =
    behind_none c.args.ring c.in-Err.field-0 c.args.id (list_at (g.R.Rings.lists c.args.rings.now) c.args.ring) (sym (c.next.ensures c.args.ring c.requires) ∙ c.in-Err.is)
