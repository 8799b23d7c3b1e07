use Rattle.std.proofs.Common.{Option, ap, ◌∙◌}
use Rattle.run_model.specs.declared.bucket.Bucket.{Bucket}
use Rattle.bucket_ring.specs.Lists.{on, with_payload}
use Rattle.brigade_ops.specs.Store.{lists}
use Rattle.bucket_store.proofs.Lying.{read_told}
use Rattle.brigade_ops.proofs.store.Brigades.read_whole.Goals as goal

pub returns-clause-ok : goal.returns-clause-ok
returns-clause-ok g c b at =
    let told = c.in_ok-_rest.ensures.ok in
    (told.0, told.1, λ m. c.set_own.ensures.out b m at ∙ ap (λ (p : Bucket × Option Bucket). on b (with_payload c.args.id p.0) (lists c.args.self.now) m) told.2)

pub set_own-requires-clause-lies : goal.set_own-requires-clause-lies
set_own-requires-clause-lies g c =
    let told = c.in_ok-_rest.ensures.ok in
    read_told told.0 c.args.bucket c.read_into.new.bucket _ told.2 c.requires.lies
