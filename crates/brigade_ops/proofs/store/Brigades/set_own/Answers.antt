use Rattle.std.proofs.Common.{ap, ◌∙◌}
use Rattle.bucket_ring.specs.Lists.{on, with_payload}
use Rattle.bucket_kinds.specs.declared.stored.Stored.{Stored}
use Rattle.bucket_kinds.specs.Stored.{shown}
use Rattle.bucket_store.specs.Regions.{look}
use Rattle.bucket_store.specs.BucketStore.{seen}
use Rattle.brigade_ops.specs.Store.{lists, brigade_of}
use Rattle.brigade_ops.proofs.store.Brigades.set_own.Goals as goal

pub returns-clause-out : goal.returns-clause-out
unfolding lists brigade_of
returns-clause-out g c b n at =
    let s = c.args.self.now.held in
    c.put-had.ensures.out b n at ∙ ap (λ (x : Stored). on b (with_payload c.args.id (shown (look s.regions) x)) (seen s) n) c.keep_own.ensures
