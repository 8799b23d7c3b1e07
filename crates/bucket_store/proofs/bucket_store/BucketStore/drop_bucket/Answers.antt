use Rattle.bucket_ring.specs.Lists.{without}
use Rattle.bucket_store.specs.Regions.{look}
use Rattle.bucket_store.specs.BucketStore.{seen}
use Rattle.bucket_store.proofs.Tested.{held_in, dropped}
use Rattle.bucket_store.proofs.Shown.{without_shown}
use Rattle.bucket_store.proofs.Seen.{on_seen}
use Rattle.bucket_store.proofs.bucket_store.BucketStore.drop_bucket.Goals as goal

pub invariant_of-self : goal.invariant_of-self
invariant_of-self g c = record { whole = dropped (held_in c.args.self.now) c.drop_bucket.new.self.rings c.args.id c.requires c.drop_bucket.ensures.out }

pub returns-clause-out : goal.returns-clause-out
unfolding seen
returns-clause-out g c q n at = on_seen c.args.self.now c.drop_bucket.new.self.rings q (without c.args.id) (without c.args.id)
    (without_shown (look c.args.self.now.regions) c.args.id) (λ m. c.drop_bucket.ensures.out q m at) n
