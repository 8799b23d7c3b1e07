use Rattle.std.proofs.Common.{rules}
use Rattle.bucket_store.specs.Regions.{look}
use Rattle.bucket_store.specs.BucketStore.{seen}
use Rattle.bucket_store.proofs.Kept.{placed_seen, placed_whole}
use Rattle.bucket_store.proofs.bucket_store.BucketStore.place.Goals as goal

pub invariant_of-self : goal.invariant_of-self
invariant_of-self g c = record {
  whole = placed_whole (look c.args.self.now.regions) (look c.place.new.self) c.place.ensures.kept (g.R.Rings.lists c.args.self.now.rings.rings) c.args.self.now.whole;
}

pub returns-in_err-placed-in-Pool-Bytes-clause-same : goal.returns-in_err-placed-in-Pool-Bytes-clause-same
unfolding seen
returns-in_err-placed-in-Pool-Bytes-clause-same g c =
    placed_seen (look c.args.self.now.regions) (look c.place.new.self) c.place.ensures.kept (g.R.Rings.lists c.args.self.now.rings.rings) c.args.self.now.whole

pub returns-in_ok-placed-in-Pool-Bytes-clause-same : goal.returns-in_ok-placed-in-Pool-Bytes-clause-same
unfolding seen
returns-in_ok-placed-in-Pool-Bytes-clause-same g c =
    placed_seen (look c.args.self.now.regions) (look c.place.new.self) c.place.ensures.kept (g.R.Rings.lists c.args.self.now.rings.rings) c.args.self.now.whole

pub returns-in_default-clause-none : goal.returns-in_default-clause-none
returns-in_default-clause-none g c = search rules
