use Rattle.bucket_store.proofs.Tested.{noted_in, dropped}
use Rattle.bucket_store.proofs.indexed.IndexedRingsStored.drop_bucket.Goals as goal

pub invariant_of-self-clause-indexed : goal.invariant_of-self-clause-indexed
invariant_of-self-clause-indexed g c = dropped (noted_in c.args.self.now) c.drop_bucket.new.self c.args.id c.requires c.drop_bucket.ensures.out
