use Rattle.bucket_store.proofs.Tested.{noted_in, emptied}
use Rattle.bucket_store.proofs.indexed.IndexedRingsStored.drop_all.Goals as goal

pub invariant_of-self-clause-indexed : goal.invariant_of-self-clause-indexed
invariant_of-self-clause-indexed g c = emptied (noted_in c.args.self.now) c.drop_all.new.self c.args.ring c.drop_all.ensures.out
