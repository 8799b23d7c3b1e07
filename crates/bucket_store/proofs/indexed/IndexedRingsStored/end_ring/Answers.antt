use Rattle.bucket_store.proofs.Tested.{noted_in, ended}
use Rattle.bucket_store.proofs.indexed.IndexedRingsStored.end_ring.Goals as goal

pub invariant_of-self-clause-indexed : goal.invariant_of-self-clause-indexed
invariant_of-self-clause-indexed g c = ended (noted_in c.args.self.now) c.end_ring.new.self c.args.ring c.end_ring.ensures.out
