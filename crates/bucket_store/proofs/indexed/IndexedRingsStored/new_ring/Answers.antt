use Rattle.bucket_store.proofs.Tested.{noted_in, begun}
use Rattle.bucket_store.proofs.indexed.IndexedRingsStored.new_ring.Goals as goal

pub invariant_of-self-clause-indexed : goal.invariant_of-self-clause-indexed
invariant_of-self-clause-indexed g c = begun (noted_in c.args.self.now) c.new_ring.new.self c.new_ring.result c.new_ring.ensures.ok c.new_ring.ensures.err
