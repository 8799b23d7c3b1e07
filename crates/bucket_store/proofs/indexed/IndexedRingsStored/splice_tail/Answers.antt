use Rattle.bucket_store.proofs.Tested.{noted_in, spliced}
use Rattle.bucket_store.proofs.indexed.IndexedRingsStored.splice_tail.Goals as goal

pub invariant_of-self-clause-indexed : goal.invariant_of-self-clause-indexed
invariant_of-self-clause-indexed g c = spliced (noted_in c.args.self.now) c.splice_tail.new.self c.args.ring c.args.from c.splice_tail.ensures.out
