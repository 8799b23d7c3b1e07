use Rattle.bucket_store.proofs.Tested.{noted_in, spliced_from}
use Rattle.bucket_store.proofs.indexed.IndexedRingsStored.splice_from.Goals as goal

pub invariant_of-self-clause-indexed : goal.invariant_of-self-clause-indexed
invariant_of-self-clause-indexed g c = spliced_from (noted_in c.args.self.now) c.splice_from.new.self c.args.id c.requires.bucket c.args.ring c.splice_from.ensures.out
