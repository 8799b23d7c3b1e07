use Rattle.bucket_store.proofs.Tested.{noted_in, moved_before}
use Rattle.bucket_store.proofs.indexed.IndexedRingsStored.move_before.Goals as goal

pub invariant_of-self-clause-indexed : goal.invariant_of-self-clause-indexed
invariant_of-self-clause-indexed g c = moved_before (noted_in c.args.self.now) c.move_before.new.self c.args.id c.requires.bucket c.args.at c.requires.place c.move_before.ensures.out
