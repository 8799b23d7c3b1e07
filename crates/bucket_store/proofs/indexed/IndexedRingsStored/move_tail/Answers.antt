use Rattle.bucket_ring.specs.Lists.{put_tail}
use Rattle.bucket_store.proofs.Noted.{all_tail}
use Rattle.bucket_store.proofs.Tested.{noted_in, moved}
use Rattle.bucket_store.proofs.indexed.IndexedRingsStored.move_tail.Goals as goal

pub invariant_of-self-clause-indexed : goal.invariant_of-self-clause-indexed
invariant_of-self-clause-indexed g c = moved (noted_in c.args.self.now) c.move_tail.new.self c.args.id c.requires.bucket put_tail all_tail c.args.ring c.move_tail.ensures.out
