use Rattle.bucket_ring.specs.Lists.{put_head}
use Rattle.bucket_store.proofs.Noted.{all_head}
use Rattle.bucket_store.proofs.Tested.{noted_in, moved}
use Rattle.bucket_store.proofs.indexed.IndexedRingsStored.move_head.Goals as goal

pub invariant_of-self-clause-indexed : goal.invariant_of-self-clause-indexed
invariant_of-self-clause-indexed g c = moved (noted_in c.args.self.now) c.move_head.new.self c.args.id c.requires.bucket put_head all_head c.args.ring c.move_head.ensures.out
