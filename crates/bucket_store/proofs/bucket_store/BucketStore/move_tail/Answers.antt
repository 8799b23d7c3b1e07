use Rattle.bucket_ring.specs.Lists.{put_tail}
use Rattle.bucket_store.specs.BucketStore.{seen}
use Rattle.bucket_store.proofs.Noted.{all_tail}
use Rattle.bucket_store.proofs.Tested.{held_in, moved}
use Rattle.bucket_store.proofs.Shown.{tail_shown}
use Rattle.bucket_store.proofs.Seen.{move_seen}
use Rattle.bucket_store.proofs.bucket_store.BucketStore.move_tail.Goals as goal

pub invariant_of-self : goal.invariant_of-self
invariant_of-self g c = record { whole = moved (held_in c.args.self.now) c.move_tail.new.self.rings c.args.id c.requires.bucket put_tail all_tail c.args.ring c.move_tail.ensures.out }

pub returns-clause-out : goal.returns-clause-out
unfolding seen
returns-clause-out g c = move_seen c.args.self.now c.move_tail.new.self.rings put_tail put_tail tail_shown c.args.ring c.args.id c.move_tail.ensures.out
