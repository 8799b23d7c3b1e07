use Rattle.bucket_ring.specs.Lists.{put_tail}
use Rattle.bucket_store.specs.BucketStore.{seen}
use Rattle.bucket_store.proofs.Noted.{all_tail}
use Rattle.bucket_store.proofs.Tested.{held_in_ring}
use Rattle.bucket_store.proofs.Shown.{tail_shown}
use Rattle.bucket_store.proofs.Seen.{added_seen}
use Rattle.bucket_store.proofs.bucket_store.BucketStore.add_tail.Goals as goal

pub invariant_of-self : goal.invariant_of-self
invariant_of-self g c = record { whole = held_in_ring c.args.self.now _ _ c.requires.whole c.requires.lies put_tail all_tail c.args.ring _ c.add_tail.ensures.ok c.add_tail.ensures.err }

pub returns-clause-out : goal.returns-clause-out
unfolding seen
returns-clause-out g c = added_seen c.args.self.now c.add_tail.new.self.rings put_tail put_tail tail_shown c.args.ring c.in-Ok.id c.args.bucket c.in-Ok.ensures.ok
