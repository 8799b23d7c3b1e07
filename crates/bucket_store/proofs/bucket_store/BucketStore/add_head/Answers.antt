use Rattle.bucket_ring.specs.Lists.{put_head}
use Rattle.bucket_store.specs.BucketStore.{seen}
use Rattle.bucket_store.proofs.Noted.{all_head}
use Rattle.bucket_store.proofs.Tested.{held_in_ring}
use Rattle.bucket_store.proofs.Shown.{head_shown}
use Rattle.bucket_store.proofs.Seen.{added_seen}
use Rattle.bucket_store.proofs.bucket_store.BucketStore.add_head.Goals as goal

pub invariant_of-self : goal.invariant_of-self
invariant_of-self g c = record { whole = held_in_ring c.args.self.now _ _ c.requires.whole c.requires.lies put_head all_head c.args.ring _ c.add_head.ensures.ok c.add_head.ensures.err }

pub returns-clause-out : goal.returns-clause-out
unfolding seen
returns-clause-out g c = added_seen c.args.self.now c.add_head.new.self.rings put_head put_head head_shown c.args.ring c.in-Ok.id c.args.bucket c.in-Ok.ensures.ok
