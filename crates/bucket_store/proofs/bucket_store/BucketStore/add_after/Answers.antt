use Rattle.bucket_ring.specs.Lists.{put_after}
use Rattle.bucket_store.specs.BucketStore.{seen}
use Rattle.bucket_store.proofs.Noted.{all_after}
use Rattle.bucket_store.proofs.Tested.{held_at}
use Rattle.bucket_store.proofs.Shown.{after_shown}
use Rattle.bucket_store.proofs.Seen.{added_seen_at}
use Rattle.bucket_store.proofs.bucket_store.BucketStore.add_after.Goals as goal

pub invariant_of-self : goal.invariant_of-self
invariant_of-self g c = record { whole = held_at c.args.self.now _ _ c.requires.whole c.requires.lies put_after all_after c.args.at c.requires.there _ c.add_after.ensures.ok c.add_after.ensures.err }

pub returns-clause-out : goal.returns-clause-out
unfolding seen
returns-clause-out g c = added_seen_at c.args.self.now c.add_after.new.self.rings put_after put_after after_shown c.args.at c.in-Ok.id c.args.bucket c.in-Ok.ensures.ok
