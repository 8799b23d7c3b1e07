use Rattle.bucket_ring.specs.Lists.{put_head}
use Rattle.bucket_store.specs.BucketStore.{seen}
use Rattle.bucket_store.proofs.Noted.{all_head}
use Rattle.bucket_store.proofs.Tested.{held_in, moved}
use Rattle.bucket_store.proofs.Shown.{head_shown}
use Rattle.bucket_store.proofs.Seen.{move_seen}
use Rattle.bucket_store.proofs.bucket_store.BucketStore.move_head.Goals as goal

pub invariant_of-self : goal.invariant_of-self
invariant_of-self g c = record { whole = moved (held_in c.args.self.now) c.move_head.new.self.rings c.args.id c.requires.bucket put_head all_head c.args.ring c.move_head.ensures.out }

pub returns-clause-out : goal.returns-clause-out
unfolding seen
returns-clause-out g c = move_seen c.args.self.now c.move_head.new.self.rings put_head put_head head_shown c.args.ring c.args.id c.move_head.ensures.out
