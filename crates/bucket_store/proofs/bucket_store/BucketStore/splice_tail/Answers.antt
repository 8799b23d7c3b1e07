use Rattle.bucket_store.specs.BucketStore.{seen}
use Rattle.bucket_store.proofs.Tested.{held_in, spliced}
use Rattle.bucket_store.proofs.Seen.{spliced_seen}
use Rattle.bucket_store.proofs.bucket_store.BucketStore.splice_tail.Goals as goal

pub invariant_of-self : goal.invariant_of-self
invariant_of-self g c = record { whole = spliced (held_in c.args.self.now) c.splice_tail.new.self.rings c.args.ring c.args.from c.splice_tail.ensures.out }

pub returns-clause-out : goal.returns-clause-out
unfolding seen
returns-clause-out g c = spliced_seen c.args.self.now c.splice_tail.new.self.rings c.args.ring c.args.from c.splice_tail.ensures.out
