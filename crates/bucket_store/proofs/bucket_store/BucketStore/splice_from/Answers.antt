use Rattle.bucket_store.specs.BucketStore.{seen}
use Rattle.bucket_store.proofs.Tested.{held_in, spliced_from}
use Rattle.bucket_store.proofs.Seen.{cut_seen}
use Rattle.bucket_store.proofs.bucket_store.BucketStore.splice_from.Goals as goal

pub invariant_of-self : goal.invariant_of-self
invariant_of-self g c = record { whole = spliced_from (held_in c.args.self.now) c.splice_from.new.self.rings c.args.id c.requires.bucket c.args.ring c.splice_from.ensures.out }

pub returns-clause-out : goal.returns-clause-out
unfolding seen
returns-clause-out g c q n at = cut_seen c.args.self.now c.splice_from.new.self.rings c.args.ring q c.args.id (λ m. c.splice_from.ensures.out q m at) n
