use Rattle.bucket_store.specs.BucketStore.{seen}
use Rattle.bucket_store.proofs.Tested.{held_in, moved_before}
use Rattle.bucket_store.proofs.Seen.{before_seen}
use Rattle.bucket_store.proofs.bucket_store.BucketStore.move_before.Goals as goal

pub invariant_of-self : goal.invariant_of-self
invariant_of-self g c = record { whole = moved_before (held_in c.args.self.now) c.move_before.new.self.rings c.args.id c.requires.bucket c.args.at c.requires.place c.move_before.ensures.out }

pub returns-clause-out : goal.returns-clause-out
unfolding seen
returns-clause-out g c r q n x at_r at is = before_seen c.args.self.now c.move_before.new.self.rings c.args.at r q n c.args.id x is (λ m y here. c.move_before.ensures.out r q m y at_r at here)
