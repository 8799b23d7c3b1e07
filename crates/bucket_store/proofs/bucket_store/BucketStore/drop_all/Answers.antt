use Rattle.std.proofs.Common.{[], refl}
use Rattle.bucket_store.specs.BucketStore.{seen}
use Rattle.bucket_store.proofs.Tested.{held_in, emptied}
use Rattle.bucket_store.proofs.Seen.{on_seen}
use Rattle.bucket_store.proofs.bucket_store.BucketStore.drop_all.Goals as goal

pub invariant_of-self : goal.invariant_of-self
invariant_of-self g c = record { whole = emptied (held_in c.args.self.now) c.drop_all.new.self.rings c.args.ring c.drop_all.ensures.out }

pub returns-clause-out : goal.returns-clause-out
unfolding seen
returns-clause-out g c = on_seen c.args.self.now c.drop_all.new.self.rings c.args.ring (λ xs. []) (λ xs. []) (λ xs. refl) c.drop_all.ensures.out
