use Rattle.std.proofs.Common.{None}
use Rattle.bucket_store.specs.BucketStore.{seen}
use Rattle.bucket_store.proofs.Tested.{held_in, ended}
use Rattle.bucket_store.proofs.Seen.{upd_seen}
use Rattle.bucket_store.proofs.bucket_store.BucketStore.end_ring.Goals as goal

pub invariant_of-self : goal.invariant_of-self
invariant_of-self g c = record { whole = ended (held_in c.args.self.now) c.end_ring.new.self.rings c.args.ring c.end_ring.ensures.out }

pub returns-clause-out : goal.returns-clause-out
unfolding seen
returns-clause-out g c = upd_seen c.args.self.now c.end_ring.new.self.rings c.args.ring None c.end_ring.ensures.out
