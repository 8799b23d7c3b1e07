use Rattle.std.proofs.Common.{Some, []}
use Rattle.bucket_store.specs.BucketStore.{seen}
use Rattle.bucket_store.proofs.Tested.{held_in, begun}
use Rattle.bucket_store.proofs.Shown.{if_ok_then}
use Rattle.bucket_store.proofs.Seen.{upd_seen}
use Rattle.bucket_store.proofs.bucket_store.BucketStore.new_ring.Goals as goal

pub invariant_of-self : goal.invariant_of-self
invariant_of-self g c = record { whole = begun (held_in c.args.self.now) c.new_ring.new.self.rings c.new_ring.result c.new_ring.ensures.ok c.new_ring.ensures.err }

pub returns-clause-ok : goal.returns-clause-ok
unfolding seen
returns-clause-ok g c = if_ok_then _ _ c.new_ring.result c.new_ring.ensures.ok (λ ring. upd_seen c.args.self.now c.new_ring.new.self.rings ring (Some []))
