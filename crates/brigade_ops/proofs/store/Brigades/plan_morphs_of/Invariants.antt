-- What was made ready for the names so far.
use Rattle.std.proofs.Common.{◌≡◌, Some, cond, take}
use Rattle.run_model.specs.declared.bucket.Bucket.{Bucket}
use Rattle.bucket_ring.specs.declared.names.BucketId.{BucketId}
use Rattle.brigade_ops.specs.Due.{is_reached}
use Rattle.bucket_store.specs.Morphs.{morphed, cleared_as, is_named}
use Rattle.brigade_ops.specs.Store.{bucket_at}
use Rattle.brigade_ops.proofs.store.Brigades.plan_morphs_of.Given as goal

abbrev pub invariant-loop-name : goal.invariant-loop-name
invariant-loop-name g l = (id : BucketId) (x : Bucket) → bucket_at l.self id ≡ Some x → morphed l.found id x ≡ cond (is_named id (take l.name-index l.names)) (cleared_as (is_reached l.reached) x) x
