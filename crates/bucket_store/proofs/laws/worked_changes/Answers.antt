use Rattle.std.proofs.Common.{rules}
use Rattle.bucket_ring.specs.Lists.{upd}
use Rattle.run_model.specs.Indexed as pool
use Rattle.run_model.specs.Pools.{is_under, planted, created, registered_as}
use Rattle.bucket_store.proofs.laws.worked_changes.Goals as goal

pub returns-clause-splits : goal.returns-clause-splits
unfolding upd
returns-clause-splits c = search rules

pub returns-clause-buckets : goal.returns-clause-buckets
unfolding pool.upd is_under planted created registered_as
returns-clause-buckets c = search rules
