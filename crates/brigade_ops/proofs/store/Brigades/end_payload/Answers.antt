-- The brigade ends.
use Rattle.std.proofs.Common.{rules}
use Rattle.bucket_ring.specs.Lists.{upd}
use Rattle.brigade_ops.specs.Store.{lists}
use Rattle.brigade_ops.proofs.store.Brigades.end_payload.Goals as goal

pub returns-in-Brigade-clause-out : goal.returns-in-Brigade-clause-out
unfolding lists upd
returns-in-Brigade-clause-out g c = search rules
