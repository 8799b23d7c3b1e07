-- It is the bucket of all bytes of the span where the region placed them.
use Rattle.std.proofs.Common.{refl}
use Rattle.bucket_kinds.proofs.placing.place_pool.Goals as goal

pub returns-clause-placed : goal.returns-clause-placed
returns-clause-placed c = (c.in_ok-span.span, refl, c.in_ok-span.ensures.placed)
