-- One head is taken out.
use Rattle.std.proofs.Common.{rules}
use Rattle.bucket_ring.specs.Links.{head_of}
use Rattle.bucket_ring.specs.Lists.{upd}
use Rattle.bucket_ring.proofs.links.Links.end_head.Goals as goal

pub returns-clause-heads : goal.returns-clause-heads
unfolding head_of upd
returns-clause-heads g c = search rules
