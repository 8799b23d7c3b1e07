-- `add` puts it at the tail.
use Rattle.bucket_ring.proofs.linked_rings.LinkedRingsRings.add_tail.Goals as goal

pub returns-clause-ok : goal.returns-clause-ok
returns-clause-ok g c = c.add.ensures.ok
