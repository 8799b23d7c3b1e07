-- `add` puts it at the head.
use Rattle.bucket_ring.proofs.linked_rings.LinkedRingsRings.add_head.Goals as goal

pub returns-clause-ok : goal.returns-clause-ok
returns-clause-ok g c = c.add.ensures.ok
