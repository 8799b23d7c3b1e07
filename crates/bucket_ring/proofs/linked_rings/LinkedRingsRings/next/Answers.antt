-- Where no bucket stands behind it, the ring that it is in is answered.
use Rattle.std.proofs.Common.{◌≡◌, Err, sym, ap, ◌∙◌}
use Rattle.bucket_ring.specs.Lists.{or_end}
use Rattle.bucket_ring.proofs.linked_rings.LinkedRingsRings.next.Goals as goal

pub returns-in-None : goal.returns-in-None
returns-in-None g c r at =
    let both = sym c.ring_with-ring.ensures.ring ∙ at in
    let is : c.ring_with-ring.result ≡ r = cc in
    ap Err is ∙ ap (or_end r) (sym c.in-None.is ∙ c.next.ensures r at)
