-- `add` puts it before the other bucket, in the ring that this one is in.
use Rattle.std.proofs.Common.{◌≡◌, sym, ◌∙◌, subst}
use Rattle.std.proofs.lemmas.Result.{IfOk-weaker}
use Rattle.bucket_ring.specs.Lists.{on, put_before}
use Rattle.bucket_ring.specs.Links.{lists_of}
use Rattle.bucket_ring.proofs.linked_rings.LinkedRingsRings.add_before.Goals as goal

pub returns-clause-ok : goal.returns-clause-ok
returns-clause-ok g c =
    IfOk-weaker c.add.result _ _
    (λ id put r n at. let both = sym c.ring_with-ring.ensures.ring ∙ at in let is : c.ring_with-ring.result ≡ r = cc in
    subst (λ q. lists_of c.add.new.self.links n ≡ on q (put_before c.args.at (id, c.args.payload)) (lists_of c.args.self.now.links) n) is (put n))
    c.add.ensures.ok
