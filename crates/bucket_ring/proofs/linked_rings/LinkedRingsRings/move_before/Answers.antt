-- The other bucket is another one, and `carry` moves this one before it, in the ring that it is in.
use Rattle.std.proofs.Common.{◌≡◌, sym, ap, ◌∙◌, subst}
use Rattle.std.specs.Prelude.{if◌then◌else◌}
use Rattle.bucket_ring.specs.Lists.{on, put_before, without}
use Rattle.bucket_ring.specs.Links.{lists_of}
use Rattle.bucket_ring.proofs.linked_rings.LinkedRingsRings.move_before.Goals as goal

pub returns-clause-out : goal.returns-clause-out
returns-clause-out g c r q n x at of here =
    let both = sym c.ring_with-ring.ensures.ring ∙ at in
    let is : c.ring_with-ring.result ≡ r = cc in
    let rings = on q (without c.args.id) (lists_of c.args.self.now.links) in
    let moved = subst (λ p. lists_of c.carry.new.self.links n ≡ on p (put_before c.args.at (c.args.id, x)) rings n) is (c.carry.ensures.out q n x of here) in
    moved ∙ ap (λ t. if t then lists_of c.args.self.now.links n else on r (put_before c.args.at (c.args.id, x)) rings n) (sym c.if-eq.false ∙ c.eq.ensures)
