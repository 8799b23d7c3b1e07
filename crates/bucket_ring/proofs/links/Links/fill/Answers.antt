use Rattle.std.proofs.Common.{refl}
use Rattle.raw_nodes.specs.declared.node.Load.TheVariants.{Bucket}
use Rattle.bucket_ring.proofs.Rewritten.{refilled}
use Rattle.bucket_ring.proofs.links.Links.fill.Goals as goal

pub returns-clause-filled : goal.returns-clause-filled
returns-clause-filled g c =
    refilled c.args.self.now _ c.args.slot
    (λ v. record v { ring = c.args.ring; load = Bucket c.args.bucket }) c.requires c.fill.ensures.at c.fill.ensures.room _ _ (λ v. (refl, refl))
    (λ v is. (refl, refl))
