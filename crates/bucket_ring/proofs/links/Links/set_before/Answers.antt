use Rattle.bucket_ring.proofs.Rewritten.{before_set}
use Rattle.bucket_ring.proofs.links.Links.set_before.Goals as goal

pub returns-clause-links : goal.returns-clause-links
returns-clause-links g c = before_set c.args.self.now _ c.args.slot c.args.to c.requires c.set_before.ensures.room c.set_before.ensures.at
