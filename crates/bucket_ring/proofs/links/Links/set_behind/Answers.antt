use Rattle.bucket_ring.proofs.Rewritten.{behind_set}
use Rattle.bucket_ring.proofs.links.Links.set_behind.Goals as goal

pub returns-clause-links : goal.returns-clause-links
returns-clause-links g c = behind_set c.args.self.now _ c.args.slot c.args.to c.requires c.set_behind.ensures.room c.set_behind.ensures.at
