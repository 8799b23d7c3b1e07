-- What was there is given back.
use Rattle.std.proofs.Common.{rules}
use Rattle.bucket_ring.specs.Links.{bucket_of}
use Rattle.bucket_ring.proofs.links.Links.replace.Goals as goal

pub returns-clause-had : goal.returns-clause-had
unfolding bucket_of
returns-clause-had g c = search rules
