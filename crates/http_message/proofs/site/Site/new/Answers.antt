use Rattle.std.proofs.Common.{refl}
use Rattle.http_message.specs.Sites.{route_of}
use Rattle.http_message.proofs.SitePaths.{paths-none}
use Rattle.http_message.proofs.site.Site.new.Goals as goal

pub invariant_of-result : goal.invariant_of-result
invariant_of-result c = record { paths = paths-none c.new.result c.new.ensures }

pub returns : goal.returns
unfolding route_of
returns c = λ q. rw c.new.ensures refl
