use Rattle.std.specs.Prelude.{◌+◌, ◌≤◌, length}
use Rattle.http_message.specs.Sites.{route_of}
use Rattle.http_message.proofs.SiteLaws.{RoutesSoFar}
use Rattle.http_message.proofs.site_file.add_lines.Given as goal

-- the lines before the rest are in the site
abbrev pub invariant-loop-rest : goal.invariant-loop-rest
invariant-loop-rest l = RoutesSoFar l.text l.rest l.number (route_of l.site) × (l.number + length l.rest ≤ length l.text)

abbrev pub decreases-loop-rest : goal.decreases-loop-rest
decreases-loop-rest l = length l.rest
