use Rattle.std.proofs.Common.{arith}
use Rattle.http_front.proofs.FeedLaws.{last_left, more_left}
use Rattle.http_front.proofs.feeding.next_brigade.Goals as goal

pub returns-then-rest-eq0 : goal.returns-then-rest-eq0
returns-then-rest-eq0 c = last_left c.args.rest.file c.args.rest.len c.args.rest.start c.args.rest.left c.in_ok-pieces.pieces c.if-rest-eq0.true c.in_ok-pieces.ensures

pub returns : goal.returns
returns c = more_left c.args.rest.file c.args.rest.len c.args.rest.start c.args.rest.left c.in_ok-pieces-2.pieces (omega (arith, c.if-rest-eq0.false)) c.in_ok-pieces-2.ensures
