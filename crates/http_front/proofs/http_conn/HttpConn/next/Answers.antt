use Rattle.std.proofs.Common.{arith}
use Rattle.http_front.specs.Texts.{text_of}
use Rattle.http_front.proofs.RestLaws.{some_rest}
use Rattle.http_front.proofs.http_conn.HttpConn.next.Goals as goal

pub returns-then-self : goal.returns-then-self
returns-then-self g c = let sized = c.args.self.now.sized in let below = c.if-self.true in some_rest c.args.self.now.sent (text_of c.args.self.now.text) (omega (arith, sized, below))
