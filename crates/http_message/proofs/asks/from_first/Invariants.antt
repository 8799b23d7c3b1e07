use Rattle.std.proofs.Common.{◌≡◌, length}
use Rattle.http_message.specs.Asking.{from_first}
use Rattle.http_message.proofs.asks.from_first.Given as goal

abbrev pub invariant-loop-bytes : goal.invariant-loop-bytes
invariant-loop-bytes l = from_first l.wanted l.bytes ≡ from_first l.wanted l.fn.bytes

abbrev pub decreases-loop-bytes : goal.decreases-loop-bytes
decreases-loop-bytes l = length l.bytes
