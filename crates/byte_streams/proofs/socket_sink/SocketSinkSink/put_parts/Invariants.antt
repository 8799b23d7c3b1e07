use Rattle.std.proofs.Common.{◌≡◌, ◌≤◌, ℕ, length, take, drop}
use Rattle.std.specs.Io.KnownBytes.{Appends}
use Rattle.byte_streams.specs.Texts.{joined}
use Rattle.byte_streams.proofs.socket_sink.SocketSinkSink.put_parts.Given as goal

-- a front of the text was taken, the rest is left, and no write failed
abbrev pub invariant-loop-rest : goal.invariant-loop-rest
invariant-loop-rest g l =
    (m : ℕ) × (m ≤ length (joined l.fn.parts)) × (joined l.rest ≡ drop m (joined l.fn.parts))
    × Appends (g.W.WritesParts.contents l.fn.self.writer) (g.W.WritesParts.contents l.self.writer) (take m (joined l.fn.parts)) × (l.self.has_failed ≡ l.fn.self.has_failed)

abbrev pub decreases-loop-rest : goal.decreases-loop-rest
decreases-loop-rest g l = length (joined l.rest)
