-- An empty text is not written.
use Rattle.std.proofs.Common.{rules}
use Rattle.byte_streams.proofs.sink.Sink.put.Goals as goal

pub returns : goal.returns
returns g c = search rules
