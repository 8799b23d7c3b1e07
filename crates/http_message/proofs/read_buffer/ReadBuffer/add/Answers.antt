-- What was served is dropped first.
use Rattle.std.proofs.Common.{rules}
use Rattle.http_message.proofs.read_buffer.ReadBuffer.add.Goals as goal

pub returns-clause-held : goal.returns-clause-held
returns-clause-held c = search rules
