-- A read that fails takes nothing of the reader.
use Rattle.std.proofs.Common.{refl}
use Rattle.byte_streams.proofs.std_streams.StdSourceSource.read.Goals as goal

pub returns-in-Err-clause-read : goal.returns-in-Err-clause-read
returns-in-Err-clause-read g c = (c.in-Err.ensures.bytes, refl)

pub returns-in-Err-2-clause-read : goal.returns-in-Err-2-clause-read
returns-in-Err-2-clause-read g c = (c.in-Err-2.ensures.bytes, refl)
