-- The vector grows by the text, or stays as it was.
use Rattle.std.proofs.Common.{refl}
use Rattle.byte_streams.proofs.sink.VecU8Sink.write_all.Goals as goal

pub returns-in-Ok-clause-written : goal.returns-in-Ok-clause-written
returns-in-Ok-clause-written c = (c.in-Ok.ensures.items, refl)

pub returns-in-Err-clause-written : goal.returns-in-Err-clause-written
returns-in-Err-clause-written c = (c.in-Err.ensures.items, refl)

pub returns-in-Err-clause-unchanged : goal.returns-in-Err-clause-unchanged
returns-in-Err-clause-unchanged c is = (c.in-Err.ensures.items, c.in-Err.ensures.len)
