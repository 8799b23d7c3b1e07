-- Where a read was left, it is counted, and does what a read of the source does.
use Rattle.std.proofs.Common.{arith, refl}
use Rattle.std.proofs.KnownBytes.{Keeps-refl}
use Rattle.byte_streams.proofs.counted.CountedSource.read.Goals as goal

pub returns-then-self-eq0 : goal.returns-then-self-eq0
returns-then-self-eq0 g c = (c.if-self-eq0.true, c.if-self-eq0.true, Keeps-refl _, refl)

pub returns-in-Ok : goal.returns-in-Ok
returns-in-Ok g c = (omega (arith, c.if-self-eq0.false), c.in-Ok.ensures)

pub returns-in-Err : goal.returns-in-Err
returns-in-Err g c = (omega (arith, c.if-self-eq0.false), c.in-Err.ensures.0, c.in-Err.ensures.1)
