use Rattle.std.proofs.Common.{arith}
use Rattle.byte_streams.proofs.AppendLaws.{appends_rest}
use Rattle.byte_streams.proofs.std_streams.StdSinkSink.write_all.Goals as goal

pub loop-at-preserved : goal.loop-at-preserved
loop-at-preserved g c =
    (grind arith, appends_rest _ _ _ c.args.text.now c.loop-at.at c.in-Ok.count c.loop-at-test.true c.loop-at.invariant.1 c.in-Ok.ensures.bytes, c.loop-at.invariant.2)
