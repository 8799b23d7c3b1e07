use Rattle.std.proofs.Common.{sym, take}
use Rattle.byte_text.specs.Writes.{writer_state}
use Rattle.byte_text.proofs.WritingLaws.{appends_then, appends_none, appends_same}
use Rattle.pool_tree.specs.Printed.{marked, marked_all}
use Rattle.pool_tree.proofs.Writing.{marked_more}
use Rattle.pool_tree.proofs.tree.print.put_pre_payloads.Goals as goal

pub loop-payload-init : goal.loop-payload-init
unfolding marked_all
loop-payload-init g c = appends_none (writer_state g.W.Write.contents c.args.out.now)

pub loop-payload-preserved : goal.loop-payload-preserved
loop-payload-preserved g c =
    let front = marked_all g.T.PoolText.shown (take c.loop-payload.payload-index c.args.payloads.now) in
    appends_same (writer_state g.W.Write.contents c.args.out.now) (writer_state g.W.Write.contents c.put_early.new.out) _ _
    (sym (marked_more g.T.PoolText.shown c.args.payloads.now c.loop-payload.payload-index c.payload-item.result c.loop-payload-test.true c.payload-item.is))
    (appends_then (writer_state g.W.Write.contents c.args.out.now) (writer_state g.W.Write.contents c.loop-payload.out) (writer_state g.W.Write.contents c.put_early.new.out) front (marked (g.T.PoolText.shown c.payload-item.result))
    c.loop-payload.invariant c.in_ok-put_early.ensures)
