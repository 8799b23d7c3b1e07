use Rattle.std.proofs.Common.{◌∷◌, [], sym}
use Rattle.byte_text.specs.Writes.{writer_state}
use Rattle.byte_text.proofs.WritingLaws.{appends_then, appends_none, appends_same}
use Rattle.pool_tree.specs.Printed.{margin}
use Rattle.pool_tree.proofs.Writing.{margin_more}
use Rattle.pool_tree.proofs.tree.print.put_margin.Goals as goal

pub loop-level-init : goal.loop-level-init
unfolding margin
loop-level-init g c = appends_none (writer_state g.W.Write.contents c.args.out.now)

pub loop-level-preserved : goal.loop-level-preserved
loop-level-preserved g c =
    appends_same (writer_state g.W.Write.contents c.args.out.now) (writer_state g.W.Write.contents c.put_all.new.out) _ _ (sym (margin_more c.loop-level._level))
    (appends_then (writer_state g.W.Write.contents c.args.out.now) (writer_state g.W.Write.contents c.loop-level.out) (writer_state g.W.Write.contents c.put_all.new.out) (margin c.loop-level._level) (32 ∷ 32 ∷ [])
    c.loop-level.invariant c.in_ok-put_all.ensures)
