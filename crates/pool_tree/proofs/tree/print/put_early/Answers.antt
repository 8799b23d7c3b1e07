use Rattle.std.proofs.Common.{◌∙◌, ◌∷◌, [], sym}
use Rattle.byte_text.specs.Writes.{writer_state}
use Rattle.byte_text.proofs.WritingLaws.{appends_none, appends_same, all_then, all_same, wrote_all}
use Rattle.pool_tree.specs.Printed.{marked}
use Rattle.pool_tree.proofs.Writing.{marked_none, marked_some}
use Rattle.pool_tree.proofs.tree.print.put_early.Goals as goal

pub returns-then-not-is_shown : goal.returns-then-not-is_shown
returns-then-not-is_shown g c =
    let text = g.T.PoolText.shown c.args.payload.now in
    appends_same (writer_state g.W.Write.contents c.args.out.now) (writer_state g.W.Write.contents c.args.out.now) [] (marked text) (marked_none text (sym c.is_shown.ensures ∙ c.if-not-is_shown.true))
    (appends_none (writer_state g.W.Write.contents c.args.out.now))

pub returns : goal.returns
returns g c =
    let w = writer_state g.W.Write.contents in
    let text = g.T.PoolText.shown c.args.payload.now in
    all_same (w c.args.out.now) (w c.put.new.out) (32 ∷ 94 ∷ text) (marked text) c.put.result (marked_some text (sym c.is_shown.ensures ∙ c.if-not-is_shown.false))
    (all_then (w c.args.out.now) (w c.put_all.new.out) (w c.put.new.out) (32 ∷ 94 ∷ []) text c.put.result c.in_ok-put_all.ensures
    (wrote_all (w c.put_all.new.out) (w c.put.new.out) text c.put.result c.put.ensures))
