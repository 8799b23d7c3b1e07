use Rattle.std.proofs.Common.{append-nil, codes}
use Rattle.module_code.specs.Words.{kind_test_text}
use Rattle.byte_text.specs.Writes.{writer_state}
use Rattle.byte_text.proofs.WritingLaws.{wrote_then}
use Rattle.module_lang.proofs.print.put_kind_test.Goals as goal

pub returns : goal.returns
returns g c =
    let w = writer_state g.W.Write.contents in
    let t = kind_test_text c.args.kind in
    rw (append-nil t) (wrote_then (w c.args.out.now) (w c.put_all.new.out) (w c.put_all-2.new.out) (codes " ") t c.put_all-2.result c.in_ok-put_all.ensures (rw c.text.ensures at c.put_all-2.ensures))
