use Rattle.std.proofs.Common.{append-nil, codes}
use Rattle.module_lang.specs.Printing.{target_name}
use Rattle.byte_text.specs.Writes.{writer_state}
use Rattle.byte_text.proofs.WritingLaws.{wrote_then}
use Rattle.module_lang.proofs.print.put_target.Goals as goal

pub returns : goal.returns
returns g c =
    let w = writer_state g.W.Write.contents in
    rw (append-nil (target_name c.args.number))
    (wrote_then (w c.args.out.now) (w c.put_all.new.out) (w c.put_name.new.out) (codes " ") (target_name c.args.number) c.put_name.result c.in_ok-put_all.ensures c.put_name.ensures)
