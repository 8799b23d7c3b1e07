use Rattle.std.proofs.Common.{append-nil, codes}
use Rattle.byte_text.specs.Quoted.{spelling}
use Rattle.byte_text.specs.Writes.{writer_state}
use Rattle.byte_text.proofs.WritingLaws.{wrote_then}
use Rattle.module_lang.proofs.print.put_text.Goals as goal

pub returns : goal.returns
returns g c =
    let w = writer_state g.W.Write.contents in
    let t = spelling c.args.text.now in
    rw (append-nil t) (wrote_then (w c.args.out.now) (w c.put_all.new.out) (w c.print_text.new.out) (codes " ") t c.print_text.result c.in_ok-put_all.ensures c.print_text.ensures)
