use Rattle.std.proofs.Common.{◌≡◌, ◌∙◌, append-nil, codes, decimal}
use Rattle.byte_text.specs.Writes.{writer_state}
use Rattle.byte_text.proofs.WritingLaws.{wrote_then}
use Rattle.module_lang.proofs.print.put_constant.Goals as goal

pub returns : goal.returns
returns g c =
    let w = writer_state g.W.Write.contents in
    let digits : c.as_bytes.result.now ≡ decimal c.args.constant = c.as_bytes.ensures.value ∙ c.format.ensures.text in
    rw (append-nil (decimal c.args.constant)) (wrote_then (w c.args.out.now) (w c.put_all.new.out) (w c.put_all-2.new.out) (codes " ")
    (decimal c.args.constant) c.put_all-2.result c.in_ok-put_all.ensures (rw digits at c.put_all-2.ensures))
