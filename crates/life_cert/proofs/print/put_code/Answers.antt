use Rattle.std.proofs.Common.{◌++◌, codes, decimal}
use Rattle.byte_text.proofs.WritingLaws.{wrote_then}
use Rattle.life_cert.proofs.Writing.{wrote_front}
use Rattle.life_cert.proofs.print.put_code.Goals as goal

pub returns-in_err-put_all : goal.returns-in_err-put_all
returns-in_err-put_all g c =
    wrote_front _ _ (codes "code ") (decimal c.args.code ++ (codes "\n")) c.from_residual.result c.from_residual.ensures.0 c.in_err-put_all.ensures

pub returns-in_err-put_number : goal.returns-in_err-put_number
returns-in_err-put_number g c =
    wrote_then _ _ _ (codes "code ") (decimal c.args.code ++ (codes "\n")) c.from_residual-in_err-put_number.result c.in_ok-put_all.ensures (wrote_front _ _ (decimal c.args.code) (codes "\n") c.from_residual-in_err-put_number.result c.from_residual-in_err-put_number.ensures.0 c.in_err-put_number.ensures)

pub returns : goal.returns
returns g c =
    wrote_then _ _ _ (codes "code ") (decimal c.args.code ++ (codes "\n")) c.put_all-2.result c.in_ok-put_all.ensures (wrote_then _ _ _ (decimal c.args.code) (codes "\n") c.put_all-2.result c.in_ok-put_number.ensures (c.put_all-2.ensures))
