use Rattle.std.proofs.Common.{◌∷◌, ◌++◌, []}
use Rattle.byte_text.specs.Quoted.{spelled_all, spelling}
use Rattle.byte_text.specs.Writes.{writer_state}
use Rattle.byte_text.proofs.WritingLaws.{leaves_all, leaves_fault, leaves_last, leaves_less}
use Rattle.byte_text.proofs.quoted.print_text.Goals as goal

pub returns-in_err-put_spelled : goal.returns-in_err-put_spelled
returns-in_err-put_spelled g c =
    let w = writer_state g.W.Write.contents in
    let text = spelled_all c.args.text.now in
    let whole = spelling c.args.text.now in
    let one = leaves_less (w c.args.out.now) (w c.args.out.now) (w c.put_all.new.out) whole (34 ∷ []) (text ++ 34 ∷ []) (leaves_all (w c.args.out.now) whole) c.in_ok-put_all.ensures in
    leaves_fault (w c.args.out.now) (w c.put_all.new.out) (w c.put_spelled.new.out) whole text
    (34 ∷ []) c.in_err-put_spelled.field-0.0 c.from_residual-in_err-put_spelled.result c.from_residual-in_err-put_spelled.ensures.0 one c.in_err-put_spelled.ensures

pub returns : goal.returns
returns g c =
    let w = writer_state g.W.Write.contents in
    let text = spelled_all c.args.text.now in
    let whole = spelling c.args.text.now in
    let one = leaves_less (w c.args.out.now) (w c.args.out.now) (w c.put_all.new.out) whole (34 ∷ []) (text ++ 34 ∷ []) (leaves_all (w c.args.out.now) whole) c.in_ok-put_all.ensures in
    let two = leaves_less (w c.args.out.now) (w c.put_all.new.out) (w c.put_spelled.new.out) whole text (34 ∷ []) one c.in_ok-put_spelled.ensures in
    leaves_last (w c.args.out.now) (w c.put_spelled.new.out) (w c.put_all-2.new.out) whole (34 ∷ []) c.put_all-2.result two c.put_all-2.ensures
