use Rattle.std.proofs.Common.{◌∷◌, ◌++◌, []}
use Rattle.module_lang.specs.Printing.{target_name}
use Rattle.byte_text.specs.Writes.{writer_state}
use Rattle.byte_text.proofs.WritingLaws.{leaves_all, leaves_less, leaves_fault, wrote_then}
use Rattle.module_lang.proofs.print.put_label.Goals as goal

pub returns-in_err-put_name : goal.returns-in_err-put_name
returns-in_err-put_name g c =
    let w = writer_state g.W.Write.contents in
    let name = target_name c.args.number in
    let whole = 58 ∷ name ++ 10 ∷ [] in
    let one = leaves_less (w c.args.out.now) (w c.args.out.now) (w c.put_all.new.out) whole (58 ∷ []) (name ++ 10 ∷ []) (leaves_all (w c.args.out.now) whole) c.in_ok-put_all.ensures in
    leaves_fault (w c.args.out.now) (w c.put_all.new.out) (w c.put_name.new.out) whole name
    (10 ∷ []) c.in_err-put_name.field-0.0 c.from_residual-in_err-put_name.result c.from_residual-in_err-put_name.ensures.0 one c.in_err-put_name.ensures

pub returns : goal.returns
returns g c =
    wrote_then _ _ _ (58 ∷ []) (target_name c.args.number ++ 10 ∷ []) _ c.in_ok-put_all.ensures
    (wrote_then _ _ _ (target_name c.args.number) (10 ∷ []) _ c.in_ok-put_name.ensures c.put_all-2.ensures)
