use Rattle.std.proofs.Common.{◌++◌}
use Rattle.module_lang.specs.Shown.{shown_arg, shown_args}
use Rattle.byte_text.specs.Writes.{writer_state}
use Rattle.byte_text.proofs.WritingLaws.{Leaves, leaves_all, leaves_less, leaves_fault, leaves_last}
use Rattle.module_lang.proofs.print.put_args.Given.{Over}
use Rattle.module_lang.proofs.print.put_args.Goals as goal
use Rattle.module_lang.proofs.print.put_args.Goals.{In_ok-put_arg, In_ok-put_arg-2, In_ok-put_arg-3}

-- What is left behind each operand.
module _ (g : Over) where
  one : (c : In_ok-put_arg g) → Leaves (writer_state g.W.Write.contents c.args.out.now) (writer_state g.W.Write.contents c.put_arg.new.out)
      (shown_args c.args.module.now.texts c.args.args) (shown_arg c.args.module.now.texts c.args.args.second ++
      (shown_arg c.args.module.now.texts c.args.args.third ++ shown_arg c.args.module.now.texts c.args.args.fourth))
  one c = leaves_less _ (writer_state g.W.Write.contents c.args.out.now) _ _ _ (shown_arg c.args.module.now.texts c.args.args.second ++
      (shown_arg c.args.module.now.texts c.args.args.third ++ shown_arg c.args.module.now.texts c.args.args.fourth))
      (leaves_all (writer_state g.W.Write.contents c.args.out.now) (shown_args c.args.module.now.texts c.args.args)) c.in_ok-put_arg.ensures

  two : (c : In_ok-put_arg-2 g) → Leaves (writer_state g.W.Write.contents c.args.out.now) (writer_state g.W.Write.contents c.put_arg.new.out)
      (shown_args c.args.module.now.texts c.args.args) (shown_arg c.args.module.now.texts c.args.args.second ++
      (shown_arg c.args.module.now.texts c.args.args.third ++ shown_arg c.args.module.now.texts c.args.args.fourth))
      → Leaves (writer_state g.W.Write.contents c.args.out.now) (writer_state g.W.Write.contents c.put_arg-2.new.out) (shown_args c.args.module.now.texts c.args.args)
      (shown_arg c.args.module.now.texts c.args.args.third ++ shown_arg c.args.module.now.texts c.args.args.fourth)
  two c left = leaves_less _ (writer_state g.W.Write.contents c.put_arg.new.out) _ _ _
      (shown_arg c.args.module.now.texts c.args.args.third ++ shown_arg c.args.module.now.texts c.args.args.fourth) left c.in_ok-put_arg-2.ensures

  three : (c : In_ok-put_arg-3 g) → Leaves (writer_state g.W.Write.contents c.args.out.now) (writer_state g.W.Write.contents c.put_arg-2.new.out)
      (shown_args c.args.module.now.texts c.args.args) (shown_arg c.args.module.now.texts c.args.args.third ++ shown_arg c.args.module.now.texts c.args.args.fourth)
      → Leaves (writer_state g.W.Write.contents c.args.out.now) (writer_state g.W.Write.contents c.put_arg-3.new.out) (shown_args c.args.module.now.texts c.args.args)
      (shown_arg c.args.module.now.texts c.args.args.fourth)
  three c left = leaves_less _ (writer_state g.W.Write.contents c.put_arg-2.new.out) _ _ _
      (shown_arg c.args.module.now.texts c.args.args.fourth) left c.in_ok-put_arg-3.ensures

pub returns-in_err-put_arg : goal.returns-in_err-put_arg
returns-in_err-put_arg g c =
    let w = writer_state g.W.Write.contents in
    let whole = shown_args c.args.module.now.texts c.args.args in
    leaves_fault (w c.args.out.now) (w c.args.out.now) (w c.put_arg.new.out) whole (shown_arg c.args.module.now.texts c.args.args.first)
    (shown_arg c.args.module.now.texts c.args.args.second ++ (shown_arg c.args.module.now.texts c.args.args.third ++ shown_arg c.args.module.now.texts c.args.args.fourth))
    c.in_err-put_arg.field-0.0 c.from_residual.result c.from_residual.ensures.0 (leaves_all (w c.args.out.now) whole) c.in_err-put_arg.ensures

pub returns-in_err-put_arg-2 : goal.returns-in_err-put_arg-2
returns-in_err-put_arg-2 g c =
    let p = goal.at.returns-in_err-put_arg-2 g c in
    leaves_fault _ _ _ _ _ _ c.in_err-put_arg-2.field-0.0 _ c.from_residual-in_err-put_arg-2.ensures.0 (one g p.In_ok-put_arg) c.in_err-put_arg-2.ensures

pub returns-in_err-put_arg-3 : goal.returns-in_err-put_arg-3
returns-in_err-put_arg-3 g c =
    let p = goal.at.returns-in_err-put_arg-3 g c in
    leaves_fault _ _ _ _ _ _ c.in_err-put_arg-3.field-0.0 _ c.from_residual-in_err-put_arg-3.ensures.0
    (two g p.In_ok-put_arg-2 (one g p.In_ok-put_arg)) c.in_err-put_arg-3.ensures

pub returns : goal.returns
returns g c =
    let p = goal.at.returns g c in
    leaves_last _ _ _ _ _ _ (three g p.In_ok-put_arg-3 (two g p.In_ok-put_arg-2 (one g p.In_ok-put_arg))) c.put_arg-4.ensures
