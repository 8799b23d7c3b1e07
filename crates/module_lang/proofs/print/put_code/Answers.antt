use Rattle.std.proofs.Common.{◌+◌, ◌++◌, map, subst}
use Rattle.module_lang.specs.Printing.{label_line}
use Rattle.module_lang.specs.Shown.{shown_code, shown_step}
use Rattle.module_lang.specs.Texts.{code_text, joined}
use Rattle.byte_text.specs.Writes.{writer_state}
use Rattle.module_lang.proofs.ShownLaws.{code_more, code_none}
use Rattle.byte_text.proofs.WritingLaws.{Leaves, leaves_fault, leaves_less, leaves_none}
use Rattle.module_lang.proofs.print.put_code.Given.{Over}
use Rattle.module_lang.proofs.print.put_code.Goals as goal
use Rattle.module_lang.proofs.print.put_code.Goals.{After-put_label_before, In_ok-put_label_before}

-- What is left before an instruction, and behind its label.
module _ (g : Over) where
  left : (c : After-put_label_before g) → Leaves (writer_state g.W.Write.contents c.args.out.now) (writer_state g.W.Write.contents c.loop-number.out)
      (shown_code c.args.module.now.texts c.args.module.now.code c.args.from c.args.to)
      (joined (map code_text (label_line c.args.module.now.code c.loop-number.number))
      ++ (shown_step c.args.module.now.texts c.at-instr.result ++ shown_code c.args.module.now.texts c.args.module.now.code (c.loop-number.number + 1) c.args.to))
  left c =
      subst (Leaves (writer_state g.W.Write.contents c.args.out.now) (writer_state g.W.Write.contents c.loop-number.out)
      (shown_code c.args.module.now.texts c.args.module.now.code c.args.from c.args.to))
      (code_more c.args.module.now.texts c.args.module.now.code c.loop-number.number c.args.to c.at-instr.result c.loop-number-test.true c.at-instr.ensures.value) c.loop-number.invariant

  labelled : (c : In_ok-put_label_before g) → Leaves (writer_state g.W.Write.contents c.args.out.now) (writer_state g.W.Write.contents c.loop-number.out)
      (shown_code c.args.module.now.texts c.args.module.now.code c.args.from c.args.to)
      (joined (map code_text (label_line c.args.module.now.code c.loop-number.number))
      ++ (shown_step c.args.module.now.texts c.at-instr.result ++ shown_code c.args.module.now.texts c.args.module.now.code (c.loop-number.number + 1) c.args.to))
      → Leaves (writer_state g.W.Write.contents c.args.out.now) (writer_state g.W.Write.contents c.put_label_before.new.out)
      (shown_code c.args.module.now.texts c.args.module.now.code c.args.from c.args.to)
      (shown_step c.args.module.now.texts c.at-instr.result ++ shown_code c.args.module.now.texts c.args.module.now.code (c.loop-number.number + 1) c.args.to)
  labelled c all = leaves_less _ (writer_state g.W.Write.contents c.loop-number.out) _ _ _
      (shown_step c.args.module.now.texts c.at-instr.result ++ shown_code c.args.module.now.texts c.args.module.now.code
      (c.loop-number.number + 1) c.args.to) all (rw c.code.ensures.value at c.in_ok-put_label_before.ensures)

pub returns-in_err-put_label_before : goal.returns-in_err-put_label_before
returns-in_err-put_label_before g c =
    let p = goal.at.returns-in_err-put_label_before g c in
    leaves_fault _ _ _ _ _ _ c.in_err-put_label_before.field-0.0 _ c.from_residual.ensures.0 (left g p.After-put_label_before)
    (rw c.code.ensures.value at c.in_err-put_label_before.ensures)

pub returns-in_err-put_step : goal.returns-in_err-put_step
returns-in_err-put_step g c =
    let p = goal.at.returns-in_err-put_step g c in
    leaves_fault _ _ _ _ _ _ c.in_err-put_step.field-0.0 _ c.from_residual-in_err-put_step.ensures.0
    (labelled g p.In_ok-put_label_before (left g p.After-put_label_before)) c.in_err-put_step.ensures

pub loop-number-preserved : goal.loop-number-preserved
loop-number-preserved g c =
    let p = goal.at.loop-number-preserved g c in
    leaves_less _ (writer_state g.W.Write.contents c.put_label_before.new.out) _ _ _ _
    (labelled g p.In_ok-put_label_before (left g p.After-put_label_before)) c.in_ok-put_step.ensures

pub returns : goal.returns
returns g c =
    let w = writer_state g.W.Write.contents in
    let code = c.args.module.now.code in
    let ts = c.args.module.now.texts in
    let whole = shown_code ts code c.args.from c.args.to in
    leaves_none (w c.args.out.now) (w c.loop-number.out) whole
    (subst (Leaves (w c.args.out.now) (w c.loop-number.out) whole) (code_none ts code c.loop-number.number c.args.to c.loop-number-test.false) c.loop-number.invariant)
