use Rattle.std.proofs.Common.{◌≡◌, ◌∙◌, ap}
use Rattle.module_lang.specs.Shown.{shown_line, shown_step}
use Rattle.module_code.specs.Words.{op_text}
use Rattle.module_code.specs.declared.arg.Args.{Args}
use Rattle.module_code.specs.declared.word.Op.{Op}
use Rattle.byte_text.specs.Writes.{writer_state}
use Rattle.module_lang.proofs.ShownLaws.{args_short, step_shown}
use Rattle.byte_text.proofs.WritingLaws.{wrote_same}
use Rattle.module_lang.proofs.print.put_step.Goals as goal

pub put_line-requires : goal.put_line-requires
put_line-requires g c = rw c.parts-op.ensures.value (args_short c.args.module.now c.args.instr c.requires.pools c.requires.brigades c.requires.fit)

pub returns : goal.returns
returns g c =
    let w = writer_state g.W.Write.contents in
    let i = c.args.instr in
    let ts = c.args.module.now.texts in
    let same : shown_line ts c.text.result.now c.parts-op.result.1 ≡ shown_step ts i =
    ap (λ z. shown_line ts z c.parts-op.result.1) c.text.ensures ∙ ap (λ (z : Op × Args). shown_line ts (op_text z.0) z.1) c.parts-op.ensures.value ∙ step_shown ts i in
    wrote_same (w c.args.out.now) (w c.put_line.new.out) (shown_line ts c.text.result.now c.parts-op.result.1) (shown_step ts i) c.put_line.result same c.put_line.ensures
