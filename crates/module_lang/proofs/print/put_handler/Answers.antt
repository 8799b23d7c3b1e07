use Rattle.std.proofs.Common.{◌++◌}
use Rattle.module_code.specs.Args.{no_arg}
use Rattle.module_lang.specs.Shown.{shown_code, shown_handler, shown_line}
use Rattle.byte_text.specs.Writes.{writer_state}
use Rattle.byte_text.proofs.WritingLaws.{leaves_all, leaves_fault, leaves_last, leaves_less}
use Rattle.module_lang.proofs.print.put_handler.Goals as goal

pub returns-in_err-put_line : goal.returns-in_err-put_line
unfolding shown_handler
returns-in_err-put_line g c =
    let w = writer_state g.W.Write.contents in
    let line = shown_line c.args.module.now.texts c.args.word.now no_arg in
    let code = shown_code c.args.module.now.texts c.args.module.now.code c.args.range.start c.args.range.end in
    let whole = line ++ code in
    leaves_fault (w c.args.out.now) (w c.args.out.now) (w c.put_line.new.out) whole line (code) c.in_err-put_line.field-0.0 c.from_residual.result c.from_residual.ensures.0
    (leaves_all (w c.args.out.now) whole) (rw c.none.ensures at c.in_err-put_line.ensures)

pub returns : goal.returns
unfolding shown_handler
returns g c =
    let w = writer_state g.W.Write.contents in
    let line = shown_line c.args.module.now.texts c.args.word.now no_arg in
    let code = shown_code c.args.module.now.texts c.args.module.now.code c.args.range.start c.args.range.end in
    let whole = line ++ code in
    let l1 = leaves_less (w c.args.out.now) (w c.args.out.now) (w c.put_line.new.out) whole line (code) (leaves_all (w c.args.out.now) whole) (rw c.none.ensures at c.in_ok-put_line.ensures) in
    leaves_last (w c.args.out.now) (w c.put_line.new.out) (w c.put_code.new.out) whole code c.put_code.result l1 c.put_code.ensures
