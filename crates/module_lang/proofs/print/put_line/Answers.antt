use Rattle.std.proofs.Common.{◌∷◌, ◌++◌, []}
use Rattle.module_lang.specs.Shown.{shown_args, shown_line}
use Rattle.byte_text.specs.Writes.{writer_state}
use Rattle.byte_text.proofs.WritingLaws.{leaves_all, leaves_less, leaves_fault, leaves_last}
use Rattle.module_lang.proofs.print.put_line.Goals as goal

pub returns-in_err-put_all : goal.returns-in_err-put_all
returns-in_err-put_all g c =
    let w = writer_state g.W.Write.contents in
    let word = c.args.word.now in
    let whole = shown_line c.args.module.now.texts word c.args.args in
    leaves_fault (w c.args.out.now) (w c.args.out.now) (w c.put_all.new.out) whole word (shown_args c.args.module.now.texts c.args.args ++ 10 ∷ [])
    c.in_err-put_all.field-0.0 c.from_residual.result c.from_residual.ensures.0 (leaves_all (w c.args.out.now) whole) c.in_err-put_all.ensures

pub returns-in_err-put_args : goal.returns-in_err-put_args
returns-in_err-put_args g c =
    let w = writer_state g.W.Write.contents in
    let word = c.args.word.now in
    let a = shown_args c.args.module.now.texts c.args.args in
    let whole = shown_line c.args.module.now.texts word c.args.args in
    let one = leaves_less (w c.args.out.now) (w c.args.out.now) (w c.put_all.new.out) whole word (a ++ 10 ∷ []) (leaves_all (w c.args.out.now) whole) c.in_ok-put_all.ensures in
    leaves_fault (w c.args.out.now) (w c.put_all.new.out) (w c.put_args.new.out) whole a
    (10 ∷ []) c.in_err-put_args.field-0.0 c.from_residual-in_err-put_args.result c.from_residual-in_err-put_args.ensures.0 one c.in_err-put_args.ensures

pub returns : goal.returns
returns g c =
    let w = writer_state g.W.Write.contents in
    let word = c.args.word.now in
    let a = shown_args c.args.module.now.texts c.args.args in
    let whole = shown_line c.args.module.now.texts word c.args.args in
    let one = leaves_less (w c.args.out.now) (w c.args.out.now) (w c.put_all.new.out) whole word (a ++ 10 ∷ []) (leaves_all (w c.args.out.now) whole) c.in_ok-put_all.ensures in
    let two = leaves_less (w c.args.out.now) (w c.put_all.new.out) (w c.put_args.new.out) whole a (10 ∷ []) one c.in_ok-put_args.ensures in
    leaves_last (w c.args.out.now) (w c.put_args.new.out) (w c.put_all-2.new.out) whole (10 ∷ []) c.put_all-2.result two c.put_all-2.ensures
