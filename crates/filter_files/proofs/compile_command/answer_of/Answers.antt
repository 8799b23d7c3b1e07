-- What was compiled is the text of an accepted module.
use Rattle.std.proofs.Common.{◌≡◌, ℕ, List, Ok, inl, sym, subst}
use Rattle.module_lang.specs.FirstFault.{IsReadAs}
use Rattle.filter_files.specs.FilterReads.{IsFilterRead}
use Rattle.filter_files.specs.declared.compiling.FilterRead.{FilterRead}
use Rattle.filter_files.specs.declared.compiling.FilterRead.TheVariants as filter
use Rattle.filter_files.proofs.compile_command.answer_of.Goals as goal

pub returns-in-Compiled-clause-ok : goal.returns-in-Compiled-clause-ok
returns-in-Compiled-clause-ok c =
    let m = c.in-Compiled.compiled in
    let is : IsFilterRead c.args.text.now (filter.Compiled m) = subst (λ (r : FilterRead). IsFilterRead c.args.text.now r) c.in-Compiled.is c.in_ok-compiled.ensures.ok in
    let read : IsReadAs c.module_answer.result.text.items (Ok m.code) = subst (λ (t : List ℕ). IsReadAs t (Ok m.code)) (sym c.module_answer.ensures.text) is.1 in
    inl ((m.code, m.cert, read, is.0), c.module_answer.ensures.ended)
