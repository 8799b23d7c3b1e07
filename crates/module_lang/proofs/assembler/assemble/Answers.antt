-- What a text is read as.
use Rattle.std.proofs.Common.{subst, sym}
use Rattle.module_lang.specs.Texts.{IsTextOf}
use Rattle.module_lang.proofs.FirstLaws.{answer_reads, reads_once, reads_some, reads_told}
use Rattle.module_lang.proofs.PrintedText.{printed_is_text}
use Rattle.module_lang.proofs.TextAgain.{text_again}
use Rattle.module_lang.proofs.assembler.assemble.Goals as goal

pub returns-clause-some : goal.returns-clause-some
returns-clause-some c = reads_some c.args.text.now

pub returns-clause-reads : goal.returns-clause-reads
returns-clause-reads c = answer_reads c.args.text.now c.read_module.result c.read_module.ensures

pub returns-clause-told : goal.returns-clause-told
returns-clause-told c = λ r x. reads_told c.args.text.now c.read_module.result r c.read_module.ensures x

pub returns-clause-one : goal.returns-clause-one
returns-clause-one c = λ r s x y. reads_once c.args.text.now r s x y

pub returns-clause-again : goal.returns-clause-again
returns-clause-again c = λ p s e.
    let t = subst (λ x. IsTextOf x p) (sym e) (printed_is_text p s) in rw (text_again c.args.text.now p t) at c.read_module.ensures
