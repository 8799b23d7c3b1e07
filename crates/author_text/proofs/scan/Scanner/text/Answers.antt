use Rattle.std.proofs.Common.{◌≡◌, ◌∙◌, ap, sym, subst, false, Some, None, take, drop}
use Rattle.std.specs.Prelude.{is_some}
use Rattle.author_text.specs.Scanning.{TakesPiece, len_to_quote, text_piece}
use Rattle.author_text.specs.Reading.{fault_of}
use Rattle.author_text.proofs.ScanLaws.{quote_within, text_found, text_open}
use Rattle.author_text.proofs.scan.Scanner.text.Goals as goal

pub returns-in-Some : goal.returns-in-Some
returns-in-Some c = λ clear.
    let rest = c.args.self.now.rest.now in
    let quote : len_to_quote false (drop 1 rest) ≡ Some c.in-Some.len = sym (ap (len_to_quote false) c.after-inner.ensures) ∙ sym c.in-Some.ensures in
    let text = c.front.ensures ∙ ap (take c.in-Some.len) c.after-inner.ensures in
    subst (λ p. TakesPiece p c.args.self.now c.closed_text.new.self c.closed_text.result)
    (ap text_piece text ∙ text_found rest c.in-Some.len quote (quote_within false (drop 1 rest) c.in-Some.len quote)) (c.closed_text.ensures clear)

pub returns-in-None : goal.returns-in-None
returns-in-None c = λ clear.
    let rest = c.args.self.now.rest.now in
    let quote : len_to_quote false (drop 1 rest) ≡ None = sym (ap (len_to_quote false) c.after-inner.ensures) ∙ sym c.in-None.ensures in
    subst (λ p. TakesPiece p c.args.self.now c.cut.new.self c.cut.result) (sym (text_open rest quote)) (ap (λ f. is_some (fault_of f)) c.cut.ensures.faults ∙ c.says.ensures.found)
