use Rattle.std.proofs.Common.{◌≡◌, ◌∙◌, ap, sym, get_or, inl, inr}
use Rattle.std.proofs.lemmas.Bool.{cases_Bool}
use Rattle.author_text.specs.TextTokens.{is_line_end, tokens_behind}
use Rattle.author_text.specs.Reading.{fault_of}
use Rattle.author_text.proofs.JudgeLaws.{judged_clear, judged_wrong}
use Rattle.author_text.proofs.ScanLaws.{comment_passed}
use Rattle.author_text.proofs.scan.Scanner.skip_blank.Goals as goal

pub returns-in-35-clause-passed : goal.returns-in-35-clause-passed
returns-in-35-clause-passed c = λ clear yes.
    let rest = c.args.self.now.rest.now in
    let left = c.skip_comment.new.self.rest.now in
    let at : get_or rest 0 0 ≡ 35 = sym c.first.ensures ∙ c.in-35.is in
    let p = comment_passed rest at in
    elim (cases_Bool (is_line_end left)) [
      | inl ends ↦
          judged_clear (tokens_behind 0 rest ≡ tokens_behind 0 left) c.skip_comment.new.self.faults rest
          (ap fault_of (c.skip_comment.ensures.clear ends) ∙ clear)
          (p.passed (sym (ap is_line_end c.skip_comment.ensures.rest) ∙ ends) ∙ ap (tokens_behind 0) (sym c.skip_comment.ensures.rest))
      | inr goes_on ↦
          judged_wrong (tokens_behind 0 rest ≡ tokens_behind 0 left) c.skip_comment.new.self.faults rest (c.skip_comment.ensures.found goes_on)
          (p.wrong (sym (ap is_line_end c.skip_comment.ensures.rest) ∙ goes_on))
    ]
