use Rattle.std.proofs.Common.{◌≡◌, ◌∙◌, ap, sym, subst, inl, inr, [], take}
use Rattle.std.specs.Prelude.{is_some}
use Rattle.author_text.specs.declared.scan.TheConstants.{MAX_LEN}
use Rattle.author_text.specs.Scanning.{FindsAll, JudgesText}
use Rattle.author_text.specs.Tokens.{kind_token}
use Rattle.author_text.specs.Reading.{fault_of}
use Rattle.author_text.proofs.JudgeLaws.{read_whole}
use Rattle.author_text.proofs.scan.tokens.Goals as goal
use Rattle.author_text.proofs.scan.tokens.Goals.{then-text-gt-MAX_LEN, else-text-gt-MAX_LEN}

pub returns : goal.returns
returns c =
    let s = c.all_tokens.new.self.faults in
    let t = c.cut-end.new.self.faults in
    let found = c.all_tokens.new.found.items in
    let judged =
    subst (λ xs. JudgesText s xs (FindsAll [] found xs)) c.front.ensures
    (subst (λ o. JudgesText s c.front.result.now (FindsAll o found c.front.result.now)) c.new-found.ensures.items (c.all_tokens.ensures.passed c.new.ensures.fault)) in
    read_whole MAX_LEN c.args.text.now s t c.append.new.self c.cut-end.result found c.append.new.list c.outcome.result judged
    (elim c.if-text-gt-MAX_LEN.branch [
      | then-text-gt-MAX_LEN w ↦
          inl (w.if-text-gt-MAX_LEN.true, ap (λ f. is_some (fault_of f)) (c.cut-end.ensures.faults ∙ ap (λ x. x.faults) w.scanner-is) ∙ w.says.ensures.found)
      | else-text-gt-MAX_LEN w ↦ inr (w.if-text-gt-MAX_LEN.false, c.cut-end.ensures.faults ∙ ap (λ x. x.faults) w.scanner-is)
    ])
    c.append.ensures.kept c.append.ensures.grown (ap (λ k. kind_token k c.cut-end.result.text.now) c.cut-end.ensures.kind) c.outcome.ensures
