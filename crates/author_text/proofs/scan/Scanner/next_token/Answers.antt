use Rattle.std.proofs.Common.{◌≡◌, ◌<◌, ◌∙◌, sym, refl, Some, None, false, length, arith}
use Rattle.std.specs.Prelude.{is_some}
use Rattle.std.proofs.lemmas.Bool.{eqb-false}
use Rattle.author_text.specs.TextTokens.{tokens_behind}
use Rattle.author_text.specs.Reading.{fault_of}
use Rattle.author_text.proofs.JudgeLaws.{advanced, judged_as, no_fault}
use Rattle.author_text.proofs.scan.Scanner.next_token.Goals as goal

pub returns-clause-passed : goal.returns-clause-passed
returns-clause-passed c = λ clear.
    let start = c.args.self.now.rest.now in
    let s = c.skip_blanks.new.self in
    let none : (fault_of s.faults) ≡ None = no_fault (fault_of s.faults) (sym c.is_any.ensures.fault ∙ c.if-is_any.false) in
    let apart = eqb-false (length s.rest.now) 0 (sym c.is_empty.ensures ∙ c.if-is_empty.false) in
    let some : 0 < length s.rest.now = omega (arith, apart) in
    let same = judged_as (tokens_behind 0 start ≡ tokens_behind 0 s.rest.now) s.faults start none (c.skip_blanks.ensures.passed clear) in
    advanced s c.token-token.new.self c.append.new.self c.token-token.result c.args.found.now.items c.append.new.list.items start s.rest.now same c.skip_blanks.ensures.shorter
    c.skip_blanks.ensures.done some refl (c.token-token.ensures none) c.append.ensures.kept c.append.ensures.grown
