use Rattle.std.proofs.Common.{bytes_eq, sym, ap, ◌∙◌}
use Rattle.author_text.specs.PrintedSource.{plain_text}
use Rattle.author_text.proofs.FindLaws.{find_found, find_passed, find_past}
use Rattle.author_text.proofs.stmts.plain_among.Goals as goal

pub returns-then-eq : goal.returns-then-eq
returns-then-eq c =
    find_found (λ p. bytes_eq (plain_text p) c.args.text.now) c.args.plains.now c.loop-plain.plain-index _ _ c.loop-plain-test.true
    (ap (λ t. bytes_eq t c.args.text.now) (sym c.plain_text.ensures) ∙ ap (λ t. bytes_eq t c.args.text.now) (sym c.as_bytes.ensures.value) ∙ sym c.eq.ensures ∙ c.if-eq.true) c.loop-plain.invariant

pub loop-plain-preserved : goal.loop-plain-preserved
loop-plain-preserved c =
    find_passed (λ p. bytes_eq (plain_text p) c.args.text.now) c.args.plains.now c.loop-plain.plain-index _ _ c.loop-plain-test.true
    (ap (λ t. bytes_eq t c.args.text.now) (sym c.plain_text.ensures) ∙ ap (λ t. bytes_eq t c.args.text.now) (sym c.as_bytes.ensures.value) ∙ sym c.eq.ensures ∙ c.if-eq.false) c.loop-plain.invariant

pub returns : goal.returns
returns c = find_past (λ p. bytes_eq (plain_text p) c.args.text.now) c.args.plains.now c.loop-plain.plain-index _ c.loop-plain-test.false c.loop-plain.invariant
