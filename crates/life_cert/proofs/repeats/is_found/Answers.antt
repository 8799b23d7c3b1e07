-- A line that has the state has its sum.
use Rattle.std.proofs.Common.{◌≡◌, Bool, true, false, None, slice_get, slice_index_or, refl, sym, ap, ◌∙◌, arith}
use Rattle.life_state.specs.Seen.{seen}
use Rattle.life_check.specs.Seen.{seen_line}
use Rattle.life_cert.specs.CertText.{is_again}
use Rattle.life_cert.proofs.Lines.{line_at}
use Rattle.life_cert.proofs.SumLaws.{same_sum}
use Rattle.life_cert.proofs.repeats.is_found.Goals as goal

pub returns-then-sums-m : goal.returns-then-sums-m
returns-then-sums-m c = by (is_again (seen c.args.state.now) (seen_line (slice_get c.args.at.now c.args.m))) refl
  where
    by : (b : Bool) → is_again (seen c.args.state.now) (seen_line (slice_get c.args.at.now c.args.m)) ≡ b → false ≡ is_again (seen c.args.state.now) (seen_line (slice_get c.args.at.now c.args.m))
    by false e = sym e
    by true e =
        let same : slice_index_or c.args.sums.now c.args.m 0 ≡ c.args.sum = c.requires.sums c.args.m (omega arith) c.if-m-sums.true
        ∙ same_sum (seen c.args.state.now) (seen_line (slice_get c.args.at.now c.args.m)) e ∙ sym c.requires.sum in
        absurd (search (same, c.if-sums-m.true))

pub returns : goal.returns
returns c = c.is_again.ensures ∙ ap (is_again (seen c.args.state.now)) (sym (line_at c.args.at.now c.args.m None c.requires.inside))
