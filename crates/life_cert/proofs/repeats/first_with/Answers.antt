-- Each line is looked at in turn.
use Rattle.std.proofs.Common.{◌≡◌, ℕ, Option, slice_get, refl, sym, ap, ◌∙◌, add-one, arith}
use Rattle.life_state.specs.Seen.{seen}
use Rattle.life_state.specs.States.{State}
use Rattle.life_check.specs.Seen.{seen_line}
use Rattle.life_cert.specs.CertText.{first_with}
use Rattle.life_cert.proofs.RepeatLaws.{found_stays, not_last}
use Rattle.life_cert.proofs.repeats.first_with.Goals as goal

pub loop-m-init : goal.loop-m-init
unfolding first_with
loop-m-init c = refl

pub is_found-requires-clause-sums : goal.is_found-requires-clause-sums
is_found-requires-clause-sums c = λ k low short. c.requires.sums k (omega (arith, low)) short

pub returns-then-is_found : goal.returns-then-is_found
returns-then-is_found c =
    let at : ℕ → Option State = λ k. seen_line (slice_get c.args.at.now k) in
    sym (found_stays at c.loop-m.m c.args.upto (seen c.args.state.now) c.loop-m.invariant (sym c.is_found.ensures ∙ c.if-is_found.true) (omega arith))

pub loop-m-preserved : goal.loop-m-preserved
loop-m-preserved c =
    let at : ℕ → Option State = λ k. seen_line (slice_get c.args.at.now k) in
    let s = seen c.args.state.now in
    ap (λ (n : ℕ). first_with at n s) (add-one c.loop-m.m) ∙ not_last at c.loop-m.m s (sym c.is_found.ensures ∙ c.if-is_found.false) ∙ c.loop-m.invariant

pub returns : goal.returns
returns c =
    let all : c.loop-m.m ≡ c.args.upto = omega arith in
    sym (ap (λ (n : ℕ). first_with (λ k. seen_line (slice_get c.args.at.now k)) n (seen c.args.state.now)) (sym all) ∙ c.loop-m.invariant)
