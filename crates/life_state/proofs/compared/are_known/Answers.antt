-- One that is not known decides, and each is where the loop ends.
use Rattle.std.proofs.Common.{◌≡◌, ℕ, Bool, false, ap₂, sym, ◌∙◌, arith}
use Rattle.life_state.specs.Facts.{known}
use Rattle.life_state.specs.Order.{implies}
use Rattle.life_state.specs.Seen.{seen}
use Rattle.life_state.proofs.Below.{all_below_holds, all_below_fails}
use Rattle.life_state.proofs.compared.are_known.Goals as goal
use Rattle.life_state.proofs.compared.are_known.Goals.{then-not-fact, else-not-fact}

pub returns-then-not-told : goal.returns-then-not-told
returns-then-not-told c =
    let holds : ℕ → Bool = λ d. implies ((seen c.args.b.now).facts c.args.c d) (known (seen c.args.a.now) c.args.c d) in
    let here : holds c.loop-d.d ≡ false =
    elim c.if-not-fact.branch [
      | then-not-fact w ↦ cc (w.told-is, c.if-not-told.true)
      | else-not-fact w ↦ ap₂ implies (sym c.fact.ensures ∙ w.if-not-fact.false) (sym w.known-told.ensures ∙ (sym w.told-is ∙ c.if-not-told.true))
    ] in
    sym (all_below_fails 9 c.loop-d.d holds (omega arith) here)

pub returns : goal.returns
returns c =
    let holds : ℕ → Bool = λ d. implies ((seen c.args.b.now).facts c.args.c d) (known (seen c.args.a.now) c.args.c d) in
    sym (all_below_holds 9 holds (λ k below. c.loop-d.invariant k (omega arith)))
