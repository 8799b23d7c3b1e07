-- At the end of a call: one brigade that keeps a bucket of it decides, and none does where the loop ends. What is sent must be at most
-- what an EOS that may have been passed allows.
use Rattle.std.proofs.Common.{◌≡◌, ℕ, Bool, true, false, not, if◌then◌else◌, Some, None, refl, ap, ap₂, sym, ◌∙◌, below_more, arith}
use Rattle.std.specs.Bool.{then_some}
use Rattle.run_model.specs.declared.fault.FaultKind.TheVariants.{F6, F8}
use Rattle.run_model.specs.declared.want.Want.{Want}
use Rattle.run_model.specs.Wants.{want_of}
use Rattle.life_state.specs.States.{BrigadeKnown}
use Rattle.life_state.specs.Order.{content_leq}
use Rattle.life_state.specs.Rules.{keeps_call, send_limit, need}
use Rattle.life_state.specs.Seen.{seen}
use Rattle.life_state.proofs.Below.{none_below, some_below}
use Rattle.life_state.proofs.state.State.need.Goals as goal
use Rattle.life_state.proofs.state.State.need.Goals.{then-sent, else-sent}

unless_fits : (fits : Bool) → then_some (not fits) F8 ≡ (if fits then None else Some F8)
unless_fits true = refl
unless_fits false = refl

pub loop-b-preserved : goal.loop-b-preserved
loop-b-preserved c =
    below_more (λ k. keeps_call ((seen c.args.self.now).brigades k) ≡ false) c.loop-b.b c.loop-b.invariant
    (ap (λ (v : BrigadeKnown). keeps_call v) (sym c.brigade-brigade-in-loop-b.ensures) ∙ c.if-brigade.false)

pub returns-then-brigade : goal.returns-then-brigade
returns-then-brigade c =
    let keeps : ℕ → Bool = λ b. keeps_call ((seen c.args.self.now).brigades b) in
    let here : keeps c.loop-b.b ≡ true = ap (λ (v : BrigadeKnown). keeps_call v) (sym c.brigade-brigade-in-loop-b.ensures) ∙ c.if-brigade.true in
    sym (ap (λ b. if b then Some F6 else None) (some_below 8 c.loop-b.b keeps (omega arith) here))
    ∙ sym (ap (λ (w : Want). need (seen c.args.self.now) (want_of w)) c.in-Return.is)

pub returns-after-loop-b : goal.returns-after-loop-b
returns-after-loop-b c =
    let keeps : ℕ → Bool = λ b. keeps_call ((seen c.args.self.now).brigades b) in
    sym (ap (λ b. if b then Some F6 else None) (none_below 8 keeps (λ k below. c.loop-b.invariant k (omega arith))))
    ∙ sym (ap (λ (w : Want). need (seen c.args.self.now) (want_of w)) c.in-Return.is)

pub returns-after-sent : goal.returns-after-sent
returns-after-sent c =
    let s = seen c.args.self.now in
    let limit : c.if-sent.limit ≡ send_limit s.sent = elim c.if-sent.branch [
      | then-sent w ↦ w.limit-is ∙ ap send_limit (sym w.if-sent.true ∙ c.sent.ensures)
      | else-sent w ↦ w.limit-is ∙ ap send_limit (sym w.if-sent.false ∙ c.sent.ensures)
    ] in
    c.then_some-in-Send.ensures ∙ unless_fits c.leq.result
    ∙ ap (λ (b : Bool). if b then None else Some F8) (c.leq.ensures ∙ ap₂ content_leq c.content.ensures limit)
    ∙ sym (ap (λ (w : Want). need s (want_of w)) c.in-Send.is)
