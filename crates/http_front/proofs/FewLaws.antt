-- How many steps of a connection are made.
use Rattle.std.proofs.Common.{◌≡◌, ◌≤◌, ◌+◌, ℕ, zero, suc, List, ◌∷◌, Result, sym, subst, arith}
use Rattle.module_code.specs.Program.{Program}
use Rattle.run_model.specs.declared.event.Event.{Event}
use Rattle.run_model.specs.declared.event.Event.TheVariants as event
use Rattle.run_model.specs.declared.event.Refusal.{Refusal}
use Rattle.run_model.specs.declared.event.Stepped.{Stepped}
use Rattle.run_model.specs.declared.event.Stepped.TheVariants as stepped
use Rattle.run_model.specs.Worlds.{Answer, Step}
use Rattle.bucket_kinds.specs.Device.{Device}
use Rattle.filter_chain.specs.declared.host.Host.{Host}
use Rattle.filter_chain.specs.Hosting.{Ghosts, Stored, step_answer}
use Rattle.filter_chain.specs.Running as steps
use Rattle.filter_chain.specs.HostViews.{HostView, Answers}
use Rattle.http_front.specs.Driven.{GoesBy, IsOfConn, Refines, StepsAtMost, is_step, steps_in}
use Rattle.filter_chain.proofs.Driving.{HappenedInAny, by_event, leads_as, leads_on}

module _ (b : ℕ) (c : List Program) (number : ℕ) where
  abbrev pub FewSteps : ℕ → HostView → HostView → Type 0
  FewSteps n s t = (events : List (Event × Answer)) × GoesBy b c number events s t × (steps_in events ≤ n)

  one_more : (n : ℕ) (what : Event) (answer : Answer) (s m t : HostView) → IsOfConn what → FewSteps n s m → Answers b c number what m answer t → FewSteps (is_step what + n) s t
  unfolding GoesBy steps_in
  one_more n what answer s m t own so acts = ((what, answer) ∷ so.0, (m, so.1, own, acts), omega (arith, so.2))

  goes_on : (k n : ℕ) (s m t : HostView) → FewSteps n s m → steps.HostGoesOn b c number k m t → FewSteps (k + n) s t
  unfolding steps.HostGoesOn
  goes_on zero n s m t so same = subst (λ (v : HostView). FewSteps (0 + n) s v) (sym same) (so.0, so.1, omega (arith, so.2))
  goes_on (suc k) n s m t so goes =
      let rest = goes_on k (1 + n) s goes.0 t (one_more n event.Step (Step stepped.Went) s m goes.0 tt so goes.1) goes.2 in
      (rest.0, rest.1, omega (arith, rest.2))

  steps_on : (n more most : ℕ) (answer : Result Stepped Refusal) (s m t : HostView) → more + 1 ≤ most → FewSteps n s m → steps.StepsOn b c number more m answer t → FewSteps (n + most) s t
  steps_on n more most answer s m t room so x =
      let all = one_more (x.count + n) event.Step (step_answer answer) s x.before t tt (goes_on x.count n s m x.before so x.goes) x.last in
      (all.0, all.1, omega (arith, all.2, x.few, room))

module _ {F R : Type 0} {g : Ghosts R Stored} (device : F → Device) (number : ℕ) (from old : Host F R g) (n : ℕ) (so : StepsAtMost device from number n old) where
  -- an event that is no step
  pub few_event : (new : Host F R g) (what : Event) (answer : Answer) → IsOfConn what → is_step what ≡ 0 → HappenedInAny device old new number what answer → StepsAtMost device from number n new
  unfolding StepsAtMost
  few_event new what answer own none h =
      leads_on device from old new (λ b c s t. FewSteps b c number n s t) (λ b c s t. Answers b c number what s answer t) (λ b c s t. FewSteps b c number n s t)
      (λ b c s m t x a. (let y = one_more b c number n what answer s m t own x a in (let bound = y.2 in (y.0, y.1, omega (arith, bound, none))))) so (by_event device old new number what answer h)

  pub few_steps : (new : Host F R g) (more most : ℕ) (answer : Result Stepped Refusal) → more + 1 ≤ most
      → Refines device old new (λ b c s t. steps.StepsOn b c number more s answer t) → StepsAtMost device from number (n + most) new
  unfolding StepsAtMost
  few_steps new more most answer room h =
      leads_on device from old new (λ b c s t. FewSteps b c number n s t) (λ b c s t. steps.StepsOn b c number more s answer t) (λ b c s t. FewSteps b c number (n + most) s t)
      (λ b c s m t x r. steps_on b c number n more most answer s m t room x r) so h

  pub few_more : (most : ℕ) → n ≤ most → StepsAtMost device from number most old
  unfolding StepsAtMost
  few_more most room = leads_as device from old (λ b c s t. FewSteps b c number n s t) (λ b c s t. FewSteps b c number most s t) (λ b c s t x. (let bound = x.2 in (
    x.0,
    x.1,
    omega
        (arith, bound, room),
  ))) so
