-- No call of a checked chain has a fault.
use Rattle.std.proofs.Common.{◌≡◌, ◌≢◌, ℕ, List, Option, Some, None, Result, Ok, Err, refl, sym, subst}
use Rattle.module_code.specs.Program.{Program}
use Rattle.module_code.specs.declared.instr.Status.TheVariants as call
use Rattle.run_model.specs.declared.event.Event.{Event}
use Rattle.run_model.specs.declared.event.Event.TheVariants as event
use Rattle.run_model.specs.declared.event.Refusal.{Refusal}
use Rattle.run_model.specs.declared.event.Stepped.{Stepped}
use Rattle.run_model.specs.declared.event.Stepped.TheVariants as stepped
use Rattle.run_model.specs.Worlds.{World, Answer, Refused}
use Rattle.model_laws.specs.Reached.{IsReached}
use Rattle.model_laws.specs.SafeChains.{ChainNeverFaults}
use Rattle.bucket_kinds.specs.Device.{Device}
use Rattle.filter_chain.specs.declared.host.Host.{Host}
use Rattle.filter_chain.specs.Hosting.{Ghosts, Stored, IsHosting, budget_of, chain_of, done_answer, files_of, step_answer}
use Rattle.filter_chain.specs.HostViews.{HostView, Answers, host_view}
use Rattle.filter_chain.specs.Led.{IsAlive, Refines, Transition}
use Rattle.filter_chain.specs.Running.{StepsToEnd}
use Rattle.filter_chain.specs.Safe.{GoesWell, IsSafe, IsUnfaulted}
use Rattle.filter_chain.proofs.Driving.{HappenedInAny}
use Rattle.filter_chain.proofs.Unfaulted.{reached_worlds_answer_unfaulted}
use Rattle.http_message.specs.declared.failure.Failure.{Failure}
use Rattle.http_message.specs.declared.failure.Failure.TheVariants as failure
use Rattle.body_filter.specs.BodyCalls.{failure_of, faulted}
use Rattle.body_filter.specs.Filtered.{body_end}
use Rattle.body_filter.specs.Prelude.{refusal_of}
use Rattle.body_filter.specs.declared.ending.BodyEnd.{BodyEnd}
use Rattle.body_filter.specs.declared.ending.BodyEnd.TheVariants as end

refused_well : (r : Refusal) → IsUnfaulted (Refused r) → Some (failure.Refused r) ≢ Some faulted
refused_well r well is = well (cc)

answered_well : (answer : Result Stepped Refusal) → GoesWell answer → IsUnfaulted (step_answer answer) → ¬ (answer ≡ Ok stepped.Went) → failure_of answer ≢ Some faulted
answered_well (Ok (stepped.CallEnded call.Success)) well unfaulted stops = λ is. cc
answered_well (Ok (stepped.CallEnded call.Fail)) well unfaulted stops = λ is. cc
answered_well (Ok stepped.Went) well unfaulted stops = absurd (stops refl)
answered_well (Ok (stepped.Fault k m pc)) well unfaulted stops = absurd well
answered_well (Err r) well unfaulted stops = refused_well r unfaulted

-- an event that was refused, if it was, for no fault
pub begun_well : (begun : Result (Unit {0}) Refusal) (why : Refusal) → begun ≡ Err why → IsUnfaulted (done_answer (refusal_of begun)) → Some (failure.Refused why) ≢ Some faulted
begun_well begun why is well = refused_well why (subst (λ (x : Result (Unit {0}) Refusal). IsUnfaulted (done_answer (refusal_of x))) is well)

pub end_well : (how : Option Failure) (e : BodyEnd) → e ≡ body_end how → how ≢ Some faulted → e ≢ end.Cut faulted
end_well None e is well ends = (let bad : end.Whole ≡ end.Cut faulted = cc in absurd (cc))
end_well (Some why) e is well ends = well (let same : end.Cut why ≡ end.Cut faulted = cc in cc)

module _ {F R : Type 0} {g : Ghosts R Stored} (device : F → Device) (old new : Host F R g) where
  reached_still : (w : World) → IsHosting (device (files_of new)) new w → chain_of new ≡ chain_of old → budget_of new ≡ budget_of old → IsReached (budget_of old) (chain_of old) w
  unfolding IsHosting
  reached_still w hosts chain budget = subst (λ (b : ℕ). IsReached b (chain_of old) w) budget (subst (λ (ps : List Program). IsReached (budget_of new) ps w) chain hosts.reached)

  unfaulted_by : (number : ℕ) (what : Event) (answer : Answer) (before : HostView) (w : World) → IsSafe old → IsHosting (device (files_of new)) new w → chain_of new ≡ chain_of old
      → budget_of new ≡ budget_of old → Answers (budget_of old) (chain_of old) number what before answer (host_view w (device (files_of new))) → IsUnfaulted answer
  unfaulted_by number what answer before w safe hosts chain budget acts =
      reached_worlds_answer_unfaulted (budget_of old) (chain_of old) number what before (host_view w (device (files_of new))) answer safe (reached_still w hosts chain budget) acts

  -- an event
  pub event_unfaulted : (number : ℕ) (what : Event) (answer : Answer) → IsAlive device old → IsSafe old → HappenedInAny device old new number what answer → IsUnfaulted answer
  event_unfaulted number what answer alive safe happens =
      let h = happens alive.0 alive.1 in unfaulted_by number what answer (host_view alive.0 (device (files_of old))) h.to safe h.hosts h.chain h.budget h.acts

  -- a call
  pub run_unfaulted : (number : ℕ) (answer : Result Stepped Refusal) (how : Option Failure) → how ≡ failure_of answer → IsAlive device old → IsSafe old → GoesWell answer
      → Refines device old new (λ b c s t. StepsToEnd b c number s answer t) → how ≢ Some faulted
  run_unfaulted number answer how is alive safe well refines =
      let r = refines alive.0 alive.1 in
      subst (λ (h : Option Failure). h ≢ Some faulted) (sym is)
      (answered_well answer well (unfaulted_by number event.Step (step_answer answer) r.did.before r.to safe r.hosts r.chain r.budget r.did.last) r.did.stops)

  pub safe_event : (number : ℕ) (what : Event) (answer : Answer) → IsAlive device old → HappenedInAny device old new number what answer → IsSafe old → IsSafe new
  safe_event number what answer alive happens safe = subst ChainNeverFaults (sym (happens alive.0 alive.1).chain) safe

  pub safe_by : (does : Transition) → IsAlive device old → Refines device old new does → IsSafe old → IsSafe new
  safe_by does alive refines safe = subst ChainNeverFaults (sym (refines alive.0 alive.1).chain) safe
