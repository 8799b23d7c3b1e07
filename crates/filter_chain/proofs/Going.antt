-- Steps that go on, one after another, and the last of them.
use Rattle.std.proofs.Common.{◌≡◌, ℕ, suc, List, Result, Ok, subst, sym, ◌∙◌, arith}
use Rattle.module_code.specs.Program.{Program}
use Rattle.run_model.specs.declared.event.Event.TheVariants as event
use Rattle.run_model.specs.declared.event.Refusal.{Refusal}
use Rattle.run_model.specs.declared.event.Stepped.{Stepped}
use Rattle.run_model.specs.declared.event.Stepped.TheVariants as stepped
use Rattle.bucket_kinds.specs.Device.{Device}
use Rattle.life_check.specs.ChainTheorem.{ChainNeverFaults}
use Rattle.filter_chain.specs.Hosting.{Ghosts, Host, Stored, budget_of, chain_of, files_of, step_answer}
use Rattle.filter_chain.specs.Led.{IsAlive, Refines}
use Rattle.filter_chain.specs.Running.{HostGoesOn, StepsToEnd, StepsOn}
use Rattle.filter_chain.specs.Safe.{IsSafe}
use Rattle.filter_chain.specs.HostViews.{HostView, Answers, host_view}
use Rattle.filter_chain.proofs.Driving.{HappenedInAny, by_event, alive_then, leads_on}
use Rattle.filter_chain.proofs.StepCounts.{goes_few, goes_more}

-- So many steps went on.
pub record IsGoing {F R : Type 0} {g : Ghosts R Stored} (device : F → Device) (old now : Host F R g) (number made : ℕ) : Type 0 where
  pub alive : IsAlive device now
  pub chain : chain_of now ≡ chain_of old
  pub goes : Refines device old now (λ b c s t. HostGoesOn b c number made s t)

pub safe_still : {F R : Type 0} {g : Ghosts R Stored} (old now : Host F R g) → chain_of now ≡ chain_of old → IsSafe old → IsSafe now
safe_still old now chain safe = subst ChainNeverFaults (sym chain) safe

module _ {F R : Type 0} {g : Ghosts R Stored} (device : F → Device) (number : ℕ) where
  module _ (old now new : Host F R g) (made : ℕ) (so : IsGoing device old now number made) (answer : Result Stepped Refusal)
      (step : HappenedInAny device now new number event.Step (step_answer answer)) where
    pub going_on : answer ≡ Ok stepped.Went → IsGoing device old new number (suc made)
    going_on went =
        let one = by_event device now new number event.Step (step_answer answer) step in
        record {
          alive = alive_then device now new (λ b c s t. Answers b c number event.Step s (step_answer answer) t) so.alive one;
          chain = (one so.alive.0 so.alive.1).chain ∙ so.chain;
          goes = leads_on device old now new (λ b c s t. HostGoesOn b c number made s t) (λ b c s t. Answers b c number event.Step s (step_answer answer) t)
              (λ b c s t. HostGoesOn b c number (suc made) s t)
              (λ b c s m t g a. goes_more b c number made s m t g (subst (λ (x : Result Stepped Refusal). Answers b c number event.Step m (step_answer x) t) went a)) so.goes one;
        }

-- As many went as the budget, so that one more does not go on.
steps_run : (budget : ℕ) (chain : List Program) (number : ℕ) (s t : HostView) (answer : Result Stepped Refusal) → StepsOn budget chain number budget s answer t
    → StepsToEnd budget chain number s answer t
steps_run budget chain number s t answer x = record {
  count = x.count;
  before = x.before;
  few = x.few;
  goes = x.goes;
  last = x.last;
  stops = λ went. (let few =
      goes_few budget chain number x.count s x.before t x.goes (subst (λ (a : Result Stepped Refusal). Answers budget chain number event.Step x.before (step_answer a) t) went x.last) in
      let all = x.stops went in absurd (omega (arith, few, all)));
}

-- So it is of a host that makes as many steps as its budget, and one more.
pub runs_whole : {F R : Type 0} {g : Ghosts R Stored} (device : F → Device) (number : ℕ) (old new : Host F R g) (answer : Result Stepped Refusal) (more : ℕ) → more ≡ budget_of old
    → Refines device old new (λ b c s t. StepsOn b c number more s answer t) → Refines device old new (λ b c s t. StepsToEnd b c number s answer t)
runs_whole device number old new answer more is h w hosts =
    let x = h w hosts in
    let d = host_view w (device (files_of old)) in
    let e = host_view x.to (device (files_of new)) in
    record {
      to = x.to;
      did = steps_run (budget_of old) (chain_of old) number d e answer (subst (λ (n : ℕ). StepsOn (budget_of old) (chain_of old) number n d answer e) is x.did);
      hosts = x.hosts;
      chain = x.chain;
      budget = x.budget;
    }

-- So it is of another word for how many.
pub steps_alike : {F R : Type 0} {g : Ghosts R Stored} (device : F → Device) (number : ℕ) (old new : Host F R g) (answer : Result Stepped Refusal) (more most : ℕ) → more ≡ most
    → Refines device old new (λ b c s t. StepsOn b c number more s answer t) → Refines device old new (λ b c s t. StepsOn b c number most s answer t)
steps_alike device number old new answer more most same h = subst (λ n. Refines device old new (λ b c s t. StepsOn b c number n s answer t)) same h
