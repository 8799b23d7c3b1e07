-- Steps of one connection, one after another.
use Rattle.std.specs.Prelude.{◌≡◌, ℕ, zero, suc, ◌≤◌, List, Result, Ok}
use Rattle.module_code.specs.Program.{Program}
use Rattle.run_model.specs.declared.event.Event.TheVariants as event
use Rattle.run_model.specs.declared.event.Refusal.{Refusal}
use Rattle.run_model.specs.declared.event.Stepped.{Stepped}
use Rattle.run_model.specs.declared.event.Stepped.TheVariants as stepped
use Rattle.run_model.specs.Worlds.{Step}
use Rattle.filter_chain.specs.Hosting.{step_answer}
use Rattle.filter_chain.specs.HostViews.{HostView, Answers}

module _ (budget : ℕ) (chain : List Program) (number : ℕ) where
  -- So many steps go on.
  unfoldable pub HostGoesOn : ℕ → HostView → HostView → Type 0
  HostGoesOn zero old new = new ≡ old
  HostGoesOn (suc n) old new = (mid : HostView) × Answers budget chain number event.Step old (Step stepped.Went) mid × HostGoesOn n mid new

  -- Steps are made until one answers something else than that it went, and at most one more than `more`. The last of them answers so.
  pub record StepsOn (more : ℕ) (old : HostView) (answer : Result Stepped Refusal) (new : HostView) : Type 0 where
    pub count : ℕ
    pub before : HostView
    pub few : count ≤ more
    pub goes : HostGoesOn count old before
    pub last : Answers budget chain number event.Step before (step_answer answer) new
    pub stops : answer ≡ Ok stepped.Went → count ≡ more

  -- Steps are made until one answers something else than that it went. No more go on than the budget allows.
  pub record StepsToEnd (old : HostView) (answer : Result Stepped Refusal) (new : HostView) : Type 0 where
    pub count : ℕ
    pub before : HostView
    pub few : count ≤ budget
    pub goes : HostGoesOn count old before
    pub last : Answers budget chain number event.Step before (step_answer answer) new
    pub stops : ¬ (answer ≡ Ok stepped.Went)
