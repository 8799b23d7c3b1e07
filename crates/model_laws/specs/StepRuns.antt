-- Steps of one connection in a world: steps that went, one after another, and the steps of a call to its end, are runs.
use Rattle.std.specs.Prelude.{◌≡◌, ◌≢◌, ℕ, zero, suc, ◌+◌, Bool, true, List, [], ◌∷◌, ◌++◌, replicate}
use Rattle.module_code.specs.Program.{Program}
use Rattle.run_model.specs.declared.event.Event.TheVariants as event
use Rattle.run_model.specs.declared.event.Stepped.TheVariants as stepped
use Rattle.run_model.specs.Worlds.{World, Told, Answer, Step, happens, IsRun}

-- Each of these n steps of the connection k goes on.
unfoldable pub GoesOn : ℕ → ℕ → List Program → ℕ → World → World → Type 0
GoesOn zero budget chain k old new = new ≡ old
GoesOn (suc n) budget chain k old new = (told : Told) × (mid : World) × (happens true budget chain told k event.Step old ≡ (Step stepped.Went, mid)) × GoesOn n budget chain k mid new

-- Steps are made until one answers something else than that it went; only that one may find no memory.
pub record EndsRun (memory : Bool) (budget : ℕ) (chain : List Program) (k : ℕ) (old : World) (answer : Answer) (new : World) : Type 0 where
  pub count : ℕ
  pub told : Told
  pub last : World
  pub goes : GoesOn count budget chain k old last
  pub ends : happens memory budget chain told k event.Step last ≡ (answer, new)
  pub stops : answer ≢ Step stepped.Went

-- Steps that went go on by one more that went.
abbrev pub StepsGoOn : Type 0
StepsGoOn = (n budget : ℕ) (chain : List Program) (told : Told) (k : ℕ) (old mid new : World)
    → GoesOn n budget chain k old mid → happens true budget chain told k event.Step mid ≡ (Step stepped.Went, new) → GoesOn (n + 1) budget chain k old new

-- Steps that went are a run, and so are they with the step at which they end.
abbrev pub StepsAreARun : Type 0
StepsAreARun = (n budget : ℕ) (chain : List Program) (k : ℕ) (old new : World)
    → GoesOn n budget chain k old new → IsRun budget chain old (replicate n (k, event.Step)) (replicate n (Step stepped.Went)) new

abbrev pub EndedStepsAreARun : Type 0
EndedStepsAreARun = (memory : Bool) (budget : ℕ) (chain : List Program) (k : ℕ) (old new : World) (answer : Answer) → (ended : EndsRun memory budget chain k old answer new)
    → IsRun budget chain old (replicate ended.count (k, event.Step) ++ (k, event.Step) ∷ []) (replicate ended.count (Step stepped.Went) ++ answer ∷ []) new
