-- Steps that went, and the step at which they end, are a run.
use Rattle.std.proofs.Common.{◌≡◌, ℕ, zero, suc, Bool, true, List, [], ◌∷◌, ◌++◌, refl, subst, add-one, replicate}
use Rattle.module_code.specs.Program.{Program}
use Rattle.run_model.specs.declared.event.Event.TheVariants as event
use Rattle.run_model.specs.declared.event.Stepped.TheVariants as stepped
use Rattle.run_model.specs.Worlds.{World, Told, Answer, Step, happens, IsRun}
use Rattle.model_laws.specs.StepRuns.{GoesOn, StepsGoOn, StepsAreARun, EndedStepsAreARun}

pub steps_go_on : StepsGoOn
unfolding GoesOn
steps_go_on n budget chain told k old mid new went last = rw (add-one n) (one_more n old went) where
  one_more : (n : ℕ) (old : World) → GoesOn n budget chain k old mid → GoesOn (suc n) budget chain k old new
  one_more zero old same = (told, new, subst (λ (w : World). happens true budget chain told k event.Step w ≡ (Step stepped.Went, new)) same last, refl)
  one_more (suc n) old went = (went.0, went.1, went.2, one_more n went.1 went.3)

pub steps_are_a_run : StepsAreARun
unfolding GoesOn IsRun
steps_are_a_run zero budget chain k old new went = went
steps_are_a_run (suc n) budget chain k old new went = (true, went.0, went.1, went.2, steps_are_a_run n budget chain k went.1 new went.3)

with_last : (n : ℕ) (memory : Bool) (budget : ℕ) (chain : List Program) (told : Told) (k : ℕ) (old last new : World) (answer : Answer)
    → GoesOn n budget chain k old last → happens memory budget chain told k event.Step last ≡ (answer, new)
    → IsRun budget chain old (replicate n (k, event.Step) ++ (k, event.Step) ∷ []) (replicate n (Step stepped.Went) ++ answer ∷ []) new
unfolding GoesOn IsRun
with_last zero memory budget chain told k old last new answer went ends =
    (memory, told, new, subst (λ (w : World). happens memory budget chain told k event.Step w ≡ (answer, new)) went ends, refl)
with_last (suc n) memory budget chain told k old last new answer went ends =
    (true, went.0, went.1, went.2, with_last n memory budget chain told k went.1 last new answer went.3 ends)

pub ended_steps_are_a_run : EndedStepsAreARun
ended_steps_are_a_run memory budget chain k old new answer ended = with_last ended.count memory budget chain ended.told k old ended.last new answer ended.goes ended.ends
