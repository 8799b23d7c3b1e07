use Rattle.std.proofs.Common.{◌≡◌, ◌++◌, List, take, map}
use Rattle.module_lang.specs.Handlers.{IsPlaces, step_code}
use Rattle.module_lang.specs.declared.draft.Label.{Label}
use Rattle.module_lang.proofs.handler.add_code.Given as goal

abbrev pub invariant-loop-step : goal.invariant-loop-step
invariant-loop-step l =
    (labels : List Label) → IsPlaces l.places labels → l.code ≡ l.initial.code ++ map (step_code l.base labels) (take l.step-index l.steps)
