use Rattle.std.proofs.Common.{◌≡◌, List, drop}
use Rattle.module_lang.specs.Handlers.{IsPlaces, jump_fault}
use Rattle.module_lang.specs.declared.draft.Label.{Label}
use Rattle.module_lang.proofs.handler.jump_fault.Given as goal

abbrev pub invariant-loop-step : goal.invariant-loop-step
invariant-loop-step l =
    (labels : List Label) → IsPlaces l.places labels → jump_fault labels (drop l.step-index l.steps) ≡ jump_fault labels l.steps
