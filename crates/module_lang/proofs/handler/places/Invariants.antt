use Rattle.std.proofs.Common.{take}
use Rattle.module_lang.specs.Handlers.{IsPlaces}
use Rattle.module_lang.proofs.handler.places.Given as goal

abbrev pub invariant-loop-label : goal.invariant-loop-label
invariant-loop-label l = IsPlaces l.places (take l.label-index l.labels)
