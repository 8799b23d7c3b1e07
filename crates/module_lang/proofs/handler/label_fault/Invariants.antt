use Rattle.std.proofs.Common.{◌≡◌, List, ◌<◌, ◌++◌, take, drop}
use Rattle.std.specs.Prelude.{All}
use Rattle.module_lang.specs.Handlers.{IsSeen, label_fault}
use Rattle.module_lang.specs.declared.draft.Label.{Label}
use Rattle.module_lang.proofs.handler.label_fault.Given as goal

abbrev pub invariant-loop-label : goal.invariant-loop-label
invariant-loop-label l =
    All (λ x. x.place < l.count) (take l.label-index l.labels)
    × ((before : List Label) → IsSeen l.initial.seen before
    → IsSeen l.seen (before ++ take l.label-index l.labels)
    × (label_fault (before ++ take l.label-index l.labels) l.count (drop l.label-index l.labels) ≡ label_fault before l.count l.labels))
