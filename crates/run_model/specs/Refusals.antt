-- The tests that refuse an event: the first that holds is told.
use Rattle.std.specs.Prelude.{Bool, if◌then◌else◌, List, [], ◌∷◌, Option, Some, None}
use Rattle.run_model.specs.declared.event.Cause.{Cause}
use Rattle.run_model.specs.declared.event.Refusal.{Refusal}
use Rattle.run_model.specs.declared.event.Refusal.TheVariants as refusal

-- Tests that refuse an event, in their order; the first that holds is told.
abbrev pub first_refusal : List (Option Refusal) → Option Refusal
first_refusal [] = None
first_refusal (None ∷ tests) = first_refusal tests
first_refusal (Some r ∷ tests) = Some r

abbrev pub refused_if : Bool → Refusal → Option Refusal
refused_if test r = if test then Some r else None

abbrev pub if_broken : Option Cause → Option Refusal
if_broken None = None
if_broken (Some k) = Some (refusal.Broken k)
