-- A place that the map has is below 1024, and so is 0.
use Rattle.std.proofs.Common.{◌≡◌, ℕ, ◌<◌, Option, Some, None, refl, arith, sym, ◌∙◌}
use Rattle.std.specs.Prelude.{unwrap_or}
use Rattle.module_lang.specs.Handlers.{HasPlacesBelow}
use Rattle.module_lang.proofs.handler.target_place.Goals as goal

or_zero : (o : Option ℕ) → ((p : ℕ) → o ≡ Some p → p < 1024) → unwrap_or o 0 < 1024
or_zero None h = omega arith
or_zero (Some p) h = h p refl

pub returns-in-Some-clause-below : goal.returns-in-Some-clause-below
unfolding HasPlacesBelow
returns-in-Some-clause-below c =
    rw c.unwrap_or.ensures (or_zero c.place_at.result (λ p e. c.requires c.in-Some.name p (sym c.place_at.ensures.found ∙ e)))
