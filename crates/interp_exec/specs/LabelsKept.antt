-- What is kept of what a clear handed on.
use Rattle.std.specs.Prelude.{◌≡◌, ℕ, Bool, true, false, List}
use Rattle.std.specs.List.{list_all}
use Rattle.run_model.specs.declared.payload.Payload.{Payload}
use Rattle.run_model.specs.declared.payload.Payload.TheVariants.{Label, FileRef, Brigade}

-- whether a payload is a label, which ran
abbrev pub is_run : Payload → Bool
is_run (Label text) = true
is_run (FileRef file) = false
is_run (Brigade name) = false

-- All payloads are labels.
abbrev pub AreLabels : List (ℕ × Payload) → Type 0
AreLabels xs = list_all (λ x. is_run x.1) xs ≡ true
