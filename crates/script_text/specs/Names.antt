-- The names of faults.
use Rattle.std.specs.Prelude.{ℕ, List, [], ◌∷◌, Option, find, nat_eq, codes}
use Rattle.std.specs.Cmp.Lexicographic.{pointwise}
use Rattle.run_model.specs.declared.fault.FaultKind.{FaultKind}
use Rattle.run_model.specs.declared.fault.FaultKind.TheVariants.{F1, F2, F3, F4, F5, F6, F7, F8, F9, F10}

abbrev pub fault_name : FaultKind → List ℕ
fault_name F1 = codes "F1"
fault_name F2 = codes "F2"
fault_name F3 = codes "F3"
fault_name F4 = codes "F4"
fault_name F5 = codes "F5"
fault_name F6 = codes "F6"
fault_name F7 = codes "F7"
fault_name F8 = codes "F8"
fault_name F9 = codes "F9"
fault_name F10 = codes "F10"

abbrev pub faults : List FaultKind
faults = F1 ∷ F2 ∷ F3 ∷ F4 ∷ F5 ∷ F6 ∷ F7 ∷ F8 ∷ F9 ∷ F10 ∷ []

-- the fault whose name is written so
unfoldable pub fault_named : List ℕ → Option FaultKind
fault_named name = find (λ k. pointwise nat_eq (fault_name k) name) faults
