-- The labels of a handler, which of them an instruction names, and whether the handler's code may run past its end.
use Rattle.std.specs.Prelude.{ℕ, ◌-◌, Bool, true, false, not, nat_eq, if◌then◌else◌, List, [], ◌∷◌, length, slice_get, Option, Some, None, is_some}
use Rattle.std.specs.Cmp.Lexicographic.{pointwise}
use Rattle.std.specs.List.{list_any}
use Rattle.module_code.specs.Args.{first_some}
use Rattle.module_code.specs.Words.{op_goes_on}
use Rattle.module_lang.specs.declared.draft.Label.{Label}
use Rattle.module_lang.specs.declared.draft.DraftStep.{DraftStep}
use Rattle.module_code.specs.declared.operand.Operand.{Operand}
use Rattle.module_code.specs.declared.operand.Operand.TheVariants as operand
use Rattle.module_code.specs.declared.operand.Operands.{Operands}

abbrev pub has_name : List ℕ → Label → Bool
has_name name l = pointwise nat_eq l.name name

-- where the last label of this name stands
abbrev pub place_from : Option ℕ → List ℕ → List Label → Option ℕ
place_from found name [] = found
place_from found name (l ∷ ls) = place_from (if has_name name l then Some l.place else found) name ls

unfoldable pub place_of : List ℕ → List Label → Option ℕ
place_of name labels = place_from None name labels

abbrev pub is_named : List ℕ → List Label → Bool
is_named name labels = list_any (has_name name) labels

abbrev pub operand_label : Operand → Option (List ℕ)
operand_label (operand.Label name) = Some name
operand_label _ = None

-- the label that an instruction names
abbrev pub label_of : Operands → Option (List ℕ)
label_of o =
    first_some (operand_label o.first) (operand_label o.second) (operand_label o.third) (operand_label o.fourth)

abbrev pub is_missing : List Label → Option (List ℕ) → Bool
is_missing labels None = false
is_missing labels (Some name) = not (is_some (place_of name labels))

-- the instruction names a label, and none of these has its name
abbrev pub is_lost : List Label → Operands → Bool
is_lost labels o = is_missing labels (label_of o)

abbrev pub last_goes_on : Option DraftStep → Bool
last_goes_on None = true
last_goes_on (Some s) = op_goes_on s.op

-- there is no instruction, or the last goes on
abbrev pub ends_open : List DraftStep → Bool
ends_open steps = last_goes_on (slice_get steps (length steps - 1))
