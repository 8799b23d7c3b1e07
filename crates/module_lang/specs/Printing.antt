-- The text that a module is printed as.
use Rattle.std.specs.Prelude.{ℕ, ◌+◌, Bool, false, ◌==◌, if◌then◌else◌, List, [], ◌∷◌, ◌++◌, length, slice_index_or, slice_range, decimal, Option, Some, None}
use Rattle.std.specs.List.{list_any}
use Rattle.module_code.specs.Program.{Program, target, text_of_instr}
use Rattle.byte_text.specs.Quoted.{spelling}
use Rattle.module_lang.specs.Texts.{CodeLine, label, step, joined, module_texts}
use Rattle.module_code.specs.declared.instr.Instr.{Instr}

-- the name of the label before the instruction of this number: `i5` for 5
abbrev pub target_name : ℕ → List ℕ
target_name n = 105 ∷ decimal n

-- the name of an instruction's target, if it has one
abbrev pub aim : Option ℕ → List ℕ
aim None = []
aim (Some t) = target_name t

abbrev pub is_number : ℕ → Option ℕ → Bool
is_number n None = false
is_number n (Some t) = t == n

-- whether one of these instructions has the instruction of this number as its target
unfoldable pub is_target : List Instr → ℕ → Bool
is_target code n = list_any (λ i. is_number n (target i)) code

-- the label line before the instruction of this number, if that is a target
abbrev pub label_line : List Instr → ℕ → List CodeLine
label_line code n = if is_target code n then label (target_name n) ∷ [] else []

-- the text of an instruction in quotes, if it has one
abbrev pub quoted_text : List (List ℕ) → Option ℕ → List ℕ
quoted_text ts None = []
quoted_text ts (Some t) = spelling (slice_index_or ts t [])

-- the lines of these instructions of a module with these texts and this code, the first of which has number n
abbrev pub printed_code : List (List ℕ) → List Instr → ℕ → List Instr → List CodeLine
printed_code ts code n [] = []
printed_code ts code n (i ∷ is) =
    label_line code n ++ step i (aim (target i)) (quoted_text ts (text_of_instr i)) ∷ printed_code ts code (n + 1) is

-- the lines of the instructions from one number up to another
abbrev pub printed_handler : List (List ℕ) → List Instr → ℕ → ℕ → List CodeLine
printed_handler ts code from to = printed_code ts code from (slice_range code from to)

-- the text of the module with these lines: none is skipped, and none begins with a space
unfoldable pub printed : Program → List ℕ
printed m =
    joined (module_texts m (printed_handler m.texts m.code 0 m.init) (printed_handler m.texts m.code m.init m.main) (printed_handler m.texts m.code m.main (length m.code)))
