-- Lines that are taken into a draft.
use Rattle.std.specs.Prelude.{◌≡◌, All, true, false, slice_get, Option, Some, None, filter_map, ℕ, ◌+◌, ◌<◌, ◌≤◌, ◌==◌, if◌then◌else◌, List, [], ◌∷◌, ◌++◌, length, option_to_list}
use Rattle.std.specs.List.{range_with_len}
use Rattle.module_lang.specs.Drafts.{with_label, with_part, with_step, instruction_count}
use Rattle.module_code.specs.Tables.{are_declared, has_equal_brigades, has_text, misplaced, place_is_declared}
use Rattle.module_lang.specs.Operands.{IsOfKinds, operand_place}
use Rattle.byte_text.specs.Quoted.{quoted, text_of}
use Rattle.module_code.specs.Words.{op_kinds}
use Rattle.module_lang.specs.declared.draft.Draft.{Draft}
use Rattle.module_code.specs.declared.part.Part.{Part}
use Rattle.module_lang.specs.declared.draft.DraftStep.{DraftStep}
use Rattle.module_code.specs.declared.part.Part.TheVariants as part
use Rattle.module_code.specs.declared.instr.PoolRef.{PoolRef}
use Rattle.module_lang.specs.declared.lines.Line.{Line}
use Rattle.module_lang.specs.declared.lines.Line.TheVariants as line
use Rattle.module_code.specs.declared.operand.Operands.{Operands}
use Rattle.module_code.specs.declared.word.Op.{Op}
use Rattle.module_code.specs.declared.word.Word.{Word}
use Rattle.module_code.specs.declared.word.Word.TheVariants as word

-- the bytes from the first quote on
abbrev pub from_quote : List ℕ → List ℕ
from_quote [] = []
from_quote (b ∷ bs) = if b == 34 then b ∷ bs else from_quote bs

-- the text of a line, if its operands have one: it begins at the first quote
abbrev pub step_texts : Operands → List ℕ → List (List ℕ)
step_texts o bytes = if has_text o then option_to_list (text_of (quoted (from_quote bytes))) else []

abbrev pub step_entered : Draft → ℕ → List ℕ → Op → Operands → Draft
step_entered d n bytes i o =
    with_step (record d { texts = d.texts ++ step_texts o bytes }) (record { line = n; op = i; operands = o; text = length d.texts })

-- a line that begins with a word
abbrev pub item_entered : Draft → ℕ → List ℕ → Word → Operands → Draft
item_entered d n bytes word.Module o = with_part d part.Pools n
item_entered d n bytes word.Pool o = record d { pools = d.pools ++ operand_place o.second ∷ [] }
item_entered d n bytes word.Brigade o =
    record d { part = part.Brigades; brigades = d.brigades ++ operand_place o.second ∷ [] }
item_entered d n bytes word.Open o = with_part d part.Open n
item_entered d n bytes word.Init o = with_part d part.Init n
item_entered d n bytes word.Main o = with_part d part.Main n
item_entered d n bytes word.End o = with_part d part.End n
item_entered d n bytes (word.Op i) o = step_entered d n bytes i o

abbrev pub entered : Draft → ℕ → List ℕ → Line → Draft
entered d n bytes line.Skipped = d
entered d n bytes (line.Label name) = with_label d n name
entered d n bytes (line.Item w o) = item_entered d n bytes w o

-- what is true of an instruction that was taken in a handler
pub record IsDraftStep (pools brigades : List PoolRef) (p : Part) (s : DraftStep) : Type 0 where
  pub kinds : IsOfKinds (op_kinds s.op) s.operands
  pub declared : are_declared (length pools) (length brigades) s.operands ≡ true
  pub apart : has_equal_brigades s.operands ≡ false
  pub allowed : misplaced p pools brigades s.op s.operands ≡ false

-- how many instructions stand in handlers that have not begun
abbrev pub early_steps : Part → Draft → ℕ
early_steps part.Open d = length d.init.steps + length d.main.steps
early_steps part.Init d = length d.main.steps
early_steps part.Main d = 0
early_steps part.End d = 0
early_steps _ d = instruction_count d

-- the number of an instruction's text, if it has one
abbrev pub step_text : DraftStep → Option ℕ
step_text s = if has_text s.operands then Some s.text else None

-- the numbers of the texts of instructions
abbrev pub step_numbers : List DraftStep → List ℕ
step_numbers steps = filter_map step_text steps

-- what is true of each draft
pub record IsDraft (d : Draft) : Type 0 where
  pub count : instruction_count d ≤ 1024
  pub pools : length d.pools ≤ 8
  pub brigades : length d.brigades ≤ 8
  pub parents : (k : ℕ) (q : PoolRef) → slice_get d.pools k ≡ Some q → place_is_declared k q ≡ true
  pub homes : (k : ℕ) (q : PoolRef) → slice_get d.brigades k ≡ Some q → place_is_declared (length d.pools) q ≡ true
  pub texts : step_numbers d.open.steps ++ (step_numbers d.init.steps ++ step_numbers d.main.steps) ≡ range_with_len 0 (length d.texts)
  pub few : length d.texts ≤ 64
  pub short : All (λ t. length t ≤ 255) d.texts
  pub bytes : All (λ t. All (λ b. b < 256) t) d.texts
  pub none : early_steps d.part d ≡ 0
  pub opening : All (IsDraftStep d.pools d.brigades part.Open) d.open.steps
  pub init : All (IsDraftStep d.pools d.brigades part.Init) d.init.steps
  pub main : All (IsDraftStep d.pools d.brigades part.Main) d.main.steps
