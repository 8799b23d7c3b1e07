-- The handlers of a draft: their labels, and where they end.
use Rattle.std.specs.Prelude.{◌≡◌, ℕ, ◌<◌, ◌+◌, nat_le, if◌then◌else◌, List, [], ◌∷◌, ◌++◌, length, map, Option, Some, None, unwrap_or, Result, Ok, Err}
use Rattle.std.specs.Cmp.Lexicographic.{slice_cmp}
use Rattle.std.specs.Ordering.{nat_cmp}
use Rattle.std.specs.BTreeMap.{BTreeMap, get}
use Rattle.std.specs.BTreeSet.{BTreeSet, contains}
use Rattle.module_code.specs.Args.{made}
pub use Rattle.module_lang.specs.Labels.{ends_open, has_name, is_lost, is_missing, is_named, label_of, last_goes_on, operand_label, place_from, place_of}
use Rattle.module_lang.specs.Operands.{operand_place}
use Rattle.module_code.specs.Words.{op_kinds}
use Rattle.module_code.specs.declared.arg.Arg.{Arg}
use Rattle.module_code.specs.declared.arg.Arg.TheVariants as arg
use Rattle.module_code.specs.declared.arg.Args.{Args}
use Rattle.module_lang.specs.declared.draft.HandlerLines.{HandlerLines}
use Rattle.module_lang.specs.declared.draft.Label.{Label}
use Rattle.module_lang.specs.declared.draft.DraftStep.{DraftStep}
use Rattle.module_lang.specs.declared.handler.LineFault.{LineFault}
use Rattle.module_code.specs.declared.instr.Instr.{Instr}
use Rattle.module_code.specs.declared.instr.KindTest.{KindTest}
use Rattle.module_code.specs.declared.instr.KindTest.TheVariants as kind_test
use Rattle.module_code.specs.declared.instr.PoolRef.TheVariants as pool
use Rattle.module_code.specs.declared.instr.Status.{Status}
use Rattle.module_code.specs.declared.instr.Status.TheVariants as status
use Rattle.module_code.specs.declared.instr.Value.{Value}
use Rattle.module_code.specs.declared.instr.Value.TheVariants as value
use Rattle.module_code.specs.declared.instr.VarRef.{VarRef}
use Rattle.module_code.specs.declared.instr.VarRef.TheVariants as variable
use Rattle.module_code.specs.declared.operand.Operand.{Operand}
use Rattle.module_code.specs.declared.operand.Operand.TheVariants as operand
use Rattle.module_code.specs.declared.operand.Operands.{Operands}
use Rattle.module_lang.specs.declared.refusal.AsmRefusal.{AsmRefusal}
use Rattle.module_lang.specs.declared.refusal.AsmRefusal.TheVariants.{Fault}
use Rattle.module_lang.specs.declared.refusal.Code.{Code}
use Rattle.module_lang.specs.declared.refusal.Code.TheVariants as code
use Rattle.module_code.specs.declared.word.OperandKind.{OperandKind}
use Rattle.module_code.specs.declared.word.OperandKind.TheVariants as kind
use Rattle.module_code.specs.declared.word.OperandKinds.{OperandKinds}
use Rattle.module_code.specs.declared.word.Op.{Op}

-- the map has the places of the labels
unfoldable pub IsPlaces : BTreeMap (List ℕ) ℕ → List Label → Type 0
IsPlaces m labels = (q : List ℕ) → get (slice_cmp nat_cmp) m q ≡ place_of q labels

-- each place in the map is below this number
unfoldable pub HasPlacesBelow : BTreeMap (List ℕ) ℕ → ℕ → Type 0
HasPlacesBelow m n = (q : List ℕ) (p : ℕ) → get (slice_cmp nat_cmp) m q ≡ Some p → p < n

-- the set has the names of the labels
unfoldable pub IsSeen : BTreeSet (List ℕ) → List Label → Type 0
IsSeen s labels = (q : List ℕ) → contains (slice_cmp nat_cmp) s q ≡ is_named q labels

abbrev pub fault : ℕ → Code → Option LineFault
fault n c = Some (record { line = n; code = c })

-- the first label that stands before in the module, or that none of so many instructions follows
abbrev pub label_fault : List Label → ℕ → List Label → Option LineFault
label_fault before count [] = None
label_fault before count (l ∷ ls) =
    if is_named l.name before then fault l.line code.DoubledLabel
    else (if nat_le count l.place then fault l.line code.LostLabel else label_fault (before ++ l ∷ []) count ls)

abbrev pub jump_fault : List Label → List DraftStep → Option LineFault
jump_fault labels [] = None
jump_fault labels (s ∷ ss) = if is_lost labels s.operands then fault s.line code.LostLabel else jump_fault labels ss

-- the fault of the lower line, and the first of two at one line
abbrev pub sooner : Option LineFault → Option LineFault → Option LineFault
sooner None b = b
sooner (Some x) None = Some x
sooner (Some x) (Some y) = if nat_le x.line y.line then Some x else Some y

-- the first fault of a handler, whose own line comes first; some labels stand before it in the module
unfoldable pub handler_fault : List Label → HandlerLines → Option LineFault
handler_fault before h =
    if ends_open h.steps then fault h.line code.OpenEnd
    else sooner (label_fault before (length h.steps) h.labels) (jump_fault h.labels h.steps)

-- the number of the variable or cursor that an operand names
abbrev pub operand_index : Operand → ℕ
operand_index (operand.Place (pool.Own i)) = i
operand_index (operand.Brigade b) = b
operand_index (operand.Value (value.Number i)) = i
operand_index (operand.Cursor i) = i
operand_index _ = 0

abbrev pub operand_status : Operand → Status
operand_status (operand.Ending s) = s
operand_status _ = status.Success

abbrev pub operand_kind_test : Operand → KindTest
operand_kind_test (operand.KindTest k) = k
operand_kind_test _ = kind_test.Data

-- the number that an operand is
abbrev pub operand_value : Operand → Value
operand_value (operand.Value v) = v
operand_value _ = value.Constant 0

-- the variable that an operand names
abbrev pub operand_variable : Operand → VarRef
operand_variable (operand.Brigade b) = variable.Brigade b
operand_variable o = variable.Pool (operand_index o)

-- an operand of an instruction, of a kind, that is written so: a text has this number, and so has a target
abbrev pub arg_in : OperandKind → Operand → ℕ → ℕ → Arg
arg_in kind.Nothing o x t = arg.Nothing
arg_in kind.One o x t = arg.Nothing
arg_in kind.Place o x t = arg.Place (operand_place o)
arg_in kind.Pool o x t = arg.Pool (operand_index o)
arg_in kind.Brigade o x t = arg.Brigade (operand_index o)
arg_in kind.Source o x t = arg.Source (operand_index o)
arg_in kind.Ending o x t = arg.Ending (operand_status o)
arg_in kind.Label o x t = arg.Target t
arg_in kind.Text o x t = arg.Text x
arg_in kind.Variable o x t = arg.Variable (operand_variable o)
arg_in kind.Number o x t = arg.Number (operand_index o)
arg_in kind.Value o x t = arg.Value (operand_value o)
arg_in kind.Cursor o x t = arg.Cursor (operand_index o)
arg_in kind.KindTest o x t = arg.KindTest (operand_kind_test o)

abbrev pub args_in : OperandKinds → Operands → ℕ → ℕ → Args
args_in k o x t = record {
  first = arg_in k.first o.first x t;
  second = arg_in k.second o.second x t;
  third = arg_in k.third o.third x t;
  fourth = arg_in k.fourth o.fourth x t;
}

-- the instruction that is written so, with the numbers of its text and of its target
abbrev pub op_instr : Op → Operands → ℕ → ℕ → Instr
op_instr i o x t = made i (args_in (op_kinds i) o x t)

abbrev pub instr_of : DraftStep → ℕ → Instr
instr_of s t = op_instr s.op s.operands s.text t

-- the place of the label that an instruction names, where one names none, 0
abbrev pub target_place : List Label → Option (List ℕ) → ℕ
target_place labels None = 0
target_place labels (Some name) = unwrap_or (place_of name labels) 0

unfoldable pub step_code : ℕ → List Label → DraftStep → Instr
step_code base labels s = instr_of s (base + target_place labels (label_of s.operands))

abbrev pub code_or_fault : Option LineFault → List Instr → Result (List Instr) AsmRefusal
code_or_fault None code = Ok code
code_or_fault (Some f) code = Err (Fault f.line f.code)

-- the code with the instructions of a handler behind it, unless the handler has a fault
unfoldable pub handler_resolved : List Label → HandlerLines → List Instr → Result (List Instr) AsmRefusal
handler_resolved before h code =
    code_or_fault (handler_fault before h) (code ++ map (step_code (length code) h.labels) h.steps)
