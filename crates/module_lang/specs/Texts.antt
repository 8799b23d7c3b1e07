-- Module texts as they are written: the grammar.
use Rattle.std.specs.Prelude.{◌≡◌, ◌≢◌, ℕ, ◌+◌, ◌<◌, ◌≤◌, Bool, true, ◌||◌, ◌==◌, if◌then◌else◌, List, [], ◌∷◌, ◌++◌, length, map, codes, decimal, All, IfSome, ◌⊎◌}
use Rattle.module_code.specs.Args.{args, op_of}
use Rattle.byte_text.specs.Bytes.{all_printable, begins, unindented}
use Rattle.module_code.specs.Names.{is_name}
use Rattle.module_code.specs.Program.{IsModule, Program, target, text_at, text_of_instr}
use Rattle.byte_text.specs.QuotedTexts.{Spells}
use Rattle.module_code.specs.Words.{kind_test_text, op_text}
use Rattle.module_code.specs.declared.arg.Arg.{Arg}
use Rattle.module_code.specs.declared.arg.Arg.TheVariants as arg
use Rattle.module_code.specs.declared.arg.Args.{Args}
use Rattle.module_code.specs.declared.instr.Instr.{Instr}
use Rattle.module_code.specs.declared.instr.PoolRef.{PoolRef}
use Rattle.module_code.specs.declared.instr.PoolRef.TheVariants as pool
use Rattle.module_code.specs.declared.instr.Value.{Value}
use Rattle.module_code.specs.declared.instr.Value.TheVariants as value
use Rattle.module_code.specs.declared.instr.VarRef.{VarRef}
use Rattle.module_code.specs.declared.instr.VarRef.TheVariants as variable
use Rattle.module_code.specs.declared.instr.Status.{Status}
use Rattle.module_code.specs.declared.instr.Status.TheVariants as status

-- `conn`, `req`, and `p0` to `p7`
abbrev pub place_text : PoolRef → List ℕ
place_text pool.Conn = codes "conn"
place_text pool.Req = codes "req"
place_text (pool.Own i) = 112 ∷ (48 + i) ∷ []

-- `b0` to `b7`, and `in` for 8
abbrev pub own_text : ℕ → List ℕ
own_text b = 98 ∷ (48 + b) ∷ []

abbrev pub brigade_text : ℕ → List ℕ
brigade_text b = if b == 8 then codes "in" else own_text b

-- `p0` to `p7` or `b0` to `b7`
abbrev pub variable_text : VarRef → List ℕ
variable_text (variable.Pool q) = place_text (pool.Own q)
variable_text (variable.Brigade b) = own_text b

-- `n0` to `n7`
abbrev pub number_text : ℕ → List ℕ
number_text n = 110 ∷ (48 + n) ∷ []

-- `n0` to `n7`, or the decimal digits of a constant
abbrev pub value_text : Value → List ℕ
value_text (value.Number n) = number_text n
value_text (value.Constant k) = decimal k

-- `c0` to `c7`
abbrev pub cursor_text : ℕ → List ℕ
cursor_text c = 99 ∷ (48 + c) ∷ []

abbrev pub status_text : Status → List ℕ
status_text status.Success = codes "ok"
status_text status.Fail = codes "fail"

-- one space before each operand
abbrev pub operands_text : List (List ℕ) → List ℕ
operands_text [] = []
operands_text (o ∷ os) = 32 ∷ (o ++ operands_text os)

abbrev pub line_text : List ℕ → List (List ℕ) → List ℕ
line_text word os = word ++ operands_text os

-- an operand, where a target has this name and a text is spelled so
abbrev pub arg_texts : Arg → List ℕ → List ℕ → List (List ℕ)
arg_texts arg.Nothing n s = []
arg_texts (arg.Place p) n s = place_text p ∷ []
arg_texts (arg.Pool q) n s = place_text (pool.Own q) ∷ []
arg_texts (arg.Brigade b) n s = own_text b ∷ []
arg_texts (arg.Source b) n s = brigade_text b ∷ []
arg_texts (arg.Ending e) n s = status_text e ∷ []
arg_texts (arg.Target t) n s = n ∷ []
arg_texts (arg.Text t) n s = s ∷ []
arg_texts (arg.Variable v) n s = variable_text v ∷ []
arg_texts (arg.Number m) n s = number_text m ∷ []
arg_texts (arg.Value x) n s = value_text x ∷ []
arg_texts (arg.Cursor c) n s = cursor_text c ∷ []
arg_texts (arg.KindTest k) n s = kind_test_text k ∷ []

-- operands, where a target has this name and a text is spelled so
abbrev pub args_texts : Args → List ℕ → List ℕ → List (List ℕ)
args_texts a n s = arg_texts a.first n s ++ (arg_texts a.second n s ++ (arg_texts a.third n s ++ arg_texts a.fourth n s))

-- the operands of an instruction, where its target has this name and its text is spelled so
abbrev pub operand_texts : Instr → List ℕ → List ℕ → List (List ℕ)
operand_texts i n s = args_texts (args i) n s

-- the word of an instruction
abbrev pub instr_word : Instr → List ℕ
instr_word i = op_text (op_of i)

-- a line of code: a label, or an instruction, the name of its target, and its text as it is spelled
pub data CodeLine : Type 0 where
  label : List ℕ → CodeLine
  step : Instr → List ℕ → List ℕ → CodeLine

abbrev pub code_text : CodeLine → List ℕ
code_text (label name) = 58 ∷ name
code_text (step i name s) = line_text (instr_word i) (operand_texts i name s)

-- the instructions of lines of code
abbrev pub instrs : List CodeLine → List Instr
instrs [] = []
instrs (label name ∷ ls) = instrs ls
instrs (step i name s ∷ ls) = i ∷ instrs ls

-- the labels of lines of code, each with the number of the instruction that follows, where the first has number n
abbrev pub labels_from : ℕ → List CodeLine → List (List ℕ × ℕ)
labels_from n [] = []
labels_from n (label name ∷ ls) = (name, n) ∷ labels_from n ls
labels_from n (step i name s ∷ ls) = labels_from (n + 1) ls

-- a label of this name stands before the instruction of this number
abbrev pub IsLabel : List ℕ → ℕ → List (List ℕ × ℕ) → Type 0
IsLabel name t [] = ⊥
IsLabel name t (l ∷ ls) = ((l.0 ≡ name) × (l.1 ≡ t)) ⊎ IsLabel name t ls

-- each instruction's target has a label of the name that the instruction names
abbrev pub IsAimed : List (List ℕ × ℕ) → List CodeLine → Type 0
IsAimed labels [] = Unit {0}
IsAimed labels (label name ∷ ls) = IsAimed labels ls
IsAimed labels (step i name s ∷ ls) = IfSome (target i) (λ t. IsLabel name t labels) × IsAimed labels ls

-- each instruction's text is spelled where the instruction stands
abbrev pub AreSpelled : Program → List CodeLine → Type 0
AreSpelled p [] = Unit {0}
AreSpelled p (label name ∷ ls) = AreSpelled p ls
AreSpelled p (step i name s ∷ ls) = IfSome (text_of_instr i) (λ t. Spells s (text_at p t)) × AreSpelled p ls

-- the labels have names, and an instruction below this number follows each
abbrev pub HasLabelsBelow : ℕ → List (List ℕ × ℕ) → Type 0
HasLabelsBelow to [] = Unit {0}
HasLabelsBelow to (l ∷ ls) = (is_name l.0 ≡ true) × (l.1 < to) × HasLabelsBelow to ls

-- no label has this name
abbrev pub IsApart : List ℕ → List (List ℕ × ℕ) → Type 0
IsApart name [] = Unit {0}
IsApart name (l ∷ ls) = (name ≢ l.0) × IsApart name ls

-- no two labels have one name
abbrev pub AreDistinct : List (List ℕ × ℕ) → Type 0
AreDistinct [] = Unit {0}
AreDistinct (l ∷ ls) = IsApart l.0 ls × AreDistinct ls

-- the lines of a handler of a module, whose first instruction has number n
pub record IsCode (p : Program) (n : ℕ) (code : List CodeLine) : Type 0 where
  pub labels : HasLabelsBelow (n + length (instrs code)) (labels_from n code)
  pub aimed : IsAimed (labels_from n code) code
  pub texts : AreSpelled p code

abbrev pub pool_texts : ℕ → List PoolRef → List (List ℕ)
pool_texts k [] = []
pool_texts k (p ∷ ps) = line_text (codes "pool") (place_text (pool.Own k) ∷ place_text p ∷ []) ∷ pool_texts (k + 1) ps

abbrev pub brigade_texts : ℕ → List PoolRef → List (List ℕ)
brigade_texts k [] = []
brigade_texts k (p ∷ ps) = line_text (codes "brigade") (own_text k ∷ place_text p ∷ []) ∷ brigade_texts (k + 1) ps

-- the declarations in order, then the three handlers
abbrev pub module_texts : Program → List CodeLine → List CodeLine → List CodeLine → List (List ℕ)
module_texts m first second third =
    codes "module 1" ∷ (pool_texts 0 m.pools ++ (brigade_texts 0 m.brigades
    ++ (codes "open" ∷ (map code_text first
    ++ (codes "init" ∷ (map code_text second
    ++ (codes "main" ∷ (map code_text third ++ codes "end" ∷ []))))))))

abbrev pub is_skipped : List ℕ → Bool
is_skipped l = (length l == 0) || begins 35 l

-- the lines that say something, without the spaces before them
abbrev pub statements : List (List ℕ) → List (List ℕ)
statements [] = []
statements (l ∷ ls) = if is_skipped (unindented l) then statements ls else unindented l ∷ statements ls

-- lines end with LF
abbrev pub joined : List (List ℕ) → List ℕ
joined [] = []
joined (l ∷ ls) = l ++ 10 ∷ joined ls

-- a text of a module
pub record IsTextOf (text : List ℕ) (m : Program) : Type 0 where
  pub sound : IsModule m
  pub lines : List (List ℕ)
  pub whole : text ≡ joined lines
  pub small : length text ≤ 1048576
  pub clean : All (λ l. all_printable l ≡ true) lines
  pub first : List CodeLine
  pub second : List CodeLine
  pub third : List CodeLine
  pub spelled : statements lines ≡ module_texts m first second third
  pub code : m.code ≡ instrs first ++ instrs second ++ instrs third
  pub inits : m.init ≡ length (instrs first)
  pub mains : m.main ≡ m.init + length (instrs second)
  pub opening : IsCode m 0 first
  pub initial : IsCode m m.init second
  pub serving : IsCode m m.main third
  pub distinct : AreDistinct (labels_from 0 first ++ labels_from m.init second ++ labels_from m.main third)
