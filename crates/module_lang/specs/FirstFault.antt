-- Which line of a module text is the first faulty one, and by which code: `IsFirstFault`, near the end. Each code fits a
-- line by itself, whatever other codes fit it. The tables that this page names stand in Tables.antt and Words.antt; how
-- operands are read, in Operands.antt; what a line adds to the draft, in Entries.antt; and which labels there are, in
-- Labels.antt.
use Rattle.std.specs.Prelude.{◌≡◌, ℕ, ◌+◌, ◌≤◌, Bool, true, false, ◌&&◌, ◌||◌, not, nat_lt, nat_le, ◌==◌, if◌then◌else◌, List, [], ◌∷◌, ◌++◌, length, take, Option, Some, None, Result, Ok, Err, ◌⊎◌}
use Rattle.byte_text.specs.Bytes.{after_token, all_printable, begins, tail, token, unindented}
use Rattle.module_lang.specs.Codes.{code_number}
use Rattle.module_lang.specs.Drafts.{empty_draft, instruction_count}
use Rattle.module_lang.specs.Entries.{entered}
use Rattle.module_lang.specs.Labels.{ends_open, is_lost, is_named}
use Rattle.module_code.specs.Names.{is_name, name_of}
use Rattle.module_lang.specs.Operands.{operand_kind_is_text, operands_at}
use Rattle.module_code.specs.Program.{Program}
use Rattle.module_code.specs.Tables.{are_declared, has_equal_brigades, has_long_text, is_declared, is_due, is_end, is_handler, is_next, misplaced}
use Rattle.byte_text.specs.TextLines.{lines_from, rest_from}
use Rattle.module_lang.specs.Texts.{IsTextOf, is_skipped}
use Rattle.module_code.specs.Words.{op_kinds, word_at, word_kinds}
use Rattle.module_lang.specs.declared.draft.Draft.{Draft}
use Rattle.module_lang.specs.declared.draft.HandlerLines.{HandlerLines}
use Rattle.module_lang.specs.declared.draft.Label.{Label}
use Rattle.module_code.specs.declared.part.Part.{Part}
use Rattle.module_lang.specs.declared.draft.DraftStep.{DraftStep}
use Rattle.module_lang.specs.declared.lines.Line.{Line}
use Rattle.module_lang.specs.declared.lines.Line.TheVariants as line
use Rattle.module_code.specs.declared.operand.Operands.{Operands}
use Rattle.module_lang.specs.declared.refusal.AsmRefusal.{AsmRefusal}
use Rattle.module_lang.specs.declared.refusal.AsmRefusal.TheVariants.{Fault, NoMemory}
use Rattle.module_lang.specs.declared.refusal.Code.{Code}
use Rattle.module_lang.specs.declared.refusal.Code.TheVariants as code
use Rattle.module_code.specs.declared.word.Op.{Op}
use Rattle.module_code.specs.declared.word.Word.{Word}
use Rattle.module_code.specs.declared.word.Word.TheVariants as word

-- What a line is, whether or not it may stand there: empty or a comment, a label and what follows its colon, a line whose
-- first word is unknown, or a word and what follows it.
pub data Statement : Type 0 where
  nothing : Statement
  label : List ℕ → Statement
  unknown : Statement
  item : Word → List ℕ → Statement

abbrev pub item_of : Option Word → List ℕ → Statement
item_of None bytes = unknown
item_of (Some w) bytes = item w bytes

abbrev pub unindented_statement : List ℕ → Statement
unindented_statement s =
    if is_skipped s then nothing
    else (if begins 58 s then label (tail s) else item_of (word_at (token s)) (after_token s))

abbrev pub statement : List ℕ → Statement
statement line = unindented_statement (unindented line)

-- code 2: a line that is not due in this part
abbrev pub is_not_due : Part → Statement → Bool
is_not_due p (label name) = not (is_handler p)
is_not_due p (item w bytes) = not (is_due p w)
is_not_due p _ = false

-- code 3
abbrev pub is_unknown : Statement → Bool
is_unknown unknown = true
is_unknown _ = false

-- a declaration that is not the next one, or one brigade twice
abbrev pub is_out_of_turn : Draft → Word → Operands → Bool
is_out_of_turn d word.Pool o = not (is_next (length d.pools) o.first)
is_out_of_turn d word.Brigade o = not (is_next (length d.brigades) o.first)
is_out_of_turn d (word.Op i) o = has_equal_brigades o
is_out_of_turn d _ o = false

abbrev pub are_wrong : Draft → Word → Result Operands Code → Bool
are_wrong d w (Ok o) = is_out_of_turn d w o
are_wrong d w (Err code.WrongOperands) = true
are_wrong d w (Err _) = false

-- code 4: a label that is no name; operands that are not of the kinds that the word wants, or that may not stand there together
abbrev pub has_wrong_operands : Draft → Statement → Bool
has_wrong_operands d (label name) = not (is_name name)
has_wrong_operands d (item w bytes) = are_wrong d w (operands_at (word_kinds w) bytes)
has_wrong_operands d _ = false

abbrev pub is_long : Word → Operands → Bool
is_long (word.Op i) o = has_long_text o
is_long _ o = false

abbrev pub is_faulty_text : Word → Result Operands Code → Bool
is_faulty_text w (Ok o) = is_long w o
is_faulty_text w (Err code.FaultyText) = true
is_faulty_text w (Err _) = false

-- code 5: a quote where a text is due, and no text; or a text of over 255 bytes
abbrev pub has_faulty_text : Statement → Bool
has_faulty_text (item w bytes) = is_faulty_text w (operands_at (word_kinds w) bytes)
has_faulty_text _ = false

-- a variable that is not declared, or a parent pool that is not lower
abbrev pub are_undeclared : Draft → Word → Operands → Bool
are_undeclared d word.Pool o = not (is_declared (length d.pools) 0 o.second)
are_undeclared d word.Brigade o = not (is_declared (length d.pools) 0 o.second)
are_undeclared d (word.Op i) o = not (are_declared (length d.pools) (length d.brigades) o)
are_undeclared d _ o = false

abbrev pub are_misplaced : Draft → Word → Operands → Bool
are_misplaced d (word.Op i) o = misplaced d.part d.pools d.brigades i o
are_misplaced d _ o = false

-- operands that were read have a fault
abbrev pub have : (Operands → Bool) → Result Operands Code → Bool
have p (Ok o) = p o
have p (Err c) = false

-- codes 6 and 9: operands of the kinds that the word wants, one of which is undeclared, or is misplaced
abbrev pub has_operands : (Word → Operands → Bool) → Statement → Bool
has_operands p (item w bytes) = have (p w) (operands_at (word_kinds w) bytes)
has_operands p _ = false

abbrev pub takes_text : Op → Bool
takes_text i =
    operand_kind_is_text (op_kinds i).first || operand_kind_is_text (op_kinds i).second
    || operand_kind_is_text (op_kinds i).third || operand_kind_is_text (op_kinds i).fourth

-- code 11: the 1025th instruction, or the 65th text
abbrev pub is_too_many : Draft → Statement → Bool
is_too_many d (item (word.Op i) bytes) = nat_le 1024 (instruction_count d) || (takes_text i && nat_le 64 (length d.texts))
is_too_many d _ = false

-- a code fits a line, where the lines before it have left this draft
abbrev pub has_code : Draft → List ℕ → Code → Bool
has_code d line code.BadByte = not (all_printable line)
has_code d line code.NotDue = is_not_due d.part (statement line)
has_code d line code.UnknownWord = is_unknown (statement line)
has_code d line code.WrongOperands = has_wrong_operands d (statement line)
has_code d line code.FaultyText = has_faulty_text (statement line)
has_code d line code.Undeclared = has_operands (are_undeclared d) (statement line)
has_code d line code.Misplaced = has_operands (are_misplaced d) (statement line)
has_code d line code.TooMany = is_too_many d (statement line)
has_code d line _ = false

-- what a line adds to the draft; one that is faulty may add something, but it is not asked what follows such a line
abbrev pub label_line : Option (List ℕ) → Line
label_line None = line.Skipped
label_line (Some name) = line.Label name

abbrev pub item_line : Word → Result Operands Code → Line
item_line w (Ok o) = line.Item w o
item_line w (Err c) = line.Skipped

abbrev pub line_of : Statement → Line
line_of nothing = line.Skipped
line_of (label name) = label_line (name_of name)
line_of unknown = line.Skipped
line_of (item w bytes) = item_line w (operands_at (word_kinds w) bytes)

-- what a line leaves of this draft, and what lines leave, the first of which has this number
abbrev pub left : Draft → ℕ → List ℕ → Draft
left d n line = entered d n line (line_of (statement line))

abbrev pub all_left : Draft → ℕ → List (List ℕ) → Draft
all_left d n [] = d
all_left d n (l ∷ ls) = all_left (left d n l) (n + 1) ls

-- what is wrong behind the last LF: bytes stand there, or the text goes on past its limit; the line `end` is missing
abbrev pub end_has_code : Bool → Part → Code → Bool
end_has_code more p code.BadByte = more
end_has_code more p code.NotDue = not (is_end p)
end_has_code more p _ = false

-- Line m of these lines has this code, where the first is line n and the lines before it have left this draft; what stands
-- behind the last LF is a line too.
abbrev pub LinesHaveCode : Bool → Draft → ℕ → List (List ℕ) → ℕ → Code → Type 0
LinesHaveCode more d n [] m c = (m ≡ n) × (end_has_code more d.part c ≡ true)
LinesHaveCode more d n (l ∷ ls) m c =
    ((m ≡ n) × (has_code d l c ≡ true)) ⊎ LinesHaveCode more (left d n l) (n + 1) ls m c

-- a text as far as its length is allowed: its lines that end with an LF; whether more stands behind them; and what they leave
abbrev pub lines_of : List ℕ → List (List ℕ)
lines_of text = lines_from [] (take 1048576 text)

abbrev pub goes_on : List ℕ → Bool
goes_on text = nat_lt 1048576 (length text) || not (length (rest_from [] (take 1048576 text)) == 0)

abbrev pub draft_of : List ℕ → Draft
draft_of text = all_left empty_draft 1 (lines_of text)

-- line n of a text has this code, of those that the lines up to it show
abbrev pub HasLineCode : List ℕ → ℕ → Code → Type 0
HasLineCode text n c = LinesHaveCode (goes_on text) empty_draft 1 (lines_of text) n c

-- code 7: these labels before it in the module have its name; code 8: none of the handler's instructions follows it
abbrev pub label_has_code : List Label → ℕ → Label → Code → Bool
label_has_code before count l code.DoubledLabel = is_named l.name before
label_has_code before count l code.LostLabel = nat_le count l.place
label_has_code before count l _ = false

abbrev pub LabelsHaveCode : List Label → ℕ → List Label → ℕ → Code → Type 0
LabelsHaveCode before count [] m c = ⊥
LabelsHaveCode before count (l ∷ ls) m c =
    ((m ≡ l.line) × (label_has_code before count l c ≡ true)) ⊎ LabelsHaveCode (before ++ l ∷ []) count ls m c

-- code 8: an instruction names a label, and none of the handler's labels has that name
abbrev pub step_has_code : List Label → DraftStep → Code → Bool
step_has_code labels s code.LostLabel = is_lost labels s.operands
step_has_code labels s _ = false

abbrev pub StepsHaveCode : List Label → List DraftStep → ℕ → Code → Type 0
StepsHaveCode labels [] m c = ⊥
StepsHaveCode labels (s ∷ ss) m c = ((m ≡ s.line) × (step_has_code labels s c ≡ true)) ⊎ StepsHaveCode labels ss m c

-- code 10: the handler is empty, or its last instruction goes on
abbrev pub header_has_code : HandlerLines → Code → Bool
header_has_code h code.OpenEnd = ends_open h.steps
header_has_code h _ = false

-- a line of a handler has this code, where these labels stand before the handler in the module
abbrev pub HandlerHasCode : List Label → HandlerLines → ℕ → Code → Type 0
HandlerHasCode before h m c =
    ((m ≡ h.line) × (header_has_code h c ≡ true))
    ⊎ (LabelsHaveCode before (length h.steps) h.labels m c ⊎ StepsHaveCode h.labels h.steps m c)

abbrev pub DraftHasCode : Draft → ℕ → Code → Type 0
DraftHasCode d m c =
    HandlerHasCode [] d.open m c
    ⊎ (HandlerHasCode d.open.labels d.init m c ⊎ HandlerHasCode (d.open.labels ++ d.init.labels) d.main m c)

-- line n of a text has this code, of those that the whole module shows
abbrev pub HasModuleCode : List ℕ → ℕ → Code → Type 0
HasModuleCode text n c = DraftHasCode (draft_of text) n c

-- the first line with a code, and the lowest code on it
pub record IsFirst (P : ℕ → Code → Type 0) (n : ℕ) (c : Code) : Type 0 where
  pub holds : P n c
  pub line : (m : ℕ) (d : Code) → P m d → n ≤ m
  pub lowest : (d : Code) → P n d → code_number c ≤ code_number d

-- The first line with a code of its own, and its lowest; where no line has one, the same with the codes that the whole
-- module shows.
abbrev pub IsFirstFault : List ℕ → ℕ → Code → Type 0
IsFirstFault text n c =
    IsFirst (HasLineCode text) n c
    ⊎ (((m : ℕ) (d : Code) → HasLineCode text m d → ⊥) × IsFirst (HasModuleCode text) n c)

-- What a text is: a module, or a text whose first faulty line has this number and this code.
abbrev pub IsReadAs : List ℕ → Result Program AsmRefusal → Type 0
IsReadAs text (Ok p) = IsTextOf text p
IsReadAs text (Err (Fault n c)) = IsFirstFault text n c
IsReadAs text (Err NoMemory) = ⊥
