-- What a line says, and whether it may say so there. The tests of a line stand in the order of their codes.
pub use Rattle.module_code.specs.Tables.{any_touches_req, are_declared, has_equal_brigades, has_long_text, has_main_only, has_text, is_declared, is_due, is_handler, is_long_text, is_main}
pub use Rattle.module_code.specs.Tables.{is_main_only, is_next, is_open, is_main_word, is_text_operand, misplaced, place_is_declared, same_brigade, touches_req, under_req}
pub use Rattle.module_lang.specs.Drafts.{instruction_count}
use Rattle.std.specs.Prelude.{ℕ, Bool, ◌&&◌, ◌||◌, not, nat_lt, ◌==◌, if◌then◌else◌, List, length, Option, Some, None, Result, Ok, Err}
use Rattle.byte_text.specs.Bytes.{all_printable, begins, tail, token, after_token, unindented}
use Rattle.module_lang.specs.Codes.{◌>>=◌, unless}
use Rattle.module_lang.specs.Entries.{entered}
use Rattle.module_code.specs.Names.{name_of}
use Rattle.module_lang.specs.Operands.{operands_at}
use Rattle.module_code.specs.Words.{word_at, word_kinds}
use Rattle.module_lang.specs.declared.draft.Draft.{Draft}
use Rattle.module_lang.specs.declared.lines.Line.{Line}
use Rattle.module_lang.specs.declared.lines.Line.TheVariants as line
use Rattle.module_code.specs.declared.operand.Operands.{Operands}
use Rattle.module_lang.specs.declared.refusal.AsmRefusal.{AsmRefusal}
use Rattle.module_lang.specs.declared.refusal.AsmRefusal.TheVariants.{Fault}
use Rattle.module_lang.specs.declared.refusal.Code.{Code}
use Rattle.module_lang.specs.declared.refusal.Code.TheVariants as code
use Rattle.module_code.specs.declared.word.Op.{Op}
use Rattle.module_code.specs.declared.word.Word.{Word}
use Rattle.module_code.specs.declared.word.Word.TheVariants as word

abbrev pub is_misplaced : Draft → Op → Operands → Bool
is_misplaced d i o = misplaced d.part d.pools d.brigades i o

-- one more instruction with these operands is not too many
abbrev pub has_room : Draft → Operands → Bool
has_room d o = nat_lt (instruction_count d) 1024 && (not (has_text o) || nat_lt (length d.texts) 64)

abbrev pub declaration_judged : ℕ → ℕ → Operands → Result (Unit {0}) Code
declaration_judged count pools o = do
  _ ← unless (not (is_next count o.first)) code.WrongOperands
  unless (not (is_declared pools 0 o.second)) code.Undeclared

abbrev pub op_judged : Draft → Op → Operands → Result (Unit {0}) Code
op_judged d i o = do
  _ ← unless (has_equal_brigades o) code.WrongOperands
  _ ← unless (has_long_text o) code.FaultyText
  _ ← unless (not (are_declared (length d.pools) (length d.brigades) o)) code.Undeclared
  _ ← unless (is_misplaced d i o) code.Misplaced
  unless (not (has_room d o)) code.TooMany

-- what is wrong with a line whose words are right
unfoldable pub judged : Draft → Word → Operands → Result (Unit {0}) Code
judged d word.Pool o = declaration_judged (length d.pools) (length d.pools) o
judged d word.Brigade o = declaration_judged (length d.brigades) (length d.pools) o
judged d (word.Op i) o = op_judged d i o
judged d word.Module o = Ok tt
judged d word.Open o = Ok tt
judged d word.Init o = Ok tt
judged d word.Main o = Ok tt
judged d word.End o = Ok tt

abbrev pub or_no_label : Option (List ℕ) → Result Line Code
or_no_label None = Err code.WrongOperands
or_no_label (Some name) = Ok (line.Label name)

-- a label line, from its colon on
abbrev pub label_read : Draft → List ℕ → Result Line Code
label_read d name = do
  _ ← unless (not (is_handler d.part)) code.NotDue
  or_no_label (name_of name)

abbrev pub or_unknown : Option Word → Result Word Code
or_unknown None = Err code.UnknownWord
or_unknown (Some w) = Ok w

abbrev pub known_word : List ℕ → Result Word Code
known_word t = or_unknown (word_at t)

-- a line that begins with a word
unfoldable pub item_read : Draft → List ℕ → Result Line Code
item_read d bytes = do
  w ← known_word (token bytes)
  _ ← unless (not (is_due d.part w)) code.NotDue
  o ← operands_at (word_kinds w) (after_token bytes)
  _ ← judged d w o
  Ok (line.Item w o)

-- an empty line or a comment, a label line, or a line that begins with a word; without the spaces before it
abbrev pub unindented_read : Draft → List ℕ → Result Line Code
unindented_read d bytes =
    if (length bytes == 0) || begins 35 bytes then Ok line.Skipped
    else (if begins 58 bytes then label_read d (tail bytes) else item_read d bytes)

-- what a line says where these lines came before it, or the lowest code of those that fit it
unfoldable pub line_read : Draft → List ℕ → Result Line Code
line_read d l = if not (all_printable l) then Err code.BadByte else unindented_read d (unindented l)

abbrev pub taken : Draft → ℕ → List ℕ → Result Line Code → Result Draft AsmRefusal
taken d n bytes (Ok l) = Ok (entered d n bytes l)
taken d n bytes (Err c) = Err (Fault n c)

-- the next line, which has this number
unfoldable pub line_taken : Draft → ℕ → List ℕ → Result Draft AsmRefusal
line_taken d n bytes = taken d n bytes (line_read d bytes)
