-- What a module text is read as.
use Rattle.std.specs.Prelude.{ℕ, ◌+◌, Bool, ◌||◌, not, nat_lt, ◌==◌, if◌then◌else◌, List, [], ◌∷◌, ◌++◌, length, take, Result, Ok, Err}
use Rattle.module_lang.specs.Codes.{◌>>=◌}
use Rattle.module_lang.specs.Drafts.{empty_draft}
use Rattle.module_lang.specs.Lines.{line_taken}
use Rattle.module_lang.specs.Handlers.{handler_resolved}
use Rattle.module_code.specs.Program.{Program}
pub use Rattle.module_code.specs.Tables.{is_end}
use Rattle.module_lang.specs.declared.draft.Draft.{Draft}
use Rattle.module_code.specs.declared.part.Part.{Part}
use Rattle.module_lang.specs.declared.refusal.AsmRefusal.{AsmRefusal}
use Rattle.module_lang.specs.declared.refusal.AsmRefusal.TheVariants.{Fault}
use Rattle.module_lang.specs.declared.refusal.Code.TheVariants as code

-- Nothing may follow the last LF, and the last line must have been `end`.
unfoldable pub lines_ended : Bool → Part → ℕ → List ℕ → Result (Unit {0}) AsmRefusal
lines_ended long p n rest =
    if long || not (length rest == 0) then Err (Fault n code.BadByte)
    else (if not (is_end p) then Err (Fault n code.NotDue) else Ok tt)

-- the lines of a text, where line n has begun with these bytes; more follows where the text is long
abbrev pub lines_read : Bool → Draft → ℕ → List ℕ → List ℕ → Result Draft AsmRefusal
lines_read long d n line [] = lines_ended long d.part n line >>= λ _. Ok d
lines_read long d n line (b ∷ bs) =
    if b == 10 then (line_taken d n line >>= λ next. lines_read long next (n + 1) [] bs)
    else lines_read long d n (line ++ b ∷ []) bs

-- a text has at most 1048576 bytes: the line in which the next byte stands is faulty
unfoldable pub draft_read : List ℕ → Result Draft AsmRefusal
draft_read text = lines_read (nat_lt 1048576 (length text)) empty_draft 1 [] (take 1048576 text)

-- the module of a draft, unless a handler has a fault
unfoldable pub program_of : Draft → Result Program AsmRefusal
program_of d = do
  first ← handler_resolved [] d.open []
  second ← handler_resolved d.open.labels d.init first
  third ← handler_resolved (d.open.labels ++ d.init.labels) d.main second
  Ok (record { pools = d.pools; brigades = d.brigades; texts = d.texts; code = third; init = length first; main = length second })

-- the module of a text, or its first faulty line with the lowest code that fits it
unfoldable pub assembling : List ℕ → Result Program AsmRefusal
assembling text = draft_read text >>= λ d. program_of d
