-- What a script says before its commands, line by line: the texts of its modules, each with a certificate text where it has one, and the
-- lines `budget` and `checked`.
use Rattle.std.specs.Prelude.{◌≡◌, ℕ, ◌+◌, ◌-◌, Bool, true, ◌&&◌, nat_lt, nat_eq, ◌==◌, if◌then◌else◌, List, [], ◌∷◌, ◌++◌, length, map, codes, Option, Some, None, Result, Ok, Err, MatchBool}
use Rattle.std.specs.Cmp.Lexicographic.{pointwise}
use Rattle.byte_text.specs.Bytes.{token, unindented}
use Rattle.module_lang.specs.Codes.{code_number}
use Rattle.module_lang.specs.FirstFault.{IsReadAs}
use Rattle.module_code.specs.Program.{Program}
use Rattle.byte_text.specs.TextLines.{RawLine}
use Rattle.module_lang.specs.declared.refusal.AsmRefusal.{AsmRefusal}
use Rattle.module_lang.specs.declared.refusal.AsmRefusal.TheVariants as asm
use Rattle.life_cert.specs.Codes.{code_number as cert_code_number}
use Rattle.life_cert.specs.Reading.{IsCertText, IsReported}
use Rattle.life_cert.specs.declared.refusal.CertRefusal.{CertRefusal}
use Rattle.life_cert.specs.declared.refusal.CertRefusal.TheVariants as cert
use Rattle.script_text.specs.declared.part.ScriptModule.{ScriptModule}
use Rattle.script_text.specs.declared.texts.HeadPlace.{HeadPlace}
use Rattle.script_text.specs.declared.texts.HeadPlace.TheVariants as place
use Rattle.script_text.specs.declared.texts.LineTaken.{LineTaken}
use Rattle.script_text.specs.declared.texts.LineTaken.TheVariants as taken
use Rattle.script_text.specs.declared.texts.Texts.{Texts}
use Rattle.script_text.specs.Lines.{is_end, begins_cert}
use Rattle.script_text.specs.Refusals.{cert_line}
use Rattle.script_text.specs.Replies.{asm_line, script_line}
use Rattle.script_text.specs.Scripts.{budget_at, is_checked}
use Rattle.life_check.specs.declared.cert.Cert.{Cert}
use Rattle.life_check.specs.Seen.{seen_cert}

-- a module, and the certificate that stands behind it
pub record ScriptPart : Type 0 where
  pub code : Program
  pub cert : Option Cert

-- What was read so far. place: what the next line may be. text: so far, of the text that is being read; before: how many lines stand
-- before it.
pub record ScriptHead : Type 0 where
  pub parts : List ScriptPart
  pub budget : ℕ
  pub place : HeadPlace
  pub text : List ℕ
  pub before : ℕ

abbrev pub seen_part : ScriptModule → ScriptPart
seen_part p = record { code = p.code; cert = p.cert }

abbrev pub head_of : Texts → ScriptHead
head_of t = record { parts = map seen_part t.parts.items; budget = t.budget; place = t.place; text = t.text.items; before = t.before }

-- Nothing was read: a module text is due.
abbrev pub no_head : ScriptHead
no_head = record { parts = []; budget = 1000000; place = place.InModule; text = []; before = 0 }

-- How a line is taken: what follows, what is told, and what is read by then.
abbrev pub LineMoves : Type 1
LineMoves = LineTaken → List ℕ → ScriptHead → Type 0

-- more is to come
abbrev pub more : ScriptHead → LineMoves
more h t out new = (t ≡ taken.More) × (out ≡ []) × (new ≡ h)

-- a fault is told, which ends the play
abbrev pub over : List ℕ → LineMoves
over line t out new = (t ≡ taken.Over) × (out ≡ line)

-- A module text ends: it is a module by the grammar, or has a first faulty line.

abbrev pub IsModuleRead : Result Program AsmRefusal → ScriptHead → LineMoves
IsModuleRead (Ok p) h t out new = more (record h { parts = h.parts ++ (record { code = p; cert = None }) ∷ []; text = []; place = place.BehindModule }) t out new
IsModuleRead (Err (asm.Fault n c)) h t out new = over (asm_line (h.before + n) (code_number c)) t out new
IsModuleRead (Err asm.NoMemory) h t out new = ⊥

abbrev pub EndsModule : ScriptHead → LineMoves
EndsModule h t out new = (m : Result Program AsmRefusal) × IsReadAs h.text m × IsModuleRead m h t out new

-- A certificate text ends. It is that of the last module.

unfoldable pub with_cert : Cert → List ScriptPart → List ScriptPart
with_cert c [] = []
with_cert c (x ∷ []) = (record x { cert = Some c }) ∷ []
with_cert c (x ∷ (y ∷ ys)) = x ∷ with_cert c (y ∷ ys)

abbrev pub ReadsCertText : List ℕ → Result Cert CertRefusal → Type 0
ReadsCertText text (Ok c) = IsCertText text c.version c.slim (seen_cert c)
ReadsCertText text (Err r) = IsReported text r

abbrev pub IsCertRead : Result Cert CertRefusal → ScriptHead → LineMoves
IsCertRead (Ok c) h t out new = more (record h { parts = with_cert c h.parts; text = []; place = place.BehindCert }) t out new
IsCertRead (Err (cert.Fault n c)) h t out new = over (cert_line (h.before + n) (cert_code_number c)) t out new
IsCertRead (Err cert.NoMemory) h t out new = ⊥

abbrev pub EndsCert : ScriptHead → LineMoves
EndsCert h t out new = (c : Result Cert CertRefusal) × ReadsCertText h.text c × IsCertRead c h t out new

-- Lines.

abbrev pub line_bytes : RawLine → List ℕ
line_bytes l = if l.ended then l.text ++ 10 ∷ [] else l.text

-- a line more of the text that is being read
abbrev pub with_line : RawLine → HeadPlace → ScriptHead → ScriptHead
with_line l p h = record h { text = h.text ++ line_bytes l; place = p }

abbrev pub TakesInModule : RawLine → ScriptHead → LineMoves
TakesInModule l h t out new = MatchBool (is_end l) (EndsModule (with_line l place.InModule h) t out new) (more (with_line l place.InModule h) t out new)

abbrev pub TakesInCert : RawLine → ScriptHead → LineMoves
TakesInCert l h t out new = MatchBool (is_end l) (EndsCert (with_line l place.InCert h) t out new) (more (with_line l place.InCert h) t out new)

-- an empty line or a comment
abbrev pub starts_comment : List ℕ → Bool
starts_comment [] = true
starts_comment (b ∷ bs) = b == 35

abbrev pub is_skipped : RawLine → Bool
is_skipped l = starts_comment (unindented l.text)

abbrev pub begins_module : RawLine → Bool
begins_module l = pointwise nat_eq (token (unindented l.text)) (codes "module")

-- a chain has 16 modules at most
abbrev pub goes_on : RawLine → ScriptHead → Bool
goes_on l h = nat_lt (length h.parts) 16 && begins_module l

-- behind the texts: `checked`, or the first command
abbrev pub taken_as : RawLine → LineTaken
taken_as l = if is_checked l then taken.Checked else taken.Command

abbrev pub TakesChecked : RawLine → ScriptHead → LineMoves
TakesChecked l h t out new = (t ≡ taken_as l) × (out ≡ []) × (new ≡ h)

abbrev pub TakesHeading : Option ℕ → RawLine → ScriptHead → LineMoves
TakesHeading None l h t out new = TakesChecked l h t out new
TakesHeading (Some n) l h t out new = more (record h { budget = n; place = place.BehindBudget }) t out new

-- Behind a text, a line that is skipped belongs to a further module text.
abbrev pub TakesBehind : RawLine → ScriptHead → LineMoves
TakesBehind l h t out new =
    MatchBool (is_skipped l) (more (with_line l place.BehindSkipped h) t out new)
    (MatchBool (goes_on l h) (TakesInModule l h t out new) (TakesHeading (budget_at l) l h t out new))

abbrev pub TakesBehindModule : RawLine → ScriptHead → LineMoves
TakesBehindModule l h t out new = MatchBool (begins_cert l) (TakesInCert l h t out new) (TakesBehind l h t out new)

abbrev pub TakesBehindSkipped : RawLine → ScriptHead → LineMoves
TakesBehindSkipped l h t out new =
    MatchBool (is_skipped l) (more (with_line l place.BehindSkipped h) t out new)
    (MatchBool (goes_on l h) (TakesInModule l h t out new) (over (script_line (h.before + 1)) t out new))

-- the text that follows would begin with the line of this number
abbrev pub at_line : ℕ → ScriptHead → ScriptHead
at_line number h = record h { before = number - 1 }

abbrev pub TakesLineAt : HeadPlace → ℕ → RawLine → ScriptHead → LineMoves
TakesLineAt place.InModule number l h t out new = TakesInModule l h t out new
TakesLineAt place.InCert number l h t out new = TakesInCert l h t out new
TakesLineAt place.BehindModule number l h t out new = TakesBehindModule l (at_line number h) t out new
TakesLineAt place.BehindCert number l h t out new = TakesBehind l (at_line number h) t out new
TakesLineAt place.BehindSkipped number l h t out new = TakesBehindSkipped l h t out new
TakesLineAt place.BehindBudget number l h t out new = TakesChecked l h t out new

-- A line of this number is taken so.
unfoldable pub TakesLine : ℕ → RawLine → ScriptHead → LineMoves
TakesLine number l h t out new = TakesLineAt h.place number l h t out new

-- The script ends: a text that is not at its end is told, and lines that are skipped and no module text follows.
abbrev pub EndsHeadAt : HeadPlace → ScriptHead → LineMoves
EndsHeadAt place.InModule h t out new = EndsModule h t out new
EndsHeadAt place.InCert h t out new = EndsCert h t out new
EndsHeadAt place.BehindSkipped h t out new = over (script_line (h.before + 1)) t out new
EndsHeadAt place.BehindModule h t out new = more h t out new
EndsHeadAt place.BehindCert h t out new = more h t out new
EndsHeadAt place.BehindBudget h t out new = more h t out new

unfoldable pub EndsHead : ScriptHead → LineMoves
EndsHead h t out new = EndsHeadAt h.place h t out new

-- What is told stands behind what was written before.
abbrev pub TellsMore : List ℕ → List ℕ → (List ℕ → Type 0) → Type 0
TellsMore old new P = (told : List ℕ) × (new ≡ old ++ told) × P told
