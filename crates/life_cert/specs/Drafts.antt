-- What the lines so far say, and what one more line adds.
use Rattle.std.specs.Prelude.{◌≡◌, ℕ, zero, suc, Bool, true, false, if◌then◌else◌, ◌+◌, ◌^◌, ◌<◌, ◌≤◌, List, [], ◌∷◌, ◌++◌, length, slice_get, slice_index_or, codes, decimal, Option, Some, None, Result, Ok, Err, IfSome, IsSome}
use Rattle.life_state.specs.Seen.{seen_some}
use Rattle.life_state.specs.Form.{IsFormed}
use Rattle.life_state.specs.States.{State}
use Rattle.life_state.specs.declared.state.State as known
use Rattle.life_check.specs.declared.version.CertVersion.{CertVersion}
use Rattle.life_check.specs.declared.version.CertVersion.TheVariants as version
use Rattle.life_check.specs.Certificates.{Certificate}
use Rattle.life_check.specs.Seen.{seen_line}
use Rattle.life_check.specs.Versions.{is_in_range}
use Rattle.life_cert.specs.declared.draft.CertDraft.{CertDraft}
use Rattle.life_cert.specs.declared.due.Due.{Due}
use Rattle.life_cert.specs.declared.due.Due.TheVariants as due
use Rattle.life_cert.specs.declared.refusal.CertCode.{CertCode}
use Rattle.life_cert.specs.declared.refusal.CertCode.TheVariants as code
use Rattle.life_cert.specs.declared.refusal.CertRefusal.{CertRefusal}
use Rattle.life_cert.specs.declared.refusal.CertRefusal.TheVariants.{Fault, NoMemory}
use Rattle.life_cert.specs.Codes.{code_number}
use Rattle.life_cert.specs.StateText.{each, state_text}
use Rattle.life_cert.specs.StateSums.{line_sum}
use Rattle.life_cert.specs.CertText.{first_line, vars_line, head_lines, between_line, earlier, first_with, is_two, pc_line, said_by, cert_text}
use Rattle.life_cert.specs.Reading.{Before, HasCode, IsSaid, IsState, IsStateOrNone, has_number, left}

abbrev pub seen_draft : CertDraft → Certificate
seen_draft d = record {
  idle = seen_some d.idle;
  ready = seen_some d.ready;
  at = λ pc. seen_line (slice_get d.at.items pc);
  lines = length d.at.items;
}

-- the lines so far, where this one is due
unfoldable pub text_so_far : Due → CertVersion → Bool → Certificate → List ℕ
text_so_far due.Header v slim c = []
text_so_far due.Vars v slim c = first_line (is_two v) slim
text_so_far due.Code v slim c = first_line (is_two v) slim ++ vars_line v
text_so_far due.Idle v slim c = head_lines v slim
text_so_far due.Ready v slim c = head_lines v slim ++ between_line (codes "idle ") c.idle
text_so_far (due.States n) v slim c =
    (head_lines v slim ++ between_line (codes "idle ") c.idle) ++ (between_line (codes "ready ") c.ready ++ each 0 c.lines (pc_line (is_two v) c.at))
text_so_far due.Nothing v slim c = cert_text v slim c

-- how many lines for instructions there may be
abbrev pub Counts : Due → ℕ → Type 0
Counts (due.States n) lines = (lines ≡ n) × (n ≤ 1024)
Counts due.Nothing lines = lines ≤ 1024
Counts _ lines = lines ≡ 0

-- the shape is named in version 2 alone
abbrev pub Names : Due → Bool → Type 0
Names due.Vars two = two ≡ true
Names due.Code two = two ≡ true
Names _ two = Unit {0}

-- each line below a number has its sum, as far as there are sums
abbrev pub HaveSums : ℕ → List (Option known.State) → List ℕ → Type 0
HaveSums n at sums = (k : ℕ) → k < n → k < length sums → slice_index_or sums k 0 ≡ line_sum (seen_line (slice_get at k))

pub record IsCertDraft (d : CertDraft) : Type 0 where
  pub idle : IfSome (seen_some d.idle) IsFormed
  pub ready : IfSome (seen_some d.ready) IsFormed
  pub at : (pc : ℕ) → IfSome (seen_line (slice_get d.at.items pc)) IsFormed
  pub counts : Counts d.due (length d.at.items)
  pub last : (pc : ℕ) → length d.at.items ≡ pc + 1 → IsSome (seen_line (slice_get d.at.items pc))
  pub named : is_in_range d.version ≡ true
  pub names : Names d.due (is_two d.version)
  pub empty : is_two d.version ≡ false → length d.sums.items ≡ 0
  pub summed : is_two d.version ≡ true → length d.sums.items ≡ length d.at.items
  pub sums : is_two d.version ≡ true → HaveSums (length d.at.items) d.at.items d.sums.items

-- Of the lines below n, those that write their state out: the number of each, and what stands behind it.

abbrev pub told_first : ℕ → Option ℕ → State → List (ℕ × List ℕ) → List (ℕ × List ℕ)
told_first pc None s told = (pc, codes " " ++ state_text s) ∷ told
told_first pc (Some m) s told = told

abbrev pub told_line : (ℕ → Option State) → ℕ → Option State → List (ℕ × List ℕ) → List (ℕ × List ℕ)
told_line at pc None told = told
told_line at pc (Some s) told = told_first pc (first_with at pc s) s told

unfoldable pub told_below : (ℕ → Option State) → ℕ → List (ℕ × List ℕ)
told_below at zero = []
told_below at (suc n) = told_line at n (at n) (told_below at n)

-- what later lines rest on
abbrev pub told_so_far : Bool → Certificate → List (ℕ × List ℕ)
told_so_far two c = if two then told_below c.at c.lines else []

abbrev pub before : CertDraft → Before
before d = record { due = d.due; two = is_two d.version; states = told_so_far (is_two d.version) (seen_draft d) }

-- The version so far. What is not named yet is a number within its range.

abbrev pub begun_version : Bool → CertVersion
begun_version two = if two then version.Two 0 0 1 else version.One

abbrev pub with_vars : ℕ → ℕ → CertVersion
with_vars pools brigades = version.Two pools brigades 1

abbrev pub with_count : CertVersion → ℕ → CertVersion
with_count version.One n = version.One
with_count (version.Two pools brigades code) n = version.Two pools brigades n

-- The state that a line says, and whether it says none.

abbrev pub SaysState : Bool → Certificate → List ℕ → State → Type 0
SaysState two c rest s = IsFormed s × (rest ≡ codes " " ++ said_by (earlier two c.at c.lines s) s)

abbrev pub NoneIsSaid : Bool → Certificate → List ℕ → Type 0
NoneIsSaid two c rest = IsSaid two (told_so_far two c) rest → ⊥

-- the number behind `same`
abbrev pub IsSameNumber : List ℕ → Option ℕ → Type 0
IsSameNumber rest None = (m : ℕ) → m < 2 ^ 32 → rest ≡ codes " same " ++ decimal m → ⊥
IsSameNumber rest (Some m) = rest ≡ codes " same " ++ decimal m

-- the line writes this state out, or it writes none out
abbrev pub IsToldAt : Certificate → ℕ → Option State → Type 0
IsToldAt c m None = has_number m (told_below c.at c.lines) ≡ false
IsToldAt c m (Some s) = (m < c.lines) × (c.at m ≡ Some s) × (first_with c.at m s ≡ None)

-- a line that has no fault is added
pub record IsLineAdded (d : CertDraft) (l : List ℕ) (e : CertDraft) : Type 0 where
  pub right : (c : CertCode) → HasCode (before d) l c → ⊥
  pub left : before e ≡ left (before d) l
  pub text : text_so_far e.due e.version e.slim (seen_draft e) ≡ text_so_far d.due d.version d.slim (seen_draft d) ++ (l ++ 10 ∷ [])

-- a line is refused by a code that fits it, and no lower one does
pub record IsRefused (d : CertDraft) (l : List ℕ) (c : CertCode) : Type 0 where
  pub fits : HasCode (before d) l c
  pub lowest : (e : CertCode) → HasCode (before d) l e → code_number c ≤ code_number e

abbrev pub LineAdded : CertDraft → ℕ → List ℕ → Result (Unit {0}) CertRefusal → CertDraft → Type 0
LineAdded d n l (Ok u) e = IsLineAdded d l e
LineAdded d n l (Err (Fault m c)) e = (m ≡ n) × IsRefused d l c
LineAdded d n l (Err NoMemory) e = Unit {0}

-- what stands behind the first word of line n is no state, as this says, or memory ran out
abbrev pub IsNoState : ℕ → Type 0 → CertRefusal → Type 0
IsNoState n Lacks (Fault m c) = (m ≡ n) × ((c ≡ code.NotState) × Lacks)
IsNoState n Lacks NoMemory = Unit {0}

abbrev pub NoStateIsIn : List ℕ → Type 0
NoStateIsIn rest = ((s : State) × IsState rest s) → ⊥

abbrev pub NoStateOrNoneIsIn : List ℕ → Type 0
NoStateOrNoneIsIn rest = ((o : Option State) × IsStateOrNone rest o) → ⊥

-- the state in form that has this text, where there is one
abbrev pub IsReadState : List ℕ → Option State → Type 0
IsReadState text None = (s : State) → IsFormed s → text ≡ state_text s → ⊥
IsReadState text (Some s) = IsFormed s × (text ≡ state_text s)
