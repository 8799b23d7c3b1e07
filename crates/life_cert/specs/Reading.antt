-- What a text is: a certificate's, or one with a first faulty line.
use Rattle.std.specs.Prelude.{◌≡◌, ℕ, ◌+◌, ◌^◌, ◌≤◌, Bool, true, false, ◌&&◌, ◌||◌, not, nat_lt, nat_le, nat_eq, ◌==◌, if◌then◌else◌, List, [], ◌∷◌, ◌++◌, length, take, codes, decimal, Option, Some, None}
use Rattle.std.specs.Prelude.{Result, Ok, Err, IfSome, IsSome, ◌⊎◌}
use Rattle.std.specs.Cmp.Lexicographic.{pointwise}
use Rattle.byte_text.specs.Bytes.{after_token, all_printable, tail, token}
use Rattle.byte_text.specs.Numbers.{decimal_below}
use Rattle.byte_text.specs.TextLines.{lines_from, rest_from}
use Rattle.life_state.specs.States.{State}
use Rattle.life_state.specs.Form.{IsFormed}
use Rattle.life_check.specs.declared.version.CertVersion.{CertVersion}
use Rattle.life_check.specs.Certificates.{Certificate}
use Rattle.life_check.specs.Versions.{is_in_range}
use Rattle.life_cert.specs.declared.due.Due.{Due}
use Rattle.life_cert.specs.declared.due.Due.TheVariants as due
use Rattle.life_cert.specs.declared.due.CertLine.{CertLine}
use Rattle.life_cert.specs.declared.due.CertLine.TheVariants as line
use Rattle.life_cert.specs.declared.refusal.CertCode.{CertCode}
use Rattle.life_cert.specs.declared.refusal.CertCode.TheVariants as code
use Rattle.life_cert.specs.declared.refusal.CertRefusal.{CertRefusal}
use Rattle.life_cert.specs.declared.refusal.CertRefusal.TheVariants.{Fault, NoMemory}
use Rattle.life_cert.specs.Codes.{code_number}
use Rattle.life_cert.specs.StateText.{state_text}
use Rattle.life_cert.specs.StateFromText.{starts}
use Rattle.life_cert.specs.CertText.{cert_text, state_or_none}

-- A certificate whose states are in form, with lines for instructions up to 1023, the last of which has a state.
pub record IsCertificate (c : Certificate) : Type 0 where
  pub idle : IfSome c.idle IsFormed
  pub ready : IfSome c.ready IsFormed
  pub at : (pc : ℕ) → IfSome (c.at pc) IsFormed
  pub few : c.lines ≤ 1024
  pub last : (pc : ℕ) → c.lines ≡ pc + 1 → IsSome (c.at pc)

pub record IsCertText (text : List ℕ) (v : CertVersion) (slim : Bool) (c : Certificate) : Type 0 where
  pub sound : IsCertificate c
  pub named : is_in_range v ≡ true
  pub whole : text ≡ cert_text v slim c
  pub small : length text ≤ 4194304

-- What may be printed: each state is in form, and none stands where no line is, or beyond instruction 1023. Its last lines may have
-- none.
pub record IsWritable (c : Certificate) : Type 0 where
  pub idle : IfSome c.idle IsFormed
  pub ready : IfSome c.ready IsFormed
  pub at : (pc : ℕ) → IfSome (c.at pc) IsFormed
  pub none : (pc : ℕ) → c.lines ≤ pc → c.at pc ≡ None
  pub few : (pc : ℕ) → 1024 ≤ pc → c.at pc ≡ None

pub record IsPrinted (text : List ℕ) (v : CertVersion) (slim : Bool) (c : Certificate) : Type 0 where
  pub writable : IsWritable c
  pub named : is_in_range v ≡ true
  pub whole : text ≡ cert_text v slim c

-- two certificates say the same; lines at the end that have no state say nothing
pub record HaveSameStates (c d : Certificate) : Type 0 where
  pub idle : c.idle ≡ d.idle
  pub ready : c.ready ≡ d.ready
  pub at : (pc : ℕ) → c.at pc ≡ d.at pc

-- Lines.

abbrev pub where_due : Bool → CertLine → Option CertLine
where_due b l = if b then Some l else None

-- the number of an instruction may stand there
abbrev pub pc_due : ℕ → Option ℕ → Option CertLine
pc_due next None = None
pc_due next (Some pc) = where_due (nat_le next pc && nat_le pc 1023) (line.Instruction pc)

-- `end`, or the number of an instruction, which is no lower than this one
abbrev pub end_or_pc : ℕ → List ℕ → Option CertLine
end_or_pc next l = if pointwise nat_eq l (codes "end") then Some line.End else pc_due next (decimal_below (2 ^ 32) (token l))

-- the first line: which version, and whether the certificate is slim
abbrev pub header : List ℕ → Option CertLine
header l =
    if pointwise nat_eq l (codes "slim 1") then Some (line.Header false true)
    else (if pointwise nat_eq l (codes "cert 2 full") then Some (line.Header true false)
    else (if pointwise nat_eq l (codes "cert 2 slim") then Some (line.Header true true)
    else where_due (pointwise nat_eq l (codes "cert 1")) (line.Header false false)))

-- the shape of the module, each number within its range
abbrev pub vars_due : Option ℕ → Option ℕ → Option CertLine
vars_due None o = None
vars_due (Some p) None = None
vars_due (Some p) (Some b) = where_due (nat_le p 8 && nat_le b 8) (line.Vars p b)

abbrev pub two_numbers : List ℕ → Option CertLine
two_numbers rest = vars_due (decimal_below (2 ^ 32) (token rest)) (decimal_below (2 ^ 32) (tail (after_token rest)))

abbrev pub vars : List ℕ → Option CertLine
vars l = if pointwise nat_eq (token l) (codes "vars") then two_numbers (tail (after_token l)) else None

abbrev pub count_due : Option ℕ → Option CertLine
count_due None = None
count_due (Some n) = where_due (nat_le 1 n && nat_le n 1024) (line.Code n)

abbrev pub count : List ℕ → Option CertLine
count l = if pointwise nat_eq (token l) (codes "code") then count_due (decimal_below (2 ^ 32) (tail (after_token l))) else None

-- which line stands there, if it is due
unfoldable pub due_line : Due → List ℕ → Option CertLine
due_line due.Header l = header l
due_line due.Vars l = vars l
due_line due.Code l = count l
due_line due.Idle l = where_due (pointwise nat_eq (token l) (codes "idle")) line.Idle
due_line due.Ready l = where_due (pointwise nat_eq (token l) (codes "ready")) line.Ready
due_line (due.States next) l = end_or_pc next l
due_line due.Nothing l = None

-- which line is due behind it
abbrev pub due_after : CertLine → Due
due_after (line.Header two slim) = if two then due.Vars else due.Idle
due_after (line.Vars p b) = due.Code
due_after (line.Code n) = due.Idle
due_after line.Idle = due.Ready
due_after line.Ready = due.States 0
due_after (line.Instruction pc) = due.States (pc + 1)
due_after line.End = due.Nothing

-- what stands behind the first word is the text of a state, or of one or none
abbrev pub IsState : List ℕ → State → Type 0
IsState rest s = IsFormed s × (rest ≡ codes " " ++ state_text s)

abbrev pub IsStateOrNone : List ℕ → Option State → Type 0
IsStateOrNone rest o = IfSome o IsFormed × (rest ≡ codes " " ++ state_or_none o)

-- What later lines rest on: which one is due, whether the text is of version 2, and there what stands behind the numbers of the lines
-- that say a state, the last first.
pub record Before : Type 0 where
  pub due : Due
  pub two : Bool
  pub states : List (ℕ × List ℕ)

abbrev pub at_begin : Before
at_begin = record { due = due.Header; two = false; states = [] }

abbrev pub has_number : ℕ → List (ℕ × List ℕ) → Bool
has_number m [] = false
has_number m (x ∷ xs) = x.0 == m || has_number m xs

abbrev pub has_text : List ℕ → List (ℕ × List ℕ) → Bool
has_text t [] = false
has_text t (x ∷ xs) = pointwise nat_eq t x.1 || has_text t xs

-- a state that no earlier line writes out, or the number of an earlier line that writes its state out
abbrev pub IsSaid : Bool → List (ℕ × List ℕ) → List ℕ → Type 0
IsSaid false states rest = (s : State) × IsState rest s
IsSaid true states rest =
    ((s : State) × IsState rest s × (has_text rest states ≡ false)) ⊎ ((m : ℕ) × (rest ≡ codes " same " ++ decimal m) × (has_number m states ≡ true))

abbrev pub HasState : Before → CertLine → List ℕ → Type 0
HasState w (line.Header two slim) rest = Unit {0}
HasState w (line.Vars p b) rest = Unit {0}
HasState w (line.Code n) rest = Unit {0}
HasState w line.Idle rest = (o : Option State) × IsStateOrNone rest o
HasState w line.Ready rest = (o : Option State) × IsStateOrNone rest o
HasState w (line.Instruction pc) rest = IsSaid w.two w.states rest
HasState w line.End rest = Unit {0}

-- Faults: each code fits a line by itself, where the lines before it leave this.

abbrev pub LacksState : Before → Option CertLine → List ℕ → Type 0
LacksState w None rest = ⊥
LacksState w (Some l) rest = HasState w l rest → ⊥

abbrev pub HasCode : Before → List ℕ → CertCode → Type 0
HasCode w l code.BadByte = all_printable l ≡ false
HasCode w l code.NotDue = due_line w.due l ≡ None
HasCode w l code.NotState = LacksState w (due_line w.due l) (after_token l)

-- a line that writes its state out
abbrev pub with_said : Bool → ℕ → List ℕ → List (ℕ × List ℕ) → List (ℕ × List ℕ)
with_said two pc rest states = if two && not (starts (codes " same ") rest) then (pc, rest) ∷ states else states

abbrev pub two_after : Bool → CertLine → Bool
two_after two (line.Header new slim) = new
two_after two _ = two

abbrev pub states_after : Before → CertLine → List ℕ → List (ℕ × List ℕ)
states_after w (line.Instruction pc) rest = with_said w.two pc rest w.states
states_after w _ rest = w.states

-- what a line leaves; it is not asked what follows a faulty one
abbrev pub left_by : Before → Option CertLine → List ℕ → Before
left_by w None rest = w
left_by w (Some l) rest = record { due = due_after l; two = two_after w.two l; states = states_after w l rest }

abbrev pub left : Before → List ℕ → Before
left w l = left_by w (due_line w.due l) (after_token l)

abbrev pub is_over : Due → Bool
is_over due.Nothing = true
is_over _ = false

-- what is wrong behind the last LF: bytes stand there, or the text goes on past its limit; a line is missing
abbrev pub EndHasCode : Bool → Due → CertCode → Type 0
EndHasCode more d code.BadByte = more ≡ true
EndHasCode more d code.NotDue = is_over d ≡ false
EndHasCode more d code.NotState = ⊥

-- Line m of these lines has this code, where the first is line n; what stands behind the last LF is a line too.
abbrev pub CertLinesHaveCode : Bool → Before → ℕ → List (List ℕ) → ℕ → CertCode → Type 0
CertLinesHaveCode more w n [] m c = (m ≡ n) × EndHasCode more w.due c
CertLinesHaveCode more w n (l ∷ ls) m c = ((m ≡ n) × HasCode w l c) ⊎ CertLinesHaveCode more (left w l) (n + 1) ls m c

-- a text as far as its length is allowed: its lines that end with an LF, and whether more stands behind them
abbrev pub lines_of : List ℕ → List (List ℕ)
lines_of text = lines_from [] (take 4194304 text)

abbrev pub goes_on : List ℕ → Bool
goes_on text = nat_lt 4194304 (length text) || not (length (rest_from [] (take 4194304 text)) == 0)

abbrev pub HasCertLineCode : List ℕ → ℕ → CertCode → Type 0
HasCertLineCode text n c = CertLinesHaveCode (goes_on text) at_begin 1 (lines_of text) n c

-- the code fits this line, no lower one does, and no line before it has a code
pub record IsToldFirst (P : ℕ → CertCode → Type 0) (n : ℕ) (c : CertCode) : Type 0 where
  pub fits : P n c
  pub line : (m : ℕ) (d : CertCode) → P m d → n ≤ m
  pub lowest : (d : CertCode) → P n d → code_number c ≤ code_number d

-- a fault that is told is the first; running out of memory says nothing
abbrev pub IsToldBy : (ℕ → CertCode → Type 0) → CertRefusal → Type 0
IsToldBy P (Fault n c) = IsToldFirst P n c
IsToldBy P NoMemory = Unit {0}

abbrev pub IsReported : List ℕ → CertRefusal → Type 0
IsReported text e = IsToldBy (HasCertLineCode text) e

-- the answer is this fault, or that memory ran out
abbrev pub AnswersFault : {X : Type 0} → ℕ → CertCode → Result X CertRefusal → Type 0
AnswersFault n c (Ok x) = ⊥
AnswersFault n c (Err (Fault m d)) = (m ≡ n) × (d ≡ c)
AnswersFault n c (Err NoMemory) = Unit {0}

-- the same of a text that is short enough, and goes on where it is `long`
abbrev pub more_than : Bool → List ℕ → Bool
more_than long rest = long || not (length rest == 0)

abbrev pub IsToldOf : Bool → List ℕ → CertRefusal → Type 0
IsToldOf long text e = IsToldBy (CertLinesHaveCode (more_than long (rest_from [] text)) at_begin 1 (lines_from [] text)) e

-- what is told of what stands behind the last LF
abbrev pub EndTold : Bool → Due → ℕ → Result (Unit {0}) CertRefusal → Type 0
EndTold more d n (Ok u) = (more ≡ false) × (is_over d ≡ true)
EndTold more d n (Err NoMemory) = ⊥
EndTold more d n (Err (Fault m c)) = (m ≡ n) × EndHasCode more d c × ((e : CertCode) → EndHasCode more d e → code_number c ≤ code_number e)

-- what is told of a text is the state in form that has this text, where there is one
abbrev pub IsToldState : List ℕ → State → Type 0
IsToldState text r = (s : State) → IsFormed s → text ≡ state_text s → r ≡ s

-- No two states in form have one text.
abbrev pub TextsTellStates : Type 0
TextsTellStates = (s t : State) → IsFormed s → IsFormed t → state_text s ≡ state_text t → s ≡ t
