-- The first refusal whose test holds is the one that is told.
use Rattle.std.proofs.Common.{◌≡◌, ◌≢◌, ℕ, ◌+◌, ◌<◌, ◌≤◌, Bool, true, false, ◌||◌, not, cond, List, [], ◌∷◌, length, get_or, Option, Some, None, is_some, Result, Err, nat_le, inl, inr, refl, sym, ◌∙◌}
use Rattle.std.proofs.Common.{ap, subst, arith}
use Rattle.std.proofs.lemmas.Option.{same_Some}
use Rattle.std.specs.List.{list_any}
use Rattle.std.proofs.lemmas.Bool.{cases_eq, cases_lt}
use Rattle.std.proofs.lemmas.Bool.Decides.{nat_tests}
use Rattle.module_code.specs.Program.{Program}
use Rattle.run_model.specs.declared.fault.FaultKind.{FaultKind}
use Rattle.run_model.specs.declared.event.Cause.{Cause}
use Rattle.run_model.specs.declared.event.Cause.TheVariants as cause
use Rattle.run_model.specs.declared.event.Refusal.{Refusal}
use Rattle.run_model.specs.declared.event.Refusal.TheVariants as refusal
use Rattle.run_model.specs.declared.event.Event.{Event}
use Rattle.run_model.specs.declared.event.Event.TheVariants as event
use Rattle.run_model.specs.declared.event.Piece.{Piece}
use Rattle.run_model.specs.declared.event.Stepped.{Stepped}
use Rattle.run_model.specs.Steps.{is_spent, current}
use Rattle.run_model.specs.Refusals.{first_refusal, refused_if, if_broken}
use Rattle.run_model.specs.Pieces.{lacks_file, data_behind_eos}
use Rattle.run_model.specs.Chains.{Frame, Connection, Common, Linked, module_at}
use Rattle.run_model.specs.Passing.{Reads, proceeds}
use Rattle.run_model.specs.Turns.{Opening, Found, Missing, Failing, is_missing, is_failing, number_given, unless_refused, is_busy, begins, begun, brings, brought, ends, ended, opens_file, file_answer}
use Rattle.run_model.specs.Turns.{steps, step_unless, step_top, watched, executed, unless_fault, counted, broken_by}
use Rattle.run_model.specs.Worlds.{World, Told, Answer, Done, Refused, answered, file_answered, adds_file, closes, opens, opens_if, happens_on}
use Rattle.model_laws.specs.RefusalOrder.{place, Tests, tests, TestHolds, IsFirstRefusal, FirstIsTold, StepsTell, NoConnectionIsTold, is_of_connection, BusyDoesNotEnd, OnlyMemoryRefusesClose}
use Rattle.model_laws.specs.RefusalOrder.{lacks_for, grows_for, fault_of}

-- Refusals by their places.

refusal_at : ℕ → Refusal
refusal_at n =
    get_or (refusal.NoSuchConn ∷ refusal.Broken cause.Faulted ∷ refusal.Busy ∷ refusal.Idle ∷ refusal.InRequest ∷ refusal.NotInRequest ∷ refusal.DataAfterEos ∷ refusal.NoFile ∷ refusal.FileFailed
    ∷ refusal.NamesSpent ∷ refusal.NoMemory ∷ []) n
    refusal.NoMemory

by_place : (r : Refusal) → place r ≢ 1 → refusal_at (place r) ≡ r
unfolding refusal_at
by_place refusal.NoSuchConn ne = refl
by_place (refusal.Broken k) ne = absurd (ne refl)
by_place refusal.Busy ne = refl
by_place refusal.Idle ne = refl
by_place refusal.InRequest ne = refl
by_place refusal.NotInRequest ne = refl
by_place refusal.DataAfterEos ne = refl
by_place refusal.NoFile ne = refl
by_place refusal.FileFailed ne = refl
by_place refusal.NamesSpent ne = refl
by_place refusal.NoMemory ne = refl

placed_broken : (r : Refusal) → place r ≡ 1 → (k : Cause) × (r ≡ refusal.Broken k)
placed_broken (refusal.Broken k) e = (k, refl)
placed_broken r e = absurd (omega arith)

below_eleven : (r : Refusal) → place r < 11
below_eleven refusal.NoSuchConn = omega arith
below_eleven (refusal.Broken k) = omega arith
below_eleven refusal.Busy = omega arith
below_eleven refusal.Idle = omega arith
below_eleven refusal.InRequest = omega arith
below_eleven refusal.NotInRequest = omega arith
below_eleven refusal.DataAfterEos = omega arith
below_eleven refusal.NoFile = omega arith
below_eleven refusal.FileFailed = omega arith
below_eleven refusal.NamesSpent = omega arith
below_eleven refusal.NoMemory = omega arith

-- two refusals of one place whose tests hold are one
same_refusal : (t : Tests) (q r : Refusal) → place q ≡ place r → TestHolds t q → TestHolds t r → q ≡ r
same_refusal t q r e hq hr = elim (cases_eq (place q) 1) [
  | inl one ↦
      let j = placed_broken q one in
      let k = placed_broken r (sym e ∙ one) in
      let first : t.broken ≡ Some j.0 = subst (TestHolds t) j.1 hq in
      let second : t.broken ≡ Some k.0 = subst (TestHolds t) k.1 hr in
      let same : j.0 ≡ k.0 = cc in
      j.1 ∙ ap refusal.Broken same ∙ sym k.1
  | inr ne ↦ sym (by_place q ne) ∙ ap refusal_at e ∙ by_place r (λ one. ne (e ∙ one))
]

-- The tests in their order.

abbrev NoneBelow : Tests → ℕ → Type 0
NoneBelow t n = (s : Refusal) → place s < n → TestHolds t s → ⊥

-- what is told is due, and where nothing is told no test holds
record TellsFirstRefusal (t : Tests) (o : Option Refusal) : Type 0 where
  sound : (r : Refusal) → o ≡ Some r → IsFirstRefusal t r
  none : o ≡ None → NoneBelow t 11

one_more : (t : Tests) (q : Refusal) → place q ≢ 1 → NoneBelow t (place q) → (TestHolds t q → ⊥) → NoneBelow t (place q + 1)
one_more t q ne below fails = λ s lt h. elim (cases_eq (place s) (place q)) [
  | inl e ↦ fails (subst (TestHolds t) (sym (by_place s (λ one. ne (sym e ∙ one))) ∙ ap refusal_at e ∙ by_place q ne) h)
  | inr apart ↦ below s (omega (arith, apart)) h
]

due : (t : Tests) (q : Refusal) → IsFirstRefusal t q → TellsFirstRefusal t (Some q)
due t q first = record { sound = λ r e. (let same : q ≡ r = cc in subst (IsFirstRefusal t) same first); none = λ e. absurd (cc) }

-- the first of two that is there
abbrev first_of : Option Refusal → Option Refusal → Option Refusal
first_of None o = o
first_of (Some r) o = Some r

abbrev firsts : List (Option Refusal) → Option Refusal
firsts [] = None
firsts (o ∷ ts) = first_of o (firsts ts)

first_is : (ts : List (Option Refusal)) → firsts ts ≡ first_refusal ts
first_is [] = refl
first_is (None ∷ ts) = first_is ts
first_is (Some r ∷ ts) = refl

row : (t : Tests) (q : Refusal) (b : Bool) (o : Option Refusal) → place q ≢ 1 → (b ≡ true → TestHolds t q) → (TestHolds t q → b ≡ true) → (NoneBelow t (place q + 1) → TellsFirstRefusal t o)
    → NoneBelow t (place q) → TellsFirstRefusal t (first_of (refused_if b q) o)
row t q true o ne means only rest below = due t q (record { holds = means refl; first = below })
row t q false o ne means only rest below = rest (one_more t q ne below (λ h. (let no : false ≡ true = only h in cc)))

no_conn_row : (t : Tests) (o : Option Refusal) → (NoneBelow t 1 → TellsFirstRefusal t o) → TellsFirstRefusal t (first_of (refused_if t.no_such_conn refusal.NoSuchConn) o)
no_conn_row t o rest = row t refusal.NoSuchConn t.no_such_conn o (omega arith) (λ h. h) (λ h. h) rest (λ s lt h. absurd (omega arith))

broken_row : (t : Tests) (b : Option Cause) (o : Option Refusal) → t.broken ≡ b → (NoneBelow t 2 → TellsFirstRefusal t o) → NoneBelow t 1 → TellsFirstRefusal t (first_of (if_broken b) o)
broken_row t None o is rest below = rest (λ s lt h. none s lt h) where
  none : (s : Refusal) → place s < 2 → TestHolds t s → ⊥
  none refusal.NoSuchConn lt h = below refusal.NoSuchConn (omega arith) h
  none (refusal.Broken k) lt h = cc
  none s lt h = absurd (omega arith)
broken_row t (Some k) o is rest below = due t (refusal.Broken k) (record { holds = is; first = below })

walk : (t : Tests)
    → TellsFirstRefusal t (firsts (refused_if t.no_such_conn refusal.NoSuchConn ∷ if_broken t.broken ∷ refused_if t.busy refusal.Busy ∷ refused_if t.idle refusal.Idle ∷ refused_if t.in_request
    refusal.InRequest ∷ refused_if t.not_in_request refusal.NotInRequest
    ∷ refused_if t.data_after_eos refusal.DataAfterEos ∷ refused_if t.no_file refusal.NoFile ∷ refused_if t.file_failed refusal.FileFailed ∷ refused_if t.names_spent refusal.NamesSpent ∷ refused_if
    t.no_memory refusal.NoMemory ∷ []))
walk t =
    no_conn_row t _
    (broken_row t t.broken _ refl
    (row t refusal.Busy t.busy _ (omega arith) (λ h. h) (λ h. h)
    (row t refusal.Idle t.idle _ (omega arith) (λ h. h) (λ h. h)
    (row t refusal.InRequest t.in_request _ (omega arith) (λ h. h) (λ h. h)
    (row t refusal.NotInRequest t.not_in_request _ (omega arith) (λ h. h) (λ h. h)
    (row t refusal.DataAfterEos t.data_after_eos _ (omega arith) (λ h. h) (λ h. h)
    (row t refusal.NoFile t.no_file _ (omega arith) (λ h. h) (λ h. h)
    (row t refusal.FileFailed t.file_failed _ (omega arith) (λ h. h) (λ h. h)
    (row t refusal.NamesSpent t.names_spent _ (omega arith) (λ h. h) (λ h. h)
    (row t refusal.NoMemory t.no_memory None (omega arith) (λ h. h) (λ h. h)
    (λ below. record { sound = λ r e. absurd (cc); none = λ e. below })))))))))))

-- the tests of an event are told in their order
in_order : (t : Tests) (ts : List (Option Refusal)) → TellsFirstRefusal t (firsts ts) → TellsFirstRefusal t (first_refusal ts)
in_order t ts tells = subst (TellsFirstRefusal t) (first_is ts) tells

-- Answers.

abbrev is_refused : Answer → Bool
is_refused (Refused r) = true
is_refused a = false

first_is_one : (t : Tests) (q r : Refusal) → IsFirstRefusal t q → IsFirstRefusal t r → q ≡ r
first_is_one t q r here there = elim (cases_lt (place q) (place r)) [
  | inl lt ↦ absurd (there.first q lt here.holds)
  | inr le ↦ elim (cases_lt (place r) (place q)) [
    | inl lt ↦ absurd (here.first r lt there.holds)
    | inr ge ↦ same_refusal t q r (omega arith) here.holds there.holds
  ]
]

abbrev Exact : Tests → Answer → Refusal → Type 0
Exact t a r = (a ≡ Refused r → IsFirstRefusal t r) × (IsFirstRefusal t r → a ≡ Refused r)

exact : (t : Tests) (a : Answer) (o : Option Refusal) → TellsFirstRefusal t o → ((r : Refusal) → o ≡ Some r → a ≡ Refused r) → (o ≡ None → is_refused a ≡ false) → (r : Refusal) → Exact t a r
exact t a None tells told done r =
    (λ e. absurd (let no : is_refused a ≡ false = done refl in let yes : is_refused a ≡ true = ap is_refused e in cc), λ first. absurd (tells.none refl r (below_eleven r) first.holds))
exact t a (Some q) tells told done r =
    let first : IsFirstRefusal t q = tells.sound q refl in
    let is : a ≡ Refused q = told q refl in
    (λ e. (let same : q ≡ r = cc in subst (IsFirstRefusal t) same first), λ other. is ∙ ap Refused (first_is_one t q r first other))

-- an event that is refused or happens
refused_or_done : (t : Tests) (o : Option Refusal) (k : ℕ) (w : World) (old new : Linked) → TellsFirstRefusal t o → (r : Refusal) → Exact t (answered k w (unless_refused o old new)).0 r
refused_or_done t o k w old new tells r =
    exact t _ o tells (λ q e. ap (λ (x : Option Refusal). (answered k w (unless_refused x old new)).0) e) (λ e. ap (λ (x : Option Refusal). is_refused (answered k w (unless_refused x old new)).0) e) r

-- a file is opened where it is there, the device does not fail, and a request is open
file_or_refused : (t : Tests) (o : Option Refusal) (req : Option ℕ) (opening : Opening) (k : ℕ) (w : World) (v : Linked) → TellsFirstRefusal t o
    → (o ≡ None → (is_some req ≡ true) × (is_missing opening ≡ false) × (is_failing opening ≡ false)) → (r : Refusal) → Exact t (file_answered k w (file_answer o req opening v)).0 r
file_or_refused t o req opening k w v tells there r =
    exact t _ o tells (λ q e. ap (λ (x : Option Refusal). (file_answered k w (file_answer x req opening v)).0) e)
    (λ e. (let parts = there e in ap (λ (x : Option Refusal). is_refused (file_answered k w (file_answer x req opening v)).0) e ∙ opened_file req opening parts.0 parts.1 parts.2)) r where
      opened_file : (req : Option ℕ) (opening : Opening) → is_some req ≡ true → is_missing opening ≡ false → is_failing opening ≡ false
          → is_refused (file_answered k w (file_answer None req opening v)).0 ≡ false
      opened_file (Some q) (Found skipped bytes) e f h = refl
      opened_file (Some q) Missing e f h = absurd (cc)
      opened_file (Some q) Failing e f h = absurd (cc)
      opened_file None opening e f h = absurd (cc)

not_on : (b : Bool) → (b ≡ true → ⊥) → b ≡ false
not_on true h = absurd (h refl)
not_on false h = refl

from_not : (b : Bool) → (not b ≡ true → ⊥) → b ≡ true
from_not true h = refl
from_not false h = absurd (h refl)

never_refused : (t : Tests) (a : Answer) → TellsFirstRefusal t None → is_refused a ≡ false → (r : Refusal) → Exact t a r
never_refused t a tells done r = exact t a None tells (λ q e. absurd (cc)) (λ e. done) r

no_memory_told : (t : Tests) (r : Refusal) → TellsFirstRefusal t (Some refusal.NoMemory) → Exact t (Refused refusal.NoMemory) r
no_memory_told t r tells = exact t (Refused refusal.NoMemory) (Some refusal.NoMemory) tells (λ q e. (let same : refusal.NoMemory ≡ q = cc in ap Refused same)) (λ e. absurd (cc)) r

no_conn_told : (t : Tests) (r : Refusal) → TellsFirstRefusal t (Some refusal.NoSuchConn) → Exact t (Refused refusal.NoSuchConn) r
no_conn_told t r tells = exact t (Refused refusal.NoSuchConn) (Some refusal.NoSuchConn) tells (λ q e. (let same : refusal.NoSuchConn ≡ q = cc in ap Refused same)) (λ e. absurd (cc)) r

module _ (told : Told) (w : World) (r : Refusal) where
  adds_exact : (memory : Bool) (name bytes : List ℕ) (o : Option Connection) → Exact (tests memory told (event.AddFile name bytes) o w) (adds_file memory w).0 r
  adds_exact true name bytes o = never_refused _ Done (walk (tests true told (event.AddFile name bytes) o w)) refl r
  adds_exact false name bytes o = no_memory_told _ r (walk (tests false told (event.AddFile name bytes) o w))

  closes_exact : (memory : Bool) (k : ℕ) (c : Connection) → Exact (tests memory told event.Close (Some c) w) (closes memory k c w).0 r
  closes_exact true k c = never_refused _ _ (walk (tests true told event.Close (Some c) w)) refl r
  closes_exact false k c = no_memory_told _ r (walk (tests false told event.Close (Some c) w))

  opens_exact : (memory : Bool) (chain : List Program) (o : Option Connection) → Exact (tests memory told event.Open o w) (opens memory chain w).0 r
  unfolding opens
  opens_exact memory chain o =
      let t = tests memory told event.Open o w in
      exact t _ _ (in_order t (refused_if (is_spent (w.last + 1) 1 || (is_spent w.common.pools 1 || is_spent w.common.next 1)) refusal.NamesSpent ∷ (refused_if (not memory) refusal.NoMemory ∷ []))
      (walk t))
      (λ q e. ap (λ (x : Option Refusal). (opens_if x chain w).0) e) (λ e. ap (λ (x : Option Refusal). is_refused (opens_if x chain w).0) e) r

  opens_file_exact : (memory : Bool) (name : List ℕ) (k : ℕ) (c : Connection)
      → Exact (tests memory told (event.OpenFile name) (Some c) w) (file_answered k w (opens_file memory told.opening (w.common, c))).0 r
  unfolding opens_file
  opens_file_exact memory name k c =
      let t = tests memory told (event.OpenFile name) (Some c) w in
      let ordered = in_order t
      (if_broken c.broken ∷ refused_if (is_busy c.stack) refusal.Busy ∷ refused_if (not (is_some c.req)) refusal.NotInRequest ∷ refused_if (is_missing told.opening) refusal.NoFile
      ∷ refused_if (is_failing told.opening) refusal.FileFailed ∷ refused_if (is_spent (number_given w.common told.opening) 1) refusal.NamesSpent ∷ refused_if (not memory) refusal.NoMemory ∷ [])
      (walk t) in
      file_or_refused t _ c.req told.opening k w (w.common, c) ordered
      (λ e. (
        from_not (is_some c.req) (ordered.none e refusal.NotInRequest (omega arith)),
        not_on (is_missing told.opening) (ordered.none e refusal.NoFile (omega arith)),
        not_on (is_failing told.opening) (ordered.none e refusal.FileFailed (omega arith)),
      )) r

  begins_exact : (memory : Bool) (chain : List Program) (k : ℕ) (c : Connection) → Exact (tests memory told event.Begin (Some c) w) (answered k w (begins memory chain (w.common, c))).0 r
  unfolding begins
  begins_exact memory chain k c =
      let t = tests memory told event.Begin (Some c) w in
      refused_or_done t _ k w (w.common, c) (begun chain (w.common, c)) (in_order t (if_broken c.broken ∷ refused_if (is_busy c.stack) refusal.Busy ∷ refused_if (is_some c.req) refusal.InRequest
      ∷ refused_if (is_spent w.common.pools 1 || is_spent w.common.next 1) refusal.NamesSpent ∷ refused_if (not memory) refusal.NoMemory ∷ []) (walk t)) r

  brings_exact : (memory : Bool) (chain : List Program) (pieces : List Piece) (k : ℕ) (c : Connection)
      → Exact (tests memory told (event.Bring pieces) (Some c) w) (answered k w (brings memory chain pieces (w.common, c))).0 r
  unfolding brings
  brings_exact memory chain pieces k c =
      let t = tests memory told (event.Bring pieces) (Some c) w in
      refused_or_done t _ k w (w.common, c) (brought chain pieces c.req (w.common, c)) (in_order t
      (if_broken c.broken ∷ refused_if (is_busy c.stack) refusal.Busy ∷ refused_if (not (is_some c.req)) refusal.NotInRequest ∷ refused_if (data_behind_eos pieces) refusal.DataAfterEos
      ∷ refused_if (list_any (lacks_file c.files) pieces) refusal.NoFile ∷ refused_if (is_spent w.common.next (2 + length pieces)) refusal.NamesSpent ∷ refused_if
      (not memory) refusal.NoMemory ∷ []) (walk t)) r

  ends_exact : (memory : Bool) (k : ℕ) (c : Connection) → Exact (tests memory told event.End (Some c) w) (answered k w (ends memory (w.common, c))).0 r
  unfolding ends
  ends_exact memory k c =
      let t = tests memory told event.End (Some c) w in
      refused_or_done t _ k w (w.common, c) (ended c.req (w.common, c)) (in_order t
      (if_broken c.broken ∷ refused_if (is_busy c.stack) refusal.Busy ∷ refused_if (not (is_some c.req)) refusal.NotInRequest ∷ refused_if (not memory) refusal.NoMemory ∷ []) (walk t)) r

  on_exact : (memory : Bool) (budget : ℕ) (chain : List Program) (e : Event) (k : ℕ) (o : Option Connection) → e ≢ event.Step
      → Exact (tests memory told e o w) (happens_on memory budget chain told e k o w).0 r
  unfolding happens_on
  on_exact memory budget chain event.Open k o ne = opens_exact memory chain o
  on_exact memory budget chain (event.AddFile name bytes) k o ne = adds_exact memory name bytes o
  on_exact memory budget chain event.TellPools k o ne = never_refused _ _ (walk (tests memory told event.TellPools o w)) refl r
  on_exact memory budget chain event.Step k o ne = absurd (ne refl)
  on_exact memory budget chain (event.OpenFile name) k (Some c) ne = opens_file_exact memory name k c
  on_exact memory budget chain event.Begin k (Some c) ne = begins_exact memory chain k c
  on_exact memory budget chain (event.Bring pieces) k (Some c) ne = brings_exact memory chain pieces k c
  on_exact memory budget chain event.End k (Some c) ne = ends_exact memory k c
  on_exact memory budget chain event.TakeOutput k (Some c) ne = never_refused _ _ (walk (tests memory told event.TakeOutput (Some c) w)) refl r
  on_exact memory budget chain event.TellLabels k (Some c) ne = never_refused _ _ (walk (tests memory told event.TellLabels (Some c) w)) refl r
  on_exact memory budget chain event.Close k (Some c) ne = closes_exact memory k c
  on_exact memory budget chain (event.OpenFile name) k None ne = no_conn_told _ r (walk (tests memory told (event.OpenFile name) None w))
  on_exact memory budget chain event.Begin k None ne = no_conn_told _ r (walk (tests memory told event.Begin None w))
  on_exact memory budget chain (event.Bring pieces) k None ne = no_conn_told _ r (walk (tests memory told (event.Bring pieces) None w))
  on_exact memory budget chain event.End k None ne = no_conn_told _ r (walk (tests memory told event.End None w))
  on_exact memory budget chain event.TakeOutput k None ne = no_conn_told _ r (walk (tests memory told event.TakeOutput None w))
  on_exact memory budget chain event.TellLabels k None ne = no_conn_told _ r (walk (tests memory told event.TellLabels None w))
  on_exact memory budget chain event.Close k None ne = no_conn_told _ r (walk (tests memory told event.Close None w))

pub first_is_told : FirstIsTold
first_is_told memory budget chain told k e w r ne = on_exact told w r memory budget chain e k (w.conns k) ne

nothing_there : (memory : Bool) (budget : ℕ) (chain : List Program) (told : Told) (e : Event) (k : ℕ) (w : World) → is_of_connection e ≡ true
    → happens_on memory budget chain told e k None w ≡ (Refused refusal.NoSuchConn, w)
unfolding happens_on
nothing_there memory budget chain told event.Open k w of = absurd (cc)
nothing_there memory budget chain told (event.AddFile name bytes) k w of = absurd (cc)
nothing_there memory budget chain told event.TellPools k w of = absurd (cc)
nothing_there memory budget chain told event.Begin k w of = refl
nothing_there memory budget chain told (event.OpenFile name) k w of = refl
nothing_there memory budget chain told (event.Bring pieces) k w of = refl
nothing_there memory budget chain told event.Step k w of = refl
nothing_there memory budget chain told event.End k w of = refl
nothing_there memory budget chain told event.TakeOutput k w of = refl
nothing_there memory budget chain told event.TellLabels k w of = refl
nothing_there memory budget chain told event.Close k w of = refl

pub no_connection_is_told : NoConnectionIsTold
no_connection_is_told memory budget chain told k e w none of = ap (λ (o : Option Connection). happens_on memory budget chain told e k o w) none ∙ nothing_there memory budget chain told e k w of

pub busy_does_not_end : BusyDoesNotEnd
unfolding ends happens_on
busy_does_not_end memory budget chain told k c w at whole busy =
    ap (λ (o : Option Connection). happens_on memory budget chain told event.End k o w) at
    ∙ ap (λ (o : Option Refusal). answered k w (unless_refused o (w.common, c) (ended c.req (w.common, c)))) (busy_told c.broken (is_busy c.stack) _ whole busy) where
      busy_told : (broken : Option Cause) (b : Bool) (ts : List (Option Refusal)) → broken ≡ None → b ≡ true → first_refusal (if_broken broken ∷ refused_if b refusal.Busy ∷ ts) ≡ Some refusal.Busy
      busy_told None true ts whole busy = refl
      busy_told None false ts whole busy = absurd (cc)
      busy_told (Some k) b ts whole busy = absurd (cc)

pub only_memory_refuses_close : OnlyMemoryRefusesClose
unfolding happens_on
only_memory_refuses_close memory budget chain told k c w r at e = by_memory memory (ap (λ (o : Option Connection). (happens_on memory budget chain told event.Close k o w).0) (sym at) ∙ e) where
  by_memory : (m : Bool) → (closes m k c w).0 ≡ Refused r → (r ≡ refusal.NoMemory) × (m ≡ false)
  by_memory true e = absurd (let was : is_refused (closes true k c w).0 ≡ true = ap is_refused e in cc)
  by_memory false e = (let same : refusal.NoMemory ≡ r = cc in sym same, refl)

-- Steps.

first_told : (t : Tests) (o : Option Refusal) (r : Refusal) → TellsFirstRefusal t o → IsFirstRefusal t r → o ≡ Some r
first_told t None r tells first = absurd (tells.none refl r (below_eleven r) first.holds)
first_told t (Some q) r tells first = ap (λ (x : Refusal). Some x) (first_is_one t q r (tells.sound q refl) first)

-- where no refusal is due
module _ (memory : Bool) (budget : ℕ) (chain : List Program) (reads : Reads) (g : Common) (c : Connection) (f : Frame) (rest : List Frame) (whole : c.broken ≡ None) (top : c.stack ≡ f ∷ rest) where
  asked : steps memory budget chain reads (g, c) ≡ cond (nat_le budget c.count) (broken_by cause.OutOfSteps (g, c)) (watched memory chain reads f rest (g, c))
  unfolding steps
  asked =
      ap (λ (b : Option Cause). step_unless b memory budget chain reads (g, c)) whole
      ∙ ap (λ (fs : List Frame). step_top memory budget chain reads fs (g, c)) top

  watching : c.count < budget → steps memory budget chain reads (g, c) ≡ watched memory chain reads f rest (g, c)
  watching lt = asked ∙ ap (λ (b : Bool). cond b (broken_by cause.OutOfSteps (g, c)) (watched memory chain reads f rest (g, c))) (few budget c.count lt) where
    few : (n m : ℕ) → m < n → nat_le n m ≡ false
    few n m lt = grind (arith, nat_tests)

  faultless : c.count < budget → fault_of chain (g, c) f ≡ None → steps memory budget chain reads (g, c) ≡ executed memory chain reads (current (module_at chain f.of) f.pc) f rest (g, c)
  faultless lt none = watching lt ∙ ap (λ (o : Option FaultKind). unless_fault o f (g, c) (executed memory chain reads (current (module_at chain f.of) f.pc) f rest (g, c))) none

  abbrev Executing : Bool → Result Stepped Refusal × Linked
  Executing b = cond b (counted (proceeds chain reads (current (module_at chain f.of) f.pc) f rest (g, c))) (broken_by cause.NoMemory (g, c))

  without_names : c.count < budget → fault_of chain (g, c) f ≡ None → lacks_for chain (g, c) f rest ≡ true → steps memory budget chain reads (g, c) ≡ broken_by cause.NamesSpent (g, c)
  unfolding executed
  without_names lt none lacks = faultless lt none ∙ ap (λ (b : Bool). cond b (broken_by cause.NamesSpent (g, c)) (Executing (memory || not (grows_for chain (g, c) f rest)))) lacks

  named : c.count < budget → fault_of chain (g, c) f ≡ None → lacks_for chain (g, c) f rest ≡ false → steps memory budget chain reads (g, c) ≡ Executing (memory || not (grows_for chain (g, c) f rest))
  unfolding executed
  named lt none last = faultless lt none ∙ ap (λ (b : Bool). cond b (broken_by cause.NamesSpent (g, c)) (Executing (memory || not (grows_for chain (g, c) f rest)))) last

due_refused : (memory : Bool) (budget : ℕ) (chain : List Program) (told : Told) (c : Connection) (w : World) (r : Refusal) → IsFirstRefusal (tests memory told event.Step (Some c) w) r
    → steps memory budget chain told.reads (w.common, c) ≡ (Err r, (w.common, c))
unfolding steps
due_refused memory budget chain told c w r first =
    by_broken c.broken (first_told t _ r (in_order t (if_broken c.broken ∷ refused_if (not (is_busy c.stack)) refusal.Idle ∷ []) (walk t)) first) where
      t : Tests
      t = tests memory told event.Step (Some c) w

      none_is : (a : Refusal) → None ≡ Some a → ⊥
      none_is a e = cc

      by_stack : (fs : List Frame) → first_refusal (refused_if (not (is_busy fs)) refusal.Idle ∷ []) ≡ Some r → step_top memory budget chain told.reads fs (w.common, c) ≡ (Err r, (w.common, c))
      by_stack [] e = ap (λ (x : Refusal). (Err x, (w.common, c))) (same_Some refusal.Idle r e)
      by_stack (f ∷ fs) e = absurd (none_is r e)

      by_broken : (b : Option Cause) → first_refusal (if_broken b ∷ refused_if (not (is_busy c.stack)) refusal.Idle ∷ []) ≡ Some r
          → step_unless b memory budget chain told.reads (w.common, c) ≡ (Err r, (w.common, c))
      by_broken None e = by_stack c.stack e
      by_broken (Some k) e = ap (λ (x : Refusal). (Err x, (w.common, c))) (same_Some (refusal.Broken k) r e)

pub steps_tell : StepsTell
steps_tell memory budget chain told c w = record {
  refused = due_refused memory budget chain told c w;
  out_of_steps = λ f rest whole top met.
      asked memory budget chain told.reads w.common c f rest whole top
      ∙ ap (λ (b : Bool). cond b (broken_by cause.OutOfSteps (w.common, c)) (watched memory chain told.reads f rest (w.common, c))) (met_all budget c.count met);
  faulted = λ f rest k whole top lt is.
      watching memory budget chain told.reads w.common c f rest whole top lt
      ∙ ap (λ (o : Option FaultKind). unless_fault o f (w.common, c) (executed memory chain told.reads (current (module_at chain f.of) f.pc) f rest (w.common, c))) is;
  no_name = λ f rest whole top lt none lacks. without_names memory budget chain told.reads w.common c f rest whole top lt none lacks;
  no_memory = λ f rest whole top lt none last refuses growing.
      named memory budget chain told.reads w.common c f rest whole top lt none last
      ∙ ap (λ (b : Bool). Executing memory budget chain told.reads w.common c f rest whole top b) (ap (λ (b : Bool). b || not (grows_for chain (w.common, c) f rest)) refuses ∙ ap not growing);
  made = λ f rest whole top lt none last there.
      named memory budget chain told.reads w.common c f rest whole top lt none last ∙ ap (λ (b : Bool). Executing memory budget chain told.reads w.common c f rest whole top b) there;
} where
  met_all : (n m : ℕ) → n ≤ m → nat_le n m ≡ true
  met_all n m le = grind (arith, nat_tests)
