-- What a certificate means. A slim one gives states at heads alone: before the first instruction of each handler, and before each
-- that some instruction names as its target. The rules hand on the others.
use Rattle.std.specs.Prelude.{◌≡◌, ℕ, zero, suc, ◌<◌, ◌≤◌, Bool, true, false, ◌&&◌, ◌||◌, not, ◌==◌, if◌then◌else◌, List, length, Option, Some, None, is_some, Result, Ok, Err, slice_get}
use Rattle.std.specs.Prelude.{slice_index_or, unwrap_or}
use Rattle.module_code.specs.declared.instr.Instr.{Instr}
use Rattle.module_code.specs.Program.{Program, IsModule, target}
use Rattle.run_model.specs.declared.fault.FaultKind.{FaultKind}
use Rattle.run_model.specs.Indexed.{any_below}
use Rattle.life_state.specs.States.{State}
use Rattle.life_state.specs.Order.{all_below}
use Rattle.life_state.specs.Rules.{Edges, rule}
use Rattle.life_check.specs.declared.cert.Cert.{Cert}
use Rattle.life_check.specs.declared.refusal.CheckRefusal.{CheckRefusal}
use Rattle.life_check.specs.declared.refusal.Rule.TheVariants.{Shape}
use Rattle.life_check.specs.Certificates.{Certificate, AreFormed}
use Rattle.life_check.specs.Seen.{seen_cert}
use Rattle.life_check.specs.Versions.{names_shape}
use Rattle.life_check.specs.Typed.{has_shape, unless, or_else, first_refusal, IsTyped}

-- Heads.

-- the instruction names this one as its target; one that names none counts as naming 0, which is a head anyway
abbrev pub names : ℕ → Option Instr → Bool
names pc None = false
names pc (Some i) = pc == unwrap_or (target i) 0

-- the first instruction of a handler
abbrev pub is_first : Program → ℕ → Bool
is_first p pc = (pc == 0) || (pc == p.init) || (pc == p.main)

unfoldable pub is_leader : Program → ℕ → Bool
is_leader p pc = is_first p pc || any_below (length p.code) (λ k. names pc (slice_get p.code k))

-- a table of the heads
abbrev pub AreLeaders : Program → List Bool → Type 0
AreLeaders p marks = (pc : ℕ) → pc < 1025 → slice_index_or marks pc false ≡ is_leader p pc

-- What is meant where no state is given.

abbrev pub next_of : Result Edges FaultKind → Option State
next_of (Ok e) = e.next
next_of (Err k) = None

-- the state that an instruction hands on to the next: none where it may have a fault, where the next cannot follow, and where no state
-- stands before it
abbrev pub handed_next : Program → Option Instr → Option State → Option State
handed_next p (Some i) (Some s) = next_of (rule p i s)
handed_next p _ _ = None

-- at a head the state that is given, elsewhere the one that is handed on
unfoldable pub full_at : Program → Certificate → ℕ → Option State
full_at p c zero = c.at 0
full_at p c (suc n) = if is_leader p (suc n) then c.at (suc n) else handed_next p (slice_get p.code n) (full_at p c n)

abbrev pub completion : Program → Certificate → Certificate
completion p c = record { idle = c.idle; ready = c.ready; at = full_at p c; lines = length p.code }

-- what a certificate means: its completion, or the states that it gives
abbrev pub meant : Program → Cert → Certificate
meant p c = if c.slim then completion p (seen_cert c) else seen_cert c

-- When a certificate is accepted.

-- states are given at heads alone
abbrev pub at_leaders : Program → Certificate → Bool
at_leaders p c = all_below c.lines (λ pc. is_leader p pc || not (is_some (c.at pc)))

-- the shape of what a slim certificate gives
abbrev pub is_slim_shape : Program → Cert → Bool
is_slim_shape p c = not c.slim || (has_shape p (seen_cert c) && at_leaders p (seen_cert c))

-- the first refusal of its states: of what is given, and then of what is meant
abbrev pub states_refusal : Program → Cert → Option CheckRefusal
states_refusal p c = or_else (unless (is_slim_shape p c) 0 Shape) (first_refusal p (meant p c))

-- the first refusal: by the shape that version 2 names, and then of the states
abbrev pub cert_refusal : Program → Cert → Option CheckRefusal
cert_refusal p c = or_else (unless (names_shape p c.version) 0 Shape) (states_refusal p c)

pub record Accepts (p : Program) (c : Cert) : Type 0 where
  pub named : names_shape p c.version ≡ true
  pub given : is_slim_shape p c ≡ true
  pub typed : IsTyped p (meant p c)

-- The slim form.

abbrev pub slim_of : Program → Certificate → Certificate
slim_of p c = record { idle = c.idle; ready = c.ready; at = λ pc. if is_leader p pc then c.at pc else None; lines = c.lines }

-- a slim certificate is its own slim form
abbrev pub slim_form : Program → Cert → Certificate
slim_form p c = if c.slim then seen_cert c else slim_of p (seen_cert c)

-- from the last line on there is no state
abbrev pub EndsWithLines : Certificate → Type 0
EndsWithLines c = (pc : ℕ) → c.lines ≤ pc → c.at pc ≡ None

-- what is accepted is accepted in its slim form
abbrev pub SlimIsTyped : Type 0
SlimIsTyped = (p : Program) (c : Certificate) → IsModule p → AreFormed c → EndsWithLines c → IsTyped p c → IsTyped p (completion p (slim_of p c))
