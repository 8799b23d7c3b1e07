-- When a module is accepted with a certificate. No state is below none. An edge that cannot be taken, and an idle or ready that is
-- none, ask for nothing.
use Rattle.std.specs.Prelude.{◌≡◌, ℕ, zero, suc, ◌+◌, Bool, true, false, ◌&&◌, not, ◌==◌, nat_lt, nat_le, if◌then◌else◌, length, Option, Some, None, Result, Ok, Err, slice_get, unwrap_or}
use Rattle.module_code.specs.declared.instr.Instr.{Instr}
use Rattle.module_code.specs.declared.instr.Instr.TheVariants as instr
use Rattle.module_code.specs.Program.{Program, target}
use Rattle.run_model.specs.declared.fault.FaultKind.{FaultKind}
use Rattle.life_state.specs.States.{State}
use Rattle.life_state.specs.Facts.{is_set}
use Rattle.life_state.specs.InForm.{is_formed}
use Rattle.life_state.specs.Order.{all_below, leq}
use Rattle.life_state.specs.Rules.{Edges, rule, at_open, at_main, at_return, at_end_of_request}
use Rattle.life_check.specs.declared.refusal.CheckRefusal.{CheckRefusal}
use Rattle.life_check.specs.declared.refusal.Rule.{Rule}
use Rattle.life_check.specs.declared.refusal.Rule.TheVariants.{Shape, Entry, May, Flow, Exit, Request}
use Rattle.life_check.specs.Certificates.{Certificate}

-- the state is below the one that is given
abbrev pub is_below : State → Option State → Bool
is_below s None = false
is_below s (Some t) = leq s t

-- what can be reached is below what is given there
abbrev pub flows : Option State → Option State → Bool
flows None t = true
flows (Some s) t = is_below s t

-- The shape. Each state is in form.

-- the state is of the module's variables
abbrev pub declares : Program → State → Bool
declares p s = (s.pool_count == length p.pools) && (s.brigade_count == length p.brigades)

-- whether `in` is given: its variable cannot be null
abbrev pub has_in : State → Bool
has_in s = not (s.brigades 8).null

abbrev pub has_no_cursor : State → Bool
has_no_cursor s = all_below 9 (λ k. not (is_set (s.cursors k)))

-- between calls there is neither `in` nor a cursor
abbrev pub fits_between : Program → Option State → Bool
fits_between p None = true
fits_between p (Some s) = declares p s && not (has_in s) && has_no_cursor s && is_formed s

-- a line is for an instruction, and has `in` exactly in `main`
abbrev pub fits_line : Program → ℕ → Option State → Bool
fits_line p pc None = true
fits_line p pc (Some s) = declares p s && nat_lt pc (length p.code) && (if nat_le p.main pc then has_in s else not (has_in s)) && is_formed s

abbrev pub fits_lines : Program → Certificate → Bool
fits_lines p c = all_below c.lines (λ pc. fits_line p pc (c.at pc))

abbrev pub has_shape : Program → Certificate → Bool
has_shape p c = fits_between p c.idle && fits_between p c.ready && fits_lines p c

-- Where handlers begin.

abbrev pub main_from : Option State → Option State
main_from None = None
main_from (Some s) = Some (at_main s)

abbrev pub opens : Program → Certificate → Bool
opens p c = is_below (at_open (length p.pools) (length p.brigades)) (c.at 0)

abbrev pub inits : Program → Certificate → Bool
inits p c = flows c.idle (c.at p.init)

abbrev pub serves : Program → Certificate → Bool
serves p c = flows (main_from c.ready) (c.at p.main)

-- Where calls and requests end.

-- what a return leads to: idle from `open`, ready from `init` and `main`
abbrev pub left_by : Program → Certificate → ℕ → Option State
left_by p c pc = if nat_lt pc p.init then c.idle else c.ready

abbrev pub exits : Program → Certificate → ℕ → Instr → State → Bool
exits p c pc (instr.Ret t) s = is_below (at_return s) (left_by p c pc)
exits p c pc _ s = true

abbrev pub request_end : Program → Option State → Option State
request_end p None = None
request_end p (Some s) = Some (at_end_of_request p s)

abbrev pub requests : Program → Certificate → Bool
requests p c = flows (request_end p c.ready) c.idle

-- Instructions.

-- what an instruction leads to is below what is given there
abbrev pub leads_on : Certificate → ℕ → Instr → Edges → Bool
leads_on c pc i e = flows e.next (c.at (pc + 1)) && flows e.jump (c.at (unwrap_or (target i) 0))

-- The first refusal.

abbrev pub refusal : ℕ → Rule → CheckRefusal
refusal pc r = record { pc = pc; rule = r }

abbrev pub unless : Bool → ℕ → Rule → Option CheckRefusal
unless true pc r = None
unless false pc r = Some (refusal pc r)

abbrev pub or_else : Option CheckRefusal → Option CheckRefusal → Option CheckRefusal
or_else None later = later
or_else (Some r) later = Some r

-- the first at an index below n
unfoldable pub first_below : ℕ → (ℕ → Option CheckRefusal) → Option CheckRefusal
first_below zero f = None
first_below (suc n) f = or_else (first_below n f) (f n)

abbrev pub entry_refusal : Program → Certificate → Option CheckRefusal
entry_refusal p c = or_else (unless (opens p c) 0 Entry) (or_else (unless (inits p c) p.init Entry) (unless (serves p c) p.main Entry))

-- by what the rule answers
abbrev pub step_refusal : Program → Certificate → ℕ → Instr → State → Result Edges FaultKind → Option CheckRefusal
step_refusal p c pc i s (Err k) = Some (refusal pc (May k))
step_refusal p c pc i s (Ok e) = or_else (unless (leads_on c pc i e) pc Flow) (unless (exits p c pc i s) pc Exit)

-- the refusal of one instruction in its state
abbrev pub line_refusal : Program → Certificate → ℕ → Option Instr → Option State → Option CheckRefusal
line_refusal p c pc (Some i) (Some s) = step_refusal p c pc i s (rule p i s)
line_refusal p c pc _ _ = None

abbrev pub refusal_at : Program → Certificate → ℕ → Option CheckRefusal
refusal_at p c pc = line_refusal p c pc (slice_get p.code pc) (c.at pc)

unfoldable pub first_refusal : Program → Certificate → Option CheckRefusal
first_refusal p c =
    or_else (unless (has_shape p c) 0 Shape) (or_else (entry_refusal p c)
    (or_else (first_below (length p.code) (refusal_at p c)) (unless (requests p c) 0 Request)))

-- the answer is this refusal, or there is none
abbrev pub IsAnswer : Option CheckRefusal → Result (Unit {0}) CheckRefusal → Type 0
IsAnswer first (Ok u) = first ≡ None
IsAnswer first (Err r) = first ≡ Some r

-- The same without an order.

-- the instruction cannot have a fault, and what it leads to or leaves behind is below what is given there
pub record IsLed (p : Program) (c : Certificate) (pc : ℕ) (i : Instr) (s : State) : Type 0 where
  pub edges : Edges
  pub safe : rule p i s ≡ Ok edges
  pub leads : leads_on c pc i edges ≡ true
  pub exits : exits p c pc i s ≡ true

-- no rule refuses
pub record IsTyped (p : Program) (c : Certificate) : Type 0 where
  pub shape : has_shape p c ≡ true
  pub opens : opens p c ≡ true
  pub inits : inits p c ≡ true
  pub serves : serves p c ≡ true
  pub lines : (pc : ℕ) (i : Instr) (s : State) → slice_get p.code pc ≡ Some i → c.at pc ≡ Some s → IsLed p c pc i s
  pub requests : requests p c ≡ true
