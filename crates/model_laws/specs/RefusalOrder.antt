-- What a refused event changes, and which refusal an event answers where more than one test holds: the first in the order of `place`.
use Rattle.std.specs.Prelude.{◌≡◌, ◌≢◌, ◌⊎◌, ℕ, ◌+◌, ◌<◌, ◌≤◌, Bool, true, false, ◌&&◌, ◌||◌, not, nat_lt, if◌then◌else◌, List, ◌∷◌, length, Option, Some, None, is_some, Ok, Err}
use Rattle.std.specs.List.{list_any}
use Rattle.module_code.specs.Program.{Program}
use Rattle.run_model.specs.declared.fault.FaultKind.{FaultKind}
use Rattle.run_model.specs.declared.event.Cause.{Cause}
use Rattle.run_model.specs.declared.event.Cause.TheVariants as cause
use Rattle.run_model.specs.declared.event.Refusal.{Refusal}
use Rattle.run_model.specs.declared.event.Refusal.TheVariants as refusal
use Rattle.run_model.specs.declared.event.Event.{Event}
use Rattle.run_model.specs.declared.event.Event.TheVariants as event
use Rattle.run_model.specs.declared.event.Stepped.TheVariants as stepped
use Rattle.run_model.specs.Faults.{fault}
use Rattle.run_model.specs.Steps.{is_spent, lacks_names, grows, current}
use Rattle.run_model.specs.Pieces.{data_behind_eos, lacks_file}
use Rattle.run_model.specs.Chains.{Frame, Connection, Linked, module_at, configuration, is_last}
use Rattle.run_model.specs.Passing.{Reads, proceeds}
use Rattle.run_model.specs.Turns.{is_missing, is_failing, number_given, is_busy, calls_of, broken_by, counted, steps, puts_out}
use Rattle.run_model.specs.Worlds.{World, Told, Refused, happens}

-- A refused event changes nothing, but that a step that is refused while its call runs leaves the connection broken, by
-- the cause that it names.
abbrev pub RefusedChangesNothing : Type 0
RefusedChangesNothing = (memory : Bool) (budget : ℕ) (chain : List Program) (told : Told) (k : ℕ) (e : Event) (w new : World) (r : Refusal)
    → e ≢ event.Step → happens memory budget chain told k e w ≡ (Refused r, new) → new ≡ w

abbrev pub breaks : Cause → Linked → Linked
breaks k (g, c) = (g, record c { broken = Some k })

abbrev pub RefusedStepBreaks : Type 0
RefusedStepBreaks = (memory : Bool) (budget : ℕ) (chain : List Program) (reads : Reads) (w new : Linked) (r : Refusal)
    → steps memory budget chain reads w ≡ (Err r, new) → ((r ≡ refusal.Idle) × (new ≡ w)) ⊎ ((k : Cause) × ((r ≡ refusal.Broken k) × (new ≡ breaks k w)))

-- A fault breaks the connection and changes nothing else.
abbrev pub FaultBreaks : Type 0
FaultBreaks = (memory : Bool) (budget : ℕ) (chain : List Program) (reads : Reads) (w new : Linked) (k : FaultKind) (m pc : ℕ)
    → steps memory budget chain reads w ≡ (Ok (stepped.Fault k m pc), new) → new ≡ breaks cause.Faulted w

-- the events of a request
abbrev pub is_in_request : Event → Bool
is_in_request (event.OpenFile name) = true
is_in_request (event.Bring pieces) = true
is_in_request event.End = true
is_in_request e = false

-- the events that no call may run at
abbrev pub waits : Event → Bool
waits event.Begin = true
waits e = is_in_request e

-- the events that a broken connection does not serve
abbrev pub is_work : Event → Bool
is_work event.Step = true
is_work e = waits e

-- the same connections, and the same that they share
pub record SameWorld (old new : World) : Type 0 where
  pub conns : (j : ℕ) → new.conns j ≡ old.conns j
  pub last : new.last ≡ old.last
  pub common : new.common ≡ old.common

-- A broken connection names its cause from then on and stays as it is; only its output can be taken, its labels told, and
-- it can be closed.
abbrev pub BrokenStaysBroken : Type 0
BrokenStaysBroken = (memory : Bool) (budget : ℕ) (chain : List Program) (told : Told) (k : ℕ) (e : Event) (c : Connection) (w : World) (why : Cause)
    → w.conns k ≡ Some c → c.broken ≡ Some why → is_work e ≡ true → ((happens memory budget chain told k e w).0 ≡ Refused (refusal.Broken why)) × SameWorld w (happens memory budget chain told k e w).1

-- The order of refusals.
abbrev pub place : Refusal → ℕ
place refusal.NoSuchConn = 0
place (refusal.Broken k) = 1
place refusal.Busy = 2
place refusal.Idle = 3
place refusal.InRequest = 4
place refusal.NotInRequest = 5
place refusal.DataAfterEos = 6
place refusal.NoFile = 7
place refusal.FileFailed = 8
place refusal.NamesSpent = 9
place refusal.NoMemory = 10

abbrev pub is_step : Event → Bool
is_step event.Step = true
is_step e = false

abbrev pub is_begin : Event → Bool
is_begin event.Begin = true
is_begin e = false

-- whether it brings data behind an EOS
abbrev pub brings_late : Event → Bool
brings_late (event.Bring pieces) = data_behind_eos pieces
brings_late e = false

-- whether an event is of a connection: all but those that open one, add a file or tell the pools
abbrev pub is_of_connection : Event → Bool
is_of_connection event.Open = false
is_of_connection (event.AddFile name bytes) = false
is_of_connection event.TellPools = false
is_of_connection e = true

-- Of a connection that is there, or is not.

abbrev pub cause_of : Option Connection → Option Cause
cause_of None = None
cause_of (Some c) = c.broken

abbrev pub runs_call : Option Connection → Bool
runs_call None = false
runs_call (Some c) = is_busy c.stack

abbrev pub has_request : Option Connection → Bool
has_request None = false
has_request (Some c) = is_some c.req

-- whether it wants a file, or a range of one, that is not there
abbrev pub lacks_a_file : Event → Told → Option Connection → Bool
lacks_a_file (event.OpenFile name) told c = is_missing told.opening
lacks_a_file (event.Bring pieces) told (Some c) = list_any (lacks_file c.files) pieces
lacks_a_file e told c = false

-- whether the device fails where it opens a file
abbrev pub fails_to_open : Event → Told → Bool
fails_to_open (event.OpenFile name) told = is_failing told.opening
fails_to_open e told = false

-- whether it would have to give out a name that is not there
abbrev pub lacks_a_name : Event → Told → World → Bool
lacks_a_name event.Open told w = is_spent (w.last + 1) 1 || (is_spent w.common.pools 1 || is_spent w.common.next 1)
lacks_a_name event.Begin told w = is_spent w.common.pools 1 || is_spent w.common.next 1
lacks_a_name (event.OpenFile name) told w = is_spent (number_given w.common told.opening) 1
lacks_a_name (event.Bring pieces) told w = is_spent w.common.next (2 + length pieces)
lacks_a_name e told w = false

-- the events that want memory
abbrev pub is_growing : Event → Bool
is_growing event.Open = true
is_growing (event.AddFile name bytes) = true
is_growing event.Close = true
is_growing e = waits e

-- the test of each refusal
pub record Tests : Type 0 where
  pub no_such_conn : Bool
  pub broken : Option Cause
  pub busy : Bool
  pub idle : Bool
  pub in_request : Bool
  pub not_in_request : Bool
  pub data_after_eos : Bool
  pub no_file : Bool
  pub file_failed : Bool
  pub names_spent : Bool
  pub no_memory : Bool

-- of an event of this connection, if it is there
abbrev pub tests : Bool → Told → Event → Option Connection → World → Tests
tests memory told e c w = record {
  no_such_conn = is_of_connection e && not (is_some c);
  broken = if is_work e then cause_of c else None;
  busy = waits e && runs_call c;
  idle = is_step e && not (runs_call c);
  in_request = is_begin e && has_request c;
  not_in_request = is_in_request e && not (has_request c);
  data_after_eos = brings_late e;
  no_file = lacks_a_file e told c;
  file_failed = fails_to_open e told;
  names_spent = lacks_a_name e told w;
  no_memory = is_growing e && not memory;
}

-- The test of this refusal holds.
abbrev pub TestHolds : Tests → Refusal → Type 0
TestHolds t refusal.NoSuchConn = t.no_such_conn ≡ true
TestHolds t (refusal.Broken k) = t.broken ≡ Some k
TestHolds t refusal.Busy = t.busy ≡ true
TestHolds t refusal.Idle = t.idle ≡ true
TestHolds t refusal.InRequest = t.in_request ≡ true
TestHolds t refusal.NotInRequest = t.not_in_request ≡ true
TestHolds t refusal.DataAfterEos = t.data_after_eos ≡ true
TestHolds t refusal.NoFile = t.no_file ≡ true
TestHolds t refusal.FileFailed = t.file_failed ≡ true
TestHolds t refusal.NamesSpent = t.names_spent ≡ true
TestHolds t refusal.NoMemory = t.no_memory ≡ true

-- A refusal is due: its test holds, and no test of an earlier one does.
pub record IsFirstRefusal (t : Tests) (r : Refusal) : Type 0 where
  pub holds : TestHolds t r
  pub first : (s : Refusal) → place s < place r → TestHolds t s → ⊥

-- An event but a step is refused exactly by the refusal that is due.
abbrev pub FirstIsTold : Type 0
FirstIsTold = (memory : Bool) (budget : ℕ) (chain : List Program) (told : Told) (k : ℕ) (e : Event) (w : World) (r : Refusal) → e ≢ event.Step
    → ((happens memory budget chain told k e w).0 ≡ Refused r → IsFirstRefusal (tests memory told e (w.conns k) w) r)
    × (IsFirstRefusal (tests memory told e (w.conns k) w) r → (happens memory budget chain told k e w).0 ≡ Refused r)

-- Where no connection is there, this is told before all else.
abbrev pub NoConnectionIsTold : Type 0
NoConnectionIsTold = (memory : Bool) (budget : ℕ) (chain : List Program) (told : Told) (k : ℕ) (e : Event) (w : World) → w.conns k ≡ None → is_of_connection e ≡ true
    → happens memory budget chain told k e w ≡ (Refused refusal.NoSuchConn, w)

-- whether what the call on top wants of names is there
abbrev pub lacks_for : List Program → Linked → Frame → List Frame → Bool
lacks_for chain (g, c) f rest = (let i = current (module_at chain f.of) f.pc in lacks_names (configuration g c f) i || is_spent g.next (calls_of (is_last chain c f.of) i rest c.queue))

-- whether its instruction wants memory
abbrev pub grows_for : List Program → Linked → Frame → List Frame → Bool
grows_for chain (g, c) f rest = (let i = current (module_at chain f.of) f.pc in grows (configuration g c f) i || nat_lt 0 (calls_of (is_last chain c f.of) i rest c.queue) || puts_out chain f (g, c))

abbrev pub fault_of : List Program → Linked → Frame → Option FaultKind
fault_of chain (g, c) f = fault (module_at chain f.of) (configuration g c f) (current (module_at chain f.of) f.pc)

-- What a step answers. refused: a refusal that is due, as of other events. Where none is due, f is the call on top, and
-- out_of_steps: the connection breaks where the budget is met; faulted: else a fault is told; no_name, no_memory: else it breaks where a
-- name is not there, and else where memory is not; made: else the step is made.
pub record StepTells (memory : Bool) (budget : ℕ) (chain : List Program) (told : Told) (c : Connection) (w : World) : Type 0 where
  pub refused : (r : Refusal) → IsFirstRefusal (tests memory told event.Step (Some c) w) r → steps memory budget chain told.reads (w.common, c) ≡ (Err r, (w.common, c))
  pub out_of_steps : (f : Frame) (rest : List Frame) → c.broken ≡ None → c.stack ≡ f ∷ rest → budget ≤ c.count
      → steps memory budget chain told.reads (w.common, c) ≡ broken_by cause.OutOfSteps (w.common, c)
  pub faulted : (f : Frame) (rest : List Frame) (k : FaultKind) → c.broken ≡ None → c.stack ≡ f ∷ rest → c.count < budget → fault_of chain (w.common, c) f ≡ Some k
      → steps memory budget chain told.reads (w.common, c) ≡ (Ok (stepped.Fault k f.of f.pc), breaks cause.Faulted (w.common, c))
  pub no_name : (f : Frame) (rest : List Frame) → c.broken ≡ None → c.stack ≡ f ∷ rest → c.count < budget → fault_of chain (w.common, c) f ≡ None → lacks_for chain (w.common, c) f rest ≡ true
      → steps memory budget chain told.reads (w.common, c) ≡ broken_by cause.NamesSpent (w.common, c)
  pub no_memory : (f : Frame) (rest : List Frame) → c.broken ≡ None → c.stack ≡ f ∷ rest → c.count < budget → fault_of chain (w.common, c) f ≡ None → lacks_for chain (w.common, c) f rest ≡ false
      → memory ≡ false → grows_for chain (w.common, c) f rest ≡ true → steps memory budget chain told.reads (w.common, c) ≡ broken_by cause.NoMemory (w.common, c)
  pub made : (f : Frame) (rest : List Frame) → c.broken ≡ None → c.stack ≡ f ∷ rest → c.count < budget → fault_of chain (w.common, c) f ≡ None → lacks_for chain (w.common, c) f rest ≡ false
      → (memory || not (grows_for chain (w.common, c) f rest)) ≡ true
      → steps memory budget chain told.reads (w.common, c) ≡ counted (proceeds chain told.reads (current (module_at chain f.of) f.pc) f rest (w.common, c))

abbrev pub StepsTell : Type 0
StepsTell = (memory : Bool) (budget : ℕ) (chain : List Program) (told : Told) (c : Connection) (w : World) → StepTells memory budget chain told c w

-- An end while a call runs is refused.
abbrev pub BusyDoesNotEnd : Type 0
BusyDoesNotEnd = (memory : Bool) (budget : ℕ) (chain : List Program) (told : Told) (k : ℕ) (c : Connection) (w : World)
    → w.conns k ≡ Some c → c.broken ≡ None → is_busy c.stack ≡ true → happens memory budget chain told k event.End w ≡ (Refused refusal.Busy, w)

-- A close is never refused but for memory, also where the connection is broken or a call runs.
abbrev pub OnlyMemoryRefusesClose : Type 0
OnlyMemoryRefusesClose = (memory : Bool) (budget : ℕ) (chain : List Program) (told : Told) (k : ℕ) (c : Connection) (w : World) (r : Refusal)
    → w.conns k ≡ Some c → (happens memory budget chain told k event.Close w).0 ≡ Refused r → (r ≡ refusal.NoMemory) × (memory ≡ false)
