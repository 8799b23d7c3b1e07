-- What is seen of a host, its world and the device of its files, and what an event does to these.
use Rattle.std.specs.Prelude.{◌≡◌, ℕ, false, Bool, List, Option, Some, None, Ok, Err, if◌then◌else◌}
use Rattle.std.specs.Str.{bytes_eq}
use Rattle.module_code.specs.Program.{Program}
use Rattle.run_model.specs.declared.event.Event.{Event}
use Rattle.run_model.specs.declared.event.Event.TheVariants as event
use Rattle.run_model.specs.declared.event.Refusal.{Refusal}
use Rattle.run_model.specs.Pools.{destroyed}
use Rattle.run_model.specs.Chains.{Connection, Common, pools_of}
use Rattle.run_model.specs.Passing.{Reads}
use Rattle.run_model.specs.Worlds.{World, Told, Answer, Done, Refused, Step, Labels, happens}
use Rattle.bucket_kinds.specs.Device.{Device, Holds, IsUnasked, is_there}
use Rattle.interp_exec.specs.CarriedOut.{ClosedWith}
use Rattle.module_run.specs.OpenedFile.{IsAfterOpening, MayTell}
use Rattle.module_run.specs.Stepping.{ClosesStep, TellsStep}

pub record HostView : Type 0 where
  pub world : World
  pub device : Device

abbrev pub host_view : World → Device → HostView
host_view w d = record { world = w; device = d }

-- The file of a new name was added, or there was no memory for it.
abbrev pub HasAdded : List ℕ → List ℕ → Device → Answer → Device → Type 0
HasAdded name bytes d Done e = (is_there (d.named name) ≡ false) × (e ≡ record d { named = λ q. if bytes_eq q name then Holds bytes else d.named q })
HasAdded name bytes d answer e = e ≡ d

-- A step of this connection reads what the device may give. What is refused reads nothing.
abbrev pub StepTellsReads : List Program → HostView → Option Connection → Answer → Reads → Device → Type 0
StepTellsReads chain s None answer reads e = e ≡ s.device
StepTellsReads chain s (Some c) (Step t) reads e = TellsStep s.device e chain (Ok t) (s.world.common, c) reads
StepTellsReads chain s (Some c) (Refused r) reads e = TellsStep s.device e chain (Err r) (s.world.common, c) reads
StepTellsReads chain s (Some c) answer reads e = e ≡ s.device

-- why an event was refused, if it was
abbrev pub refusal_in : Answer → Option Refusal
refusal_in (Refused r) = Some r
refusal_in answer = None

-- What an event is told is what the device may tell, and the device is e then. Files are closed where pools go (`ClosesFiles`); their names stay, and
-- the call that is to fail is as far off as before.
unfoldable pub TellsEvent : List Program → ℕ → Event → HostView → Answer → Told → Device → Type 0
TellsEvent chain k event.Open s answer told e = e ≡ s.device
TellsEvent chain k event.Begin s answer told e = e ≡ s.device
TellsEvent chain k (event.AddFile name bytes) s answer told e = HasAdded name bytes s.device answer e
TellsEvent chain k (event.OpenFile name) s answer told e = MayTell s.world.common.file s.device name told.opening × IsAfterOpening name (refusal_in answer) s.device e
TellsEvent chain k (event.Bring pieces) s answer told e = e ≡ s.device
TellsEvent chain k event.Step s answer told e = StepTellsReads chain s (s.world.conns k) answer told.reads e
TellsEvent chain k event.End s answer told e = IsUnasked s.device e
TellsEvent chain k event.TakeOutput s answer told e = e ≡ s.device
TellsEvent chain k event.TellLabels s answer told e = e ≡ s.device
TellsEvent chain k event.TellPools s answer told e = e ≡ s.device
TellsEvent chain k event.Close s answer told e = IsUnasked s.device e

-- Which files an event closed of a connection that was there: those of which the last references were on the pools that went, and no others. What is
-- refused closes none. (Of the other events `TellsEvent` says it.)
abbrev pub ClosesFiles : Device → Device → List Program → Event → Answer → Common → Option Connection → Common → Option Connection → Type 0
ClosesFiles d e chain event.Step (Step t) g (Some c) h (Some x) = ClosesStep d e chain (Ok t) (g, c) (h, x)
ClosesFiles d e chain event.End Done g (Some c) h (Some x) = ClosedWith d e c.req (pools_of g c) (pools_of h x)
ClosesFiles d e chain event.End (Refused r) g c h x = e ≡ d
ClosesFiles d e chain event.Close (Labels ls) g (Some c) h x = ClosedWith d e (Some c.conn) (pools_of g c) (destroyed c.conn (pools_of g c))
ClosesFiles d e chain event.Close (Refused r) g c h x = e ≡ d
ClosesFiles d e chain what answer g c h x = Unit {0}

-- An event of the connection of this number is answered so, and leads from one scene to another. memory: whether a growth would succeed.
pub record Answers (budget : ℕ) (chain : List Program) (number : ℕ) (what : Event) (old : HostView) (answer : Answer) (new : HostView) : Type 0 where
  pub memory : Bool
  pub told : Told
  pub is : happens memory budget chain told number what old.world ≡ (answer, new.world)
  pub tells : TellsEvent chain number what old answer told new.device
  pub closes : ClosesFiles old.device new.device chain what answer old.world.common (old.world.conns number) new.world.common (new.world.conns number)
