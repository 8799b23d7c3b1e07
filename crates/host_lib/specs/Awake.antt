-- A session whose host stands for a world, and a handle that holds one or none.
use Rattle.std.specs.Prelude.{Bool, true, false, Option, Some, None}
use Rattle.bucket_kinds.specs.MemDevice.{mem_device}
use Rattle.bucket_kinds.specs.declared.mem_files.MemFiles.{MemFiles}
use Rattle.filter_chain.specs.Hosting.{Ghosts, Stored}
use Rattle.filter_chain.specs.Led.{IsAlive}
use Rattle.filter_chain.specs.Safe.{IsSafe}
use Rattle.filter_chain.specs.declared.host.Host.{Host}
use Rattle.host_lib.specs.declared.session.HostSession.{HostSession}
use Rattle.host_lib.specs.declared.handle.Handle.{Handle}

-- The host stands for a world, and its chain never faults.
pub record IsAwakeHost {R : Type 0} {g : Ghosts R Stored} (host : Host MemFiles R g) : Type 0 where
  pub alive : IsAlive mem_device host
  pub safe : IsSafe host

abbrev pub IsAwake : HostSession → Type 0
IsAwake s = IsAwakeHost s.host

-- There is a session, and it is awake.
abbrev pub HoldsSession : Option HostSession → Type 0
HoldsSession None = ⊥
HoldsSession (Some s) = IsAwake s

abbrev pub IsReadyAt : Bool → Option HostSession → Type 0
IsReadyAt false None = Unit {0}
IsReadyAt false (Some s) = ⊥
IsReadyAt true None = ⊥
IsReadyAt true (Some s) = IsAwake s

-- The handle holds a session that is awake, and says so; or it holds none, and says so.
abbrev pub IsReadyHandle : Handle → Type 0
IsReadyHandle h = IsReadyAt h.held h.slot.value
