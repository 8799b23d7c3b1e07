-- A slot may go to another thread, as the session that it owns may.
use mir.Raw.{raw}
use base.Shift.{Keyless}
use denote.Memory.{lone}
use denote.RawPtr.{Ptr}
use denote.Struct.Struct.{exits_of}
use denote.Struct.Owning.{shape, fields, to}
use denote.Param.Send.{IsSend, AllSend, owning_send, struct_send, sendable}
use Rattle.std.specs.Prelude.{Option, Some, None}
use Rattle.libc.specs.Heap.{chunk-Keyless}
use Rattle.std_alloc.proofs.SendSync.{quiet, lies}
use Rattle.host_lib.specs.Owned.{session_owns}
use Rattle.host_lib.specs.declared.session.HostSession.{HostSession}
use Rattle.host_lib.specs.contracts.session.HostSession as held
use Rattle.host_lib.proofs.session.HostSession.TheSendSync.{the_send as session_send}
use Rattle.host_lib.specs.contracts.handle.SessionSlot.{the_row, the_type}

slot_keyless : (p : Ptr) (x : Option HostSession) → Keyless (session_owns held.the_row p x)
slot_keyless p None = tt
slot_keyless p (Some x) = (lies held.the_row session_send p x, chunk-Keyless (raw (lone held.the_row.mir)) p)

pub send : IsSend the_row
send =
    let all : AllSend (fields the_type) = (search sendable, tt) in
    owning_send the_type all (λ d. slot_keyless d.at d.value) (λ k. quiet (to the_type) (exits_of k (fields the_type)) ((struct_send (shape the_type) all).leaving k))
