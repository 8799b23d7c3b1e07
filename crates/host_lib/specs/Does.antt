-- What a call of a session does, in the model.
use Rattle.std.specs.Prelude.{◌≡◌, ℕ, ◌-◌, Bool, List, [], Result, is_some}
use Rattle.module_code.specs.Program.{Program}
use Rattle.run_model.specs.Indexed.{upd}
use Rattle.run_model.specs.declared.event.Event.{Event}
use Rattle.run_model.specs.declared.event.Piece.{Piece}
use Rattle.run_model.specs.declared.event.Refusal.{Refusal}
use Rattle.run_model.specs.declared.event.Stepped.{Stepped}
use Rattle.run_model.specs.Worlds.{World, Answer}
use Rattle.bucket_kinds.specs.MemDevice.{mem_device}
use Rattle.filter_chain.specs.Hosting.{IsHosting, Happens, files_of}
use Rattle.filter_chain.specs.HostViews.{HostView}
use Rattle.filter_chain.specs.Led.{Refines}
use Rattle.filter_chain.specs.Running.{StepsOn}
use Rattle.host_lib.specs.Pieces.{pieces_at}
use Rattle.host_lib.specs.declared.session.HostSession.{HostSession}

-- the pieces that a connection is brought next
abbrev pub pieces_of : HostSession → ℕ → List Piece
pieces_of s number = pieces_at s.pieces number

-- Each connection has the pieces that it had.
abbrev pub KeepsPieces : HostSession → HostSession → Type 0
KeepsPieces s t = (n : ℕ) → pieces_of t n ≡ pieces_of s n

-- This connection has no pieces, and each other those that it had.
abbrev pub DropsPieces : ℕ → HostSession → HostSession → Type 0
DropsPieces number s t = (n : ℕ) → pieces_of t n ≡ upd (pieces_of s) number [] n

-- The session's host stands for this world.
abbrev pub SessionStandsFor : HostSession → World → Type 0
SessionStandsFor s w = IsHosting (mem_device (files_of s.host)) s.host w

-- A connection has this number, or none has.
abbrev pub HasConnection : HostSession → ℕ → Bool → Type 0
HasConnection s number is = (w : World) → SessionStandsFor s w → is_some (w.conns number) ≡ is

-- From each world that the session stands for, this event of this connection was answered so, and the session stands for what it leaves.
abbrev pub Does : HostSession → HostSession → ℕ → Event → Answer → Type 0
Does s t number what answer =
    (w : World) → SessionStandsFor s w → Happens (mem_device (files_of s.host)) (mem_device (files_of t.host)) s.host t.host number what answer w

-- Steps were made until one answered something else than that it went, at most `most`; where that is 0, one.
abbrev pub RunsUpTo : ℕ → HostSession → HostSession → ℕ → Result Stepped Refusal → Type 0
RunsUpTo most s t number answer = Refines mem_device s.host t.host (λ (b : ℕ) (c : List Program) (x y : HostView). StepsOn b c number (most - 1) x answer y)
