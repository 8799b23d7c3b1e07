-- Cursors hold names that were given out, and what they name is in one place, in every run of a chain.
use Rattle.std.specs.Prelude.{◌≡◌, ℕ, ◌<◌, List, ◌∷◌, ◌++◌, length, Some, All}
use Rattle.module_code.specs.Program.{Program}
use Rattle.run_model.specs.declared.bucket.Cursor.{Cursor}
use Rattle.run_model.specs.declared.event.Event.{Event}
use Rattle.run_model.specs.Cursors.{place_of_cursor}
use Rattle.run_model.specs.State.{Call, fresh_call}
use Rattle.model_laws.specs.CursorLaws.{name_held, StandsOnce}
use Rattle.run_model.specs.Chains.{Frame, Connection, Common, configuration, IsChain, places}
use Rattle.run_model.specs.Worlds.{World, Answer, IsWholeRun}
use Rattle.model_laws.specs.ChainSound.{WorldSound}
use Rattle.model_laws.specs.KeptInRuns.{OfConnections}

-- A cursor of a call that is set holds a name that was given out, where this is the next.
pub record HoldsGiven (next : ℕ) (call : Call) : Type 0 where
  pub given : (c n : ℕ) → name_held (call.cursors c) ≡ Some n → n < next

-- So it is with each call, whether it runs or waits.
abbrev pub CursorsGiven : Common → Connection → Type 0
CursorsGiven g c = All (λ f. HoldsGiven g.next f.call) c.stack

abbrev pub WorldCursors : World → Type 0
WorldCursors = OfConnections CursorsGiven

-- Of each call, whether it runs or waits: a bucket that a cursor names is in exactly one list of what the call sees, once, in one
-- brigade or loose, and it is nowhere only where no list has it. The same is true of a brigade at whose end a cursor is.
abbrev pub CallsStandOnce : Common → Connection → Type 0
CallsStandOnce g c = (above below : List Frame) (f : Frame) (v : Cursor) → c.stack ≡ above ++ f ∷ below → StandsOnce (configuration g c f) v (place_of_cursor (configuration g c f) v)

-- So it is with what an instance of the chain has where no call is.
abbrev pub InstancesStandOnce : List Program → Common → Connection → Type 0
InstancesStandOnce chain g c = (k : ℕ) (v : Cursor) → k < places chain
    → (let r = configuration g c (record { of = k; call = fresh_call 0; pc = 0 }) in StandsOnce r v (place_of_cursor r v))

abbrev pub WorldStandsOnce : List Program → World → Type 0
WorldStandsOnce chain = OfConnections (λ g c. CallsStandOnce g c × InstancesStandOnce chain g c)

-- It is so in each world that is sound, and so in each that a run reaches.
abbrev pub SoundWorldStandsOnce : Type 0
SoundWorldStandsOnce = (chain : List Program) (w : World) → WorldSound chain w → WorldStandsOnce chain w

abbrev pub WorldRunStandsOnce : Type 0
WorldRunStandsOnce = (budget : ℕ) (chain : List Program) (es : List (ℕ × Event)) (answers : List Answer) (w : World) → IsChain chain → IsWholeRun budget chain es answers w → WorldStandsOnce chain w
