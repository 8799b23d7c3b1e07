-- What is true of each call of a chain, in every run, whether it runs or waits: its buffer is in range, and its cursors hold names that
-- were given out.
use Rattle.std.specs.Prelude.{◌≡◌, ℕ, ◌<◌, ◌≤◌, length, Some, All}
use Rattle.run_model.specs.State.{Call}
use Rattle.model_laws.specs.Ranges.{AreBytes}
use Rattle.model_laws.specs.CursorLaws.{name_held}
use Rattle.run_model.specs.Chains.{Connection, Common}
use Rattle.run_model.specs.Worlds.{World}
use Rattle.model_laws.specs.KeptInRuns.{OfConnections}

-- bytes, size: what is in the buffer are bytes, no more of them than it holds. given: a cursor that is set holds a name below the next.
pub record SoundCall (next : ℕ) (call : Call) : Type 0 where
  pub bytes : AreBytes call.buffer
  pub size : length call.buffer ≤ 8000
  pub given : (c n : ℕ) → name_held (call.cursors c) ≡ Some n → n < next

abbrev pub CallsSound : Common → Connection → Type 0
CallsSound g c = All (λ f. SoundCall g.next f.call) c.stack

abbrev pub WorldCalls : World → Type 0
WorldCalls = OfConnections CallsSound
