-- What C is told of the output of a connection.
use Rattle.std.specs.Prelude.{◌≡◌, ℕ, ◌<◌, ◌≤◌, List, [], ◌++◌, length, drop, Result, Ok, Err}
use Rattle.run_model.specs.declared.event.Event.TheVariants.{TakeOutput}
use Rattle.run_model.specs.declared.event.Refusal.{Refusal}
use Rattle.run_model.specs.Worlds.{World}
use Rattle.bucket_kinds.specs.MemDevice.{mem_device}
use Rattle.filter_chain.specs.Hosting.{Happens, files_of, output_answer, output_in}
use Rattle.host_lib.specs.Does.{SessionStandsFor}
use Rattle.host_lib.specs.declared.session.HostSession.{HostSession}

-- the bytes; none where there is no connection
abbrev pub bytes_in : Result (List ℕ) Refusal → List ℕ
bytes_in (Ok bytes) = bytes
bytes_in (Err r) = []

-- So many bytes there are. Where they fit they are the front of what was there, and the rest is as it was; else all of it is.
abbrev pub CopiesBytes : List ℕ → List ℕ → List ℕ → ℕ → Type 0
CopiesBytes bytes old new n = (n ≡ length bytes) × (n ≤ length old → new ≡ bytes ++ drop n old) × (length old < n → new ≡ old)

-- In this world the connection's output is so long. Where the buffer has room the output is its front, and is taken, and the rest of the buffer is
-- as it was; else the buffer and the session are as they were.
pub record TellsOutputIn (number : ℕ) (old new : List ℕ) (n : ℕ) (s t : HostSession) (w : World) : Type 0 where
  pub counted : n ≡ length (bytes_in (output_in (w.conns number)))
  pub copied : n ≤ length old → new ≡ bytes_in (output_in (w.conns number)) ++ drop n old
  pub taken : n ≤ length old → Happens (mem_device (files_of s.host)) (mem_device (files_of t.host)) s.host t.host number TakeOutput (output_answer (output_in (w.conns number))) w
  pub left : length old < n → new ≡ old
  pub kept : length old < n → t ≡ s

abbrev pub TellsOutput : ℕ → List ℕ → List ℕ → ℕ → HostSession → HostSession → Type 0
TellsOutput number old new n s t = (w : World) → SessionStandsFor s w → TellsOutputIn number old new n s t w
