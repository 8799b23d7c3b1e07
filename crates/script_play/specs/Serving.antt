-- What the parts of a command leave of a host.
use Rattle.std.specs.Prelude.{◌≡◌, ℕ, List, Result, Ok, Err}
use Rattle.module_code.specs.Program.{Program}
use Rattle.run_model.specs.declared.event.Event.TheVariants as event
use Rattle.run_model.specs.declared.event.Piece.{Piece}
use Rattle.run_model.specs.declared.event.Piece.TheVariants as piece
use Rattle.run_model.specs.declared.event.Refusal.{Refusal}
use Rattle.run_model.specs.Worlds.{World}
use Rattle.bucket_kinds.specs.declared.mem_files.MemFiles.{MemFiles}
use Rattle.filter_chain.specs.declared.host.Host.{Host}
use Rattle.filter_chain.specs.Hosting.{Ghosts, Stored, IsHosting, budget_of, chain_of, file_answer}
use Rattle.filter_chain.specs.HostViews.{HostView, Answers, host_view}
use Rattle.script_text.specs.declared.pieces.ScriptPiece.{ScriptPiece}
use Rattle.script_text.specs.declared.pieces.ScriptPiece.TheVariants as script_piece
use Rattle.script_play.specs.Sessions.{device}

-- what an opened file makes of a range
abbrev pub ranged : Result (ℕ × ℕ) Refusal → ℕ → ℕ → Result Piece Refusal
ranged (Err r) start len = Err r
ranged (Ok file) start len = Ok (piece.File file.0 start len)

-- A piece can be brought now, or its file was not opened.
abbrev pub IsReadied : ℕ → List Program → ℕ → ScriptPiece → HostView → Result Piece Refusal → HostView → Type 0
IsReadied budget chain number (script_piece.Ready x) old r new = (r ≡ Ok x) × (new ≡ old)
IsReadied budget chain number (script_piece.Range name start len) old r new =
    (answer : Result (ℕ × ℕ) Refusal) × Answers budget chain number (event.OpenFile name) old (file_answer answer) new × (r ≡ ranged answer start len)

pub record MakesReady {R : Type 0} {g : Ghosts R Stored} (old new : Host MemFiles R g) (number : ℕ) (x : ScriptPiece) (r : Result Piece Refusal) (w : World) : Type 0 where
  pub to : World
  pub readied : IsReadied (budget_of old) (chain_of old) number x (host_view w (device old)) r (host_view to (device new))
  pub hosts : IsHosting (device new) new to
  pub chain : chain_of new ≡ chain_of old
  pub budget : budget_of new ≡ budget_of old
