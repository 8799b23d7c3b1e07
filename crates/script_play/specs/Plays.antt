-- What the commands of a script may answer, and what each leaves of the host.
use Rattle.std.specs.Prelude.{◌≡◌, ℕ, ◌-◌, Bool, true, false, not, if◌then◌else◌, List, [], ◌∷◌, ◌++◌, Option, Some, None, Result, Ok, Err}
use Rattle.std.specs.List.{repeat}
use Rattle.module_code.specs.Program.{Program}
use Rattle.byte_text.specs.TextLines.{RawLine}
use Rattle.run_model.specs.declared.event.Event.{Event}
use Rattle.run_model.specs.declared.event.Event.TheVariants as event
use Rattle.run_model.specs.declared.event.Refusal.{Refusal}
use Rattle.run_model.specs.declared.event.Stepped.{Stepped}
use Rattle.run_model.specs.declared.event.Stepped.TheVariants as stepped
use Rattle.run_model.specs.declared.event.Piece.{Piece}
use Rattle.run_model.specs.declared.event.Piece.TheVariants as piece
use Rattle.run_model.specs.Worlds.{Answer, Done, Refused, Connected, Step, Output, Opened, Labels, Tree}
use Rattle.bucket_kinds.specs.Device.{Device, is_there}
use Rattle.pool_tree.specs.Printed.{payload_text, printed}
use Rattle.filter_chain.specs.Hosting.{step_answer, file_answer}
use Rattle.filter_chain.specs.Running.{StepsToEnd, StepsOn}
use Rattle.filter_chain.specs.HostViews.{HostView, Answers}
use Rattle.script_text.specs.declared.command.Command.{Command}
use Rattle.script_text.specs.declared.command.Command.TheVariants as command
use Rattle.script_text.specs.declared.file_line.FileLine.{FileLine}
use Rattle.script_text.specs.declared.pieces.ScriptPiece.{ScriptPiece}
use Rattle.script_text.specs.declared.pieces.ScriptPiece.TheVariants as script_piece
use Rattle.script_text.specs.declared.reply.CommandReply.{CommandReply}
use Rattle.script_text.specs.declared.reply.CommandReply.TheVariants as reply
use Rattle.script_text.specs.Scripts.{command_at}

-- how an answer of the host is told; the root of its pools is 1
abbrev pub reply_of : Answer → CommandReply
reply_of Done = reply.Done
reply_of (Refused r) = reply.Refused r
reply_of (Connected n) = reply.Connected n
reply_of (Step s) = reply.Stepped s
reply_of (Output bytes) = reply.Output bytes
reply_of (Opened file len) = reply.Done
reply_of (Labels labels) = reply.Labels labels
reply_of (Tree root pools) = reply.Pools (printed payload_text pools 0 root)

-- how steps are told of which so many were asked for
abbrev pub steps_reply : ℕ → Result Stepped Refusal → CommandReply
steps_reply n (Ok stepped.Went) = reply.Went n
steps_reply n (Ok (stepped.CallEnded s)) = reply.Stepped (stepped.CallEnded s)
steps_reply n (Ok (stepped.Fault k m pc)) = reply.Stepped (stepped.Fault k m pc)
steps_reply n (Err r) = reply.Refused r

-- the bytes of the file that a line adds
abbrev pub file_bytes : FileLine → List ℕ
file_bytes f = repeat f.count f.text

abbrev pub IfOpened : Result (ℕ × ℕ) Refusal → (Refusal → Type 0) → (ℕ → Type 0) → Type 0
IfOpened (Err r) refused opened = refused r
IfOpened (Ok f) refused opened = opened f.0

module _ (budget : ℕ) (chain : List Program) where
  -- An event of the connection of this number is told so, and leads from one scene to another.
  pub record RepliesTo (number : ℕ) (what : Event) (old : HostView) (r : CommandReply) (new : HostView) : Type 0 where
    pub answer : Answer
    pub acts : Answers budget chain number what old answer new
    pub told : r ≡ reply_of answer

  -- Steps are made until one answers something else than that it went, or until they are n. One at least is made.
  pub record MakesSteps (number n : ℕ) (old : HostView) (r : CommandReply) (new : HostView) : Type 0 where
    pub answer : Result Stepped Refusal
    pub steps : StepsOn budget chain number (n - 1) old answer new
    pub told : r ≡ steps_reply n answer

  -- Steps are made until one answers something else than that it went.
  pub record RunsTo (number : ℕ) (old : HostView) (r : CommandReply) (new : HostView) : Type 0 where
    pub answer : Result Stepped Refusal
    pub runs : StepsToEnd budget chain number old answer new
    pub told : r ≡ reply_of (step_answer answer)

  -- The files of ranges are opened, from left to right, and then the brigade of all pieces is brought. The first refusal is the answer; files that
  -- were opened before it stay open. ready: the pieces before these.
  unfoldable pub BringsPieces : ℕ → List Piece → List ScriptPiece → HostView → CommandReply → HostView → Type 0
  BringsPieces number ready [] old r new = RepliesTo number (event.Bring ready) old r new
  BringsPieces number ready (script_piece.Ready x ∷ xs) old r new = BringsPieces number (ready ++ x ∷ []) xs old r new
  BringsPieces number ready (script_piece.Range name start len ∷ xs) old r new =
      (answer : Result (ℕ × ℕ) Refusal) × (mid : HostView) × Answers budget chain number (event.OpenFile name) old (file_answer answer) mid
      × IfOpened answer (λ why. (r ≡ reply.Refused why) × (new ≡ mid)) (λ file. BringsPieces number (ready ++ piece.File file start len ∷ []) xs mid r new)

  -- A command may answer so, and lead from one scene to another. (Want of memory for a file that is added ends the play.)
  unfoldable pub AnswersCommand : Command → HostView → CommandReply → HostView → Type 0
  AnswersCommand command.Open old r new = RepliesTo 0 event.Open old r new
  AnswersCommand (command.File f) old r new = (r ≡ reply.Done) × Answers budget chain 0 (event.AddFile f.name (file_bytes f)) old Done new
  AnswersCommand (command.Begin k) old r new = RepliesTo k event.Begin old r new
  AnswersCommand (command.End k) old r new = RepliesTo k event.End old r new
  AnswersCommand (command.Bring k pieces) old r new = BringsPieces k [] pieces old r new
  AnswersCommand (command.Step k n) old r new = MakesSteps k n old r new
  AnswersCommand (command.Run k) old r new = RunsTo k old r new
  AnswersCommand (command.Output k) old r new = RepliesTo k event.TakeOutput old r new
  AnswersCommand (command.Labels k) old r new = RepliesTo k event.TellLabels old r new
  AnswersCommand (command.Close k) old r new = RepliesTo k event.Close old r new
  AnswersCommand command.Pools old r new = RepliesTo 0 event.TellPools old r new

-- Whether a command may stand in a script here: no name is given to a second file.
abbrev pub is_due : Device → Command → Bool
is_due d command.Open = true
is_due d (command.File f) = not (is_there (d.named f.name))
is_due d (command.Begin k) = true
is_due d (command.End k) = true
is_due d (command.Bring k pieces) = true
is_due d (command.Step k n) = true
is_due d (command.Run k) = true
is_due d (command.Output k) = true
is_due d (command.Labels k) = true
is_due d (command.Close k) = true
is_due d command.Pools = true

abbrev pub if_due : Device → Option Command → Option Command
if_due d None = None
if_due d (Some c) = if is_due d c then Some c else None

-- the command of a line, where it may stand there
abbrev pub due_at : Device → RawLine → Option Command
due_at d l = if_due d (command_at l)

-- whether an answer is a fault
abbrev pub is_fault : CommandReply → Bool
is_fault (reply.Connected n) = false
is_fault reply.Done = false
is_fault (reply.Refused r) = false
is_fault (reply.Stepped stepped.Went) = false
is_fault (reply.Stepped (stepped.CallEnded s)) = false
is_fault (reply.Stepped (stepped.Fault kind index pc)) = true
is_fault (reply.Went n) = false
is_fault (reply.Output bytes) = false
is_fault (reply.Labels labels) = false
is_fault (reply.Pools text) = false
