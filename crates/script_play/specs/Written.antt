-- The text that is written for a script, line by line.
use Rattle.std.specs.Prelude.{◌≡◌, ◌≢◌, ℕ, ◌+◌, ◌≤◌, Bool, true, false, if◌then◌else◌, List, [], ◌∷◌, ◌++◌, length, take, All, Option, Some, None, MatchOption, ◌⊎◌}
use Rattle.module_code.specs.Program.{Program}
use Rattle.byte_text.specs.TextLines.{RawLine, lines_of}
use Rattle.run_model.specs.declared.event.Refusal.TheVariants as refusal
use Rattle.run_model.specs.Files.{no_files}
use Rattle.run_model.specs.Worlds.{new_world}
use Rattle.bucket_kinds.specs.MemDevice.{device_of}
use Rattle.life_check.specs.declared.refusal.CheckRefusal.{CheckRefusal}
use Rattle.filter_chain.specs.HostViews.{HostView, host_view}
use Rattle.script_text.specs.declared.command.Command.{Command}
use Rattle.module_commands.specs.declared.ended.Ended.{Ended}
use Rattle.module_commands.specs.declared.ended.Ended.TheVariants as ended
use Rattle.script_text.specs.declared.reply.CommandReply.{CommandReply}
use Rattle.script_text.specs.declared.reply.CommandReply.TheVariants as answer
use Rattle.script_text.specs.declared.texts.LineTaken.{LineTaken}
use Rattle.script_text.specs.declared.texts.LineTaken.TheVariants as taken
use Rattle.script_play.specs.Faithful.{IsFaithful}
use Rattle.script_text.specs.Heads.{ScriptHead, no_head, TakesLine, EndsHead}
use Rattle.script_text.specs.Parts.{codes_of, refused_in}
use Rattle.script_play.specs.Plays.{AnswersCommand, due_at, is_fault}
use Rattle.script_text.specs.Refusals.{refused_module_line}
use Rattle.script_text.specs.Replies.{reply_line, script_line}

-- A chain that is played. is_checked: it was checked first.
pub record Session : Type 0 where
  pub chain : List Program
  pub budget : ℕ
  pub is_checked : Bool
  pub host_view : HostView

-- how far a script is, between two lines
pub data Stage : Type 0 where
  -- this was read before its commands
  Reading : ScriptHead → Stage
  -- its commands are done
  Serving : Session → Stage
  -- a fault was told
  Over : Stage

abbrev pub is_over : Stage → Bool
is_over (Reading h) = false
is_over (Serving s) = false
is_over Over = true

-- The commands begin.

-- no connection, whose names begin with 1, and no file; none may fail
abbrev pub first_view : HostView
first_view = host_view (new_world 1) (device_of no_files 0)

abbrev pub session_of : Bool → ScriptHead → Session
session_of checked h = record { chain = codes_of h.parts; budget = h.budget; is_checked = checked; host_view = first_view }

-- A chain that is to be checked is refused, or accepted; then, as without a check, its commands begin.
abbrev pub BeginsUnless : Option (ℕ × CheckRefusal) → Bool → ScriptHead → List ℕ → Stage → Type 0
BeginsUnless None checked h text s = (text ≡ []) × (s ≡ Serving (session_of checked h))
BeginsUnless (Some (k, r)) checked h text s = (text ≡ refused_module_line k r.pc r.rule) × (s ≡ Over)

abbrev pub ScriptBegins : Bool → ScriptHead → List ℕ → Stage → Type 0
ScriptBegins checked h text s = BeginsUnless (if checked then refused_in h.parts else None) checked h text s

-- A line is taken.

-- A command answers so, over files that give what they hold: none is told to have failed. On a chain that was checked no answer is a fault.
pub record Replies (c : Command) (s : Session) (text : List ℕ) (t : Stage) : Type 0 where
  pub reply : CommandReply
  pub after : HostView
  pub serves : AnswersCommand s.budget s.chain c s.host_view reply after
  pub faithful : IsFaithful s.host_view
  pub unfailing : reply ≢ answer.Refused refusal.FileFailed
  pub faultless : s.is_checked ≡ true → is_fault reply ≡ false
  pub told : text ≡ reply_line reply
  pub stage : t ≡ Serving (record s { host_view = after })

-- A line of this number is a command that may stand there, or is told to be none.
abbrev pub TakesCommand : ℕ → RawLine → Session → List ℕ → Stage → Type 0
TakesCommand number l s text t =
    MatchOption (due_at s.host_view.device l) ((text ≡ script_line number) × (t ≡ Over)) (λ c. Replies c s text t)

abbrev pub TakesAt : ℕ → RawLine → Stage → List ℕ → Stage → Type 0
TakesAt number l (Reading h) text t = ⊥
TakesAt number l (Serving s) text t = TakesCommand number l s text t
TakesAt number l Over text t = (text ≡ []) × (t ≡ Over)

-- what follows a line before the commands, and what was told of it
abbrev pub FollowsLine : LineTaken → ℕ → RawLine → ScriptHead → List ℕ → List ℕ → Stage → Type 0
FollowsLine taken.More number l h told text t = (text ≡ told) × (t ≡ Reading h)
FollowsLine taken.Over number l h told text t = (text ≡ told) × (t ≡ Over)
FollowsLine taken.Checked number l h told text t = ScriptBegins true h text t
FollowsLine taken.Command number l h told text t = (s : Stage) × ScriptBegins false h [] s × TakesAt number l s text t

pub record TakesFirst (number : ℕ) (l : RawLine) (h : ScriptHead) (text : List ℕ) (t : Stage) : Type 0 where
  pub taken : LineTaken
  pub told : List ℕ
  pub head : ScriptHead
  pub takes : TakesLine number l h taken told head
  pub follows : FollowsLine taken number l head told text t

abbrev pub PlaysLine : ℕ → RawLine → Stage → List ℕ → Stage → Type 0
PlaysLine number l (Reading h) text t = TakesFirst number l h text t
PlaysLine number l (Serving s) text t = TakesCommand number l s text t
PlaysLine number l Over text t = (text ≡ []) × (t ≡ Over)

-- These lines, of which the first has this number, are taken one after another.
unfoldable pub TakesAll : ℕ → List RawLine → Stage → List ℕ → Stage → Type 0
TakesAll number [] s text t = (text ≡ []) × (t ≡ s)
TakesAll number (l ∷ ls) s text t =
    (mid : Stage) × (told more : List ℕ) × PlaysLine number l s told mid × TakesAll (number + 1) ls mid more t × (text ≡ told ++ more)

-- What is told of some first of these lines.
pub record IsSomeOf (number : ℕ) (ls : List RawLine) (s : Stage) (text : List ℕ) : Type 0 where
  pub count : ℕ
  pub stage : Stage
  pub takes : TakesAll number (take count ls) s text stage

-- a text that ends with an LF
abbrev pub EndsLine : List ℕ → Type 0
EndsLine text = (front : List ℕ) × (text ≡ front ++ 10 ∷ [])

-- whole lines: a text that is empty or ends with an LF
abbrev pub IsWhole : List ℕ → Type 0
IsWhole text = (text ≡ []) ⊎ EndsLine text

abbrev pub HasNoLf : List ℕ → Type 0
HasNoLf text = All (λ b. b ≢ 10) text

-- The script ends.

abbrev pub ended_by : LineTaken → Ended
ended_by taken.More = ended.Done
ended_by taken.Over = ended.Refused
ended_by taken.Checked = ended.Done
ended_by taken.Command = ended.Done

abbrev pub EndsAt : Stage → List ℕ → Ended → Type 0
EndsAt (Reading h) text e = (t : LineTaken) × (last : ScriptHead) × EndsHead h t text last × (e ≡ ended_by t)
EndsAt (Serving s) text e = (text ≡ []) × (e ≡ ended.Done)
EndsAt Over text e = (text ≡ []) × (e ≡ ended.Refused)

-- What a play of a script may write, and how it ends.
pub record IsWrittenFor (script text : List ℕ) (e : Ended) : Type 0 where
  pub stage : Stage
  pub answers : List ℕ
  pub last : List ℕ
  pub takes : TakesAll 1 (lines_of script) (Reading no_head) answers stage
  pub ends : EndsAt stage last e
  pub written : text ≡ answers ++ last

-- What is written where the reader fails, or gives no end: what is told of all whole lines that were read. seen: what was read of the next
-- line. left: what the reader has left.
pub record AnswersLinesRead (script text : List ℕ) (left : Option (List ℕ)) : Type 0 where
  pub whole : List ℕ
  pub seen : List ℕ
  pub unread : List ℕ
  pub stage : Stage
  pub splits : script ≡ whole ++ (seen ++ unread)
  pub is_whole : IsWhole whole
  pub unended : HasNoLf seen
  pub takes : TakesAll 1 (lines_of whole) (Reading no_head) text stage
  pub running : is_over stage ≡ false
  pub leaves : left ≡ Some unread

-- A play ends behind its last read. told: what is told of all whole lines that were read before it. held: what was read of the next line before
-- it. last: what it gave, at the end of the script nothing. left: what the reader has left.
pub record LastRead (script : List ℕ) (left : Option (List ℕ)) : Type 0 where
  pub whole : List ℕ
  pub held : List ℕ
  pub last : List ℕ
  pub unread : List ℕ
  pub mid : Stage
  pub told : List ℕ
  pub splits : script ≡ whole ++ (held ++ (last ++ unread))
  pub is_whole : IsWhole whole
  pub unended : HasNoLf held
  pub few : length last ≤ 8192
  pub takes : TakesAll 1 (lines_of whole) (Reading no_head) told mid
  pub running : is_over mid ≡ false
  pub leaves : left ≡ Some unread

-- What is told of some first lines behind those. They are whole ones; at the end of the script the last may have no LF.
pub record TellsSome {script : List ℕ} {left : Option (List ℕ)} (read : LastRead script left) (text : List ℕ) : Type 0 where
  pub seen : List ℕ
  pub rest : List ℕ
  pub parts : read.held ++ read.last ≡ seen ++ rest
  pub whole : IsWhole seen ⊎ ((read.last ≡ []) × (rest ≡ []))
  pub tells : IsSomeOf (1 + length (lines_of read.whole)) (lines_of seen) read.mid text

-- What is written where memory runs out: all lines are answered but those that end in the last 8192 bytes that were read; of these, some first
-- ones may be.
pub record IsFrontOf (script text : List ℕ) (left : Option (List ℕ)) : Type 0 where
  pub read : LastRead script left
  pub more : List ℕ
  pub tells : TellsSome read more
  pub written : text ≡ read.told ++ more

-- What is written where the writer failed: the same lines are answered; of what may follow, part is written and rest is not.
pub record IsCutOf (script text : List ℕ) (left : Option (List ℕ)) : Type 0 where
  pub read : LastRead script left
  pub part : List ℕ
  pub rest : List ℕ
  pub some : rest ≢ []
  pub written : text ≡ read.told ++ part
  pub next : TellsSome read (part ++ rest) ⊎ ((e : Ended) × IsWrittenFor script (text ++ rest) e)
