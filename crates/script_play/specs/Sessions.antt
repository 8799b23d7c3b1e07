-- What the code of a play stands for.
use Rattle.std.specs.Prelude.{◌≡◌, ℕ, ◌+◌, Bool, true, false, List, ◌++◌, length}
use Rattle.byte_text.specs.TextLines.{RawLine}
use Rattle.run_model.specs.Worlds.{World}
use Rattle.bucket_kinds.specs.Device.{Device, Sound}
use Rattle.bucket_kinds.specs.MemDevice.{mem_device}
use Rattle.bucket_kinds.specs.declared.mem_files.MemFiles.{MemFiles}
use Rattle.filter_chain.specs.declared.host.Host.{Host}
use Rattle.filter_chain.specs.Hosting.{Ghosts, Stored, IsHosting, budget_of, chain_of, files_of}
use Rattle.filter_chain.specs.Safe.{IsSafe}
use Rattle.filter_chain.specs.HostViews.{host_view}
use Rattle.script_text.specs.declared.command.Command.{Command}
use Rattle.script_play.specs.declared.player.Stage.{Stage as CodeStage}
use Rattle.script_play.specs.declared.player.Stage.TheVariants as code
use Rattle.script_play.specs.declared.player.Player.{Player}
use Rattle.script_text.specs.declared.reply.CommandReply.{CommandReply}
use Rattle.module_commands.specs.declared.ended.Ended.{Ended}
use Rattle.script_play.specs.declared.session.Session.{Session as CodeSession}
use Rattle.script_text.specs.Bounds.{IsScriptBounded}
use Rattle.script_text.specs.Heads.{head_of}
use Rattle.script_play.specs.Plays.{AnswersCommand}
use Rattle.script_play.specs.Written.{Session, Stage, Reading, Serving, Over, is_over, TakesCommand, TakesAll, EndsAt}

-- the device of the files of a host
abbrev pub device : {R : Type 0} {g : Ghosts R Stored} → Host MemFiles R g → Device
device host = mem_device (files_of host)

-- it stands for some world
abbrev pub IsMemHostAlive : {R : Type 0} {g : Ghosts R Stored} → Host MemFiles R g → Type 0
IsMemHostAlive host = (w : World) × IsHosting (device host) host w

-- A command was answered, and the host stands for what it leaves, on the same chain, with the same budget.
pub record IsServed {R : Type 0} {g : Ghosts R Stored} (old new : Host MemFiles R g) (c : Command) (r : CommandReply) (w : World) : Type 0 where
  pub to : World
  pub serves : AnswersCommand (budget_of old) (chain_of old) c (host_view w (device old)) r (host_view to (device new))
  pub hosts : IsHosting (device new) new to
  pub chain : chain_of new ≡ chain_of old
  pub budget : budget_of new ≡ budget_of old

-- A session of the code stands for one of the model.
pub record IsSession {R : Type 0} {g : Ghosts R Stored} (s : CodeSession R g) (v : Session) : Type 0 where
  pub chain : chain_of s.host ≡ v.chain
  pub budget : budget_of s.host ≡ v.budget
  pub hosts : IsHosting (device s.host) s.host v.host_view.world
  pub safe : v.is_checked ≡ true → IsSafe s.host
  pub device : device s.host ≡ v.host_view.device
  pub sound : v.host_view.device.plan ≡ Sound

-- A line was taken of a session, and what is told of it is added. was: whether it was a command.
abbrev pub TakesOne : {R : Type 0} {g : Ghosts R Stored} → CodeSession R g → List ℕ → List ℕ → ℕ → RawLine → Session → Bool → Type 0
TakesOne new before after number l v true = (told : List ℕ) × (then : Session) × TakesCommand number l v told (Serving then) × IsSession new then × (after ≡ before ++ told)
TakesOne new before after number l v false = (told : List ℕ) × TakesCommand number l v told Over × (after ≡ before ++ told)

abbrev pub IsStageOf : {R : Type 0} {g : Ghosts R Stored} → CodeStage R g → Stage → Type 0
IsStageOf (code.Texts t) (Reading h) = h ≡ head_of t
IsStageOf (code.Session s) (Serving v) = IsSession s v
IsStageOf code.Over Over = Unit {0}
IsStageOf c s = ⊥

abbrev pub Bounded : ℕ → Stage → Type 0
Bounded lines (Reading h) = IsScriptBounded lines h
Bounded lines (Serving v) = Unit {0}
Bounded lines Over = Unit {0}

-- A player is at this stage of its script.
pub record IsAt {R : Type 0} {g : Ghosts R Stored} (p : Player R g) (s : Stage) : Type 0 where
  pub stage : IsStageOf p.stage s
  pub bounded : Bounded p.lines s

-- These lines are taken, and what is told of them is added. They are counted up to a fault.
pub record TakesOn {R : Type 0} {g : Ghosts R Stored} (old new : Player R g) (before after : List ℕ) (ls : List RawLine) (s : Stage) : Type 0 where
  pub told : List ℕ
  pub stage : Stage
  pub takes : TakesAll (old.lines + 1) ls s told stage
  pub at : IsAt new stage
  pub lines : is_over stage ≡ false → new.lines ≡ old.lines + length ls
  pub added : after ≡ before ++ told

-- The script ends, and what is told of that is added.
abbrev pub EndsOn : List ℕ → List ℕ → Stage → Ended → Type 0
EndsOn before after s e = (told : List ℕ) × EndsAt s told e × (after ≡ before ++ told)
