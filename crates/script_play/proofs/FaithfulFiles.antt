-- The files of a play give what they hold, and no command answers that one failed.
use Rattle.std.proofs.Common.{◌≡◌, ◌≢◌, ℕ, List, [], ◌∷◌, ◌++◌, Option, Some, None, Result, Ok, Err, sym, ap, ◌∙◌}
use Rattle.module_code.specs.Program.{Program}
use Rattle.run_model.specs.declared.event.Event.{Event}
use Rattle.run_model.specs.declared.event.Event.TheVariants as event
use Rattle.run_model.specs.declared.event.Piece.{Piece}
use Rattle.run_model.specs.declared.event.Piece.TheVariants as piece
use Rattle.run_model.specs.declared.event.Refusal.{Refusal}
use Rattle.run_model.specs.declared.event.Refusal.TheVariants as refusal
use Rattle.run_model.specs.declared.event.Stepped.{Stepped}
use Rattle.run_model.specs.declared.event.Stepped.TheVariants as stepped
use Rattle.run_model.specs.Chains.{Connection}
use Rattle.run_model.specs.Worlds.{Answer, Done, Refused, Connected, Step, Output, Opened, Labels, Tree}
use Rattle.bucket_kinds.specs.Device.{Device, Untold, Holds, Sound}
use Rattle.bucket_kinds.specs.MemDevice.{files_of, held_of}
use Rattle.module_run.specs.Proceeding.{MayHold}
use Rattle.module_run.specs.declared.conn.Conn.{Conn}
use Rattle.filter_chain.specs.Hosted.{conn_at}
use Rattle.filter_chain.specs.Hosting.{Ghosts, Stored, IsHostedIf, IsHosting, chain_of, file_answer, step_answer}
use Rattle.filter_chain.specs.HostViews.{HostView}
use Rattle.filter_chain.proofs.MayFail.{acts_kind, acts_unfailing, goes_kind}
use Rattle.script_text.specs.declared.command.Command.{Command}
use Rattle.script_text.specs.declared.command.Command.TheVariants as command
use Rattle.script_text.specs.declared.pieces.ScriptPiece.{ScriptPiece}
use Rattle.script_text.specs.declared.pieces.ScriptPiece.TheVariants as script_piece
use Rattle.script_text.specs.declared.reply.CommandReply.{CommandReply}
use Rattle.script_text.specs.declared.reply.CommandReply.TheVariants as reply
use Rattle.script_play.specs.declared.session.Session.{Session as CodeSession}
use Rattle.script_play.specs.Faithful.{IsFaithful}
use Rattle.script_play.specs.Plays.{BringsPieces, IfOpened, MakesSteps, RunsTo, AnswersCommand, RepliesTo, file_bytes, reply_of, steps_reply}
use Rattle.script_play.specs.Sessions.{IsSession, device}
use Rattle.script_play.specs.Written.{Session}

-- What files in memory hold is told.

told_of : (o : Option (List ℕ)) → held_of o ≢ Untold
told_of None = λ q. cc
told_of (Some bytes) = λ q. cc

holds_then : (o : Option (List ℕ)) (bytes : List ℕ) → MayHold (held_of o) bytes → held_of o ≡ Holds bytes
holds_then None bytes may = absurd may
holds_then (Some held) bytes may = ap Holds may

module _ {R : Type 0} {g : Ghosts R Stored} (s : CodeSession R g) (v : Session) (hosted : IsSession s v) where
  abbrev d : Device
  d = device s.host

  opens_there : (o : Option Conn) (b : Option Connection) (c : Connection) (file : ℕ) (bytes : List ℕ) → IsHostedIf (chain_of s.host) s.host.tree s.host.store d o b → b ≡ Some c
      → c.opened file ≡ Some bytes → MayHold (d.numbered file) bytes
  opens_there None None c file bytes hosted_as is opened = absurd (cc)
  opens_there None (Some b) c file bytes hosted_as is opened = absurd hosted_as
  opens_there (Some conn) None c file bytes hosted_as is opened = absurd hosted_as
  opens_there (Some conn) (Some b) c file bytes hosted_as is opened = (let same : b ≡ c = cc in hosted_as.opens file bytes (ap (λ (x : Connection). x.opened file) same ∙ opened))

  pub faithful_of : IsFaithful v.host_view
  unfolding IsHosting
  faithful_of = record {
    sound = hosted.sound;
    told = λ name q. told_of ((files_of s.host.files).named name) (ap (λ (x : Device). x.named name) hosted.device ∙ q);
    opened = λ k file c bytes there opened.
        ap (λ (x : Device). x.numbered file) (sym hosted.device)
        ∙ holds_then ((files_of s.host.files).opened file) bytes (opens_there (conn_at s.host.conns k) (v.host_view.world.conns k) c file bytes (hosted.hosts.conns k) there opened);
  }

-- A refusal is told by no other answer.

refused_answer : (answer : Answer) (r : Refusal) → reply_of answer ≡ reply.Refused r → answer ≡ Refused r
refused_answer Done r is = absurd (cc)
refused_answer (Refused q) r is = (let same : q ≡ r = cc in ap Refused same)
refused_answer (Connected n) r is = absurd (cc)
refused_answer (Step s) r is = absurd (cc)
refused_answer (Output bytes) r is = absurd (cc)
refused_answer (Opened file len) r is = absurd (cc)
refused_answer (Labels labels) r is = absurd (cc)
refused_answer (Tree root pools) r is = absurd (cc)

refused_steps : (n : ℕ) (answer : Result Stepped Refusal) (r : Refusal) → steps_reply n answer ≡ reply.Refused r → step_answer answer ≡ Refused r
refused_steps n (Ok stepped.Went) r is = absurd (cc)
refused_steps n (Ok (stepped.CallEnded s)) r is = absurd (cc)
refused_steps n (Ok (stepped.Fault k m pc)) r is = absurd (cc)
refused_steps n (Err q) r is = (let same : q ≡ r = cc in ap Refused same)

-- No command answers that a device failed that may not, and none changes that.
module _ (budget : ℕ) (chain : List Program) where
  -- A reply and what it leaves.
  record IsSound (r : CommandReply) (new : HostView) : Type 0 where
    unfailing : r ≢ reply.Refused refusal.FileFailed
    sound : new.device.plan ≡ Sound

  tells_sound : (number : ℕ) (what : Event) (old new : HostView) (r : CommandReply) → old.device.plan ≡ Sound → RepliesTo budget chain number what old r new → IsSound r new
  tells_sound number what old new r sound tells = record {
    unfailing = λ is. acts_unfailing budget chain number old new sound what tells.answer tells.acts (refused_answer tells.answer refusal.FileFailed (sym tells.told ∙ is));
    sound = acts_kind budget chain number what old new tells.answer tells.acts sound;
  }

  steps_sound : (number n : ℕ) (old new : HostView) (r : CommandReply) → old.device.plan ≡ Sound → MakesSteps budget chain number n old r new → IsSound r new
  steps_sound number n old new r sound makes =
      let steps = makes.steps in
      let before : steps.before.device.plan ≡ Sound = goes_kind budget chain number steps.count old steps.before steps.goes sound in
      record {
        unfailing = λ is. acts_unfailing budget chain number steps.before new before event.Step (step_answer makes.answer) steps.last
            (refused_steps n makes.answer refusal.FileFailed (sym makes.told ∙ is));
        sound = acts_kind budget chain number event.Step steps.before new (step_answer makes.answer) steps.last before;
      }

  runs_sound : (number : ℕ) (old new : HostView) (r : CommandReply) → old.device.plan ≡ Sound → RunsTo budget chain number old r new → IsSound r new
  runs_sound number old new r sound to =
      let runs = to.runs in
      let before : runs.before.device.plan ≡ Sound = goes_kind budget chain number runs.count old runs.before runs.goes sound in
      record {
        unfailing = λ is. acts_unfailing budget chain number runs.before new before event.Step (step_answer to.answer) runs.last
            (refused_answer (step_answer to.answer) refusal.FileFailed (sym to.told ∙ is));
        sound = acts_kind budget chain number event.Step runs.before new (step_answer to.answer) runs.last before;
      }

  opening_refused : (why : Refusal) (r : CommandReply) → r ≡ reply.Refused why → r ≡ reply.Refused refusal.FileFailed → Refused why ≡ Refused refusal.FileFailed
  opening_refused why r told is = (let same : why ≡ refusal.FileFailed = cc in ap Refused same)

  brings_sound : (number : ℕ) (ready : List Piece) (pieces : List ScriptPiece) (old new : HostView) (r : CommandReply) → old.device.plan ≡ Sound
      → BringsPieces budget chain number ready pieces old r new
      → IsSound r new
  unfolding BringsPieces
  brings_sound number ready [] old new r sound brings = tells_sound number (event.Bring ready) old new r sound brings
  brings_sound number ready (script_piece.Ready x ∷ xs) old new r sound brings = brings_sound number (ready ++ x ∷ []) xs old new r sound brings
  brings_sound number ready (script_piece.Range name start len ∷ xs) old new r sound (answer, mid, acts, rest) =
      by_answer answer (λ is. acts_unfailing budget chain number old mid sound (event.OpenFile name) (file_answer answer) acts is)
      (acts_kind budget chain number (event.OpenFile name) old mid (file_answer answer) acts sound)
      (λ file still more. brings_sound number (ready ++ piece.File file start len ∷ []) xs mid new r still more) rest where
        by_answer : (a : Result (ℕ × ℕ) Refusal) → file_answer a ≢ Refused refusal.FileFailed → mid.device.plan ≡ Sound
            → ((file : ℕ) → mid.device.plan ≡ Sound → BringsPieces budget chain number (ready ++ piece.File file start len ∷ []) xs mid r new → IsSound r new)
            → IfOpened a (λ why. (r ≡ reply.Refused why) × (new ≡ mid)) (λ file. BringsPieces budget chain number (ready ++ piece.File file start len ∷ []) xs mid r new) → IsSound r new
        by_answer (Err why) other still next (told, same) = record {
          unfailing = λ is. other (opening_refused why r told is);
          sound = ap (λ (s : HostView). s.device.plan) same ∙ still;
        }
        by_answer (Ok f) other still next more = next f.0 still more

  all_sound : (c : Command) (old new : HostView) (r : CommandReply) → old.device.plan ≡ Sound → AnswersCommand budget chain c old r new → IsSound r new
  unfolding AnswersCommand
  all_sound command.Open old new r sound serves = tells_sound 0 event.Open old new r sound serves
  all_sound (command.File f) old new r sound (told, acts) = record {
    unfailing = λ is. (let never : reply.Done ≡ reply.Refused refusal.FileFailed = sym told ∙ is in cc);
    sound = acts_kind budget chain 0 (event.AddFile f.name (file_bytes f)) old new Done acts sound;
  }
  all_sound (command.Begin k) old new r sound serves = tells_sound k event.Begin old new r sound serves
  all_sound (command.End k) old new r sound serves = tells_sound k event.End old new r sound serves
  all_sound (command.Bring k pieces) old new r sound serves = brings_sound k [] pieces old new r sound serves
  all_sound (command.Step k n) old new r sound serves = steps_sound k n old new r sound serves
  all_sound (command.Run k) old new r sound serves = runs_sound k old new r sound serves
  all_sound (command.Output k) old new r sound serves = tells_sound k event.TakeOutput old new r sound serves
  all_sound (command.Labels k) old new r sound serves = tells_sound k event.TellLabels old new r sound serves
  all_sound (command.Close k) old new r sound serves = tells_sound k event.Close old new r sound serves
  all_sound command.Pools old new r sound serves = tells_sound 0 event.TellPools old new r sound serves

  pub serves_unfailing : (c : Command) (old new : HostView) (r : CommandReply) → old.device.plan ≡ Sound → AnswersCommand budget chain c old r new → r ≢ reply.Refused refusal.FileFailed
  serves_unfailing c old new r sound serves = (all_sound c old new r sound serves).unfailing

  pub serves_sound : (c : Command) (old new : HostView) (r : CommandReply) → old.device.plan ≡ Sound → AnswersCommand budget chain c old r new → new.device.plan ≡ Sound
  serves_sound c old new r sound serves = (all_sound c old new r sound serves).sound
