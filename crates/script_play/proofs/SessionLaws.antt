-- Laws on sessions: what a command leaves of one.
use Rattle.std.proofs.Common.{◌≡◌, ℕ, true, false, List, ◌++◌, Option, Some, MatchOption, refl, ap, sym, subst, ◌∙◌}
use Rattle.module_code.specs.Program.{Program}
use Rattle.byte_text.specs.TextLines.{RawLine}
use Rattle.bucket_kinds.specs.Device.{Device}
use Rattle.life_check.specs.ChainTheorem.{ChainNeverFaults}
use Rattle.filter_chain.specs.Hosting.{Ghosts, Stored, budget_of, chain_of}
use Rattle.filter_chain.specs.Safe.{IsSafe}
use Rattle.filter_chain.specs.HostViews.{HostView, host_view}
use Rattle.script_text.specs.declared.command.Command.{Command}
use Rattle.script_text.specs.declared.reply.CommandReply.{CommandReply}
use Rattle.script_play.specs.declared.session.Session.{Session as CodeSession}
use Rattle.script_play.specs.Plays.{AnswersCommand, due_at, is_fault}
use Rattle.script_text.specs.Replies.{reply_line, script_line}
use Rattle.script_play.specs.Sessions.{IsSession, IsServed, TakesOne, device}
use Rattle.script_play.specs.Written.{Session, Serving, Over, Replies}
use Rattle.script_play.proofs.FaithfulFiles.{faithful_of, serves_sound, serves_unfailing}

-- A command was answered.
module _ {R : Type 0} {g : Ghosts R Stored} (new old : CodeSession R g) (c : Command) (r : CommandReply) (v : Session) (hosted : IsSession old v)
    (served : IsServed old.host new.host c r v.host_view.world) where
  abbrev pub then : Session
  then = record v { host_view = host_view served.to (device new.host) }

  serves_so : AnswersCommand v.budget v.chain c v.host_view r (host_view served.to (device new.host))
  serves_so =
      let after : HostView = host_view served.to (device new.host) in
      let at : AnswersCommand (budget_of old.host) (chain_of old.host) c v.host_view r after =
      subst (λ (d : Device). AnswersCommand (budget_of old.host) (chain_of old.host) c (host_view v.host_view.world d) r after) hosted.device served.serves in
      subst (λ (b : ℕ). AnswersCommand b v.chain c v.host_view r after) hosted.budget (subst (λ (x : List Program). AnswersCommand (budget_of old.host) x c v.host_view r after) hosted.chain at)

  still_hosted : IsSession new then
  still_hosted = record {
    chain = served.chain ∙ hosted.chain;
    budget = served.budget ∙ hosted.budget;
    device = refl;
    sound = serves_sound v.budget v.chain c v.host_view (host_view served.to (device new.host)) r hosted.sound serves_so;
    hosts = served.hosts;
    safe = λ on. subst ChainNeverFaults (sym served.chain) (hosted.safe on);
  }

  pub told_reply : (before after : List ℕ) (number : ℕ) (l : RawLine) → (IsSafe old.host → is_fault r ≡ false) → due_at (device old.host) l ≡ Some c → after ≡ before ++ reply_line r
      → TakesOne new before after number l v true
  told_reply before after number l safe due added =
      let text : List ℕ = reply_line r in
      let replies : Replies c v text (Serving then) = record {
        reply = r;
        after = host_view served.to (device new.host);
        serves = serves_so;
        faithful = faithful_of old v hosted;
        unfailing = serves_unfailing v.budget v.chain c v.host_view (host_view served.to (device new.host)) r hosted.sound serves_so;
        faultless = λ on. safe (hosted.safe on);
        told = refl;
        stage = refl;
      } in
      let P : Option Command → Type 0 = λ o. MatchOption o ((text ≡ script_line number) × (Serving then ≡ Over)) (λ c. Replies c v text (Serving then)) in
      (text, then, subst P (sym due ∙ ap (λ d. due_at d l) hosted.device) replies, still_hosted, added)
