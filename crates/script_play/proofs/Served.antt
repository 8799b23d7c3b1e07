-- What commands answer and leave, by what the calls of the host do.
use Rattle.std.proofs.Common.{◌≡◌, ℕ, ◌-◌, true, false, List, None, Result, Ok, Err, refl, ap, subst}
use Rattle.run_model.specs.declared.event.Event.{Event}
use Rattle.run_model.specs.declared.event.Event.TheVariants as event
use Rattle.run_model.specs.declared.event.Refusal.{Refusal}
use Rattle.run_model.specs.declared.event.Stepped.{Stepped}
use Rattle.run_model.specs.declared.event.Stepped.TheVariants as stepped
use Rattle.run_model.specs.Turns.{Missing}
use Rattle.run_model.specs.Worlds.{World, Told, Answer, Done, Tree, happens_on, tree_of}
use Rattle.bucket_kinds.specs.MemDevice.{mem_device}
use Rattle.bucket_kinds.specs.declared.mem_files.MemFiles.{MemFiles}
use Rattle.pool_tree.specs.Printed.{payload_text, printed}
use Rattle.filter_chain.specs.Led.{RefinesFrom}
use Rattle.filter_chain.specs.Running.{StepsToEnd, StepsOn}
use Rattle.filter_chain.specs.declared.host.Host.{Host}
use Rattle.filter_chain.specs.Hosting.{Ghosts, Stored, IsHosting, Happens, budget_of, chain_of, step_answer}
use Rattle.filter_chain.specs.Safe.{GoesWell}
use Rattle.filter_chain.specs.HostViews.{HostView, Answers, TellsEvent, host_view}
use Rattle.script_text.specs.declared.command.Command.{Command}
use Rattle.script_text.specs.declared.command.Command.TheVariants as command
use Rattle.script_text.specs.declared.file_line.FileLine.{FileLine}
use Rattle.script_text.specs.declared.reply.CommandReply.{CommandReply}
use Rattle.script_text.specs.declared.reply.CommandReply.TheVariants as reply
use Rattle.script_play.specs.Plays.{AnswersCommand, RepliesTo, file_bytes, is_fault, reply_of, steps_reply}
use Rattle.script_play.specs.Sessions.{IsServed, device}

-- Commands that are one event.

module _ {R : Type 0} {g : Ghosts R Stored} (old new : Host MemFiles R g) (w : World) (answer : Answer) (r : CommandReply) (told : r ≡ reply_of answer) where
  by_event : (c : Command) (number : ℕ) (what : Event) → ((s t : HostView) → RepliesTo (budget_of old) (chain_of old) number what s r t → AnswersCommand (budget_of old) (chain_of old) c s r t)
      → Happens (device old) (device new) old new number what answer w → IsServed old new c r w
  by_event c number what serves h =
      record {
        to = h.to;
        serves = serves (host_view w (device old)) (host_view h.to (device new)) (record { answer = answer; acts = h.acts; told = told });
        hosts = h.hosts;
        chain = h.chain;
        budget = h.budget;
      }

  pub open_served : Happens (device old) (device new) old new 0 event.Open answer w → IsServed old new command.Open r w
  unfolding AnswersCommand
  open_served h = by_event command.Open 0 event.Open (λ s t x. x) h

  pub begin_served : (number : ℕ) → Happens (device old) (device new) old new number event.Begin answer w → IsServed old new (command.Begin number) r w
  unfolding AnswersCommand
  begin_served number h = by_event (command.Begin number) number event.Begin (λ s t x. x) h

  pub end_served : (number : ℕ) → Happens (device old) (device new) old new number event.End answer w → IsServed old new (command.End number) r w
  unfolding AnswersCommand
  end_served number h = by_event (command.End number) number event.End (λ s t x. x) h

  pub output_served : (number : ℕ) → Happens (device old) (device new) old new number event.TakeOutput answer w → IsServed old new (command.Output number) r w
  unfolding AnswersCommand
  output_served number h = by_event (command.Output number) number event.TakeOutput (λ s t x. x) h

  pub labels_served : (number : ℕ) → Happens (device old) (device new) old new number event.TellLabels answer w → IsServed old new (command.Labels number) r w
  unfolding AnswersCommand
  labels_served number h = by_event (command.Labels number) number event.TellLabels (λ s t x. x) h

  pub close_served : (number : ℕ) → Happens (device old) (device new) old new number event.Close answer w → IsServed old new (command.Close number) r w
  unfolding AnswersCommand
  close_served number h = by_event (command.Close number) number event.Close (λ s t x. x) h

-- The pools are told, and nothing happens.
pub pools_served : {R : Type 0} {g : Ghosts R Stored} (host : Host MemFiles R g) (w : World) (text : List ℕ) → text ≡ printed payload_text (tree_of w) 0 w.common.root → IsHosting (device host) host w
    → IsServed host host command.Pools (reply.Pools text) w
unfolding AnswersCommand happens_on TellsEvent
pools_served host w text is hosts =
    let told : Told = record { reads = λ k. None; opening = Missing } in
    let acts : Answers (budget_of host) (chain_of host) 0 event.TellPools (host_view w (device host)) (Tree w.common.root (tree_of w)) (host_view w (device host)) =
    record { memory = true; told = told; is = refl; tells = refl; closes = tt } in
    record { to = w; serves = record { answer = Tree w.common.root (tree_of w); acts = acts; told = ap reply.Pools is }; hosts = hosts; chain = refl; budget = refl }

-- A file of a free name.
pub file_served : {R : Type 0} {g : Ghosts R Stored} (old new : Host MemFiles R g) (w : World) (file : FileLine) (name bytes : List ℕ) → name ≡ file.name → bytes ≡ file_bytes file
    → Happens (device old) (device new) old new 0 (event.AddFile name bytes) Done w → IsServed old new (command.File file) reply.Done w
unfolding AnswersCommand
file_served old new w file name bytes named is h =
    record {
      to = h.to;
      serves = (
        refl,
        subst (λ (n : List ℕ). Answers (budget_of old) (chain_of old) 0 (event.AddFile n (file_bytes file)) (host_view w (device old)) Done (host_view h.to (device new))) named
            (subst (λ (xs : List ℕ). Answers (budget_of old) (chain_of old) 0 (event.AddFile name xs) (host_view w (device old)) Done (host_view h.to (device new))) is h.acts),
      );
      hosts = h.hosts;
      chain = h.chain;
      budget = h.budget;
    }

-- Steps.

pub answer_told : (n : ℕ) (answer : Result Stepped Refusal) → (answer ≡ Ok stepped.Went → ⊥) → reply_of (step_answer answer) ≡ steps_reply n answer
answer_told n (Ok stepped.Went) other = absurd (other refl)
answer_told n (Ok (stepped.CallEnded s)) other = refl
answer_told n (Ok (stepped.Fault k m pc)) other = refl
answer_told n (Err r) other = refl

-- Where no step answers a fault, what is told of the last is none.
pub step_well : (answer : Result Stepped Refusal) → GoesWell answer → is_fault (reply_of (step_answer answer)) ≡ false
step_well (Ok stepped.Went) well = refl
step_well (Ok (stepped.CallEnded s)) well = refl
step_well (Ok (stepped.Fault k m pc)) well = absurd well
step_well (Err r) well = refl

pub steps_served : {R : Type 0} {g : Ghosts R Stored} (old new : Host MemFiles R g) (number n : ℕ) (answer : Result Stepped Refusal) (r : CommandReply) (w : World) → r ≡ steps_reply n answer
    → RefinesFrom mem_device old new (λ b c s t. StepsOn b c number (n - 1) s answer t) w → IsServed old new (command.Step number n) r w
unfolding AnswersCommand
steps_served old new number n answer r w told h =
    record { to = h.to; serves = record { answer = answer; steps = h.did; told = told }; hosts = h.hosts; chain = h.chain; budget = h.budget }

pub run_served : {R : Type 0} {g : Ghosts R Stored} (old new : Host MemFiles R g) (number : ℕ) (answer : Result Stepped Refusal) (r : CommandReply) (w : World) → r ≡ reply_of (step_answer answer)
    → RefinesFrom mem_device old new (λ b c s t. StepsToEnd b c number s answer t) w → IsServed old new (command.Run number) r w
unfolding AnswersCommand
run_served old new number answer r w told h =
    record { to = h.to; serves = record { answer = answer; runs = h.did; told = told }; hosts = h.hosts; chain = h.chain; budget = h.budget }
