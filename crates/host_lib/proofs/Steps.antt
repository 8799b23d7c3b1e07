-- A session that is awake is so after each call, and no call is refused for a fault.
use Rattle.std.proofs.Common.{ℕ, ◌≡◌, ◌-◌, List, Option, Some, None, Result, refl, sym, subst}
use Rattle.module_code.specs.Program.{Program}
use Rattle.run_model.specs.declared.event.Event.{Event}
use Rattle.run_model.specs.declared.event.Event.TheVariants as event
use Rattle.run_model.specs.declared.event.Refusal.{Refusal}
use Rattle.run_model.specs.declared.event.Stepped.{Stepped}
use Rattle.run_model.specs.Worlds.{World, Answer}
use Rattle.bucket_kinds.specs.MemDevice.{mem_device}
use Rattle.bucket_kinds.specs.declared.mem_files.MemFiles.{MemFiles}
use Rattle.life_check.specs.ChainTheorem.{ChainNeverFaults}
use Rattle.model_laws.specs.Reached.{IsReached}
use Rattle.filter_chain.specs.Led.{Refines, Transition}
use Rattle.filter_chain.specs.Hosting.{Ghosts, Stored, IsHosting, Happens, budget_of, chain_of, files_of, step_answer}
use Rattle.filter_chain.specs.HostViews.{HostView, Answers, host_view}
use Rattle.filter_chain.specs.Running.{StepsOn}
use Rattle.filter_chain.specs.Safe.{IsUnfaulted}
use Rattle.filter_chain.proofs.Unfaulted.{reached_worlds_answer_unfaulted}
use Rattle.filter_chain.specs.declared.host.Host.{Host}
use Rattle.host_lib.specs.declared.session.HostSession.{HostSession}
use Rattle.host_lib.specs.Awake.{IsAwake, IsAwakeHost, HoldsSession}

module _ {R : Type 0} {g : Ghosts R Stored} (old new : Host MemFiles R g) (awake : IsAwakeHost old) where
  -- after an event
  pub awake_in : (number : ℕ) (what : Event) (answer : Answer) → Happens (mem_device (files_of old)) (mem_device (files_of new)) old new number what answer awake.alive.0 → IsAwakeHost new
  awake_in number what answer h = record { alive = (h.to, h.hosts); safe = subst ChainNeverFaults (sym h.chain) awake.safe }

  pub awake_after : (number : ℕ) (what : Event) (answer : Answer)
      → ((w : World) → IsHosting (mem_device (files_of old)) old w → Happens (mem_device (files_of old)) (mem_device (files_of new)) old new number what answer w) → IsAwakeHost new
  awake_after number what answer happens = awake_in number what answer (happens awake.alive.0 awake.alive.1)

  -- after steps
  pub awake_by : (does : Transition) → Refines mem_device old new does → IsAwakeHost new
  awake_by does refines = let r = refines awake.alive.0 awake.alive.1 in record { alive = (r.to, r.hosts); safe = subst ChainNeverFaults (sym r.chain) awake.safe }

  -- The host stands for a world that is reached on the chain that it had.
  reached_still : (w : World) → IsHosting (mem_device (files_of new)) new w → chain_of new ≡ chain_of old → budget_of new ≡ budget_of old → IsReached (budget_of old) (chain_of old) w
  unfolding IsHosting
  reached_still w hosts chain budget = subst (λ (b : ℕ). IsReached b (chain_of old) w) budget (subst (λ (ps : List Program). IsReached (budget_of new) ps w) chain hosts.reached)

  unfaulted_by : (number : ℕ) (what : Event) (answer : Answer) (before : HostView) (w : World) → IsHosting (mem_device (files_of new)) new w → chain_of new ≡ chain_of old → budget_of new ≡ budget_of old
      → Answers (budget_of old) (chain_of old) number what before answer (host_view w (mem_device (files_of new))) → IsUnfaulted answer
  unfaulted_by number what answer before w hosts chain budget acts =
      reached_worlds_answer_unfaulted (budget_of old) (chain_of old) number what before (host_view w (mem_device (files_of new))) answer awake.safe (reached_still w hosts chain budget) acts

  -- an event
  pub unfaulted_after : (number : ℕ) (what : Event) (answer : Answer)
      → ((w : World) → IsHosting (mem_device (files_of old)) old w → Happens (mem_device (files_of old)) (mem_device (files_of new)) old new number what answer w) → IsUnfaulted answer
  unfaulted_after number what answer happens =
      let h = happens awake.alive.0 awake.alive.1 in unfaulted_by number what answer (host_view awake.alive.0 (mem_device (files_of old))) h.to h.hosts h.chain h.budget h.acts

  -- steps
  pub unfaulted_steps : (number more : ℕ) (answer : Result Stepped Refusal) → Refines mem_device old new (λ (b : ℕ) (c : List Program) (x y : HostView). StepsOn b c number more x answer y)
      → IsUnfaulted (step_answer answer)
  unfaulted_steps number more answer refines =
      let r = refines awake.alive.0 awake.alive.1 in unfaulted_by number event.Step (step_answer answer) r.did.before r.to r.hosts r.chain r.budget r.did.last

pub held_there : (o : Option HostSession) → HoldsSession o → (s : HostSession) × (o ≡ Some s)
held_there None h = absurd h
held_there (Some s) h = (s, refl)

pub awake_there : (s : HostSession) (o : Option HostSession) → Some s ≡ o → HoldsSession o → IsAwake s
awake_there s o e h = subst HoldsSession (sym e) h
