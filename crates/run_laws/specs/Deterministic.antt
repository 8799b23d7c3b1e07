-- Where no memory is refused and all files are known, an event of a host has one answer and leaves one host. So do the steps of a run.
use Rattle.std.specs.Prelude.{◌≡◌, ◌⊎◌, ℕ, true, List, Result}
use Rattle.module_code.specs.Program.{Program}
use Rattle.run_model.specs.declared.event.Event.{Event}
use Rattle.run_model.specs.declared.event.Event.TheVariants as event
use Rattle.run_model.specs.declared.event.Refusal.{Refusal}
use Rattle.run_model.specs.declared.event.Stepped.{Stepped}
use Rattle.run_model.specs.Worlds.{Answer}
use Rattle.filter_chain.specs.Hosting.{step_answer}
use Rattle.filter_chain.specs.HostViews.{HostView, Answers}
use Rattle.filter_chain.specs.Running.{StepsOn, StepsToEnd}
use Rattle.run_laws.specs.KnownFiles.{AreFilesKnown, is_out_of_memory}

-- Two answers to an event, and what each left: they are the same, or one of them says that memory was refused.
abbrev pub SameUnlessNoMemory : Event → Answer → HostView → Answer → HostView → Type 0
SameUnlessNoMemory what a t b u = ((a ≡ b) × (t ≡ u)) ⊎ ((is_out_of_memory what a ≡ true) ⊎ (is_out_of_memory what b ≡ true))

-- Twice the same event, from one host.
abbrev pub EventsAreDeterministic : Type 0
EventsAreDeterministic = (budget : ℕ) (chain : List Program) (number : ℕ) (what : Event) (s t u : HostView) (a b : Answer) → AreFilesKnown s.device
    → Answers budget chain number what s a t → Answers budget chain number what s b u → SameUnlessNoMemory what a t b u

-- An event keeps all files known.
abbrev pub EventsKeepFilesKnown : Type 0
EventsKeepFilesKnown = (budget : ℕ) (chain : List Program) (number : ℕ) (what : Event) (s t : HostView) (a : Answer) → AreFilesKnown s.device
    → Answers budget chain number what s a t → AreFilesKnown t.device

-- Twice the steps of a run, from one host: up to the first that answers something else than that it went, or up to so many of them.
abbrev pub StepsAreDeterministic : Type 0
StepsAreDeterministic = (budget : ℕ) (chain : List Program) (number : ℕ) (s t u : HostView) (a b : Result Stepped Refusal) → AreFilesKnown s.device
    → ((more : ℕ) → StepsOn budget chain number more s a t → StepsOn budget chain number more s b u → SameUnlessNoMemory event.Step (step_answer a) t (step_answer b) u)
    × (StepsToEnd budget chain number s a t → StepsToEnd budget chain number s b u → SameUnlessNoMemory event.Step (step_answer a) t (step_answer b) u)

-- So do the steps of a run.
abbrev pub StepsKeepFilesKnown : Type 0
StepsKeepFilesKnown = (budget : ℕ) (chain : List Program) (number : ℕ) (s t : HostView) (a : Result Stepped Refusal) → AreFilesKnown s.device
    → ((more : ℕ) → StepsOn budget chain number more s a t → AreFilesKnown t.device) × (StepsToEnd budget chain number s a t → AreFilesKnown t.device)
