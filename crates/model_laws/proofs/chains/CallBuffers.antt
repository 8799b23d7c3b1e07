-- The buffer of each call of a chain stays in range.
use Rattle.std.proofs.Common.{ℕ, Bool, List, Option, Some, None, All, subst}
use Rattle.module_code.specs.declared.instr.Instr.{Instr}
use Rattle.module_code.specs.Program.{Program}
use Rattle.run_model.specs.declared.event.Event.{Event}
use Rattle.run_model.specs.declared.event.Piece.{Piece}
use Rattle.run_model.specs.State.{Call, Configuration}
use Rattle.run_model.specs.Steps.{current}
use Rattle.model_laws.proofs.chains.EachCall.{KeepsCall, one_fresh, proceeds_on, opened_on, begun_on}
use Rattle.model_laws.specs.Ranges.{BufferInRange}
use Rattle.run_model.specs.Chains.{Frame, Connection, Common, Linked, module_at, place_from}
use Rattle.run_model.specs.Passing.{Reads}
use Rattle.run_model.specs.Turns.{steps, opened, begun, begins, opens_file, brought, brings, ended, ends}
use Rattle.run_model.specs.Worlds.{Told, new_world}
use Rattle.model_laws.specs.ChainRanges.{BuffersInRange, WorldBuffers, EventKeepsBuffers, RunKeepsBuffers}
use Rattle.model_laws.proofs.EventAnswers.{unless_so, answer_so}
use Rattle.model_laws.proofs.InRange.{bare_buffer, step_buffer}
use Rattle.model_laws.proofs.chains.EventCases.{Made, OnOpening, OnBegin, OnBring, OnStep, OnEnd, OnTake, run_each}
use Rattle.model_laws.proofs.chains.EachConnection.{event_each}
use Rattle.model_laws.proofs.chains.StepCases.{steps_so}

abbrev AnyInstr : Program → Instr → Configuration → Type 0
AnyInstr p i r = Unit {0}

abbrev InBuffer : ℕ → Call → Type 0
InBuffer n call = BufferInRange call.buffer

buffers_keep : KeepsCall AnyInstr InBuffer
buffers_keep = record { fresh = λ n name. bare_buffer; risen = λ n m call items le h. h; stepped = λ p choice i r ready h. step_buffer p choice i r h }

abbrev Left : Linked → Type 0
Left v = BuffersInRange v.1

-- Events.

module _ (chain : List Program) (g : Common) (c : Connection) (h : BuffersInRange c) where
  begins_buffers : (memory : Bool) → Left (begins memory chain (g, c)).1
  unfolding begins
  begins_buffers memory = unless_so Left _ (g, c) (begun chain (g, c)) h (λ none. begun_on AnyInstr InBuffer buffers_keep chain g c)

  brought_buffers : (pieces : List Piece) (req : Option ℕ) → Left (brought chain pieces req (g, c))
  brought_buffers pieces None = h
  brought_buffers pieces (Some req) = one_fresh AnyInstr InBuffer buffers_keep g.next (place_from chain c.instances 0) g.next _

  brings_buffers : (memory : Bool) (pieces : List Piece) → Left (brings memory chain pieces (g, c)).1
  unfolding brings
  brings_buffers memory pieces = unless_so Left _ (g, c) (brought chain pieces c.req (g, c)) h (λ none. brought_buffers pieces c.req)

  ended_buffers : (req : Option ℕ) → Left (ended req (g, c))
  ended_buffers None = h
  ended_buffers (Some req) = h

  ends_buffers : (memory : Bool) → Left (ends memory (g, c)).1
  unfolding ends
  ends_buffers memory = unless_so Left _ (g, c) (ended c.req (g, c)) h (λ none. ended_buffers c.req)

  steps_buffers : (memory : Bool) (budget : ℕ) (reads : Reads) → Left (steps memory budget chain reads (g, c)).1
  steps_buffers memory budget reads =
      steps_so (λ v. BuffersInRange v.1) memory budget chain reads g c h (λ k. h)
      (λ f rest few ready. proceeds_on AnyInstr InBuffer buffers_keep chain reads (current (module_at chain f.of) f.pc) f rest g c tt
      (subst (λ (fs : List Frame). All (λ w. BufferInRange w.call.buffer) fs) ready.on_top h))

pub made_buffers : (memory : Bool) (budget : ℕ) (chain : List Program) (told : Told) (g : Common) (c : Connection) (e : Event) (v : Linked)
    → Made memory budget chain told g c e v → BuffersInRange c → BuffersInRange v.1
unfolding opens_file
made_buffers memory budget chain told g c e v (OnOpening name) h = answer_so Left _ c.req told.opening (g, c) h (λ n skipped bytes is. h)
made_buffers memory budget chain told g c e v OnBegin h = begins_buffers chain g c h memory
made_buffers memory budget chain told g c e v (OnBring pieces) h = brings_buffers chain g c h memory pieces
made_buffers memory budget chain told g c e v OnStep h = steps_buffers chain g c h memory budget told.reads
made_buffers memory budget chain told g c e v OnEnd h = ends_buffers chain g c h memory
made_buffers memory budget chain told g c e v OnTake h = h

pub opened_buffers : (chain : List Program) (g : Common) → BuffersInRange (opened chain g).1
opened_buffers chain g = opened_on AnyInstr InBuffer buffers_keep chain g

abbrev RangeIn : Common → Connection → Type 0
RangeIn g c = BuffersInRange c

pub event_buffers : EventKeepsBuffers
event_buffers memory budget chain told k e w h = event_each RangeIn memory budget chain told w h k e (record {
  made = λ j c v at made. made_buffers memory budget chain told w.common c e v made (h j c at);
  opening = opened_buffers chain w.common;
  beside = λ c v made x there. there;
  unopened = λ x there. there;
})

pub run_buffers : RunKeepsBuffers
run_buffers budget chain es answers w run =
    run_each WorldBuffers budget chain (λ memory told k e v h. event_buffers memory budget chain told k e v h) es answers (new_world run.first) w run.run (λ k c e. absurd (cc))
