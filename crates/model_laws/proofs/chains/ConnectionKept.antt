-- What each event keeps of its connection, whatever else is there, is so of every connection, in every run.
use Rattle.std.proofs.Common.{◌≡◌, ℕ, Bool, List, [], Some}
use Rattle.std.proofs.lemmas.Option.{none-some}
use Rattle.module_code.specs.Program.{Program}
use Rattle.run_model.specs.declared.event.Event.{Event}
use Rattle.run_model.specs.declared.event.Piece.{Piece}
use Rattle.run_model.specs.Chains.{Connection, Common, Linked}
use Rattle.run_model.specs.Passing.{Reads}
use Rattle.run_model.specs.Turns.{Opening, steps, opened, begins, opens_file, brings, ends}
use Rattle.run_model.specs.Worlds.{World, Told, Answer, new_world, happens, IsWholeRun}
use Rattle.model_laws.proofs.chains.EventCases.{Made, OnOpening, OnBegin, OnBring, OnStep, OnEnd, OnTake, run_each}
use Rattle.model_laws.proofs.chains.EachConnection.{event_each}

-- A property of connections that an opening makes and each event keeps.
pub record EventsKeep (budget : ℕ) (chain : List Program) (P : Connection → Type 0) : Type 0 where
  pub opening : (g : Common) → P (opened chain g).1
  pub begin : (memory : Bool) (g : Common) (c : Connection) → P c → P (begins memory chain (g, c)).1.1
  pub open_file : (memory : Bool) (opening : Opening) (g : Common) (c : Connection) → P c → P (opens_file memory opening (g, c)).1.1
  pub bring : (memory : Bool) (pieces : List Piece) (g : Common) (c : Connection) → P c → P (brings memory chain pieces (g, c)).1.1
  pub step : (memory : Bool) (reads : Reads) (g : Common) (c : Connection) → P c → P (steps memory budget chain reads (g, c)).1.1
  pub end : (memory : Bool) (g : Common) (c : Connection) → P c → P (ends memory (g, c)).1.1
  pub take : (c : Connection) → P c → P (record c { out = record c.out { bytes = [] } })

abbrev pub OfEach : (Connection → Type 0) → World → Type 0
OfEach P w = (k : ℕ) (c : Connection) → w.conns k ≡ Some c → P c

module _ (budget : ℕ) (chain : List Program) (P : Connection → Type 0) (keeps : EventsKeep budget chain P) where
  made_so : (memory : Bool) (told : Told) (g : Common) (c : Connection) (e : Event) (v : Linked) → P c → Made memory budget chain told g c e v → P v.1
  made_so memory told g c e v h (OnOpening name) = keeps.open_file memory told.opening g c h
  made_so memory told g c e v h OnBegin = keeps.begin memory g c h
  made_so memory told g c e v h (OnBring pieces) = keeps.bring memory pieces g c h
  made_so memory told g c e v h OnStep = keeps.step memory told.reads g c h
  made_so memory told g c e v h OnEnd = keeps.end memory g c h
  made_so memory told g c e v h OnTake = keeps.take c h

  pub event_so : (memory : Bool) (told : Told) (k : ℕ) (e : Event) (w : World) → OfEach P w → OfEach P (happens memory budget chain told k e w).1
  event_so memory told k e w h = event_each (λ (g : Common) (c : Connection). P c) memory budget chain told w h k e (record {
    made = λ j c v at m. made_so memory told w.common c e v (h j c at) m;
    opening = keeps.opening w.common;
    beside = λ c v m x px. px;
    unopened = λ x px. px;
  })

  pub run_so : (es : List (ℕ × Event)) (answers : List Answer) (w : World) → IsWholeRun budget chain es answers w → OfEach P w
  run_so es answers w run = run_each (OfEach P) budget chain event_so es answers (new_world run.first) w run.run (λ k c e. absurd (none-some c e))
