-- An event of a world, case by case: it changes one connection, as the event of a connection does, or opens one, or takes one away.
use Rattle.std.proofs.Common.{◌≡◌, ℕ, ◌+◌, Bool, true, false, ◌||◌, not, List, [], ◌∷◌, Option, Some, None, Result, Ok, Err, inl, inr, refl, sym, ◌∙◌, ap, subst}
use Rattle.module_code.specs.Program.{Program}
use Rattle.run_model.specs.declared.event.Event.{Event}
use Rattle.run_model.specs.declared.event.Event.TheVariants as event
use Rattle.run_model.specs.declared.event.Piece.{Piece}
use Rattle.run_model.specs.declared.event.Refusal.{Refusal}
use Rattle.run_model.specs.declared.event.Refusal.TheVariants as refusal
use Rattle.run_model.specs.declared.event.Stepped.{Stepped}
use Rattle.run_model.specs.Indexed.{upd}
use Rattle.run_model.specs.Steps.{is_spent}
use Rattle.run_model.specs.Refusals.{first_refusal, refused_if}
use Rattle.run_model.specs.Chains.{Connection, Common, Linked, IsChain}
use Rattle.run_model.specs.Turns.{steps, opened, begins, opens_file, brings, ends}
use Rattle.run_model.specs.Worlds.{World, Told, Answer, put_conn, answered, file_answered, step_answered, closes, opens_if, opens, adds_file, happens_on, happens, IsRun}
use Rattle.run_model.proofs.Updates.{upd_either}
use Rattle.model_laws.proofs.StepFiles.{neither}
use Rattle.model_laws.proofs.EventAnswers.{none_if}
use Rattle.model_laws.proofs.chains.EventTurns.{EventTurn, OpensAs, Drained, begins_turn, brings_turn, opens_file_turn, ends_turn, steps_turn}

-- what an event makes of its connection
pub data Made (memory : Bool) (budget : ℕ) (chain : List Program) (told : Told) (g : Common) (c : Connection) : Event → Linked → Type 0 where
  OnOpening : (name : List ℕ) → Made memory budget chain told g c (event.OpenFile name) (opens_file memory told.opening (g, c)).1
  OnBegin : Made memory budget chain told g c event.Begin (begins memory chain (g, c)).1
  OnBring : (pieces : List Piece) → Made memory budget chain told g c (event.Bring pieces) (brings memory chain pieces (g, c)).1
  OnStep : Made memory budget chain told g c event.Step (steps memory budget chain told.reads (g, c)).1
  OnEnd : Made memory budget chain told g c event.End (ends memory (g, c)).1
  OnTake : Made memory budget chain told g c event.TakeOutput (g, record c { out = record c.out { bytes = [] } })

-- each is a turn, where a file that is opened has one of these lengths
pub turn_made : (Lengths : ℕ → Type 0) (memory : Bool) (budget : ℕ) (chain : List Program) (told : Told) (g : Common) (c : Connection) (e : Event) (v : Linked) → IsChain chain
    → ((name : List ℕ) → e ≡ event.OpenFile name → OpensAs Lengths (opens_file memory told.opening (g, c)).0) → Made memory budget chain told g c e v → EventTurn chain Lengths g c v
turn_made Lengths memory budget chain told g c e v chained opens (OnOpening name) = opens_file_turn chain Lengths g c memory told.opening (opens name refl)
turn_made Lengths memory budget chain told g c e v chained opens OnBegin = begins_turn chain Lengths g c memory
turn_made Lengths memory budget chain told g c e v chained opens (OnBring pieces) = brings_turn chain Lengths g c memory pieces
turn_made Lengths memory budget chain told g c e v chained opens OnStep = steps_turn chain Lengths g c chained memory budget told.reads
turn_made Lengths memory budget chain told g c e v chained opens OnEnd = ends_turn chain Lengths g c memory
turn_made Lengths memory budget chain told g c e v chained opens OnTake = Drained

-- where a connection was taken away, each that is there was there before
pub stays_there : (k : ℕ) (w : World) (j : ℕ) (x : Connection) → upd w.conns k None j ≡ Some x → w.conns j ≡ Some x
stays_there k w j x e = elim (upd_either w.conns k j None) [ inl at ↦ absurd (none_some (sym at.1 ∙ e)) | inr off ↦ sym off.1 ∙ e ] where
  none_some : None ≡ Some x → ⊥
  none_some h = cc

-- What is to be known of an event for a property of worlds. made: it is true where the event changed its connection. opening: where it opened
-- one, as the names are there. closing: where it took one away.
pub record KeepsWorld (W : World → Type 0) (memory : Bool) (budget : ℕ) (chain : List Program) (told : Told) (k : ℕ) (e : Event) (w : World) : Type 0 where
  pub made : (c : Connection) (v : Linked) → w.conns k ≡ Some c → Made memory budget chain told w.common c e v → W (put_conn k v w)
  pub opening : is_spent (w.last + 1) 1 ≡ false → is_spent w.common.pools 1 ≡ false → is_spent w.common.next 1 ≡ false
      → W (put_conn (w.last + 1) (opened chain w.common) (record w { last = w.last + 1 }))
  pub closing : (c : Connection) → w.conns k ≡ Some c → W (record w { conns = upd w.conns k None })

module _ (W : World → Type 0) (memory : Bool) (budget : ℕ) (chain : List Program) (told : Told) (k : ℕ) (w : World) (h : W w) where
  answered_so : (a : Option Refusal × Linked) → W (put_conn k a.1 w) → W (answered k w a).1
  answered_so (None, v) new = new
  answered_so (Some r, v) new = h

  file_so : (a : Result (ℕ × ℕ) Refusal × Linked) → W (put_conn k a.1 w) → W (file_answered k w a).1
  file_so (Ok f, v) new = new
  file_so (Err r, v) new = h

  step_so : (a : Result Stepped Refusal × Linked) → W (put_conn k a.1 w) → W (step_answered k w a).1
  step_so (Ok s, v) new = new
  step_so (Err r, v) new = new

  closed_so : (t : Bool) (c : Connection) → W (record w { conns = upd w.conns k None }) → W (closes t k c w).1
  closed_so false c new = h
  closed_so true c new = new

  added_so : (t : Bool) → W (adds_file t w).1
  added_so false = h
  added_so true = h

  opens_so : (is_spent (w.last + 1) 1 ≡ false → is_spent w.common.pools 1 ≡ false → is_spent w.common.next 1 ≡ false
      → W (put_conn (w.last + 1) (opened chain w.common) (record w { last = w.last + 1 }))) → W (opens memory chain w).1
  unfolding opens
  opens_so new = by_refusal _ refl where
    by_refusal : (o : Option Refusal)
        → first_refusal (refused_if (is_spent (w.last + 1) 1 || (is_spent w.common.pools 1 || is_spent w.common.next 1)) refusal.NamesSpent ∷ (refused_if (not memory) refusal.NoMemory ∷ [])) ≡ o
        → W (opens_if o chain w).1
    by_refusal (Some r) is = h
    by_refusal None is =
        let spent = none_if (is_spent (w.last + 1) 1 || (is_spent w.common.pools 1 || is_spent w.common.next 1)) refusal.NamesSpent _ is in
        let last = neither (is_spent (w.last + 1) 1) _ spent.0 in
        let names = neither (is_spent w.common.pools 1) (is_spent w.common.next 1) last.1 in
        new last.0 names.0 names.1

  on_so : (e : Event) (o : Option Connection) → w.conns k ≡ o → KeepsWorld W memory budget chain told k e w → W (happens_on memory budget chain told e k o w).1
  unfolding happens_on
  on_so event.Open o at keeps = opens_so keeps.opening
  on_so (event.AddFile name bytes) o at keeps = added_so memory
  on_so event.TellPools o at keeps = h
  on_so (event.OpenFile name) (Some c) at keeps = file_so _ (keeps.made c _ at (OnOpening name))
  on_so event.Begin (Some c) at keeps = answered_so _ (keeps.made c _ at OnBegin)
  on_so (event.Bring pieces) (Some c) at keeps = answered_so _ (keeps.made c _ at (OnBring pieces))
  on_so event.Step (Some c) at keeps = step_so _ (keeps.made c _ at OnStep)
  on_so event.End (Some c) at keeps = answered_so _ (keeps.made c _ at OnEnd)
  on_so event.TakeOutput (Some c) at keeps = keeps.made c _ at OnTake
  on_so event.TellLabels (Some c) at keeps = h
  on_so event.Close (Some c) at keeps = closed_so memory c (keeps.closing c at)
  on_so e None at keeps = h

  pub event_cases : (e : Event) → KeepsWorld W memory budget chain told k e w → W (happens memory budget chain told k e w).1
  event_cases e keeps = on_so e (w.conns k) refl keeps

-- What each event keeps of worlds, each run does.
pub run_each : (P : World → Type 0) (budget : ℕ) (chain : List Program) → ((memory : Bool) (told : Told) (k : ℕ) (e : Event) (w : World) → P w → P (happens memory budget chain told k e w).1)
    → (es : List (ℕ × Event)) (answers : List Answer) (old new : World) → IsRun budget chain old es answers new → P old → P new
unfolding IsRun
run_each P budget chain keeps [] [] old new run h = subst P (sym run) h
run_each P budget chain keeps [] (a ∷ answers) old new run h = absurd run
run_each P budget chain keeps (e ∷ es) [] old new run h = absurd run
run_each P budget chain keeps (e ∷ es) (a ∷ answers) old new run h =
    run_each P budget chain keeps es answers run.2 new run.4 (subst P (ap (λ (x : Answer × World). x.1) run.3) (keeps run.0 run.1 e.0 e.1 old h))
