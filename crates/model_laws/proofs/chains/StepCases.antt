-- What a step of a connection can be: nothing changes, the connection breaks, it has a fault, or the instruction of the call on top is made, below the budget.
use Rattle.std.proofs.Common.{◌≡◌, ◌≢◌, ℕ, ◌+◌, ◌<◌, Bool, true, false, ◌||◌, not, cond, List, [], ◌∷◌, Option, Some, None, nat_le, nat_lt, refl, arith}
use Rattle.std.proofs.lemmas.Bool.Decides.{nat_tests}
use Rattle.module_code.specs.Program.{Program}
use Rattle.run_model.specs.declared.event.Cause.{Cause}
use Rattle.run_model.specs.declared.event.Cause.TheVariants as cause
use Rattle.run_model.specs.declared.fault.FaultKind.{FaultKind}
use Rattle.run_model.specs.Faults.{fault}
use Rattle.run_model.specs.Steps.{lacks_names, grows, current, is_spent}
use Rattle.run_model.specs.Chains.{Frame, Connection, Common, Linked, module_at, configuration, is_last}
use Rattle.run_model.specs.Passing.{Reads, proceeds}
use Rattle.run_model.specs.Turns.{calls_of, broken_by, counted, executed, unless_fault, watched, step_top, step_unless, steps, puts_out}
use Rattle.model_laws.specs.ChainLaws.{after_top}
use Rattle.model_laws.proofs.StepFiles.{neither}

-- what the instruction of the call on top leaves, counted
abbrev pub counted_top : List Program → Reads → Common → Connection → Frame → List Frame → Linked
counted_top chain reads g c f rest = ((after_top chain reads g c f rest).0, record (after_top chain reads g c f rest).1 { count = (after_top chain reads g c f rest).1.count + 1 })

-- the call on top is at an instruction that has no fault, and the names that it gives out are there
pub record IsTopReady (chain : List Program) (g : Common) (c : Connection) (f : Frame) (rest : List Frame) : Type 0 where
  pub on_top : c.stack ≡ f ∷ rest
  pub faultless : fault (module_at chain f.of) (configuration g c f) (current (module_at chain f.of) f.pc) ≡ None
  pub names_last : lacks_names (configuration g c f) (current (module_at chain f.of) f.pc) ≡ false
  pub calls_last : is_spent g.next (calls_of (is_last chain c f.of) (current (module_at chain f.of) f.pc) rest c.queue) ≡ false

below : (budget count : ℕ) → nat_le budget count ≡ false → count < budget
below budget count h = grind (arith, nat_tests)

module _ (Q : Linked → Type 0) (memory : Bool) (budget : ℕ) (chain : List Program) (reads : Reads) (g : Common) (c : Connection)
    (same : Q (g, c)) (broke : (k : Cause) → k ≢ cause.Faulted → Q (g, record c { broken = Some k }))
    (faulted : (f : Frame) (rest : List Frame) (k : FaultKind) → c.broken ≡ None → c.stack ≡ f ∷ rest
    → fault (module_at chain f.of) (configuration g c f) (current (module_at chain f.of) f.pc) ≡ Some k
    → Q (g, record c { broken = Some cause.Faulted }))
    (went : (f : Frame) (rest : List Frame) → c.broken ≡ None → c.count < budget → IsTopReady chain g c f rest → Q (counted_top chain reads g c f rest)) where
  executed_so : (f : Frame) (rest : List Frame) → c.broken ≡ None → c.count < budget → c.stack ≡ f ∷ rest
      → fault (module_at chain f.of) (configuration g c f) (current (module_at chain f.of) f.pc) ≡ None
      → Q (executed memory chain reads (current (module_at chain f.of) f.pc) f rest (g, c)).1
  unfolding executed
  executed_so f rest whole few top none =
      by_names (lacks_names (configuration g c f) (current (module_at chain f.of) f.pc) || is_spent g.next (calls_of (is_last chain c f.of) (current (module_at chain f.of) f.pc) rest c.queue)) refl where
        by_memory : (b : Bool) → IsTopReady chain g c f rest → Q (cond b (counted (proceeds chain reads (current (module_at chain f.of) f.pc) f rest (g, c))) (broken_by cause.NoMemory (g, c))).1
        by_memory true ready = went f rest whole few ready
        by_memory false ready = broke cause.NoMemory (λ e. cc)

        by_names : (b : Bool) → (lacks_names (configuration g c f) (current (module_at chain f.of) f.pc) || is_spent g.next (calls_of (is_last chain c f.of) (current (module_at chain f.of) f.pc) rest c.queue)) ≡ b
            → Q (cond b (broken_by cause.NamesSpent (g, c))
            (cond (memory || not (grows (configuration g c f) (current (module_at chain f.of) f.pc) || nat_lt 0 (calls_of (is_last chain c f.of) (current (module_at chain f.of) f.pc) rest c.queue) || puts_out chain f (g, c)))
            (counted (proceeds chain reads (current (module_at chain f.of) f.pc) f rest (g, c))) (broken_by cause.NoMemory (g, c)))).1
        by_names true spent = broke cause.NamesSpent (λ e. cc)
        by_names false there =
            let last = neither (lacks_names (configuration g c f) (current (module_at chain f.of) f.pc))
            (is_spent g.next (calls_of (is_last chain c f.of) (current (module_at chain f.of) f.pc) rest c.queue)) there in
            by_memory _ (record { on_top = top; faultless = none; names_last = last.0; calls_last = last.1 })

  watched_so : (f : Frame) (rest : List Frame) → c.broken ≡ None → c.count < budget → c.stack ≡ f ∷ rest → Q (watched memory chain reads f rest (g, c)).1
  watched_so f rest whole few top = by_fault (fault (module_at chain f.of) (configuration g c f) (current (module_at chain f.of) f.pc)) refl where
    by_fault : (o : Option FaultKind) → fault (module_at chain f.of) (configuration g c f) (current (module_at chain f.of) f.pc) ≡ o
        → Q (unless_fault o f (g, c) (executed memory chain reads (current (module_at chain f.of) f.pc) f rest (g, c))).1
    by_fault None is = executed_so f rest whole few top is
    by_fault (Some k) is = faulted f rest k whole top is

  top_so : c.broken ≡ None → (stack : List Frame) → c.stack ≡ stack → Q (step_top memory budget chain reads stack (g, c)).1
  top_so whole [] is = same
  top_so whole (f ∷ rest) is = by_budget (nat_le budget c.count) refl where
    by_budget : (b : Bool) → nat_le budget c.count ≡ b → Q (cond b (broken_by cause.OutOfSteps (g, c)) (watched memory chain reads f rest (g, c))).1
    by_budget true met = broke cause.OutOfSteps (λ e. cc)
    by_budget false few = watched_so f rest whole (below budget c.count few) is

  -- What is true in each of these cases is true of what a step leaves.
  pub step_cases : Q (steps memory budget chain reads (g, c)).1
  unfolding steps
  step_cases = by_broken c.broken refl where
    by_broken : (b : Option Cause) → c.broken ≡ b → Q (step_unless b memory budget chain reads (g, c)).1
    by_broken None whole = top_so whole c.stack refl
    by_broken (Some k) whole = same

-- So it is where all breaks are alike.
pub steps_so : (Q : Linked → Type 0) (memory : Bool) (budget : ℕ) (chain : List Program) (reads : Reads) (g : Common) (c : Connection) → Q (g, c) → ((k : Cause) → Q (g, record c { broken = Some k }))
    → ((f : Frame) (rest : List Frame) → c.count < budget → IsTopReady chain g c f rest → Q (counted_top chain reads g c f rest)) → Q (steps memory budget chain reads (g, c)).1
steps_so Q memory budget chain reads g c same broke went =
    step_cases Q memory budget chain reads g c same (λ k other. broke k) (λ f rest k whole top is. broke cause.Faulted) (λ f rest whole few ready. went f rest few ready)
