-- A refused event changes nothing, and what breaks a connection. A broken connection stays as it is.
use Rattle.std.proofs.Common.{◌≡◌, ◌≢◌, ◌⊎◌, ℕ, Bool, true, false, ◌||◌, not, cond, nat_le, nat_lt, List, [], ◌∷◌, Option, Some, None, Result, Ok, Err, inl, inr, refl, sym, ◌∙◌, ap, subst}
use Rattle.module_code.specs.Program.{Program}
use Rattle.module_code.specs.declared.instr.Instr.{Instr}
use Rattle.module_code.specs.declared.instr.Instr.TheVariants as instr
use Rattle.module_code.specs.declared.instr.Status.{Status}
use Rattle.run_model.specs.declared.fault.FaultKind.{FaultKind}
use Rattle.run_model.specs.declared.event.Cause.{Cause}
use Rattle.run_model.specs.declared.event.Cause.TheVariants as cause
use Rattle.run_model.specs.declared.event.Refusal.{Refusal}
use Rattle.run_model.specs.declared.event.Refusal.TheVariants as refusal
use Rattle.run_model.specs.declared.event.Event.{Event}
use Rattle.run_model.specs.declared.event.Event.TheVariants as event
use Rattle.run_model.specs.declared.event.Stepped.{Stepped}
use Rattle.run_model.specs.declared.event.Stepped.TheVariants as stepped
use Rattle.run_model.specs.Steps.{lacks_names, grows, current, is_spent}
use Rattle.run_model.specs.Refusals.{first_refusal, if_broken}
use Rattle.run_model.specs.Chains.{Frame, Connection, Common, Linked, module_at, configuration, is_last}
use Rattle.module_code.specs.declared.instr.Status.TheVariants.{Fail}
use Rattle.run_model.specs.Passing.{Reads, next_called, returned_from, proceeds, put_out_by, answered_so, returns}
use Rattle.run_model.specs.Turns.{Opening, unless_refused, begins, begun, brings, brought, ends, ended, opens_file, file_answer, steps, step_unless, step_top, watched, executed, unless_fault, counted, puts_out}
use Rattle.run_model.specs.Turns.{broken_by, calls_of}
use Rattle.run_model.specs.Worlds.{World, Told, Answer, Refused, put_conn, answered, file_answered, step_answered, adds_file, closes, opens, opens_if, happens_on}
use Rattle.model_laws.specs.RefusalOrder.{RefusedChangesNothing, RefusedStepBreaks, FaultBreaks, BrokenStaysBroken, SameWorld, breaks, is_work}
use Rattle.run_model.proofs.Updates.{upd_either}

abbrev OutLeft : Type 0
OutLeft = Answer × World

left : (a b : OutLeft) → a ≡ b → b.1 ≡ a.1
left a b e = sym (ap (λ (x : OutLeft). x.1) e)

abbrev is_refused : Answer → Bool
is_refused (Refused r) = true
is_refused a = false

served : (a : OutLeft) (r : Refusal) (new : World) → is_refused a.0 ≡ false → a ≡ (Refused r, new) → ⊥
served a r new is e = let was : is_refused a.0 ≡ true = ap (λ (x : OutLeft). is_refused x.0) e in cc

module _ (k : ℕ) (w new : World) (r : Refusal) where
  answered_same : (a : Option Refusal × Linked) → answered k w a ≡ (Refused r, new) → new ≡ w
  answered_same (None, v) e = absurd (served _ r new refl e)
  answered_same (Some q, v) e = left _ _ e

  file_same : (a : Result (ℕ × ℕ) Refusal × Linked) → file_answered k w a ≡ (Refused r, new) → new ≡ w
  file_same (Ok f, v) e = absurd (served _ r new refl e)
  file_same (Err q, v) e = left _ _ e

  closes_same : (memory : Bool) (c : Connection) → closes memory k c w ≡ (Refused r, new) → new ≡ w
  closes_same true c e = absurd (served _ r new refl e)
  closes_same false c e = left _ _ e

  adds_same : (memory : Bool) → adds_file memory w ≡ (Refused r, new) → new ≡ w
  adds_same true e = absurd (served _ r new refl e)
  adds_same false e = left _ _ e

  opens_same : (o : Option Refusal) (chain : List Program) → opens_if o chain w ≡ (Refused r, new) → new ≡ w
  opens_same None chain e = absurd (served _ r new refl e)
  opens_same (Some q) chain e = left _ _ e

  on_same : (memory : Bool) (budget : ℕ) (chain : List Program) (told : Told) (e : Event) (o : Option Connection) → e ≢ event.Step → happens_on memory budget chain told e k o w ≡ (Refused r, new)
      → new ≡ w
  unfolding happens_on opens
  on_same memory budget chain told event.Open o ne is = opens_same _ chain is
  on_same memory budget chain told (event.AddFile name bytes) o ne is = adds_same memory is
  on_same memory budget chain told event.TellPools o ne is = left _ _ is
  on_same memory budget chain told event.Step o ne is = absurd (ne refl)
  on_same memory budget chain told (event.OpenFile name) (Some c) ne is = file_same _ is
  on_same memory budget chain told event.Begin (Some c) ne is = answered_same _ is
  on_same memory budget chain told (event.Bring pieces) (Some c) ne is = answered_same _ is
  on_same memory budget chain told event.End (Some c) ne is = answered_same _ is
  on_same memory budget chain told event.TakeOutput (Some c) ne is = absurd (served _ r new refl is)
  on_same memory budget chain told event.TellLabels (Some c) ne is = left _ _ is
  on_same memory budget chain told event.Close (Some c) ne is = closes_same memory c is
  on_same memory budget chain told e None ne is = left _ _ is

pub refused_changes_nothing : RefusedChangesNothing
refused_changes_nothing memory budget chain told k e w new r ne is = on_same k w new r memory budget chain told e (w.conns k) ne is

-- Steps.

abbrev StepAnswer : Type 0
StepAnswer = Result Stepped Refusal × Linked

abbrev pub RefusedStep : Linked → Linked → Refusal → Type 0
RefusedStep w new r = ((r ≡ refusal.Idle) × (new ≡ w)) ⊎ ((k : Cause) × ((r ≡ refusal.Broken k) × (new ≡ breaks k w)))

-- What a step may be: the connection breaks, a fault is told, or it goes.
data StepIs (w : Linked) : StepAnswer → Type 0 where
  Breaks : (k : Cause) → StepIs w (Err (refusal.Broken k), breaks k w)
  Idles : StepIs w (Err refusal.Idle, w)
  Faults : (k : FaultKind) (m pc : ℕ) → StepIs w (Ok (stepped.Fault k m pc), breaks cause.Faulted w)
  Goes : (new : Linked) → StepIs w (Ok stepped.Went, new)
  Ends : (s : Status) (new : Linked) → StepIs w (Ok (stepped.CallEnded s), new)

-- no fault
abbrev IsAnswer : Stepped → Type 0
IsAnswer stepped.Went = Unit {0}
IsAnswer (stepped.CallEnded s) = Unit {0}
IsAnswer (stepped.Fault k m pc) = ⊥

module _ (memory : Bool) (budget : ℕ) (chain : List Program) (reads : Reads) (g : Common) (c : Connection) where
  called_is : (s : Status) (queue : List ℕ) (v : Linked) → IsAnswer (next_called chain s queue v).0
  called_is s [] v = tt
  called_is s (k ∷ ks) v = tt

  returns_is : (s : Status) (f : Frame) (rest : List Frame) → IsAnswer (returns chain s f rest (g, c)).0
  unfolding returned_from
  returns_is s f [] = called_is s c.queue _
  returns_is s f (w ∷ rest) = tt

  proceeds_is : (i : Instr) (f : Frame) (rest : List Frame) → StepIs (g, c) (counted (proceeds chain reads i f rest (g, c)))
  unfolding proceeds returned_from
  proceeds_is (instr.Ret s) f rest = answered_is (put_out_by chain reads f c).1 (returns chain s f rest (g, c)) (returns_is s f rest) where
    answered_is : (t : Bool) (a : Stepped × Linked) → IsAnswer a.0 → StepIs (g, c) (counted (answered_so t a.0, (a.1.0, record a.1.1 { out = (put_out_by chain reads f c).0 })))
    answered_is false a is = Ends Fail _
    answered_is true (stepped.Went, v) is = Goes _
    answered_is true (stepped.CallEnded t, v) is = Ends t _
    answered_is true (stepped.Fault k m pc, v) is = absurd is
  proceeds_is (instr.Pass b l) f rest = Goes _
  proceeds_is i f rest = Goes _

  executed_is : (i : Instr) (f : Frame) (rest : List Frame) → StepIs (g, c) (executed memory chain reads i f rest (g, c))
  unfolding executed
  executed_is i f rest = by_names (lacks_names (configuration g c f) i || is_spent g.next (calls_of (is_last chain c f.of) i rest c.queue)) where
    by_memory : (b : Bool) → StepIs (g, c) (cond b (counted (proceeds chain reads i f rest (g, c))) (broken_by cause.NoMemory (g, c)))
    by_memory true = proceeds_is i f rest
    by_memory false = Breaks cause.NoMemory

    by_names : (b : Bool) → StepIs (g, c) (cond b (broken_by cause.NamesSpent (g, c))
        (cond (memory || not (grows (configuration g c f) i || nat_lt 0 (calls_of (is_last chain c f.of) i rest c.queue) || puts_out chain f (g, c))) (counted (proceeds chain reads i f rest (g, c))) (broken_by cause.NoMemory (g, c))))
    by_names true = Breaks cause.NamesSpent
    by_names false = by_memory _

  fault_is : (o : Option FaultKind) (f : Frame) (rest : List Frame) → StepIs (g, c) (unless_fault o f (g, c) (executed memory chain reads (current (module_at chain f.of) f.pc) f rest (g, c)))
  fault_is None f rest = executed_is _ f rest
  fault_is (Some k) f rest = Faults k f.of f.pc

  top_is : (stack : List Frame) → StepIs (g, c) (step_top memory budget chain reads stack (g, c))
  top_is [] = Idles
  top_is (f ∷ rest) = by_budget (nat_le budget c.count) where
    by_budget : (b : Bool) → StepIs (g, c) (cond b (broken_by cause.OutOfSteps (g, c)) (watched memory chain reads f rest (g, c)))
    by_budget true = Breaks cause.OutOfSteps
    by_budget false = fault_is _ f rest

abbrev err : Refusal → Linked → StepAnswer
err r v = (Err r, v)

abbrev ok : Stepped → Linked → StepAnswer
ok a v = (Ok a, v)

err_same : (r s : Refusal) (v new : Linked) → err r v ≡ err s new → s ≡ r
err_same r s v new e = let told : (err r v).0 ≡ (err s new).0 = ap (λ (x : StepAnswer). x.0) e in cc

ok_no_err : (a : Stepped) (s : Refusal) (v new : Linked) → ok a v ≡ err s new → ⊥
ok_no_err a s v new e = let told : (ok a v).0 ≡ (err s new).0 = ap (λ (x : StepAnswer). x.0) e in cc

ok_same : (a b : Stepped) (v new : Linked) → ok a v ≡ ok b new → a ≡ b
ok_same a b v new e = let told : (ok a v).0 ≡ (ok b new).0 = ap (λ (x : StepAnswer). x.0) e in cc

after : (a b : StepAnswer) → a ≡ b → b.1 ≡ a.1
after a b e = sym (ap (λ (x : StepAnswer). x.1) e)

refused_step : (w new : Linked) (a : StepAnswer) (r : Refusal) → StepIs w a → a ≡ err r new → RefusedStep w new r
refused_step w new a r (Breaks k) e = inr (k, (err_same (refusal.Broken k) r (breaks k w) new e, after _ _ e))
refused_step w new a r Idles e = inl (err_same refusal.Idle r w new e, after _ _ e)
refused_step w new a r (Faults k m pc) e = absurd (ok_no_err (stepped.Fault k m pc) r (breaks cause.Faulted w) new e)
refused_step w new a r (Goes v) e = absurd (ok_no_err stepped.Went r v new e)
refused_step w new a r (Ends s v) e = absurd (ok_no_err (stepped.CallEnded s) r v new e)

-- the same connection, broken by the cause that it has
still_broken : (g : Common) (c : Connection) (k : Cause) → c.broken ≡ Some k → (g, c) ≡ breaks k (g, c)
still_broken g c k is = ap (λ (b : Option Cause). (g, record c { broken = b })) is

pub refused_step_breaks : RefusedStepBreaks
unfolding steps
refused_step_breaks memory budget chain reads (g, c) new r e = by_broken c.broken refl e where
  by_broken : (b : Option Cause) → c.broken ≡ b → step_unless b memory budget chain reads (g, c) ≡ err r new → RefusedStep (g, c) new r
  by_broken None is e = refused_step (g, c) new _ r (top_is memory budget chain reads g c c.stack) e
  by_broken (Some k) is e = inr (k, (err_same (refusal.Broken k) r (g, c) new e, after _ _ e ∙ still_broken g c k is))

fault_step : (w new : Linked) (a : StepAnswer) (k : FaultKind) (m pc : ℕ) → StepIs w a → a ≡ ok (stepped.Fault k m pc) new → new ≡ breaks cause.Faulted w
fault_step w new a k m pc (Breaks j) e = absurd (ok_no_err (stepped.Fault k m pc) (refusal.Broken j) new (breaks j w) (sym e))
fault_step w new a k m pc Idles e = absurd (ok_no_err (stepped.Fault k m pc) refusal.Idle new w (sym e))
fault_step w new a k m pc (Faults j n at) e = after _ _ e
fault_step w new a k m pc (Goes v) e = absurd (let told : stepped.Went ≡ stepped.Fault k m pc = ok_same stepped.Went (stepped.Fault k m pc) v new e in cc)
fault_step w new a k m pc (Ends s v) e = absurd (let told : stepped.CallEnded s ≡ stepped.Fault k m pc = ok_same (stepped.CallEnded s) (stepped.Fault k m pc) v new e in cc)

pub fault_breaks : FaultBreaks
unfolding steps
fault_breaks memory budget chain reads (g, c) new k m pc e = by_broken c.broken e where
  by_broken : (b : Option Cause) → step_unless b memory budget chain reads (g, c) ≡ ok (stepped.Fault k m pc) new → new ≡ breaks cause.Faulted (g, c)
  by_broken None e = fault_step (g, c) new _ k m pc (top_is memory budget chain reads g c c.stack) e
  by_broken (Some j) e = absurd (ok_no_err (stepped.Fault k m pc) (refusal.Broken j) new (g, c) (sym e))

-- Broken connections.

first_broken : (b : Option Cause) (k : Cause) (tests : List (Option Refusal)) → b ≡ Some k → first_refusal (if_broken b ∷ tests) ≡ Some (refusal.Broken k)
first_broken None k tests is = absurd (cc)
first_broken (Some j) k tests is = let same : j ≡ k = cc in ap (λ (x : Cause). Some (refusal.Broken x)) same

module _ (memory : Bool) (budget : ℕ) (chain : List Program) (told : Told) (k : ℕ) (c : Connection) (w : World) (why : Cause) (at : w.conns k ≡ Some c) (is : c.broken ≡ Some why) where
  abbrev OutStays : OutLeft → Type 0
  OutStays a = (a.0 ≡ Refused (refusal.Broken why)) × SameWorld w a.1

  same : SameWorld w w
  same = record { conns = λ j. refl; last = refl; common = refl }

  put_same : SameWorld w (put_conn k (w.common, c) w)
  put_same = record { conns = λ j. elim (upd_either w.conns k j (Some c)) [ inl here ↦ here.1 ∙ sym at ∙ sym (ap w.conns here.0) | inr off ↦ off.1 ]; last = refl; common = refl }

  refused_so : (o : Option Refusal) (old new : Linked) → o ≡ Some (refusal.Broken why) → OutStays (answered k w (unless_refused o old new))
  refused_so None old new e = absurd (cc)
  refused_so (Some r) old new e = (let it : r ≡ refusal.Broken why = cc in ap Refused it, same)

  file_so : (o : Option Refusal) (req : Option ℕ) (opening : Opening) (v : Linked) → o ≡ Some (refusal.Broken why) → OutStays (file_answered k w (file_answer o req opening v))
  file_so None req opening v e = absurd (cc)
  file_so (Some r) req opening v e = (let it : r ≡ refusal.Broken why = cc in ap Refused it, same)

  step_so : (b : Option Cause) → b ≡ Some why → OutStays (step_answered k w (step_unless b memory budget chain told.reads (w.common, c)))
  step_so None e = absurd (cc)
  step_so (Some j) e = (let it : j ≡ why = cc in ap (λ (x : Cause). Refused (refusal.Broken x)) it, put_same)

  stays : (e : Event) → is_work e ≡ true → OutStays (happens_on memory budget chain told e k (Some c) w)
  unfolding happens_on begins brings opens_file ends steps
  stays event.Begin work = refused_so _ (w.common, c) (begun chain (w.common, c)) (first_broken c.broken why _ is)
  stays (event.Bring pieces) work = refused_so _ (w.common, c) (brought chain pieces c.req (w.common, c)) (first_broken c.broken why _ is)
  stays (event.OpenFile name) work = file_so _ c.req told.opening (w.common, c) (first_broken c.broken why _ is)
  stays event.Step work = step_so c.broken is
  stays event.End work = refused_so _ (w.common, c) (ended c.req (w.common, c)) (first_broken c.broken why _ is)
  stays e work = absurd (cc)

pub broken_stays_broken : BrokenStaysBroken
broken_stays_broken memory budget chain told k e c w why at is work =
    subst (λ (o : Option Connection). ((happens_on memory budget chain told e k o w).0 ≡ Refused (refusal.Broken why)) × SameWorld w (happens_on memory budget chain told e k o w).1) (sym at)
    (stays memory budget chain told k c w why at is e work)
