-- On a chain that was checked no connection is broken by a fault: an event of a run that answers none leaves none that is.
use Rattle.std.proofs.Common.{◌≡◌, ◌≢◌, ℕ, ◌+◌, Bool, true, false, cond, ◌||◌, not, List, [], ◌∷◌, Option, Some, None, Result, Ok, Err, inl, inr, refl, sym, ◌∙◌, ap, subst, nat_le, nat_lt}
use Rattle.std.proofs.lemmas.Option.{same_Some}
use Rattle.module_code.specs.Program.{Program}
use Rattle.module_code.specs.declared.instr.Instr.{Instr}
use Rattle.module_code.specs.declared.instr.Instr.TheVariants as instr
use Rattle.run_model.specs.declared.event.Cause.{Cause}
use Rattle.run_model.specs.declared.event.Cause.TheVariants as cause
use Rattle.run_model.specs.declared.event.Event.{Event}
use Rattle.run_model.specs.declared.event.Event.TheVariants as event
use Rattle.run_model.specs.declared.event.Refusal.{Refusal}
use Rattle.run_model.specs.declared.event.Refusal.TheVariants as refusal
use Rattle.run_model.specs.declared.event.Stepped.{Stepped}
use Rattle.run_model.specs.declared.fault.FaultKind.{FaultKind}
use Rattle.run_model.specs.Effects.{do_return}
use Rattle.run_model.specs.Steps.{lacks_names, grows, current, is_spent}
use Rattle.run_model.specs.Chains.{Frame, Connection, Common, Linked, module_at, is_last, next_place, configuration, put_back, stepped_in}
use Rattle.run_model.specs.Passing.{Reads, passed_to, returned_to, delivered_by, next_called, returned_from, proceeds}
use Rattle.run_model.specs.Turns.{calls_of, puts_out, broken_by, counted, executed, unless_fault, watched, step_top, step_unless, steps, all_called, opened, begun, begins, opens_file, brought, brings, ended, ends}
use Rattle.run_model.specs.Worlds.{World, Told, Answer, Refused, Step, new_world, put_conn, step_answered, happens_on, happens, IsRun}
use Rattle.run_model.proofs.Updates.{upd_at, upd_either}
use Rattle.model_laws.specs.RefusalOrder.{cause_of, is_work}
use Rattle.model_laws.proofs.EventAnswers.{unless_so, answer_so}
use Rattle.model_laws.proofs.Refusals.{refused_changes_nothing, refused_step_breaks}
use Rattle.model_laws.proofs.RefusalOrder.{first_is_told}
use Rattle.model_laws.proofs.chains.EventCases.{Made, OnOpening, OnBegin, OnBring, OnStep, OnEnd, OnTake, event_cases, stays_there}
use Rattle.life_check.specs.ChainTheorem.{IsNoFault, NoFaults}
use Rattle.filter_chain.specs.Hosting.{step_answer}
use Rattle.filter_chain.specs.Safe.{ReachedConnectionsAreUnfaulted, ReachedWorldsAnswerUnfaulted}

abbrev Unfaulted : Connection → Type 0
Unfaulted c = c.broken ≢ Some cause.Faulted

abbrev AllUnfaulted : World → Type 0
AllUnfaulted w = (k : ℕ) (c : Connection) → w.conns k ≡ Some c → Unfaulted c

-- Steps.

proceeds_broken : (chain : List Program) (reads : Reads) (i : Instr) (f : Frame) (rest : List Frame) (g : Common) (c : Connection) → (proceeds chain reads i f rest (g, c)).1.1.broken ≡ c.broken
unfolding proceeds delivered_by passed_to returned_from returned_to put_back stepped_in
proceeds_broken chain reads (instr.Pass b l) f rest g c = by_last (is_last chain c f.of) where
  by_last : (t : Bool) → (cond t (delivered_by (module_at chain f.of) reads b (instr.Pass b l) f rest (g, c)) (passed_to (module_at chain (next_place chain c f.of)) (next_place chain c f.of) b f rest (g, c))).1.broken ≡ c.broken
  by_last true = refl
  by_last false = refl
proceeds_broken chain reads (instr.Ret s) f [] g c = by_queue c.queue where
  by_queue : (queue : List ℕ) → (next_called chain s queue (put_back (instr.Ret s) f (do_return (configuration g c f)) [] [] (g, c))).1.1.broken ≡ c.broken
  by_queue [] = refl
  by_queue (k ∷ ks) = refl
proceeds_broken chain reads (instr.Ret s) f (w ∷ rest) g c = refl
proceeds_broken chain reads i f rest g c = refl

module _ (memory : Bool) (budget : ℕ) (chain : List Program) (reads : Reads) (g : Common) (c : Connection) (whole : Unfaulted c) where
  -- where it answers no fault, none broke the connection
  abbrev Spares : Result Stepped Refusal × Linked → Type 0
  Spares a = IsNoFault (step_answer a.0) → Unfaulted a.1.1

  executed_spares : (i : Instr) (f : Frame) (rest : List Frame) → Spares (executed memory chain reads i f rest (g, c))
  unfolding executed
  executed_spares i f rest = by_names (lacks_names (configuration g c f) i || is_spent g.next (calls_of (is_last chain c f.of) i rest c.queue)) where
    by_memory : (b : Bool) → Spares (cond b (counted (proceeds chain reads i f rest (g, c))) (broken_by cause.NoMemory (g, c)))
    by_memory true well = subst (λ (b : Option Cause). b ≢ Some cause.Faulted) (sym (proceeds_broken chain reads i f rest g c)) whole
    by_memory false well = λ e. cc

    by_names : (b : Bool) → Spares (cond b (broken_by cause.NamesSpent (g, c))
        (cond (memory || not (grows (configuration g c f) i || nat_lt 0 (calls_of (is_last chain c f.of) i rest c.queue) || puts_out chain f (g, c))) (counted (proceeds chain reads i f rest (g, c))) (broken_by cause.NoMemory (g, c))))
    by_names true well = λ e. cc
    by_names false well = by_memory _ well

  watched_spares : (o : Option FaultKind) (f : Frame) (rest : List Frame) → Spares (unless_fault o f (g, c) (executed memory chain reads (current (module_at chain f.of) f.pc) f rest (g, c)))
  watched_spares None f rest well = executed_spares _ f rest well
  watched_spares (Some k) f rest well = absurd well

  top_spares : (stack : List Frame) → Spares (step_top memory budget chain reads stack (g, c))
  top_spares [] well = whole
  top_spares (f ∷ rest) well = by_budget (nat_le budget c.count) well where
    by_budget : (b : Bool) → Spares (cond b (broken_by cause.OutOfSteps (g, c)) (watched memory chain reads f rest (g, c)))
    by_budget true well = λ e. cc
    by_budget false well = watched_spares _ f rest well

  step_spares : Spares (steps memory budget chain reads (g, c))
  unfolding steps
  step_spares = by_broken c.broken where
    by_broken : (b : Option Cause) → Spares (step_unless b memory budget chain reads (g, c))
    by_broken None well = top_spares c.stack well
    by_broken (Some k) well = whole

-- Events.

well_stepped : (k : ℕ) (w : World) (a : Result Stepped Refusal × Linked) → IsNoFault (step_answered k w a).0 → IsNoFault (step_answer a.0)
well_stepped k w (Ok s, v) well = well
well_stepped k w (Err r, v) well = tt

put_spared : (k : ℕ) (v : Linked) (w : World) → Unfaulted v.1 → AllUnfaulted w → AllUnfaulted (put_conn k v w)
put_spared k v w new h j c e = elim (upd_either w.conns k j (Some v.1)) [
  | inl at ↦ subst Unfaulted (same_Some v.1 c (sym at.1 ∙ e)) new
  | inr off ↦ h j c (sym off.1 ∙ e)
]

opened_unfaulted : (chain : List Program) (g : Common) → Unfaulted (opened chain g).1
unfolding opened all_called
opened_unfaulted chain g = λ e. cc

module _ (memory : Bool) (budget : ℕ) (chain : List Program) (told : Told) (k : ℕ) (w : World) (h : AllUnfaulted w) where
  made_unfaulted : (e : Event) (c : Connection) (v : Linked) → w.conns k ≡ Some c → IsNoFault (happens memory budget chain told k e w).0 → Made memory budget chain told w.common c e v → Unfaulted v.1
  unfolding happens_on begins brings opens_file ends begun all_called
  made_unfaulted e c v at well (OnOpening name) = answer_so (λ x. Unfaulted x.1) _ c.req told.opening (w.common, c) (h k c at) (λ n skipped bytes is. h k c at)
  made_unfaulted e c v at well OnBegin = unless_so (λ x. Unfaulted x.1) _ (w.common, c) (begun chain (w.common, c)) (h k c at) (λ none. h k c at)
  made_unfaulted e c v at well (OnBring pieces) = unless_so (λ x. Unfaulted x.1) _ (w.common, c) (brought chain pieces c.req (w.common, c)) (h k c at) (λ none. by_req c.req) where
    by_req : (req : Option ℕ) → Unfaulted (brought chain pieces req (w.common, c)).1
    by_req None = h k c at
    by_req (Some req) = h k c at
  made_unfaulted e c v at well OnStep =
      let told_well = subst (λ (o : Option Connection). IsNoFault (happens_on memory budget chain told event.Step k o w).0) at well in
      step_spares memory budget chain told.reads w.common c (h k c at) (well_stepped k w (steps memory budget chain told.reads (w.common, c)) told_well)
  made_unfaulted e c v at well OnEnd = unless_so (λ x. Unfaulted x.1) _ (w.common, c) (ended c.req (w.common, c)) (h k c at) (λ none. by_req c.req) where
    by_req : (req : Option ℕ) → Unfaulted (ended req (w.common, c)).1
    by_req None = h k c at
    by_req (Some req) = h k c at
  made_unfaulted e c v at well OnTake = h k c at

  event_spares : (e : Event) → IsNoFault (happens memory budget chain told k e w).0 → AllUnfaulted (happens memory budget chain told k e w).1
  event_spares e well = event_cases AllUnfaulted memory budget chain told k w h e (record {
    made = λ c v at made. put_spared k v w (made_unfaulted e c v at well made) h;
    opening = λ last pools next. put_spared (w.last + 1) (opened chain w.common) (record w { last = w.last + 1 }) (opened_unfaulted chain w.common) h;
    closing = λ c at j x there. h j x (stays_there k w j x there);
  })

run_spares : (budget : ℕ) (chain : List Program) (es : List (ℕ × Event)) (answers : List Answer) (old new : World) → IsRun budget chain old es answers new → NoFaults answers → AllUnfaulted old → AllUnfaulted new
unfolding IsRun NoFaults
run_spares budget chain [] [] old new run well h = subst AllUnfaulted (sym run) h
run_spares budget chain [] (a ∷ answers) old new run well h = absurd run
run_spares budget chain (e ∷ es) [] old new run well h = absurd run
run_spares budget chain (e ∷ es) (a ∷ answers) old new run well h =
    let first : IsNoFault (happens run.0 budget chain run.1 e.0 e.1 old).0 = subst (λ (x : Answer × World). IsNoFault x.0) (sym run.3) well.0 in
    run_spares budget chain es answers run.2 new run.4 well.1 (subst AllUnfaulted (ap (λ (x : Answer × World). x.1) run.3) (event_spares run.0 budget chain run.1 e.0 old h e.1 first))

pub reached_connections_are_unfaulted : ReachedConnectionsAreUnfaulted
reached_connections_are_unfaulted budget chain w number c never reached at =
    run_spares budget chain reached.events reached.answers (new_world reached.run.first) w reached.run.run (never budget reached.events reached.answers w reached.run) (λ k x there. absurd (cc)) number c at

-- What is refused since its connection is broken leaves one that is broken so.

abbrev LeavesBroken : Cause → Option Connection → Type 0
LeavesBroken why o = (c : Connection) × (o ≡ Some c) × (c.broken ≡ Some why)

cause_there : (why : Cause) (b : Bool) (o : Option Connection) → cond b (cause_of o) None ≡ Some why → LeavesBroken why o
cause_there why true None e = absurd (cc)
cause_there why true (Some c) e = (c, refl, e)
cause_there why false o e = absurd (cc)

abbrev refused : Refusal → World → Answer × World
refused r w = (Refused r, w)

refused_same : (r s : Refusal) (u v : World) → refused r u ≡ refused s v → (s ≡ r) × (v ≡ u)
refused_same r s u v e = (let told : Refused r ≡ Refused s = ap (λ (x : Answer × World). x.0) e in cc, sym (ap (λ (x : Answer × World). x.1) e))

module _ (memory : Bool) (budget : ℕ) (chain : List Program) (told : Told) (k : ℕ) (w new : World) (why : Cause) where
  left_by : (e : Event) → e ≢ event.Step → happens memory budget chain told k e w ≡ (Refused (refusal.Broken why), new) → LeavesBroken why (new.conns k)
  left_by e ne is =
      let same : w ≡ new = sym (refused_changes_nothing memory budget chain told k e w new (refusal.Broken why) ne is) in
      let due = (first_is_told memory budget chain told k e w (refusal.Broken why) ne).0 (ap (λ (x : Answer × World). x.0) is) in
      subst (λ (x : World). LeavesBroken why (x.conns k)) same (cause_there why (is_work e) (w.conns k) due.holds)

  step_left : (c : Connection) (a : Result Stepped Refusal × Linked) → steps memory budget chain told.reads (w.common, c) ≡ a → step_answered k w a ≡ (Refused (refusal.Broken why), new)
      → LeavesBroken why (new.conns k)
  step_left c (Ok s, v) stepped is = (let bad : Step s ≡ Refused (refusal.Broken why) = ap (λ (x : Answer × World). x.0) is in absurd (cc))
  step_left c (Err r, v) stepped is =
      let same = refused_same r (refusal.Broken why) (put_conn k v w) new is in
      let at : new.conns k ≡ Some v.1 = ap (λ (x : World). x.conns k) same.1 ∙ upd_at w.conns k (Some v.1) in
      elim (refused_step_breaks memory budget chain told.reads (w.common, c) v r stepped) [
        | inl idle ↦ absurd (let bad : refusal.Broken why ≡ refusal.Idle = same.0 ∙ idle.0 in cc)
        | inr broke ↦ (
            let cause : refusal.Broken why ≡ refusal.Broken broke.0 = same.0 ∙ broke.1.0 in
            let is_why : broke.0 ≡ why = cc in
            (v.1, at, ap (λ (x : Linked). x.1.broken) broke.1.1 ∙ ap (λ (x : Cause). Some x) is_why))
      ]

  on_step : (o : Option Connection) → happens_on memory budget chain told event.Step k o w ≡ (Refused (refusal.Broken why), new) → LeavesBroken why (new.conns k)
  unfolding happens_on
  on_step None is = (let same = refused_same refusal.NoSuchConn (refusal.Broken why) w new is in absurd (cc))
  on_step (Some c) is = step_left c (steps memory budget chain told.reads (w.common, c)) refl is

  left_broken : (e : Event) → happens memory budget chain told k e w ≡ (Refused (refusal.Broken why), new) → LeavesBroken why (new.conns k)
  left_broken event.Step is = on_step (w.conns k) is
  left_broken event.Open is = left_by event.Open (λ h. cc) is
  left_broken event.Begin is = left_by event.Begin (λ h. cc) is
  left_broken (event.AddFile name bytes) is = left_by (event.AddFile name bytes) (λ h. cc) is
  left_broken (event.OpenFile name) is = left_by (event.OpenFile name) (λ h. cc) is
  left_broken (event.Bring pieces) is = left_by (event.Bring pieces) (λ h. cc) is
  left_broken event.End is = left_by event.End (λ h. cc) is
  left_broken event.TakeOutput is = left_by event.TakeOutput (λ h. cc) is
  left_broken event.TellLabels is = left_by event.TellLabels (λ h. cc) is
  left_broken event.TellPools is = left_by event.TellPools (λ h. cc) is
  left_broken event.Close is = left_by event.Close (λ h. cc) is

pub reached_worlds_answer_unfaulted : ReachedWorldsAnswerUnfaulted
reached_worlds_answer_unfaulted budget chain number what old new answer never reached acts e =
    let left = left_broken acts.memory budget chain acts.told number old.world new.world cause.Faulted what (acts.is ∙ ap (λ (a : Answer). (a, new.world)) e) in
    reached_connections_are_unfaulted budget chain new.world number left.0 never reached left.1 left.2
