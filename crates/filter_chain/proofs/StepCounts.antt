-- Steps that go on are counted, and made below the budget.
use Rattle.std.proofs.Common.{◌≡◌, ℕ, zero, suc, ◌+◌, ◌<◌, ◌≤◌, Bool, true, false, cond, List, [], ◌∷◌, Option, Some, None, Result, Ok, Err, refl, ap, sym, subst, ◌∙◌, arith}
use Rattle.std.proofs.lemmas.Bool.Decides.{nat_tests}
use Rattle.std.specs.Prelude.{nat_le}
use Rattle.module_code.specs.Program.{Program}
use Rattle.module_code.specs.declared.instr.Instr.{Instr}
use Rattle.run_model.specs.declared.event.Cause.{Cause}
use Rattle.run_model.specs.declared.event.Cause.TheVariants as cause
use Rattle.run_model.specs.declared.event.Event.TheVariants as event
use Rattle.run_model.specs.declared.event.Refusal.{Refusal}
use Rattle.run_model.specs.declared.event.Stepped.{Stepped}
use Rattle.run_model.specs.declared.event.Stepped.TheVariants as stepped
use Rattle.run_model.specs.declared.fault.FaultKind.{FaultKind}
use Rattle.run_model.specs.Chains.{Frame, Connection, Common, Linked}
use Rattle.run_model.specs.Passing.{Reads, proceeds}
use Rattle.run_model.specs.Turns.{broken_by, counted, executed, unless_fault, watched, step_top, step_unless, steps}
use Rattle.run_model.specs.Worlds.{World, Told, Answer, Step, happens, happens_on, step_answered}
use Rattle.run_model.proofs.Updates.{upd_at}
use Rattle.module_run.proofs.Executing.{count_kept}
use Rattle.module_run.specs.Stepping.{next_at, next_fault}
use Rattle.filter_chain.specs.HostViews.{HostView, Answers}
use Rattle.filter_chain.specs.Running.{HostGoesOn}

-- A step that went on was made below the budget and is counted, and the instruction on top had no fault.
pub record WentOn (budget : ℕ) (chain : List Program) (w v : Linked) : Type 0 where
  pub below : w.1.count < budget
  pub more : v.1.count ≡ w.1.count + 1
  pub faultless : (f : Frame) (rest : List Frame) → w.1.stack ≡ f ∷ rest → next_fault chain w f ≡ None

module _ (memory : Bool) (chain : List Program) (reads : Reads) where
  by_room : (lacks room : Bool) (i : Instr) (f : Frame) (rest : List Frame) (w : Linked)
      → (let x = cond lacks (broken_by cause.NamesSpent w) (cond room (counted (proceeds chain reads i f rest w)) (broken_by cause.NoMemory w)) in x.0 ≡ Ok stepped.Went → x.1.1.count ≡ w.1.count + 1)
  by_room true room i f rest w went = absurd (cc)
  by_room false true i f rest w went = ap (λ (n : ℕ). n + 1) (count_kept chain reads i f rest w)
  by_room false false i f rest w went = absurd (cc)

  by_fault : (o : Option FaultKind) (f : Frame) (rest : List Frame) (g : Common) (c : Connection) → next_fault chain (g, c) f ≡ o
      → (let x = unless_fault o f (g, c) (executed memory chain reads (next_at chain f) f rest (g, c)) in x.0 ≡ Ok stepped.Went → (next_fault chain (g, c) f ≡ None) × (x.1.1.count ≡ c.count + 1))
  unfolding executed
  by_fault None f rest g c is went = (is, by_room _ _ _ f rest (g, c) went)
  by_fault (Some k) f rest g c is went = absurd (cc)

  module _ (budget : ℕ) (g : Common) (c : Connection) where
    by_budget : (b : Bool) (f : Frame) (rest : List Frame) → nat_le budget c.count ≡ b → c.stack ≡ f ∷ rest
        → (let x = cond b (broken_by cause.OutOfSteps (g, c)) (watched memory chain reads f rest (g, c)) in x.0 ≡ Ok stepped.Went → WentOn budget chain (g, c) x.1)
    by_budget true f rest is top went = absurd (cc)
    by_budget false f rest is top went =
        let one = by_fault (next_fault chain (g, c) f) f rest g c refl went in
        record {
          below = grind (arith, nat_tests);
          more = one.1;
          faultless = λ h hs on. (let same : f ≡ h = cc in subst (λ (x : Frame). next_fault chain (g, c) x ≡ None) same one.0);
        }

    by_stack : (fs : List Frame) → c.stack ≡ fs → (let x = step_top memory budget chain reads fs (g, c) in x.0 ≡ Ok stepped.Went → WentOn budget chain (g, c) x.1)
    by_stack [] top went = absurd (cc)
    by_stack (f ∷ rest) top went = by_budget (nat_le budget c.count) f rest refl top went

    by_cause : (o : Option Cause) → (let x = step_unless o memory budget chain reads (g, c) in x.0 ≡ Ok stepped.Went → WentOn budget chain (g, c) x.1)
    by_cause (Some k) went = absurd (cc)
    by_cause None went = by_stack c.stack refl went

    pub went_on : (steps memory budget chain reads (g, c)).0 ≡ Ok stepped.Went → WentOn budget chain (g, c) (steps memory budget chain reads (g, c)).1
    unfolding steps
    went_on went = by_cause c.broken went

-- A step of a connection that goes on is counted.
pub record IsStepCounted (budget number : ℕ) (old new : World) : Type 0 where
  pub before : Connection
  pub after : Connection
  pub is : old.conns number ≡ Some before
  pub then : new.conns number ≡ Some after
  pub below : before.count < budget
  pub more : after.count ≡ before.count + 1

module _ (memory : Bool) (budget : ℕ) (chain : List Program) (told : Told) (number : ℕ) (old new : World) where
  by_answer : (c : Connection) → old.conns number ≡ Some c → (x : Result Stepped Refusal × Linked) → steps memory budget chain told.reads (old.common, c) ≡ x
      → step_answered number old x ≡ (Step stepped.Went, new) → IsStepCounted budget number old new
  by_answer c at (Err r, v) is h = absurd (let e = ap (λ (z : Answer × World). z.0) h in cc)
  by_answer c at (Ok s, v) is h =
      let told_so : Step s ≡ Step stepped.Went = ap (λ (z : Answer × World). z.0) h in
      let went : s ≡ stepped.Went = cc in
      let one = went_on memory chain told.reads budget old.common c (ap (λ (z : Result Stepped Refusal × Linked). z.0) is ∙ ap Ok went) in
      record {
        before = c;
        after = v.1;
        is = at;
        then = sym (ap (λ (z : Answer × World). z.1.conns number) h) ∙ upd_at old.conns number (Some v.1);
        below = one.below;
        more = ap (λ (z : Result Stepped Refusal × Linked). z.1.1.count) (sym is) ∙ one.more;
      }

  by_conn : (o : Option Connection) → old.conns number ≡ o → happens_on memory budget chain told event.Step number o old ≡ (Step stepped.Went, new) → IsStepCounted budget number old new
  unfolding happens_on
  by_conn None at h = absurd (let e = ap (λ (z : Answer × World). z.0) h in cc)
  by_conn (Some c) at h = by_answer c at (steps memory budget chain told.reads (old.common, c)) refl h

  world_counts : happens memory budget chain told number event.Step old ≡ (Step stepped.Went, new) → IsStepCounted budget number old new
  world_counts h = by_conn (old.conns number) refl h

-- Many steps.

module _ (budget : ℕ) (chain : List Program) (number : ℕ) where
  pub acts_count : (old new : HostView) → Answers budget chain number event.Step old (Step stepped.Went) new → IsStepCounted budget number old.world new.world
  acts_count old new a = world_counts a.memory budget chain a.told number old.world new.world a.is

  -- one more at the end
  pub goes_more : (n : ℕ) (old mid new : HostView) → HostGoesOn budget chain number n old mid → Answers budget chain number event.Step mid (Step stepped.Went) new
      → HostGoesOn budget chain number (suc n) old new
  unfolding HostGoesOn
  goes_more zero old mid new g a = (new, subst (λ (s : HostView). Answers budget chain number event.Step s (Step stepped.Went) new) g a, refl)
  goes_more (suc n) old mid new (next, first, g) a = (next, first, goes_more n next mid new g a)

  -- so many and then so many
  pub goes_join : (m n : ℕ) (old mid new : HostView) → HostGoesOn budget chain number m old mid → HostGoesOn budget chain number n mid new → HostGoesOn budget chain number (m + n) old new
  unfolding HostGoesOn
  goes_join zero n old mid new g h =
      subst (λ (k : ℕ). HostGoesOn budget chain number k old new) (let e : n ≡ 0 + n = omega arith in e) (subst (λ (s : HostView). HostGoesOn budget chain number n s new) g h)
  goes_join (suc m) n old mid new (next, first, g) h =
      subst (λ (k : ℕ). HostGoesOn budget chain number k old new) (let e : suc (m + n) ≡ suc m + n = omega arith in e) (next, first, goes_join m n next mid new g h)

  few_from : (n k : ℕ) (old mid new : HostView) (c : Connection) → old.world.conns number ≡ Some c → k ≤ c.count → HostGoesOn budget chain number n old mid
      → Answers budget chain number event.Step mid (Step stepped.Went) new → k + n < budget
  unfolding HostGoesOn
  few_from zero k old mid new c at le g a =
      let one = acts_count old new (subst (λ (s : HostView). Answers budget chain number event.Step s (Step stepped.Went) new) g a) in
      let both : Some c ≡ Some one.before = sym at ∙ one.is in
      let same : c ≡ one.before = cc in
      let counts = ap (λ (x : Connection). x.count) same in
      let below = one.below in
      omega (arith, below, counts)
  few_from (suc n) k old mid new c at le (next, first, g) a =
      let one = acts_count old next first in
      let both : Some c ≡ Some one.before = sym at ∙ one.is in
      let same : c ≡ one.before = cc in
      let counts = ap (λ (x : Connection). x.count) same in
      let more = one.more in
      let rest = few_from n (k + 1) next mid new one.after one.then (omega (arith, more, counts, le)) g a in
      omega (arith, rest)

  -- Where a further step goes on, fewer did before than the budget.
  pub goes_few : (n : ℕ) (old mid new : HostView) → HostGoesOn budget chain number n old mid → Answers budget chain number event.Step mid (Step stepped.Went) new → n < budget
  unfolding HostGoesOn
  goes_few zero old mid new g a = (let below = (acts_count mid new a).below in omega (arith, below))
  goes_few (suc n) old mid new (next, first, g) a =
      let one = acts_count old next first in
      let few = few_from (suc n) 0 old mid new one.before one.is (omega arith) (next, first, g) a in
      omega (arith, few)
