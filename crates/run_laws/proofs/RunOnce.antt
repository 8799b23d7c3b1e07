-- Events and steps of one host, twice, over files of which all is told.
use Rattle.std.proofs.Common.{◌≡◌, ℕ, zero, suc, ◌-◌, ◌≤◌, Bool, true, false, List, Result, Ok, Err, inl, inr, refl, sym, ap, ap₂, subst, arith}
use Rattle.module_code.specs.Program.{Program}
use Rattle.run_model.specs.declared.event.Event.{Event}
use Rattle.run_model.specs.declared.event.Event.TheVariants as event
use Rattle.run_model.specs.declared.event.Refusal.{Refusal}
use Rattle.run_model.specs.declared.event.Stepped.{Stepped}
use Rattle.run_model.specs.declared.event.Stepped.TheVariants as stepped
use Rattle.run_model.specs.Worlds.{World, Answer, Step}
use Rattle.filter_chain.specs.Hosting.{step_answer}
use Rattle.filter_chain.specs.HostViews.{HostView, Answers, host_view}
use Rattle.filter_chain.specs.Running.{HostGoesOn}
use Rattle.run_laws.specs.KnownFiles.{AreFilesKnown, is_out_of_memory}
use Rattle.run_laws.specs.Deterministic.{EventsAreDeterministic, EventsKeepFilesKnown, SameUnlessNoMemory, StepsAreDeterministic, StepsKeepFilesKnown}
use Rattle.run_laws.proofs.EventOnce.{acts_on, once_on}
use Rattle.run_laws.proofs.StaysTold.{event_told}

pub events_keep_files_known : EventsKeepFilesKnown
events_keep_files_known budget chain number what s t a told x =
    event_told budget chain number s told t.device x.memory x.told what (s.world.conns number) (a, t.world) refl x.is x.tells x.closes

by_lack : (la lb : Bool) (budget : ℕ) (chain : List Program) (number : ℕ) (what : Event) (s t u : HostView) (a b : Answer) → is_out_of_memory what a ≡ la → is_out_of_memory what b ≡ lb
    → AreFilesKnown s.device
    → Answers budget chain number what s a t → Answers budget chain number what s b u → SameUnlessNoMemory what a t b u
by_lack true lb budget chain number what s t u a b la lb' told x y = inr (inl la)
by_lack false true budget chain number what s t u a b la lb told x y = inr (inr lb)
by_lack false false budget chain number what s t u a b la lb told x y =
    let both = once_on budget chain number s told what (s.world.conns number) x.told y.told (a, t.world) (b, u.world) t.device u.device la (acts_on budget chain number s told what a t x la)
    (acts_on budget chain number s told what b u y lb) in
    inl (ap (λ (z : Answer × World). z.0) both.0, ap₂ host_view (ap (λ (z : Answer × World). z.1) both.0) both.1)

pub events_are_deterministic : EventsAreDeterministic
events_are_deterministic budget chain number what s t u a b told x y = by_lack (is_out_of_memory what a) (is_out_of_memory what b) budget chain number what s t u a b refl refl told x y

-- Steps.

went_answer : (a : Result Stepped Refusal) → step_answer a ≡ Step stepped.Went → a ≡ Ok stepped.Went
went_answer (Ok s) is = (let same : s ≡ stepped.Went = cc in ap Ok same)
went_answer (Err r) is = absurd (cc)

module _ (budget : ℕ) (chain : List Program) (number : ℕ) where
  abbrev LastStep : HostView → Result Stepped Refusal → HostView → Type 0
  LastStep x a t = Answers budget chain number event.Step x (step_answer a) t

  steps_once : (n m more : ℕ) (s x y t u : HostView) (a b : Result Stepped Refusal) → AreFilesKnown s.device → n ≤ more → m ≤ more → (a ≡ Ok stepped.Went → n ≡ more)
      → (b ≡ Ok stepped.Went → m ≡ more)
      → HostGoesOn budget chain number n s x → LastStep x a t → HostGoesOn budget chain number m s y → LastStep y b u → SameUnlessNoMemory event.Step (step_answer a) t (step_answer b) u
  unfolding HostGoesOn
  steps_once zero zero more s x y t u a b told few less stops ends p last q end =
      events_are_deterministic budget chain number event.Step s t u (step_answer a) (step_answer b) told (subst (λ (v : HostView). LastStep v a t) p last) (subst
      (λ (v : HostView). LastStep v b u) q end)
  steps_once zero (suc m) more s x y t u a b told few less stops ends p last (mid, goes, q) end =
      elim (events_are_deterministic budget chain number event.Step s t mid (step_answer a) (Step stepped.Went) told (subst (λ (v : HostView). LastStep v a t) p last) goes) [
        | inl same ↦ (let none = stops (went_answer a same.0) in absurd (omega (arith, none, less)))
        | inr (inl lacks) ↦ inr (inl lacks)
        | inr (inr lacks) ↦ absurd (cc)
      ]
  steps_once (suc n) zero more s x y t u a b told few less stops ends (mid, goes, p) last q end =
      elim (events_are_deterministic budget chain number event.Step s mid u (Step stepped.Went) (step_answer b) told goes (subst (λ (v : HostView). LastStep v b u) q end)) [
        | inl same ↦ (let none = ends (went_answer b (sym same.0)) in absurd (omega (arith, none, few)))
        | inr (inl lacks) ↦ absurd (cc)
        | inr (inr lacks) ↦ inr (inr lacks)
      ]
  steps_once (suc n) (suc m) more s x y t u a b told few less stops ends (mid, goes, p) last (half, went, q) end =
      elim (events_are_deterministic budget chain number event.Step s mid half (Step stepped.Went) (Step stepped.Went) told goes went) [
        | inl same ↦
            steps_once n m (more - 1) mid x y t u a b (events_keep_files_known budget chain number event.Step s mid (Step stepped.Went) told goes) (omega (arith, few)) (omega (arith, less))
            (λ is. (let at = stops is in omega (arith, at))) (λ is. (let at = ends is in omega (arith, at))) p last
            (subst (λ (v : HostView). HostGoesOn budget chain number m v y) (sym same.1) q) end
        | inr (inl lacks) ↦ absurd (cc)
        | inr (inr lacks) ↦ absurd (cc)
      ]

  goes_told : (n : ℕ) (s x : HostView) → AreFilesKnown s.device → HostGoesOn budget chain number n s x → AreFilesKnown x.device
  unfolding HostGoesOn
  goes_told zero s x told is = subst (λ (v : HostView). AreFilesKnown v.device) (sym is) told
  goes_told (suc n) s x told (mid, goes, rest) = goes_told n mid x (events_keep_files_known budget chain number event.Step s mid (Step stepped.Went) told goes) rest

pub steps_are_deterministic : StepsAreDeterministic
steps_are_deterministic budget chain number s t u a b told = (
  λ more x y. steps_once budget chain number x.count y.count more s x.before y.before t u a b told x.few y.few x.stops y.stops x.goes x.last y.goes y.last,
  λ x y. steps_once budget chain number x.count y.count budget s x.before y.before t u a b told x.few y.few (λ went. absurd (x.stops went)) (λ went. absurd
      (y.stops went)) x.goes x.last y.goes y.last,
)

pub steps_keep_files_known : StepsKeepFilesKnown
steps_keep_files_known budget chain number s t a told = (
  λ more x. events_keep_files_known budget chain number event.Step x.before t (step_answer a) (goes_told budget chain number x.count s x.before told x.goes) x.last,
  λ x. events_keep_files_known budget chain number event.Step x.before t (step_answer a) (goes_told budget chain number x.count s x.before told x.goes) x.last,
)
