-- Steps in slices: what is left of a call, when it is run, makes it whole.
use Rattle.std.proofs.Common.{◌≡◌, ◌≢◌, ℕ, zero, suc, ◌+◌, ◌<◌, ◌≤◌, Bool, List, [], ◌∷◌, Some, None, Result, Ok, refl, ap, sym, subst, ◌∙◌, arith}
use Rattle.module_code.specs.Program.{Program}
use Rattle.run_model.specs.declared.event.Event.{Event}
use Rattle.run_model.specs.declared.event.Event.TheVariants as event
use Rattle.run_model.specs.declared.event.Refusal.{Refusal}
use Rattle.run_model.specs.declared.event.Stepped.{Stepped}
use Rattle.run_model.specs.declared.event.Stepped.TheVariants as stepped
use Rattle.run_model.specs.Chains.{Connection}
use Rattle.run_model.specs.Worlds.{World, Told, Answer, Step, happens}
use Rattle.model_laws.specs.ChainNumbers.{WorldNumbers}
use Rattle.model_laws.proofs.chains.Numbers.{event_keeps_numbers, run_keeps_numbers}
use Rattle.model_laws.proofs.chains.Others.{opening_stays, others_stay}
use Rattle.bucket_kinds.specs.Device.{Device}
use Rattle.filter_chain.specs.declared.host.Host.{Host}
use Rattle.filter_chain.specs.Hosting.{Ghosts, Stored, IsHosting, files_of}
use Rattle.filter_chain.specs.HostViews.{HostView, Answers}
use Rattle.filter_chain.specs.Led.{Refines}
use Rattle.filter_chain.specs.Running.{HostGoesOn, StepsOn}
use Rattle.filter_chain.proofs.StepCounts.{acts_count, goes_more}
use Rattle.filter_chain.proofs.StepCounts as counts
use Rattle.http_front.specs.Among.{AnswersLater, GoesOnLater, RunsIn, RunsSlice, Way, alone, among}
use Rattle.http_front.specs.Driven.{GoesByOthers}
use Rattle.http_front.specs.RequestEvents.{ended_of}
use Rattle.http_front.specs.Requests.{RunsCall}
use Rattle.http_front.specs.declared.running.CallEnd.{CallEnd}

-- an event of another connection, or an opening
elsewhere : (memory : Bool) (budget : ℕ) (chain : List Program) (told : Told) (i k : ℕ) (e : Event) (w : World) → k ≢ w.last + 1 → k ≢ i
    → (happens memory budget chain told i e w).1.conns k ≡ w.conns k
elsewhere memory budget chain told i k event.Open w old differ = opening_stays memory budget chain told i k w old
elsewhere memory budget chain told i k e w old differ = others_stay memory budget chain told i k e w (λ is. absurd (cc)) differ

-- a connection that is there has not the number that is given next
not_next : (k : ℕ) (w : World) (x : Connection) → WorldNumbers w → w.conns k ≡ Some x → k ≢ w.last + 1
not_next k w x h at is =
    let none = h.later k (omega (arith, is)) in
    let both : Some x ≡ None = sym at ∙ none in
    absurd (cc)

module _ (b : ℕ) (c : List Program) (number : ℕ) where
  one_numbered : (k : ℕ) (what : Event) (answer : Answer) (s t : HostView) → Answers b c k what s answer t → WorldNumbers s.world → WorldNumbers t.world
  one_numbered k what answer s t a h = subst WorldNumbers (ap (λ (p : Answer × World). p.1) a.is) (event_keeps_numbers a.memory b c a.told k what s.world h)

  others_numbered : (events : List (ℕ × Event × Answer)) (s t : HostView) → GoesByOthers b c number events s t → WorldNumbers s.world → WorldNumbers t.world
  unfolding GoesByOthers
  others_numbered [] s t same h = subst (λ (v : HostView). WorldNumbers v.world) (sym same) h
  others_numbered (x ∷ xs) s t goes h = one_numbered x.0 x.1 x.2 goes.0 t goes.3 (others_numbered xs s goes.0 goes.1 h)

  -- events of others leave a connection as it is
  others_keep : (events : List (ℕ × Event × Answer)) (s t : HostView) (x : Connection) → GoesByOthers b c number events s t → WorldNumbers s.world
      → s.world.conns number ≡ Some x → t.world.conns number ≡ Some x
  unfolding GoesByOthers
  others_keep [] s t x same h at = subst (λ (v : HostView). v.world.conns number ≡ Some x) (sym same) at
  others_keep (e ∷ es) s t x goes h at =
      let there = others_keep es s goes.0 x goes.1 h at in
      let next = not_next number goes.0.world x (others_numbered es s goes.0 goes.1 h) there in
      sym (ap (λ (p : Answer × World). p.1.conns number) goes.3.is) ∙ (elsewhere goes.3.memory b c goes.3.told e.0 number e.1 goes.0.world next goes.2 ∙ there)

  step_numbered : (answer : Answer) (s t : HostView) → AnswersLater b c number event.Step s answer t → WorldNumbers s.world → WorldNumbers t.world
  step_numbered answer s t a h = one_numbered number event.Step answer a.0 t a.2 (others_numbered a.1.0 s a.0 a.1.1 h)

  -- where a further step goes on, fewer did before than the budget
  few_from : (n k : ℕ) (s t new : HostView) (y : Connection) → s.world.conns number ≡ Some y → k ≤ y.count → WorldNumbers s.world → GoesOnLater b c number n s t
      → AnswersLater b c number event.Step t (Step stepped.Went) new → k + n < b
  unfolding GoesOnLater
  few_from zero k s t new y at le h same a =
      let here = subst (λ (v : HostView). AnswersLater b c number event.Step v (Step stepped.Went) new) same a in
      let one = acts_count b c number here.0 new here.2 in
      let both : Some y ≡ Some one.before = sym (others_keep here.1.0 s here.0 y here.1.1 h at) ∙ one.is in
      let alike : y ≡ one.before = cc in
      let counts = ap (λ (x : Connection). x.count) alike in
      omega (arith, one.below, counts, le)
  few_from (suc n) k s t new y at le h goes a =
      let first = goes.1 in
      let one = acts_count b c number first.0 goes.0 first.2 in
      let both : Some y ≡ Some one.before = sym (others_keep first.1.0 s first.0 y first.1.1 h at) ∙ one.is in
      let alike : y ≡ one.before = cc in
      let counts = ap (λ (x : Connection). x.count) alike in
      omega (arith, few_from n (k + 1) goes.0 t new one.after one.then (omega (arith, one.more, counts, le)) (step_numbered _ s goes.0 first h) goes.2 a)

  goes_few : (n : ℕ) (s t new : HostView) → WorldNumbers s.world → GoesOnLater b c number n s t → AnswersLater b c number event.Step t (Step stepped.Went) new → n < b
  unfolding GoesOnLater
  goes_few zero s t new h same a =
      let one = acts_count b c number a.0 new a.2 in
      omega (arith, one.below)
  goes_few (suc n) s t new h goes a =
      let first = goes.1 in
      let one = acts_count b c number first.0 goes.0 first.2 in
      omega (arith, few_from n 1 goes.0 t new one.after one.then (omega (arith, one.more)) (step_numbered _ s goes.0 first h) goes.2 a)

  last_step : (n : ℕ) (s t : HostView) → GoesOnLater b c number (suc n) s t → (q : HostView) × GoesOnLater b c number n s q × AnswersLater b c number event.Step q (Step stepped.Went) t
  unfolding GoesOnLater
  last_step zero s t goes = (s, refl, subst (λ (v : HostView). AnswersLater b c number event.Step s (Step stepped.Went) v) (sym goes.2) goes.1)
  last_step (suc n) s t goes = (let r = last_step n goes.0 t goes.2 in (r.0, (goes.0, goes.1, r.1), r.2))

  -- no more go on than the budget allows
  few_all : (n : ℕ) (s t : HostView) → WorldNumbers s.world → GoesOnLater b c number n s t → n ≤ b
  few_all zero s t h goes = omega arith
  few_all (suc n) s t h goes =
      let l = last_step n s t goes in
      let less = goes_few n s l.0 t h l.1 l.2 in
      omega (arith, less)

  goes_alone : (n : ℕ) (s t : HostView) → HostGoesOn b c number n s t → GoesOnLater b c number n s t
  unfolding HostGoesOn GoesOnLater GoesByOthers
  goes_alone zero s t same = same
  goes_alone (suc n) s t goes = (goes.0, (s, ([], refl), goes.1), goes_alone n goes.0 t goes.2)

  goes_join : (n m : ℕ) (s q t : HostView) → GoesOnLater b c number n s q → GoesOnLater b c number m q t → (k : ℕ) × GoesOnLater b c number k s t
  unfolding GoesOnLater
  goes_join zero m s q t same then = (m, subst (λ (v : HostView). GoesOnLater b c number m v t) same then)
  goes_join (suc n) m s q t goes then = (let r = goes_join n m goes.0 q t goes.2 then in (suc r.0, (goes.0, goes.1, r.1)))

  few_alone : (n : ℕ) (s t : HostView) → WorldNumbers s.world → HostGoesOn b c number n s t → n ≤ b
  few_alone n s t h goes = few_all n s t h (goes_alone n s t goes)

  -- A slice of a call went on: what is left of the call, when it is run, makes it whole.
  pub slice_goes : (way : Way) (more : ℕ) (s m : HostView) → WorldNumbers s.world → StepsOn b c number more s (Ok stepped.Went) m
      → RunsSlice way b c number None s m
  slice_goes alone more s m h x how t r =
      let first = goes_more b c number x.count s x.before m x.goes x.last in
      let all = counts.goes_join b c number (suc x.count) r.runs.count s m r.runs.before first r.runs.goes in
      let few = few_alone (suc x.count + r.runs.count) s r.runs.before h all in
      record { answer = r.answer; runs = record { count = suc x.count + r.runs.count; before = r.runs.before; few = few; goes = all; last = r.runs.last; stops = r.runs.stops }; told = r.told }
  slice_goes among more s m h x how t r =
      let first = goes_alone (suc x.count) s m (goes_more b c number x.count s x.before m x.goes x.last) in
      let all = goes_join (suc x.count) r.runs.count s m r.runs.before first r.runs.goes in
      let few = few_all all.0 s r.runs.before h all.1 in
      record { answer = r.answer; runs = record { count = all.0; before = r.runs.before; few = few; goes = all.1; last = r.runs.last; stops = r.runs.stops }; told = r.told }

  pub slice_ends : (way : Way) (more : ℕ) (answer : Result Stepped Refusal) (how : CallEnd) (s t : HostView) → WorldNumbers s.world
      → ¬ (answer ≡ Ok stepped.Went) → how ≡ ended_of answer → StepsOn b c number more s answer t → RunsIn way b c number s how t
  unfolding GoesByOthers
  slice_ends alone more answer how s t h stops told x =
      let few = few_alone x.count s x.before h x.goes in
      record { answer = answer; runs = record { count = x.count; before = x.before; few = few; goes = x.goes; last = x.last; stops = stops }; told = told }
  slice_ends among more answer how s t h stops told x =
      let all = goes_alone x.count s x.before x.goes in
      let few = few_all x.count s x.before h all in
      record { answer = answer; runs = record { count = x.count; before = x.before; few = few; goes = all; last = (x.before, ([], refl), x.last); stops = stops }; told = told }

  -- A call was run to its end, and nothing of others happened.
  pub runs_now : (way : Way) (how : CallEnd) (s t : HostView) → RunsCall b c number s how t → RunsIn way b c number s how t
  unfolding GoesByOthers
  runs_now alone how s t r = r
  runs_now among how s t r =
      let x = r.runs in
      let all = goes_alone x.count s x.before x.goes in
      record { answer = r.answer; runs = record { count = x.count; before = x.before; few = x.few; goes = all; last = (x.before, ([], refl), x.last); stops = x.stops }; told = r.told }

module _ {F R : Type 0} {g : Ghosts R Stored} (device : F → Device) (number : ℕ) (way : Way) where
  numbered : (host : Host F R g) (w : World) → IsHosting (device (files_of host)) host w → WorldNumbers w
  unfolding IsHosting
  numbered host w hosts = (let r = hosts.reached in run_keeps_numbers _ _ r.events r.answers w r.run)

  module _ (old new : Host F R g) (more : ℕ) (answer : Result Stepped Refusal) (did : Refines device old new (λ b c s t. StepsOn b c number more s answer t)) where
    pub sliced_on : answer ≡ Ok stepped.Went → Refines device old new (λ b c s t. RunsSlice way b c number None s t)
    sliced_on went w hosts =
        let x = subst (λ (a : Result Stepped Refusal). Refines device old new (λ b c s t. StepsOn b c number more s a t)) went did w hosts in
        record { to = x.to; did = slice_goes _ _ number way more _ _ (numbered old w hosts) x.did; hosts = x.hosts; chain = x.chain; budget = x.budget }

    pub sliced_ends : (how : CallEnd) → ¬ (answer ≡ Ok stepped.Went) → how ≡ ended_of answer → Refines device old new (λ b c s t. RunsSlice way b c number (Some how) s t)
    sliced_ends how stops told w hosts =
        let x = did w hosts in
        record { to = x.to; did = slice_ends _ _ number way more answer how _ _ (numbered old w hosts) stops told x.did; hosts = x.hosts; chain = x.chain; budget = x.budget }
