-- What belongs to others may stand before a request, and before what is left of one. An `impl` of `Handler` gives these as its laws, so they stand here.
use Rattle.std.proofs.Common.{ℕ, zero, suc, List, [], ◌∷◌, refl, sym, subst}
use Rattle.module_code.specs.Program.{Program}
use Rattle.run_model.specs.declared.event.Event.{Event}
use Rattle.run_model.specs.declared.event.Event.TheVariants as event
use Rattle.run_model.specs.Worlds.{Answer}
use Rattle.bucket_kinds.specs.Device.{Device}
use Rattle.filter_chain.specs.declared.host.Host.{Host}
use Rattle.filter_chain.specs.Hosting.{Ghosts, Stored, step_answer}
use Rattle.filter_chain.specs.HostViews.{HostView}
use Rattle.http_message.specs.declared.reply.Method.{Method}
use Rattle.http_front.specs.Among.{AnswersLater, ComesLater, GoesOnLater, HandlesAmong, OthersHappen, Rests, RestsAmong, RunsIn, among}
use Rattle.http_front.specs.Driven.{GoesByOthers, NoEventsOf}
use Rattle.http_front.specs.declared.handler.RequestOutcome.{RequestOutcome}
use Rattle.http_front.specs.declared.running.CallEnd.{CallEnd}
use Rattle.http_front.specs.declared.task.RequestTask.{RequestTask}
use Rattle.http_front.specs.declared.task.RequestTask.TheVariants as task
use Rattle.filter_chain.proofs.Driving.{leads_on}

module _ (b : ℕ) (c : List Program) (number : ℕ) where
  others_join : (events : List (ℕ × Event × Answer)) (s m t : HostView) → OthersHappen b c number s m → GoesByOthers b c number events m t → OthersHappen b c number s t
  unfolding GoesByOthers
  others_join [] s m t so same = subst (λ (v : HostView). OthersHappen b c number s v) (sym same) so
  others_join (x ∷ xs) s m t so goes =
      let before = others_join xs s m goes.0 so goes.1 in
      (x ∷ before.0, (goes.0, before.1, goes.2, goes.3))

  module _ (s m : HostView) (gap : OthersHappen b c number s m) where
    pub answers_before : (what : Event) (answer : Answer) (t : HostView) → AnswersLater b c number what m answer t → AnswersLater b c number what s answer t
    answers_before what answer t a = (a.0, others_join a.1.0 s m a.0 gap a.1.1, a.2)

    steps_before : (n : ℕ) (before : HostView) → GoesOnLater b c number n m before → (answer : Answer) (t : HostView)
        → AnswersLater b c number event.Step before answer t
        → (now : HostView) × GoesOnLater b c number n s now × AnswersLater b c number event.Step now answer t
    unfolding GoesOnLater
    steps_before zero before same answer t a = (s, refl, answers_before event.Step answer t (subst (λ (v : HostView). AnswersLater b c number event.Step v answer t) same a))
    steps_before (suc n) before goes answer t a = (before, (goes.0, answers_before event.Step _ goes.0 goes.1, goes.2), a)

    pub runs_before : (how : CallEnd) (t : HostView) → RunsIn among b c number m how t → RunsIn among b c number s how t
    runs_before how t r =
        let x = steps_before r.runs.count r.runs.before r.runs.goes (step_answer r.answer) t r.runs.last in
        record { answer = r.answer; runs = record { count = r.runs.count; before = x.0; few = r.runs.few; goes = x.1; last = x.2; stops = r.runs.stops }; told = r.told }

    comes_before : (method : Method) (file : List ℕ) (o : RequestOutcome) (t : HostView) → ComesLater b c number method file m o t → ComesLater b c number method file s o t
    comes_before method file o t x = record { answer = x.answer; mid = x.mid; acts = answers_before event.Begin _ x.mid x.acts; inits = x.inits }

    rests_before : (k : RequestTask) (o : RequestOutcome) (t : HostView) → Rests among b c number k m o t → Rests among b c number k s o t
    rests_before (task.Opens method name) o t x = record { init = x.init; mid = x.mid; runs = runs_before x.init x.mid x.runs; opens = x.opens }
    rests_before (task.Brings rest) o t x = record { first = x.first; mid = x.mid; runs = runs_before x.first x.mid x.runs; carries = x.carries }

module _ {F R : Type 0} {g : Ghosts R Stored} (device : F → Device) (number : ℕ) (old now new : Host F R g) where
  pub among_later : (method : Method) (file : List ℕ) (o : RequestOutcome) → NoEventsOf device old number now → HandlesAmong device now number method file o new
      → HandlesAmong device old number method file o new
  unfolding NoEventsOf HandlesAmong
  among_later method file o gap comes =
      leads_on device old now new (λ b c s t. OthersHappen b c number s t) (λ b c s t. ComesLater b c number method file s o t) (λ b c s t. ComesLater b c number method file s o t)
      (λ b c s m t x y. comes_before b c number s m x method file o t y) gap comes

  pub rests_later : (k : RequestTask) (o : RequestOutcome) → NoEventsOf device old number now → RestsAmong device now number k o new → RestsAmong device old number k o new
  unfolding NoEventsOf RestsAmong
  rests_later k o gap rests =
      leads_on device old now new (λ b c s t. OthersHappen b c number s t) (λ b c s t. Rests among b c number k s o t) (λ b c s t. Rests among b c number k s o t)
      (λ b c s m t x y. rests_before b c number s m x k o t y) gap rests
