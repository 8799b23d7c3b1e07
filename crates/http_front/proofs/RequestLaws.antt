-- Calls that run to their end, and how a request ends.
use Rattle.std.proofs.Common.{◌≡◌, ℕ, List, [], Option, Some, None, Result, Ok, Err, IfOk, refl, sym, subst}
use Rattle.module_code.specs.Program.{Program}
use Rattle.run_model.specs.declared.event.Event.{Event}
use Rattle.run_model.specs.declared.event.Event.TheVariants as event
use Rattle.run_model.specs.declared.event.Refusal.{Refusal}
use Rattle.run_model.specs.declared.event.Stepped.{Stepped}
use Rattle.run_model.specs.Worlds.{Answer, Output, Refused}
use Rattle.bucket_kinds.specs.Device.{Device}
use Rattle.filter_chain.specs.declared.host.Host.{Host}
use Rattle.filter_chain.specs.Hosting.{Ghosts, Stored}
use Rattle.filter_chain.specs.HostViews.{HostView, Answers}
use Rattle.filter_chain.specs.Led.{Transition}
use Rattle.filter_chain.specs.Running as steps
use Rattle.http_message.specs.declared.failure.Failure.{Failure}
use Rattle.http_message.specs.declared.failure.Failure.TheVariants as failure
use Rattle.http_message.specs.declared.status.StatusCode.TheVariants.{Success}
use Rattle.http_front.specs.Among.{AnswersIn, EndsBareIn, EndsRequestIn, EndsWithOutputIn, FinishesIn, MakesSlice, Slices, TakesOutputIn, Way, Whole, alone, among}
use Rattle.http_front.specs.Driven.{GoesByOthers, Refines}
use Rattle.http_front.specs.Outcomes.{IsUnserved}
use Rattle.http_front.specs.Requests.{EndsRequest, RunsCall, TakesOutput, ended_of}
use Rattle.http_front.specs.declared.fault.FrontKind.{FrontKind}
use Rattle.http_front.specs.declared.handler.RequestOutcome.{RequestOutcome}
use Rattle.http_front.specs.declared.handler.Slice.{Slice}
use Rattle.http_front.specs.declared.handler.Slice.TheVariants as slice
use Rattle.http_front.specs.declared.running.CallEnd.{CallEnd}
use Rattle.http_front.specs.declared.task.RequestTask.{RequestTask}
use Rattle.filter_chain.proofs.Driving.{HappenedInAny, by_event, leads_any, leads_as, leads_on}

-- A call runs, and it is told how it ended.
pub runs_told : {F R : Type 0} {g : Ghosts R Stored} (device : F → Device) (number : ℕ) (old new : Host F R g) (answer : Result Stepped Refusal) (how : CallEnd) → how ≡ ended_of answer
    → Refines device old new (λ b c s t. steps.StepsToEnd b c number s answer t) → Refines device old new (λ b c s t. RunsCall b c number s how t)
runs_told device number old new answer how told =
    leads_as device old new (λ b c s t. steps.StepsToEnd b c number s answer t) (λ b c s t. RunsCall b c number s how t) (λ b c s t x. record { answer = answer; runs = x; told = told })

-- What happens with nothing of others before it happens so among others, too.

pub now_acts : (way : Way) (b : ℕ) (c : List Program) (number : ℕ) (what : Event) (answer : Answer) (s t : HostView)
    → Answers b c number what s answer t → AnswersIn way b c number what s answer t
unfolding GoesByOthers
now_acts alone b c number what answer s t a = a
now_acts among b c number what answer s t a = (s, ([], refl), a)

module _ (way : Way) (b : ℕ) (c : List Program) (number : ℕ) where
  ends_now : (s t : HostView) → EndsRequest b c number s t → EndsRequestIn way b c number s t
  ends_now s t e = record { answer = e.answer; acts = now_acts way b c number event.End _ s t e.acts; lacks = e.lacks }

  takes_now : (s : HostView) (o : RequestOutcome) (t : HostView) → TakesOutput b c number s o t → TakesOutputIn way b c number s o t
  takes_now s o t x = record { answer = x.answer; acts = now_acts way b c number event.TakeOutput _ s t x.acts; gives = x.gives }

module _ {F R : Type 0} {g : Ghosts R Stored} (device : F → Device) (number : ℕ) where
  module _ (old new : Host F R g) where
    pub output_taken : (o : RequestOutcome) (bytes : List ℕ) → o.status ≡ Success → o.body ≡ bytes → o.failure ≡ None → HappenedInAny device old new number event.TakeOutput (Output bytes)
        → Refines device old new (λ b c s t. TakesOutput b c number s o t)
    output_taken o bytes status body well h =
        leads_as device old new (λ b c s t. Answers b c number event.TakeOutput s (Output bytes) t) (λ b c s t. TakesOutput b c number s o t)
        (λ b c s t a. record { answer = Ok bytes; acts = a; gives = (status, body, well) }) (by_event device old new number event.TakeOutput (Output bytes) h)

    pub output_refused : (o : RequestOutcome) (why : Refusal) → IsUnserved (Some (failure.Refused why)) o → HappenedInAny device old new number event.TakeOutput (Refused why)
        → Refines device old new (λ b c s t. TakesOutput b c number s o t)
    output_refused o why without_body h =
        leads_as device old new (λ b c s t. Answers b c number event.TakeOutput s (Refused why) t) (λ b c s t. TakesOutput b c number s o t)
        (λ b c s t a. record { answer = Err why; acts = a; gives = without_body }) (by_event device old new number event.TakeOutput (Refused why) h)

    pub bare_finished : (why : Option Failure) (o : RequestOutcome) → IsUnserved why o → Refines device old new (λ b c s t. EndsRequest b c number s t)
        → MakesSlice device number (λ way b c. EndsBareIn way b c number why) old (Ok (slice.Done o)) new
    bare_finished why o without_body h way =
        leads_as device old new (λ b c s t. EndsRequest b c number s t) (λ b c s t. EndsBareIn way b c number why s o t) (λ b c s t e. (without_body, ends_now way b c number s t e)) h

    -- something lacked
    pub lacked : (all : Whole) (first : Transition) (r : Result (Slice RequestTask) FrontKind) (e : FrontKind) → r ≡ Err e → Refines device old new first
        → MakesSlice device number all old r new
    lacked all first r e is h way =
        subst (λ (x : Result (Slice RequestTask) FrontKind). Refines device old new (λ b c s t. IfOk x (λ y. Slices way b c number (all way b c) s y t))) (sym is)
        (leads_any device old new first h)

    -- by how the last call ended
    pub finished : (r : Result (Slice RequestTask) FrontKind) (how is : CallEnd) → how ≡ is
        → MakesSlice device number (λ way b c. FinishesIn way b c number is) old r new → MakesSlice device number (λ way b c. FinishesIn way b c number how) old r new
    finished r how is same h = subst (λ (e : CallEnd). MakesSlice device number (λ way b c. FinishesIn way b c number e) old r new) (sym same) h

  module _ (old mid new : Host F R g) where
    pub output_finished : (o : RequestOutcome) → Refines device old mid (λ b c s t. TakesOutput b c number s o t) → Refines device mid new (λ b c s t. EndsRequest b c number s t)
        → MakesSlice device number (λ way b c. EndsWithOutputIn way b c number) old (Ok (slice.Done o)) new
    output_finished o h k way =
        leads_on device old mid new (λ b c s t. TakesOutput b c number s o t) (λ b c s t. EndsRequest b c number s t) (λ b c s t. EndsWithOutputIn way b c number s o t)
        (λ b c s m t x y. (m, takes_now way b c number s o m x, ends_now way b c number m t y)) h k

    output_unfinished : (o : RequestOutcome) → Refines device old mid (λ b c s t. TakesOutput b c number s o t) → Refines device mid new (λ b c s t. Unit {0})
        → Refines device old new (λ b c s t. Unit {0})
    output_unfinished o = leads_on device old mid new (λ b c s t. TakesOutput b c number s o t) (λ b c s t. Unit {0}) (λ b c s t. Unit {0}) (λ b c s m t x y. tt)

    pub output_lacked : (o : RequestOutcome) (r : Result (Slice RequestTask) FrontKind) (e : FrontKind) → r ≡ Err e
        → Refines device old mid (λ b c s t. TakesOutput b c number s o t) → Refines device mid new (λ b c s t. Unit {0})
        → MakesSlice device number (λ way b c. EndsWithOutputIn way b c number) old r new
    output_lacked o r e is h k = lacked old new (λ way b c. EndsWithOutputIn way b c number) (λ b c s t. Unit {0}) r e is (output_unfinished o h k)
