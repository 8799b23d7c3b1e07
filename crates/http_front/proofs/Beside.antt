-- Events of one connection lead a host on.
use Rattle.std.proofs.Common.{ℕ, zero, suc, ◌≡◌, ◌≤◌, List, [], ◌∷◌, Result, Ok, Err, Some, inl, inr, refl, sym, subst}
use Rattle.std.specs.Prelude.{IfErr}
use Rattle.module_code.specs.Program.{Program}
use Rattle.run_model.specs.declared.event.Event.{Event}
use Rattle.run_model.specs.declared.event.Event.TheVariants as event
use Rattle.run_model.specs.declared.event.Refusal.{Refusal}
use Rattle.run_model.specs.declared.event.Stepped.{Stepped}
use Rattle.run_model.specs.declared.event.Stepped.TheVariants as stepped
use Rattle.run_model.specs.Worlds.{Answer, Step, Refused}
use Rattle.bucket_kinds.specs.Device.{Device}
use Rattle.filter_chain.specs.declared.host.Host.{Host}
use Rattle.filter_chain.specs.Hosting.{Ghosts, Stored, step_answer}
use Rattle.filter_chain.specs.Running as steps
use Rattle.filter_chain.specs.HostViews.{HostView, Answers}
use Rattle.http_front.specs.Apart.{none_made}
use Rattle.http_front.specs.Driven.{Refines, GoesBy, IsOfConn, Lacks, LacksFor, OnlyEventsOf, StepsAtMost, steps_in}
use Rattle.http_front.specs.Requests.{IsOfRequest, lack_of}
use Rattle.http_front.specs.declared.fault.FrontKind.{FrontKind}
use Rattle.http_front.specs.declared.fault.FrontKind.TheVariants as kind
use Rattle.filter_chain.proofs.Driving.{HappenedInAny, by_event, leads_as, leads_on, leads_still}

-- some events
abbrev Some-events : ℕ → List Program → ℕ → HostView → HostView → Type 0
Some-events b c number s t = (events : List (Event × Answer)) × GoesBy b c number events s t

one_more : (b : ℕ) (c : List Program) (number : ℕ) (what : Event) (answer : Answer) (s m t : HostView) → IsOfConn what → Some-events b c number s m
    → Answers b c number what m answer t → Some-events b c number s t
unfolding GoesBy
one_more b c number what answer s m t own so acts = ((what, answer) ∷ so.0, (m, so.1, own, acts))

steps_more : (b : ℕ) (c : List Program) (number n : ℕ) (s m t : HostView) → Some-events b c number s m → steps.HostGoesOn b c number n m t → Some-events b c number s t
unfolding steps.HostGoesOn
steps_more b c number zero s m t so same = subst (λ (x : HostView). Some-events b c number s x) (sym same) so
steps_more b c number (suc n) s m t so goes = steps_more b c number n s goes.0 t (one_more b c number event.Step (Step stepped.Went) s m goes.0 tt so goes.1) goes.2

-- more events after these
all_more : (b : ℕ) (c : List Program) (number : ℕ) (events : List (Event × Answer)) (s m t : HostView) → Some-events b c number s m → GoesBy b c number events m t
    → Some-events b c number s t
unfolding GoesBy
all_more b c number [] s m t so same = subst (λ (x : HostView). Some-events b c number s x) (sym same) so
all_more b c number (x ∷ xs) s m t so goes =
    let before = all_more b c number xs s m goes.0 so goes.1 in
    (x ∷ before.0, (goes.0, before.1, goes.2, goes.3))

module _ {F R : Type 0} {g : Ghosts R Stored} (device : F → Device) (number : ℕ) where
  pub beside_same : (host : Host F R g) → OnlyEventsOf device host number host
  unfolding OnlyEventsOf GoesBy
  beside_same host = leads_still device host (λ b c s t. Some-events b c number s t) (λ b c s. ([], refl))

  module _ (from old new : Host F R g) (so : OnlyEventsOf device from number old) where
    pub beside_event : (what : Event) (answer : Answer) → IsOfConn what → HappenedInAny device old new number what answer → OnlyEventsOf device from number new
    unfolding OnlyEventsOf
    beside_event what answer own h =
        leads_on device from old new (λ b c s t. Some-events b c number s t) (λ b c s t. Answers b c number what s answer t) (λ b c s t. Some-events b c number s t)
        (λ b c s m t x a. one_more b c number what answer s m t own x a) so (by_event device old new number what answer h)

    pub beside_runs : (answer : Result Stepped Refusal) → Refines device old new (λ b c s t. steps.StepsToEnd b c number s answer t) → OnlyEventsOf device from number new
    unfolding OnlyEventsOf
    beside_runs answer h =
        leads_on device from old new (λ b c s t. Some-events b c number s t) (λ b c s t. steps.StepsToEnd b c number s answer t) (λ b c s t. Some-events b c number s t)
        (λ b c s m t x r. one_more b c number event.Step (step_answer answer) s r.before t tt (steps_more b c number r.count s m r.before x r.goes) r.last) so h

    -- what makes at most so many steps makes events of this connection alone
    pub beside_few : (n : ℕ) → StepsAtMost device old number n new → OnlyEventsOf device from number new
    unfolding OnlyEventsOf StepsAtMost
    beside_few n few =
        leads_on device from old new (λ b c s t. Some-events b c number s t) (λ b c s t. (events : List (Event × Answer)) × GoesBy b c number events s t × (steps_in events ≤ n))
        (λ b c s t. Some-events b c number s t) (λ b c s m t x y. all_more b c number y.0 s m t x y.1) so few

    pub beside_made : (most : ℕ → ℕ) → ((first : Host F R g) (n : ℕ) → StepsAtMost device first number n old → StepsAtMost device first number (most n) new)
        → OnlyEventsOf device from number new
    beside_made most made = beside_few (most 0) (made old 0 (none_made device number old 0))

    -- the last event of them was refused
    pub beside_lacks : (what : Event) (why : Refusal) (e : FrontKind) → IsOfRequest what → lack_of why ≡ Some e → HappenedInAny device old new number what (Refused why)
        → LacksFor device from number e new
    unfolding OnlyEventsOf LacksFor
    beside_lacks what why e asked lacks h =
        leads_on device from old new (λ b c s t. Some-events b c number s t) (λ b c s t. Answers b c number what s (Refused why) t) (λ b c s t. Lacks b c number e s t)
        (λ b c s m t x a. record { events = x.0; mid = m; before = x.1; last = inl (record { what = what; why = why; asked = asked; lacks = lacks; acts = a }) }) so
        (by_event device old new number what (Refused why) h)

  -- memory was lacking, and no event asked for it
  pub beside_none : (from old : Host F R g) → OnlyEventsOf device from number old → LacksFor device from number kind.NoMemory old
  unfolding OnlyEventsOf LacksFor
  beside_none from old so =
      leads_as device from old (λ b c s t. Some-events b c number s t) (λ b c s t. Lacks b c number kind.NoMemory s t)
      (λ b c s t x. record { events = x.0; mid = t; before = x.1; last = inr (refl, refl) }) so

-- how a `?` leaves
pub err_by : {T : Type 0} (P : FrontKind → Type 0) (r : Result T FrontKind) (y e : FrontKind) → r ≡ Err y → y ≡ e → P e → IfErr r P
err_by P (Ok x) y e is same p = tt
err_by P (Err k) y e is same p = let here : e ≡ k = cc in subst P here p

pub err_both : {T : Type 0} (r : Result T FrontKind) (P Q : FrontKind → Type 0) → IfErr r P → IfErr r Q → IfErr r (λ e. P e × Q e)
err_both (Ok x) P Q p q = tt
err_both (Err e) P Q p q = (p, q)

pub lack_named : {P : Type 0} → kind.NoMemory ≡ kind.NamesSpent → P
lack_named is = absurd (cc)
