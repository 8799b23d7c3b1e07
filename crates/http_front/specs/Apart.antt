-- What happens beside a connection. An `impl` of `Handler` gives these as its laws, so they stand here.
use Rattle.std.proofs.Common.{◌≢◌, ◌≤◌, ℕ, List, [], ◌∷◌, refl, sym, subst, arith}
use Rattle.module_code.specs.Program.{Program}
use Rattle.run_model.specs.declared.event.Event.{Event}
use Rattle.run_model.specs.Worlds.{Answer}
use Rattle.bucket_kinds.specs.Device.{Device}
use Rattle.filter_chain.specs.declared.host.Host.{Host}
use Rattle.filter_chain.specs.Hosting.{Ghosts, Stored}
use Rattle.filter_chain.specs.HostViews.{HostView, Answers}
use Rattle.http_front.specs.Driven.{GoesBy, GoesByOthers, NoEventsOf, OnlyEventsOf, StepsAtMost, steps_in}
use Rattle.filter_chain.proofs.Driving.{HappenedInAny, by_event, leads_on, leads_still}

abbrev OthersApart : ℕ → List Program → ℕ → HostView → HostView → Type 0
OthersApart b c number s t = (events : List (ℕ × Event × Answer)) × GoesByOthers b c number events s t

abbrev Own : ℕ → List Program → ℕ → HostView → HostView → Type 0
Own b c number s t = (events : List (Event × Answer)) × GoesBy b c number events s t

-- the events of one connection are behind those of others than another one
others_more : (b : ℕ) (c : List Program) (number other : ℕ) → other ≢ number → (events : List (Event × Answer)) (s m t : HostView) → OthersApart b c other s m
    → GoesBy b c number events m t → OthersApart b c other s t
unfolding GoesBy GoesByOthers
others_more b c number other apart [] s m t so same = subst (λ (v : HostView). OthersApart b c other s v) (sym same) so
others_more b c number other apart (x ∷ xs) s m t so goes =
    let before = others_more b c number other apart xs s m goes.0 so goes.1 in
    ((number, x.0, x.1) ∷ before.0, (goes.0, before.1, apart, goes.3))

module _ {F R : Type 0} {g : Ghosts R Stored} (device : F → Device) (number : ℕ) where
  pub own_same : (host : Host F R g) → OnlyEventsOf device host number host
  unfolding OnlyEventsOf GoesBy
  own_same host = leads_still device host (λ b c s t. Own b c number s t) (λ b c s. ([], refl))

  -- no step was made
  pub none_made : (host : Host F R g) (n : ℕ) → StepsAtMost device host number n host
  unfolding StepsAtMost GoesBy steps_in
  none_made host n = leads_still device host (λ b c s t. (events : List (Event × Answer)) × GoesBy b c number events s t × (steps_in events ≤ n)) (λ b c s. ([], refl, omega arith))

  pub apart_same : (host : Host F R g) → NoEventsOf device host number host
  unfolding NoEventsOf GoesByOthers
  apart_same host = leads_still device host (λ b c s t. OthersApart b c number s t) (λ b c s. ([], refl))

  pub apart_beside : (other : ℕ) (from old new : Host F R g) → other ≢ number → NoEventsOf device from other old → OnlyEventsOf device old number new → NoEventsOf device from other new
  unfolding NoEventsOf OnlyEventsOf
  apart_beside other from old new apart so own =
      leads_on device from old new (λ b c s t. OthersApart b c other s t) (λ b c s t. Own b c number s t) (λ b c s t. OthersApart b c other s t)
      (λ b c s m t x y. others_more b c number other apart y.0 s m t x y.1) so own

  -- one event of another connection, it may be an opening
  pub apart_event : (other : ℕ) (from old new : Host F R g) → other ≢ number → NoEventsOf device from other old → (what : Event) (answer : Answer)
      → HappenedInAny device old new number what answer → NoEventsOf device from other new
  unfolding NoEventsOf GoesByOthers
  apart_event other from old new apart so what answer h =
      leads_on device from old new (λ b c s t. OthersApart b c other s t) (λ b c s t. Answers b c number what s answer t) (λ b c s t. OthersApart b c other s t)
      (λ b c s m t x a. ((number, what, answer) ∷ x.0, (m, x.1, apart, a))) so (by_event device old new number what answer h)
