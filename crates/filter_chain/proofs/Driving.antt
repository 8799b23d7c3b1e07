-- A host is led through one deed after another.
use Rattle.std.proofs.Common.{◌≡◌, ℕ, List, Result, Ok, Err, IfOk, refl, subst, ◌∙◌}
use Rattle.module_code.specs.Program.{Program}
use Rattle.run_model.specs.declared.event.Event.{Event}
use Rattle.run_model.specs.Worlds.{World, Answer}
use Rattle.bucket_kinds.specs.Device.{Device}
use Rattle.filter_chain.specs.Hosting.{Ghosts, Host, Stored, IsHosting, Happens, budget_of, chain_of, files_of}
use Rattle.filter_chain.specs.HostViews.{HostView, Answers}
use Rattle.filter_chain.specs.Led.{Transition, IsAlive, Refines}

-- an event, of a host that stands for any world
abbrev pub HappenedInAny : {F R : Type 0} {g : Ghosts R Stored} → (F → Device) → Host F R g → Host F R g → ℕ → Event → Answer → Type 0
HappenedInAny device old new number what answer =
    (w : World) → IsHosting (device (files_of old)) old w → Happens (device (files_of old)) (device (files_of new)) old new number what answer w

module _ {F R : Type 0} {g : Ghosts R Stored} (device : F → Device) where
  pub by_event : (old new : Host F R g) (number : ℕ) (what : Event) (answer : Answer) → HappenedInAny device old new number what answer
      → Refines device old new (λ b c s t. Answers b c number what s answer t)
  by_event old new number what answer h w hosts =
      let x = h w hosts in
      record { to = x.to; did = x.acts; hosts = x.hosts; chain = x.chain; budget = x.budget }

  pub alive_then : (old new : Host F R g) (does : Transition) → IsAlive device old → Refines device old new does → IsAlive device new
  alive_then old new does alive h = (let x = h alive.0 alive.1 in (x.to, x.hosts))

  -- what was done to a host on the same chain, with the same budget, was done on its own
  there : (old mid : Host F R g) (does : Transition) (s t : HostView) → chain_of mid ≡ chain_of old → budget_of mid ≡ budget_of old → does (budget_of mid) (chain_of mid) s t
      → does (budget_of old) (chain_of old) s t
  there old mid does s t chain budget d =
      subst (λ (b : ℕ). does b (chain_of old) s t) budget (subst (λ (c : List Program). does (budget_of mid) c s t) chain d)

  pub leads_as : (old new : Host F R g) (does means : Transition) → ((b : ℕ) (c : List Program) (s t : HostView) → does b c s t → means b c s t) → Refines device old new does
      → Refines device old new means
  leads_as old new does means all h w hosts =
      let x = h w hosts in
      record { to = x.to; did = all _ _ _ _ x.did; hosts = x.hosts; chain = x.chain; budget = x.budget }

  pub leads_on : (old mid new : Host F R g) (first then means : Transition) → ((b : ℕ) (c : List Program) (s m t : HostView) → first b c s m → then b c m t → means b c s t)
      → Refines device old mid first → Refines device mid new then → Refines device old new means
  leads_on old mid new first then means all h k w hosts =
      let x = h w hosts in
      let y = k x.to x.hosts in
      record {
        to = y.to;
        did = all (budget_of old) (chain_of old) _ _ _ x.did (there old mid then _ _ x.chain x.budget y.did);
        hosts = y.hosts;
        chain = y.chain ∙ x.chain;
        budget = y.budget ∙ x.budget;
      }

  -- nothing was done
  pub leads_still : (host : Host F R g) (means : Transition) → ((b : ℕ) (c : List Program) (s : HostView) → means b c s s) → Refines device host host means
  leads_still host means all w hosts = record { to = w; did = all _ _ _; hosts = hosts; chain = refl; budget = refl }

  -- What is so in a world that the host comes to is so, where it says nothing of the world.
  pub leads_to : (old new : Host F R g) (does : Transition) (P : Type 0) → IsAlive device old → ((b : ℕ) (c : List Program) (s t : HostView) → does b c s t → P) → Refines device old new does → P
  leads_to old new does P alive all h = all _ _ _ _ (h alive.0 alive.1).did

  -- no deed is told of
  pub leads_any : (old new : Host F R g) (does : Transition) → Refines device old new does → Refines device old new (λ b c s t. Unit {0})
  leads_any old new does = leads_as old new does (λ b c s t. Unit {0}) (λ b c s t d. tt)

  -- a second deed that is told of where it is Ok
  pub leads_ok : {A E : Type 0} (r : Result A E) (old mid new : Host F R g) (first : Transition) (then means : A → Transition)
      → ((a : A) (b : ℕ) (c : List Program) (s m t : HostView) → first b c s m → then a b c m t → means a b c s t)
      → Refines device old mid first → Refines device mid new (λ b c s t. IfOk r (λ a. then a b c s t)) → Refines device old new (λ b c s t. IfOk r (λ a. means a b c s t))
  leads_ok (Ok a) old mid new first then means all h k = leads_on old mid new first (then a) (means a) (all a) h k
  leads_ok (Err e) old mid new first then means all h k = leads_on old mid new first (λ b c s t. Unit {0}) (λ b c s t. Unit {0}) (λ b c s m t x y. tt) h k
