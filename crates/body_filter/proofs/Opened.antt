-- A body is filtered on a new host.
use Rattle.std.proofs.Common.{◌≡◌, ◌≢◌, ℕ, List, [], Option, Some, None, Result, Ok, Err, inl, inr, refl, subst}
use Rattle.std.proofs.KnownBytes.{Appends-nil}
use Rattle.module_code.specs.Program.{Program}
use Rattle.run_model.specs.declared.event.Event.TheVariants as event
use Rattle.run_model.specs.declared.event.Refusal.{Refusal}
use Rattle.run_model.specs.Files.{no_files}
use Rattle.run_model.specs.Worlds.{Connected, Refused, new_world}
use Rattle.bucket_kinds.specs.Device.{Device}
use Rattle.bucket_kinds.specs.MemDevice.{device_of, mem_device}
use Rattle.bucket_kinds.specs.declared.mem_files.MemFiles.{MemFiles}
use Rattle.filter_chain.specs.declared.host.Host.{Host}
use Rattle.filter_chain.specs.Hosting.{Ghosts, Stored, IsHosting, budget_of, chain_of, files_of}
use Rattle.filter_chain.specs.HostViews.{HostView, Answers, host_view}
use Rattle.filter_chain.specs.Led.{IsAlive, Refines, Transition}
use Rattle.filter_chain.specs.Safe.{IsSafe, IsUnfaulted}
use Rattle.filter_chain.proofs.Driving.{HappenedInAny, alive_then, by_event, leads_on}
use Rattle.http_message.specs.declared.failure.Failure.{Failure}
use Rattle.http_message.specs.declared.failure.Failure.TheVariants as failure
use Rattle.module_commands.specs.Streams.{Writes}
use Rattle.module_commands.specs.declared.fault.PlayFault.{PlayFault}
use Rattle.module_commands.specs.declared.fault.PlayFault.TheVariants as fault
use Rattle.body_filter.specs.BodyCalls.{OpensForBody, RunsOut, faulted}
use Rattle.body_filter.proofs.SafeCalls.{safe_by}
use Rattle.body_filter.specs.Feeding.{FeedsBody}
use Rattle.body_filter.specs.Filtered.{Filters, FiltersUpTo, IsFiltered, IsFilteredUpTo, body_end, empty_view}
use Rattle.body_filter.specs.declared.ending.BodyEnd.{BodyEnd}
use Rattle.body_filter.specs.declared.ending.BodyEnd.TheVariants as end

-- what is written of a body is also this
writes_as : (r w v : Option (List ℕ)) (P Q : List ℕ → List ℕ → Type 0) → ((body text : List ℕ) → P body text → Q body text) → Writes r w v P → Writes r w v Q
writes_as None w v P Q all wrote = tt
writes_as (Some body) w v P Q all wrote = (wrote.0, all body wrote.0 wrote.1, wrote.2)

-- nothing is written
writes_none : (r w : Option (List ℕ)) (P : List ℕ → List ℕ → Type 0) → ((body : List ℕ) → P body []) → Writes r w w P
writes_none None w P all = tt
writes_none (Some body) w P all = ([], all body, Appends-nil w)

-- no memory for a host
pub hostless : (budget : ℕ) (chain : List Program) (r w : Option (List ℕ)) → Writes r w w (λ body text. IsFilteredUpTo budget chain body r text fault.NoMemory)
hostless budget chain r w = writes_none r w (λ body text. IsFilteredUpTo budget chain body r text fault.NoMemory) (λ body. inr refl)

-- an opening is refused for no fault
pub refused_end : (why : Refusal) → IsUnfaulted (Refused why) → end.Cut (failure.Refused why) ≢ end.Cut faulted
refused_end why well is = well (cc)

-- it was opened, and the body is brought so
record OpensAndPlays (b : ℕ) (c : List Program) (number : ℕ) (w v r q : Option (List ℕ)) (x : Result (Option Failure) PlayFault) (s t : HostView) : Type 0 where
  opened : HostView
  opens : OpensForBody b c number s opened
  feeds : FeedsBody b c number w v r q x opened t

up_to : (b : ℕ) (c : List Program) (number : ℕ) (q : Option (List ℕ)) (opened last : HostView) (e : PlayFault) (body text : List ℕ) → OpensForBody b c number empty_view opened
    → FiltersUpTo b c number body q e opened text last → IsFilteredUpTo b c body q text e
up_to b c number q opened last fault.Read body text opens fails = record { number = number; opened = opened; last = last; opens = opens; fails = fails }
up_to b c number q opened last fault.Write body text opens fails = record { number = number; opened = opened; last = last; opens = opens; fails = fails }
up_to b c number q opened last fault.NoMemory body text opens fails = inl (record { number = number; opened = opened; last = last; opens = opens; fails = fails })

module _ {R : Type 0} {g : Ghosts R Stored} where
  pub open_alive : (old new : Host MemFiles R g) (number : ℕ) → IsAlive mem_device old → HappenedInAny mem_device old new 0 event.Open (Connected number) → IsAlive mem_device new
  open_alive old new number alive h = (let x = h alive.0 alive.1 in (x.to, x.hosts))

  pub out_alive : (old new : Host MemFiles R g) (number : ℕ) (how : Option Failure) → IsAlive mem_device old → Refines mem_device old new (λ b c s t. RunsOut b c number s how t)
      → IsAlive mem_device new
  out_alive old new number how = alive_then mem_device old new (λ b c s t. RunsOut b c number s how t)

  pub out_safe : (old new : Host MemFiles R g) (number : ℕ) (how : Option Failure) → IsAlive mem_device old → Refines mem_device old new (λ b c s t. RunsOut b c number s how t)
      → IsSafe old → IsSafe new
  out_safe old new number how alive runs = safe_by mem_device old new (λ b c s t. RunsOut b c number s how t) alive runs

  module _ (host mid opened last : Host MemFiles R g) (budget : ℕ) (chain : List Program) (hosts : IsHosting (mem_device (files_of host)) host (new_world 1))
      (budget_is : budget_of host ≡ budget)
      (chain_is : chain_of host ≡ chain) (device_is : mem_device (files_of host) ≡ device_of no_files 0) where
    -- what is done from the new world on, is done from there
    from_new : (new : Host MemFiles R g) (does : Transition) → Refines mem_device host new does → (t : HostView) × does budget chain empty_view t
    from_new new does h =
        let x = h (new_world 1) hosts in
        let t : HostView = host_view x.to (mem_device (files_of new)) in (
          t,
          subst (λ (d : Device). does budget chain (host_view (new_world 1) d) t) device_is
              (subst (λ (c : List Program). does budget c (host_view (new_world 1) (mem_device (files_of host))) t) chain_is
              (subst (λ (b : ℕ). does b (chain_of host) (host_view (new_world 1) (mem_device (files_of host))) t) budget_is x.did)),
        )

    module _ (number : ℕ) (how : Option Failure) (w v r q : Option (List ℕ)) (acts : HappenedInAny mem_device host mid 0 event.Open (Connected number))
        (runs : Refines mem_device mid opened (λ b c s t. RunsOut b c number s how t)) where
      all_fed : (x : Result (Option Failure) PlayFault) → Refines mem_device opened last (λ b c s t. FeedsBody b c number w v r q x s t)
          → (t : HostView) × OpensAndPlays budget chain number w v r q x empty_view t
      all_fed x feeds =
          let opens = leads_on mem_device host mid opened (λ b c s t. Answers b c 0 event.Open s (Connected number) t) (λ b c s t. RunsOut b c number s how t)
          (λ b c s t. OpensForBody b c number s t)
          (λ b c s m t a k. record { mid = m; how = how; acts = a; runs = k }) (by_event mem_device host mid 0 event.Open (Connected number) acts) runs in
          from_new last (λ b c s t. OpensAndPlays b c number w v r q x s t)
          (leads_on mem_device host opened last (λ b c s t. OpensForBody b c number s t) (λ b c s t. FeedsBody b c number w v r q x s t)
          (λ b c s t. OpensAndPlays b c number w v r q x s t)
          (λ b c s m t a k. record { opened = m; opens = a; feeds = k }) opens feeds)

      pub filtered : (last_how : Option Failure) (e : BodyEnd) → e ≡ body_end last_how → Refines mem_device opened last (λ b c s t. FeedsBody b c number w v r q (Ok last_how) s t)
          → Writes r w v (λ body text. IsFiltered budget chain body text e)
      filtered last_how e is feeds =
          let all = all_fed (Ok last_how) feeds in
          writes_as r w v (λ body text. Filters budget chain number body all.1.opened last_how text all.0) (λ body text. IsFiltered budget chain body text e)
          (λ body text x. inl (record { number = number; how = last_how; opened = all.1.opened; last = all.0; opens = all.1.opens; filters = x; ends = is })) all.1.feeds

      pub filtered_up_to : (f : PlayFault) → Refines mem_device opened last (λ b c s t. FeedsBody b c number w v r q (Err f) s t)
          → Writes r w v (λ body text. IsFilteredUpTo budget chain body q text f)
      filtered_up_to f feeds =
          let all = all_fed (Err f) feeds in
          writes_as r w v (λ body text. FiltersUpTo budget chain number body q f all.1.opened text all.0) (λ body text. IsFilteredUpTo budget chain body q text f)
          (λ body text x. up_to budget chain number q all.1.opened all.0 f body text all.1.opens x) all.1.feeds

    pub unopened : (why : Refusal) (r w : Option (List ℕ)) → HappenedInAny mem_device host mid 0 event.Open (Refused why)
        → Writes r w w (λ body text. IsFiltered budget chain body text (end.Cut (failure.Refused why)))
    unopened why r w h =
        let x = from_new mid (λ b c s t. Answers b c 0 event.Open s (Refused why) t) (by_event mem_device host mid 0 event.Open (Refused why) h) in
        writes_none r w (λ body text. IsFiltered budget chain body text (end.Cut (failure.Refused why)))
        (λ body. inr (record { why = why; last = x.0; refused = x.1; none = refl; ends = refl }))
