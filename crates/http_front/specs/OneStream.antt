-- One stream of responses for one stream of requests.
use Rattle.std.specs.Prelude.{◌≡◌, ◌⊎◌, ℕ, List, Option}
use Rattle.module_code.specs.Program.{Program}
use Rattle.run_model.specs.Worlds.{World}
use Rattle.bucket_kinds.specs.Device.{Device}
use Rattle.filter_chain.specs.declared.host.Host.{Host}
use Rattle.filter_chain.specs.Hosting.{Ghosts, IsHosting, Stored, budget_of, chain_of, files_of}
use Rattle.filter_chain.specs.HostViews.{HostView}
use Rattle.run_laws.specs.KnownFiles.{AreFilesKnown}
use Rattle.http_message.specs.Clocks.{Said}
use Rattle.http_message.specs.declared.reply.Method.{Method}
use Rattle.http_message.specs.declared.site.Site.{Site}
use Rattle.http_front.specs.Connecting.{ServesAll}
use Rattle.http_front.specs.Driven.{Handles}
use Rattle.http_front.specs.Requests.{ComesOf}
use Rattle.http_front.specs.SameResponses.{AgreeUpToNoMemory, RunsOutOfMemory, Sent, all_sent, bytes_of}
use Rattle.http_front.specs.declared.handler.RequestOutcome.{RequestOutcome}

-- Two outcomes, and what each left: they are the same, or one of them is such a 500.
abbrev pub SameOutcome : RequestOutcome → HostView → RequestOutcome → HostView → Type 0
SameOutcome o t p u = ((o ≡ p) × (t ≡ u)) ⊎ (RunsOutOfMemory o ⊎ RunsOutOfMemory p)

-- Twice a request for one file, from one host whose files are all known.
abbrev pub RequestsAreDeterministic : Type 0
RequestsAreDeterministic = (budget : ℕ) (chain : List Program) (number : ℕ) (method : Method) (file : List ℕ) (s t u : HostView) (o p : RequestOutcome) → AreFilesKnown s.device
    → ComesOf budget chain number method file s o t → ComesOf budget chain number method file s p u → SameOutcome o t p u

-- A request keeps all files known.
abbrev pub RequestsKeepFilesKnown : Type 0
RequestsKeepFilesKnown = (budget : ℕ) (chain : List Program) (number : ℕ) (method : Method) (file : List ℕ) (s t : HostView) (o : RequestOutcome) → AreFilesKnown s.device
    → ComesOf budget chain number method file s o t → AreFilesKnown t.device

module _ {F R : Type 0} {g : Ghosts R Stored} (device : F → Device) where
  -- Two hosts stand for one world, on the same files, chain and budget.
  pub record AreSameHosts (host other : Host F R g) : Type 0 where
    pub world : World
    pub stands : IsHosting (device (files_of host)) host world
    pub other_stands : IsHosting (device (files_of other)) other world
    pub files : device (files_of other) ≡ device (files_of host)
    pub chain : chain_of other ≡ chain_of host
    pub budget : budget_of other ≡ budget_of host

module _ {F K R : Type 0} {g : Ghosts R Stored} (device : F → Device) (tells : K → Said → K → Type 0) (site : Site) where
  -- the responses that were sent
  abbrev pub sent_by : (old : Host F R g) (before : K) (stream : List ℕ) (n : ℕ) (was is : Option (List ℕ)) (new : Host F R g) (after : K)
      → ServesAll device tells site old before stream n was is new after → List Sent
  sent_by old before stream n was is new after run =
      all_sent site (λ o. Handles device o run.connects.number) tells run.connects.opened before stream run.text n run.connects.served after run.connects.done

  -- What was written is the only stream of responses: another run that the same stream may have, from the same host or one that is like it, on
  -- whatever clock, agrees with it up to a 500 that says that memory was refused. was, is: what the sink held, and holds.
  abbrev pub IsOnlyStreamFor : Host F R g → K → List ℕ → ℕ → Option (List ℕ) → Option (List ℕ) → Host F R g → K → Type 0
  IsOnlyStreamFor old before stream n was is new after =
      AreFilesKnown (device (files_of old)) → (run : ServesAll device tells site old before stream n was is new after)
      × (run.text ≡ bytes_of (sent_by old before stream n was is new after run))
      × ((from last : Host F R g) (start end : K) (m : ℕ) (v u : Option (List ℕ)) (other : ServesAll device tells site from start stream m v u last end)
      → AreSameHosts device old from
      → (other.text ≡ bytes_of (sent_by from start stream m v u last end other))
      × AgreeUpToNoMemory (sent_by old before stream n was is new after run) (sent_by from start stream m v u last end other))
