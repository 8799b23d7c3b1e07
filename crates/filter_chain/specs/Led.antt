-- What a host is led through, by the devices of its files.
use Rattle.std.specs.Prelude.{◌≡◌, ℕ, List}
use Rattle.module_code.specs.Program.{Program}
use Rattle.run_model.specs.Worlds.{World}
use Rattle.bucket_kinds.specs.Device.{Device}
use Rattle.filter_chain.specs.Hosting.{Ghosts, Host, Stored, IsHosting, budget_of, chain_of, files_of}
use Rattle.filter_chain.specs.HostViews.{HostView, host_view}

-- what may happen between two scenes, with this budget and chain
abbrev pub Transition : Type 1
Transition = ℕ → List Program → HostView → HostView → Type 0

module _ {F R : Type 0} {g : Ghosts R Stored} (device : F → Device) where
  -- The host stands for some world.
  abbrev pub IsAlive : Host F R g → Type 0
  IsAlive host = (w : World) × IsHosting (device (files_of host)) host w

  -- From this world the deed was done, and the host stands for what it leaves, on the same chain, with the same budget.
  pub record RefinesFrom (old new : Host F R g) (does : Transition) (w : World) : Type 0 where
    pub to : World
    pub did : does (budget_of old) (chain_of old) (host_view w (device (files_of old))) (host_view to (device (files_of new)))
    pub hosts : IsHosting (device (files_of new)) new to
    pub chain : chain_of new ≡ chain_of old
    pub budget : budget_of new ≡ budget_of old

  -- So it is from each world that the host stands for.
  abbrev pub Refines : Host F R g → Host F R g → Transition → Type 0
  Refines old new does = (w : World) → IsHosting (device (files_of old)) old w → RefinesFrom old new does w
