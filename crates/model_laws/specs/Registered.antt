-- Each live brigade stands once among the payloads of its pool, and no other brigade stands there.
use Rattle.std.specs.Prelude.{◌≡◌, ◌⊎◌, ℕ, ◌<◌, Some}
use Rattle.module_code.specs.declared.instr.Instr.{Instr}
use Rattle.module_code.specs.Program.{Program}
use Rattle.run_model.specs.declared.payload.Payload.{Payload}
use Rattle.run_model.specs.Pools.{Pools}
use Rattle.run_model.specs.State.{Instance, Configuration}
use Rattle.run_model.specs.Steps.{Choice, step}
use Rattle.run_model.specs.Sound.{brigade_name, brigade_pool, Sound}
use Rattle.run_model.specs.Chains.{touched_var, touched_instance}
use Rattle.model_laws.specs.Laws.{MayExecute}
use Rattle.model_laws.specs.AsDeclared.{AsDeclared}
use Rattle.run_model.specs.Holding.{times_held}

-- In a variable of the instance is a live brigade of this name on the pool p.
abbrev pub IsMadeIn : Instance → ℕ → ℕ → Type 0
IsMadeIn i name p = (b : ℕ) × (brigade_name (i.brigades b) ≡ Some name) × (brigade_pool (i.brigades b) ≡ Some p)

-- Of the live brigades, of one instance or of several. once: each stands once with its pool. only: what stands there is one.
pub record AreRegistered (IsMade : ℕ → ℕ → Type 0) (ps : Pools Payload) : Type 0 where
  pub once : (name p : ℕ) → IsMade name p → times_held ps name p ≡ 1
  pub only : (name p : ℕ) → 0 < times_held ps name p → IsMade name p

-- In a variable of one of these instances is one.
abbrev pub IsMadeInOne : (ℕ → Instance) → ℕ → ℕ → Type 0
IsMadeInOne instances name p = (k : ℕ) × IsMadeIn (instances k) name p

-- in this instance, or in one of the others
abbrev pub IsMadeWith : (ℕ → Instance) → Instance → ℕ → ℕ → Type 0
IsMadeWith others i name p = IsMadeIn i name p ⊎ IsMadeInOne others name p

-- A step without a fault keeps it, whatever other instances there are, whose brigades have names that were given out. It leaves them as it
-- touches them.
abbrev pub StepKeepsRegistered : Type 0
StepKeepsRegistered = (others : ℕ → Instance) (p : Program) (choice : Choice) (i : Instr) (r : Configuration) → MayExecute p r i → Sound r → AsDeclared p r
    → ((k b name : ℕ) → brigade_name ((others k).brigades b) ≡ Some name → name < r.shared.next) → AreRegistered (IsMadeWith others r.instance) r.shared.pools
    → (let s = (step p choice i r).state in AreRegistered (IsMadeWith (λ k. touched_instance (touched_var r i) (others k)) s.instance) s.shared.pools)
