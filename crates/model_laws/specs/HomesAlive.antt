-- Homes that have not ended are alive.
use Rattle.std.specs.Prelude.{◌≡◌, ℕ, ◌<◌, true, All}
use Rattle.module_code.specs.declared.instr.Instr.{Instr}
use Rattle.module_code.specs.Program.{Program}
use Rattle.run_model.specs.declared.bucket.Home.{Home}
use Rattle.run_model.specs.Pools.{is_live}
use Rattle.run_model.specs.State.{Configuration, items_of}
use Rattle.run_model.specs.Steps.{Choice, step}
use Rattle.run_model.specs.Sound.{Sound}
use Rattle.model_laws.specs.Laws.{MayExecute, MatchHome}

-- A home that is a call is the call that runs (0 names none), one that is a pool is a live one.
abbrev pub IsHomeAlive : Configuration → Home → Type 0
IsHomeAlive r h = MatchHome h (λ call. (call ≡ r.call.name) × (0 < call)) (λ n. is_live r.shared.pools n ≡ true)

-- brigades, loose: so is each home that has not ended. names: the name 0 is not given out.
pub record HomesAlive (r : Configuration) : Type 0 where
  pub brigades : (b : ℕ) → All (λ x. IsHomeAlive r x.bucket.home) (items_of (r.instance.brigades b))
  pub loose : All (λ x. IsHomeAlive r x.bucket.home) r.call.loose
  pub names : 0 < r.shared.next

-- A step of a call keeps it where it has no fault. (A call has a name, which is not 0.)
abbrev pub StepKeepsHomes : Type 0
StepKeepsHomes = (p : Program) (choice : Choice) (i : Instr) (r : Configuration) → MayExecute p r i → Sound r → 0 < r.call.name → HomesAlive r → HomesAlive (step p choice i r).state
