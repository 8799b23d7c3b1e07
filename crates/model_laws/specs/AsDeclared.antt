-- Pools and brigades of an instance stand as its module declares them.
use Rattle.std.specs.Prelude.{◌≡◌, ◌≢◌, ◌∷◌, ℕ, ◌≤◌, true, Some, None}
use Rattle.module_code.specs.declared.instr.Instr.{Instr}
use Rattle.module_code.specs.Program.{Program, pool_of_brigade, pool_of_pool}
use Rattle.run_model.specs.declared.bucket.Brigade.{Brigade}
use Rattle.run_model.specs.declared.bucket.BrigadeVar.TheVariants as var
use Rattle.run_model.specs.declared.bucket.PoolVar.TheVariants as poolvar
use Rattle.run_model.specs.Pools.{is_live}
use Rattle.run_model.specs.State.{Configuration, pool_named}
use Rattle.run_model.specs.Faults.{is_live_named}
use Rattle.run_model.specs.Steps.{Choice, step}
use Rattle.run_model.specs.Sound.{Sound}
use Rattle.model_laws.specs.Laws.{MayExecute}

-- pools: a live pool that a variable names lies right under the live pool that is its declared parent. apart: no two
-- variables name one pool. slots: there are eight pool variables. brigades: a live brigade lies on the live pool of its
-- declaration. incoming: a brought brigade lies on none.
pub record AsDeclared (p : Program) (r : Configuration) : Type 0 where
  pub pools : (q n : ℕ) → r.instance.pools q ≡ poolvar.Made n → is_live r.shared.pools n ≡ true
      → (m : ℕ) × (pool_named r (pool_of_pool p q) ≡ Some m) × (is_live r.shared.pools m ≡ true) × (r.shared.pools.path n ≡ n ∷ r.shared.pools.path m)
  pub apart : (q k n : ℕ) → r.instance.pools q ≡ poolvar.Made n → r.instance.pools k ≡ poolvar.Made n → q ≡ k
  pub slots : (q : ℕ) → 8 ≤ q → r.instance.pools q ≡ poolvar.Null
  pub brigades : (b : ℕ) (v : Brigade) → b ≢ 8 → r.instance.brigades b ≡ var.Live v → (v.on ≡ pool_named r (pool_of_brigade p b)) × (is_live_named r.shared.pools v.on ≡ true)
  pub incoming : (v : Brigade) → r.instance.brigades 8 ≡ var.Live v → v.on ≡ None

-- A step without a fault keeps it.
abbrev pub StepKeepsDeclared : Type 0
StepKeepsDeclared = (p : Program) (choice : Choice) (i : Instr) (r : Configuration) → MayExecute p r i → Sound r → AsDeclared p r → AsDeclared p (step p choice i r).state
