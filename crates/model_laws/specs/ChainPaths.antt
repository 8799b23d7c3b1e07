-- The pools of each connection with a chain lie under its own pool, in every run.
use Rattle.std.specs.Prelude.{◌≡◌, ◌⊎◌, ℕ, ◌<◌, true}
use Rattle.run_model.specs.declared.bucket.PoolVar.TheVariants as poolvar
use Rattle.run_model.specs.declared.payload.Payload.{Payload}
use Rattle.run_model.specs.Pools.{Pools, is_live, is_under}
use Rattle.run_model.specs.Chains.{Connection, Common, pools_of}
use Rattle.run_model.specs.Worlds.{World}
use Rattle.model_laws.specs.KeptInRuns.{OfConnections}

-- Each live pool is the root, or it is the pool conn or lies under it.
abbrev pub LieUnder : ℕ → ℕ → Pools Payload → Type 0
LieUnder root conn ps = (n : ℕ) → is_live ps n ≡ true → (n ≡ root) ⊎ (is_under ps conn n ≡ true)

-- newer: the connection's pool is not the root. pools: each live pool of the connection's part lies under it, but for the root.
-- named: so does each live one that a variable of an instance names.
pub record ChainPaths (g : Common) (c : Connection) : Type 0 where
  pub newer : g.root < c.conn
  pub pools : LieUnder g.root c.conn (pools_of g c)
  pub named : (k q n : ℕ) → (c.instances k).pools q ≡ poolvar.Made n → is_live (pools_of g c) n ≡ true → is_under (pools_of g c) c.conn n ≡ true

abbrev pub WorldPaths : World → Type 0
WorldPaths = OfConnections ChainPaths
