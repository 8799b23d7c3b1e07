-- The parts of all connections, with the root, are the whole pool map.
use Rattle.std.specs.Prelude.{◌≡◌, ◌≢◌, ℕ, suc, ◌<◌, true, [], ◌∷◌, Some}
use Rattle.run_model.specs.declared.payload.Payload.{Payload}
use Rattle.run_model.specs.Pools.{Pools, is_live, is_under, no_cleanups}
use Rattle.run_model.specs.RunOrder.{IsPoolMap}
use Rattle.run_model.specs.Chains.{Connection}
use Rattle.run_model.specs.Worlds.{World, tree_of, with_part}
use Rattle.model_laws.specs.Parts.{part}

-- A connection has its part of these pools.
pub record HasItsPart (ps : Pools Payload) (c : Connection) : Type 0 where
  pub path : c.path ≡ (part c.conn ps).path
  pub payloads : c.payloads ≡ (part c.conn ps).payloads

-- the connection of this number, and that the pool n stands under its own
pub record StandsWith (w : World) (ps : Pools Payload) (n : ℕ) : Type 0 where
  pub number : ℕ
  pub conn : Connection
  pub given : number < w.last
  pub there : w.conns (suc number) ≡ Some conn
  pub under : is_under ps conn.conn n ≡ true

-- The pools of a world: each connection has its part of them, each pool but the root stands under a connection's, and nothing is
-- registered on the root.
pub record ArePoolsOf (w : World) (ps : Pools Payload) : Type 0 where
  pub formed : IsPoolMap ps
  pub root : ps.path w.common.root ≡ w.common.root ∷ []
  pub bare : ps.payloads w.common.root ≡ no_cleanups
  pub next : ps.next ≡ w.common.pools
  pub parts : (k : ℕ) (c : Connection) → w.conns k ≡ Some c → HasItsPart ps c
  pub covered : (n : ℕ) → is_live ps n ≡ true → n ≢ w.common.root → StandsWith w ps n

-- A part that is joined to the whole changes nothing.
abbrev pub JoinedPartStays : Type 0
JoinedPartStays = (c : Connection) (ps : Pools Payload) → HasItsPart ps c → with_part (Some c) ps ≡ ps

-- All parts joined are the whole.
abbrev pub PartsAreTheWhole : Type 0
PartsAreTheWhole = (w : World) (ps : Pools Payload) → ArePoolsOf w ps → tree_of w ≡ ps
