-- A connection of the host over the tree of pools and the store of brigades that all connections share, and the device of files.
use Rattle.std.specs.Prelude.{◌≡◌, ◌<◌, ℕ, nat_eq, List, [], Option}
use Rattle.std.specs.HashMap.{get, spare}
use Rattle.bucket_kinds.specs.Device.{Device}
use Rattle.bucket_ring.specs.declared.rings.Rings.{Ghosts}
use Rattle.module_code.specs.Program.{Program}
use Rattle.run_model.specs.declared.payload.Payload.{Payload}
use Rattle.run_model.specs.Chains.{Connection}
use Rattle.model_laws.specs.SharedPools.{over}
use Rattle.pool_tree.specs.declared.tree.PoolTree.{PoolTree}
use Rattle.pool_tree.specs.Tree.{map_of}
use Rattle.bucket_kinds.specs.declared.stored.Stored.{Stored}
use Rattle.brigade_ops.specs.declared.store.Brigades.{Brigades}
use Rattle.brigade_ops.specs.Store.{lists}
use Rattle.module_run.specs.declared.conn.Conn.{Conn}
use Rattle.module_run.specs.Conns.{conn_of}
use Rattle.module_run.specs.Proceeding.{HasOpen}
use Rattle.module_run.specs.Stacked.{IsStacked}
use Rattle.filter_chain.specs.declared.conns.Conns.{Conns}

-- the connection of each number
unfoldable pub conn_at : Conns → ℕ → Option Conn
conn_at conns n = get nat_eq conns.by_number n

-- There is room for one more.
abbrev pub HasRoom : Conns → Type 0
HasRoom conns = 0 < spare conns.by_number

-- its output was taken
abbrev pub drained : Connection → Connection
drained c = record c { out = record c.out { bytes = [] } }

module _ {R : Type 0} {g : Ghosts R Stored} where
  -- It shows this connection of the model, over the tree of all. opens: its files are open on the device. stacked: its filters and calls.
  pub record IsHosted (chain : List Program) (tree : PoolTree Payload) (store : Brigades R g) (d : Device) (conn : Conn) (c : Connection) : Type 0 where
    pub seen : over (map_of tree) c ≡ conn_of (map_of tree) (lists store) c.opened conn
    pub opens : HasOpen d c
    pub stacked : IsStacked chain store conn
