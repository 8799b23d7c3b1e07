-- What a connection is opened over, and its filters before their `open`.
use Rattle.std.specs.Prelude.{◌≡◌, ℕ, ◌<◌, ◌-◌, false, [], length, Option, None, slice_index_or}
use Rattle.std.specs.Global.{Vec}
use Rattle.bucket_ring.specs.Kept.{NoneRevived}
use Rattle.bucket_ring.specs.declared.names.BucketId.{BucketId}
use Rattle.bucket_ring.specs.declared.rings.Rings.{Ghosts}
use Rattle.run_model.specs.declared.bucket.PoolVar.TheVariants as poolvar
use Rattle.run_model.specs.declared.payload.Payload.{Payload}
use Rattle.run_model.specs.Chains.{Linked}
use Rattle.run_model.specs.Pools.{Pools}
use Rattle.pool_tree.specs.declared.tree.PoolTree.{PoolTree}
use Rattle.pool_tree.specs.Tree.{map_of}
use Rattle.bucket_kinds.specs.declared.stored.Stored.{Stored}
use Rattle.brigade_ops.specs.declared.store.Brigades.{Brigades}
use Rattle.brigade_ops.specs.House.{IsHouse}
use Rattle.bucket_store.specs.Items.{Items}
use Rattle.brigade_ops.specs.Store.{lists, brigade_of, pool_of, next_name, references}
use Rattle.module_run.specs.declared.conn.Conn.{Conn}
use Rattle.module_run.specs.declared.conn.Filter.{Filter}
use Rattle.interp_state.specs.declared.machine.Slot.TheVariants as slot
use Rattle.interp_state.specs.Held.{HeldOver}
use Rattle.interp_state.specs.Slots.{slot_at}

-- Nothing is in its variables, it has no call, and lends nothing.
pub record IsNewFilter (f : Filter) : Type 0 where
  pub slots : (b : ℕ) → slot_at f.instance b ≡ slot.Null
  pub pools : (p : ℕ) → slice_index_or f.instance.pools p poolvar.Null ≡ poolvar.Null
  pub numbers : (n : ℕ) → slice_index_or f.instance.numbers n 0 ≡ 0
  pub sent : f.instance.sent ≡ false
  pub left : f.instance.left ≡ false
  pub idle : f.call.name ≡ 0
  pub lent : f.lent ≡ None
  pub held : (at : BucketId → Option ℕ) (rings : ℕ → Option Items) (pools : ℕ → Option ℕ) (next : ℕ) → 0 < next → pools 0 ≡ None → HeldOver at rings pools next f.instance f.call

-- It has these filters and this pool, and no call; nothing happened on it.
pub record IsNewConn (filters : Vec Filter) (pool : ℕ) (c : Conn) : Type 0 where
  pub filters_are : c.filters ≡ filters
  pub first : c.first ≡ 0
  pub top : c.top ≡ 0
  pub callers : c.callers.items ≡ []
  pub waits : c.waits.items ≡ []
  pub busy : c.busy ≡ false
  pub queue : c.queue ≡ length filters.items - 1
  pub conn : c.conn ≡ pool
  pub req : c.req ≡ None
  pub labels : c.labels.items ≡ []
  pub files : c.files.items ≡ []
  pub out : c.out ≡ []
  pub ended : c.ended ≡ false
  pub count : c.count ≡ 0
  pub broken : c.broken ≡ None

module _ {R : Type 0} {g : Ghosts R Stored} where
  -- A tree of pools and a store of brigades, in which others may stand. house: brigades stand on their pools. none, named: 0 is no brigade's name.
  pub record CanOpen (tree : PoolTree Payload) (store : Brigades R g) : Type 0 where
    pub house : IsHouse store (map_of tree)
    pub none : lists store 0 ≡ None
    pub named : 0 < next_name store

  -- Of tree and store nothing changed but names of buckets that nobody saw.
  pub record IsUnchanged (tree newer : PoolTree Payload) (old new : Brigades R g) : Type 0 where
    pub pools : map_of newer ≡ map_of tree
    pub lists_are : (n : ℕ) → lists new n ≡ lists old n
    pub on : pool_of new ≡ pool_of old
    pub referred : references new ≡ references old
    pub next : next_name new ≡ next_name old
    pub names : NoneRevived (brigade_of old) (brigade_of new) (next_name old)

-- with these pools in the place of its part
abbrev pub over : Pools Payload → Linked → Linked
over ps (g, c) = (g, record c { path = ps.path; payloads = ps.payloads })
