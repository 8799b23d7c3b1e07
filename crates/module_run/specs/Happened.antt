-- What an event of a connection answers and leaves, over its pools, its store of brigades and a device of files.
use Rattle.std.specs.Prelude.{◌≡◌, Bool, true, false, List, Option, Some, None, Result, Ok, Err}
use Rattle.module_code.specs.Program.{Program}
use Rattle.bucket_ring.specs.declared.rings.Rings.{Ghosts}
use Rattle.run_model.specs.declared.event.Refusal.{Refusal}
use Rattle.run_model.specs.declared.event.Refusal.TheVariants as refusal
use Rattle.run_model.specs.declared.payload.Payload.{Payload}
use Rattle.run_model.specs.Chains.{Linked}
use Rattle.bucket_kinds.specs.Device.{Device}
use Rattle.pool_tree.specs.declared.tree.PoolTree.{PoolTree}
use Rattle.bucket_kinds.specs.declared.stored.Stored.{Stored}
use Rattle.brigade_ops.specs.declared.store.Brigades.{Brigades}
use Rattle.module_run.specs.declared.conn.Conn.{Conn}
use Rattle.module_run.specs.Proceeding.{LeftAs, StandsFor}

-- whether memory lasted, by what an event answers
abbrev pub has_lasted : Refusal → Bool
has_lasted refusal.NoMemory = false
has_lasted r = true

abbrev pub lasted : {X : Type 0} → Result X Refusal → Bool
lasted (Ok x) = true
lasted (Err r) = has_lasted r

-- why it was refused, if it was
abbrev pub refusal_of : {X : Type 0} → Result X Refusal → Option Refusal
refusal_of (Ok x) = None
refusal_of (Err r) = Some r

module _ {R : Type 0} {g : Ghosts R Stored} where
  -- It stands for some connection of the model.
  pub record Stands (chain : List Program) (tree : PoolTree Payload) (store : Brigades R g) (d : Device) (c : Conn) : Type 0 where
    pub linked : Linked
    pub so : StandsFor chain tree store d c linked

  -- It answers this, and stands for what the model's event leaves.
  pub record Happened {A : Type 0} (chain : List Program) (tree : PoolTree Payload) (store : Brigades R g) (d : Device) (c : Conn) (answer : A) (event : A × Linked) : Type 0 where
    pub answers : event.0 ≡ answer
    pub left : LeftAs chain tree store d c event.1
