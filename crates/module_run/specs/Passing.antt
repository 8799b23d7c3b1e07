-- A connection whose call on top is at a pass.
use Rattle.std.specs.Prelude.{ℕ, List}
use Rattle.module_code.specs.Program.{Program}
use Rattle.module_code.specs.declared.instr.Instr.TheVariants as instr
use Rattle.bucket_ring.specs.declared.rings.Rings.{Ghosts}
use Rattle.bucket_kinds.specs.Device.{Device}
use Rattle.run_model.specs.declared.payload.Payload.{Payload}
use Rattle.run_model.specs.Chains.{Frame, Linked}
use Rattle.pool_tree.specs.declared.tree.PoolTree.{PoolTree}
use Rattle.bucket_kinds.specs.declared.stored.Stored.{Stored}
use Rattle.brigade_ops.specs.declared.store.Brigades.{Brigades}
use Rattle.module_run.specs.declared.conn.Conn.{Conn}
use Rattle.module_run.specs.Proceeding.{IsReady}

module _ {R : Type 0} {g : Ghosts R Stored} where
  -- The call on top may pass the brigade of the variable b.
  pub record CanPass (chain : List Program) (b : ℕ) (store : Brigades R g) (d : Device) (c : Conn) : Type 0 where
    pub tree : PoolTree Payload
    pub label : ℕ
    pub v : Linked
    pub f : Frame
    pub rest : List Frame
    pub ready : IsReady chain (instr.Pass b label) tree store d c v f rest
