-- A pool that a module made, and so what it clears, is its own: nothing that others of its connection stand on lies under it.
use Rattle.std.specs.Prelude.{◌≡◌, ◌≢◌, ℕ, false, List, [], ◌∷◌, map, Some}
use Rattle.module_code.specs.Program.{Program}
use Rattle.module_code.specs.declared.instr.Instr.{Instr}
use Rattle.run_model.specs.declared.bucket.Brigade.{Brigade}
use Rattle.run_model.specs.declared.bucket.BrigadeVar.TheVariants as var
use Rattle.run_model.specs.declared.bucket.PoolVar.TheVariants as poolvar
use Rattle.run_model.specs.Pools.{is_under}
use Rattle.run_model.specs.Chains.{Frame, Connection, Common, configuration, pools_of, touched_var, touched_bucket, IsChain}
use Rattle.model_laws.specs.ChainSound.{ChainSound}

-- p is a pool of the module j. conn, req: the connection's pool does not lie under it, nor does that of the request. brigades: nor do
-- brigades of other modules. pools: nor pools that these made. root: it is not the root.
pub record IsItsOwn (g : Common) (c : Connection) (j p : ℕ) : Type 0 where
  pub conn : is_under (pools_of g c) p c.conn ≡ false
  pub req : (m : ℕ) → c.req ≡ Some m → is_under (pools_of g c) p m ≡ false
  pub brigades : (i b m : ℕ) (v : Brigade) → i ≢ j → (c.instances i).brigades b ≡ var.Live v → v.on ≡ Some m → is_under (pools_of g c) p m ≡ false
  pub pools : (i q m : ℕ) → i ≢ j → (c.instances i).pools q ≡ poolvar.Made m → is_under (pools_of g c) p m ≡ false
  pub root : c.path p ≢ p ∷ []

abbrev pub MadePoolsAreOwn : Type 0
MadePoolsAreOwn = (chain : List Program) (g : Common) (c : Connection) (j q p : ℕ) → IsChain chain → ChainSound chain g c → (c.instances j).pools q ≡ poolvar.Made p → IsItsOwn g c j p

-- So no brigade of another module goes with an instruction. It keeps its name, pool and mark.
abbrev pub OthersKeepBrigades : Type 0
OthersKeepBrigades = (chain : List Program) (g : Common) (c : Connection) (f : Frame) (i : Instr) (k b : ℕ) (v : Brigade) → IsChain chain
    → ChainSound chain g c → k ≢ f.of → (c.instances k).brigades b ≡ var.Live v
    → touched_var (configuration g c f) i (var.Live v) ≡ var.Live (record v { items = map (touched_bucket (configuration g c f) i) v.items })
