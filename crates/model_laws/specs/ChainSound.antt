-- What is true of each connection with a chain, in every run: names, buckets, pools and calls.
use Rattle.std.specs.Prelude.{◌≡◌, ◌≢◌, ℕ, ◌+◌, ◌^◌, ◌<◌, ◌≤◌, true, List, [], ◌∷◌, length, Option, Some, None, is_some, All}
use Rattle.module_code.specs.declared.instr.Instr.TheVariants as instr
use Rattle.module_code.specs.Program.{Program}
use Rattle.run_model.specs.declared.bucket.BrigadeVar.TheVariants as var
use Rattle.run_model.specs.declared.bucket.PoolVar.TheVariants as poolvar
use Rattle.run_model.specs.Cutting.{FitsKind}
use Rattle.run_model.specs.State.{Instance, items_of}
use Rattle.run_model.specs.Sound.{sum_below, count_named, brigade_name, SoundPools}
use Rattle.model_laws.specs.AsDeclared.{AsDeclared}
use Rattle.run_model.specs.Steps.{current}
use Rattle.run_model.specs.Chains.{Frame, Connection, Common, module_at, places, configuration}
use Rattle.run_model.specs.Worlds.{World}

-- How many buckets have this name: in the brigades of an instance, loose in calls, and in a connection.

abbrev pub count_at : Instance → ℕ → ℕ
count_at i n = sum_below 9 (λ b. count_named n (items_of (i.brigades b)))

unfoldable pub count_loose : List Frame → ℕ → ℕ
count_loose [] n = 0
count_loose (f ∷ fs) n = count_named n f.call.loose + count_loose fs n

unfoldable pub count_in : List Program → Connection → ℕ → ℕ
count_in chain c n = sum_below (places chain) (λ k. count_at (c.instances k) n) + count_loose c.stack n

-- Names. once: a name is one bucket's at most. fresh: a name that was not given out is no bucket's. own: no two own brigades of all
-- instances have one name. incoming: a brigade that came in is an own one of a filter before, or of none. given: a brigade's name was
-- given out. limit: names stay below 2^64. slots: there are nine brigade variables.
pub record ChainNames (chain : List Program) (g : Common) (c : Connection) : Type 0 where
  pub once : (n : ℕ) → count_in chain c n ≤ 1
  pub fresh : (n : ℕ) → g.next ≤ n → count_in chain c n ≡ 0
  pub own : (j k b d n : ℕ) → b < 8 → d < 8 → brigade_name ((c.instances j).brigades b) ≡ Some n → brigade_name ((c.instances k).brigades d) ≡ Some n → (j ≡ k) × (b ≡ d)
  pub incoming : (j k d n : ℕ) → d < 8 → brigade_name ((c.instances k).brigades 8) ≡ Some n → brigade_name ((c.instances j).brigades d) ≡ Some n → j < k
  pub given : (k b n : ℕ) → brigade_name ((c.instances k).brigades b) ≡ Some n → n < g.next
  pub limit : g.next < 2 ^ 64
  pub slots : (k b : ℕ) → 9 ≤ b → (c.instances k).brigades b ≡ var.Null

-- content and home of each bucket fit its kind
pub record ChainBuckets (c : Connection) : Type 0 where
  pub brigades : (k b : ℕ) → All (λ x. FitsKind x.bucket) (items_of ((c.instances k).brigades b))
  pub loose : All (λ f. All (λ x. FitsKind x.bucket) f.call.loose) c.stack

-- Pools. sound, declared: they are as they are to be for each instance. apart: no two instances name one pool.
pub record ChainPools (chain : List Program) (g : Common) (c : Connection) : Type 0 where
  pub sound : (f : Frame) → SoundPools (configuration g c f)
  pub declared : (f : Frame) → AsDeclared (module_at chain f.of) (configuration g c f)
  pub apart : (j k q s n : ℕ) → (c.instances j).pools q ≡ poolvar.Made n → (c.instances k).pools s ≡ poolvar.Made n → j ≡ k

-- Each call waits for that of a later module.
unfoldable pub IsNested : Frame → List Frame → Type 0
IsNested f [] = Unit {0}
IsNested f (w ∷ rest) = (w.of < f.of) × IsNested w rest

unfoldable pub IsNestedStack : List Frame → Type 0
IsNestedStack [] = Unit {0}
IsNestedStack (f ∷ rest) = IsNested f rest

-- calls have names that were given out, each its own
unfoldable pub AreNamed : ℕ → List Frame → Type 0
AreNamed next [] = Unit {0}
AreNamed next (f ∷ fs) = (0 < f.call.name) × (f.call.name < next) × All (λ w. w.call.name ≢ f.call.name) fs × AreNamed next fs

-- A call is of a module of the chain or of the output filter, at one of its instructions; no request is open in `open`, and one is in `init` and `main`.
pub record IsFramePlaced (chain : List Program) (req : Option ℕ) (f : Frame) : Type 0 where
  pub of : f.of < places chain
  pub at : f.pc < length (module_at chain f.of).code
  pub opening : f.pc < (module_at chain f.of).init → req ≡ None
  pub serving : (module_at chain f.of).init ≤ f.pc → is_some req ≡ true

-- these modules come later, in their order
unfoldable pub IsRising : ℕ → List ℕ → Type 0
IsRising k [] = Unit {0}
IsRising k (j ∷ js) = (k < j) × IsRising j js

-- a call that waits stands at its pass
abbrev pub WaitsAtPass : List Program → Frame → Type 0
WaitsAtPass chain w = (b : ℕ) × (l : ℕ) × (current (module_at chain w.of) w.pc ≡ instr.Pass b l)

-- Calls. waiting: those below the top one wait at a pass. queue, later: what is still to run are modules of the chain, after the one
-- that runs, in their order. serving: none is while a `main` runs. alone: while one is still to run no call waits. idle: between calls
-- nothing is still to run.
pub record ChainCalls (chain : List Program) (g : Common) (c : Connection) : Type 0 where
  pub placed : All (IsFramePlaced chain c.req) c.stack
  pub nested : IsNestedStack c.stack
  pub named : AreNamed g.next c.stack
  pub waiting : (f : Frame) (rest : List Frame) → c.stack ≡ f ∷ rest → All (WaitsAtPass chain) rest
  pub queue : All (λ k. k < length chain) c.queue
  pub later : (f : Frame) (rest : List Frame) → c.stack ≡ f ∷ rest → IsRising f.of c.queue
  pub serving : (f : Frame) (rest : List Frame) → c.stack ≡ f ∷ rest → (module_at chain f.of).main ≤ f.pc → c.queue ≡ []
  pub alone : (f w : Frame) (rest : List Frame) → c.stack ≡ f ∷ (w ∷ rest) → c.queue ≡ []
  pub idle : c.stack ≡ [] → c.queue ≡ []

pub record ChainSound (chain : List Program) (g : Common) (c : Connection) : Type 0 where
  pub names : ChainNames chain g c
  pub buckets : ChainBuckets c
  pub pools : ChainPools chain g c
  pub calls : ChainCalls chain g c

-- what is shared, where names are not spent; 0 is no call's name, and the root was given out
pub record HasNames (g : Common) : Type 0 where
  pub first : 0 < g.next
  pub next : g.next < 2 ^ 64
  pub pools : (g.root < g.pools) × (g.pools < 2 ^ 64)

-- each connection of a world is sound
pub record WorldSound (chain : List Program) (w : World) : Type 0 where
  pub names : HasNames w.common
  pub conns : (k : ℕ) (c : Connection) → w.conns k ≡ Some c → ChainSound chain w.common c
