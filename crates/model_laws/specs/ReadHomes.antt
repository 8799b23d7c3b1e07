-- What was read has as home no pool and no call that returned, in every run of a chain. So `get`, which looks at the bucket that was
-- read last, needs no test of its home.
use Rattle.std.specs.Prelude.{◌≡◌, ℕ, List, ◌∷◌, ◌++◌, Some, None}
use Rattle.module_code.specs.Program.{Program}
use Rattle.run_model.specs.declared.bucket.Home.{Home}
use Rattle.run_model.specs.declared.bucket.Home.TheVariants as home
use Rattle.run_model.specs.declared.bucket.NamedBucket.{NamedBucket}
use Rattle.run_model.specs.declared.event.Event.{Event}
use Rattle.run_model.specs.Chains.{Frame, Connection, Common, configuration, IsChain}
use Rattle.run_model.specs.Cursors.{at_cursor, bucket_at, read_cursor}
use Rattle.run_model.specs.Faults.{WHome, fault_want}
use Rattle.run_model.specs.Worlds.{World, Answer, IsWholeRun}
use Rattle.model_laws.specs.ChainHomes.{IsCalled}
use Rattle.model_laws.specs.KeptInRuns.{OfConnections, RunKeeps}

-- no pool, and no call that returned: none, or one of these calls
abbrev pub IsNoPool : (ℕ → Type 0) → Home → Type 0
IsNoPool calls home.Free = Unit {0}
IsNoPool calls (home.Call n) = calls n
IsNoPool calls (home.Pool n) = ⊥
IsNoPool calls home.Ended = ⊥

-- Of each call, whether it runs or waits: so is the home of the bucket at which its read cursor stands, by the call itself and those
-- that wait for it.
abbrev pub ReadsLast : Common → Connection → Type 0
ReadsLast g c = (above below : List Frame) (f : Frame) (x : NamedBucket) → c.stack ≡ above ++ f ∷ below → bucket_at (at_cursor (configuration g c f) read_cursor) ≡ Some x
    → IsNoPool (IsCalled (f ∷ below)) x.bucket.home

-- It is so in each world that a run reaches.
abbrev pub RunKeepsReads : Type 0
RunKeepsReads = RunKeeps (OfConnections ReadsLast)

-- There the test of the home of what was read (F5) would find nothing, in no call.
abbrev pub ReadsPassTheTest : Type 0
ReadsPassTheTest = (budget : ℕ) (chain : List Program) (es : List (ℕ × Event)) (answers : List Answer) (w : World) → IsChain chain → IsWholeRun budget chain es answers w
    → (k : ℕ) (c : Connection) → w.conns k ≡ Some c → (above below : List Frame) (f : Frame) → c.stack ≡ above ++ f ∷ below
    → fault_want (configuration w.common c f) (WHome read_cursor) ≡ None
