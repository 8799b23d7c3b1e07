-- The tree of a world that is reached: each connection lies over it, and what an event leaves of it is the tree of the world that the event
-- leaves.
use Rattle.std.specs.Prelude.{◌≡◌, ℕ, ◌+◌, Bool, List, Some, None}
use Rattle.module_code.specs.Program.{Program}
use Rattle.run_model.specs.declared.event.Piece.{Piece}
use Rattle.run_model.specs.Indexed.{upd}
use Rattle.run_model.specs.Pools.{created, destroyed}
use Rattle.run_model.specs.Chains.{Connection, Linked, pools_of, IsChain}
use Rattle.run_model.specs.Passing.{Reads}
use Rattle.run_model.specs.Turns.{Opening, begins, brings, ends, opened, opens_file, steps}
use Rattle.run_model.specs.Worlds.{World, put_conn, tree_of}
use Rattle.model_laws.specs.Reached.{IsReached}
use Rattle.model_laws.specs.SharedPools.{LiesOver, over}

abbrev pub ReachedLiesOver : Type 0
ReachedLiesOver = (budget : ℕ) (chain : List Program) (w : World) (k : ℕ) (c : Connection) → IsChain chain → IsReached budget chain w → w.conns k ≡ Some c → LiesOver (tree_of w) w.common c

-- The event leaves of the tree what is the tree of the world in which the connection k is what the event leaves.
abbrev pub LeavesTheTree : {A : Type 0} → ℕ → List Program → (Linked → A × Linked) → Type 0
LeavesTheTree budget chain event = (w : World) (k : ℕ) (c : Connection) → IsChain chain → IsReached budget chain w → w.conns k ≡ Some c
    → (let v = (event (w.common, over (tree_of w) c)).1 in tree_of (put_conn k (event (w.common, c)).1 w) ≡ pools_of v.0 v.1)

abbrev pub StepsLeaveTheTree : Type 0
StepsLeaveTheTree = (memory : Bool) (budget : ℕ) (chain : List Program) (reads : Reads) → LeavesTheTree budget chain (steps memory budget chain reads)

abbrev pub BeginsLeaveTheTree : Type 0
BeginsLeaveTheTree = (memory : Bool) (budget : ℕ) (chain : List Program) → LeavesTheTree budget chain (begins memory chain)

abbrev pub BringsLeaveTheTree : Type 0
BringsLeaveTheTree = (memory : Bool) (budget : ℕ) (chain : List Program) (pieces : List Piece) → LeavesTheTree budget chain (brings memory chain pieces)

abbrev pub OpenFilesLeaveTheTree : Type 0
OpenFilesLeaveTheTree = (memory : Bool) (budget : ℕ) (chain : List Program) (opening : Opening) → LeavesTheTree budget chain (opens_file memory opening)

abbrev pub EndsLeaveTheTree : Type 0
EndsLeaveTheTree = (memory : Bool) (budget : ℕ) (chain : List Program) → LeavesTheTree budget chain (ends memory)

-- A connection that is opened has a new pool right under the root.
abbrev pub OpeningPlantsAPool : Type 0
OpeningPlantsAPool = (budget : ℕ) (chain : List Program) (w : World) → IsChain chain → IsReached budget chain w
    → tree_of (put_conn (w.last + 1) (opened chain w.common) (record w { last = w.last + 1 })) ≡ created w.common.root (tree_of w)

-- With one that is closed its pool goes, and all under it.
abbrev pub ClosingTakesItsPool : Type 0
ClosingTakesItsPool = (budget : ℕ) (chain : List Program) (w : World) (k : ℕ) (c : Connection) → IsChain chain → IsReached budget chain w → w.conns k ≡ Some c
    → tree_of (record w { conns = upd w.conns k None }) ≡ destroyed c.conn (tree_of w)
