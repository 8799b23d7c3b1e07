-- The pools of each connection are its own, in every run, and so the pools of all connections are put together one connection after
-- another.
use Rattle.std.specs.Prelude.{◌≡◌, ℕ, suc, ◌<◌, Bool, true, List, [], ◌∷◌, Some}
use Rattle.module_code.specs.Program.{Program}
use Rattle.run_model.specs.declared.bucket.PoolVar.TheVariants as poolvar
use Rattle.run_model.specs.declared.event.Event.{Event}
use Rattle.run_model.specs.declared.payload.Payload.{Payload}
use Rattle.run_model.specs.Pools.{Pools, is_in, planted, no_cleanups}
use Rattle.run_model.specs.RunOrder.{is_child, IsPoolMap}
use Rattle.run_model.specs.Chains.{Connection, IsChain}
use Rattle.run_model.specs.Worlds.{World, Told, happens, tree_below, tree_of, with_part}
use Rattle.model_laws.specs.ChainSound.{WorldSound}
use Rattle.model_laws.specs.ChainNumbers.{WorldNumbers}
use Rattle.model_laws.specs.JoinedParts.{ArePoolsOf}
use Rattle.model_laws.specs.Reached.{IsReached}

-- whether a pool is the connection's, or lies under that
abbrev pub is_own : Connection → ℕ → Bool
is_own c n = is_in c.conn (c.path n)

-- top: a connection's pool stands right under the root. own: no pool is two connections'. named: nor does a variable name a pool of another
-- connection. bare: nothing is registered on the root. rising: the pool of a later connection is newer.
pub record WorldPoolsApart (w : World) : Type 0 where
  pub top : (k : ℕ) (c : Connection) → w.conns k ≡ Some c → c.path c.conn ≡ c.conn ∷ w.common.root ∷ []
  pub own : (j k n : ℕ) (c d : Connection) → w.conns j ≡ Some c → w.conns k ≡ Some d → is_own c n ≡ true → is_own d n ≡ true → j ≡ k
  pub named : (j k i q n : ℕ) (c d : Connection) → w.conns j ≡ Some c → w.conns k ≡ Some d → (c.instances i).pools q ≡ poolvar.Made n → is_own d n ≡ true → j ≡ k
  pub bare : (k : ℕ) (c : Connection) → w.conns k ≡ Some c → c.payloads w.common.root ≡ no_cleanups
  pub rising : (j k : ℕ) (c d : Connection) → w.conns j ≡ Some c → w.conns k ≡ Some d → j < k → c.conn < d.conn

-- Each event keeps it, and so it is true of each world that a run reaches.
abbrev pub EventKeepsPoolsApart : Type 0
EventKeepsPoolsApart = (memory : Bool) (budget : ℕ) (chain : List Program) (told : Told) (k : ℕ) (e : Event) (w : World)
    → IsChain chain → WorldSound chain w → WorldNumbers w → WorldPoolsApart w → WorldPoolsApart (happens memory budget chain told k e w).1

-- A connection's part, with the next name of these pools.
abbrev pub joining : Connection → Pools Payload → Pools Payload
joining c ps = record ps { path = c.path; payloads = c.payloads }

-- A connection's part is joined to pools under the root. formed, own: both are trees. first, top: the connection's pool stands right under
-- the root of both. newer: it is not the root. apart: none of its pools is there. later: it is newer than all that stand right under
-- the root.
pub record MayJoin (root : ℕ) (c : Connection) (ps : Pools Payload) : Type 0 where
  pub formed : IsPoolMap ps
  pub own : IsPoolMap (joining c ps)
  pub first : ps.path root ≡ root ∷ []
  pub top : c.path c.conn ≡ c.conn ∷ root ∷ []
  pub newer : root < c.conn
  pub apart : (n : ℕ) → is_own c n ≡ true → ps.path n ≡ []
  pub later : (n : ℕ) → is_child ps root n ≡ true → n < c.conn

-- the pools of all connections up to this number, under the root
abbrev pub tree_up_to : ℕ → World → Pools Payload
tree_up_to k w = tree_below k w.conns (record (planted w.common.root) { next = w.common.pools })

-- What is joined so is a tree.
abbrev pub JoinedIsPoolMap : Type 0
JoinedIsPoolMap = (root : ℕ) (c : Connection) (ps : Pools Payload) → MayJoin root c ps → IsPoolMap (with_part (Some c) ps)

-- In a world that is reached each connection's part is joined to those before it.
abbrev pub ReachedPartsJoin : Type 0
ReachedPartsJoin = (budget : ℕ) (chain : List Program) (w : World) (k : ℕ) (c : Connection) → IsChain chain → IsReached budget chain w
    → w.conns (suc k) ≡ Some c → MayJoin w.common.root c (tree_up_to k w)

-- So in a world that is reached each connection has its part of the tree, and each pool but the root is one of a connection's.
abbrev pub ReachedTreeIsOfAll : Type 0
ReachedTreeIsOfAll = (budget : ℕ) (chain : List Program) (w : World) → IsChain chain → IsReached budget chain w → ArePoolsOf w (tree_of w)
