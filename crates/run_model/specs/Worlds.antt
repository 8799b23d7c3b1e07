-- The world: connections by number, each with the same chain of modules, and what they share. What each event answers and leaves,
-- and runs of events from a new world.
use Rattle.std.specs.Prelude.{◌≡◌, ℕ, zero, suc, ◌+◌, ◌^◌, ◌<◌, Bool, ◌||◌, not, if◌then◌else◌, List, [], ◌∷◌, Option, Some, None, Result, Ok, Err}
use Rattle.module_code.specs.Program.{Program}
use Rattle.run_model.specs.declared.event.Event.{Event}
use Rattle.run_model.specs.declared.event.Event.TheVariants as event
use Rattle.run_model.specs.declared.event.Refusal.{Refusal}
use Rattle.run_model.specs.declared.event.Refusal.TheVariants as refusal
use Rattle.run_model.specs.declared.event.Stepped.{Stepped}
use Rattle.run_model.specs.declared.payload.Payload.{Payload}
use Rattle.run_model.specs.Indexed.{upd}
use Rattle.run_model.specs.Pools.{Pools, is_in, planted}
use Rattle.run_model.specs.Steps.{is_spent}
use Rattle.run_model.specs.Refusals.{first_refusal, refused_if}
use Rattle.run_model.specs.Chains.{Connection, Common, Linked}
use Rattle.run_model.specs.Passing.{Reads}
use Rattle.run_model.specs.Turns.{Opening, steps, opened, begins, opens_file, brings, ends, closing_labels}

-- What the files tell in an event: what each read gives, and what its opening finds.
pub record Told : Type 0 where
  pub reads : Reads
  pub opening : Opening

-- conns: the connections that are there, by their numbers. last: the number that was given last; the first is 1.
pub record World : Type 0 where
  pub conns : ℕ → Option Connection
  pub last : ℕ
  pub common : Common

-- A world without connections. Its names begin with this one: it is the root's, and that of what a call makes first.
abbrev pub new_world : ℕ → World
new_world first = record { conns = λ k. None; last = 0; common = record { root = first; pools = first + 1; next = first; file = 1 } }

-- what an event answers
pub data Answer : Type 0 where
  -- it happened
  Done : Answer
  -- it was refused
  Refused : Refusal → Answer
  -- a connection was opened: its number
  Connected : ℕ → Answer
  -- what the step answers
  Step : Stepped → Answer
  -- the output
  Output : List ℕ → Answer
  -- a file was opened: its number and length
  Opened : ℕ → ℕ → Answer
  -- the labels run
  Labels : List (List ℕ) → Answer
  -- the pools, under this root
  Tree : ℕ → Pools Payload → Answer

-- The connection k changes, and what is shared. Every other connection stays.
abbrev pub put_conn : ℕ → Linked → World → World
put_conn k v w = record w { conns = upd w.conns k (Some v.1); common = v.0 }

abbrev pub answered : ℕ → World → Option Refusal × Linked → Answer × World
answered k w (None, v) = (Done, put_conn k v w)
answered k w (Some r, v) = (Refused r, w)

abbrev pub file_answered : ℕ → World → Result (ℕ × ℕ) Refusal × Linked → Answer × World
file_answered k w (Ok f, v) = (Opened f.0 f.1, put_conn k v w)
file_answered k w (Err r, v) = (Refused r, w)

-- a refused step may break its connection
abbrev pub step_answered : ℕ → World → Result Stepped Refusal × Linked → Answer × World
step_answered k w (Ok s, v) = (Step s, put_conn k v w)
step_answered k w (Err r, v) = (Refused r, put_conn k v w)

abbrev pub takes : ℕ → Connection → World → Answer × World
takes k c w = (Output c.out.bytes, put_conn k (w.common, record c { out = record c.out { bytes = [] } }) w)

-- Its calls are destroyed, then its pool with all under it. It is there no more.
abbrev pub closes : Bool → ℕ → Connection → World → Answer × World
closes memory k c w = if memory then (Labels (closing_labels (w.common, c)), record w { conns = upd w.conns k None }) else (Refused refusal.NoMemory, w)

abbrev pub opens_if : Option Refusal → List Program → World → Answer × World
opens_if (Some r) chain w = (Refused r, w)
opens_if None chain w = (Connected (w.last + 1), put_conn (w.last + 1) (opened chain w.common) (record w { last = w.last + 1 }))

unfoldable pub opens : Bool → List Program → World → Answer × World
opens memory chain w =
    opens_if (first_refusal (refused_if (is_spent (w.last + 1) 1 || (is_spent w.common.pools 1 || is_spent w.common.next 1)) refusal.NamesSpent
    ∷ (refused_if (not memory) refusal.NoMemory ∷ []))) chain w

-- A file is added. Files lie outside, and what is found of them is told at each opening.
abbrev pub adds_file : Bool → World → Answer × World
adds_file memory w = if memory then (Done, w) else (Refused refusal.NoMemory, w)

-- The pools of all connections, under the root.

abbrev pub with_part : Option Connection → Pools Payload → Pools Payload
with_part None ps = ps
with_part (Some c) ps = record ps {
  path = λ n. if is_in c.conn (c.path n) then c.path n else ps.path n;
  payloads = λ n. if is_in c.conn (c.path n) then c.payloads n else ps.payloads n;
}

unfoldable pub tree_below : ℕ → (ℕ → Option Connection) → Pools Payload → Pools Payload
tree_below zero conns root = root
tree_below (suc k) conns root = with_part (conns (suc k)) (tree_below k conns root)

abbrev pub tree_of : World → Pools Payload
tree_of w = tree_below w.last w.conns (record (planted w.common.root) { next = w.common.pools })

-- What an event of the connection k answers and leaves. memory: whether a growth would succeed. told: what the files tell.
unfoldable pub happens_on : Bool → ℕ → List Program → Told → Event → ℕ → Option Connection → World → Answer × World
happens_on memory budget chain told event.Open k c w = opens memory chain w
happens_on memory budget chain told (event.AddFile name bytes) k c w = adds_file memory w
happens_on memory budget chain told event.TellPools k c w = (Tree w.common.root (tree_of w), w)
happens_on memory budget chain told e k None w = (Refused refusal.NoSuchConn, w)
happens_on memory budget chain told (event.OpenFile name) k (Some c) w = file_answered k w (opens_file memory told.opening (w.common, c))
happens_on memory budget chain told event.Begin k (Some c) w = answered k w (begins memory chain (w.common, c))
happens_on memory budget chain told (event.Bring pieces) k (Some c) w = answered k w (brings memory chain pieces (w.common, c))
happens_on memory budget chain told event.Step k (Some c) w = step_answered k w (steps memory budget chain told.reads (w.common, c))
happens_on memory budget chain told event.End k (Some c) w = answered k w (ends memory (w.common, c))
happens_on memory budget chain told event.TakeOutput k (Some c) w = takes k c w
happens_on memory budget chain told event.TellLabels k (Some c) w = (Labels c.labels, w)
happens_on memory budget chain told event.Close k (Some c) w = closes memory k c w

-- One event. (Opening, adding a file and telling the pools are of no connection: k does not matter there.)
abbrev pub happens : Bool → ℕ → List Program → Told → ℕ → Event → World → Answer × World
happens memory budget chain told k e w = happens_on memory budget chain told e k (w.conns k) w

-- These events, each of the connection of this number, may give these answers, one after another, and lead from one world to
-- another. Each growth may find no memory. Each opening may find any bytes, or no file, or fail; and each read may give any bytes,
-- however many, or fail.
unfoldable pub IsRun : ℕ → List Program → World → List (ℕ × Event) → List Answer → World → Type 0
IsRun budget chain old [] [] new = new ≡ old
IsRun budget chain old (e ∷ es) (a ∷ answers) new =
    (memory : Bool) × (told : Told) × (mid : World) × (happens memory budget chain told e.0 e.1 old ≡ (a, mid)) × IsRun budget chain mid es answers new
IsRun budget chain old [] (a ∷ answers) new = ⊥
IsRun budget chain old (e ∷ es) [] new = ⊥

-- A whole run: from a new world, whatever its first name is. It is not 0, which is no call's name, nor 2^64 - 1, which is never given out.
pub record IsWholeRun (budget : ℕ) (chain : List Program) (events : List (ℕ × Event)) (answers : List Answer) (w : World) : Type 0 where
  pub first : ℕ
  pub named : 0 < first
  pub given : first + 1 < 2 ^ 64
  pub run : IsRun budget chain (new_world first) events answers w
