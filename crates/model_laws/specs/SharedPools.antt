-- A connection over the pools of all connections: each event does there what it does over the connection's own part.
use Rattle.std.specs.Prelude.{◌≡◌, ◌≢◌, ℕ, Bool, true, List, Some, None}
use Rattle.module_code.specs.Program.{Program}
use Rattle.module_code.specs.declared.instr.Instr.{Instr}
use Rattle.run_model.specs.declared.event.Piece.{Piece}
use Rattle.run_model.specs.declared.payload.Payload.{Payload}
use Rattle.run_model.specs.Pools.{Pools, is_under}
use Rattle.run_model.specs.Faults.{fault}
use Rattle.run_model.specs.Chains.{Frame, Connection, Common, Linked, configuration, module_at, pools_of}
use Rattle.run_model.specs.Passing.{Reads, proceeds}
use Rattle.run_model.specs.Turns.{Opening, begins, brings, closing_labels, ends, opens_file, steps}
use Rattle.model_laws.specs.ChainSound.{ChainSound}
use Rattle.model_laws.specs.JoinedParts.{HasItsPart}
use Rattle.model_laws.specs.Parts.{part, HasPart}
use Rattle.model_laws.specs.PartSteps.{LiesIn, linked_in_part}

-- the connection, with these pools in the place of its part
abbrev pub over : Pools Payload → Connection → Connection
over ps c = record c { path = ps.path; payloads = ps.payloads }

-- It has its part of these pools, and what its filters see lies there. request: so does the pool of an open request.
pub record LiesOver (ps : Pools Payload) (g : Common) (c : Connection) : Type 0 where
  pub part : HasItsPart ps c
  pub next : ps.next ≡ g.pools
  pub lies : (f : Frame) → LiesIn c.conn (configuration g (over ps c) f)
  pub request : (n : ℕ) → c.req ≡ Some n → is_under ps c.conn n ≡ true

-- what an event answers, and the part of d in what it leaves
abbrev pub seen_in : {A : Type 0} → ℕ → A × Linked → A × Linked
seen_in d w = (w.0, linked_in_part d w.1)

-- Where the connection lies over these pools, what the event answers and leaves is what it answers over them, and the connection's part of
-- what it leaves there.
abbrev pub IsSeenInPart : {A : Type 0} → (Linked → A × Linked) → Type 0
IsSeenInPart event = (ps : Pools Payload) (g : Common) (c : Connection) → LiesOver ps g c → event (g, c) ≡ seen_in c.conn (event (g, over ps c))

abbrev pub StepsSeenInPart : Type 0
StepsSeenInPart = (memory : Bool) (budget : ℕ) (chain : List Program) (reads : Reads) → IsSeenInPart (steps memory budget chain reads)

abbrev pub BeginsSeenInPart : Type 0
BeginsSeenInPart = (memory : Bool) (chain : List Program) → IsSeenInPart (begins memory chain)

abbrev pub BringsSeenInPart : Type 0
BringsSeenInPart = (memory : Bool) (chain : List Program) (pieces : List Piece) → IsSeenInPart (brings memory chain pieces)

abbrev pub OpensFileSeenInPart : Type 0
OpensFileSeenInPart = (memory : Bool) (opening : Opening) → IsSeenInPart (opens_file memory opening)

abbrev pub EndsSeenInPart : Type 0
EndsSeenInPart = (memory : Bool) → IsSeenInPart (ends memory)

-- So do the labels that a close runs.
abbrev pub LabelsSeenInPart : Type 0
LabelsSeenInPart = (ps : Pools Payload) (g : Common) (c : Connection) → LiesOver ps g c → closing_labels (g, c) ≡ closing_labels (g, over ps c)

-- What is true of the connection in every run is true of it over the pools of all.
abbrev pub SoundOver : Type 0
SoundOver = (chain : List Program) (ps : Pools Payload) (g : Common) (c : Connection) → LiesOver ps g c → ChainSound chain g c → ChainSound chain g (over ps c)

-- Of the part of another connection the instruction of the call on top changes the next name at most.
abbrev pub TopSparesOthers : Type 0
TopSparesOthers = (d : ℕ) (chain : List Program) (reads : Reads) (i : Instr) (f : Frame) (rest : List Frame) (g : Common) (c : Connection)
    → LiesIn c.conn (configuration g c f) → HasPart (pools_of g c) d → c.conn ≢ d → fault (module_at chain f.of) (configuration g c f) i ≡ None
    → (let w = (proceeds chain reads i f rest (g, c)).1 in part d (pools_of w.0 w.1) ≡ record (part d (pools_of g c)) { next = w.0.pools })
