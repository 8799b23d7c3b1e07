-- What an instruction does to the part of its connection, where the pool map is that of all connections.
use Rattle.std.specs.Prelude.{◌≡◌, ◌≢◌, ℕ, true, List, Some, None}
use Rattle.module_code.specs.Program.{Program}
use Rattle.module_code.specs.declared.instr.Instr.{Instr}
use Rattle.run_model.specs.declared.payload.Payload.{Payload}
use Rattle.run_model.specs.declared.bucket.PoolVar.TheVariants as poolvar
use Rattle.run_model.specs.Pools.{Pools, is_live, is_under}
use Rattle.run_model.specs.State.{Configuration}
use Rattle.run_model.specs.Sound.{brigade_pool}
use Rattle.run_model.specs.Faults.{fault}
use Rattle.run_model.specs.Steps.{Choice, Outcome, step, lacks_names}
use Rattle.run_model.specs.Holding.{refers}
use Rattle.model_laws.specs.Parts.{part, HasPart}
use Rattle.run_model.specs.Chains.{Frame, Connection, Common, Linked, module_at, configuration, pools_of}
use Rattle.run_model.specs.Passing.{Reads, proceeds}

-- what a step sees, with the part of c in place of all pools
abbrev pub in_part : ℕ → Configuration → Configuration
in_part c r = record r { shared = record r.shared { pools = part c r.shared.pools } }

abbrev pub outcome_in_part : ℕ → Outcome → Outcome
outcome_in_part c o = record o { state = in_part c o.state }

-- A file that is referred to under c is referred to there alone.
pub record OwnFiles (c : ℕ) (ps : Pools Payload) : Type 0 where
  pub apart : (p q file : ℕ) → is_under ps c p ≡ true → refers ps p file ≡ true → refers ps q file ≡ true → is_under ps c q ≡ true

-- What a step sees lies in the part of c: c is its connection's pool, the request's pool and what the variables name stand under c, where
-- they are live, brigades are made on pools there, and files that are referred to there are the connection's own.
pub record LiesIn (c : ℕ) (r : Configuration) : Type 0 where
  pub has : HasPart r.shared.pools c
  pub conn : r.shared.conn ≡ c
  pub req : (n : ℕ) → r.shared.req ≡ Some n → is_live r.shared.pools n ≡ true → is_under r.shared.pools c n ≡ true
  pub own : (q n : ℕ) → r.instance.pools q ≡ poolvar.Made n → is_live r.shared.pools n ≡ true → is_under r.shared.pools c n ≡ true
  pub brigades : (b n : ℕ) → brigade_pool (r.instance.brigades b) ≡ Some n → is_under r.shared.pools c n ≡ true
  pub files : OwnFiles c r.shared.pools

-- The laws, as statements.

-- A step that has no fault does the same in the part and in the whole.
abbrev pub StepsStayInPart : Type 0
StepsStayInPart = (c : ℕ) (p : Program) (choice : Choice) (i : Instr) (r : Configuration) → LiesIn c r → fault p r i ≡ None → step p choice i (in_part c r) ≡ outcome_in_part c (step p choice i r)

-- Of a connection of a chain: the same, with the part of d in place of the pools that it has.
abbrev pub linked_in_part : ℕ → Linked → Linked
linked_in_part d (g, c) = (g, record c { path = (part d (pools_of g c)).path; payloads = (part d (pools_of g c)).payloads })

-- So does the instruction of the call on top of a chain, wherever its filter stands; what the last one passes reaches the output alike.
abbrev pub TopStaysInPart : Type 0
TopStaysInPart = (d : ℕ) (chain : List Program) (reads : Reads) (i : Instr) (f : Frame) (rest : List Frame) (g : Common) (c : Connection)
    → LiesIn d (configuration g c f) → fault (module_at chain f.of) (configuration g c f) i ≡ None
    → proceeds chain reads i f rest (linked_in_part d (g, c)) ≡ ((proceeds chain reads i f rest (g, c)).0, linked_in_part d (proceeds chain reads i f rest (g, c)).1)

-- Its fault is told in the part, and the names that are wanting.
abbrev pub FaultsAlike : Type 0
FaultsAlike = (c : ℕ) (p : Program) (i : Instr) (r : Configuration) → LiesIn c r → fault p (in_part c r) i ≡ fault p r i

abbrev pub NamesAlike : Type 0
NamesAlike = (c : ℕ) (i : Instr) (r : Configuration) → lacks_names (in_part c r) i ≡ lacks_names r i

-- Of the parts of others it changes the next name at most.
abbrev pub StepsSpareOthers : Type 0
StepsSpareOthers = (c d : ℕ) (p : Program) (choice : Choice) (i : Instr) (r : Configuration) → LiesIn c r → HasPart r.shared.pools d → c ≢ d → fault p r i ≡ None
    → part d (step p choice i r).state.shared.pools ≡ record (part d r.shared.pools) { next = (step p choice i r).state.shared.pools.next }
