-- What is done to a pool keeps every part: each connection's pool stays right under the root, pools of its own stay its own, and so do
-- files.
use Rattle.std.specs.Prelude.{◌≡◌, ◌≢◌, ℕ, ◌<◌, true, Some, None, All}
use Rattle.module_code.specs.Program.{Program}
use Rattle.module_code.specs.declared.instr.Instr.{Instr}
use Rattle.run_model.specs.declared.bucket.BrigadeVar.{BrigadeVar}
use Rattle.run_model.specs.declared.bucket.NamedBucket.{NamedBucket}
use Rattle.run_model.specs.declared.bucket.Content.TheVariants as content
use Rattle.run_model.specs.declared.bucket.Home.TheVariants as home
use Rattle.run_model.specs.declared.bucket.PoolVar.TheVariants as poolvar
use Rattle.run_model.specs.declared.payload.Payload.{Payload}
use Rattle.run_model.specs.Pools.{Pools, is_live, is_under}
use Rattle.run_model.specs.Payloads.{is_file_ref}
use Rattle.run_model.specs.State.{Configuration, items_of}
use Rattle.run_model.specs.Sound.{SoundBuckets, brigade_pool}
use Rattle.run_model.specs.Faults.{fault}
use Rattle.run_model.specs.Chains.{touched_var}
use Rattle.run_model.specs.Steps.{Choice, step}
use Rattle.model_laws.specs.Laws.{MayExecute}
use Rattle.run_model.specs.Holding.{refers}
use Rattle.model_laws.specs.Parts.{HasPart, Change, Made, Registered, Killed, Cleared, Destroyed, changed}
use Rattle.model_laws.specs.PartSteps.{OwnFiles, LiesIn}

-- a pool that is destroyed is not d
abbrev pub IsNotDestroyed : Change → ℕ → ℕ → Type 0
IsNotDestroyed Made d p = Unit {0}
IsNotDestroyed (Registered how x) d p = Unit {0}
IsNotDestroyed (Killed test) d p = Unit {0}
IsNotDestroyed Cleared d p = Unit {0}
IsNotDestroyed Destroyed d p = d ≢ p

-- Each connection's pool stays right under the root, unless it is destroyed itself.
abbrev pub PartsLast : Type 0
PartsLast = (change : Change) (c d p : ℕ) (ps : Pools Payload) → HasPart ps c → HasPart ps d → is_under ps c p ≡ true → IsNotDestroyed change d p → HasPart (changed change p ps) d

-- A name that was given out and stands under d, where it is live, does so afterwards.
abbrev pub OldPoolsLast : Type 0
OldPoolsLast = (change : Change) (d p n : ℕ) (ps : Pools Payload) → n < ps.next → (is_live ps n ≡ true → is_under ps d n ≡ true)
    → is_live (changed change p ps) n ≡ true → is_under (changed change p ps) d n ≡ true

-- a reference that is registered is to a file of c alone, or to a new one
abbrev pub IsOwnChange : Change → ℕ → Pools Payload → Type 0
IsOwnChange Made c ps = Unit {0}
IsOwnChange (Registered how x) c ps = (file : ℕ) → is_file_ref file x ≡ true → (q : ℕ) → refers ps q file ≡ true → is_under ps c q ≡ true
IsOwnChange (Killed test) c ps = Unit {0}
IsOwnChange Cleared c ps = Unit {0}
IsOwnChange Destroyed c ps = Unit {0}

-- The files of each connection stay its own.
abbrev pub OwnFilesLast : Type 0
OwnFilesLast = (change : Change) (c d p : ℕ) (ps : Pools Payload) → HasPart ps c → HasPart ps d → is_under ps c p ≡ true → IsOwnChange change c ps → OwnFiles d ps → OwnFiles d (changed change p ps)

-- Of a bucket: the pool that is the home of a range of a file stands under c, and holds a reference to that file.
abbrev pub IsHeldUnder : ℕ → Pools Payload → NamedBucket → Type 0
IsHeldUnder c ps x = (file start len p : ℕ) → x.bucket.content ≡ content.Range file start len → x.bucket.home ≡ home.Pool p → (refers ps p file ≡ true) × (is_under ps c p ≡ true)

-- What a step has to know, beside `LiesIn`, to keep all parts. buckets: content and home of each bucket fit its kind. brigades, loose: ranges
-- are held under c. below: no variable of the instance names c.
pub record KeepsIn (c : ℕ) (r : Configuration) : Type 0 where
  pub buckets : SoundBuckets r
  pub brigades : (b : ℕ) → All (IsHeldUnder c r.shared.pools) (items_of (r.instance.brigades b))
  pub loose : All (IsHeldUnder c r.shared.pools) r.call.loose
  pub below : (q n : ℕ) → r.instance.pools q ≡ poolvar.Made n → n ≢ c

-- What is kept of the part of d: its pool is right under the root; a name that was given out and stands under it, where it is live, goes on
-- doing so; files that are its own stay so.
pub record PartKept (d : ℕ) (ps new : Pools Payload) : Type 0 where
  pub has : HasPart new d
  pub old : (n : ℕ) → n < ps.next → (is_live ps n ≡ true → is_under ps d n ≡ true) → is_live new n ≡ true → is_under new d n ≡ true
  pub files : OwnFiles d ps → OwnFiles d new

-- A step without a fault keeps the part of each connection.
abbrev pub StepsKeepParts : Type 0
StepsKeepParts = (c d : ℕ) (p : Program) (choice : Choice) (i : Instr) (r : Configuration) → LiesIn c r → KeepsIn c r → HasPart r.shared.pools d → fault p r i ≡ None
    → PartKept d r.shared.pools (step p choice i r).state.shared.pools

-- of a variable: its brigade is made on a pool under c
abbrev pub LiesUnder : ℕ → Pools Payload → BrigadeVar → Type 0
LiesUnder c ps v = (n : ℕ) → brigade_pool v ≡ Some n → is_under ps c n ≡ true

-- What a step touches in other instances of its connection lies under c afterwards.
abbrev pub TouchedLies : Type 0
TouchedLies = (c : ℕ) (p : Program) (choice : Choice) (i : Instr) (r : Configuration) (v : BrigadeVar) → LiesIn c r → fault p r i ≡ None → LiesUnder c r.shared.pools v
    → LiesUnder c (step p choice i r).state.shared.pools (touched_var r i v)

-- What stands under the pool of another connection stays there.
abbrev pub OthersLie : Type 0
OthersLie = (c d : ℕ) (p : Program) (choice : Choice) (i : Instr) (r : Configuration) (n : ℕ) → LiesIn c r → HasPart r.shared.pools d → c ≢ d → fault p r i ≡ None → is_under r.shared.pools d n ≡ true
    → is_under (step p choice i r).state.shared.pools d n ≡ true

-- The pools that variables and the request name were given out.
pub record AreGiven (r : Configuration) : Type 0 where
  pub req : (n : ℕ) → r.shared.req ≡ Some n → n < r.shared.pools.next
  pub own : (q n : ℕ) → r.instance.pools q ≡ poolvar.Made n → n < r.shared.pools.next

-- What a call sees lies in its part after each step without a fault.
abbrev pub StepsKeepLies : Type 0
StepsKeepLies = (c : ℕ) (p : Program) (choice : Choice) (i : Instr) (r : Configuration) → LiesIn c r → KeepsIn c r → AreGiven r → MayExecute p r i → LiesIn c (step p choice i r).state
