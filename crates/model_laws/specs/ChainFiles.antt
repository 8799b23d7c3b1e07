-- What is true of the buckets and files of each connection with a chain, in every run: ranges end below 2^64, and files stay open.
use Rattle.std.specs.Prelude.{◌≡◌, ℕ, ◌^◌, ◌<◌, Bool, true, List, [], Some, None, is_some, All}
use Rattle.module_code.specs.Program.{Program}
use Rattle.run_model.specs.declared.bucket.Content.TheVariants as content
use Rattle.run_model.specs.declared.bucket.Home.TheVariants as home
use Rattle.run_model.specs.declared.bucket.NamedBucket.{NamedBucket}
use Rattle.run_model.specs.declared.event.Event.{Event}
use Rattle.run_model.specs.declared.event.Piece.{Piece}
use Rattle.run_model.specs.Cutting.{EndsInFile}
use Rattle.run_model.specs.State.{items_of}
use Rattle.model_laws.specs.RangesEnd.{PieceEnds, LengthsEnd}
use Rattle.run_model.specs.Pieces.{has_range}
use Rattle.run_model.specs.Holding.{refers}
use Rattle.model_laws.specs.Laws.{HasReference}
use Rattle.run_model.specs.Chains.{Connection, Common, pools_of, IsChain}
use Rattle.run_model.specs.Passing.{Reads}
use Rattle.run_model.specs.Turns.{steps, brought_in}
use Rattle.run_model.specs.Worlds.{World, Told, Answer, Opened, happens, IsWholeRun}
use Rattle.model_laws.specs.ChainSound.{WorldSound}
use Rattle.model_laws.specs.KeptInRuns.{OfConnections}

-- This is true of each bucket of a connection: in the brigades of its instances, and loose in its calls.
pub record OfEachBucket (T : NamedBucket → Type 0) (c : Connection) : Type 0 where
  pub brigades : (k b : ℕ) → All T (items_of ((c.instances k).brigades b))
  pub loose : All (λ f. All T f.call.loose) c.stack

-- A file that was opened has one of these lengths.
abbrev pub TellsLengths : (ℕ → Type 0) → Answer → Type 0
TellsLengths Lengths (Opened file len) = Lengths len
TellsLengths Lengths a = Unit {0}

-- Ranges.

-- a length below 2^64
abbrev pub IsShortLength : ℕ → Type 0
IsShortLength len = len < 2 ^ 64

-- Each range of a bucket ends below 2^64.
abbrev pub BucketsEnd : Connection → Type 0
BucketsEnd c = OfEachBucket (λ x. EndsInFile x.bucket.content) c

-- A step of a connection keeps it, and so does a brigade that is brought, where the ranges of its pieces end so.
abbrev pub ConnectionStepKeepsEnds : Type 0
ConnectionStepKeepsEnds = (memory : Bool) (budget : ℕ) (chain : List Program) (reads : Reads) (g : Common) (c : Connection) → BucketsEnd c → BucketsEnd (steps memory budget chain reads (g, c)).1.1

abbrev pub BringKeepsEnds : Type 0
BringKeepsEnds = (chain : List Program) (pieces : List Piece) (req : ℕ) (g : Common) (c : Connection) → All PieceEnds pieces → BucketsEnd c → BucketsEnd (brought_in chain pieces req (g, c)).1

-- ends: each range of a bucket ends below 2^64. lengths: so do the files of the request.
pub record ChainEnds (c : Connection) : Type 0 where
  pub ends : BucketsEnd c
  pub lengths : LengthsEnd c.files

abbrev pub WorldEnds : World → Type 0
WorldEnds w = (k : ℕ) (c : Connection) → w.conns k ≡ Some c → ChainEnds c

-- Where the files of the requests are short, each event leaves buckets whose ranges end so.
abbrev pub EventKeepsBucketsEnd : Type 0
EventKeepsBucketsEnd = (memory : Bool) (budget : ℕ) (chain : List Program) (told : Told) (k : ℕ) (e : Event) (w : World)
    → WorldEnds w → (j : ℕ) (c : Connection) → (happens memory budget chain told k e w).1.conns j ≡ Some c → BucketsEnd c

-- Each event keeps it where the file that it opens is short, and so it is true of each world that a run reaches whose files are.
abbrev pub EventKeepsWorldEnds : Type 0
EventKeepsWorldEnds = (memory : Bool) (budget : ℕ) (chain : List Program) (told : Told) (k : ℕ) (e : Event) (w : World)
    → IsChain chain → WorldSound chain w → TellsLengths IsShortLength (happens memory budget chain told k e w).0 → WorldEnds w → WorldEnds (happens memory budget chain told k e w).1

abbrev pub RunEndsWorld : Type 0
RunEndsWorld = (budget : ℕ) (chain : List Program) (es : List (ℕ × Event)) (answers : List Answer) (w : World)
    → IsChain chain → IsWholeRun budget chain es answers w → All (TellsLengths IsShortLength) answers → WorldEnds w

-- Files.

-- the file of a range whose home is a pool is open
abbrev pub IsOpen : Connection → NamedBucket → Type 0
IsOpen c x = (file start len p : ℕ) → x.bucket.content ≡ content.Range file start len → x.bucket.home ≡ home.Pool p → is_some (c.opened file) ≡ true

-- lasts: a file is open as long as a pool holds a reference to it. held, open: where the home of a FILE bucket has not ended, it holds such a
-- reference, and the file is open. request: so does the request's pool for its files. between: between requests there are none.
pub record ChainFiles (g : Common) (c : Connection) : Type 0 where
  pub lasts : (p file : ℕ) → refers (pools_of g c) p file ≡ true → is_some (c.opened file) ≡ true
  pub held : OfEachBucket (HasReference (pools_of g c)) c
  pub open_files : OfEachBucket (IsOpen c) c
  pub request : (file end req : ℕ) → has_range c.files file end ≡ true → c.req ≡ Some req → refers (pools_of g c) req file ≡ true
  pub between : c.req ≡ None → c.files ≡ []

abbrev pub WorldFiles : World → Type 0
WorldFiles = OfConnections ChainFiles

-- Whose files they are.

-- given: a file that is open has a number that was given out. own: it is open on one connection.
pub record WorldFilesApart (w : World) : Type 0 where
  pub given : (k file : ℕ) (c : Connection) → w.conns k ≡ Some c → is_some (c.opened file) ≡ true → file < w.common.file
  pub own : (j k file : ℕ) (c d : Connection) → w.conns j ≡ Some c → w.conns k ≡ Some d → is_some (c.opened file) ≡ true → is_some (d.opened file) ≡ true → j ≡ k

-- Each event keeps it, and so it is true of each world that a run reaches.
abbrev pub EventKeepsFilesApart : Type 0
EventKeepsFilesApart = (memory : Bool) (budget : ℕ) (chain : List Program) (told : Told) (k : ℕ) (e : Event) (w : World)
    → IsChain chain → WorldFilesApart w → WorldFilesApart (happens memory budget chain told k e w).1
