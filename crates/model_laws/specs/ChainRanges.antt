-- What stays in range in each connection with a chain, in every run: numbers and bytes, and what is brought of files.
use Rattle.std.specs.Prelude.{◌≡◌, ℕ, ◌<◌, ◌≤◌, Bool, true, List, [], ◌∷◌, Some, All}
use Rattle.module_code.specs.Program.{Program}
use Rattle.run_model.specs.declared.event.Event.{Event}
use Rattle.run_model.specs.Holding.{refers}
use Rattle.model_laws.specs.Ranges.{AreBytes, HoldsBytes, BufferInRange, BringsBytes, LiesInFile, HasLength}
use Rattle.run_model.specs.Chains.{Connection, Common, pools_of, files_of, IsChain}
use Rattle.run_model.specs.Turns.{Found}
use Rattle.run_model.specs.Worlds.{World, Told, Answer, new_world, happens, IsRun, IsWholeRun}
use Rattle.model_laws.specs.ChainSound.{WorldSound}
use Rattle.model_laws.specs.KeptInRuns.{OfConnections}
use Rattle.model_laws.specs.ChainFiles.{OfEachBucket, WorldFiles}

-- Numbers and bytes.

-- the buffer of each call is in range
abbrev pub BuffersInRange : Connection → Type 0
BuffersInRange c = All (λ f. BufferInRange f.call.buffer) c.stack

abbrev pub WorldBuffers : World → Type 0
WorldBuffers w = (k : ℕ) (c : Connection) → w.conns k ≡ Some c → BuffersInRange c

-- Each event keeps them so, whatever is brought and read, and so they are in each world that a run reaches.
abbrev pub EventKeepsBuffers : Type 0
EventKeepsBuffers = (memory : Bool) (budget : ℕ) (chain : List Program) (told : Told) (k : ℕ) (e : Event) (w : World) → WorldBuffers w → WorldBuffers (happens memory budget chain told k e w).1

abbrev pub RunKeepsBuffers : Type 0
RunKeepsBuffers = (budget : ℕ) (chain : List Program) (es : List (ℕ × Event)) (answers : List Answer) (w : World) → IsWholeRun budget chain es answers w → WorldBuffers w

-- numbers: each number of an instance is below 2^32. buffers: the buffer of each call is in range. held, opened: what buckets and open files
-- hold are bytes.
pub record ChainInRange (c : Connection) : Type 0 where
  pub numbers : (k n : ℕ) → (c.instances k).numbers n ≤ 4294967295
  pub buffers : BuffersInRange c
  pub held : OfEachBucket (λ x. HoldsBytes x.bucket.content) c
  pub opened : (file : ℕ) (bytes : List ℕ) → c.opened file ≡ Some bytes → AreBytes bytes

abbrev pub WorldInRange : World → Type 0
WorldInRange w = (k : ℕ) (c : Connection) → w.conns k ≡ Some c → ChainInRange c

-- What the files tell are bytes: what a read gives, and the file that is opened. (In the code they are of the type `u8`.)
pub record TellsBytes (told : Told) : Type 0 where
  pub reads : (k : ℕ) (bytes : List ℕ) → told.reads k ≡ Some bytes → AreBytes bytes
  pub opening : (skipped : ℕ) (bytes : List ℕ) → told.opening ≡ Found skipped bytes → AreBytes bytes

-- Each event keeps it in which what is brought and told are bytes.
abbrev pub EventKeepsWorldInRange : Type 0
EventKeepsWorldInRange = (memory : Bool) (budget : ℕ) (chain : List Program) (told : Told) (k : ℕ) (e : Event) (w : World)
    → IsChain chain → BringsBytes e → TellsBytes told → WorldInRange w → WorldInRange (happens memory budget chain told k e w).1

-- a run of such events
unfoldable pub IsRunOfBytes : ℕ → List Program → World → List (ℕ × Event) → List Answer → World → Type 0
IsRunOfBytes budget chain old [] [] new = new ≡ old
IsRunOfBytes budget chain old (e ∷ es) (a ∷ answers) new =
    (memory : Bool) × (told : Told) × (mid : World) × BringsBytes e.1 × TellsBytes told × (happens memory budget chain told e.0 e.1 old ≡ (a, mid)) × IsRunOfBytes budget chain mid es answers new
IsRunOfBytes budget chain old [] (a ∷ answers) new = ⊥
IsRunOfBytes budget chain old (e ∷ es) [] new = ⊥

-- it is a run
abbrev pub RunsOfBytesAreRuns : Type 0
RunsOfBytesAreRuns = (budget : ℕ) (chain : List Program) (es : List (ℕ × Event)) (answers : List Answer) (old new : World)
    → IsRunOfBytes budget chain old es answers new → IsRun budget chain old es answers new

-- So it is true of each world that such a run reaches.
abbrev pub RunIsInRangeWorld : Type 0
RunIsInRangeWorld = (first budget : ℕ) (chain : List Program) (es : List (ℕ × Event)) (answers : List Answer) (w : World) → IsChain chain
    → IsRunOfBytes budget chain (new_world first) es answers w → WorldInRange w

-- Ranges.

-- lie: each range whose home is alive lies in its file, which is open. told: the request's files have the lengths that were told. given: a
-- file of which a pool holds a reference has a number that was given.
pub record ChainRanges (g : Common) (c : Connection) : Type 0 where
  pub lie : OfEachBucket (LiesInFile (files_of g c)) c
  pub told : (req : ℕ) → c.req ≡ Some req → All (HasLength (files_of g c)) c.files
  pub given : (p file : ℕ) → refers (pools_of g c) p file ≡ true → file < g.file

abbrev pub WorldRanges : World → Type 0
WorldRanges = OfConnections ChainRanges

-- Each event keeps it, and so it is true of each world that a run reaches.
abbrev pub EventKeepsWorldRanges : Type 0
EventKeepsWorldRanges = (memory : Bool) (budget : ℕ) (chain : List Program) (told : Told) (k : ℕ) (e : Event) (w : World)
    → IsChain chain → WorldSound chain w → WorldFiles w → WorldRanges w → WorldRanges (happens memory budget chain told k e w).1
