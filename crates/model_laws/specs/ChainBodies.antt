-- Bodies at the end of a chain, and what reads give: a body may be cut anywhere, and where reads give what a file has, no byte of it is lost.
use Rattle.std.specs.Prelude.{◌≡◌, ℕ, ◌+◌, ◌*◌, ◌<◌, true, if◌then◌else◌, List, ◌∷◌, ◌++◌, length, take, drop, Some}
use Rattle.module_code.specs.declared.instr.Instr.TheVariants as instr
use Rattle.module_code.specs.Program.{Program}
use Rattle.run_model.specs.declared.bucket.NamedBucket.{NamedBucket}
use Rattle.run_model.specs.Cutting.{read_limit, wanted}
use Rattle.run_model.specs.Files.{parts_of}
use Rattle.run_model.specs.State.{Call, Out, items_of}
use Rattle.run_model.specs.BrigadeLists.{all_bytes}
use Rattle.run_model.specs.Cursors.{Within, at_cursor}
use Rattle.run_model.specs.Steps.{current}
use Rattle.model_laws.specs.BucketReads.{taken_by}
use Rattle.run_model.specs.Chains.{Frame, Connection, Common, module_at, configuration}
use Rattle.run_model.specs.Passing.{Reads, taken_whole, parts_taken, taken, delivered}
use Rattle.model_laws.specs.ChainLaws.{after_top}

-- how many reads the end of the chain makes of a brigade
abbrev pub reads_made : Out → List NamedBucket → Reads → ℕ
reads_made out items reads = if out.ended then 0 else (taken items 0 reads).reads

-- However a body is cut: brigades that are passed one after the other reach the output as they would in one, where no
-- read failed in the first. all: the reads that the first makes, and behind them those of the second.
abbrev pub OutputOfCuts : Type 0
OutputOfCuts = (out : Out) (xs ys : List NamedBucket) (first second all : Reads) → (delivered out xs first).1 ≡ true
    → ((k : ℕ) → k < reads_made out xs first → all k ≡ first k) → ((k : ℕ) → all (reads_made out xs first + k) ≡ second k)
    → delivered (delivered out xs first).0 ys second ≡ delivered out (xs ++ ys) all

-- Where each read, from the k-th on, gives its part of a range of these bytes, all of them are taken.
abbrev pub ReadsGiveTheFile : Type 0
ReadsGiveTheFile = (k : ℕ) (bytes : List ℕ) (reads : Reads) → ((j : ℕ) → j < parts_of (length bytes) → reads (k + j) ≡ Some (take read_limit (drop (j * read_limit) bytes)))
    → parts_taken (parts_of (length bytes)) k reads ≡ taken_whole bytes (k + parts_of (length bytes))

-- The call f goes on behind its instruction, and the brigade of b has the bytes that it had, where `file` tells those of each file.
pub record ReadsOnTop (file : ℕ → List ℕ) (b : ℕ) (f : Frame) (c new : Connection) : Type 0 where
  pub call : Call
  pub below : List Frame
  pub next : new.stack ≡ record { of = f.of; call = call; pc = f.pc + 1 } ∷ below
  pub bytes : all_bytes file (items_of ((new.instances f.of).brigades b)) ≡ all_bytes file (items_of ((c.instances f.of).brigades b))

-- So it is with a read of the call on top, where the read that it makes, if it makes one, gives the bytes of the file.
abbrev pub TopReadGivesTheFile : Type 0
TopReadGivesTheFile = (chain : List Program) (reads : Reads) (g : Common) (c : Connection) (f : Frame) (rest : List Frame) (file : ℕ → List ℕ) (cur l b : ℕ) (x : NamedBucket)
    → current (module_at chain f.of) f.pc ≡ instr.Read cur l → at_cursor (configuration g c f) cur ≡ Within b x → (0 < wanted x.bucket.content → reads 0 ≡ Some (taken_by file x.bucket.content))
    → ReadsOnTop file b f c (after_top chain reads g c f rest).1
