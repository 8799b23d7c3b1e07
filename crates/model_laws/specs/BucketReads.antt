-- What a read leaves of the bytes of a brigade, and what a step of it leaves where the file gives what is asked (apr_buckets.h: apr_bucket_read).
use Rattle.std.specs.Prelude.{◌≡◌, ℕ, ◌<◌, List, take, Some}
use Rattle.module_code.specs.declared.instr.Instr.TheVariants as instr
use Rattle.module_code.specs.Program.{Program}
use Rattle.run_model.specs.declared.bucket.Content.{Content}
use Rattle.run_model.specs.declared.bucket.NamedBucket.{NamedBucket}
use Rattle.run_model.specs.declared.event.Exit.TheVariants.{GoOn}
use Rattle.run_model.specs.Cutting.{wanted}
use Rattle.run_model.specs.State.{Configuration}
use Rattle.run_model.specs.BrigadeLists.{bucket_named, bytes_of, all_bytes}
use Rattle.run_model.specs.Cursors.{Within, at_cursor}
use Rattle.run_model.specs.BucketSteps.{items_at, bucket_read}
use Rattle.run_model.specs.Steps.{Choice, Outcome, step}

-- the bytes that a read takes from the file of a content, where `file` tells those of each file
abbrev pub taken_by : (ℕ → List ℕ) → Content → List ℕ
taken_by file c = take (wanted c) (bytes_of file c)

-- A read that is given those leaves the bytes of the brigade as they were: of a longer range the rest follows.
abbrev pub ReadKeepsBytes : Type 0
ReadKeepsBytes = (new at : ℕ) (file : ℕ → List ℕ) (x : NamedBucket) (bs : List NamedBucket) → bucket_named at bs ≡ Some x
    → all_bytes file (bucket_read new at (taken_by file x.bucket.content) bs) ≡ all_bytes file bs

-- What a read of the brigade of b leaves: the next instruction follows, and the brigade has the bytes that it had.
pub record ReadsOn (file : ℕ → List ℕ) (b : ℕ) (r : Configuration) (o : Outcome) : Type 0 where
  pub exit : o.exit ≡ GoOn
  pub bytes : all_bytes file (items_at o.state b) ≡ all_bytes file (items_at r b)

-- So does each step of a read, where what it asks of a file, if it asks for any, is given.
abbrev pub StepReadGivesTheFile : Type 0
StepReadGivesTheFile = (p : Program) (choice : Choice) (file : ℕ → List ℕ) (c l b : ℕ) (x : NamedBucket) (r : Configuration)
    → at_cursor r c ≡ Within b x → (0 < wanted x.bucket.content → choice.given ≡ Some (taken_by file x.bucket.content)) → ReadsOn file b r (step p choice (instr.Read c l) r)
