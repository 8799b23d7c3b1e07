-- A step keeps each range of a bucket below 2^64: no number of a part of it is too large.
use Rattle.std.specs.Prelude.{ℕ, ◌<◌, ◌^◌, List, All}
use Rattle.module_code.specs.declared.instr.Instr.{Instr}
use Rattle.module_code.specs.Program.{Program}
use Rattle.run_model.specs.declared.event.Piece.{Piece}
use Rattle.run_model.specs.Cutting.{EndsInFile}
use Rattle.run_model.specs.State.{Configuration, items_of}
use Rattle.run_model.specs.Steps.{Choice, step}
use Rattle.run_model.specs.Pieces.{bucket_of}

-- brigades, loose: each range of a bucket ends below 2^64.
pub record RangesEnd (r : Configuration) : Type 0 where
  pub brigades : (b : ℕ) → All (λ x. EndsInFile x.bucket.content) (items_of (r.instance.brigades b))
  pub loose : All (λ x. EndsInFile x.bucket.content) r.call.loose

-- A step keeps it.
abbrev pub StepKeepsEnds : Type 0
StepKeepsEnds = (p : Program) (choice : Choice) (i : Instr) (r : Configuration) → RangesEnd r → RangesEnd (step p choice i r).state

-- the range of a piece ends below 2^64
abbrev pub PieceEnds : Piece → Type 0
PieceEnds x = EndsInFile (bucket_of 0 0 x).content

-- The files of a request have lengths below 2^64.
abbrev pub LengthsEnd : List (ℕ × ℕ) → Type 0
LengthsEnd files = All (λ f. f.1 < 2 ^ 64) files
