-- A source that is read at most so many times, and what a read does to it. left and rest: how many reads were left before it, and are.
use Rattle.std.specs.Prelude.{◌≡◌, ℕ, ◌+◌, Bool, true, List, Option, Result, Ok, Err}
use Rattle.std.specs.Io.KnownBytes.{Keeps}
use Rattle.byte_streams.specs.declared.source.ReadAnswer.{ReadAnswer}
use Rattle.byte_streams.specs.declared.counted.CountedFault.{CountedFault}
use Rattle.byte_streams.specs.declared.counted.CountedSource.{CountedSource}
use Rattle.byte_streams.specs.declared.counted.CountedFault.TheVariants as fault
use Rattle.byte_streams.specs.Transfers.{IsRead}

-- the source
abbrev pub source_of : {R : Type 0} → CountedSource R → R
source_of counted = counted.source

-- how many more times it may be read
abbrev pub reads_left : {R : Type 0} → CountedSource R → ℕ
reads_left counted = counted.left

module _ (left rest : ℕ) (before after : Option (List ℕ)) (was is : Bool) (buffer : List ℕ) where
  -- The source is read once, where a read is left.
  abbrev pub IsCounted : Result ReadAnswer CountedFault → Type 0
  IsCounted (Ok a) = (left ≡ rest + 1) × IsRead before after was is buffer (Ok a)
  IsCounted (Err fault.Failed) = (left ≡ rest + 1) × Keeps before after × (is ≡ true)
  IsCounted (Err fault.TooManyReads) = (left ≡ 0) × (rest ≡ 0) × Keeps before after × (is ≡ was)
