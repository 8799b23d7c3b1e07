-- What a read does to a source, and a write to a sink. before and after: what is known of its bytes. was and is: whether it had failed, and has.
use Rattle.std.specs.Prelude.{◌≡◌, ℕ, ◌<◌, ◌≤◌, Bool, true, List, length, take, Option, Result, Ok, Err}
use Rattle.std.specs.Io.KnownBytes.{Appends, Consumes, IsAtEnd, Keeps}
use Rattle.byte_streams.specs.declared.source.ReadAnswer.{ReadAnswer}
use Rattle.byte_streams.specs.declared.source.ReadAnswer.TheVariants as read
use Rattle.byte_streams.specs.declared.source.ReadFailed.{ReadFailed}
use Rattle.byte_streams.specs.declared.sink.WriteAnswer.{WriteAnswer}
use Rattle.byte_streams.specs.declared.sink.WriteAnswer.TheVariants as write
use Rattle.byte_streams.specs.declared.sink.SinkFault.{SinkFault}
use Rattle.byte_streams.specs.declared.sink.SinkFault.TheVariants as fault

module _ (before after : Option (List ℕ)) (was is : Bool) where
  -- A read into a buffer. It gives the next bytes, one at least, or tells the end; else nothing is taken.
  abbrev pub IsRead : List ℕ → Result ReadAnswer ReadFailed → Type 0
  IsRead buffer (Ok (read.Bytes n)) = (0 < n) × (n ≤ length buffer) × Consumes before after (take n buffer) × (is ≡ was)
  IsRead buffer (Ok read.End) = Keeps before after × IsAtEnd after × (is ≡ was)
  IsRead buffer (Ok read.NotNow) = Keeps before after × (is ≡ was)
  IsRead buffer (Err e) = Keeps before after × (is ≡ true)

  -- A write of some bytes. It takes a front of them, one at least, or nothing.
  abbrev pub IsWritten : List ℕ → Result WriteAnswer SinkFault → Type 0
  IsWritten bytes (Ok (write.Bytes n)) = (0 < n) × (n ≤ length bytes) × Appends before after (take n bytes) × (is ≡ was)
  IsWritten bytes (Ok write.NotNow) = Keeps before after × (is ≡ was)
  IsWritten bytes (Err fault.Failed) = Keeps before after × (is ≡ true)
  IsWritten bytes (Err fault.NoMemory) = Keeps before after × (is ≡ was)

  -- A write of all of a text. Where the sink fails, it has taken a front that is not all of it; where memory is lacking, nothing.
  abbrev pub IsAllWritten : List ℕ → Result (Unit {0}) SinkFault → Type 0
  IsAllWritten text (Ok u) = Appends before after text × (is ≡ was)
  IsAllWritten text (Err fault.Failed) = ((n : ℕ) × (n < length text) × Appends before after (take n text)) × (is ≡ true)
  IsAllWritten text (Err fault.NoMemory) = Keeps before after × (is ≡ was)
