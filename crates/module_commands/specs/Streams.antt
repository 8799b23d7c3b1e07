-- What a call answers where a text was written, or not all of it.
use Rattle.std.specs.Prelude.{ℕ, ◌<◌, List, length, take, Option, Result, Ok, Err}
use Rattle.std.specs.Io.KnownBytes.{Appends, Keeps}
pub use Rattle.byte_streams.specs.Texts.{Writes}
use Rattle.module_commands.specs.declared.fault.PlayFault.{PlayFault}
use Rattle.module_commands.specs.declared.fault.PlayFault.TheVariants as fault

-- A text is written. Where the writer fails, a front of it that is not all; where memory is lacking, nothing.
abbrev pub WritesText : {T : Type 0} → Option (List ℕ) → Option (List ℕ) → List ℕ → Result T PlayFault → Type 0
WritesText before after text (Ok x) = Appends before after text
WritesText before after text (Err fault.Read) = ⊥
WritesText before after text (Err fault.Write) = (n : ℕ) × (n < length text) × Appends before after (take n text)
WritesText before after text (Err fault.NoMemory) = Keeps before after
