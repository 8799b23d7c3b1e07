-- A text in parts, how much of a text was put into a sink, and what a call writes for what it reads. before and after: what is known of its bytes. was and is: whether it had failed, and has.
use Rattle.std.specs.Prelude.{◌≡◌, ℕ, ◌<◌, Bool, true, List, ◌++◌, length, take, Option, IfSome, Result, Ok, Err}
use Rattle.std.specs.Io.KnownBytes.{Appends}
use Rattle.byte_streams.specs.declared.parts.Parts.{Parts}
use Rattle.byte_streams.specs.declared.sink.SinkFault.{SinkFault}
use Rattle.byte_streams.specs.declared.sink.SinkFault.TheVariants as fault

-- the parts, one after another
abbrev pub joined : Parts → List ℕ
joined p = p.first.now ++ p.second.now ++ p.third.now

-- a list begins with a front
abbrev pub BeginsWith : List ℕ → List ℕ → Type 0
BeginsWith all front = (more : List ℕ) × (all ≡ front ++ more)

-- a front of a text was written that is not all of it
abbrev pub AppendsFront : Option (List ℕ) → Option (List ℕ) → List ℕ → Type 0
AppendsFront before after text = (n : ℕ) × (n < length text) × Appends before after (take n text)

-- Where the input of a call is known, what it wrote is such a text of that input.
abbrev pub Writes : Option (List ℕ) → Option (List ℕ) → Option (List ℕ) → (List ℕ → List ℕ → Type 0) → Type 0
Writes input old new P = IfSome input (λ known. (text : List ℕ) × P known text × Appends old new text)

-- All of a text was written into a sink; or it failed, or had no memory, behind a front of it.
abbrev pub IsPut : Option (List ℕ) → Option (List ℕ) → Bool → Bool → List ℕ → Result (Unit {0}) SinkFault → Type 0
IsPut before after was is text (Ok u) = Appends before after text × (is ≡ was)
IsPut before after was is text (Err fault.Failed) = AppendsFront before after text × (is ≡ true)
IsPut before after was is text (Err fault.NoMemory) = AppendsFront before after text × (is ≡ was)
