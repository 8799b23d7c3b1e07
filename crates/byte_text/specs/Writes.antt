-- What a call wrote into a writer.
use Rattle.std.specs.Prelude.{◌≡◌, ℕ, ◌<◌, Bool, true, List, length, take, Option, Result, Ok, Err}
use Rattle.std.specs.Io.KnownBytes.{Appends}
use Rattle.byte_text.specs.declared.writer.TextWriter.{TextWriter}

-- the writer of a writer of texts, and whether that failed
abbrev pub writer_in : {W : Type 0} → TextWriter W → W
writer_in out = out.writer

abbrev pub is_failed : {W : Type 0} → TextWriter W → Bool
is_failed out = out.has_failed

-- What is seen of it: the bytes that its writer holds, where they are known, and whether it failed.
pub record WriterState : Type 0 where
  pub bytes : Option (List ℕ)
  pub failed : Bool

abbrev pub writer_state : {W : Type 0} → (W → Option (List ℕ)) → TextWriter W → WriterState
writer_state contents out = record { bytes = contents out.writer; failed = out.has_failed }

-- A text was added, and no write failed.
pub record AppendsText (before after : WriterState) (text : List ℕ) : Type 0 where
  pub bytes : Appends before.bytes after.bytes text
  pub sound : after.failed ≡ before.failed

-- The writer failed behind a front of a text that is not all of it.
pub record FailsIn (before after : WriterState) (text : List ℕ) : Type 0 where
  pub taken : ℕ
  pub part : taken < length text
  pub bytes : Appends before.bytes after.bytes (take taken text)
  pub failed : after.failed ≡ true

-- all of a text, or where the writer failed, a front that is not all of it
abbrev pub Wrote : {E : Type 0} → Result (Unit {0}) E → WriterState → WriterState → List ℕ → Type 0
Wrote (Ok u) before after text = AppendsText before after text
Wrote (Err e) before after text = FailsIn before after text

-- all of a text, or the writer failed
abbrev pub WroteAll : {E : Type 0} → Result (Unit {0}) E → WriterState → WriterState → List ℕ → Type 0
WroteAll (Ok u) before after text = AppendsText before after text
WroteAll (Err e) before after text = after.failed ≡ true
