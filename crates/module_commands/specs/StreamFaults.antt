-- What the answer of a call tells of the streams that it was given. was and is: whether the stream had failed, and has.
use Rattle.std.specs.Prelude.{◌≡◌, ℕ, Bool, true, ◌⊎◌, Result, Ok, Err}
use Rattle.module_commands.specs.declared.fault.PlayFault.{PlayFault}
use Rattle.module_commands.specs.declared.fault.PlayFault.TheVariants as fault

-- a writer: where it had not failed before, it failed exactly where the answer is `Write`
abbrev pub LeavesWriter : Bool → Bool → PlayFault → Type 0
LeavesWriter was is fault.Read = is ≡ was
LeavesWriter was is fault.Write = is ≡ true
LeavesWriter was is fault.NoMemory = is ≡ was

abbrev pub TellsOfWriter : {T : Type 0} → Bool → Bool → Result T PlayFault → Type 0
TellsOfWriter was is (Ok x) = is ≡ was
TellsOfWriter was is (Err f) = LeavesWriter was is f

-- It failed, or no read is left: it was read as often as it may be, and did not fail.
abbrev pub IsReadOut : Bool → Bool → ℕ → Type 0
IsReadOut was is left = (is ≡ true) ⊎ ((left ≡ 0) × (is ≡ was))

-- a reader that had not failed before: it failed only where the answer is `Read`, and the answer is `Read` only where it failed or was read out
abbrev pub LeavesReader : Bool → Bool → ℕ → PlayFault → Type 0
LeavesReader was is left fault.Read = IsReadOut was is left
LeavesReader was is left fault.Write = is ≡ was
LeavesReader was is left fault.NoMemory = is ≡ was

abbrev pub TellsOfReader : {T : Type 0} → Bool → Bool → ℕ → Result T PlayFault → Type 0
TellsOfReader was is left (Ok x) = is ≡ was
TellsOfReader was is left (Err f) = LeavesReader was is left f

-- Two readers: the answer is `Read` where one of them failed or was read out, and the other did not fail.
module _ (was is : Bool) (left : ℕ) (was_next is_next : Bool) (left_next : ℕ) where
  abbrev pub LeavesReaders : PlayFault → Type 0
  LeavesReaders fault.Read = (IsReadOut was is left × (is_next ≡ was_next)) ⊎ ((is ≡ was) × IsReadOut was_next is_next left_next)
  LeavesReaders fault.Write = (is ≡ was) × (is_next ≡ was_next)
  LeavesReaders fault.NoMemory = (is ≡ was) × (is_next ≡ was_next)

  abbrev pub TellsOfReaders : {T : Type 0} → Result T PlayFault → Type 0
  TellsOfReaders (Ok x) = (is ≡ was) × (is_next ≡ was_next)
  TellsOfReaders (Err f) = LeavesReaders f
