-- What a device of files is: which names have a file, which numbers are open, how often it failed, and which of the calls to come are to fail.
use Rattle.std.specs.Prelude.{◌≡◌, ℕ, zero, suc, ◌+◌, Bool, true, false, ◌==◌, if◌then◌else◌, List}
use Rattle.run_model.specs.Indexed.{upd}

-- What stands under a name or a number: no file, a file of which nothing is told, or a file of these bytes. Under a name, `Untold` does not say
-- either that there is such a file.
pub data Held : Type 0 where
  Missing : Held
  Untold : Held
  Holds : List ℕ → Held

-- Which openings and reads fail: none; the one that comes after so many, and no other; or any may.
pub data Plan : Type 0 where
  Sound : Plan
  At : ℕ → Plan
  AnyTime : Plan

-- `named` goes by a file's name, `numbered` by the number of an open file. `next` is the number that is given next. Of a file of which nothing is
-- told a device may give fewer bytes than were asked for, also where no call fails.
pub record Device : Type 0 where
  pub named : List ℕ → Held
  pub numbered : ℕ → Held
  pub next : ℕ
  pub failures : ℕ
  pub plan : Plan

abbrev pub last_number : ℕ
last_number = 18446744073709551615

abbrev pub is_there : Held → Bool
is_there Missing = false
is_there Untold = true
is_there (Holds bytes) = true

-- whether the next opening or read may go on well
abbrev pub MayGoWell : Plan → Type 0
MayGoWell Sound = Unit {0}
MayGoWell (At zero) = ⊥
MayGoWell (At (suc n)) = Unit {0}
MayGoWell AnyTime = Unit {0}

-- whether it may fail
abbrev pub MayFail : Plan → Type 0
MayFail Sound = ⊥
MayFail (At zero) = Unit {0}
MayFail (At (suc n)) = ⊥
MayFail AnyTime = Unit {0}

-- A call that went well brings the one that is to fail nearer.
abbrev pub nearer : Plan → Plan
nearer Sound = Sound
nearer (At zero) = At zero
nearer (At (suc n)) = At n
nearer AnyTime = AnyTime

-- After the one that was to fail no other is.
abbrev pub spent : Plan → Plan
spent Sound = Sound
spent (At n) = Sound
spent AnyTime = AnyTime

-- whether one of those to come is to fail, so that it matters how many are made
abbrev pub counts : Plan → Bool
counts Sound = false
counts (At n) = true
counts AnyTime = false

-- A count of failures stays where it is the greatest.
abbrev pub one_more : ℕ → ℕ
one_more n = if n == last_number then n else n + 1

-- An opening or a read went on well, whatever it was of, and nothing else changed,
abbrev pub moved : Device → Device
moved d = record d { plan = nearer d.plan }

-- or the device failed once more.
abbrev pub failed : Device → Device
failed d = record d { failures = one_more d.failures; plan = spent d.plan }

abbrev pub WentWell : Device → Device → Type 0
WentWell d e = MayGoWell d.plan × (e ≡ moved d)

abbrev pub HasFailed : Device → Device → Type 0
HasFailed d e = MayFail d.plan × (e ≡ failed d)

-- So many bytes were asked for in one read, which went on well; for none the device is not asked.
abbrev pub WasAsked : ℕ → Device → Device → Type 0
WasAsked zero d e = e ≡ d
WasAsked (suc n) d e = WentWell d e

-- So many calls went on well, one after another.
unfoldable pub AllWentWell : ℕ → Device → Device → Type 0
AllWentWell zero d e = e ≡ d
AllWentWell (suc n) d e = MayGoWell d.plan × AllWentWell n (moved d) e

abbrev pub SomeWentWell : Device → Device → Type 0
SomeWentWell d e = (n : ℕ) × AllWentWell n d e

-- The same files stand under the same names.
abbrev pub SameFolder : Device → Device → Type 0
SameFolder d e = e.named ≡ d.named

-- So they do, and nothing was opened or read.
abbrev pub IsUnasked : Device → Device → Type 0
IsUnasked d e = SameFolder d e × (e.plan ≡ d.plan)

-- The file of this name is open under the next number.
abbrev pub opened : List ℕ → Device → Device
opened name d = record d { numbered = upd d.numbered d.next (d.named name); next = d.next + 1 }

abbrev pub closed : ℕ → Device → Device
closed file d = record d { numbered = upd d.numbered file Missing }
