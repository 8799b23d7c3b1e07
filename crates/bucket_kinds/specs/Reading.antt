-- What a read of a bucket takes from a device of files.
use Rattle.std.specs.Prelude.{ℕ, ◌≡◌, ◌<◌, min, true, List, length, take, drop}
use Rattle.run_model.specs.declared.bucket.Content.{Content}
use Rattle.run_model.specs.declared.bucket.Content.TheVariants as content
use Rattle.run_model.specs.Cutting.{read_limit}
use Rattle.bucket_kinds.specs.Device.{Held, Missing, Untold, Holds, Device, is_there}

-- These may be the n bytes of the file from a place on.
abbrev pub MayGiveBytes : Held → ℕ → ℕ → List ℕ → Type 0
MayGiveBytes Missing start n bytes = ⊥
MayGiveBytes Untold start n bytes = length bytes ≡ n
MayGiveBytes (Holds text) start n bytes = (length bytes ≡ n) × (bytes ≡ take n (drop start text))

-- The file may end before the last of n bytes from a place on.
abbrev pub MayEnd : Held → ℕ → ℕ → Type 0
MayEnd Missing start n = ⊥
MayEnd Untold start n = 0 < n
MayEnd (Holds text) start n = length (drop start text) < n

-- The file of a range is open.
abbrev pub IsOpenFor : Device → Content → Type 0
IsOpenFor d (content.Bytes bs) = Unit {0}
IsOpenFor d (content.Range file start len) = is_there (d.numbered file) ≡ true
IsOpenFor d content.Nothing = Unit {0}

-- These are the bytes that a read takes.
abbrev pub GivesFor : Device → Content → List ℕ → Type 0
GivesFor d (content.Bytes bs) bytes = Unit {0}
GivesFor d (content.Range file start len) bytes = MayGiveBytes (d.numbered file) start (min len read_limit) bytes
GivesFor d content.Nothing bytes = Unit {0}

-- The file was shorter than what a read takes.
abbrev pub EndsWithin : Device → Content → Type 0
EndsWithin d (content.Bytes bs) = ⊥
EndsWithin d (content.Range file start len) = MayEnd (d.numbered file) start (min len read_limit)
EndsWithin d content.Nothing = ⊥
