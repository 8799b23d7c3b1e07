-- What a refusal of a lower call is told as.
use Rattle.bucket_ring.specs.declared.names.RingRefusal.{RingRefusal}
use Rattle.bucket_ring.specs.declared.names.RingRefusal.TheVariants as ring
use Rattle.bucket_kinds.specs.declared.refusal.SplitError.{SplitError}
use Rattle.bucket_kinds.specs.declared.refusal.SplitError.TheVariants as halving
use Rattle.bucket_store.specs.declared.refusal.SplitRefusal.{SplitRefusal}
use Rattle.bucket_store.specs.declared.refusal.SplitRefusal.TheVariants as split
use Rattle.bucket_store.specs.declared.refusal.ReadRefusal.{ReadRefusal}
use Rattle.bucket_store.specs.declared.refusal.ReadRefusal.TheVariants as read

abbrev pub unsplit : SplitError → SplitRefusal
unsplit halving.TooLong = split.TooLong
unsplit halving.Metadata = split.Metadata
unsplit halving.NoMemory = split.NoMemory

abbrev pub unnamed : RingRefusal → SplitRefusal
unnamed ring.NoMemory = split.NoMemory
unnamed ring.NamesSpent = split.NamesSpent

abbrev pub unread : RingRefusal → ReadRefusal
unread ring.NoMemory = read.NoMemory
unread ring.NamesSpent = read.NamesSpent
