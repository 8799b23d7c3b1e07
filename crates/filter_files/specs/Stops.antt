-- Why a command does not start on a chain of filters.
use Rattle.std.specs.Prelude.{◌≡◌, ℕ, List, [], ◌++◌, codes, decimal, Option, Some, None}
use Rattle.author_text.specs.declared.place.Place.{Place}
use Rattle.filter_files.specs.declared.compiling.FilterFault.{FilterFault}
use Rattle.filter_files.specs.declared.start_error.StartError.{StartError}
use Rattle.filter_files.specs.declared.start_error.StartError.TheVariants as stop

-- what stands before the line of a fault in a chain: which filter it is, where the fault has a place in its text
abbrev pub refused_filter : ℕ → Option Place → List ℕ
refused_filter index (Some p) = codes "refused module " ++ decimal index ++ codes " at "
refused_filter index None = []

-- the fault of a filter, told of this index
abbrev pub IsStopOf : ℕ → FilterFault → StartError → Type 0
IsStopOf index f (stop.Line out cause) = out.items ≡ refused_filter index f.place ++ f.line.items
IsStopOf index f stop.NoMemory = ⊥
