-- Files in memory: their bytes by name, and the names of the open ones by number.
use Rattle.std.specs.Prelude.{ℕ, List, Option, Some, None, Vec, nat_eq}
use Rattle.std.specs.declared.alloc.Global.{Global}
use Rattle.std.specs.BTreeMap.{BTreeMap, get_by}
use Rattle.std.specs.HashMap.{HashMap, get}
use Rattle.std.specs.Ordering.{nat_cmp}
use Rattle.std.specs.Cmp.Lexicographic.{slice_cmp}

abbrev pub Bytes : Type 0
Bytes = Vec ℕ Global

abbrev pub text_of : Option Bytes → Option (List ℕ)
text_of None = None
text_of (Some bytes) = Some bytes.items

-- the file of a name
abbrev pub under : BTreeMap Bytes Bytes → List ℕ → Option (List ℕ)
under files name = text_of (get_by (λ k. slice_cmp nat_cmp name k.items) files)

abbrev pub under_one : BTreeMap Bytes Bytes → Option Bytes → Option (List ℕ)
under_one files None = None
under_one files (Some name) = under files name.items

-- the open file of a number
abbrev pub at_number : {S : Type 0} → BTreeMap Bytes Bytes → HashMap ℕ Bytes S → ℕ → Option (List ℕ)
at_number files opened n = under_one files (get nat_eq opened n)
