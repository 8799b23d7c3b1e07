-- The last item of a list that passes a test.
use Rattle.std.specs.Prelude.{◌≡◌, ℕ, suc, ◌<◌, Bool, true, false, List, length, drop, slice_index_or}
use Rattle.std.specs.List.{list_any}

-- The item at this index passes the test, and none behind it does.
pub record IsLastAt {X : Type 0} (test : X → Bool) (xs : List X) (index : ℕ) : Type 0 where
  pub within : index < length xs
  pub passes : (x : X) → test (slice_index_or xs index x) ≡ true
  pub behind : list_any test (drop (suc index) xs) ≡ false
