-- Which variables a state says something of.
use Rattle.std.specs.Prelude.{◌≡◌, ℕ, ◌≤◌, false}
use Rattle.life_state.specs.States.{only_null, never_made, Unset, State}

-- Beyond the eight pools, nine brigades and nine cursors that there are, a state says that nothing is there. (So does each of the code.)
pub record IsBounded (s : State) : Type 0 where
  pub pools : (q : ℕ) → 8 ≤ q → s.pools q ≡ only_null
  pub brigades : (b : ℕ) → 9 ≤ b → s.brigades b ≡ never_made
  pub cursors : (c : ℕ) → 9 ≤ c → s.cursors c ≡ Unset
  pub facts_from : (c d : ℕ) → 9 ≤ c → s.facts c d ≡ false
  pub facts_to : (c d : ℕ) → 9 ≤ d → s.facts c d ≡ false
