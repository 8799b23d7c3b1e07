-- The form of a state, part by part, as it is tested.
use Rattle.std.specs.Prelude.{◌≡◌, ℕ, ◌<◌, ◌≤◌, ◌≢◌, true, false}
use Rattle.module_code.specs.declared.instr.PoolRef.TheVariants as pool
use Rattle.life_state.specs.States.{Homes, only_null, never_made, State}
use Rattle.life_state.specs.Form.{some_pool, FormedBrigade, FormedCursor, is_to_write}

-- homes name the request's pool, and pools with numbers below n
abbrev pub NamesBelow : ℕ → Homes → Type 0
NamesBelow n h = (h.at pool.Conn ≡ false) × ((q : ℕ) → h.at (pool.Own q) ≡ true → q < n)

abbrev pub FormedPool : State → ℕ → Type 0
FormedPool s q = (some_pool (s.pools q) ≡ true) × (s.pool_count ≤ q → s.pools q ≡ only_null)

abbrev pub FormedPlace : State → ℕ → Type 0
FormedPlace s b = FormedBrigade (s.brigades b) × (NamesBelow s.pool_count (s.brigades b).homes × (s.brigade_count ≤ b → b ≢ 8 → s.brigades b ≡ never_made))

abbrev pub FormedFact : State → ℕ → ℕ → Type 0
FormedFact s c d = (s.facts c d ≡ true → is_to_write s c d ≡ true) × (s.facts c d ≡ s.facts d c)

abbrev pub FormedAt : State → ℕ → Type 0
FormedAt s k = FormedPlace s k × (FormedCursor s (s.cursors k) × ((d : ℕ) → FormedFact s k d))
