-- Laws of the order and the join.
use Rattle.std.specs.Prelude.{◌≡◌, ℕ, ◌<◌, true, false}
use Rattle.life_state.specs.States.{State}
use Rattle.life_state.specs.Facts.{known}
use Rattle.life_state.specs.Form.{IsFormed}
use Rattle.life_state.specs.Order.{pool_leq, brigade_leq, cursor_leq, same_variables, leq, join}

-- What the order says, part by part.
pub record Below (a b : State) : Type 0 where
  pub variables : same_variables a b ≡ true
  pub sent : a.sent ≡ true → b.sent ≡ true
  pub pools : (q : ℕ) → q < 8 → pool_leq (a.pools q) (b.pools q) ≡ true
  pub brigades : (v : ℕ) → v < 9 → brigade_leq (a.brigades v) (b.brigades v) ≡ true
  pub cursors : (c : ℕ) → c < 9 → cursor_leq (a.cursors c) (b.cursors c) ≡ true
  pub facts : (c d : ℕ) → c < 9 → d < 9 → b.facts c d ≡ true → known a c d ≡ true

abbrev pub LeqSays : Type 0
LeqSays = (a b : State) → leq a b ≡ true → Below a b

abbrev pub LeqHolds : Type 0
LeqHolds = (a b : State) → Below a b → leq a b ≡ true

-- A state without a fact of a cursor with itself is below itself.
abbrev pub LeqIsReflexive : Type 0
LeqIsReflexive = (s : State) → ((c : ℕ) → s.facts c c ≡ false) → leq s s ≡ true

abbrev pub LeqIsTransitive : Type 0
LeqIsTransitive = (a b c : State) → leq a b ≡ true → leq b c ≡ true → leq a c ≡ true

-- Two states in form, each below the other, are the same.
abbrev pub LeqIsAntisymmetric : Type 0
LeqIsAntisymmetric = (a b : State) → IsFormed a → IsFormed b → leq a b ≡ true → leq b a ≡ true → a ≡ b

-- Two states of the same variables are below their join.
abbrev pub JoinIsAbove : Type 0
JoinIsAbove = (a b : State) → same_variables a b ≡ true → (leq a (join a b) ≡ true) × (leq b (join a b) ≡ true)

-- The join of two states is below each state that is above both, where these states are in form.
abbrev pub JoinIsLeast : Type 0
JoinIsLeast = (a b u : State) → IsFormed a → IsFormed u → leq a u ≡ true → leq b u ≡ true → leq (join a b) u ≡ true
