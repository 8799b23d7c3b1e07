-- Those so far are in form, and pass.
use Rattle.std.proofs.Common.{◌≡◌, ℕ, ◌<◌, true}
use Rattle.life_state.specs.FormTests.{FormedAt}
use Rattle.life_state.specs.InForm.{is_formed_at}
use Rattle.life_state.specs.Seen.{seen}
use Rattle.life_state.proofs.state.State.are_formed_places.Given as goal

abbrev pub invariant-loop-k : goal.invariant-loop-k
invariant-loop-k l = (i : ℕ) → i < l.k → FormedAt (seen l.self) i × (is_formed_at (seen l.self) i ≡ true)
