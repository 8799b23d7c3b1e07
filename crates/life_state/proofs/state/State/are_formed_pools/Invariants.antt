-- Those so far pass.
use Rattle.std.proofs.Common.{◌≡◌, ℕ, ◌<◌, true}
use Rattle.life_state.specs.InForm.{is_formed_pool}
use Rattle.life_state.specs.Seen.{seen}
use Rattle.life_state.proofs.state.State.are_formed_pools.Given as goal

abbrev pub invariant-loop-q : goal.invariant-loop-q
invariant-loop-q l = (k : ℕ) → k < l.q → is_formed_pool (seen l.self) k ≡ true
