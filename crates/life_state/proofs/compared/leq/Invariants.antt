-- The indices so far pass.
use Rattle.std.proofs.Common.{◌≡◌, ℕ, ◌<◌, true}
use Rattle.life_state.specs.Seen.{seen}
use Rattle.life_state.proofs.Indices.{below_at}
use Rattle.life_state.proofs.compared.leq.Given as goal

abbrev pub invariant-loop-k : goal.invariant-loop-k
invariant-loop-k l = (i : ℕ) → i < l.k → below_at (seen l.a) (seen l.b) i ≡ true
