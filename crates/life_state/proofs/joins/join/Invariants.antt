-- The pools and brigades so far are joined.
use Rattle.std.proofs.Common.{◌≡◌, ℕ, ◌<◌, length}
use Rattle.life_state.specs.Order.{joined_pools, joined_brigades}
use Rattle.life_state.specs.Seen.{seen, seen_pool_states, seen_brigades}
use Rattle.life_state.proofs.joins.join.Given as goal

abbrev pub invariant-loop-k : goal.invariant-loop-k
invariant-loop-k l = record {
  pools : length l.pools ≡ 8;
  brigades : length l.brigades ≡ 9;
  pool : (i : ℕ) → i < l.k → seen_pool_states l.pools i ≡ joined_pools (seen l.a) (seen l.b) i;
  brigade : (i : ℕ) → i < l.k → seen_brigades l.brigades i ≡ joined_brigades (seen l.a) (seen l.b) i;
}
