-- The pools, brigades and cursors so far are cleared.
use Rattle.std.proofs.Common.{◌≡◌, ℕ, ◌<◌, length}
use Rattle.life_state.specs.Rules.{cleared_pool, cleared_brigade, cleared_cursors}
use Rattle.life_state.specs.Seen.{seen, seen_pools, seen_pool_states, seen_brigades, seen_cursors}
use Rattle.life_state.proofs.state.State.cleared.Given as goal

abbrev pub invariant-loop-k : goal.invariant-loop-k
invariant-loop-k l = record {
  pools : length l.pools ≡ 8;
  brigades : length l.brigades ≡ 9;
  cursors : length l.cursors ≡ 9;
  pool : (i : ℕ) → i < l.k → seen_pool_states l.pools i ≡ cleared_pool (seen_pools l.under) l.top (seen l.self) i;
  brigade : (i : ℕ) → i < l.k → seen_brigades l.brigades i ≡ cleared_brigade l.code (seen_pools l.under) (seen l.self) i;
  cursor : (i : ℕ) → i < l.k → seen_cursors l.cursors i ≡ cleared_cursors l.code (seen_pools l.under) (seen l.self) i;
}
