use Rattle.std.proofs.Common.{◌≡◌, ℕ, ◌+◌, ◌≤◌, ◌++◌, length, reverse, vec_len, vec_capacity}
use Rattle.std.specs.List.{flat_map}
use Rattle.pool_tree.specs.Records.{record_of}
use Rattle.pool_tree.specs.Handed.{own_of, IsOnce, seen_of, after_turns}
use Rattle.pool_tree.proofs.handed.take_turns.Given as goal

-- what was handed on, with what is still to be; and what is left of the pools when all turns are over
abbrev pub invariant-loop-turn : goal.invariant-loop-turn
invariant-loop-turn g l = record {
  whole : l.ran.items ++ flat_map (own_of (record_of l.records)) (reverse l.turns.items) ≡ l.initial.ran.items ++ flat_map (own_of (record_of l.initial.records)) (reverse l.initial.turns.items);
  rest : (n : ℕ) → after_turns (reverse l.turns.items) n (seen_of (record_of l.records) n) ≡ after_turns (reverse l.initial.turns.items) n (seen_of (record_of l.initial.records) n);
  once : IsOnce (reverse l.turns.items);
  fits : vec_len l.ran + length (flat_map (own_of (record_of l.records)) (reverse l.turns.items)) ≤ vec_capacity l.ran;
  room : vec_capacity l.initial.ran ≤ vec_capacity l.ran;
}

abbrev pub decreases-loop-turn : goal.decreases-loop-turn
decreases-loop-turn g l = vec_len l.turns
