use Rattle.std.proofs.Common.{◌≡◌, ◌+◌, ◌≤◌, ◌++◌, map, reverse, vec_len, vec_capacity}
use Rattle.pool_tree.proofs.handed.move_payloads.Given as goal

-- what was handed on, with what is still to be
abbrev pub invariant-loop-payload : goal.invariant-loop-payload
invariant-loop-payload g l = record {
  whole : l.ran.items ++ map (λ x. (l.name, x)) (reverse l.payloads.items) ≡ l.initial.ran.items ++ map (λ x. (l.name, x)) (reverse l.initial.payloads.items);
  fits : vec_len l.ran + vec_len l.payloads ≤ vec_capacity l.ran;
  room : vec_capacity l.initial.ran ≤ vec_capacity l.ran;
}

abbrev pub decreases-loop-payload : goal.decreases-loop-payload
decreases-loop-payload g l = vec_len l.payloads
