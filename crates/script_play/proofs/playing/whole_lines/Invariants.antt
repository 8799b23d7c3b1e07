use Rattle.std.proofs.Common.{◌≢◌, ℕ, ◌<◌, ◌≤◌, length, get_or}
use Rattle.script_play.proofs.playing.whole_lines.Given as goal

-- no byte from here on is an LF
abbrev pub invariant-loop-len : goal.invariant-loop-len
invariant-loop-len l = (l.len ≤ length l.bytes) × ((k : ℕ) → l.len ≤ k → k < length l.bytes → get_or l.bytes k 0 ≢ 10)

abbrev pub decreases-loop-len : goal.decreases-loop-len
decreases-loop-len l = l.len
