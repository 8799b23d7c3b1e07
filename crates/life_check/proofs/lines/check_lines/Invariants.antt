-- No line so far refuses, and the state at hand is the one that is meant.
use Rattle.std.proofs.Common.{◌≡◌, ℕ, ◌<◌, None}
use Rattle.life_state.specs.Seen.{seen_some}
use Rattle.life_check.specs.Slim.{meant}
use Rattle.life_check.specs.Typed.{refusal_at}
use Rattle.life_check.proofs.lines.check_lines.Given as goal

abbrev pub invariant-loop-pc : goal.invariant-loop-pc
invariant-loop-pc l = record {
  none : (k : ℕ) → k < l.pc → refusal_at l.code (meant l.code l.cert) k ≡ None;
  here : seen_some l.here ≡ (meant l.code l.cert).at l.pc;
}
