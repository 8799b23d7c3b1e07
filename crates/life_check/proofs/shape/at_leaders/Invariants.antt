-- Each state so far stands at a head.
use Rattle.std.proofs.Common.{◌≡◌, ℕ, ◌<◌, ◌||◌, not, true, is_some}
use Rattle.life_check.specs.Seen.{seen_cert}
use Rattle.life_check.specs.Slim.{is_leader}
use Rattle.life_check.proofs.shape.at_leaders.Given as goal

abbrev pub invariant-loop-pc : goal.invariant-loop-pc
invariant-loop-pc l = (k : ℕ) → k < l.pc → (is_leader l.code k || not (is_some ((seen_cert l.cert).at k))) ≡ true
