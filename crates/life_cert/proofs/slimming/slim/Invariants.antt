-- The states so far are those of the slim form.
use Rattle.std.proofs.Common.{◌≡◌, ℕ, ◌<◌, length, slice_get}
use Rattle.life_check.specs.Seen.{seen_line}
use Rattle.life_check.specs.Slim.{slim_form}
use Rattle.life_cert.proofs.slimming.slim.Given as goal

abbrev pub invariant-loop-pc : goal.invariant-loop-pc
invariant-loop-pc l = (length l.at.items ≡ l.pc) × ((k : ℕ) → k < l.pc → seen_line (slice_get l.at.items k) ≡ (slim_form l.code l.cert).at k)
