-- The heads that the instructions so far make.
use Rattle.std.proofs.Common.{◌≡◌, ℕ, ◌<◌, false, slice_index_or}
use Rattle.life_check.proofs.Targets.{is_marked}
use Rattle.life_check.proofs.slim.leaders.Given as goal

abbrev pub invariant-loop-pc : goal.invariant-loop-pc
invariant-loop-pc l = (k : ℕ) → k < 1025 → slice_index_or l.leaders k false ≡ is_marked l.code l.pc k
