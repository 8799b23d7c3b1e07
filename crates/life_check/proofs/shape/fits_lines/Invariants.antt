-- Each line so far fits, and is in form.
use Rattle.std.proofs.Common.{◌≡◌, ℕ, ◌<◌, true, IfSome}
use Rattle.life_state.specs.Form.{IsFormed}
use Rattle.life_check.specs.Seen.{seen_cert}
use Rattle.life_check.specs.Typed.{fits_line}
use Rattle.life_check.proofs.shape.fits_lines.Given as goal

abbrev pub invariant-loop-pc : goal.invariant-loop-pc
invariant-loop-pc l = (k : ℕ) → k < l.pc → (fits_line l.code k ((seen_cert l.cert).at k) ≡ true) × IfSome ((seen_cert l.cert).at k) IsFormed
