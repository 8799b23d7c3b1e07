-- None of the lines so far has the state.
use Rattle.std.proofs.Common.{◌≡◌, None}
use Rattle.std.specs.Prelude.{slice_get}
use Rattle.life_state.specs.Seen.{seen}
use Rattle.life_check.specs.Seen.{seen_line}
use Rattle.life_cert.specs.CertText.{first_with}
use Rattle.life_cert.proofs.repeats.first_with.Given as goal

abbrev pub invariant-loop-m : goal.invariant-loop-m
invariant-loop-m l = first_with (λ k. seen_line (slice_get l.at k)) l.m (seen l.state) ≡ None
