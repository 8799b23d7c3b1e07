-- What is left is still to be handed on.
use Rattle.std.proofs.Common.{◌≡◌, ◌++◌, drop, All}
use Rattle.life_check.specs.Seen.{seen_cert}
use Rattle.life_cert.specs.Rounds.{handed_on}
use Rattle.life_cert.specs.Fitting.{IsFit}
use Rattle.life_cert.specs.SeenGrowth.{seen_arrivals}
use Rattle.life_cert.proofs.handing.handed_on.Given as goal

abbrev pub invariant-loop-place : goal.invariant-loop-place
invariant-loop-place l = record {
  left : seen_arrivals l.arrivals.items ++ handed_on l.code (seen_cert l.fixpoint.cert) (drop l.place-index l.fixpoint.changed.items) ≡ handed_on l.code (seen_cert l.fixpoint.cert) l.fixpoint.changed.items;
  fit : All (IsFit l.code) (seen_arrivals l.arrivals.items);
}
