-- So many rounds were made.
use Rattle.std.proofs.Common.{◌≡◌}
use Rattle.life_cert.specs.Rounds.{begun, rounds}
use Rattle.life_cert.specs.Fitting.{IsOf}
use Rattle.life_cert.specs.SeenGrowth.{seen_growth}
use Rattle.life_cert.proofs.maker.least_fixpoint.Given as goal

abbrev pub invariant-loop : goal.invariant-loop
invariant-loop l = record {
  so_far : seen_growth l.fixpoint ≡ rounds l.counter l.code (begun l.code);
  growing : IsOf l.code (seen_growth l.fixpoint);
}
