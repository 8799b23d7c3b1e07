-- What is left still arrives.
use Rattle.std.proofs.Common.{◌≡◌, drop, All}
use Rattle.life_cert.specs.Rounds.{arrived, round}
use Rattle.life_cert.specs.Fitting.{IsFit, IsOf}
use Rattle.life_cert.specs.SeenGrowth.{seen_arrivals, seen_growth}
use Rattle.life_cert.proofs.maker.round.Given as goal

abbrev pub invariant-loop-arrival : goal.invariant-loop-arrival
invariant-loop-arrival l = record {
  left : arrived (drop l.arrival-index (seen_arrivals l.arrival-items)) (seen_growth l.fixpoint) ≡ round l.code (seen_growth l.fn.fixpoint);
  growing : IsOf l.code (seen_growth l.fixpoint);
  fit : All (IsFit l.code) (seen_arrivals l.arrival-items);
}
