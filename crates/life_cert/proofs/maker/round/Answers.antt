-- One arrival after the other.
use Rattle.std.proofs.Common.{sym, subst, arith}
use Rattle.life_cert.specs.Fitting.{IsOf}
use Rattle.life_cert.proofs.Arriving.{merge_keeps, fit_at, inside_at, pools_at, brigades_at, arrived_more, arrived_all}
use Rattle.life_cert.proofs.maker.round.Goals as goal

pub merge-requires-clause-inside : goal.merge-requires-clause-inside
merge-requires-clause-inside c = inside_at c.args.code.now c.loop-arrival.fixpoint _ _ _ c.loop-arrival.invariant.growing c.loop-arrival.invariant.fit c.loop-arrival-test.true

pub merge-requires-clause-pools : goal.merge-requires-clause-pools
merge-requires-clause-pools c = pools_at c.args.code.now c.loop-arrival.fixpoint _ _ _ c.loop-arrival.invariant.growing c.loop-arrival.invariant.fit c.loop-arrival-test.true

pub merge-requires-clause-brigades : goal.merge-requires-clause-brigades
merge-requires-clause-brigades c = brigades_at c.args.code.now c.loop-arrival.fixpoint _ _ _ c.loop-arrival.invariant.growing c.loop-arrival.invariant.fit c.loop-arrival-test.true

pub returns-clause-round : goal.returns-clause-round
returns-clause-round c = arrived_all _ c.loop-arrival.arrival-index _ _ (omega arith) c.loop-arrival.invariant.left

pub loop-arrival-preserved : goal.loop-arrival-preserved
loop-arrival-preserved c =
    let more = c.in_ok-merge.ensures in
    record {
      left = arrived_more _ _ _ _ _ _ c.loop-arrival-test.true c.loop-arrival.invariant.left more;
      growing = subst (IsOf c.args.code.now) (sym more) (merge_keeps _ _ _ c.loop-arrival.invariant.growing (fit_at _ _ _ _ c.loop-arrival.invariant.fit c.loop-arrival-test.true));
      fit = c.loop-arrival.invariant.fit;
    }
