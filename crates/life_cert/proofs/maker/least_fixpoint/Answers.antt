-- One round after the other.
use Rattle.std.proofs.Common.{◌≡◌, ◌≤◌, sym, subst, arith, length, vec_len, eqb-true}
use Rattle.std.proofs.lemmas.List.{nil_from_length}
use Rattle.life_cert.specs.Rounds.{rounds, enough}
use Rattle.life_cert.specs.Fitting.{IsOf}
use Rattle.life_cert.specs.SeenGrowth.{seen_growth}
use Rattle.life_cert.proofs.Arriving.{begun_fits}
use Rattle.life_cert.proofs.Settled.{made_after, made_at_last, one_more}
use Rattle.life_cert.proofs.maker.least_fixpoint.Goals as goal
use Rattle.life_cert.proofs.maker.least_fixpoint.Goals.{else-loop-test, then-loop-test+then-is_empty}

pub loop-init : goal.loop-init
unfolding rounds
loop-init c = record {
  so_far = c.in_ok-fixpoint.ensures.begun;
  growing = subst (IsOf c.args.code.now) (sym c.in_ok-fixpoint.ensures.begun) (begun_fits c.args.code.now c.in_ok-fixpoint.ensures.few c.in_ok-fixpoint.ensures.some);
}

pub loop-preserved : goal.loop-preserved
loop-preserved c = record {
  so_far = one_more _ _ _ _ c.loop.invariant.so_far c.in_ok-round.ensures.round;
  growing = c.in_ok-round.ensures.growing;
}

pub returns-clause-made : goal.returns-clause-made
returns-clause-made c =
    let p = c.args.code.now in
    elim c.loop-test.branch [
      | else-loop-test w ↦ (let last : c.loop.counter ≡ enough p = omega arith in made_at_last p (seen_growth c.loop.fixpoint) c.loop.counter c.loop.invariant.so_far last)
      | then-loop-test+then-is_empty w ↦ (let below : c.loop.counter ≤ enough p = omega arith in
          let zero : vec_len c.loop.fixpoint.changed ≡ 0 = eqb-true (vec_len c.loop.fixpoint.changed) 0 (sym w.if-is_empty.ensures) in
          let none : length c.loop.fixpoint.changed.items ≡ 0 = omega arith in
          made_after p (seen_growth c.loop.fixpoint) c.loop.counter c.loop.invariant.so_far below (nil_from_length c.loop.fixpoint.changed.items none))
    ]
