-- The states that are kept are those of the slim form, and it is accepted.
use Rattle.std.proofs.Common.{◌≡◌, length, refl, arith}
use Rattle.life_check.proofs.SlimForms.{slim_accepts}
use Rattle.life_cert.proofs.SlimLists.{slim_is}
use Rattle.life_cert.proofs.slimming.slim.Goals as goal

pub returns-clause-states : goal.returns-clause-states
returns-clause-states c =
    let long : length c.loop-pc.at.items ≡ length c.args.cert.now.at.items = omega (arith, c.loop-pc.invariant.0) in
    slim_is c.args.code.now c.args.cert.now c.loop-pc.at.items long (λ k low. c.loop-pc.invariant.1 k (omega (arith, low, c.loop-pc.invariant.0)))

pub returns-clause-accepted : goal.returns-clause-accepted
returns-clause-accepted c = λ formed a. slim_accepts c.args.code.now c.args.cert.now _ c.len-count.ensures.sound formed refl refl (returns-clause-states c) a
