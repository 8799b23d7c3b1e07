-- Part by part.
use Rattle.std.proofs.Common.{refl}
use Rattle.life_state.specs.States.{home_in}
use Rattle.life_state.proofs.Sets.{homes_are}
use Rattle.life_state.proofs.parts.HomeSet.in_pool.Goals as goal

pub returns : goal.returns
returns c = homes_are _ (home_in c.args.pool) refl refl c.of.ensures
