-- Part by part.
use Rattle.std.proofs.Common.{refl, ap, ◌||◌}
use Rattle.life_state.specs.States.{dead_where}
use Rattle.life_state.specs.Seen.{seen_homes, seen_pools}
use Rattle.life_state.proofs.Sets.{homes_are}
use Rattle.life_state.proofs.parts.HomeSet.dead_where.Goals as goal

pub returns : goal.returns
returns c = homes_are _ (dead_where (seen_pools c.args.gone.now) (seen_homes c.args.self.now)) refl (ap (λ b. c.args.self.now.dead || b) c.meets.ensures) c.without.ensures
