-- Part by part.
use Rattle.std.proofs.Common.{refl}
use Rattle.life_state.specs.States.{homes_join}
use Rattle.life_state.specs.Seen.{seen_homes}
use Rattle.life_state.proofs.Sets.{homes_are}
use Rattle.life_state.proofs.parts.HomeSet.join.Goals as goal

pub returns : goal.returns
returns c = homes_are _ (homes_join (seen_homes c.args.self.now) (seen_homes c.args.other.now)) refl refl c.join.ensures
