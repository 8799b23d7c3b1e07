-- The next one.
use Rattle.std.proofs.Common.{rules}
use Rattle.interp_state.proofs.led_to.led_to.Goals as goal

pub returns-in-GoOn : goal.returns-in-GoOn
returns-in-GoOn c = search rules
