use Rattle.model_laws.proofs.chains.TurnsSound.{rising_sound}
use Rattle.model_laws.proofs.chains.WorldKept.{event_keeps_world, run_keeps_world}
use Rattle.model_laws.proofs.laws.worlds_are_sound.Goals as goal

pub returns-clause-rising : goal.returns-clause-rising
returns-clause-rising c = rising_sound

pub returns-clause-event : goal.returns-clause-event
returns-clause-event c = event_keeps_world

pub returns-clause-run : goal.returns-clause-run
returns-clause-run c = run_keeps_world
