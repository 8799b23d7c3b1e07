use Rattle.model_laws.proofs.chains.Cursors.{cursors_in_runs, sound_world_stands_once, run_world_stands_once}
use Rattle.model_laws.proofs.laws.cursors_of_chains_stand_once.Goals as goal

pub returns-clause-given : goal.returns-clause-given
returns-clause-given c = cursors_in_runs

pub returns-clause-sound : goal.returns-clause-sound
returns-clause-sound c = sound_world_stands_once

pub returns-clause-run : goal.returns-clause-run
returns-clause-run c = run_world_stands_once
