use Rattle.script_play.proofs.TextOnce.{only_written}
use Rattle.script_play.proofs.playing.run_play.Goals as goal

pub returns-clause-only : goal.returns-clause-only
returns-clause-only g c = only_written c.play_over.result _ _ _ c.play_over.ensures.ok
