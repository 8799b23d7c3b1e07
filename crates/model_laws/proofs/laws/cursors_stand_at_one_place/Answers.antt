use Rattle.model_laws.proofs.CursorNames.{step_cursors}
use Rattle.model_laws.proofs.CursorPlaceLaws.{cursors_stand_once}
use Rattle.model_laws.proofs.laws.cursors_stand_at_one_place.Goals as goal

pub returns-clause-step : goal.returns-clause-step
returns-clause-step c = step_cursors

pub returns-clause-once : goal.returns-clause-once
returns-clause-once c = cursors_stand_once
