use Rattle.model_laws.proofs.BucketExamples.{rows, cursor_runs}
use Rattle.model_laws.proofs.laws.worked_buckets.Goals as goal

pub returns-clause-cursors : goal.returns-clause-cursors
returns-clause-cursors c = rows.cursor_rows

pub returns-clause-moves : goal.returns-clause-moves
returns-clause-moves c = rows.moving_rows

pub returns-clause-makers : goal.returns-clause-makers
returns-clause-makers c = rows.maker_rows

pub returns-clause-cuts : goal.returns-clause-cuts
returns-clause-cuts c = rows.cut_rows

pub returns-clause-brigade_cuts : goal.returns-clause-brigade_cuts
returns-clause-brigade_cuts c = rows.brigade_cut_rows

pub returns-clause-faults : goal.returns-clause-faults
returns-clause-faults c = rows.cursor_faults

pub returns-clause-first_faults : goal.returns-clause-first_faults
returns-clause-first_faults c = rows.first_faults

pub returns-clause-runs : goal.returns-clause-runs
returns-clause-runs c = cursor_runs
