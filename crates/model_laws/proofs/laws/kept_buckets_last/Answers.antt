use Rattle.model_laws.proofs.Kept.{aside_lasts, reads_drop_nothing, files_close_last}
use Rattle.model_laws.proofs.laws.kept_buckets_last.Goals as goal

pub returns-clause-aside : goal.returns-clause-aside
returns-clause-aside c = aside_lasts

pub returns-clause-rest : goal.returns-clause-rest
returns-clause-rest c = reads_drop_nothing

pub returns-clause-files : goal.returns-clause-files
returns-clause-files c = files_close_last
