use Rattle.model_laws.proofs.BucketReads.{read_keeps_bytes, step_read_gives_the_file}
use Rattle.model_laws.proofs.chains.Bodies.{reads_give_the_file, top_read_gives_the_file}
use Rattle.model_laws.proofs.laws.reads_drop_no_byte.Goals as goal

pub returns-clause-list : goal.returns-clause-list
returns-clause-list c = read_keeps_bytes

pub returns-clause-step : goal.returns-clause-step
returns-clause-step c = step_read_gives_the_file

pub returns-clause-top : goal.returns-clause-top
returns-clause-top c = top_read_gives_the_file

pub returns-clause-range : goal.returns-clause-range
returns-clause-range c = reads_give_the_file
