use Rattle.model_laws.proofs.chains.ReadHomes.{run_keeps_reads, reads_pass_the_test}
use Rattle.model_laws.proofs.laws.homes_of_reads_last.Goals as goal

pub returns-clause-homes : goal.returns-clause-homes
returns-clause-homes c = run_keeps_reads

pub returns-clause-test : goal.returns-clause-test
returns-clause-test c = reads_pass_the_test
