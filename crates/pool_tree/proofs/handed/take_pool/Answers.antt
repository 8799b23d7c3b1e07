use Rattle.pool_tree.specs.Records.{record_of}
use Rattle.pool_tree.proofs.Handing.{taken_out}
use Rattle.pool_tree.proofs.handed.take_pool.Goals as goal

pub returns-in-Some-clause-rest : goal.returns-in-Some-clause-rest
returns-in-Some-clause-rest g c = taken_out (record_of c.args.records.now) (record_of c.take.new.self) c.args.name c.take.ensures.rest

pub returns-in_default-clause-rest : goal.returns-in_default-clause-rest
returns-in_default-clause-rest g c = taken_out (record_of c.args.records.now) (record_of c.take.new.self) c.args.name c.take.ensures.rest
