-- What is not near is behind.
use Rattle.std.proofs.Common.{rules}
use Rattle.name_table.specs.NameTable.{near_in, value_in}
use Rattle.name_table.proofs.table.NameTable.get.Goals as goal

pub returns-in-None : goal.returns-in-None
unfolding near_in value_in
returns-in-None g c = search rules
