-- It comes last.
use Rattle.std.proofs.Common.{rules}
use Rattle.pool_tree.specs.Records.{record_of}
use Rattle.pool_tree.proofs.payloads.push.Goals as goal

pub returns-in-Pre-clause-items : goal.returns-in-Pre-clause-items
unfolding record_of
returns-in-Pre-clause-items g c = search rules

pub returns-in-Plain-clause-items : goal.returns-in-Plain-clause-items
unfolding record_of
returns-in-Plain-clause-items g c = search rules
