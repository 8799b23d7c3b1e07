-- The question is counted.
use Rattle.std.proofs.Common.{rules}
use Rattle.brigade_ops.proofs.store.Brigades.ring_of.Goals as goal

pub returns-clause-counted : goal.returns-clause-counted
returns-clause-counted g c = search rules
