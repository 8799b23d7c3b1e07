-- The copy is of the part alone.
use Rattle.std.proofs.Common.{rules}
use Rattle.bucket_kinds.proofs.placing.heap_copy.Goals as goal

pub returns : goal.returns
returns c = search rules
