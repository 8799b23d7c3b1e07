-- Nothing of the block is told.
use Rattle.std.proofs.Common.{rules}
use Rattle.interp_calls.proofs.output_block.OutputBlock.over.Goals as goal

pub returns : goal.returns
returns c = search rules
