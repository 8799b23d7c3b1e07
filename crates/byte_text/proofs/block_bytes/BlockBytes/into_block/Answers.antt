-- The bytes begin where they did.
use Rattle.std.proofs.Common.{rules}
use Rattle.byte_text.proofs.block_bytes.BlockBytes.into_block.Goals as goal

pub returns : goal.returns
returns c = search rules
