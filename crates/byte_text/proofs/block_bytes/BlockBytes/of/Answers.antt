-- The bytes are those of the block from that place on.
use Rattle.std.proofs.Common.{rules}
use Rattle.byte_text.proofs.block_bytes.BlockBytes.of.Goals as goal

pub returns : goal.returns
returns c = search rules
