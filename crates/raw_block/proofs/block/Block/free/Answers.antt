use Rattle.std.proofs.Common.{ap, ◌∙◌, None, replicate}
use Rattle.raw_block.specs.Blocks.{at}
use Rattle.raw_block.proofs.Blocks.{all_none}
use Rattle.raw_block.proofs.block.Block.free.Goals as goal

pub deallocate-requires : goal.deallocate-requires
unfolding at
deallocate-requires g c =
    let b = c.args.self in
    (b.whole.0, all_none b.cells.places c.requires ∙ ap (λ n. replicate n None) b.places.0, b.whole.1, b.whole.2, b.whole.3)
