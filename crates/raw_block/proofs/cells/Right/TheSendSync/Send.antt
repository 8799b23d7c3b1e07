use denote.RattleType.{RattleType}
use denote.Param.Send.{IsSend, Frees}
use Rattle.core.specs.declared.alloc.Allocator.{Ghosts}
use Rattle.raw_block.proofs.Crosses.{Right-send}
use Rattle.raw_block.specs.contracts.cells.Right.{the_row}

pub send : (R A : RattleType) (g : Ghosts A.Denot) → IsSend A → Frees g g.dealloc_token → IsSend (the_row R A g)
send R A g s = Right-send R A g
