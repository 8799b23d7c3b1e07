use denote.RattleType.{RattleType}
use denote.Param.Send.{IsSend}
use Rattle.raw_block.proofs.Crosses.{Cells-send}
use Rattle.raw_block.specs.contracts.cells.Cells.{the_row}

pub send : (R : RattleType) → IsSend R → IsSend (the_row R)
send = Cells-send
