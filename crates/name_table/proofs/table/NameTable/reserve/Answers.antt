-- The table behind makes the room.
use Rattle.std.proofs.Common.{rules}
use Rattle.name_table.proofs.table.NameTable.reserve.Goals as goal

pub returns-clause-room : goal.returns-clause-room
returns-clause-room g c = search rules
