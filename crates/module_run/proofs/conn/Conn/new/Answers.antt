-- A new connection has nothing yet but its filters and its pool.
use Rattle.std.proofs.Common.{rules}
use Rattle.module_run.proofs.conn.Conn.new.Goals as goal

pub returns : goal.returns
returns c = search rules
