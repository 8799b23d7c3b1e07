-- They are those that it keeps.
use Rattle.std.proofs.Common.{rules}
use Rattle.module_run.specs.Conns.{conn_of}
use Rattle.module_run.proofs.conn.Conn.labels.Goals as goal

pub returns : goal.returns
unfolding conn_of
returns c ps rings opened = search rules
