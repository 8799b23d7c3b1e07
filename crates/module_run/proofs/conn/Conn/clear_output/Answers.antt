-- By the calls, which know nothing of the output.
use Rattle.module_run.proofs.Alongside.{stacked_beside}
use Rattle.module_run.proofs.conn.Conn.clear_output.Goals as goal

pub returns-clause-stacked : goal.returns-clause-stacked
returns-clause-stacked c chain at rings pools next stacked =
    let s = c.args.self.now in
    stacked_beside chain at rings pools next s s.labels s.conn s.req s.files c.clear.new.self s.ended s.count s.broken stacked
