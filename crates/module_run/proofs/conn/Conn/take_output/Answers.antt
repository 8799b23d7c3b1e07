-- The rest stays.
use Rattle.module_run.proofs.Alongside.{stacked_beside}
use Rattle.module_run.proofs.conn.Conn.take_output.Goals as goal

pub returns-clause-stacked : goal.returns-clause-stacked
returns-clause-stacked c chain at rings pools next stacked =
    stacked_beside chain at rings pools next c.args.self.now c.args.self.now.labels c.args.self.now.conn c.args.self.now.req c.args.self.now.files _ c.args.self.now.ended c.args.self.now.count
    c.args.self.now.broken stacked
