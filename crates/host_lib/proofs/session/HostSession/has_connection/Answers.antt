use Rattle.host_lib.proofs.Shown.{is_there}
use Rattle.host_lib.proofs.session.HostSession.has_connection.Goals as goal

pub returns-in-Ok : goal.returns-in-Ok
returns-in-Ok c w stands = is_there (w.conns c.args.number) _ (c.in-Ok.ensures.lent w stands)

pub returns-in-Err : goal.returns-in-Err
returns-in-Err c w stands = is_there (w.conns c.args.number) _ (c.in-Err.ensures.missing w stands)
