use Rattle.http_front.proofs.Beside.{beside_same, err_both}
use Rattle.http_front.proofs.requests.HostHandler.handle.Goals as goal

pub returns-clause-err : goal.returns-clause-err
returns-clause-err g c = err_both c.handle_request.result _ _ c.handle_request.ensures.err (c.handle_request.ensures.lacks c.args.self.now (beside_same g.F.Files.device c.args.number c.args.self.now))
