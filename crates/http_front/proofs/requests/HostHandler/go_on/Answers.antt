use Rattle.http_front.specs.Apart.{none_made}
use Rattle.http_front.proofs.Beside.{beside_made, beside_same, err_both}
use Rattle.http_front.specs.Among.{Rests}
use Rattle.http_front.proofs.SliceLaws.{alive_after, gone_on_host}
use Rattle.http_front.proofs.requests.HostHandler.go_on.Goals as goal

pub returns-clause-ok : goal.returns-clause-ok
returns-clause-ok g c = gone_on_host g.F.Files.device c.args.number c.go_on_request.result c.args.self.now c.go_on_request.new.host c.args.task c.go_on_request.ensures.leads

pub returns-clause-err : goal.returns-clause-err
returns-clause-err g c = err_both c.go_on_request.result _ _ c.go_on_request.ensures.err (c.go_on_request.ensures.lacks c.args.self.now (beside_same g.F.Files.device c.args.number c.args.self.now))

pub returns-clause-few : goal.returns-clause-few
returns-clause-few g c = c.go_on_request.ensures.few c.args.self.now 0 (none_made g.F.Files.device c.args.number c.args.self.now 0)

pub returns-clause-open : goal.returns-clause-open
returns-clause-open g c =
    alive_after g.F.Files.device c.args.number c.args.self.now c.go_on_request.new.host (λ way b h. Rests way b h c.args.number c.args.task)
    c.go_on_request.result c.requires c.go_on_request.ensures.leads

pub returns-clause-beside : goal.returns-clause-beside
returns-clause-beside g c from so = beside_made g.F.Files.device c.args.number from c.args.self.now c.go_on_request.new.host so _ c.go_on_request.ensures.few
