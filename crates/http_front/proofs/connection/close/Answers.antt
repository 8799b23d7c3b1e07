use Rattle.http_front.proofs.ConnectLaws.{closed, kept}
use Rattle.http_front.proofs.connection.close.Goals as goal
use Rattle.http_front.proofs.connection.close.Goals.{in-Ok, in-Err}

pub returns : goal.returns
returns g c =
    elim c.match-close.branch [
      | in-Ok v ↦ closed g.F.Files.device c.args.number c.args.host.now c.close.new.self c.match-close.result _ v.result-is v.in-Ok.ensures.event
      | in-Err v ↦ kept g.F.Files.device c.args.number c.args.host.now c.close.new.self c.match-close.result _ v.result-is c.requires v.in-Err.ensures.event
    ]

pub close-requires : goal.close-requires
close-requires g c = (c.requires.0, c.requires.1)
