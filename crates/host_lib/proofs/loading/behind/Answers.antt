use Rattle.std.proofs.Math.Seq.{drop-drop}
use Rattle.host_lib.proofs.loading.behind.Goals as goal

pub returns : goal.returns
returns c = let e = drop-drop c.args.each.certificate c.args.each.text c.args.rest.now in cc
