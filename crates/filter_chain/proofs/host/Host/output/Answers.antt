-- By the connection of the number.
use Rattle.std.proofs.Common.{sym, ◌∙◌, ap}
use Rattle.std.specs.Option.{option_copied}
use Rattle.filter_chain.proofs.HostTells.{output_on, output_missing}
use Rattle.filter_chain.proofs.host.Host.output.Goals as goal

pub returns-in-None-clause-missing : goal.returns-in-None-clause-missing
returns-in-None-clause-missing g c w hosts =
    output_missing (g.F.Files.device c.args.self.now.files) c.args.self.now c.args.number w hosts (sym c.get.ensures ∙ ap option_copied c.in-None.is)

pub returns-in-Some-clause-lent : goal.returns-in-Some-clause-lent
returns-in-Some-clause-lent g c w hosts =
    output_on (g.F.Files.device c.args.self.now.files) c.args.self.now c.args.number w hosts c.in-Some.conn.now c.output.result.now (sym c.get.ensures ∙ ap option_copied c.in-Some.is) c.output.ensures
