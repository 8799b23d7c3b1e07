-- By the connection of the number.
use Rattle.std.proofs.Common.{refl, sym, ◌∙◌, ap}
use Rattle.std.specs.Option.{option_copied}
use Rattle.run_model.specs.declared.event.Event.TheVariants as event
use Rattle.module_run.specs.Conns.{labels_handed}
use Rattle.filter_chain.specs.Hosting.{IsHosting}
use Rattle.filter_chain.proofs.HostEvents.{none_served}
use Rattle.filter_chain.proofs.HostTells.{labels_on}
use Rattle.filter_chain.proofs.host.Host.labels_run.Goals as goal

pub returns-in-None-clause-missing : goal.returns-in-None-clause-missing
unfolding IsHosting
returns-in-None-clause-missing g c w hosts =
    let host = c.args.self.now in
    none_served (g.F.Files.device host.files) host host c.args.number w hosts refl refl hosts (sym c.get.ensures ∙ ap option_copied c.in-None.is) event.TellLabels tt

pub returns-in-Some-clause-told : goal.returns-in-Some-clause-told
returns-in-Some-clause-told g c w hosts =
    let host = c.args.self.now in
    labels_on (g.F.Files.device host.files) host c.args.number w hosts c.in-Some.conn.now (labels_handed c.labels.result.now) (sym c.get.ensures ∙ ap option_copied c.in-Some.is) c.labels.ensures
