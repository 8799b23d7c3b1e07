-- By the connection of the number, as it was found and as it is put back.
use Rattle.run_model.specs.declared.event.Event.TheVariants as event
use Rattle.filter_chain.specs.Hosted.{conn_at}
use Rattle.filter_chain.proofs.HostEvents.{none_found}
use Rattle.filter_chain.proofs.HostTells.{output_on, taken_on}
use Rattle.filter_chain.proofs.Lent.{found_at, lent_by, nothing_at}
use Rattle.filter_chain.proofs.host.Host.take_output.Goals as goal

pub returns-in-None-clause-event : goal.returns-in-None-clause-event
unfolding conn_at
returns-in-None-clause-event g c =
    none_found g.F.Files.device c.args.self.now c.args.number _ c.get_mut.follows.holds-at-none (nothing_at c.in-None.is c.get_mut.ensures.value) event.TakeOutput tt

pub returns-in-Some-clause-event : goal.returns-in-Some-clause-event
unfolding conn_at
returns-in-Some-clause-event g c w hosts =
    let host = c.args.self.now in
    let out = c.take_output.ensures in
    taken_on g.F.Files.device host c.args.number
    (lent_by c.get_mut.follows.lender c.in-Some.is c.get_mut.ensures.value (λ x there. ((c.get_mut.follows.holds x).3 there).0)) c.take_output.new.self
    (record { shows = out.taken; stacked = out.stacked; filters = out.filters }) w hosts c.take_output.result
    (output_on (g.F.Files.device host.files) host c.args.number w hosts c.in-Some.conn.now c.take_output.result (found_at c.in-Some.is c.get_mut.ensures.value) out.bytes)
