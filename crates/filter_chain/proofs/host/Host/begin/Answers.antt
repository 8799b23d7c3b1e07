-- By the connection of the number, as it was found and as it is put back.
use Rattle.run_model.specs.declared.event.Event.TheVariants as event
use Rattle.module_run.specs.Happened.{lasted, refusal_of}
use Rattle.filter_chain.specs.Hosted.{conn_at}
use Rattle.filter_chain.specs.Hosting.{chain_of, budget_of, done_answer}
use Rattle.filter_chain.proofs.HostEvents.{lent, none_found, served, stands}
use Rattle.filter_chain.proofs.KnownEvents.{begins_serves}
use Rattle.filter_chain.proofs.Lent.{lent_by, nothing_at}
use Rattle.filter_chain.proofs.host.Host.begin.Goals as goal

pub begin-requires : goal.begin-requires
unfolding conn_at chain_of
begin-requires g c =
    let so = stands g.F.Files.device c.args.self.now c.args.number
    (lent_by c.get_mut.follows.lender c.in-Some.is c.get_mut.ensures.value (λ x there. ((c.get_mut.follows.holds x).3 there).0)) c.requires _ c.as_slice.ensures.value in
    record { stands = (_, so) }

pub returns-in-None-clause-event : goal.returns-in-None-clause-event
unfolding conn_at
returns-in-None-clause-event g c =
    none_found g.F.Files.device c.args.self.now c.args.number _ c.get_mut.follows.holds-at-none (nothing_at c.in-None.is c.get_mut.ensures.value) event.Begin tt

pub returns-in-Some-clause-event : goal.returns-in-Some-clause-event
unfolding conn_at chain_of budget_of
returns-in-Some-clause-event g c w hosts =
    let new = c.begin.new in
    let same = c.as_slice.ensures.value in
    served g.F.Files.device c.args.self.now c.args.number
    (lent_by c.get_mut.follows.lender c.in-Some.is c.get_mut.ensures.value (λ x there. ((c.get_mut.follows.holds x).3 there).0)) w hosts
    event.Begin (done_answer (refusal_of c.begin.result)) (record { conn = new.self; tree = new.tree; store = new.store; files = c.args.self.now.files }) c.begin.ensures.leaves
    (λ k s so given. begins_serves same s given (lasted c.begin.result) (c.begin.ensures.happened _ _ (lent same so)))
