-- By the connection of the number, as it was found and as it is put back.
use Rattle.std.proofs.Common.{refl}
use Rattle.run_model.specs.declared.event.Event.TheVariants as event
use Rattle.module_run.specs.Happened.{refusal_of}
use Rattle.filter_chain.specs.Hosted.{conn_at}
use Rattle.filter_chain.specs.Hosting.{chain_of, budget_of, done_answer}
use Rattle.filter_chain.proofs.HostEvents.{none_found, served, stands}
use Rattle.filter_chain.proofs.KnownEvents.{ended_serves}
use Rattle.filter_chain.proofs.Lent.{lent_by, nothing_at}
use Rattle.filter_chain.proofs.host.Host.end_request.Goals as goal

pub end_request-requires : goal.end_request-requires
unfolding conn_at chain_of
end_request-requires g c =
    let so = stands g.F.Files.device c.args.self.now c.args.number
    (lent_by c.get_mut.follows.lender c.in-Some.is c.get_mut.ensures.value (λ x there. ((c.get_mut.follows.holds x).3 there).0)) c.requires _ refl in
    record { stands = (_, so) }

pub returns-in-None : goal.returns-in-None
unfolding conn_at
returns-in-None g c =
    let none = none_found g.F.Files.device c.args.self.now c.args.number _ c.get_mut.follows.holds-at-none (nothing_at c.in-None.is c.get_mut.ensures.value) event.End tt in
    record { event = none; bare = refl }

pub returns-in-Some : goal.returns-in-Some
unfolding conn_at chain_of budget_of
returns-in-Some g c = record {
  event = λ w hosts.
      let new = c.end_request.new in
      let out = c.end_request.ensures in
      served g.F.Files.device c.args.self.now c.args.number
      (lent_by c.get_mut.follows.lender c.in-Some.is c.get_mut.ensures.value (λ x there. ((c.get_mut.follows.holds x).3 there).0)) w hosts event.End (done_answer (refusal_of c.end_request.result))
      (record { conn = new.self; tree = new.tree; store = new.store; files = new.files }) out.leaves
      (λ k s so given. ended_serves s so given c.end_request.result (out.ends (chain_of c.args.self.now) _ so) out.closed out.unread out.others out.unreferred);
  bare = refl;
}
