-- By the connection of the number, as it was found and as it is put back.
use Rattle.std.proofs.Common.{◌≡◌, Some, None, refl, sym, ◌∙◌, ap}
use Rattle.std.specs.Global.{Vec}
use Rattle.run_model.specs.declared.event.Event.TheVariants as event
use Rattle.run_model.specs.declared.event.Refusal.TheVariants as refusal
use Rattle.run_model.specs.Worlds.{Refused}
use Rattle.module_run.specs.declared.conn.Conn.{Conn}
use Rattle.module_run.specs.Conns.{labels_handed}
use Rattle.filter_chain.specs.Hosted.{conn_at}
use Rattle.filter_chain.specs.Hosting.{chain_of, budget_of}
use Rattle.filter_chain.proofs.HostCloses.{close_serves, closed_on, taken_is}
use Rattle.filter_chain.proofs.HostEvents.{none_found, served, stands}
use Rattle.filter_chain.proofs.KnownEvents.{closed_spares}
use Rattle.filter_chain.proofs.Lent.{IsLent, lent_by, nothing_at}
use Rattle.interp_exec.specs.declared.labels_run.LabelsRun.{LabelsRun}
use Rattle.filter_chain.proofs.host.Host.close.Goals as goal

pub close-requires : goal.close-requires
unfolding conn_at chain_of
close-requires g c =
    let so = stands g.F.Files.device c.args.self.now c.args.number
    (lent_by c.get_mut.follows.lender c.in-Some.is c.get_mut.ensures.value (λ x there. ((c.get_mut.follows.holds x).3 there).0)) c.requires _ refl in
    record { stands = (_, so) }

pub returns-in_default : goal.returns-in_default
unfolding conn_at
returns-in_default g c =
    let none = none_found g.F.Files.device c.args.self.now c.args.number _ c.get_mut.follows.holds-at-none (nothing_at c.in_default.is c.get_mut.ensures.value) event.Close tt in
    record { event = none; bare = refl }

pub returns-in_default-close : goal.returns-in_default-close
unfolding conn_at chain_of budget_of
returns-in_default-close g c = record {
  event = λ w hosts.
      let new = c.close.new in
      let out = c.close.ensures in
      let not = c.in_default-close.ensures in
      served g.F.Files.device c.args.self.now c.args.number
      (lent_by c.get_mut.follows.lender c.in-Some.is c.get_mut.ensures.value (λ x there. ((c.get_mut.follows.holds x).3 there).0)) w hosts event.Close (Refused refusal.NoMemory)
      (record { conn = new.self; tree = new.tree; store = new.store; files = new.files }) out.leaves
      (λ k s so given. close_serves s given (not.err (chain_of c.args.self.now) _ so.left) (closed_spares so out.others out.unreferred) not.unread);
  bare = refl;
}

pub unreachable-requires : goal.unreachable-requires
unfolding conn_at
unreachable-requires g c =
    let is = taken_is c.args.self.now c.args.number
    (lent_by c.get_mut.follows.lender c.in-Some.is c.get_mut.ensures.value (λ x there. ((c.get_mut.follows.holds x).3 there).0)) c.close.new.self c.take.ensures.value in
    absurd (let both : Some c.close.new.self ≡ None = sym is ∙ c.in-None.is in cc)

pub returns : goal.returns
unfolding conn_at chain_of budget_of
returns g c = record {
  event = λ w hosts.
      let host = c.args.self.now in
      let new = c.close.new in
      let out = c.close.ensures in
      let ok = c.in-Ok.ensures in
      let here : IsLent host.conns c.args.number c.in-Some.conn.now _ =
      lent_by c.get_mut.follows.lender c.in-Some.is c.get_mut.ensures.value (λ x there. ((c.get_mut.follows.holds x).3 there).0) in
      let taken : Some c.in-Some-take.conn ≡ Some new.self = sym c.in-Some-take.is ∙ taken_is host c.args.number here new.self c.take.ensures.value in
      let same : c.in-Some-take.conn ≡ new.self = cc in
      closed_on host c.args.number here new.self (g.F.Files.device host.files) (g.F.Files.device new.files) w hosts c.take.new.self c.take.ensures.rest
      (record host { conns = c.take.new.self; tree = new.tree; store = new.store; files = new.files }) refl (labels_handed c.into_labels.result.items)
      (λ v so. ap (λ (x : Vec LabelsRun). labels_handed x.items) c.into_labels.ensures ∙ ap (λ (x : Conn). labels_handed x.labels.items) same ∙ ok.labels (chain_of host) v so)
      (λ k so. closed_spares so out.others out.unreferred)
      (record {
        pools = ok.pools;
        next = out.next;
        house = out.house;
        references = out.references;
        none = λ _. ok.none;
        leaves = out.leaves;
        closed = ok.closed;
        others = out.others;
      });
  bare = refl;
}
