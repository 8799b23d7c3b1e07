-- By the connection of the number, as it was found and as it is put back.
use Rattle.std.proofs.Common.{refl}
use Rattle.run_model.specs.declared.event.Event.TheVariants as event
use Rattle.filter_chain.specs.Hosted.{conn_at}
use Rattle.filter_chain.specs.Hosting.{chain_of, budget_of, file_answer}
use Rattle.filter_chain.proofs.HostEvents.{none_found, served, stands}
use Rattle.filter_chain.proofs.HostFiles.{opens_serves}
use Rattle.filter_chain.proofs.Lent.{lent_by, nothing_at}
use Rattle.filter_chain.proofs.host.Host.open_file.Goals as goal

pub open_file-requires : goal.open_file-requires
unfolding conn_at chain_of
open_file-requires g c =
    let so = stands g.F.Files.device c.args.self.now c.args.number
    (lent_by c.get_mut.follows.lender c.in-Some.is c.get_mut.ensures.value (λ x there. ((c.get_mut.follows.holds x).3 there).0)) c.requires _ refl in
    record { stands = (_, so) }

pub returns-in-None : goal.returns-in-None
unfolding conn_at
returns-in-None g c =
    let none = none_found g.F.Files.device c.args.self.now c.args.number _ c.get_mut.follows.holds-at-none (nothing_at c.in-None.is c.get_mut.ensures.value) (event.OpenFile c.args.name.now) tt in
    record { event = none; bare = refl }

pub returns-in-Some : goal.returns-in-Some
unfolding conn_at chain_of budget_of
returns-in-Some g c = record {
  event = λ w hosts.
      let new = c.open_file.new in
      served g.F.Files.device c.args.self.now c.args.number
      (lent_by c.get_mut.follows.lender c.in-Some.is c.get_mut.ensures.value (λ x there. ((c.get_mut.follows.holds x).3 there).0)) w hosts (event.OpenFile c.args.name.now)
      (file_answer c.open_file.result)
      (record { conn = new.self; tree = new.tree; store = new.store; files = new.files }) c.open_file.ensures.leaves
      (λ k s so given. opens_serves s (c.open_file.ensures.opened (chain_of c.args.self.now) _ so given));
  bare = refl;
}
