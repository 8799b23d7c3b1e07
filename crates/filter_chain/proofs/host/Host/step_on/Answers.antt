-- By the connection of the number, as it was found and as it is put back.
use Rattle.std.proofs.Common.{refl}
use Rattle.filter_chain.specs.Hosted.{conn_at}
use Rattle.filter_chain.specs.Hosting.{chain_of, budget_of}
use Rattle.filter_chain.proofs.ConnGoing.{can_go, ends, none_on}
use Rattle.filter_chain.proofs.Lent.{lent_by, nothing_at}
use Rattle.filter_chain.proofs.host.Host.step_on.Goals as goal

pub returns-in-None-clause-steps : goal.returns-in-None-clause-steps
unfolding conn_at
returns-in-None-clause-steps g c =
    none_on g.F.Files.device c.args.self.now c.args.number c.args.more _ c.get_mut.follows.holds-at-none (nothing_at c.in-None.is c.get_mut.ensures.value)

pub step_on-requires : goal.step_on-requires
unfolding conn_at chain_of budget_of
step_on-requires g c = record {
  can = can_go g.F.Files.device c.args.self.now c.args.number
      (lent_by c.get_mut.follows.lender c.in-Some.is c.get_mut.ensures.value (λ x there. ((c.get_mut.follows.holds x).3 there).0)) c.requires c.as_slice.ensures.value;
}

pub returns-in-Some : goal.returns-in-Some
unfolding conn_at chain_of budget_of
returns-in-Some g c =
    let new = c.step_on.new in
    let end = ends g.F.Files.device c.args.self.now c.args.number
    (lent_by c.get_mut.follows.lender c.in-Some.is c.get_mut.ensures.value (λ x there. ((c.get_mut.follows.holds x).3 there).0)) c.requires c.as_slice.ensures.value c.args.more
    (record { conn = new.self; tree = new.tree; store = new.store; files = new.files }) c.step_on.result c.step_on.ensures.steps in
    record {
      steps = end.0;
      safe = end.1;
      unasked = λ is. record { store = c.step_on.ensures.unasked is; tree = c.step_on.ensures.tree_unasked is };
      bare = refl;
    }

pub returns-in-None-clause-unasked : goal.returns-in-None-clause-unasked
returns-in-None-clause-unasked g c is = record { store = refl; tree = refl }
