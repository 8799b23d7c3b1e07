-- By the connection of the number, as it was found and as it is put back.
use Rattle.std.proofs.Common.{refl}
use Rattle.run_model.specs.declared.event.Event.TheVariants as event
use Rattle.filter_chain.specs.Hosted.{conn_at}
use Rattle.filter_chain.specs.Hosting.{chain_of, budget_of}
use Rattle.filter_chain.proofs.ConnGoing.{one_step}
use Rattle.filter_chain.proofs.Faultless.{can_step}
use Rattle.filter_chain.proofs.HostEvents.{none_found}
use Rattle.filter_chain.proofs.Lent.{found_at, lent_by, nothing_at}
use Rattle.filter_chain.proofs.Safety.{happens_well}
use Rattle.filter_chain.proofs.host.Host.step.Goals as goal

pub step-requires : goal.step-requires
unfolding conn_at chain_of budget_of
step-requires g c =
    let host = c.args.self.now in
    record { stands = can_step (g.F.Files.device host.files) host c.args.number c.requires.0 c.requires.1 _ c.as_slice.ensures.value _ (found_at c.in-Some.is c.get_mut.ensures.value) }

pub returns-in-None-clause-event : goal.returns-in-None-clause-event
unfolding conn_at
returns-in-None-clause-event g c =
    none_found g.F.Files.device c.args.self.now c.args.number _ c.get_mut.follows.holds-at-none (nothing_at c.in-None.is c.get_mut.ensures.value) event.Step tt

pub returns-in-Some : goal.returns-in-Some
unfolding conn_at chain_of budget_of
returns-in-Some g c =
    let new = c.step.new in
    let out = c.step.ensures in
    let event = one_step g.F.Files.device c.args.self.now c.args.number
    (lent_by c.get_mut.follows.lender c.in-Some.is c.get_mut.ensures.value (λ x there. ((c.get_mut.follows.holds x).3 there).0)) c.as_slice.ensures.value
    (record { conn = new.self; tree = new.tree; store = new.store; files = new.files }) c.step.result
    (record { step = λ v can. out.steps v can.stands can.faultless; leaves = out.leaves; ended = out.ended }) in
    record {
      event = event;
      safe = λ safe. happens_well _ _ _ _ _ _ _ _ c.requires.1 safe (event c.requires.0 c.requires.1);
      unasked = λ is. record { store = out.unasked is; tree = out.tree_unasked is };
      bare = refl;
    }

pub returns-in-None-clause-unasked : goal.returns-in-None-clause-unasked
returns-in-None-clause-unasked g c is = record { store = refl; tree = refl }
