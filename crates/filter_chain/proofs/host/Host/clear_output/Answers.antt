-- By the connection of the number, as it was found and as it is put back.
use Rattle.std.proofs.Common.{ℕ, refl, sym, ap}
use Rattle.std.specs.Prelude.{List, Result}
use Rattle.run_model.specs.declared.event.Refusal.{Refusal}
use Rattle.module_run.specs.Happened.{refusal_of}
use Rattle.filter_chain.specs.Hosted.{conn_at}
use Rattle.filter_chain.proofs.HostTells.{cleared_on, none_cleared, output_missing, some_told}
use Rattle.filter_chain.proofs.Lent.{found_at, lent_by, nothing_at}
use Rattle.filter_chain.proofs.host.Host.clear_output.Goals as goal

pub returns-in-None : goal.returns-in-None
unfolding conn_at
returns-in-None g c =
    let host = c.args.self.now in
    let none = nothing_at c.in-None.is c.get_mut.ensures.value in
    record {
      event = none_cleared g.F.Files.device host c.args.number _ c.get_mut.follows.holds-at-none none;
      told = λ w hosts. sym (ap (λ (r : Result (List ℕ) Refusal). refusal_of r) (output_missing (g.F.Files.device host.files) host c.args.number w hosts none));
      files = refl;
      bare = refl;
    }

pub returns-in-Some : goal.returns-in-Some
unfolding conn_at
returns-in-Some g c =
    let host = c.args.self.now in
    let out = c.clear_output.ensures in
    record {
      event = λ w hosts. cleared_on g.F.Files.device host c.args.number
          (lent_by c.get_mut.follows.lender c.in-Some.is c.get_mut.ensures.value (λ x there. ((c.get_mut.follows.holds x).3 there).0)) c.clear_output.new.self
          (record { shows = out.cleared; stacked = out.stacked; filters = out.filters }) w hosts (w.conns c.args.number) refl;
      told = λ w hosts. some_told (g.F.Files.device host.files) host c.args.number w hosts c.in-Some.conn.now (found_at c.in-Some.is c.get_mut.ensures.value);
      files = refl;
      bare = refl;
    }
