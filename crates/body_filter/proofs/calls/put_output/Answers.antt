use Rattle.std.proofs.Common.{refl}
use Rattle.body_filter.proofs.calls.put_output.Goals as goal

pub returns-clause-leads : goal.returns-clause-leads
returns-clause-leads g c w hosts =
    let x = c.clear_output.ensures.event w hosts in
    record {
      to = x.to;
      did = record { out = _; takes = record { is = refl; acts = x.acts }; writes = c.write_output-written.ensures.writes w hosts };
      hosts = x.hosts;
      chain = x.chain;
      budget = x.budget;
    }
