use Rattle.std.proofs.Common.{Ok, Err, refl}
use Rattle.script_play.proofs.commands.made_ready.Goals as goal

pub returns-in-Ready : goal.returns-in-Ready
returns-in-Ready g c w hosts = rw c.in-Ready.is (record { to = w; readied = (refl, refl); hosts = hosts; chain = refl; budget = refl })

pub returns-in-Ok : goal.returns-in-Ok
returns-in-Ok g c w hosts =
    let x = c.in-Ok.ensures.event w hosts in
    let acts = rw c.as_slice.ensures at x.acts in
    rw c.in-Range.is (record { to = x.to; readied = (Ok (c.in-Ok.file, c.in-Ok.field-0-1), acts, refl); hosts = x.hosts; chain = x.chain; budget = x.budget })

pub returns : goal.returns
returns g c w hosts =
    let x = c.in-Err.ensures.event w hosts in
    let acts = rw c.as_slice.ensures at x.acts in
    rw c.in-Range.is (record { to = x.to; readied = (Err c.in-Err.refusal, acts, refl); hosts = x.hosts; chain = x.chain; budget = x.budget })
