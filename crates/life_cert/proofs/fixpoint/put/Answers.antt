-- The line is written.
use Rattle.std.proofs.Common.{◌<◌, length, Some, ap, sym, ◌∙◌, rules, length-set}
use Rattle.life_state.specs.Seen.{seen, seen_some}
use Rattle.life_check.specs.Seen.{seen_cert}
use Rattle.life_cert.specs.declared.fixpoint.StatePlace.{StatePlace}
use Rattle.life_cert.specs.Rounds.{with_state}
use Rattle.life_cert.proofs.Growing.{lines_set, with_lines}
use Rattle.life_cert.proofs.fixpoint.put.Goals as goal

pub returns-in-At : goal.returns-in-At
returns-in-At c =
    let xs = c.args.cert.now.at.items in
    let inside : c.in-At.pc < length xs = search rules in
    with_lines (seen_some c.args.cert.now.idle) (seen_some c.args.cert.now.ready) _ _ _ _ (lines_set xs c.in-At.pc c.args.state inside) (length-set xs c.in-At.pc (Some c.args.state))
    ∙ sym (ap (λ (w : StatePlace). with_state w (seen c.args.state) (seen_cert c.args.cert.now)) c.in-At.is)
