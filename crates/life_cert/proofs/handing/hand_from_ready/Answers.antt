-- `main` has an instruction.
use Rattle.life_state.specs.Seen.{seen}
use Rattle.std.proofs.Common.{◌<◌, length, rules}
use Rattle.life_cert.proofs.Handed.{ready_fits}
use Rattle.life_cert.proofs.handing.hand_from_ready.Goals as goal

pub returns-in_err-hand-clause-fit : goal.returns-in_err-hand-clause-fit
returns-in_err-hand-clause-fit c =
    let main : c.args.code.now.main < length c.args.code.now.code = search rules in
    ready_fits c.args.code.now (seen c.args.state.now) main c.requires.declared

pub returns-clause-fit : goal.returns-clause-fit
returns-clause-fit c =
    let main : c.args.code.now.main < length c.args.code.now.code = search rules in
    ready_fits c.args.code.now (seen c.args.state.now) main c.requires.declared
