-- The instruction is one of the module, and its edges lead into it.
use Rattle.life_state.specs.Seen.{seen}
use Rattle.life_cert.proofs.Handed.{line_fits}
use Rattle.life_cert.proofs.handing.hand_from_line.Goals as goal

pub returns-in_ok-hand_edges-in-Ok-clause-fit : goal.returns-in_ok-hand_edges-in-Ok-clause-fit
returns-in_ok-hand_edges-in-Ok-clause-fit c =
    line_fits c.args.code.now c.args.pc c.at-instr.result (seen c.args.state.now) c.at-instr.ensures.value c.requires.inside c.at-instr.ensures.placed c.requires.declared

pub returns-in_err-hand_edges-in-Ok-clause-fit : goal.returns-in_err-hand_edges-in-Ok-clause-fit
returns-in_err-hand_edges-in-Ok-clause-fit c =
    line_fits c.args.code.now c.args.pc c.at-instr.result (seen c.args.state.now) c.at-instr.ensures.value c.requires.inside c.at-instr.ensures.placed c.requires.declared
