use Rattle.std.proofs.Common.{◌<◌, ◌≤◌, length, arith}
use Rattle.host_lib.proofs.Shown.{told_kept, told_taken}
use Rattle.host_lib.proofs.Steps.{awake_in}
use Rattle.host_lib.proofs.session.HostSession.output.Goals as goal

pub returns-then-len-room-clause-told : goal.returns-then-len-room-clause-told
returns-then-len-room-clause-told c w stands =
    let over : length c.args.buffer.now < c.copy_output-len.result = omega arith in told_kept c.args.number c.args.buffer.now _ c.copy_output-len.result c.args.self.now w (c.copy_output-len.ensures w stands) over

pub returns-clause-awake : goal.returns-clause-awake
returns-clause-awake c = awake_in c.args.self.now.host c.clear_output.new.self c.requires _ _ _ (c.clear_output.ensures.event c.requires.alive.0 c.requires.alive.1)

pub returns-clause-told : goal.returns-clause-told
returns-clause-told c w stands =
    let few : c.copy_output-len.result ≤ length c.args.buffer.now = omega arith in
    told_taken c.args.number c.args.buffer.now _ c.copy_output-len.result c.args.self.now w (c.copy_output-len.ensures w stands) (record c.args.self.now { host = c.clear_output.new.self }) few (c.clear_output.ensures.event w stands)
