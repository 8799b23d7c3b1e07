use Rattle.module_lang.proofs.ArgLaws.{args_are}
use Rattle.module_lang.proofs.handler.instr_of.Goals as goal

pub made-requires : goal.made-requires
made-requires c =
    let s = c.args.step.now in
    rw (c.args_in-args.ensures, c.kinds.ensures) (args_are s.op s.operands s.text c.args.target)
