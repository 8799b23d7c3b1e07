-- The return is all of the step.
use Rattle.std.proofs.lemmas.Result.{IfOk-weaker}
use Rattle.module_code.specs.declared.instr.Instr.TheVariants as instr
use Rattle.module_run.proofs.PutsOut.{returned_step}
use Rattle.module_run.proofs.TopFilter.{at_module}
use Rattle.module_run.proofs.conn.Conn.return_from.Goals as goal

pub returns-clause-leads : goal.returns-clause-leads
returns-clause-leads g c =
    IfOk-weaker c.return_call.result _ _ (λ answer leads tree d v f rest ready.
    returned_step c.args.modules.now c.args.status tree c.return_call.new.store d v f rest c.return_call.new.self answer
    (at_module c.args.modules.now (instr.Ret c.args.status) tree c.args.store.now d c.args.self.now v f rest ready c.requires.inside) (leads tree d v f rest ready)) c.return_call.ensures.leads
