-- A module is found, or the place is that of the output filter.
use Rattle.std.proofs.Common.{◌∙◌, sym, ap}
use Rattle.module_code.specs.Program.{Program}
use Rattle.module_run.proofs.Looking.{module_is, output_main, read_at}
use Rattle.module_run.proofs.conn_bring.main_at.Goals as goal

pub returns-in-Some : goal.returns-in-Some
returns-in-Some c =
    c.main.ensures.value
    ∙ ap (λ (p : Program). p.main) (sym (module_is c.args.modules.now c.args.place c.in-Some.code.now
    (read_at c.args.modules.now c.args.place c.in-Some.code.now c.in-Some.ensures.lookup.3.0 c.in-Some.ensures.lookup.1)))

pub returns-in-None : goal.returns-in-None
returns-in-None c = sym (output_main c.args.modules.now c.args.place c.in-None.ensures.lookup.3)
