use Rattle.std.proofs.Common.{sym, subst}
use Rattle.module_code.specs.Program.{Program}
use Rattle.life_check.specs.Slim.{Accepts}
use Rattle.filter_files.specs.FilterReads.{IsFilterRead}
use Rattle.filter_files.specs.declared.compiling.FilterRead.{FilterRead}
use Rattle.host_lib.proofs.filter_texts.filter_part.Goals as goal

pub returns-in-Ok-Compiled-clause-read : goal.returns-in-Ok-Compiled-clause-read
returns-in-Ok-Compiled-clause-read c =
    let read = subst (λ (r : FilterRead). IsFilterRead c.args.text.now r) c.in-Ok-Compiled.field-0-is c.in-Ok-Compiled.ensures.ok in (
      c.in-Ok-Compiled.compiled.cert,
      c.compiled_part.ensures.cert,
      subst (λ (p : Program). Accepts p c.in-Ok-Compiled.compiled.cert) (sym c.compiled_part.ensures.code) read.0,
    )
