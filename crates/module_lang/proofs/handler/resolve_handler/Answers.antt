-- No label stands behind the last instruction, since none has a fault.
use Rattle.std.proofs.Common.{length, arith, rules}
use Rattle.module_lang.proofs.HandlerLaws.{below}
use Rattle.module_lang.proofs.handler.resolve_handler.Goals as goal

pub add_code-requires-clause-below : goal.add_code-requires-clause-below
add_code-requires-clause-below c =
    below c.in_ok-places.places c.args.handler.now.labels (length c.args.handler.now.steps) (search rules) (search rules) (omega arith)
