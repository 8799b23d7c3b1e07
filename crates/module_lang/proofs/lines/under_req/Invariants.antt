use Rattle.std.proofs.Common.{◌≡◌, ◌-◌}
use Rattle.module_lang.specs.Lines.{under_req}
use Rattle.module_lang.proofs.lines.under_req.Given as goal

abbrev pub invariant-loop : goal.invariant-loop
invariant-loop l = under_req (9 - l.counter) l.pools l.at ≡ under_req 9 l.pools l.fn.pool
