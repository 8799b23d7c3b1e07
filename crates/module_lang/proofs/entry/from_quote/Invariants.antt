use Rattle.std.proofs.Common.{◌≡◌, drop}
use Rattle.module_lang.specs.Entries.{from_quote}
use Rattle.module_lang.proofs.entry.from_quote.Given as goal

abbrev pub invariant-loop-i : goal.invariant-loop-i
invariant-loop-i l = from_quote (drop l.i l.line) ≡ from_quote l.line
