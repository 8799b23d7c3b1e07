use Rattle.std.proofs.Common.{take}
use Rattle.std.specs.List.{flat_map}
use Rattle.author_text.specs.Adding.{AddsText}
use Rattle.author_text.specs.PrintedSource.{line, stmt_text}
use Rattle.author_text.specs.Trees.{stmt_of}
use Rattle.author_text.proofs.print.Printer.+stmts.Given as goal

abbrev pub invariant-lines-loop-stmt : goal.invariant-lines-loop-stmt
invariant-lines-loop-stmt l = AddsText l.initial.self l.self (flat_map (λ s. line (stmt_text (stmt_of s))) (take l.stmt-index l.body))
