use Rattle.std.proofs.Common.{take}
use Rattle.std.specs.List.{flat_map}
use Rattle.author_text.specs.Adding.{AddsText}
use Rattle.author_text.specs.PrintedSource.{line, handler_text}
use Rattle.author_text.specs.Trees.{handler_of}
use Rattle.author_text.proofs.print.Printer.handlers.Given as goal

abbrev pub invariant-loop-handler : goal.invariant-loop-handler
invariant-loop-handler l = AddsText l.initial.self l.self (flat_map (λ x. line (handler_text (handler_of x))) (take l.handler-index l.handlers))
