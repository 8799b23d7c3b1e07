use Rattle.std.proofs.Common.{take, ◌++◌, codes}
use Rattle.std.specs.List.{flat_map}
use Rattle.author_text.specs.Adding.{AddsText}
use Rattle.author_text.specs.Printed.{expr_text}
use Rattle.author_text.specs.Trees.{expr_of}
use Rattle.author_text.proofs.print.Printer.more_args.Given as goal

abbrev pub invariant-loop-arg : goal.invariant-loop-arg
invariant-loop-arg l = AddsText l.initial.self l.self (flat_map (λ x. codes ", " ++ expr_text (expr_of x)) (take l.arg-index l.args))
