use Rattle.std.proofs.Common.{take, ◌++◌, codes}
use Rattle.std.specs.List.{flat_map}
use Rattle.author_text.specs.Adding.{AddsText}
use Rattle.author_text.specs.Trees.{name_of}
use Rattle.author_text.proofs.print.Printer.more_names.Given as goal

abbrev pub invariant-loop-name : goal.invariant-loop-name
invariant-loop-name l = AddsText l.initial.self l.self (flat_map (λ x. codes ", " ++ name_of x) (take l.name-index l.names))
