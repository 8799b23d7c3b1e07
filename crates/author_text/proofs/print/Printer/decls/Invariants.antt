use Rattle.std.proofs.Common.{take}
use Rattle.std.specs.List.{flat_map}
use Rattle.author_text.specs.Adding.{AddsText}
use Rattle.author_text.specs.PrintedSource.{line, decl_text}
use Rattle.author_text.specs.Trees.{decl_of}
use Rattle.author_text.proofs.print.Printer.decls.Given as goal

abbrev pub invariant-loop-decl : goal.invariant-loop-decl
invariant-loop-decl l = AddsText l.initial.self l.self (flat_map (λ x. line (decl_text (decl_of x))) (take l.decl-index l.decls))
