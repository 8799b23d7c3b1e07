use Rattle.std.proofs.Common.{◌≤◌, length, refl, arith}
use Rattle.author_text.specs.Trees.{name_of}
use Rattle.author_text.proofs.AddsLaws.{adds_both, adds_same}
use Rattle.author_text.proofs.PrintedLaws.{listed_parts}
use Rattle.author_text.proofs.print.Printer.names.Goals as goal

pub returns-in-len1-up : goal.returns-in-len1-up
returns-in-len1-up c =
    let n : 1 ≤ length c.args.names.now = omega arith in
    adds_same (adds_both (adds_both c.name.ensures c.more_names.ensures) c.push-in-len1-up.ensures) (listed_parts (λ n. n) name_of _ _ c.args.names.now n refl)
