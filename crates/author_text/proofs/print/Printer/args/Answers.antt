use Rattle.std.proofs.Common.{◌≤◌, length, arith}
use Rattle.author_text.specs.Printed.{expr_text}
use Rattle.author_text.specs.Trees.{expr_of}
use Rattle.author_text.proofs.AddsLaws.{adds_both, adds_same}
use Rattle.author_text.proofs.PrintedLaws.{listed_parts}
use Rattle.author_text.proofs.print.Printer.args.Goals as goal

pub returns-in-len1-up : goal.returns-in-len1-up
returns-in-len1-up c =
    let n : 1 ≤ length c.args.args.now = omega arith in
    adds_same (adds_both (adds_both c.behind.ensures c.more_args.ensures) c.push-in-len1-up.ensures) (listed_parts expr_text expr_of _ _ c.args.args.now n c.first-item.is)
