use Rattle.std.proofs.Common.{◌≤◌, length, arith}
use Rattle.author_text.proofs.AddsLaws.{adds_both, adds_same}
use Rattle.author_text.proofs.PrintedLaws.{block_parts, other_block}
use Rattle.author_text.proofs.print.Printer.+stmts.Goals as goal

pub block-returns : goal.block-returns
block-returns t c =
    adds_same (adds_both (adds_both (adds_both c.push.ensures c.push-2.ensures) c.lines.ensures) c.push-3.ensures) (block_parts _ c.args.body.now)

pub other-returns-in-len2-up : goal.other-returns-in-len2-up
other-returns-in-len2-up t c =
    let n : 2 ≤ length c.args.other.now = omega arith in
    adds_same c.block-in-len2-up.ensures (other_block c.args.other.now n)
