-- A front alone shows nothing, as what ended within it.
use Rattle.std.proofs.Common.{sym, ◌∙◌, arith}
use Rattle.interp_calls.proofs.Fronts.{unseen}
use Rattle.interp_calls.proofs.output_block.make_headroom.Goals as goal

pub returns-then-end-lt-HEADROOM-clause-same : goal.returns-then-end-lt-HEADROOM-clause-same
returns-then-end-lt-HEADROOM-clause-same c =
    let short = c.if-end-lt-HEADROOM.true in
    unseen 48 48 c.reach.new.block (omega (arith)) ∙ sym (unseen 48 c.args.end c.args.block.now (omega (arith, short)))
