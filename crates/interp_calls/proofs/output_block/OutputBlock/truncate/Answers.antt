-- What is seen then is a front of what was seen.
use Rattle.std.proofs.Common.{ap, take, sym, ◌∙◌, arith}
use Rattle.interp_calls.proofs.Fronts.{shorter, as_long}
use Rattle.interp_calls.proofs.output_block.OutputBlock.truncate.Goals as goal

pub returns-then-len-saturating_sub : goal.returns-then-len-saturating_sub
returns-then-len-saturating_sub c =
    let own = c.self.inside.filled in
    let less = c.if-len-saturating_sub.true in
    let seen = c.saturating_sub.ensures in
    shorter 48 c.args.len own.end own.block (omega (arith, less, seen)) ∙ ap (take c.args.len) c.self.view_is

pub returns-else-len-saturating_sub : goal.returns-else-len-saturating_sub
returns-else-len-saturating_sub c =
    let own = c.self.inside.filled in
    let no_less = c.if-len-saturating_sub.false in
    let seen = c.saturating_sub.ensures in
    sym c.self.view_is ∙ (as_long 48 c.args.len own.end own.block c.self.invariant (omega (arith, no_less, seen)) ∙ ap (take c.args.len) c.self.view_is)
