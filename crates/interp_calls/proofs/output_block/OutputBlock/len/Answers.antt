-- As many bytes are seen as lie behind the front.
use Rattle.std.proofs.Common.{ap, length, sym, ◌∙◌}
use Rattle.interp_calls.proofs.Fronts.{seen_len}
use Rattle.interp_calls.proofs.output_block.OutputBlock.len.Goals as goal

pub returns : goal.returns
returns c =
    let own = c.self.inside.filled in
    c.saturating_sub.ensures ∙ (sym (seen_len 48 own.end own.block c.self.invariant) ∙ ap length c.self.view_is)
