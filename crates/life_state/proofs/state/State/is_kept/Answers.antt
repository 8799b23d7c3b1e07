-- Shared is what both know.
use Rattle.std.proofs.Common.{◌&&◌, ap, ap₂, sym, ◌∙◌}
use Rattle.life_state.specs.declared.facts.Keep.{Keep}
use Rattle.life_state.specs.Seen.{seen, keep_of}
use Rattle.life_state.proofs.state.State.is_kept.Goals as goal

pub returns-in-Shared : goal.returns-in-Shared
returns-in-Shared c =
    ap₂ ◌&&◌ c.known-in-Shared.ensures c.known-in-Shared-2.ensures
    ∙ sym (ap (λ (k : Keep). keep_of k (seen c.args.self.now) c.args.i c.args.j) c.in-Shared.is)
