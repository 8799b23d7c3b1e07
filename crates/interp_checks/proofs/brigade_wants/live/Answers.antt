-- The brigade is asked for once.
use Rattle.std.proofs.Common.{ap, is_some, sym, ◌∙◌}
use Rattle.bucket_store.specs.Items.{Items}
use Rattle.std.specs.Prelude.{ℕ, Option}
use Rattle.interp_checks.proofs.OnlyAsked.{asked_once, lists_same}
use Rattle.interp_checks.proofs.brigade_wants.live.Goals as goal

pub returns-then-has-clause-there : goal.returns-then-has-clause-there
returns-then-has-clause-there g c =
    ap (λ (L : ℕ → Option Items). is_some (L c.in-Made.name)) (lists_same c.args.store.now c.has.new.self (asked_once c.args.store.now c.has.new.self _ c.has.ensures.counted))
    ∙ (sym c.has.ensures.value ∙ c.if-has.true)
