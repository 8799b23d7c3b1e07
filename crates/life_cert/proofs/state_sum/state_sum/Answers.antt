use Rattle.std.proofs.Common.{ℕ, ap, ◌∙◌}
use Rattle.life_state.specs.Seen.{seen}
use Rattle.life_cert.specs.StateSums.{pool_number, brigade_number, cursor_number, sum_below, state_sum}
use Rattle.life_cert.proofs.state_sum.state_sum.Goals as goal

pub returns : goal.returns
unfolding state_sum
returns c =
    let s = seen c.args.state.now in
    let cursors : ℕ → ℕ = λ k. cursor_number (s.cursors k) in
    let brigades : ℕ → ℕ = λ k. brigade_number (s.brigades k) in
    let pools : ℕ → ℕ = λ k. pool_number (s.pools k) in
    c.with_cursors.ensures
    ∙ ap (sum_below 9 cursors) (c.with_brigades.ensures ∙ ap (sum_below 9 brigades) (c.with_pools-pools.ensures ∙ ap (sum_below 8 pools) c.sent_number.ensures))
