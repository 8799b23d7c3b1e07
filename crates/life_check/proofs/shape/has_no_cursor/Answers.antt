-- One that is set decides, and none is where the loop ends.
use Rattle.std.proofs.Common.{◌≡◌, ℕ, Bool, not, false, sym, arith, rules}
use Rattle.life_state.specs.Facts.{is_set}
use Rattle.life_state.specs.Seen.{seen}
use Rattle.life_state.proofs.Below.{all_below_holds, all_below_fails}
use Rattle.life_check.proofs.shape.has_no_cursor.Goals as goal

pub returns-then-not-is_free : goal.returns-then-not-is_free
returns-then-not-is_free c =
    let holds : ℕ → Bool = λ k. not (is_set ((seen c.args.state.now).cursors k)) in
    let here : holds c.loop-c.c ≡ false = search rules in
    sym (all_below_fails 9 c.loop-c.c holds (omega arith) here)

pub returns : goal.returns
returns c =
    let holds : ℕ → Bool = λ k. not (is_set ((seen c.args.state.now).cursors k)) in
    sym (all_below_holds 9 holds (λ k below. c.loop-c.invariant k (omega arith)))
