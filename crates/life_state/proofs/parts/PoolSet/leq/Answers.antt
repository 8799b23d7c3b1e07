-- One of the first set alone decides, and none is where the loop ends.
use Rattle.std.proofs.Common.{◌≡◌, ℕ, Bool, true, false, ◌&&◌, not, slice_index_or, arith, rules}
use Rattle.life_state.specs.Order.{implies, all_below}
use Rattle.life_state.proofs.Below.{all_below_holds, all_below_fails}
use Rattle.life_state.proofs.parts.PoolSet.leq.Goals as goal

implied : (a b : Bool) → (a && not b) ≡ false → implies a b ≡ true
implied a b h = search rules

pub returns-then-self-q : goal.returns-then-self-q
returns-then-self-q c =
    let holds : ℕ → Bool = λ i. implies (slice_index_or c.args.self.now.own i false) (slice_index_or c.args.other.now.own i false) in
    let here : holds c.loop-q.q ≡ false = search rules in
    let fails : all_below 8 holds ≡ false = all_below_fails 8 c.loop-q.q holds (omega arith) here in
    search rules

pub returns : goal.returns
returns c =
    let holds : ℕ → Bool = λ i. implies (slice_index_or c.args.self.now.own i false) (slice_index_or c.args.other.now.own i false) in
    let all : all_below 8 holds ≡ true = all_below_holds 8 holds (λ k below. implied _ _ (c.loop-q.invariant k (omega arith))) in
    search rules
