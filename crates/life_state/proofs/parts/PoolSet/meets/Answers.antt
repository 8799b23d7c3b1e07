-- One of both decides, and none is where the loop ends.
use Rattle.std.proofs.Common.{◌≡◌, ℕ, Bool, true, false, ◌&&◌, slice_index_or, arith, rules}
use Rattle.run_model.specs.Indexed.{any_below}
use Rattle.life_state.proofs.Below.{none_below, some_below}
use Rattle.life_state.proofs.parts.PoolSet.meets.Goals as goal

pub returns-then-self-q : goal.returns-then-self-q
returns-then-self-q c =
    let both : ℕ → Bool = λ i. slice_index_or c.args.self.now.own i false && slice_index_or c.args.other.now.own i false in
    let here : both c.loop-q.q ≡ true = search rules in
    let some : any_below 8 both ≡ true = some_below 8 c.loop-q.q both (omega arith) here in
    search rules

pub returns : goal.returns
returns c =
    let both : ℕ → Bool = λ i. slice_index_or c.args.self.now.own i false && slice_index_or c.args.other.now.own i false in
    let none : any_below 8 both ≡ false = none_below 8 both (λ k below. c.loop-q.invariant k (omega arith)) in
    search rules
