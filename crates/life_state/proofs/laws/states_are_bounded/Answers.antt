-- Each row that is read has nine places.
use Rattle.std.proofs.Common.{◌≡◌, length, slice_index_or, [], arith, below_more}
use Rattle.life_state.proofs.Bounds.{bounded_by}
use Rattle.life_state.proofs.laws.states_are_bounded.Goals as goal

pub loop-c-preserved : goal.loop-c-preserved
loop-c-preserved c =
    let here : length (slice_index_or c.args.state.now.facts c.loop-c.c []) ≡ 9 = omega arith in
    below_more (λ k. length (slice_index_or c.args.state.now.facts k []) ≡ 9) c.loop-c.c c.loop-c.invariant here

pub returns : goal.returns
returns c = bounded_by c.args.state.now (omega arith) (omega arith) (omega arith) (omega arith) (λ k h. c.loop-c.invariant k (omega arith))
