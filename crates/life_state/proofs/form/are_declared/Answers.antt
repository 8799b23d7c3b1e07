-- One that is too great decides, and none is where the loop ends. Beyond the last pool there is none.
use Rattle.std.proofs.Common.{◌≡◌, ℕ, Bool, false, ◌||◌, not, nat_lt, length, sym, arith, rules}
use Rattle.std.specs.Prelude.{slice_index_or}
use Rattle.life_state.proofs.Below.{all_below_holds, all_below_fails}
use Rattle.life_state.proofs.FormLaws.{names_below}
use Rattle.life_state.proofs.FormPasses.{low_or_none}
use Rattle.life_state.proofs.form.are_declared.Goals as goal

pub returns-then-not-declared-clause-value : goal.returns-then-not-declared-clause-value
returns-then-not-declared-clause-value c =
    let holds : ℕ → Bool = λ q. nat_lt q c.args.count || not (slice_index_or c.args.homes.now.pools.own q false) in
    let here : holds c.loop-q.q ≡ false = search rules in
    sym (all_below_fails 8 c.loop-q.q holds (omega arith) here)

pub returns-clause-value : goal.returns-clause-value
returns-clause-value c =
    let holds : ℕ → Bool = λ q. nat_lt q c.args.count || not (slice_index_or c.args.homes.now.pools.own q false) in
    sym (all_below_holds 8 holds (λ q below. low_or_none q c.args.count (slice_index_or c.args.homes.now.pools.own q false) (c.loop-q.invariant q (omega arith))))

pub returns-clause-sound : goal.returns-clause-sound
returns-clause-sound c =
    let long : length c.args.homes.now.pools.own ≡ 8 = omega arith in
    λ _. names_below c.args.homes.now c.args.count long (λ q h. c.loop-q.invariant q (omega arith))
