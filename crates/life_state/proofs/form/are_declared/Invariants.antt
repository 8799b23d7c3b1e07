-- The pools so far have lower numbers.
use Rattle.std.proofs.Common.{◌≡◌, ℕ, ◌<◌, true, false}
use Rattle.std.specs.Prelude.{slice_index_or}
use Rattle.life_state.proofs.form.are_declared.Given as goal

abbrev pub invariant-loop-q : goal.invariant-loop-q
invariant-loop-q l = (k : ℕ) → k < l.q → slice_index_or l.homes.pools.own k false ≡ true → k < l.count
