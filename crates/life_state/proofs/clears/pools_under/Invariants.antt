-- The pools so far are looked at.
use Rattle.std.proofs.Common.{◌≡◌, ℕ, ◌<◌, false, length, slice_index_or}
use Rattle.module_code.specs.declared.instr.PoolRef.TheVariants as pool
use Rattle.life_state.specs.PoolOrder.{is_under}
use Rattle.life_state.proofs.clears.pools_under.Given as goal

abbrev pub invariant-loop-q : goal.invariant-loop-q
invariant-loop-q l = (length l.own ≡ 8) × ((k : ℕ) → k < l.q → slice_index_or l.own k false ≡ is_under l.code l.top (pool.Own k))
