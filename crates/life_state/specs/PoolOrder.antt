-- Which pools lie under which, as the module declares them.
use Rattle.std.specs.Prelude.{ℕ, zero, suc, Bool, true, false, ◌||◌, ◌==◌, nat_lt}
use Rattle.module_code.specs.declared.instr.PoolRef.{PoolRef}
use Rattle.module_code.specs.declared.instr.PoolRef.TheVariants as pool
use Rattle.module_code.specs.Program.{Program, pool_of_pool}

abbrev pub is_same_place : PoolRef → PoolRef → Bool
is_same_place pool.Conn pool.Conn = true
is_same_place pool.Req pool.Req = true
is_same_place (pool.Own i) (pool.Own j) = i == j
is_same_place _ _ = false

-- the pool right above one; above the request's is the connection's
abbrev pub parent_of : Program → PoolRef → PoolRef
parent_of p pool.Conn = pool.Conn
parent_of p pool.Req = pool.Conn
parent_of p (pool.Own q) = pool_of_pool p q

unfoldable pub under_within : ℕ → Program → PoolRef → PoolRef → Bool
under_within zero p top low = false
under_within (suc n) p top low = is_same_place top low || under_within n p top (parent_of p low)

-- low is top, or lies under it: a pool, at most eight parents and the connection's are looked at
abbrev pub is_under : Program → PoolRef → PoolRef → Bool
is_under p top low = under_within 10 p top low

-- a pool that is cleared: a variable's, or the request's
abbrev pub is_clearable : PoolRef → Bool
is_clearable pool.Conn = false
is_clearable pool.Req = true
is_clearable (pool.Own q) = nat_lt q 8
