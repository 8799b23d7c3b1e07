-- No pool stands above the connection's, and beyond the last variable there is none.
use Rattle.std.proofs.Common.{◌≡◌, ℕ, zero, suc, ◌≤◌, ◌<◌, true, false, ◌||◌, length, slice_index_or, refl, ap, ◌∙◌, arith, ne_eqb}
use Rattle.std.proofs.lemmas.List.{get_or_past}
use Rattle.std.proofs.lemmas.Bool.{ltb-true}
use Rattle.module_code.specs.declared.instr.PoolRef.{PoolRef}
use Rattle.module_code.specs.declared.instr.PoolRef.TheVariants as pool
use Rattle.module_code.specs.Program.{Program, pool_of_pool, pool_of_brigade}
use Rattle.life_state.specs.PoolOrder.{is_same_place, under_within, is_under, is_clearable}

not_conn : (top : PoolRef) → is_clearable top ≡ true → is_same_place top pool.Conn ≡ false
not_conn pool.Conn h = cc
not_conn pool.Req h = refl
not_conn (pool.Own q) h = refl

conn_within : (n : ℕ) (p : Program) (top : PoolRef) → is_same_place top pool.Conn ≡ false → under_within n p top pool.Conn ≡ false
unfolding under_within
conn_within zero p top h = refl
conn_within (suc n) p top h = ap (λ b. b || under_within n p top pool.Conn) h ∙ conn_within n p top h

pub conn_is_under : (p : Program) (top : PoolRef) → is_clearable top ≡ true → is_under p top pool.Conn ≡ false
conn_is_under p top h = conn_within 10 p top (not_conn top h)

not_past : (top : PoolRef) (i : ℕ) → is_clearable top ≡ true → 8 ≤ i → is_same_place top (pool.Own i) ≡ false
not_past pool.Conn i h past = refl
not_past pool.Req i h past = refl
not_past (pool.Own q) i h past = let below : q < 8 = ltb-true q 8 h in ne_eqb q i (omega arith)

past_within : (n : ℕ) (p : Program) (top : PoolRef) (i : ℕ) → is_clearable top ≡ true → 8 ≤ i → length p.pools ≤ i → under_within (suc n) p top (pool.Own i) ≡ false
unfolding under_within pool_of_pool
past_within n p top i h past beyond =
    ap (λ b. b || under_within n p top (slice_index_or p.pools i pool.Conn)) (not_past top i h past)
    ∙ (ap (under_within n p top) (get_or_past p.pools i pool.Conn beyond) ∙ conn_within n p top (not_conn top h))

pub past_is_under : (p : Program) (top : PoolRef) (i : ℕ) → is_clearable top ≡ true → 8 ≤ i → length p.pools ≤ i → is_under p top (pool.Own i) ≡ false
past_is_under p top i h past beyond = past_within 9 p top i h past beyond

pub brigade_past : (p : Program) (b : ℕ) → length p.brigades ≤ b → pool_of_brigade p b ≡ pool.Conn
unfolding pool_of_brigade
brigade_past p b h = get_or_past p.brigades b pool.Conn h
