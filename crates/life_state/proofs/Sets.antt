-- Sets of pools by what they have.
use Rattle.std.proofs.Common.{◌≡◌, ℕ, ◌<◌, ◌≤◌, Bool, false, List, length, slice_index_or, ap, ◌∙◌, ⊎_elim, arith}
use Rattle.std.proofs.Math.Path.{fun_ext}
use Rattle.std.proofs.lemmas.List.{get_or_past}
use Rattle.std.proofs.lemmas.Bool.{cases_lt}
use Rattle.module_code.specs.declared.instr.PoolRef.{PoolRef}
use Rattle.module_code.specs.declared.instr.PoolRef.TheVariants as pool
use Rattle.life_state.specs.declared.parts.PoolSet.{PoolSet}
use Rattle.life_state.specs.declared.parts.HomeSet.{HomeSet}
use Rattle.life_state.specs.States.{Homes}
use Rattle.life_state.specs.Seen.{seen_pools, seen_homes}

-- a set is what it has
pub pools_are : (m : PoolSet) (f : PoolRef → Bool) → false ≡ f pool.Conn → m.req ≡ f pool.Req → ((i : ℕ) → slice_index_or m.own i false ≡ f (pool.Own i)) → seen_pools m ≡ f
pools_are m f conn req own = fun_ext each
  where
    each : (k : PoolRef) → seen_pools m k ≡ f k
    each pool.Conn = conn
    each pool.Req = req
    each (pool.Own i) = own i

-- what holds of the values below the length, and of the value that stands in beyond, holds of all
pub everywhere : {A : Type 0} (n : ℕ) (d : A) (xs : List A) (g : ℕ → A) → length xs ≡ n → ((i : ℕ) → i < n → slice_index_or xs i d ≡ g i) → ((i : ℕ) → n ≤ i → d ≡ g i) → (i : ℕ)
    → slice_index_or xs i d ≡ g i
everywhere n d xs g long here beyond i =
    ⊎_elim (λ (h : i < n). here i h) (λ (h : n ≤ i). get_or_past xs i d (omega arith) ∙ beyond i h) (cases_lt i n)

pub homes_are : (h : HomeSet) (k : Homes) → h.call ≡ k.call → h.dead ≡ k.dead → seen_pools h.pools ≡ k.at → seen_homes h ≡ k
homes_are h k call dead at =
    let of : Bool → Bool → (PoolRef → Bool) → Homes = λ c d f. record { call = c; dead = d; at = f } in
    ap (λ c. of c h.dead (seen_pools h.pools)) call ∙ ap (λ d. of k.call d (seen_pools h.pools)) dead ∙ ap (of k.call k.dead) at
