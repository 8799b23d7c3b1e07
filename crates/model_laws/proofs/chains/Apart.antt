-- What the instances of a chain name is apart: no pool that one of them names stands under one that another made.
use Rattle.std.proofs.Common.{◌≡◌, ◌≢◌, ℕ, zero, suc, ◌+◌, ◌<◌, true, false, ◌||◌, not, List, [], ◌∷◌, Some, inl, inr, refl, sym, ◌∙◌, ap, subst, arith, ne_eqb}
use Rattle.std.proofs.lemmas.Bool.{cases_Bool, ltb-true}
use Rattle.std.proofs.lemmas.List.{get_or_past}
use Rattle.std.proofs.lemmas.Option.{get_or_from_slice_get, slice_get_cases}
use Rattle.module_code.specs.Tables.{place_is_declared}
use Rattle.module_code.specs.declared.instr.PoolRef.{PoolRef}
use Rattle.module_code.specs.declared.instr.PoolRef.TheVariants as pool
use Rattle.module_code.specs.Program.{Program, IsModule, pool_of_pool}
use Rattle.model_laws.specs.AsDeclared.{AsDeclared}
use Rattle.run_model.specs.declared.bucket.PoolVar.TheVariants as poolvar
use Rattle.run_model.specs.Pools.{Pools, is_in, is_empty, is_live, is_under}
use Rattle.run_model.specs.Sound.{SoundPools}
use Rattle.run_model.specs.State.{Configuration, name_in, named_at, pool_named}
use Rattle.run_model.specs.Chains.{Frame, Connection, Common, configuration, pools_of, module_at}
use Rattle.model_laws.specs.ChainSound.{ChainPools}
use Rattle.run_model.proofs.Formed.{formed_older}
use Rattle.model_laws.proofs.NamedPools.{own_named}
use Rattle.run_model.proofs.PoolMap.{not_under}

-- a parent is lower
abbrev pub rank : PoolRef → ℕ
rank pool.Conn = 0
rank pool.Req = 1
rank (pool.Own q) = 2 + q

declared_rank : (q : ℕ) (k : PoolRef) → place_is_declared q k ≡ true → rank k < 2 + q
declared_rank q pool.Conn h = omega arith
declared_rank q pool.Req h = omega arith
declared_rank q (pool.Own i) h = let lt : i < q = ltb-true i q h in omega arith

pub parent_rank : (p : Program) → IsModule p → (q : ℕ) → rank (pool_of_pool p q) < 2 + q
unfolding pool_of_pool
parent_rank p m q = elim (slice_get_cases p.pools q).1 [
  | inl f ↦ subst (λ (k : PoolRef). rank k < 2 + q) (sym (get_or_from_slice_get p.pools q f.0 pool.Conn f.2)) (declared_rank q f.0 (m.parents q f.0 f.2))
  | inr f ↦ subst (λ (k : PoolRef). rank k < 2 + q) (sym (get_or_past p.pools q pool.Conn f.0)) (omega arith)
]

pub some_is : (a b : ℕ) → Some a ≡ Some b → a ≡ b
some_is a b e = cc

-- a child stands under the pool n only where its parent does, or is n
pub step_apart : {T : Type 0} (ps : Pools T) (n k j : ℕ) → k ≢ n → ps.path k ≡ k ∷ ps.path j → is_under ps n j ≡ false → is_under ps n k ≡ false
unfolding is_under
step_apart ps n k j ne path below = ap (is_in n) path ∙ (ap (λ b. b || is_in n (ps.path j)) (ne_eqb k n ne) ∙ below)

pub dead_under : {T : Type 0} (ps : Pools T) (n k : ℕ) → is_live ps k ≡ false → is_under ps n k ≡ false
unfolding is_live is_under
dead_under ps n k dead = by_path (ps.path k) dead where
  by_path : (xs : List ℕ) → not (is_empty xs) ≡ false → is_in n xs ≡ false
  by_path [] e = refl
  by_path (x ∷ xs) e = absurd (cc)

-- No pool that an instance names stands under a pool that it does not name and that the connection's is not under.
module _ (p : Program) (r : Configuration) (m : IsModule p) (s : SoundPools r) (d : AsDeclared p r) (n : ℕ) (foreign : (k : PoolRef) (j : ℕ) → pool_named r k ≡ Some j → j ≢ n)
    (above : is_under r.shared.pools n r.shared.conn ≡ false) where
  apart_at : (looks : ℕ) (low : PoolRef) (k : ℕ) → rank low < looks → pool_named r low ≡ Some k → is_live r.shared.pools k ≡ true → is_under r.shared.pools n k ≡ false
  unfolding named_at
  apart_at zero low k lt e live = absurd (omega arith)
  apart_at (suc looks) pool.Conn k lt e live = subst (λ (j : ℕ). is_under r.shared.pools n j ≡ false) (some_is r.shared.conn k e) above
  apart_at (suc looks) pool.Req k lt e live = step_apart r.shared.pools n k r.shared.conn (foreign pool.Req k e) (s.req k e).0 above
  apart_at (suc looks) (pool.Own q) k lt e live =
      let up = d.pools q k (own_named q k r e) live in
      step_apart r.shared.pools n k up.0 (foreign (pool.Own q) k e) up.3 (apart_at looks (pool_of_pool p q) up.0 (omega (arith, parent_rank p m q)) up.1 up.2)

  pub apart_from : (low : PoolRef) (k : ℕ) → pool_named r low ≡ Some k → is_under r.shared.pools n k ≡ false
  apart_from low k e = elim (cases_Bool (is_live r.shared.pools k)) [
    | inl live ↦ apart_at (suc (rank low)) low k (omega arith) e live
    | inr dead ↦ dead_under r.shared.pools n k dead
  ]

-- an instance's pool variable names its pool
pub own_is : (g : Common) (c : Connection) (w : Frame) (q m : ℕ) → (c.instances w.of).pools q ≡ poolvar.Made m → pool_named (configuration g c w) (pool.Own q) ≡ Some m
unfolding named_at configuration
own_is g c w q m at = ap name_in at

module _ (chain : List Program) (g : Common) (c : Connection) (proper : (k : ℕ) → IsModule (module_at chain k)) (h : ChainPools chain g c) where
  -- the connection's pool stands under none that an instance made
  pub above_conn : (f : Frame) (q n : ℕ) → (c.instances f.of).pools q ≡ poolvar.Made n → is_under (pools_of g c) n c.conn ≡ false
  unfolding configuration
  above_conn f q n at = not_under n (pools_of g c) c.conn (formed_older (pools_of g c) (h.sound f).formed) ((h.sound f).own q n at).0

  -- what an instance makes no other names
  pub foreign_own : (f w : Frame) (q n : ℕ) → f.of ≢ w.of → (c.instances f.of).pools q ≡ poolvar.Made n → (k : PoolRef) (j : ℕ) → pool_named (configuration g c w) k ≡ Some j → j ≢ n
  unfolding named_at configuration
  foreign_own f w q n differ at pool.Conn j e same = (let lt : c.conn < n = ((h.sound f).own q n at).0 in absurd (omega (arith, some_is c.conn j e, same)))
  foreign_own f w q n differ at pool.Req j e same = ((h.sound f).own q n at).2 (e ∙ ap (λ (k : ℕ). Some k) same)
  foreign_own f w q n differ at (pool.Own s) j e same = differ (h.apart f.of w.of q s n at (own_named s n (configuration g c w) (e ∙ ap (λ (k : ℕ). Some k) same)))

  -- nothing that another instance names stands under a pool of this one
  pub under_no_other : (f w : Frame) (q n : ℕ) → f.of ≢ w.of → (c.instances f.of).pools q ≡ poolvar.Made n → (low : PoolRef) (k : ℕ) → pool_named (configuration g c w) low ≡ Some k
      → is_under (pools_of g c) n k ≡ false
  unfolding configuration
  under_no_other f w q n differ at low k e =
      apart_from (module_at chain w.of) (configuration g c w) (proper w.of) (h.sound w) (h.declared w) n (foreign_own f w q n differ at) (above_conn f q n at) low k e

  -- nor the open request's pool
  pub under_no_request : (f : Frame) (q n m : ℕ) → (c.instances f.of).pools q ≡ poolvar.Made n → c.req ≡ Some m → is_under (pools_of g c) n m ≡ false
  unfolding configuration
  under_no_request f q n m at is = step_apart (pools_of g c) n m c.conn (λ same. ((h.sound f).own q n at).2 (is ∙ ap (λ (k : ℕ). Some k) same)) ((h.sound f).req m is).0 (above_conn f q n at)
