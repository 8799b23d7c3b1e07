-- A pool is cleared, or it is destroyed: what both leave alike.
use Rattle.std.proofs.Common.{◌≡◌, ℕ, true, false, not, Some, inl, inr, sym, ◌∙◌, ap, subst, List}
use Rattle.std.proofs.lemmas.Bool.{cases_eq}
use Rattle.module_code.specs.declared.instr.PoolRef.TheVariants as pool
use Rattle.run_model.specs.declared.payload.Payload.{Payload}
use Rattle.run_model.specs.Pools.{Pools, is_empty, is_live, is_under, cleared, destroyed}
use Rattle.run_model.specs.RunOrder.{IsPoolMap}
use Rattle.run_model.specs.Clearing.{run_down}
use Rattle.run_model.specs.State.{Configuration, with_pools, pool_named}
use Rattle.run_model.specs.declared.effect.ClearKind.{ClearKind}
use Rattle.run_model.specs.declared.effect.ClearKind.TheVariants.{Clear, Destroy}
use Rattle.run_model.specs.Effects.{after_clear, pools_after}
use Rattle.run_model.specs.Steps.{on_pool, files_let_go}
use Rattle.run_model.proofs.PoolMap.{live_path, cleared_apart, cleared_itself, cleared_under, destroyed_apart, destroyed_under}
use Rattle.run_model.proofs.Formed.{cleared_formed, destroyed_formed}
use Rattle.run_model.proofs.References.{Emptied, cleared_emptied, destroyed_emptied}
use Rattle.model_laws.proofs.NamedPools.{on_named}

-- What is left of the pool map. payloads: none under n, and elsewhere they are as they were. formed: it is one. apart: elsewhere pools are as
-- they were. stays: what is still live under n is n itself, as it was.
pub record Emptying (n : ℕ) (ps left : Pools Payload) : Type 0 where
  pub payloads : Emptied n ps left
  pub formed : IsPoolMap ps → IsPoolMap left
  pub apart : (k : ℕ) → is_under ps n k ≡ false → left.path k ≡ ps.path k
  pub stays : (k : ℕ) → is_under ps n k ≡ true → is_live left k ≡ true → (k ≡ n) × (left.path k ≡ ps.path k)

pub cleared_so : (n : ℕ) (ps : Pools Payload) → Emptying n ps (cleared n ps)
cleared_so n ps = record {
  payloads = cleared_emptied n ps;
  formed = cleared_formed n ps;
  apart = λ k off. (cleared_apart n ps k off).0;
  stays = λ k under live. elim (cases_eq k n) [
    | inl is ↦ (is, subst (λ (x : ℕ). (cleared n ps).path x ≡ ps.path x) (sym is) (cleared_itself n ps))
    | inr ne ↦ absurd (live_path (cleared n ps) k live (cleared_under n ps k under ne))
  ];
}

pub destroyed_so : (n : ℕ) (ps : Pools Payload) → Emptying n ps (destroyed n ps)
destroyed_so n ps = record {
  payloads = destroyed_emptied n ps;
  formed = destroyed_formed n ps;
  apart = λ k off. (destroyed_apart n ps k off).0;
  stays = λ k under live. absurd (live_path (destroyed n ps) k live (destroyed_under n ps k under).0);
}

-- a pool elsewhere stays live
pub apart_lives : (n : ℕ) (ps left : Pools Payload) → Emptying n ps left → (k : ℕ) → is_under ps n k ≡ false → is_live ps k ≡ true → is_live left k ≡ true
unfolding is_live
apart_lives n ps left so k off live = ap (λ (path : List ℕ). not (is_empty path)) (so.apart k off) ∙ live

-- what is left of the state
abbrev pub pool_emptied : Pools Payload → ℕ → Configuration → Configuration
pool_emptied left n r = files_let_go n r (with_pools left (run_down n r))

pub emptied_so : (k : ClearKind) (n : ℕ) (ps : Pools Payload) → Emptying n ps (pools_after k n ps)
emptied_so Clear = cleared_so
emptied_so Destroy = destroyed_so

-- what holds where an own pool is cleared or destroyed
pub on_emptied : (P : Configuration → Type 0) (k : ClearKind) (q : ℕ) (r : Configuration) → P r
    → ((n : ℕ) (left : Pools Payload) → pool_named r (pool.Own q) ≡ Some n → Emptying n r.shared.pools left → P (pool_emptied left n r))
    → P (on_pool (after_clear k) (pool_named r (pool.Own q)) r)
on_emptied P k q r none some = on_named P (after_clear k) (pool_named r (pool.Own q)) r none (λ n is. some n (pools_after k n r.shared.pools) is (emptied_so k n r.shared.pools))
