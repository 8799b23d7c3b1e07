-- A step on a pool that may be named, case by case, and what a sound state says of the pools that are named.
use Rattle.std.proofs.Common.{◌≡◌, ℕ, ◌<◌, Bool, true, false, cond, List, [], ◌∷◌, ◌++◌, Option, Some, None, refl}
use Rattle.module_code.specs.declared.instr.PoolRef.TheVariants as pool
use Rattle.module_code.specs.declared.instr.Value.{Value}
use Rattle.module_code.specs.Program.{Program, pool_of_pool}
use Rattle.run_model.specs.declared.bucket.Brigade.{Brigade}
use Rattle.run_model.specs.declared.bucket.BrigadeVar.{BrigadeVar}
use Rattle.run_model.specs.declared.bucket.BrigadeVar.TheVariants as var
use Rattle.run_model.specs.declared.bucket.PoolVar.{PoolVar}
use Rattle.run_model.specs.declared.bucket.PoolVar.TheVariants as poolvar
use Rattle.run_model.specs.Pools.{created}
use Rattle.run_model.specs.State.{named_at, Configuration, set_pool, with_pools, name_in, pool_named}
use Rattle.run_model.specs.Steps.{made_on, on_pool, do_pcreate, value_of, is_full, do_put}
use Rattle.run_model.specs.Sound.{SoundPools, brigade_pool}
use Rattle.run_model.proofs.Formed.{path_live}

-- what holds where no pool is named, and where one is, of what is done to it
pub on_named : (P : Configuration → Type 0) (change : ℕ → Configuration → Configuration) (o : Option ℕ) (r : Configuration) → P r → ((n : ℕ) → o ≡ Some n → P (change n r)) → P (on_pool change o r)
on_named P change None r none some = none
on_named P change (Some n) r none some = some n refl

-- r with another buffer
abbrev pub with_buffer : List ℕ → Configuration → Configuration
with_buffer buffer r = record r { call = record r.call { buffer = buffer } }

-- what holds where nothing is put into the buffer, and where something is
pub put_keeps : (P : Configuration → Type 0) (x : Value) (r : Configuration) → P r → ((buffer : List ℕ) → P (with_buffer buffer r)) → P (do_put x r)
put_keeps P x r full fits = by_test (is_full r x) where
  by_test : (b : Bool) → P (cond b r (with_buffer (r.call.buffer ++ value_of r x ∷ []) r))
  by_test true = full
  by_test false = fits (r.call.buffer ++ value_of r x ∷ [])

abbrev made : ℕ → Configuration → Option ℕ → Configuration
made q r None = r
made q r (Some parent) = set_pool q (poolvar.Made r.shared.pools.next) (with_pools (created parent r.shared.pools) r)

-- the same of a new pool
pub made_under_named : (P : Configuration → Type 0) (p : Program) (q : ℕ) (r : Configuration) → P r
    → ((parent : ℕ) → pool_named r (pool_of_pool p q) ≡ Some parent → P (set_pool q (poolvar.Made r.shared.pools.next) (with_pools (created parent r.shared.pools) r)))
    → P (do_pcreate p q r)
made_under_named P p q r none some = by_parent (pool_named r (pool_of_pool p q)) refl where
  by_parent : (o : Option ℕ) → pool_named r (pool_of_pool p q) ≡ o → P (made q r o)
  by_parent None is = none
  by_parent (Some parent) is = some parent is

-- the variable of a pool that is named
pub own_named : (q n : ℕ) (r : Configuration) → pool_named r (pool.Own q) ≡ Some n → r.instance.pools q ≡ poolvar.Made n
unfolding named_at
own_named q n r e = in_var (r.instance.pools q) e where
  in_var : (v : PoolVar) → name_in v ≡ Some n → v ≡ poolvar.Made n
  in_var poolvar.Null e = absurd (cc)
  in_var (poolvar.Made m) e = cc

pub conn_given : (r : Configuration) → SoundPools r → r.shared.conn < r.shared.pools.next
conn_given r s = s.formed.named r.shared.conn s.conn

pub req_given : (r : Configuration) (m : ℕ) → r.shared.req ≡ Some m → SoundPools r → m < r.shared.pools.next
req_given r m is s = s.formed.named m (path_live r.shared.pools m m (r.shared.pools.path r.shared.conn) (s.req m is).0)

-- the pool of a brigade, as a step reads it
pub made_is : (v : BrigadeVar) → made_on v ≡ brigade_pool v
made_is var.Null = refl
made_is var.Gone = refl
made_is (var.Live v) = refl

-- a brigade that lies on a pool is live
pub live_pool : (v : BrigadeVar) (n : ℕ) → brigade_pool v ≡ Some n → (w : Brigade) × (v ≡ var.Live w) × (w.on ≡ Some n)
live_pool var.Null n e = absurd (cc)
live_pool var.Gone n e = absurd (cc)
live_pool (var.Live w) n e = (w, refl, e)

pub not_both : (o : Option ℕ) (n : ℕ) → o ≡ None → o ≡ Some n → ⊥
not_both o n none some = cc
