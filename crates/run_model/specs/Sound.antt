-- What is true of each run: every name once, new names new, buckets as their kinds have them, brigades on live pools.
use Rattle.std.specs.Prelude.{◌⊎◌, ◌≡◌, ◌≢◌, ◌∷◌, ℕ, zero, suc, ◌+◌, ◌^◌, ◌<◌, ◌≤◌, true, ◌==◌, List, Option, Some, None, All, count_by}
use Rattle.run_model.specs.declared.bucket.NamedBucket.{NamedBucket}
use Rattle.run_model.specs.declared.bucket.BrigadeVar.{BrigadeVar}
use Rattle.run_model.specs.declared.bucket.BrigadeVar.TheVariants as var
use Rattle.run_model.specs.declared.bucket.PoolVar.TheVariants as poolvar
use Rattle.run_model.specs.Pools.{is_live}
use Rattle.run_model.specs.RunOrder.{IsPoolMap}
use Rattle.run_model.specs.Cutting.{FitsKind}
use Rattle.run_model.specs.State.{Configuration, items_of}

-- the sum of f over the numbers below n
unfoldable pub sum_below : ℕ → (ℕ → ℕ) → ℕ
sum_below zero f = 0
sum_below (suc n) f = f n + sum_below n f

-- how many buckets of a list have this name
unfoldable pub count_named : ℕ → List NamedBucket → ℕ
count_named n items = count_by (λ b. b.name == n) items

-- how many buckets have this name: in the brigades and among the loose ones
abbrev pub count : Configuration → ℕ → ℕ
count r n = count_named n r.call.loose + sum_below 9 (λ b. count_named n (items_of (r.instance.brigades b)))

-- the name of the brigade in a variable, and the pool that it is made on
abbrev pub brigade_name : BrigadeVar → Option ℕ
brigade_name var.Null = None
brigade_name var.Gone = None
brigade_name (var.Live v) = Some v.name

abbrev pub brigade_pool : BrigadeVar → Option ℕ
brigade_pool var.Null = None
brigade_pool var.Gone = None
brigade_pool (var.Live v) = v.on

-- Names. once: a name is one bucket's at most. fresh: a name that was not given out is no bucket's. apart, given:
-- likewise of brigades. limit: names stay below 2^64. slots: there are nine brigade variables.
pub record SoundNames (r : Configuration) : Type 0 where
  pub once : (n : ℕ) → count r n ≤ 1
  pub fresh : (n : ℕ) → r.shared.next ≤ n → count r n ≡ 0
  pub apart : (b c n : ℕ) → brigade_name (r.instance.brigades b) ≡ Some n → brigade_name (r.instance.brigades c) ≡ Some n → b ≡ c
  pub given : (b n : ℕ) → brigade_name (r.instance.brigades b) ≡ Some n → n < r.shared.next
  pub limit : r.shared.next < 2 ^ 64
  pub slots : (b : ℕ) → 9 ≤ b → r.instance.brigades b ≡ var.Null

-- What a change does to names, said of what was there and of what is new. rises, limit: names rise, and stay below 2^64.
-- old: a name that was given out has no more buckets than before. born: one that was not, and was no bucket's, has one at
-- most. fresh: one that is still not given out has none. named: a brigade's name was in that variable before, or is new.
-- apart: of two variables that hold one name, one held it before, or they are one. slots: a variable from 9 on stays null.
pub record NamesStep (r new : Configuration) : Type 0 where
  pub rises : r.shared.next ≤ new.shared.next
  pub limit : new.shared.next < 2 ^ 64
  pub old : (n : ℕ) → n < r.shared.next → count new n ≤ count r n
  pub born : (n : ℕ) → r.shared.next ≤ n → count r n ≡ 0 → count new n ≤ 1
  pub fresh : (n : ℕ) → new.shared.next ≤ n → count r n ≡ 0 → count new n ≡ 0
  pub named : (b n : ℕ) → brigade_name (new.instance.brigades b) ≡ Some n → (brigade_name (r.instance.brigades b) ≡ Some n) ⊎ ((r.shared.next ≤ n) × (n < new.shared.next))
  pub apart : (b c n : ℕ) → brigade_name (new.instance.brigades b) ≡ Some n → brigade_name (new.instance.brigades c) ≡ Some n
      → (brigade_name (r.instance.brigades b) ≡ Some n) ⊎ ((brigade_name (r.instance.brigades c) ≡ Some n) ⊎ (b ≡ c))
  pub slots : (b : ℕ) → 9 ≤ b → r.instance.brigades b ≡ var.Null → new.instance.brigades b ≡ var.Null

-- Content and home of each bucket fit its kind.
pub record SoundBuckets (r : Configuration) : Type 0 where
  pub brigades : (b : ℕ) → All (λ x. FitsKind x.bucket) (items_of (r.instance.brigades b))
  pub loose : All (λ x. FitsKind x.bucket) r.call.loose

-- Pools. formed: the pools are a tree, in which what stands above a pool is older, and names that were not given out are no
-- pool's. conn, req: the connection's pool is live, and an open request's is a child of it. own: a pool that the module
-- made is neither of the two, and newer than the connection's. brigades: a brigade lies on a live pool.
pub record SoundPools (r : Configuration) : Type 0 where
  pub limit : r.shared.pools.next < 2 ^ 64
  pub formed : IsPoolMap r.shared.pools
  pub conn : is_live r.shared.pools r.shared.conn ≡ true
  pub req : (n : ℕ) → r.shared.req ≡ Some n → (r.shared.pools.path n ≡ n ∷ r.shared.pools.path r.shared.conn) × (r.shared.conn < n)
  pub own : (q n : ℕ) → r.instance.pools q ≡ poolvar.Made n → (r.shared.conn < n) × (n < r.shared.pools.next) × (r.shared.req ≢ Some n)
  pub brigades : (b n : ℕ) → brigade_pool (r.instance.brigades b) ≡ Some n → is_live r.shared.pools n ≡ true

pub record Sound (r : Configuration) : Type 0 where
  pub names : SoundNames r
  pub buckets : SoundBuckets r
  pub pools : SoundPools r
