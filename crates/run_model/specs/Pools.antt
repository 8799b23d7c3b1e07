-- The pool map: which pools there are, where each stands in the tree, and what each has to hand on when it is
-- cleared (apr_pools.h: apr_pool_create, apr_pool_cleanup_register, apr_pool_clear, apr_pool_destroy).
use Rattle.std.specs.Prelude.{ℕ, ◌+◌, Bool, true, false, ◌&&◌, not, ◌==◌, if◌then◌else◌, List, [], ◌∷◌, ◌++◌}
use Rattle.std.specs.List.{list_any}
use Rattle.run_model.specs.Indexed.{upd}
use Rattle.run_model.specs.declared.effect.CleanupKind.{CleanupKind}
use Rattle.run_model.specs.declared.effect.CleanupKind.TheVariants.{Plain, Pre}

-- What a pool has to hand on when it is cleared. pre: before its subpools do (apr_pool_pre_cleanup_register). plain: after them.
-- Both stand oldest first.
pub record Cleanups (T : Type 0) : Type 0 where
  pub pre : List T
  pub plain : List T

abbrev pub no_cleanups : {T : Type 0} → Cleanups T
no_cleanups = record { pre = []; plain = [] }

-- all that it has to hand on
abbrev pub all_held : {T : Type 0} → Cleanups T → List T
all_held c = c.pre ++ c.plain

-- what it has of a kind
abbrev pub held_as : {T : Type 0} → CleanupKind → Cleanups T → List T
held_as Plain c = c.plain
held_as Pre c = c.pre

-- other plain ones
abbrev pub with_plain : {T : Type 0} → (List T → List T) → Cleanups T → Cleanups T
with_plain change c = record c { plain = change c.plain }

-- one more of a kind, the newest
abbrev pub with_one : {T : Type 0} → CleanupKind → T → Cleanups T → Cleanups T
with_one Plain x c = record c { plain = c.plain ++ x ∷ [] }
with_one Pre x c = record c { pre = c.pre ++ x ∷ [] }

-- A pool has a name. Its path is the pool itself and the pools above it, up to the root; a name with no path
-- is no pool. payloads: what each has to hand on. Names rise, and next is the first that was never given out.
pub record Pools (T : Type 0) : Type 0 where
  pub path : ℕ → List ℕ
  pub payloads : ℕ → Cleanups T
  pub next : ℕ

abbrev pub is_empty : {X : Type 0} → List X → Bool
is_empty [] = true
is_empty (x ∷ xs) = false

abbrev pub is_in : ℕ → List ℕ → Bool
is_in n names = list_any (λ m. m == n) names

-- whether there is a pool of this name
unfoldable pub is_live : {T : Type 0} → Pools T → ℕ → Bool
is_live ps n = not (is_empty (ps.path n))

-- whether the pool n is p or stands under it
unfoldable pub is_under : {T : Type 0} → Pools T → ℕ → ℕ → Bool
is_under ps p n = is_in p (ps.path n)

-- a tree of the one pool `first`
unfoldable pub planted : {T : Type 0} → ℕ → Pools T
planted first = record { path = upd (λ _. []) first (first ∷ []); payloads = λ _. no_cleanups; next = first + 1 }

-- apr_pool_create: a new pool under a parent
unfoldable pub created : {T : Type 0} → ℕ → Pools T → Pools T
created parent ps = record { path = upd ps.path ps.next (ps.next ∷ ps.path parent); payloads = upd ps.payloads ps.next no_cleanups; next = ps.next + 1 }

-- one more payload of a kind, the newest
unfoldable pub registered_as : {T : Type 0} → CleanupKind → ℕ → T → Pools T → Pools T
registered_as k p x ps = record ps { payloads = upd ps.payloads p (with_one k x (ps.payloads p)) }

-- apr_pool_cleanup_register
abbrev pub registered : {T : Type 0} → ℕ → T → Pools T → Pools T
registered p x ps = registered_as Plain p x ps

-- apr_pool_pre_cleanup_register
abbrev pub pre_registered : {T : Type 0} → ℕ → T → Pools T → Pools T
pre_registered p x ps = registered_as Pre p x ps

-- what is left when the pools that pass the test go: they have no path and no payloads
abbrev pub without_pools : {T : Type 0} → (ℕ → Bool) → Pools T → Pools T
without_pools goes ps = record ps { path = λ n. if goes n then [] else ps.path n; payloads = λ n. if goes n then no_cleanups else ps.payloads n }

-- apr_pool_destroy: the pool and all under it go
unfoldable pub destroyed : {T : Type 0} → ℕ → Pools T → Pools T
destroyed p ps = without_pools (is_under ps p) ps

-- apr_pool_clear: all under the pool go, and its own payloads of both kinds
unfoldable pub cleared : {T : Type 0} → ℕ → Pools T → Pools T
cleared p ps = record { path = λ n. if is_under ps p n && not (n == p) then [] else ps.path n; payloads = λ n. if is_under ps p n then no_cleanups else ps.payloads n; next = ps.next }
