-- What a clear of a pool hands on, and in which order (apr_pool_clear): its pre-payloads, then the subpools, the newest before
-- the older ones, then its plain payloads; of each kind the payload first that was registered last.
use Rattle.std.specs.Prelude.{◌≡◌, ℕ, zero, suc, ◌<◌, Bool, true, false, ◌==◌, if◌then◌else◌, Option, None, Some, List, [], ◌∷◌, ◌++◌, map, reverse}
use Rattle.std.specs.List.{flat_map, list_any}
use Rattle.run_model.specs.Indexed.{upd}
use Rattle.run_model.specs.declared.effect.CleanupKind.{CleanupKind}
use Rattle.run_model.specs.declared.effect.CleanupKind.TheVariants.{Plain, Pre}
use Rattle.run_model.specs.Pools.{Pools, Cleanups, no_cleanups, held_as, is_live}

-- whether a path is that of a child of p
abbrev pub leads_to : ℕ → List ℕ → Bool
leads_to p [] = false
leads_to p (n ∷ []) = false
leads_to p (n ∷ parent ∷ above) = parent == p

-- whether the pool n is a child of p
unfoldable pub is_child : {T : Type 0} → Pools T → ℕ → ℕ → Bool
is_child ps p n = leads_to p (ps.path n)

-- the children of p with names below a bound, newest first
unfoldable pub children_below : {T : Type 0} → Pools T → ℕ → ℕ → List ℕ
children_below ps p zero = []
children_below ps p (suc n) = if is_child ps p n then n ∷ children_below ps p n else children_below ps p n

-- the children of p, newest first
abbrev pub children : {T : Type 0} → Pools T → ℕ → List ℕ
children ps p = children_below ps p ps.next

-- the pre-payloads of p alone, last first, each with its pool
unfoldable pub pre_run : {T : Type 0} → Pools T → ℕ → List (ℕ × T)
pre_run ps p = map (λ x. (p, x)) (reverse (ps.payloads p).pre)

-- the plain payloads of p alone, last first, each with its pool
unfoldable pub own_run : {T : Type 0} → Pools T → ℕ → List (ℕ × T)
own_run ps p = map (λ x. (p, x)) (reverse (ps.payloads p).plain)

-- the run order of p down to a depth
unfoldable pub runs_within : {T : Type 0} → ℕ → Pools T → ℕ → List (ℕ × T)
runs_within zero ps p = []
runs_within (suc depth) ps p = pre_run ps p ++ (flat_map (runs_within depth ps) (children ps p) ++ own_run ps p)

-- The run order of p: its pre-payloads, last first; then that of each child, the newest first; and then its plain payloads, last
-- first. A child's name is greater than its parent's, so no pool lies deeper than there are names.
unfoldable pub run_order : {T : Type 0} → Pools T → ℕ → List (ℕ × T)
run_order ps p = runs_within ps.next ps p

-- the pools of the run order down to a depth, by their plain payloads
unfoldable pub order_within : {T : Type 0} → ℕ → Pools T → ℕ → List ℕ
order_within zero ps p = []
order_within (suc depth) ps p = flat_map (order_within depth ps) (children ps p) ++ p ∷ []

-- the pools of the run order of p
unfoldable pub order : {T : Type 0} → Pools T → ℕ → List ℕ
order ps p = order_within ps.next ps p

-- the pools of the run order of p, without p itself
unfoldable pub order_under : {T : Type 0} → Pools T → ℕ → List ℕ
order_under ps p = flat_map (order ps) (children ps p)

-- In the run order a pool has two turns: the pre-payloads are handed on before those of the pools under it, the plain ones after them.
abbrev pub Turn : Type 0
Turn = ℕ × CleanupKind

-- whether a turn is of the pool n
abbrev pub turns_at : ℕ → Turn → Bool
turns_at n turn = turn.0 == n

-- the two turns of a pool
abbrev pub both_turns : ℕ → List Turn
both_turns n = (n, Pre) ∷ (n, Plain) ∷ []

-- what is handed on in a turn
unfoldable pub turn_run : {T : Type 0} → Pools T → Turn → List (ℕ × T)
turn_run ps turn = map (λ x. (turn.0, x)) (reverse (held_as turn.1 (ps.payloads turn.0)))

-- the turns of the run order down to a depth
unfoldable pub turns_within : {T : Type 0} → ℕ → Pools T → ℕ → List Turn
turns_within zero ps p = []
turns_within (suc depth) ps p = (p, Pre) ∷ (flat_map (turns_within depth ps) (children ps p) ++ (p, Plain) ∷ [])

-- the turns of the run order of p
unfoldable pub turns : {T : Type 0} → Pools T → ℕ → List Turn
turns ps p = turns_within ps.next ps p

-- the turns of the run order of p, without its own
unfoldable pub turns_under : {T : Type 0} → Pools T → ℕ → List Turn
turns_under ps p = flat_map (turns ps) (children ps p)

-- the last item that passes a test
unfoldable pub last_that : {X : Type 0} → (X → Bool) → List X → Option X
last_that test [] = None
last_that test (x ∷ xs) = if list_any test xs then last_that test xs else if test x then Some x else None

-- the list without that item
unfoldable pub without_last : {X : Type 0} → (X → Bool) → List X → List X
without_last test [] = []
without_last test (x ∷ xs) = if list_any test xs then x ∷ without_last test xs else if test x then xs else x ∷ xs

-- apr_pool_cleanup_kill: of the plain payloads of p that pass a test, the one that would run first goes
unfoldable pub killed : {T : Type 0} → ℕ → (T → Bool) → Pools T → Pools T
killed p test ps = record ps { payloads = upd ps.payloads p (record (ps.payloads p) { plain = without_last test (ps.payloads p).plain }) }

-- What is true of each pool map that the calls make: a path begins with its own pool, its rest is the path of the
-- pool above, which has a smaller name, no two pools are at the top, and a name with no path has no payload.
pub record IsPoolMap {T : Type 0} (ps : Pools T) : Type 0 where
  pub first : (n m : ℕ) (above : List ℕ) → ps.path n ≡ m ∷ above → m ≡ n
  pub rises : (n m p : ℕ) (above : List ℕ) → ps.path n ≡ m ∷ p ∷ above → p < n
  pub closed : (n m p : ℕ) (above : List ℕ) → ps.path n ≡ m ∷ p ∷ above → ps.path p ≡ p ∷ above
  pub alone : (n m k l : ℕ) → ps.path n ≡ k ∷ [] → ps.path m ≡ l ∷ [] → n ≡ m
  pub named : (n : ℕ) → is_live ps n ≡ true → n < ps.next
  pub bare : (n : ℕ) → ps.path n ≡ [] → ps.payloads n ≡ no_cleanups
