-- What pools that go hand on, by their records.
use Rattle.std.specs.Prelude.{◌≡◌, ℕ, ◌==◌, if◌then◌else◌, Option, None, List, [], ◌∷◌, map, filter, reverse, drop}
use Rattle.std.specs.Option.{option_map}
use Rattle.run_model.specs.declared.effect.CleanupKind.{CleanupKind}
use Rattle.run_model.specs.declared.effect.CleanupKind.TheVariants.{Plain, Pre}
use Rattle.run_model.specs.Pools.{Pools, Cleanups, held_as}
use Rattle.run_model.specs.RunOrder.{children, Turn, turns_at, both_turns}
use Rattle.pool_tree.specs.declared.records.Pool.{Pool}
use Rattle.pool_tree.specs.Records.{cleanups, payloads_of}

-- what one pool hands on in a turn, last first, each with its pool
unfoldable pub own_of : {T : Type 0} → (ℕ → Option (Pool T)) → Turn → List (ℕ × T)
own_of records turn = map (λ x. (turn.0, x)) (reverse (held_as turn.1 (payloads_of records turn.0)))

-- Each pool's turns stand at most once in the list, the first before the last.
unfoldable pub IsOnce : List Turn → Type 0
IsOnce ts = (n : ℕ) → (k : ℕ) × (filter (turns_at n) ts ≡ drop k (both_turns n))

-- the links of a record, and what it has to hand on
pub record Seen (T : Type 0) : Type 0 where
  pub parent : Option ℕ
  pub newest : Option ℕ
  pub older : Option ℕ
  pub younger : Option ℕ
  pub held : Cleanups T

abbrev pub seen : {T : Type 0} → Pool T → Seen T
seen pool = record { parent = pool.parent; newest = pool.newest; older = pool.older; younger = pool.younger; held = cleanups pool }

unfoldable pub seen_of : {T : Type 0} → (ℕ → Option (Pool T)) → ℕ → Option (Seen T)
seen_of records n = option_map seen (records n)

abbrev pub without_pre : {T : Type 0} → Seen T → Seen T
without_pre s = record s { held = record s.held { pre = [] } }

-- what is left of a pool when it has had a turn: after the first all but its pre-payloads, after the last nothing
abbrev pub left_of_kind : {T : Type 0} → CleanupKind → Option (Seen T) → Option (Seen T)
left_of_kind Pre o = option_map without_pre o
left_of_kind Plain o = None

-- the same of the pool n, where any pool had a turn
unfoldable pub after_turn : {T : Type 0} → Turn → ℕ → Option (Seen T) → Option (Seen T)
after_turn turn n o = if turn.0 == n then left_of_kind turn.1 o else o

unfoldable pub after_turns : {T : Type 0} → List Turn → ℕ → Option (Seen T) → Option (Seen T)
after_turns [] n o = o
after_turns (turn ∷ turns) n o = after_turns turns n (after_turn turn n o)

-- what is still to be walked before a turn: before the last turn of a pool its first, and the last turns of its children
abbrev pub before_kind : {T : Type 0} → CleanupKind → Pools T → ℕ → List Turn
before_kind Pre ps n = []
before_kind Plain ps n = (n, Pre) ∷ map (λ c. (c, Plain)) (children ps n)

unfoldable pub before_turn : {T : Type 0} → Pools T → Turn → List Turn
before_turn ps turn = before_kind turn.1 ps turn.0
