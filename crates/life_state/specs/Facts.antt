-- Which cursors are at different buckets: facts that are written, and those that their places imply.
use Rattle.std.specs.Prelude.{ℕ, ◌+◌, Bool, true, false, ◌&&◌, ◌||◌, not, ◌==◌, if◌then◌else◌}
use Rattle.run_model.specs.Indexed.{upd}
use Rattle.life_state.specs.States.{CursorKnown, Unset, Loose, In, End, InOrEnd, State}

abbrev pub is_set : CursorKnown → Bool
is_set Unset = false
is_set (Loose s h) = true
is_set (In b s) = true
is_set (End b) = true
is_set (InOrEnd b s) = true

abbrev pub is_end : CursorKnown → Bool
is_end Unset = false
is_end (Loose s h) = false
is_end (In b s) = false
is_end (End b) = true
is_end (InOrEnd b s) = false

-- the place of a cursor that is set: 0 where its bucket is loose, 1 and more in a brigade
abbrev pub place_of : CursorKnown → ℕ
place_of Unset = 0
place_of (Loose s h) = 0
place_of (In b s) = b + 1
place_of (End b) = b + 1
place_of (InOrEnd b s) = b + 1

-- two set cursors stand at different places, or one is an end
abbrev pub is_apart : CursorKnown → CursorKnown → Bool
is_apart a b = is_set a && is_set b && (is_end a || is_end b || not (place_of a == place_of b))

-- two cursors are known to be at different buckets: it is written, or their places imply it
unfoldable pub known : State → ℕ → ℕ → Bool
known s c d = not (c == d) && (s.facts c d || is_apart (s.cursors c) (s.cursors d))

-- the facts to write: those that are kept, between set cursors, and not implied by their places
unfoldable pub facts_of : (ℕ → ℕ → Bool) → (ℕ → CursorKnown) → ℕ → ℕ → Bool
facts_of keep cursors c d =
    not (c == d) && keep c d && is_set (cursors c) && is_set (cursors d) && not (is_apart (cursors c) (cursors d))

-- the cursors change, and none of them is set: what was known stays known
unfoldable pub moved : (ℕ → CursorKnown) → State → State
moved cursors s = record s { cursors = cursors; facts = facts_of (known s) cursors }

-- what is known of two cursors, where c was set to a bucket that differs from those that pass the test
abbrev pub known_but : State → ℕ → (ℕ → Bool) → ℕ → ℕ → Bool
known_but s c new i j = if i == c then new j else (if j == c then new i else known s i j)

-- c is set: of its bucket is known that it is not that of the cursors that pass the test
unfoldable pub set_cursor : ℕ → CursorKnown → (ℕ → Bool) → State → State
set_cursor c v new s = record s { cursors = upd s.cursors c v; facts = facts_of (known_but s c new) (upd s.cursors c v) }

-- each other cursor that may be at c's bucket is unset
abbrev pub forgotten : State → ℕ → ℕ → CursorKnown
forgotten s c d = if d == c then s.cursors d else (if known s c d then s.cursors d else Unset)

-- c's bucket changes its place, or is destroyed: the others that may be at it are unset, and c becomes v
abbrev pub move_bucket : ℕ → CursorKnown → State → State
move_bucket c v s = moved (upd (forgotten s c) c v) s
