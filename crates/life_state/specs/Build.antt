-- States that are put together, part by part.
use Rattle.std.specs.Prelude.{ℕ, Bool, true}
use Rattle.run_model.specs.Indexed.{upd}
use Rattle.life_state.specs.States.{CursorKnown, State}

abbrev pub with_sent : Bool → State → State
with_sent sent s = record s { sent = sent }

-- a cursor is there; the facts stay
abbrev pub with_cursor : ℕ → CursorKnown → State → State
with_cursor c v s = record s { cursors = upd s.cursors c v }

-- it is written of c that it is at another bucket than d
abbrev pub with_fact : ℕ → ℕ → State → State
with_fact c d s = record s { facts = upd s.facts c (upd (s.facts c) d true) }
