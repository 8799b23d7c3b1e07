-- A body that is read piece by piece, and the events that it is brought by.
use Rattle.std.specs.Prelude.{◌≡◌, ℕ, ◌<◌, ◌≤◌, List, [], ◌∷◌, ◌++◌, length, map, All}
use Rattle.std.specs.List.{concat}
use Rattle.run_model.specs.declared.event.Event.{Event}
use Rattle.run_model.specs.declared.event.Event.TheVariants as event
use Rattle.run_model.specs.declared.event.Piece.TheVariants as piece

-- what one read gives: a byte at least, and at most as many as a read of a FILE bucket gives
abbrev pub IsReadAtOnce : List ℕ → Type 0
IsReadAtOnce bytes = (0 < length bytes) × (length bytes ≤ 8000)

-- A body as it was read.
pub record IsReadIn (body : List ℕ) (reads : List (List ℕ)) : Type 0 where
  pub joined : body ≡ concat reads
  pub sizes : All IsReadAtOnce reads

-- the brigade of bytes that were read together: one HEAP bucket
abbrev pub brings_bytes : List ℕ → Event
brings_bytes bytes = event.Bring (piece.Heap bytes ∷ [])

-- the brigade behind the last bytes: an EOS
abbrev pub brings_eos : Event
brings_eos = event.Bring (piece.Eos ∷ [])

-- The request begins, and what each read gave is brought.
abbrev pub first_events : List (List ℕ) → List Event
first_events reads = event.Begin ∷ map brings_bytes reads

-- all events of a body
abbrev pub body_events : List (List ℕ) → List Event
body_events reads = first_events reads ++ brings_eos ∷ []
