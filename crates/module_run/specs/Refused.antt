-- What refuses an event, by what a connection has, but for memory.
use Rattle.std.specs.Prelude.{ℕ, ◌+◌, Bool, ◌||◌, not, List, [], ◌∷◌, length, Option, is_some}
use Rattle.std.specs.List.{list_any}
use Rattle.run_model.specs.declared.event.Cause.{Cause}
use Rattle.run_model.specs.declared.event.Piece.{Piece}
use Rattle.run_model.specs.declared.event.Refusal.{Refusal}
use Rattle.run_model.specs.declared.event.Refusal.TheVariants as refusal
use Rattle.run_model.specs.Refusals.{refused_if, if_broken}
use Rattle.run_model.specs.Pieces.{data_behind_eos, lacks_file}
use Rattle.run_model.specs.Steps.{is_spent}

-- Why a request does not begin, where these are the next names of a pool and of a call.
abbrev pub begin_tests : Option Cause → Bool → Option ℕ → ℕ → ℕ → List (Option Refusal)
begin_tests broken busy req pools next =
    if_broken broken
    ∷ (refused_if busy refusal.Busy
    ∷ (refused_if (is_some req) refusal.InRequest
    ∷ (refused_if (is_spent pools 1 || is_spent next 1) refusal.NamesSpent ∷ [])))

-- Why an event is refused that needs an open request and no running call.
abbrev pub request_tests : Option Cause → Bool → Option ℕ → List (Option Refusal)
request_tests broken busy req =
    if_broken broken
    ∷ (refused_if busy refusal.Busy
    ∷ (refused_if (not (is_some req)) refusal.NotInRequest ∷ []))

-- Why pieces are not brought, where these are the files of the request with their lengths, and the next name.
abbrev pub bring_tests : Option Cause → Bool → Option ℕ → List (ℕ × ℕ) → ℕ → List Piece → List (Option Refusal)
bring_tests broken busy req files next pieces =
    if_broken broken
    ∷ (refused_if busy refusal.Busy
    ∷ (refused_if (not (is_some req)) refusal.NotInRequest
    ∷ (refused_if (data_behind_eos pieces) refusal.DataAfterEos
    ∷ (refused_if (list_any (lacks_file files) pieces) refusal.NoFile
    ∷ (refused_if (is_spent next (2 + length pieces)) refusal.NamesSpent ∷ [])))))
