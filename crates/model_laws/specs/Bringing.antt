-- No data stands behind an EOS of a brigade that was brought.
use Rattle.std.specs.Prelude.{◌≡◌, ℕ, Bool, true, false, List, [], Some, None}
use Rattle.module_code.specs.Program.{Program}
use Rattle.run_model.specs.declared.event.Piece.{Piece}
use Rattle.run_model.specs.declared.event.Refusal.TheVariants as refusal
use Rattle.run_model.specs.Buckets.{data_after_eos}
use Rattle.run_model.specs.State.{items_of}
use Rattle.run_model.specs.Pieces.{data_behind_eos}
use Rattle.run_model.specs.Chains.{Connection, Common, Linked, place_from}
use Rattle.run_model.specs.Turns.{brings}

-- Pieces with data behind an EOS are refused, where the connection is not broken, no call runs and a request is open.
abbrev pub LateDataIsRefused : Type 0
LateDataIsRefused = (memory : Bool) (chain : List Program) (pieces : List Piece) (g : Common) (c : Connection) (req : ℕ) → c.broken ≡ None → c.stack ≡ []
    → c.req ≡ Some req → data_behind_eos pieces ≡ true
    → brings memory chain pieces (g, c) ≡ (Some refusal.DataAfterEos, (g, c))

-- No data stands behind an EOS of a brigade that was brought: it is the `in` of the first filter that has not left, or of the output filter.
abbrev pub BroughtEndsOnce : Type 0
BroughtEndsOnce = (memory : Bool) (chain : List Program) (pieces : List Piece) (w new : Linked) → brings memory chain pieces w ≡ (None, new)
    → data_after_eos (items_of ((new.1.instances (place_from chain w.1.instances 0)).brigades 8)) ≡ false
