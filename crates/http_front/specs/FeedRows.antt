-- What is brought of a file, and what a request comes to by how its calls ended, worked out by hand.
use Rattle.std.specs.Prelude.{◌≡◌, ℕ, List, [], ◌∷◌, None, Some, Ok, Err}
use Rattle.module_code.specs.Program.{Program}
use Rattle.module_code.specs.declared.instr.Status.TheVariants as call
use Rattle.run_model.specs.declared.event.Cause.{Cause}
use Rattle.run_model.specs.declared.event.Cause.TheVariants as cause
use Rattle.run_model.specs.declared.event.Piece.TheVariants as piece
use Rattle.run_model.specs.declared.event.Refusal.TheVariants as refusal
use Rattle.run_model.specs.declared.event.Stepped.TheVariants as stepped
use Rattle.filter_chain.specs.HostViews.{HostView}
use Rattle.http_message.specs.declared.failure.Failure.{Failure}
use Rattle.http_message.specs.declared.failure.Failure.TheVariants as failure
use Rattle.http_message.specs.declared.reply.Method.TheVariants.{Head}
use Rattle.http_front.specs.declared.handler.RequestOutcome.{RequestOutcome}
use Rattle.http_front.specs.Requests.{Finishes, brigades_for, brigades_of, ended_of, unopened}
use Rattle.http_front.specs.Rows.{failed}
use Rattle.http_front.specs.declared.running.CallEnd.TheVariants as ended

-- the host refused what was needed, since the connection is broken
abbrev pub broken : Cause → Failure
broken why = failure.Refused (refusal.Broken why)

-- The brigades of file 1: of no byte, of 2, of 65536 and of 65537; HEAD wants none.
pub record FileRows : Type 0 where
  pub empty : brigades_of 1 0 ≡ (piece.Eos ∷ []) ∷ []
  pub small : brigades_of 1 2 ≡ (piece.File 1 0 2 ∷ piece.Eos ∷ []) ∷ []
  pub full : brigades_of 1 65536 ≡ (piece.File 1 0 65536 ∷ piece.Eos ∷ []) ∷ []
  pub large : brigades_of 1 65537 ≡ (piece.File 1 0 65536 ∷ []) ∷ (piece.File 1 65536 1 ∷ piece.Eos ∷ []) ∷ []
  pub head : brigades_for Head (1, 2) ≡ []

-- A call that succeeded, one of a filter that failed, and one that used up its budget. The last two come to 500, each with its cause. A file
-- that is not there is no failure, and one that the device does not open is.
pub record CallRows : Type 0 where
  pub succeeded : ended_of (Ok (stepped.CallEnded call.Success)) ≡ ended.Succeeded
  pub fail : ended_of (Ok (stepped.CallEnded call.Fail)) ≡ ended.Failed failure.Filter
  pub budget : ended_of (Err (refusal.Broken cause.OutOfSteps)) ≡ ended.Broke (broken cause.OutOfSteps)
  pub after_fail : (budget : ℕ) (chain : List Program) (number : ℕ) (old : HostView) (o : RequestOutcome) (new : HostView)
      → Finishes budget chain number (ended.Failed failure.Filter) old o new → o ≡ failed failure.Filter
  pub after_break : (budget : ℕ) (chain : List Program) (number : ℕ) (old : HostView) (o : RequestOutcome) (new : HostView)
      → Finishes budget chain number (ended.Broke (broken cause.OutOfSteps)) old o new → (o ≡ failed (broken cause.OutOfSteps)) × (new ≡ old)
  pub not_there : unopened refusal.NoFile ≡ None
  pub not_opened : unopened refusal.FileFailed ≡ Some (failure.Refused refusal.FileFailed)
