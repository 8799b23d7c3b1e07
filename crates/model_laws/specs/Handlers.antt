-- The calls of a chain: where each begins, that it stays in its handler, and that a request is open exactly outside `open`.
use Rattle.std.specs.Prelude.{◌≡◌, ℕ, ◌+◌, ◌<◌, ◌≤◌, Bool, false, ◌⊎◌, List, [], ◌∷◌, length, map, Some, All}
use Rattle.module_code.specs.Program.{Program}
use Rattle.run_model.specs.declared.bucket.NamedBucket.{NamedBucket}
use Rattle.run_model.specs.declared.event.Event.{Event}
use Rattle.run_model.specs.declared.event.Piece.{Piece}
use Rattle.run_model.specs.State.{fresh_call}
use Rattle.run_model.specs.Chains.{Frame, Connection, Common, module_at, is_last, touched_frame, IsChain, place_from, next_place}
use Rattle.run_model.specs.Passing.{Reads, handler_at}
use Rattle.run_model.specs.Turns.{opened, begun, brought_in, steps}
use Rattle.run_model.specs.Worlds.{World, Answer, IsWholeRun}
use Rattle.model_laws.specs.ChainSound.{IsFramePlaced, WaitsAtPass}

-- The code of a handler, `open`, `init` or `main`: from its first instruction to that behind its last.
abbrev pub IsHandlerCode : Program → ℕ → ℕ → Type 0
IsHandlerCode p from to = ((from ≡ 0) × (to ≡ p.init)) ⊎ (((from ≡ p.init) × (to ≡ p.main)) ⊎ ((from ≡ p.main) × (to ≡ length p.code)))

abbrev pub LiesBetween : ℕ → ℕ → ℕ → Type 0
LiesBetween from to pc = (from ≤ pc) × (pc < to)

-- a new call, of the module k, at this instruction
abbrev pub new_call : Common → ℕ → ℕ → Frame
new_call g k pc = record { of = k; call = fresh_call g.next; pc = pc }

-- An opening begins a call of the first module at `open`, a request at `init`, and a brigade one at `main` of the first
-- that has not left, or one of the output filter; no other call is there.
abbrev pub CallsBegin : Type 0
CallsBegin = (chain : List Program) (pieces : List Piece) (req : ℕ) (g : Common) (c : Connection)
    → ((opened chain g).1.stack ≡ new_call g 0 0 ∷ []) × ((begun chain (g, c)).1.stack ≡ new_call g 0 (module_at chain 0).init ∷ [])
    × (let k = place_from chain c.instances 0 in (brought_in chain pieces req (g, c)).1.stack ≡ new_call g k (module_at chain k).main ∷ [])

-- A call goes on: it is the same one, and stands in the handler in which it stood.
pub record GoesOnIn (chain : List Program) (old new : Frame) : Type 0 where
  pub of : new.of ≡ old.of
  pub name : new.call.name ≡ old.call.name
  pub stays : (from to : ℕ) → IsHandlerCode (module_at chain old.of) from to → LiesBetween from to old.pc → LiesBetween from to new.pc

-- What a step makes of the calls of a connection, innermost first. (Of calls that wait loose buckets may change.)
pub data CallsAfter (chain : List Program) (g : Common) (c : Connection) : List Frame → List Frame → Type 0 where
  -- none runs; or the step is refused, has a fault or breaks the connection
  Stay : (fs : List Frame) → CallsAfter chain g c fs fs
  -- the call on top goes on
  GoesOn : (f new : Frame) (rest : List Frame) (bucket : NamedBucket → NamedBucket) → GoesOnIn chain f new → CallsAfter chain g c (f ∷ rest) (new ∷ map (touched_frame bucket) rest)
  -- it waits, and `main` of the next filter that has not left begins
  Passes : (f : Frame) (rest : List Frame) → is_last chain c f.of ≡ false → CallsAfter chain g c (f ∷ rest) (new_call g (next_place chain c f.of) (module_at chain (next_place chain c f.of)).main ∷ (f ∷ rest))
  -- it ends, and the call that waited for it goes on
  Returns : (f w new : Frame) (rest : List Frame) (bucket : NamedBucket → NamedBucket) → GoesOnIn chain w new → CallsAfter chain g c (f ∷ (w ∷ rest)) (new ∷ map (touched_frame bucket) rest)
  -- it ends, and the next module's begins, at `open` or at `init`
  Follows : (f : Frame) (k : ℕ) (ks : List ℕ) → c.queue ≡ k ∷ ks → CallsAfter chain g c (f ∷ []) (new_call g k (handler_at c.req (module_at chain k)) ∷ [])
  -- it ends, and no call is left
  Ends : (f : Frame) → c.queue ≡ [] → CallsAfter chain g c (f ∷ []) []

-- Each call stays in its handler as long as it runs or waits, and none begins but by a pass, or where the next module is due.
abbrev pub StepStaysInHandler : Type 0
StepStaysInHandler = (memory : Bool) (budget : ℕ) (chain : List Program) (reads : Reads) (g : Common) (c : Connection)
    → IsChain chain → ((f : Frame) (rest : List Frame) → c.stack ≡ f ∷ rest → All (WaitsAtPass chain) rest) → CallsAfter chain g c c.stack (steps memory budget chain reads (g, c)).1.1.stack

-- In each run a call is at an instruction of its module; no request is open in `open`, and one is in `init` and `main`.
abbrev pub RunPlacesCalls : Type 0
RunPlacesCalls = (budget : ℕ) (chain : List Program) (es : List (ℕ × Event)) (answers : List Answer) (w : World) (k : ℕ) (c : Connection)
    → IsChain chain → IsWholeRun budget chain es answers w → w.conns k ≡ Some c → All (IsFramePlaced chain c.req) c.stack
