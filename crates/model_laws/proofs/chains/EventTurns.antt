-- What an event makes of its connection: one of a few turns, each with what is known where it is taken.
use Rattle.std.proofs.Common.{◌≡◌, ℕ, ◌+◌, ◌^◌, ◌<◌, ◌≤◌, Bool, false, ◌||◌, not, List, [], ◌∷◌, length, Option, Some, None, is_some, Result, Ok, Err, refl, arith}
use Rattle.std.specs.List.{list_any}
use Rattle.module_code.specs.Program.{Program}
use Rattle.run_model.specs.declared.event.Cause.{Cause}
use Rattle.run_model.specs.declared.event.Cause.TheVariants as cause
use Rattle.run_model.specs.declared.event.Piece.{Piece}
use Rattle.run_model.specs.declared.event.Refusal.{Refusal}
use Rattle.run_model.specs.declared.event.Refusal.TheVariants as refusal
use Rattle.run_model.specs.Steps.{is_spent}
use Rattle.run_model.specs.Refusals.{first_refusal, if_broken}
use Rattle.run_model.specs.Pieces.{data_behind_eos, lacks_file}
use Rattle.run_model.specs.State.{Out}
use Rattle.run_model.specs.Chains.{Frame, Connection, Common, Linked, IsChain}
use Rattle.run_model.specs.Passing.{Reads}
use Rattle.run_model.specs.Turns.{Opening, Found, Missing, Failing, is_missing, is_failing, number_given, steps, unless_refused, is_busy, begun, begins, file_taken, file_answer, opens_file}
use Rattle.run_model.specs.Turns.{brought_in, brought, brings, request_over, ended, ends}
use Rattle.model_laws.specs.ChainLaws.{MayProceed, after_top}
use Rattle.model_laws.proofs.StepNames.{not_spent}
use Rattle.model_laws.proofs.StepFiles.{neither}
use Rattle.model_laws.proofs.EventAnswers.{unless_so, none_first, none_if}
use Rattle.model_laws.proofs.chains.StepCases.{step_cases}

-- a file that was opened has one of these lengths
abbrev pub OpensAs : (ℕ → Type 0) → Result (ℕ × ℕ) Refusal → Type 0
OpensAs Lengths (Ok f) = Lengths f.1
OpensAs Lengths (Err r) = Unit {0}

-- Lengths: which lengths an opened file may have.
pub data EventTurn (chain : List Program) (Lengths : ℕ → Type 0) (g : Common) (c : Connection) : Linked → Type 0 where
  -- nothing changes but the output, or why the connection is broken; one that is broken stays so
  Stood : (out : Out) (broken : Option Cause) → (broken ≡ None → c.broken ≡ None) → EventTurn chain Lengths g c (g, record c { out = out; broken = broken })
  -- the instruction of the call on top
  Went : (reads : Reads) (f : Frame) (rest : List Frame) → c.broken ≡ None → MayProceed chain g c f rest
      → EventTurn chain Lengths g c ((after_top chain reads g c f rest).0, record (after_top chain reads g c f rest).1 { count = (after_top chain reads g c f rest).1.count + 1 })
  -- a request begins
  Begun : c.broken ≡ None → c.stack ≡ [] → c.req ≡ None → g.pools + 1 < 2 ^ 64 → g.next + 1 < 2 ^ 64 → EventTurn chain Lengths g c (begun chain (g, c))
  -- a brigade is brought
  Brought : (pieces : List Piece) (req : ℕ) → c.broken ≡ None → c.stack ≡ [] → c.req ≡ Some req → list_any (lacks_file c.files) pieces ≡ false → g.next + (2 + length pieces) < 2 ^ 64
      → data_behind_eos pieces ≡ false → EventTurn chain Lengths g c (brought_in chain pieces req (g, c))
  -- a file is opened, under a number that was not given out
  FileTaken : (req file : ℕ) (bytes : List ℕ) → c.broken ≡ None → c.stack ≡ [] → c.req ≡ Some req → Lengths (length bytes) → g.file ≤ file → is_spent file 1 ≡ false
      → EventTurn chain Lengths g c (file_taken req file bytes (g, c))
  -- a request ends
  Ended : (req : ℕ) → c.broken ≡ None → c.stack ≡ [] → c.req ≡ Some req → EventTurn chain Lengths g c (request_over req (g, c))

pub SameTurn : {chain : List Program} {Lengths : ℕ → Type 0} {g : Common} {c : Connection} → EventTurn chain Lengths g c (g, c)
SameTurn {c = c} = Stood c.out c.broken (λ e. e)

-- the output is taken
pub Drained : {chain : List Program} {Lengths : ℕ → Type 0} {g : Common} {c : Connection} → EventTurn chain Lengths g c (g, record c { out = record c.out { bytes = [] } })
Drained {c = c} = Stood (record c.out { bytes = [] }) c.broken (λ e. e)

pub not_broken : (b : Option Cause) (ts : List (Option Refusal)) → first_refusal (if_broken b ∷ ts) ≡ None → b ≡ None
not_broken None ts h = refl
not_broken (Some k) ts h = absurd (cc)

pub not_busy : (fs : List Frame) → is_busy fs ≡ false → fs ≡ []
not_busy [] h = refl
not_busy (f ∷ fs) h = absurd (cc)

pub no_request : (req : Option ℕ) → is_some req ≡ false → req ≡ None
no_request None h = refl
no_request (Some n) h = absurd (cc)

module _ (chain : List Program) (Lengths : ℕ → Type 0) (g : Common) (c : Connection) where
  unless : (o : Option Refusal) (new : Linked) → (o ≡ None → EventTurn chain Lengths g c new) → EventTurn chain Lengths g c (unless_refused o (g, c) new).1
  unless o new made = unless_so (EventTurn chain Lengths g c) o (g, c) new SameTurn made

  pub begins_turn : (memory : Bool) → EventTurn chain Lengths g c (begins memory chain (g, c)).1
  unfolding begins
  begins_turn memory = unless _ (begun chain (g, c)) (λ none.
      let a = none_first (if_broken c.broken) _ none in
      let b = none_if (is_busy c.stack) refusal.Busy _ a in
      let d = none_if (is_some c.req) refusal.InRequest _ b.1 in
      let e = none_if (is_spent g.pools 1 || is_spent g.next 1) refusal.NamesSpent _ d.1 in
      let last = neither (is_spent g.pools 1) (is_spent g.next 1) e.0 in
      Begun (not_broken c.broken _ none) (not_busy c.stack b.0) (no_request c.req d.0) (not_spent g.pools 1 last.0) (not_spent g.next 1 last.1))

  brought_turn : (pieces : List Piece) (req : Option ℕ) → c.req ≡ req → c.broken ≡ None → c.stack ≡ [] → list_any (lacks_file c.files) pieces ≡ false → g.next + (2 + length pieces) < 2 ^ 64
      → data_behind_eos pieces ≡ false → EventTurn chain Lengths g c (brought chain pieces req (g, c))
  brought_turn pieces None is whole idle there last late = SameTurn
  brought_turn pieces (Some req) is whole idle there last late = Brought pieces req whole idle is there last late

  pub brings_turn : (memory : Bool) (pieces : List Piece) → EventTurn chain Lengths g c (brings memory chain pieces (g, c)).1
  unfolding brings
  brings_turn memory pieces = unless _ (brought chain pieces c.req (g, c)) (λ none.
      let a = none_first (if_broken c.broken) _ none in
      let b = none_if (is_busy c.stack) refusal.Busy _ a in
      let d = none_if (not (is_some c.req)) refusal.NotInRequest _ b.1 in
      let e = none_if (data_behind_eos pieces) refusal.DataAfterEos _ d.1 in
      let h = none_if (list_any (lacks_file c.files) pieces) refusal.NoFile _ e.1 in
      let i = none_if (is_spent g.next (2 + length pieces)) refusal.NamesSpent _ h.1 in
      brought_turn pieces c.req refl (not_broken c.broken _ none) (not_busy c.stack b.0) h.0 (not_spent g.next (2 + length pieces) i.0) e.0)

  file_turn : (o : Option Refusal) (req : Option ℕ) (opening : Opening) → c.req ≡ req → OpensAs Lengths (file_answer o req opening (g, c)).0
      → (o ≡ None → (c.broken ≡ None) × (c.stack ≡ []) × (is_spent (number_given g opening) 1 ≡ false))
      → EventTurn chain Lengths g c (file_answer o req opening (g, c)).1
  file_turn (Some r) req opening is told known = SameTurn
  file_turn None None opening is told known = SameTurn
  file_turn None (Some req) Missing is told known = SameTurn
  file_turn None (Some req) Failing is told known = SameTurn
  file_turn None (Some req) (Found skipped bytes) is told known = (let k = known refl in FileTaken req (g.file + skipped) bytes k.0 k.1 is told (omega arith) k.2)

  pub opens_file_turn : (memory : Bool) (opening : Opening) → OpensAs Lengths (opens_file memory opening (g, c)).0 → EventTurn chain Lengths g c (opens_file memory opening (g, c)).1
  unfolding opens_file
  opens_file_turn memory opening told = file_turn _ c.req opening refl told (λ none.
      let a = none_first (if_broken c.broken) _ none in
      let b = none_if (is_busy c.stack) refusal.Busy _ a in
      let d = none_if (not (is_some c.req)) refusal.NotInRequest _ b.1 in
      let e = none_if (is_missing opening) refusal.NoFile _ d.1 in
      let h = none_if (is_failing opening) refusal.FileFailed _ e.1 in
      let i = none_if (is_spent (number_given g opening) 1) refusal.NamesSpent _ h.1 in
      (not_broken c.broken _ none, not_busy c.stack b.0, i.0))

  ended_turn : (req : Option ℕ) → c.req ≡ req → c.broken ≡ None → c.stack ≡ [] → EventTurn chain Lengths g c (ended req (g, c))
  ended_turn None is whole idle = SameTurn
  ended_turn (Some req) is whole idle = Ended req whole idle is

  pub ends_turn : (memory : Bool) → EventTurn chain Lengths g c (ends memory (g, c)).1
  unfolding ends
  ends_turn memory = unless _ (ended c.req (g, c)) (λ none.
      let a = none_first (if_broken c.broken) _ none in
      let b = none_if (is_busy c.stack) refusal.Busy _ a in
      ended_turn c.req refl (not_broken c.broken _ none) (not_busy c.stack b.0))

  pub steps_turn : IsChain chain → (memory : Bool) (budget : ℕ) (reads : Reads) → EventTurn chain Lengths g c (steps memory budget chain reads (g, c)).1
  steps_turn chained memory budget reads =
      step_cases (EventTurn chain Lengths g c) memory budget chain reads g c SameTurn (λ k other. Stood c.out (Some k) (λ e. absurd (cc))) (λ f rest k whole top is. Stood c.out (Some cause.Faulted) (λ e. absurd (cc)))
      (λ f rest whole few ready. Went reads f rest whole
      (record { chained = chained; on_top = ready.on_top; faultless = ready.faultless; names_last = ready.names_last; calls_last = ready.calls_last }))
