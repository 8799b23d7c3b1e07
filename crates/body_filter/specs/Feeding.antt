-- What the code that filters a body does, part by part. r and q: what the reader had left, and has. w and v: what the writer held, and holds.
use Rattle.std.specs.Prelude.{◌≡◌, ℕ, List, ◌⊎◌, All, Option, None, Result, Ok, Err}
use Rattle.std.specs.Io.KnownBytes.{Appends, Consumes}
use Rattle.std.specs.List.{concat}
use Rattle.module_code.specs.Program.{Program}
use Rattle.run_model.specs.declared.event.Event.{Event}
use Rattle.run_model.specs.declared.event.Refusal.{Refusal}
use Rattle.filter_chain.specs.HostViews.{HostView}
use Rattle.http_message.specs.declared.failure.Failure.{Failure}
use Rattle.module_commands.specs.Streams.{Writes, WritesText}
use Rattle.module_commands.specs.declared.fault.PlayFault.{PlayFault}
use Rattle.module_commands.specs.declared.fault.PlayFault.TheVariants as fault
use Rattle.body_filter.specs.Bodies.{IsReadAtOnce, first_events}
use Rattle.body_filter.specs.BodyCalls.{RunsAndTakes, MakesCall, MakesCalls, TakesOut}
use Rattle.body_filter.specs.Filtered.{Filters, FiltersUpTo}

-- What came out of a call is written, or not all of it.
abbrev pub WritesCall : Option (List ℕ) → Option (List ℕ) → List ℕ → Option Failure → Result (Option Failure) PlayFault → Type 0
WritesCall w v out how (Ok h) = (h ≡ how) × Appends w v out
WritesCall w v out how (Err e) = WritesText {T = Option Failure} w v out (Err e)

module _ (budget : ℕ) (chain : List Program) (number : ℕ) (w v : Option (List ℕ)) where
  -- The output is taken and written.
  pub record PutsOut (r : Result (Unit {0}) PlayFault) (old new : HostView) : Type 0 where
    pub out : List ℕ
    pub takes : TakesOut budget chain number old out new
    pub writes : WritesText w v out r

  -- A call that was to begin ends, and what came out is written.
  pub record PutsEnd (begun : Option Refusal) (r : Result (Option Failure) PlayFault) (old new : HostView) : Type 0 where
    pub how : Option Failure
    pub out : List ℕ
    pub ends : RunsAndTakes budget chain number begun old how out new
    pub writes : WritesCall w v out how r

  -- An event begins a call, and what comes out is written.
  pub record PutsCall (what : Event) (r : Result (Option Failure) PlayFault) (old new : HostView) : Type 0 where
    pub how : Option Failure
    pub out : List ℕ
    pub makes : MakesCall budget chain number what old how out new
    pub writes : WritesCall w v out how r

  -- The same; or there was no memory for the pieces of a brigade.
  abbrev pub TriesCall : Event → Result (Option Failure) PlayFault → HostView → HostView → Type 0
  TriesCall what r old new = PutsCall what r old new ⊎ ((r ≡ Err fault.NoMemory) × (new ≡ old) × (v ≡ w))

  -- The request is begun, and all that was read is brought; each call succeeds.
  pub record FedSoFar (r q : Option (List ℕ)) (old new : HostView) : Type 0 where
    pub reads : List (List ℕ)
    pub out : List ℕ
    pub sizes : All IsReadAtOnce reads
    pub calls : MakesCalls budget chain number (first_events reads) old None out new
    pub took : Consumes r q (concat reads)
    pub wrote : Appends w v out

  -- The body goes through the chain, or its filtering fails.
  abbrev pub FeedsBody : Option (List ℕ) → Option (List ℕ) → Result (Option Failure) PlayFault → HostView → HostView → Type 0
  FeedsBody r q (Ok how) old new = Writes r w v (λ body text. Filters budget chain number body old how text new)
  FeedsBody r q (Err e) old new = Writes r w v (λ body text. FiltersUpTo budget chain number body q e old text new)
