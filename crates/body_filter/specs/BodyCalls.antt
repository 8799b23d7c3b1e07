-- The calls that the events of a body begin, and what comes out.
use Rattle.std.specs.Prelude.{◌≡◌, ℕ, List, [], ◌∷◌, ◌++◌, Option, Some, None, MatchOption, Result, Ok, Err}
use Rattle.std.specs.Result.{result_unwrap_or}
use Rattle.module_code.specs.Program.{Program}
use Rattle.module_code.specs.declared.instr.Status.TheVariants as call
use Rattle.run_model.specs.declared.event.Cause.TheVariants as cause
use Rattle.run_model.specs.declared.event.Event.{Event}
use Rattle.run_model.specs.declared.event.Event.TheVariants as event
use Rattle.run_model.specs.declared.event.Refusal.{Refusal}
use Rattle.run_model.specs.declared.event.Refusal.TheVariants as refusal
use Rattle.run_model.specs.declared.event.Stepped.{Stepped}
use Rattle.run_model.specs.declared.event.Stepped.TheVariants as stepped
use Rattle.run_model.specs.Worlds.{Connected}
use Rattle.filter_chain.specs.Hosting.{done_answer, output_answer, output_in}
use Rattle.filter_chain.specs.HostViews.{HostView, Answers}
use Rattle.filter_chain.specs.Running.{StepsToEnd}
use Rattle.http_message.specs.declared.failure.Failure.{Failure}
use Rattle.http_message.specs.declared.failure.Failure.TheVariants as failure

-- an instruction had a fault
abbrev pub faulted : Failure
faulted = failure.Refused (refusal.Broken cause.Faulted)

-- why a call did not succeed, by the answer of its last step
abbrev pub failure_of : Result Stepped Refusal → Option Failure
failure_of (Ok (stepped.CallEnded call.Success)) = None
failure_of (Ok (stepped.CallEnded call.Fail)) = Some failure.Filter
failure_of (Ok stepped.Went) = Some faulted
failure_of (Ok (stepped.Fault k m pc)) = Some faulted
failure_of (Err r) = Some (failure.Refused r)

-- the events of the connection of this number
module _ (budget : ℕ) (chain : List Program) (number : ℕ) where
  -- A call runs to its end. how: why it did not succeed
  pub record RunsOut (old : HostView) (how : Option Failure) (new : HostView) : Type 0 where
    pub answer : Result Stepped Refusal
    pub runs : StepsToEnd budget chain number old answer new
    pub told : how ≡ failure_of answer

  -- A call was to begin: it runs to its end, or it was refused.
  abbrev pub RunsOutUnless : Option Refusal → HostView → Option Failure → HostView → Type 0
  RunsOutUnless None old how new = RunsOut old how new
  RunsOutUnless (Some r) old how new = (how ≡ Some (failure.Refused r)) × (new ≡ old)

  -- The output is taken: this.
  pub record TakesOut (old : HostView) (out : List ℕ) (new : HostView) : Type 0 where
    pub is : out ≡ result_unwrap_or (output_in (old.world.conns number)) []
    pub acts : Answers budget chain number event.TakeOutput old (output_answer (output_in (old.world.conns number))) new

  -- A call was to begin: it ends so, and this came out.
  pub record RunsAndTakes (begun : Option Refusal) (old : HostView) (how : Option Failure) (out : List ℕ) (new : HostView) : Type 0 where
    pub mid : HostView
    pub runs : RunsOutUnless begun old how mid
    pub takes : TakesOut mid out new

  -- An event begins a call, which ends so, and this came out.
  pub record MakesCall (what : Event) (old : HostView) (how : Option Failure) (out : List ℕ) (new : HostView) : Type 0 where
    pub answer : Option Refusal
    pub mid : HostView
    pub acts : Answers budget chain number what old (done_answer answer) mid
    pub ends : RunsAndTakes answer mid how out new

  -- Events begin calls, up to the first that does not succeed. The last ended so, and this came out of all.
  unfoldable pub MakesCalls : List Event → HostView → Option Failure → List ℕ → HostView → Type 0
  MakesCalls [] old how out new = (how ≡ None) × (out ≡ []) × (new ≡ old)
  MakesCalls (e ∷ es) old how out new =
      (first : Option Failure) × (front : List ℕ) × (mid : HostView) × MakesCall e old first front mid
      × MatchOption first ((rest : List ℕ) × MakesCalls es mid how rest new × (out ≡ front ++ rest)) (λ why. (how ≡ Some why) × (out ≡ front) × (new ≡ mid))

  -- The connection is opened, and its `open` handlers run, however they end.
  pub record OpensForBody (old new : HostView) : Type 0 where
    pub mid : HostView
    pub how : Option Failure
    pub acts : Answers budget chain 0 event.Open old (Connected number) mid
    pub runs : RunsOut mid how new
