-- What a chain makes of a body.
use Rattle.std.specs.Prelude.{◌≡◌, ◌≢◌, ℕ, ◌≤◌, List, [], ◌++◌, ◌⊎◌, length, All, Option, Some, None}
use Rattle.std.specs.List.{concat}
use Rattle.module_code.specs.Program.{Program}
use Rattle.run_model.specs.declared.event.Event.{Event}
use Rattle.run_model.specs.declared.event.Event.TheVariants as event
use Rattle.run_model.specs.declared.event.Refusal.{Refusal}
use Rattle.run_model.specs.Files.{no_files}
use Rattle.run_model.specs.Worlds.{Refused, new_world}
use Rattle.bucket_kinds.specs.MemDevice.{device_of}
use Rattle.filter_chain.specs.HostViews.{HostView, Answers, host_view}
use Rattle.http_message.specs.declared.failure.Failure.{Failure}
use Rattle.http_message.specs.declared.failure.Failure.TheVariants as failure
use Rattle.module_commands.specs.declared.fault.PlayFault.{PlayFault}
use Rattle.module_commands.specs.declared.fault.PlayFault.TheVariants as fault
use Rattle.body_filter.specs.Bodies.{IsReadAtOnce, IsReadIn, body_events, first_events}
use Rattle.body_filter.specs.BodyCalls.{MakesCalls, OpensForBody}
use Rattle.body_filter.specs.declared.ending.BodyEnd.{BodyEnd}
use Rattle.body_filter.specs.declared.ending.BodyEnd.TheVariants as end

-- how the filtering of a body ends, by its last call
abbrev pub body_end : Option Failure → BodyEnd
body_end None = end.Whole
body_end (Some why) = end.Cut why

-- no connection, whose names begin with 1, and no file
abbrev pub empty_view : HostView
empty_view = host_view (new_world 1) (device_of no_files 0)

module _ (budget : ℕ) (chain : List Program) (number : ℕ) (body : List ℕ) where
  -- The calls of a body end so, and this comes out.
  pub record Filters (old : HostView) (how : Option Failure) (out : List ℕ) (new : HostView) : Type 0 where
    pub reads : List (List ℕ)
    pub read : IsReadIn body reads
    pub calls : MakesCalls budget chain number (body_events reads) old how out new

-- left: what the reader has left
module _ (budget : ℕ) (chain : List Program) (number : ℕ) (body : List ℕ) (left : Option (List ℕ)) where
  -- Some first calls of a body are made, and this comes out of them. lost: what was read and is not brought.
  pub record FiltersFront (lost : List ℕ) (old : HostView) (how : Option Failure) (out : List ℕ) (new : HostView) : Type 0 where
    pub reads : List (List ℕ)
    pub unread : List ℕ
    pub events : List Event
    pub joined : body ≡ concat reads ++ (lost ++ unread)
    pub sizes : All IsReadAtOnce reads
    pub few : length lost ≤ 8000
    pub leaves : left ≡ Some unread
    pub are : (events ≡ first_events reads) ⊎ ((events ≡ body_events reads) × (unread ≡ []))
    pub calls : MakesCalls budget chain number events old how out new

  -- The filtering of a body fails. Where the reader failed, all that comes out of what was read is written. Where the writer failed, a front of what
  -- comes out, but not all of it; where memory is lacking, a front.
  abbrev pub FiltersUpTo : PlayFault → HostView → List ℕ → HostView → Type 0
  FiltersUpTo fault.Read old text new = FiltersFront [] old None text new
  FiltersUpTo fault.Write old text new = (how : Option Failure) × (more : List ℕ) × (more ≢ []) × FiltersFront [] old how (text ++ more) new
  FiltersUpTo fault.NoMemory old text new = (how : Option Failure) × (lost more : List ℕ) × FiltersFront lost old how (text ++ more) new

module _ (budget : ℕ) (chain : List Program) where
  -- A connection of a new host is opened, and the body goes through the chain.
  pub record OpensAndFilters (body text : List ℕ) (e : BodyEnd) : Type 0 where
    pub number : ℕ
    pub how : Option Failure
    pub opened : HostView
    pub last : HostView
    pub opens : OpensForBody budget chain number empty_view opened
    pub filters : Filters budget chain number body opened how text last
    pub ends : e ≡ body_end how

  -- No connection is opened, for this, and nothing comes out.
  pub record RefusesToOpen (text : List ℕ) (e : BodyEnd) : Type 0 where
    pub why : Refusal
    pub last : HostView
    pub refused : Answers budget chain 0 event.Open empty_view (Refused why) last
    pub none : text ≡ []
    pub ends : e ≡ end.Cut (failure.Refused why)

  -- What comes out of a body, and how its filtering ends.
  abbrev pub IsFiltered : List ℕ → List ℕ → BodyEnd → Type 0
  IsFiltered body text e = OpensAndFilters body text e ⊎ RefusesToOpen text e

  -- A connection of a new host is opened, and the filtering of the body fails.
  pub record OpensAndFails (body : List ℕ) (left : Option (List ℕ)) (text : List ℕ) (f : PlayFault) : Type 0 where
    pub number : ℕ
    pub opened : HostView
    pub last : HostView
    pub opens : OpensForBody budget chain number empty_view opened
    pub fails : FiltersUpTo budget chain number body left f opened text last

  -- What is written where the filtering of a body fails. Without memory for a host nothing is.
  abbrev pub IsFilteredUpTo : List ℕ → Option (List ℕ) → List ℕ → PlayFault → Type 0
  IsFilteredUpTo body left text fault.Read = OpensAndFails body left text fault.Read
  IsFilteredUpTo body left text fault.Write = OpensAndFails body left text fault.Write
  IsFilteredUpTo body left text fault.NoMemory = OpensAndFails body left text fault.NoMemory ⊎ (text ≡ [])
