-- Requests that are under way, on a connection.
use Rattle.std.specs.Prelude.{◌≡◌, ℕ, ◌*◌, ◌≤◌, ◌⊎◌, Bool, true, false, List, [], length, take, drop, Option, Some, None}
use Rattle.httparse.specs.Grammar.{RequestHead}
use Rattle.httparse.specs.Spans.{IsRequestAt, IsRequestWithin}
use Rattle.httparse.specs.declared.spans.HeaderSpan.{HeaderSpan}
use Rattle.http_message.specs.Asking.{head_closes, method_of, head_refusal}
use Rattle.http_message.specs.Clocks.{Said}
use Rattle.http_message.specs.Heads.{BeginsWithin}
use Rattle.http_message.specs.declared.reply.Method.{Method}
use Rattle.http_message.specs.declared.reply.Reply.{Reply}
use Rattle.http_message.specs.declared.site.Site.{Site}
use Rattle.http_message.specs.declared.status.StatusCode.TheVariants.{NotFound}
use Rattle.http_front.specs.Nearing.{slice_steps}
use Rattle.http_front.specs.Outcomes.{IsReplyTo, file_of}
use Rattle.http_front.specs.Stepping.{DoesStep, IsReplyWritten, LacksAnswer}
use Rattle.http_front.specs.Turns.{ComesUnless, fields_limit, head_limit}
use Rattle.http_front.specs.declared.fault.FrontKind.{FrontKind}
use Rattle.http_front.specs.declared.fault.FrontKind.TheVariants as kind
use Rattle.http_front.specs.declared.handler.RequestOutcome.{RequestOutcome}
use Rattle.http_front.specs.declared.handler.Slice.{Slice}
use Rattle.http_front.specs.declared.handler.Slice.TheVariants as request
use Rattle.http_front.specs.declared.steps.ServeStep.{ServeStep}
use Rattle.http_front.specs.declared.steps.ServeStep.TheVariants as step
use Rattle.http_front.specs.declared.under_way.Asked.{Asked}
use Rattle.http_front.specs.declared.under_way.StepSlice.{StepSlice}
use Rattle.http_front.specs.declared.under_way.StepSlice.TheVariants as slice
use Rattle.http_front.specs.declared.under_way.UnderWay.{UnderWay}
use Rattle.http_front.specs.declared.wanted.SiteTarget.{SiteTarget}
use Rattle.http_front.specs.declared.wanted.SiteTarget.TheVariants as wanted

-- What was found of a head, with which these bytes begin.
pub record IsAskedBy (seen : List ℕ) (a : Asked) (h : RequestHead) : Type 0 where
  pub spans : List HeaderSpan
  pub within : IsRequestWithin seen spans a.head
  pub at : IsRequestAt seen spans a.head h
  pub method : a.method ≡ method_of h.method
  pub closes : a.closes ≡ head_closes h

-- A head that nothing refuses asks for the file at its path: 404 where there is none.
abbrev pub WantsPath : Site → RequestHead → SiteTarget → Type 0
WantsPath site h (wanted.Status status) = (file_of site h ≡ None) × (status ≡ NotFound)
WantsPath site h (wanted.File file) = file_of site h ≡ Some file.now

-- A head gets the status that refuses it, or asks for the file at its path.
abbrev pub Wants : Site → RequestHead → SiteTarget → Type 0
Wants site h (wanted.Status status) = (head_refusal h ≡ Some status) ⊎ ((head_refusal h ≡ None) × WantsPath site h (wanted.Status status))
Wants site h (wanted.File file) = (head_refusal h ≡ None) × WantsPath site h (wanted.File file)

-- A request of this length is answered, and the connection closes or not.
abbrev pub RequestAnswered : Bool → ℕ → ServeStep → Type 0
RequestAnswered true size s = s ≡ step.Closes size
RequestAnswered false size s = s ≡ step.Stays size

-- The text of the reply to a head, with this outcome, is made, and the clock is told of it.
pub record Sends {K : Type 0} (tells : K → Said → K → Type 0) (before : K) (h : RequestHead) (o : RequestOutcome) (size : ℕ) (s : ServeStep) (text : List ℕ) (after : K) : Type 0 where
  pub reply : Reply
  pub is : IsReplyTo h o reply
  pub written : IsReplyWritten tells before h.method h.target reply text after
  pub answered : RequestAnswered reply.closes size s

module _ {H T : Type 0} (site : Site) (among : H → Method → List ℕ → RequestOutcome → H → Type 0) (rests : H → T → RequestOutcome → H → Type 0) where
  -- Nothing refuses a head, its path has a file, and a request for that is under way. What is left of it, when it is done, makes it whole. old, now: the
  -- handler before the request, and now
  pub record Asks (head : RequestHead) (task : T) (old now : H) : Type 0 where
    pub file : List ℕ
    pub allowed : head_refusal head ≡ None
    pub named : file_of site head ≡ Some file
    pub goes : (o : RequestOutcome) (new : H) → rests now task o new → among old (method_of head.method) file o new

  -- what a head comes to in a slice
  abbrev pub BeginsHead : RequestHead → H → Slice T → H → Type 0
  BeginsHead h old (request.Done o) now = ComesUnless site among (head_refusal h) old h o now
  BeginsHead h old (request.Works task) now = Asks h task old now

  -- The bytes begin with a head whose request is under way.
  pub record IsUnderWay (seen : List ℕ) (u : UnderWay T) (old now : H) : Type 0 where
    pub head : RequestHead
    pub asked : IsAskedBy (take head_limit seen) u.asked head
    pub begins : BeginsWithin head_limit fields_limit seen head (drop u.asked.head.len seen)
    pub fits : u.asked.head.len ≤ length seen
    pub asks : Asks head u.task old now

  -- a step is made, or a request is under way, and nothing is answered yet
  abbrev pub StepMade : {K : Type 0} → (K → Said → K → Type 0) → H → K → List ℕ → Bool → StepSlice T → List ℕ → H → K → Type 0
  StepMade tells old before seen eof (slice.Did s) text new after = DoesStep site among tells old before seen eof s text new after
  StepMade tells old before seen eof (slice.Works u) text new after = IsUnderWay seen u old new × (after ≡ before) × (text ≡ [])

  -- the same, from a request that is in hand, if there is one
  abbrev pub StepsFrom : {K : Type 0} → (K → Said → K → Type 0) → Option (UnderWay T) → H → K → List ℕ → Bool → StepSlice T → List ℕ → H → K → Type 0
  StepsFrom tells None now before seen eof x text new after = StepMade tells now before seen eof x text new after
  StepsFrom tells (Some u) now before seen eof x text new after = (old : H) → IsUnderWay seen u old now → StepMade tells old before seen eof x text new after

-- Why a slice of a step fails: there is no request in hand, and the bytes get no answer for this. Or memory is lacking for the request that is in hand, or for
-- its response; or names are, for what is left of that request. lacks, lacks_rest: that the handler leaves a request without an outcome, or what was left of one
module _ {H T : Type 0} (site : Site) (lacks : H → Method → List ℕ → FrontKind → H → Type 0) (lacks_rest : H → T → FrontKind → H → Type 0) where
  abbrev pub LacksSlice : Option (UnderWay T) → H → List ℕ → Bool → H → FrontKind → Type 0
  LacksSlice None old seen eof new e = LacksAnswer site lacks old seen eof new e
  LacksSlice (Some u) old seen eof new kind.NoMemory = Unit {0}
  LacksSlice (Some u) old seen eof new kind.NamesSpent = lacks_rest old u.task kind.NamesSpent new
  LacksSlice (Some u) old seen eof new e = ⊥

-- how many steps a slice makes of the request that is in hand, at most; one that begins a request makes twice as many
abbrev pub most_steps : {T : Type 0} → Option (UnderWay T) → ℕ
most_steps None = 2 * slice_steps
most_steps (Some u) = slice_steps
