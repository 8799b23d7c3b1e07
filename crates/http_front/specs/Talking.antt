-- How far a connection is that is served beside others.
use Rattle.std.specs.Prelude.{◌≡◌, ℕ, ◌+◌, min, Bool, true, false, List, [], ◌++◌, ◌⊎◌, length, drop, Option, Some, None, Result, Ok, Err}
use Rattle.http_message.specs.Clocks.{Said}
use Rattle.http_message.specs.ReadBuffers.{unread}
use Rattle.http_message.specs.declared.reply.Method.{Method}
use Rattle.http_message.specs.declared.site.Site.{Site}
use Rattle.http_front.specs.Sharing.{IsSo, Passes, TellsLater}
use Rattle.http_front.specs.Texts.{text_of}
use Rattle.http_front.specs.Turns.{WantsMore}
use Rattle.http_front.specs.Serving.{IsSinkKind, Loses}
use Rattle.http_front.specs.UnderWays.{IsUnderWay, LacksSlice}
use Rattle.http_front.specs.declared.fault.FrontKind.{FrontKind}
use Rattle.http_front.specs.declared.handler.RequestOutcome.{RequestOutcome}
use Rattle.http_front.specs.declared.http_conn.HttpConn.{HttpConn}
use Rattle.http_front.specs.declared.http_conn.Next.{Next}
use Rattle.http_front.specs.declared.http_conn.Next.TheVariants as next
use Rattle.http_front.specs.declared.http_conn.Turned.{Turned}
use Rattle.http_front.specs.declared.steps.ServeStep.{ServeStep}
use Rattle.http_front.specs.declared.steps.ServeStep.TheVariants as step
use Rattle.http_front.specs.declared.under_way.StepSlice.{StepSlice}
use Rattle.http_front.specs.declared.under_way.StepSlice.TheVariants as slice
use Rattle.http_front.specs.declared.under_way.UnderWay.{UnderWay}

-- what is answered and not written
abbrev pub pending : {T : Type 0} → HttpConn T → List ℕ
pending c = drop c.sent (text_of c.text)

-- what a connection waits for: what is answered goes out first
abbrev pub IsNext : {T : Type 0} → HttpConn T → Next → Type 0
IsNext c next.Writes = ¬ (pending c ≡ [])
IsNext c next.Over = (pending c ≡ []) × (c.over ≡ true)
IsNext c next.Reads = (pending c ≡ []) × (c.over ≡ false) × (c.needs_input ≡ true) × (c.hand ≡ None)
IsNext c next.Steps = (pending c ≡ []) × (c.over ≡ false) × (c.needs_input ≡ false) × (c.hand ≡ None)
IsNext c next.Works = (pending c ≡ []) × (c.over ≡ false) × ¬ (c.hand ≡ None)

-- among: what a request comes to, beside others. rests: what is left of one does. apart: only what belongs to other connections happened. start, first: the
-- handler and the clock as the connection began. came: all bytes that were taken in. went: all that were written.
module _ {H K T : Type 0} (site : Site) (among : H → Method → List ℕ → RequestOutcome → H → Type 0) (rests : H → T → RequestOutcome → H → Type 0)
    (tells : K → Said → K → Type 0) (apart : H → H → Type 0) (start : H) (first : K) (came went : List ℕ) where
  -- Since the last answer only others had their turns; or a request is under way. mid, now: the handler then, and now
  abbrev pub IsInHand : Option (UnderWay T) → List ℕ → H → H → Type 0
  IsInHand None seen mid now = apart mid now
  IsInHand (Some u) seen mid now = IsUnderWay site among rests seen u mid now

  -- What went and what is to go are the responses to what came, by the events of this connection, and no others; and those of the request that is
  -- under way, if there is one. now, at: handler and clock
  pub record ConnStands (c : HttpConn T) (now : H) (at : K) : Type 0 where
    pub mid : H
    pub then : K
    pub so : IsSo site among (TellsLater tells) start first came c.over (went ++ pending c) (unread c.read_buffer) mid then
    pub hand : IsInHand c.hand (unread c.read_buffer) mid now
    pub passed : Passes tells then at

  -- What went is a front of the responses to what came.
  pub record StandsCut : Type 0 where
    pub over : Bool
    pub rest : List ℕ
    pub left : List ℕ
    pub mid : H
    pub then : K
    pub so : IsSo site among (TellsLater tells) start first came over (went ++ rest) left mid then

  -- how far it is behind a turn
  abbrev pub GoesSo : Result Turned FrontKind → HttpConn T → H → K → Type 0
  GoesSo (Ok t) c now at = ConnStands c now at
  GoesSo (Err e) c now at = StandsCut

-- what is left behind a step, whether more bytes are wanted, whether no more is answered, and how many responses were made
pub record FollowsAs {T : Type 0} (left : List ℕ) (reads ends : Bool) (count : ℕ) (new : HttpConn T) : Type 0 where
  pub still : unread new.read_buffer ≡ left
  pub needs_input : new.needs_input ≡ reads
  pub over : new.over ≡ ends
  pub counted : new.requests ≡ count

-- one more, up to the greatest number
abbrev pub one_more : ℕ → ℕ
one_more n = min (n + 1) 18446744073709551615

abbrev pub StepFollows : {T : Type 0} → ServeStep → HttpConn T → HttpConn T → Type 0
StepFollows (step.Stays size) old new = FollowsAs (drop size (unread old.read_buffer)) old.needs_input false (one_more old.requests) new
StepFollows (step.Closes size) old new = FollowsAs (drop size (unread old.read_buffer)) old.needs_input true (one_more old.requests) new
StepFollows step.Refused old new = FollowsAs (unread old.read_buffer) old.needs_input true (one_more old.requests) new
StepFollows step.More old new = FollowsAs (unread old.read_buffer) true false old.requests new
StepFollows step.Done old new = FollowsAs (unread old.read_buffer) old.needs_input true old.requests new

-- what follows a slice: a step is made, and nothing is in hand; or a request is
abbrev pub SliceLands : {T : Type 0} → StepSlice T → HttpConn T → HttpConn T → Type 0
SliceLands (slice.Did s) old new = StepFollows s old new × (new.hand ≡ None)
SliceLands (slice.Works u) old new = FollowsAs (unread old.read_buffer) old.needs_input false old.requests new × (new.hand ≡ Some u)

-- Where no request was in hand, more bytes are wanted only where those at hand begin with no head yet, or where they were wanted.
abbrev pub WantsSo : {T : Type 0} → HttpConn T → HttpConn T → Type 0
WantsSo old new = old.hand ≡ None → new.needs_input ≡ true → (old.needs_input ≡ true) ⊎ WantsMore (unread new.read_buffer)

-- One response more was made, or none.
abbrev pub CountsOn : {T : Type 0} → HttpConn T → HttpConn T → Type 0
CountsOn old new = (new.requests ≡ old.requests) ⊎ (new.requests ≡ one_more old.requests)

-- one, where something is still to come
abbrev pub unless_so : Bool → ℕ
unless_so true = 0
unless_so false = 1

-- what is left to be done with the bytes at hand, at most
abbrev pub to_do : {T : Type 0} → HttpConn T → ℕ
to_do c = length (unread c.read_buffer) + unless_so c.needs_input + unless_so c.over

-- How a turn fails, by what the connection waited for. limit: the bytes of a read, at most. r, q: what the reader had left, and has. now, new: the handler before
-- the turn, and after it
module _ {H T : Type 0} (site : Site) (lacks : H → Method → List ℕ → FrontKind → H → Type 0) (lacks_rest : H → T → FrontKind → H → Type 0) (limit : ℕ) (r q : Option (List ℕ)) (now new : H) where
  abbrev pub FailsAs : Next → HttpConn T → FrontKind → Type 0
  FailsAs next.Writes c e = IsSinkKind e
  FailsAs next.Over c e = ⊥
  FailsAs next.Reads c e = Loses limit r q e
  FailsAs next.Steps c e = LacksSlice site lacks lacks_rest c.hand now (unread c.read_buffer) c.eof new e
  FailsAs next.Works c e = LacksSlice site lacks lacks_rest c.hand now (unread c.read_buffer) c.eof new e

  -- what it waited for, and how it failed
  abbrev pub Fails : HttpConn T → FrontKind → Type 0
  Fails c e = (n : Next) × IsNext c n × FailsAs n c e
