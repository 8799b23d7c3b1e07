-- What a step does with the bytes at hand.
use Rattle.std.specs.Prelude.{◌≡◌, ℕ, ◌<◌, ◌≤◌, ◌⊎◌, Bool, true, false, List, [], length, drop}
use Rattle.httparse.specs.Grammar.{RequestHead}
use Rattle.http_message.specs.Clocks.{Said, IsNoted}
use Rattle.http_message.specs.Heads.{BeginsWithin, StaysHeadless}
use Rattle.http_message.specs.Replying.{reply_text}
use Rattle.http_message.specs.declared.reply.Method.{Method}
use Rattle.http_message.specs.declared.reply.Reply.{Reply}
use Rattle.http_message.specs.declared.site.Site.{Site}
use Rattle.http_front.specs.Turns.{Turn, head_limit, fields_limit, IsDated, AnswersRequest, SendsBad, LacksFile, WantsMore}
use Rattle.http_front.specs.declared.fault.FrontKind.{FrontKind}
use Rattle.http_front.specs.declared.fault.FrontKind.TheVariants as kind
use Rattle.http_front.specs.declared.handler.RequestOutcome.{RequestOutcome}
use Rattle.http_front.specs.declared.steps.ServeStep.{ServeStep}
use Rattle.http_front.specs.declared.steps.ServeStep.TheVariants as step

-- An answer to the bytes is wanted: they begin with a head, or with none, whatever follows. eof: no bytes follow.
abbrev pub WantsAnswer : List ℕ → Bool → Type 0
WantsAnswer seen eof =
    ((h : RequestHead) × (rest : List ℕ) × BeginsWithin head_limit fields_limit seen h rest)
    ⊎ (¬ (seen ≡ []) × StaysHeadless head_limit fields_limit seen eof)

-- Why the bytes get no answer: memory is lacking, where one is wanted; or names are, for a request that nothing refuses and whose path has a file.
abbrev pub LacksAnswer : {H : Type 0} → Site → (H → Method → List ℕ → FrontKind → H → Type 0) → H → List ℕ → Bool → H → FrontKind → Type 0
LacksAnswer site lacks old seen eof new kind.NoMemory = WantsAnswer seen eof
LacksAnswer site lacks old seen eof new kind.NamesSpent = LacksFile site lacks old seen new
LacksAnswer site lacks old seen eof new e = ⊥

-- The text of a reply to such a request is made, with the Date line of a moment that the clock told. The clock is told of it.
pub record IsReplyWritten {K : Type 0} (tells : K → Said → K → Type 0) (before : K) (method target : List ℕ) (r : Reply) (text : List ℕ) (after : K) : Type 0 where
  pub date : List ℕ
  pub then : K
  pub dated : IsDated tells before date then
  pub noted : IsNoted tells then method target r after
  pub written : text ≡ reply_text r date

module _ {H K : Type 0} (site : Site) (handles : H → Method → List ℕ → RequestOutcome → H → Type 0) (tells : K → Said → K → Type 0) where
  -- The bytes begin with a head of this length, within the limits. It is answered, and closes or not.
  pub record ServesRequest (old : H) (before : K) (seen : List ℕ) (closes : Bool) (size : ℕ) (text : List ℕ) (new : H) (after : K) : Type 0 where
    pub turn : Turn
    pub begins : BeginsWithin head_limit fields_limit seen turn.head (drop size seen)
    pub fits : size ≤ length seen
    pub some : 0 < size
    pub answers : AnswersRequest site handles tells old before turn new after
    pub written : text ≡ reply_text turn.reply turn.date
    pub goes_on : turn.reply.closes ≡ closes

  -- Nothing is answered.
  pub record WaitsForMore (old : H) (before : K) (text : List ℕ) (new : H) (after : K) : Type 0 where
    pub same : new ≡ old
    pub still : after ≡ before
    pub none : text ≡ []

  -- eof: no bytes follow those that are seen
  abbrev pub DoesStep : H → K → List ℕ → Bool → ServeStep → List ℕ → H → K → Type 0
  DoesStep old before seen eof (step.Stays size) text new after = ServesRequest old before seen false size text new after
  DoesStep old before seen eof (step.Closes size) text new after = ServesRequest old before seen true size text new after
  DoesStep old before seen eof step.Refused text new after =
      ¬ (seen ≡ []) × StaysHeadless head_limit fields_limit seen eof × (new ≡ old) × SendsBad site handles tells before text after
  DoesStep old before seen eof step.More text new after = (eof ≡ false) × WantsMore seen × WaitsForMore old before text new after
  DoesStep old before seen eof step.Done text new after = (eof ≡ true) × (seen ≡ []) × WaitsForMore old before text new after
