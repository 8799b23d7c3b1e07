-- The requests of a connection, one after another, and what is answered (RFC 9112, section 9.3).
use Rattle.std.specs.Prelude.{◌≡◌, ℕ, ◌<◌, ◌≤◌, ◌+◌, Bool, true, false, List, [], ◌∷◌, ◌++◌, Option, Some, None, ◌⊎◌, length}
use Rattle.std.specs.List.{flat_map}
use Rattle.httparse.specs.Grammar.{RequestHead, IsRequestHead, MayBecomeRequest, print_request}
use Rattle.http_message.specs.Asking.{method_of, head_refusal}
use Rattle.http_message.specs.Clocks.{Said, Moment, IsNoted}
use Rattle.http_message.specs.Heads.{BeginsWithin, IsHeadlessWithin, StaysHeadless}
use Rattle.http_message.specs.Replying.{reply_text, IsDateLine}
use Rattle.http_message.specs.declared.reply.Method.{Method}
use Rattle.http_message.specs.declared.reply.Reply.{Reply}
use Rattle.http_message.specs.declared.site.Site.{Site}
use Rattle.http_message.specs.declared.status.StatusCode.{StatusCode}
use Rattle.http_message.specs.declared.status.StatusCode.TheVariants.{NotFound}
use Rattle.http_front.specs.Outcomes.{LacksNamesAt, file_of, IsStatusOnly, IsReplyTo, IsBadReply}
use Rattle.http_front.specs.declared.fault.FrontKind.{FrontKind}
use Rattle.http_front.specs.declared.handler.RequestOutcome.{RequestOutcome}

-- a head has at most so many bytes, and so many fields
abbrev pub head_limit : ℕ
head_limit = 8192

abbrev pub fields_limit : ℕ
fields_limit = 64

-- Bytes that want more: others behind them may make them a head (or they end inside its target), if there are any; they begin with no head within
-- the limits yet, and are fewer than a head may have.
pub record WantsMore (seen : List ℕ) : Type 0 where
  pub few : length seen < head_limit
  pub hopeful : (seen ≡ []) ⊎ MayBecomeRequest seen
  pub headless : IsHeadlessWithin head_limit fields_limit seen

-- An answer to the bytes that were read is due: they begin with a head; or they never will, whatever follows, or since nothing follows. left: what
-- the reader has left.
abbrev pub IsDue : List ℕ → List ℕ → Type 0
IsDue seen left =
    ((h : RequestHead) × (rest : List ℕ) × BeginsWithin head_limit fields_limit seen h rest)
    ⊎ (¬ (seen ≡ []) × (eof : Bool) × (eof ≡ true → left ≡ []) × StaysHeadless head_limit fields_limit seen eof)

-- The bytes begin with a head for which names are lacking.
pub record LacksFile {H : Type 0} (site : Site) (lacks : H → Method → List ℕ → FrontKind → H → Type 0) (old : H) (seen : List ℕ) (new : H) : Type 0 where
  pub head : RequestHead
  pub rest : List ℕ
  pub begins : BeginsWithin head_limit fields_limit seen head rest
  pub names : LacksNamesAt lacks site old head new

-- A request and its response: the head, the reply, and the Date line.
pub record Turn : Type 0 where
  pub head : RequestHead
  pub reply : Reply
  pub date : List ℕ

-- the bytes of the requests, and of the responses
abbrev pub heads_of : List Turn → List ℕ
heads_of turns = flat_map (λ (t : Turn). print_request t.head) turns

abbrev pub texts_of : List Turn → List ℕ
texts_of turns = flat_map (λ (t : Turn). reply_text t.reply t.date) turns

-- the connection goes on after each of them
abbrev pub AllStay : List Turn → Type 0
AllStay [] = Unit {0}
AllStay (t ∷ turns) = (t.reply.closes ≡ false) × AllStay turns

-- the head is within the limits
pub record IsWithinLimits (h : RequestHead) : Type 0 where
  pub size : length (print_request h) ≤ head_limit
  pub count : length h.fields ≤ fields_limit

-- H: what handles requests. handles: how it handles one.
module _ {H : Type 0} (site : Site) (handles : H → Method → List ℕ → RequestOutcome → H → Type 0) where
  -- what a head with this file comes to, where nothing refuses it: 404 where there is no file at its path
  abbrev pub ComesTo : Option (List ℕ) → H → RequestHead → RequestOutcome → H → Type 0
  ComesTo None old h o new = IsStatusOnly NotFound o × (new ≡ old)
  ComesTo (Some file) old h o new = handles old (method_of h.method) file o new

  abbrev pub ComesUnless : Option StatusCode → H → RequestHead → RequestOutcome → H → Type 0
  ComesUnless (Some status) old h o new = IsStatusOnly status o × (new ≡ old)
  ComesUnless None old h o new = ComesTo (file_of site h) old h o new

-- K: a clock. tells: what passes between it and the server.
module _ {K : Type 0} (tells : K → Said → K → Type 0) where
  -- The Date line is that of a moment that the clock told.
  pub record IsDated (before : K) (date : List ℕ) (after : K) : Type 0 where
    pub moment : ℕ
    pub told : tells before (Moment moment) after
    pub line : IsDateLine moment date

module _ {H K : Type 0} (site : Site) (handles : H → Method → List ℕ → RequestOutcome → H → Type 0) (tells : K → Said → K → Type 0) where
  -- One request, whose head is one of the grammar and within the limits, is answered, and the clock is told of it.
  pub record AnswersRequest (old : H) (before : K) (t : Turn) (new : H) (after : K) : Type 0 where
    pub valid : IsRequestHead t.head
    pub within : IsWithinLimits t.head
    pub outcome : RequestOutcome
    pub comes : ComesUnless site handles (head_refusal t.head) old t.head outcome new
    pub reply : IsReplyTo t.head outcome t.reply
    pub then : K
    pub dated : IsDated tells before t.date then
    pub noted : IsNoted tells then t.head.method t.head.target t.reply after

  -- These requests are answered, one after another.
  unfoldable pub AnswersAll : H → K → List Turn → H → K → Type 0
  AnswersAll old before [] new after = (new ≡ old) × (after ≡ before)
  AnswersAll old before (t ∷ turns) new after =
      (mid : H) × (then : K) × AnswersRequest old before t mid then × AnswersAll mid then turns new after

  -- What is sent where the bytes at hand begin with no head. The clock is told of it, without a method or a target.
  pub record SendsBad (before : K) (text : List ℕ) (after : K) : Type 0 where
    pub reply : Reply
    pub date : List ℕ
    pub bad : IsBadReply reply
    pub then : K
    pub dated : IsDated tells before date then
    pub noted : IsNoted tells then [] [] reply after
    pub written : text ≡ reply_text reply date

  -- The stream ends with the last of these requests; or the last of them closes, and what follows is not served; or what follows begins
  -- with no head.
  pub record EndsAll (old : H) (before : K) (stream text : List ℕ) (n : ℕ) (new : H) (after : K) : Type 0 where
    pub turns : List Turn
    pub stay : AllStay turns
    pub answers : AnswersAll old before turns new after
    pub requests : stream ≡ heads_of turns
    pub written : text ≡ texts_of turns
    pub count : n ≡ length turns

  pub record ClosesAfter (old : H) (before : K) (stream text : List ℕ) (n : ℕ) (new : H) (after : K) : Type 0 where
    pub turns : List Turn
    pub last : Turn
    pub rest : List ℕ
    pub stay : AllStay turns
    pub closes : last.reply.closes ≡ true
    pub answers : AnswersAll old before (turns ++ last ∷ []) new after
    pub requests : stream ≡ heads_of (turns ++ last ∷ []) ++ rest
    pub written : text ≡ texts_of (turns ++ last ∷ [])
    pub count : n ≡ length (turns ++ last ∷ [])

  pub record RefusesAfter (old : H) (before : K) (stream text : List ℕ) (n : ℕ) (new : H) (after : K) : Type 0 where
    pub turns : List Turn
    pub then : K
    pub rest : List ℕ
    pub bad : List ℕ
    pub stay : AllStay turns
    pub answers : AnswersAll old before turns new then
    pub sends : SendsBad then bad after
    pub more : ¬ (rest ≡ [])
    pub headless : IsHeadlessWithin head_limit fields_limit rest
    pub requests : stream ≡ heads_of turns ++ rest
    pub written : text ≡ texts_of turns ++ bad
    pub count : n ≡ length turns + 1

  -- The text of so many responses is written for a stream of requests.
  abbrev pub Responses : H → K → List ℕ → List ℕ → ℕ → H → K → Type 0
  Responses old before stream text n new after =
      EndsAll old before stream text n new after ⊎ (ClosesAfter old before stream text n new after ⊎ RefusesAfter old before stream text n new after)

  -- These are the responses to the first requests of a stream.
  pub record IsResponsesFront (old : H) (before : K) (stream text : List ℕ) : Type 0 where
    pub first : List ℕ
    pub rest : List ℕ
    pub n : ℕ
    pub new : H
    pub after : K
    pub splits : stream ≡ first ++ rest
    pub responses : EndsAll old before first text n new after

  -- These are so many responses to a stream, or to its first requests.
  abbrev pub IsNext : H → K → List ℕ → List ℕ → ℕ → H → K → Type 0
  IsNext old before stream text n new after =
      ((front : IsResponsesFront old before stream text) × (front.n ≡ n) × (front.new ≡ new) × (front.after ≡ after)) ⊎ Responses old before stream text n new after

  -- These are the responses to all whole requests that were read. seen: what was read and not answered. left: what the reader has left.
  pub record AnswersRequestsRead (old : H) (before : K) (stream text : List ℕ) (left : Option (List ℕ)) (new : H) (after : K) : Type 0 where
    pub first : List ℕ
    pub seen : List ℕ
    pub unread : List ℕ
    pub n : ℕ
    pub splits : stream ≡ first ++ seen ++ unread
    pub responses : EndsAll old before first text n new after
    pub needs_input : WantsMore seen
    pub leaves : left ≡ Some unread

  -- These are the responses to all requests before the one that is at hand. seen: what was read and not answered. left: what the reader has left.
  -- Due: what is said of both, and of what handles requests as it was then.
  pub record LacksAt (Due : H → List ℕ → List ℕ → Type 0) (old : H) (before : K) (stream text : List ℕ) (left : Option (List ℕ)) : Type 0 where
    pub first : List ℕ
    pub seen : List ℕ
    pub unread : List ℕ
    pub n : ℕ
    pub new : H
    pub after : K
    pub splits : stream ≡ first ++ seen ++ unread
    pub responses : EndsAll old before first text n new after
    pub due : Due new seen unread
    pub leaves : left ≡ Some unread

  -- These are the responses to all whole requests that were read, before the bytes that are lost: those of one read.
  pub record LosesRead (old : H) (before : K) (stream text : List ℕ) (left : Option (List ℕ)) (new : H) (after : K) : Type 0 where
    pub first : List ℕ
    pub seen : List ℕ
    pub lost : List ℕ
    pub unread : List ℕ
    pub n : ℕ
    pub some : ¬ (lost ≡ [])
    pub few : length lost ≤ 8192
    pub splits : stream ≡ first ++ seen ++ lost ++ unread
    pub responses : EndsAll old before first text n new after
    pub needs_input : WantsMore seen
    pub leaves : left ≡ Some unread

  -- These are the responses to the first requests of a stream, and a part of one response more: that is cut. Its request was handled, too.
  pub record IsCut (old : H) (before : K) (stream text : List ℕ) (new : H) (after : K) : Type 0 where
    pub front : List ℕ
    pub part : List ℕ
    pub more : List ℕ
    pub whole : IsResponsesFront old before stream front
    pub next : IsNext old before stream (front ++ (part ++ more)) (whole.n + 1) new after
    pub some : ¬ (more ≡ [])
    pub written : text ≡ front ++ part

  -- Memory was lacking: for the request at hand, for bytes that were read, or for what is written into.
  abbrev pub MemoryLacked : H → K → List ℕ → List ℕ → Option (List ℕ) → H → K → Type 0
  MemoryLacked old before stream text left new after = LacksAt (λ mid. IsDue) old before stream text left ⊎ (LosesRead old before stream text left new after ⊎ IsCut old before stream text new after)

  -- Names were lacking: for the request at hand, which nothing refuses, and whose path has a file.
  abbrev pub LacksNames : (H → Method → List ℕ → FrontKind → H → Type 0) → H → K → List ℕ → List ℕ → Option (List ℕ) → H → Type 0
  LacksNames lacks old before stream text left new = LacksAt (λ mid seen unread. LacksFile site lacks mid seen new) old before stream text left
