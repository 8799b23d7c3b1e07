-- Connections that are served by turns: what one of them comes to, beside the others.
use Rattle.std.specs.Prelude.{◌≡◌, ℕ, Bool, true, false, List, [], ◌∷◌, ◌++◌}
use Rattle.http_message.specs.Clocks.{Said}
use Rattle.http_message.specs.declared.reply.Method.{Method}
use Rattle.http_message.specs.declared.site.Site.{Site}
use Rattle.http_front.specs.declared.handler.RequestOutcome.{RequestOutcome}
use Rattle.http_front.specs.Turns.{Turn, AllStay, AnswersAll, Responses, heads_of, texts_of}

-- This passed between the server and its clock. The last stands first.
unfoldable pub PassesAll : {K : Type 0} → (K → Said → K → Type 0) → List Said → K → K → Type 0
PassesAll tells [] old new = new ≡ old
PassesAll {K} tells (s ∷ said) old new = (mid : K) × PassesAll tells said old mid × tells mid s new

-- something may have passed between them: one clock serves all connections
abbrev pub Passes : {K : Type 0} → (K → Said → K → Type 0) → K → K → Type 0
Passes tells old new = (said : List Said) × PassesAll tells said old new

-- The clock tells, or is told. Before it, other connections asked and told it, it may be.
pub record TellsLater {K : Type 0} (tells : K → Said → K → Type 0) (old : K) (said : Said) (new : K) : Type 0 where
  pub mid : K
  pub others : Passes tells old mid
  pub told : tells mid said new

-- start, first: the handler and the clock as the connection began. came: all bytes that were taken in.
module _ {H K : Type 0} (site : Site) (handles : H → Method → List ℕ → RequestOutcome → H → Type 0) (tells : K → Said → K → Type 0) (start : H) (first : K) (came : List ℕ) where
  -- The bytes are the requests that are answered, and then those that are not. The text is that of the responses, and none closes.
  pub record IsOpenSo (text unread : List ℕ) (mid : H) (then : K) : Type 0 where
    pub turns : List Turn
    pub stay : AllStay turns
    pub answers : AnswersAll site handles tells start first turns mid then
    pub read : came ≡ heads_of turns ++ unread
    pub written : text ≡ texts_of turns

  -- over: no more is answered
  abbrev pub IsSo : Bool → List ℕ → List ℕ → H → K → Type 0
  IsSo false text unread mid then = IsOpenSo text unread mid then
  IsSo true text unread mid then = (n : ℕ) × Responses site handles tells start first came text n mid then
