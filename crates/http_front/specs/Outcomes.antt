-- What a request comes to (RFC 9110, sections 9.3 and 15).
use Rattle.std.specs.Prelude.{◌≡◌, true, ◌||◌, List, [], ℕ, Option, Some, None, ◌⊎◌}
use Rattle.httparse.specs.Grammar.{RequestHead}
use Rattle.percent_encoding.specs.Percent.{percent_decode}
use Rattle.http_message.specs.Asking.{method_of, target_path, head_refusal, head_closes, status_closes, version_of}
use Rattle.http_message.specs.declared.failure.Failure.{Failure}
use Rattle.http_message.specs.declared.reply.Method.{Method}
use Rattle.http_message.specs.declared.reply.Method.TheVariants.{Other}
use Rattle.http_message.specs.declared.reply.Reply.{Reply}
use Rattle.http_message.specs.declared.reply.Version.TheVariants.{Http11}
use Rattle.http_message.specs.declared.site.Site.{Site}
use Rattle.http_message.specs.declared.status.StatusCode.{StatusCode}
use Rattle.http_message.specs.declared.status.StatusCode.TheVariants.{BadRequest, NotFound, InternalServerError}
use Rattle.http_message.specs.Sites.{route_of}
use Rattle.http_front.specs.declared.fault.FrontKind.{FrontKind}
use Rattle.http_front.specs.declared.fault.FrontKind.TheVariants as kind
use Rattle.http_front.specs.declared.handler.RequestOutcome.{RequestOutcome}

-- memory or names are lacking
abbrev pub IsLack : FrontKind → Type 0
IsLack k = (k ≡ kind.NoMemory) ⊎ (k ≡ kind.NamesSpent)

-- the file at a path that was sent
abbrev pub file_at : Site → Option (List ℕ) → Option (List ℕ)
file_at site None = None
file_at site (Some sent) = route_of site (percent_decode sent)

-- the file that a head asks for: its path is decoded once, and matched as a whole
unfoldable pub file_of : Site → RequestHead → Option (List ℕ)
file_of site h = file_at site (target_path h.target)

-- H: what handles requests. lacks: that it leaves a request without an outcome, and for want of what.
module _ {H : Type 0} (lacks : H → Method → List ℕ → FrontKind → H → Type 0) where
  -- There is a file, and names are lacking for a request for it.
  abbrev pub LacksNamesFor : Option (List ℕ) → H → Method → H → Type 0
  LacksNamesFor route old method new = (file : List ℕ) × (route ≡ Some file) × lacks old method file kind.NamesSpent new

  -- Names are lacking for a head: nothing refuses it, its path has a file, and names are lacking for a request for that.
  abbrev pub LacksNamesAt : Site → H → RequestHead → H → Type 0
  LacksNamesAt site old h new = (head_refusal h ≡ None) × LacksNamesFor (file_of site h) old (method_of h.method) new

-- the outcome is this status, without content
abbrev pub IsStatusOnly : StatusCode → RequestOutcome → Type 0
IsStatusOnly status o = (o.status ≡ status) × (o.body ≡ []) × (o.failure ≡ None)

-- the outcome is 500 for a failure, and 404 where there is none, without content
abbrev pub IsUnserved : Option Failure → RequestOutcome → Type 0
IsUnserved None o = IsStatusOnly NotFound o
IsUnserved (Some failure) o = (o.status ≡ InternalServerError) × (o.body ≡ []) × (o.failure ≡ Some failure)

-- the reply to a head
pub record IsReplyTo (h : RequestHead) (o : RequestOutcome) (r : Reply) : Type 0 where
  pub status : r.status ≡ o.status
  pub version : r.version ≡ version_of h.minor
  pub method : r.method ≡ method_of h.method
  pub closes : r.closes ≡ (head_closes h || status_closes o.status)
  pub body : r.body ≡ o.body
  pub failure : r.failure ≡ o.failure

-- the reply where there is no head
pub record IsBadReply (r : Reply) : Type 0 where
  pub status : r.status ≡ BadRequest
  pub version : r.version ≡ Http11
  pub method : r.method ≡ Other
  pub closes : r.closes ≡ true
  pub body : r.body ≡ []
  pub failure : r.failure ≡ None
