-- What a request line asks for (RFC 9110, section 9; RFC 9112, section 3).
use Rattle.std.specs.Prelude.{ℕ, Bool, true, false, map, is_some, ◌&&◌, ◌||◌, nat_le, List, [], ◌∷◌, take, drop, length, Option, Some, None, codes, if◌then◌else◌, ◌==◌, bytes_eq}
use Rattle.httparse.specs.Grammar.{RequestHead}
use Rattle.httparse.specs.Spans.{name_and_value}
use Rattle.http1.specs.Fields.{Header}
use Rattle.http1.specs.Text.{eq_ignore_case}
use Rattle.http_message.specs.Fields.{field_refusal, closes}
use Rattle.http_message.specs.declared.reply.Method.{Method}
use Rattle.http_message.specs.declared.reply.Method.TheVariants.{Get, Head, Other}
use Rattle.http_message.specs.declared.reply.Version.{Version}
use Rattle.http_message.specs.declared.reply.Version.TheVariants.{Http10, Http11}
use Rattle.http_message.specs.declared.status.StatusCode.{StatusCode}
use Rattle.http_message.specs.declared.status.StatusCode.TheVariants.{BadRequest, MethodNotAllowed, ContentTooLarge, InternalServerError, NotImplemented}

-- the version of a head
abbrev pub version_of : ℕ → Version
version_of minor = if minor == 0 then Http10 else Http11

-- the method of a head, as far as its response depends on it
abbrev pub method_of : List ℕ → Method
method_of method = if bytes_eq method (codes "GET") then Get else (if bytes_eq method (codes "HEAD") then Head else Other)

-- a method that this server answers
abbrev pub is_served : Method → Bool
is_served Get = true
is_served Head = true
is_served Other = false

-- another method of RFC 9110 and RFC 5789
abbrev pub is_known : List ℕ → Bool
is_known method =
    bytes_eq method (codes "POST") || bytes_eq method (codes "PUT") || bytes_eq method (codes "DELETE")
    || bytes_eq method (codes "CONNECT") || bytes_eq method (codes "OPTIONS") || bytes_eq method (codes "TRACE")
    || bytes_eq method (codes "PATCH")

-- the status that refuses the method, if one does
unfoldable pub method_refusal : List ℕ → Option StatusCode
method_refusal method =
    if is_served (method_of method) then None
    else (if is_known method then Some MethodNotAllowed else Some NotImplemented)

-- the bytes before the first such byte
abbrev pub before : ℕ → List ℕ → List ℕ
before wanted [] = []
before wanted (b ∷ bytes) = if b == wanted then [] else b ∷ before wanted bytes

-- the bytes from the first such byte on
abbrev pub from_first : ℕ → List ℕ → List ℕ
from_first wanted [] = []
from_first wanted (b ∷ bytes) = if b == wanted then b ∷ bytes else from_first wanted bytes

-- b'/'
abbrev pub slash : ℕ
slash = 47

-- b'?'
abbrev pub question : ℕ
question = 63

-- a path, or / where it is empty
abbrev pub or_root : List ℕ → List ℕ
or_root [] = slash ∷ []
or_root (b ∷ bytes) = b ∷ bytes

-- it begins with a /
abbrev pub is_origin : List ℕ → Bool
is_origin [] = false
is_origin (b ∷ bytes) = b == slash

-- the scheme of an absolute target, and its //
abbrev pub scheme : List ℕ
scheme = codes "http://"

-- it begins with the scheme, in any case
abbrev pub is_absolute : List ℕ → Bool
is_absolute target = nat_le 7 (length target) && eq_ignore_case (take 7 target) scheme

-- the path of a target without its query: the whole of it, or what follows the authority
abbrev pub form_path : List ℕ → Option (List ℕ)
form_path target =
    if is_origin target then Some target
    else (if is_absolute target then Some (or_root (from_first slash (drop 7 target))) else None)

-- the path of a target, as it was sent; none for a target that is neither in origin form nor an http: URI
unfoldable pub target_path : List ℕ → Option (List ℕ)
target_path target = form_path (before question target)

-- the status that refuses the target, if one does
abbrev pub target_refusal : List ℕ → Option StatusCode
target_refusal target = if is_some (target_path target) then None else Some BadRequest

-- the first refusal
abbrev pub or_else : Option StatusCode → Option StatusCode → Option StatusCode
or_else None other = other
or_else (Some status) other = Some status

-- the names and values of a head
abbrev pub fields_of : RequestHead → List Header
fields_of h = map name_and_value h.fields

-- the status that a head is refused with, whatever is served: by its fields, its method, its target
unfoldable pub head_refusal : RequestHead → Option StatusCode
head_refusal h =
    or_else (field_refusal h.minor (fields_of h))
    (or_else (method_refusal h.method) (target_refusal h.target))

-- the client of the head wants no further request
unfoldable pub head_closes : RequestHead → Bool
head_closes h = closes h.minor (fields_of h)

-- no request is read after this status
abbrev pub status_closes : StatusCode → Bool
status_closes BadRequest = true
status_closes ContentTooLarge = true
status_closes InternalServerError = true
status_closes _ = false
