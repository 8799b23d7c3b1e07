-- Requests and their responses, as values, worked out by hand.
use Rattle.std.specs.Prelude.{◌≡◌, ℕ, ◌||◌, Bool, true, false, List, [], ◌∷◌, ◌++◌, length, replicate, Option, Some, None, codes}
use Rattle.httparse.specs.Grammar.{crlf, Field, RequestHead, print_request}
use Rattle.percent_encoding.specs.Percent.{percent_decode}
use Rattle.http_message.specs.Asking.{method_of, head_refusal, head_closes, status_closes, target_path, version_of}
use Rattle.http_message.specs.Heads.{IsHeadlessWithin}
use Rattle.http_message.specs.Replying.{IsDateLine, reply_text, size_line}
use Rattle.http_message.specs.Sites.{route_of}
use Rattle.http_message.specs.declared.failure.Failure.{Failure}
use Rattle.http_message.specs.declared.reply.Method.TheVariants.{Head, Other}
use Rattle.http_message.specs.declared.reply.Reply.{Reply}
use Rattle.http_message.specs.declared.reply.Version.TheVariants.{Http11}
use Rattle.http_message.specs.declared.site.Site.{Site}
use Rattle.http_message.specs.declared.status.StatusCode.{StatusCode}
use Rattle.http_message.specs.declared.status.StatusCode.TheVariants.{Success, BadRequest, NotFound, MethodNotAllowed, ContentTooLarge, InternalServerError, NotImplemented}
use Rattle.http_front.specs.Outcomes.{file_of, IsStatusOnly, IsUnserved, IsReplyTo, IsBadReply}
use Rattle.http_front.specs.declared.handler.RequestOutcome.{RequestOutcome}
use Rattle.http_front.specs.Turns.{IsWithinLimits, head_limit, fields_limit}

-- Heads.

-- a field line; the value as it is sent, with the blanks around it
abbrev pub line : List ℕ → List ℕ → Field
line name raw = record { name = name; raw = raw; end = crlf }

abbrev pub host : Field
host = line (codes "Host") (codes " h")

-- a head of such a request line and fields
abbrev pub asks : List ℕ → List ℕ → ℕ → List Field → RequestHead
asks method target minor fields = record { blank = []; method = method; target = target; minor = minor; line_end = crlf; fields = fields; last = crlf }

abbrev pub get : RequestHead
get = asks (codes "GET") (codes "/a") 1 (host ∷ [])

-- the same file, by an absolute target with an escape and a query
abbrev pub get_absolute : RequestHead
get_absolute = asks (codes "GET") (codes "http://h/%61?q") 1 (host ∷ [])

abbrev pub head : RequestHead
head = asks (codes "HEAD") (codes "/a") 1 (host ∷ [])

abbrev pub no_host : RequestHead
no_host = asks (codes "GET") (codes "/a") 1 []

-- so many further lines
abbrev pub many : ℕ → RequestHead
many count = asks (codes "GET") (codes "/a") 1 (host ∷ replicate count (line (codes "A") (codes " b")))

abbrev pub get_1_0 : RequestHead
get_1_0 = asks (codes "GET") (codes "/a") 0 []

abbrev pub post : RequestHead
post = asks (codes "POST") (codes "/a") 1 (host ∷ [])

abbrev pub brew : RequestHead
brew = asks (codes "BREW") (codes "/a") 1 (host ∷ [])

abbrev pub get_missing : RequestHead
get_missing = asks (codes "GET") (codes "/b") 1 (host ∷ [])

abbrev pub get_closing : RequestHead
get_closing = asks (codes "GET") (codes "/a") 1 (host ∷ line (codes "connection") (codes " keep-alive , Close") ∷ [])

-- a head that tells so long a content
abbrev pub with_length : List ℕ → RequestHead
with_length raw = asks (codes "GET") (codes "/a") 1 (host ∷ line (codes "Content-Length") raw ∷ [])

-- what a head asks for, whatever files there are: the status that refuses it, that its client wants no further request, and the path as it was sent
abbrev pub Asks : RequestHead → Option StatusCode → Bool → Option (List ℕ) → Type 0
Asks h refused closes path = (head_refusal h ≡ refused) × (head_closes h ≡ closes) × (target_path h.target ≡ path)

-- Responses.

-- the Date line of the moment 784111777
abbrev pub date : List ℕ
date = codes "Date: Sun, 06 Nov 1994 08:49:37 GMT\r\n"

-- a file with this content; a status without content; a failure
abbrev pub served : List ℕ → RequestOutcome
served bytes = record { status = Success; body = bytes; failure = None }

abbrev pub without_body : StatusCode → RequestOutcome
without_body status = record { status = status; body = []; failure = None }

abbrev pub failed : Failure → RequestOutcome
failed why = record { status = InternalServerError; body = []; failure = Some why }

-- the reply to a head that comes to this
abbrev pub reply_of : RequestHead → RequestOutcome → Reply
reply_of h o = record {
  status = o.status;
  version = version_of h.minor;
  method = method_of h.method;
  closes = head_closes h || status_closes o.status;
  body = o.body;
  failure = o.failure;
}

-- the reply where there is no head
abbrev pub bad_reply : Reply
bad_reply = record { status = BadRequest; version = Http11; method = Other; closes = true; body = []; failure = None }

-- a head that comes to this is answered with this text, and the connection closes behind it or not
abbrev pub IsAnswered : RequestHead → RequestOutcome → List ℕ → Bool → Type 0
IsAnswered h o text closes = (reply_text (reply_of h o) date ≡ text) × ((reply_of h o).closes ≡ closes)

-- The replies and outcomes that are promised are these: that of a head and its outcome, and that where there is no head; a status without
-- content, and a failure. Each Date line of that moment is this one.
pub record RepliesAreThese : Type 0 where
  pub reply : (h : RequestHead) (o : RequestOutcome) (r : Reply) → IsReplyTo h o r → r ≡ reply_of h o
  pub bad : (r : Reply) → IsBadReply r → r ≡ bad_reply
  pub without : (status : StatusCode) (o : RequestOutcome) → IsStatusOnly status o → o ≡ without_body status
  pub unserved : (why : Failure) (o : RequestOutcome) → IsUnserved (Some why) o → o ≡ failed why
  pub dated : (text : List ℕ) → IsDateLine 784111777 text → text ≡ date

pub record HttpGet : Type 0 where
  pub sent : print_request get ≡ codes "GET /a HTTP/1.1\r\nHost: h\r\n\r\n"
  pub asks : Asks get None false (Some (codes "/a"))
  pub file : (site : Site) → file_of site get ≡ route_of site (codes "/a")
  pub answered : IsAnswered get (served (codes "hi")) (codes "HTTP/1.1 200 OK\r\nDate: Sun, 06 Nov 1994 08:49:37 GMT\r\nTransfer-Encoding: chunked\r\n\r\n2\r\nhi\r\n0\r\n\r\n") false

pub record HttpGetAbsolute : Type 0 where
  pub sent : print_request get_absolute ≡ codes "GET http://h/%61?q HTTP/1.1\r\nHost: h\r\n\r\n"
  pub asks : Asks get_absolute None false (Some (codes "/%61"))
  pub decoded : percent_decode (codes "/%61") ≡ codes "/a"
  pub file : (site : Site) → file_of site get_absolute ≡ route_of site (codes "/a")
  pub reply : (o : RequestOutcome) → reply_of get_absolute o ≡ reply_of get o

pub record HttpHead : Type 0 where
  pub sent : print_request head ≡ codes "HEAD /a HTTP/1.1\r\nHost: h\r\n\r\n"
  pub asks : Asks head None false (Some (codes "/a"))
  pub method : method_of head.method ≡ Head
  pub answered : IsAnswered head (served (codes "hi")) (codes "HTTP/1.1 200 OK\r\nDate: Sun, 06 Nov 1994 08:49:37 GMT\r\nTransfer-Encoding: chunked\r\n\r\n") false

pub record HttpBadHead : Type 0 where
  pub sent : print_request no_host ≡ codes "GET /a HTTP/1.1\r\n\r\n"
  pub asks : Asks no_host (Some BadRequest) false (Some (codes "/a"))
  pub answered : IsAnswered no_host (without_body BadRequest) (codes "HTTP/1.1 400 Bad Request\r\nDate: Sun, 06 Nov 1994 08:49:37 GMT\r\nConnection: close\r\nContent-Length: 0\r\n\r\n") true

-- 63 further lines are within the limit, and 64 are not.
pub record HttpManyFields : Type 0 where
  pub within : IsWithinLimits (many 63)
  pub asks : Asks (many 63) None false (Some (codes "/a"))
  pub reply : (o : RequestOutcome) → reply_of (many 63) o ≡ reply_of get o
  pub beyond : IsHeadlessWithin head_limit fields_limit (print_request (many 64))
  pub answered : reply_text bad_reply date ≡ codes "HTTP/1.1 400 Bad Request\r\nDate: Sun, 06 Nov 1994 08:49:37 GMT\r\nConnection: close\r\nContent-Length: 0\r\n\r\n"

pub record Http10 : Type 0 where
  pub sent : print_request get_1_0 ≡ codes "GET /a HTTP/1.0\r\n\r\n"
  pub asks : Asks get_1_0 None true (Some (codes "/a"))
  pub answered : IsAnswered get_1_0 (served (codes "hi")) (codes "HTTP/1.1 200 OK\r\nDate: Sun, 06 Nov 1994 08:49:37 GMT\r\nConnection: close\r\nContent-Length: 2\r\n\r\nhi") true

pub record HttpMethods : Type 0 where
  pub post_asks : Asks post (Some MethodNotAllowed) false (Some (codes "/a"))
  pub post_answered : IsAnswered post (without_body MethodNotAllowed) (codes "HTTP/1.1 405 Method Not Allowed\r\nDate: Sun, 06 Nov 1994 08:49:37 GMT\r\nAllow: GET, HEAD\r\nContent-Length: 0\r\n\r\n") false
  pub brew_asks : Asks brew (Some NotImplemented) false (Some (codes "/a"))
  pub brew_answered : IsAnswered brew (without_body NotImplemented) (codes "HTTP/1.1 501 Not Implemented\r\nDate: Sun, 06 Nov 1994 08:49:37 GMT\r\nContent-Length: 0\r\n\r\n") false

pub record HttpMissing : Type 0 where
  pub asks : Asks get_missing None false (Some (codes "/b"))
  pub file : (site : Site) → file_of site get_missing ≡ route_of site (codes "/b")
  pub answered : IsAnswered get_missing (without_body NotFound) (codes "HTTP/1.1 404 Not Found\r\nDate: Sun, 06 Nov 1994 08:49:37 GMT\r\nContent-Length: 0\r\n\r\n") false

-- A connection that is broken, and a filter that answers that it failed.
pub record HttpFailing : Type 0 where
  pub answered : (why : Failure) → IsAnswered get (failed why)
      (codes "HTTP/1.1 500 Internal Server Error\r\nDate: Sun, 06 Nov 1994 08:49:37 GMT\r\nConnection: close\r\nContent-Length: 0\r\n\r\n") true

pub record HttpEmptyFile : Type 0 where
  pub answered : IsAnswered get (served []) (codes "HTTP/1.1 200 OK\r\nDate: Sun, 06 Nov 1994 08:49:37 GMT\r\nTransfer-Encoding: chunked\r\n\r\n0\r\n\r\n") false

pub record HttpLargeFile : Type 0 where
  pub size : size_line 65537 ≡ codes "10001\r\n"
  pub answered : (bytes : List ℕ) → length bytes ≡ 65537
      → IsAnswered get (served bytes) (codes "HTTP/1.1 200 OK\r\nDate: Sun, 06 Nov 1994 08:49:37 GMT\r\nTransfer-Encoding: chunked\r\n\r\n10001\r\n" ++ bytes ++ codes "\r\n0\r\n\r\n") false

pub record HttpRequestBody : Type 0 where
  pub asks : Asks (with_length (codes " 3")) (Some ContentTooLarge) false (Some (codes "/a"))
  pub answered : IsAnswered (with_length (codes " 3")) (without_body ContentTooLarge)
      (codes "HTTP/1.1 413 Content Too Large\r\nDate: Sun, 06 Nov 1994 08:49:37 GMT\r\nConnection: close\r\nContent-Length: 0\r\n\r\n") true
  pub none_asks : Asks (with_length (codes " 0")) None false (Some (codes "/a"))
  pub none_reply : (o : RequestOutcome) → reply_of (with_length (codes " 0")) o ≡ reply_of get o

pub record HttpConnectionOption : Type 0 where
  pub asks : Asks get_closing None true (Some (codes "/a"))
  pub answered : IsAnswered get_closing (served (codes "hi"))
      (codes "HTTP/1.1 200 OK\r\nDate: Sun, 06 Nov 1994 08:49:37 GMT\r\nConnection: close\r\nTransfer-Encoding: chunked\r\n\r\n2\r\nhi\r\n0\r\n\r\n") true
