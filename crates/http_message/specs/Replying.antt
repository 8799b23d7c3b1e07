-- The text of a response (RFC 9112, sections 4 and 7.1; RFC 9110, sections 6.6.1, 8.6 and 10.2.1).
use Rattle.std.specs.Prelude.{◌≡◌, ℕ, ◌<◌, ◌≤◌, ◌==◌, Bool, true, false, List, [], ◌++◌, length, codes, if◌then◌else◌, decimal}
use Rattle.std.specs.Fmt.{digits}
use Rattle.httpdate.specs.Date.{unix_secs, date_text}
use Rattle.httpdate.specs.declared.date.HttpDate.{HttpDate}
use Rattle.http_message.specs.declared.status.StatusCode.{StatusCode}
use Rattle.http_message.specs.declared.status.StatusCode.TheVariants.{Success, BadRequest, NotFound, MethodNotAllowed, ContentTooLarge, InternalServerError, NotImplemented}
use Rattle.http_message.specs.declared.reply.Version.{Version}
use Rattle.http_message.specs.declared.reply.Version.TheVariants.{Http10, Http11}
use Rattle.http_message.specs.declared.reply.Method.{Method}
use Rattle.http_message.specs.declared.reply.Method.TheVariants.{Get}
use Rattle.http_message.specs.declared.reply.Reply.{Reply}

-- the code and its phrase
abbrev pub status_text : StatusCode → List ℕ
status_text Success = codes "200 OK"
status_text BadRequest = codes "400 Bad Request"
status_text NotFound = codes "404 Not Found"
status_text MethodNotAllowed = codes "405 Method Not Allowed"
status_text ContentTooLarge = codes "413 Content Too Large"
status_text InternalServerError = codes "500 Internal Server Error"
status_text NotImplemented = codes "501 Not Implemented"

-- a refused method is told the methods that are not
abbrev pub allow_line : StatusCode → List ℕ
allow_line MethodNotAllowed = codes "Allow: GET, HEAD\r\n"
allow_line _ = []

-- the last response of a connection says that it is
abbrev pub connection_line : Bool → List ℕ
connection_line true = codes "Connection: close\r\n"
connection_line false = []

-- how a response of so many bytes is framed
abbrev pub framing_line : StatusCode → Version → Method → ℕ → List ℕ
framing_line Success Http11 method size = codes "Transfer-Encoding: chunked\r\n"
framing_line Success Http10 Get size = codes "Content-Length: " ++ decimal size ++ codes "\r\n"
framing_line Success Http10 _ size = []
framing_line _ version method size = codes "Content-Length: 0\r\n"

-- a response with a body: GET alone, where it succeeds
abbrev pub has_body : StatusCode → Method → Bool
has_body Success Get = true
has_body _ _ = false

-- a response whose body goes out in chunks
abbrev pub has_chunks : StatusCode → Version → Method → Bool
has_chunks status Http11 method = has_body status method
has_chunks status Http10 method = false

-- the line before a chunk, its size; an empty body has no chunk
abbrev pub size_line : ℕ → List ℕ
size_line size = if size == 0 then [] else digits 16 false size ++ codes "\r\n"

-- what follows a body in chunks: the end of its chunk, and the last chunk
abbrev pub last_chunk : ℕ → List ℕ
last_chunk size = if size == 0 then codes "0\r\n\r\n" else codes "\r\n0\r\n\r\n"

-- the lines of a head, and the line of the chunk that follows it
unfoldable pub head_text : List ℕ → List ℕ → List ℕ → List ℕ → List ℕ → List ℕ → List ℕ
head_text status date allow connection framing chunk =
    codes "HTTP/1.1 " ++ status ++ codes "\r\n" ++ date ++ allow ++ connection ++ framing ++ codes "\r\n" ++ chunk

-- the size line of the chunk, if the body goes out in chunks
abbrev pub chunk_line : Reply → List ℕ
chunk_line r = if has_chunks r.status r.version r.method then size_line (length r.body) else []

-- the text before the body, where date is the Date line
unfoldable pub opening : Reply → List ℕ → List ℕ
opening r date =
    head_text (status_text r.status) date (allow_line r.status) (connection_line r.closes)
    (framing_line r.status r.version r.method (length r.body)) (chunk_line r)

-- the body, as it lies
unfoldable pub middle : Reply → List ℕ
middle r = if has_body r.status r.method then r.body else []

-- the text after the body
unfoldable pub closing : Reply → List ℕ
closing r = if has_chunks r.status r.version r.method then last_chunk (length r.body) else []

-- the whole response
unfoldable pub reply_text : Reply → List ℕ → List ℕ
reply_text r date = opening r date ++ middle r ++ closing r

-- the Date line at a moment, in seconds since 1970; none after the year 9999
pub record IsDateLine (moment : ℕ) (line : List ℕ) : Type 0 where
  pub date : (d : HttpDate) → moment < 253402300800 → unix_secs d ≡ moment
      → line ≡ codes "Date: " ++ date_text d ++ codes "\r\n"
  pub none : 253402300800 ≤ moment → line ≡ []
