-- What the field lines of a request ask for, from their names and values (RFC 9110, section 5; RFC 9112, sections 3.2, 6 and 9.6).
use Rattle.std.specs.Prelude.{ℕ, Bool, ◌&&◌, ◌||◌, not, List, length, Option, Some, None, codes, count_by, if◌then◌else◌, ◌==◌, nat_le, nat_lt}
use Rattle.std.specs.List.{list_all, list_any}
use Rattle.std.specs.Char.{is_ascii_digit}
use Rattle.httparse.specs.Ascii.{digit_zero}
use Rattle.http1.specs.Fields.{Header, is_named, elements_named, has_option}
use Rattle.http_message.specs.declared.status.StatusCode.{StatusCode}
use Rattle.http_message.specs.declared.status.StatusCode.TheVariants.{BadRequest, ContentTooLarge}

-- how many Host lines there are
abbrev pub hosts : List Header → ℕ
hosts fields = count_by (is_named (codes "host")) fields

-- at most one Host line, and in HTTP/1.1 one
unfoldable pub hosts_fit : ℕ → List Header → Bool
hosts_fit minor fields = nat_le (hosts fields) 1 && ((minor == 0) || nat_lt 0 (hosts fields))

-- one digit or more, and nothing else
abbrev pub is_digits : List ℕ → Bool
is_digits value = nat_lt 0 (length value) && list_all is_ascii_digit value

-- no byte but the digit 0
abbrev pub is_zeros : List ℕ → Bool
is_zeros value = list_all (λ b. b == digit_zero) value

-- a Content-Length that is no number
unfoldable pub is_bad_length : Header → Bool
is_bad_length f = is_named (codes "content-length") f && not (is_digits f.1)

-- a field that announces content: a Content-Length that is not 0, or any Transfer-Encoding
unfoldable pub has_content : Header → Bool
has_content f =
    (is_named (codes "content-length") f && not (is_zeros f.1)) || is_named (codes "transfer-encoding") f

-- the status that refuses a request with these fields, if one does
unfoldable pub field_refusal : ℕ → List Header → Option StatusCode
field_refusal minor fields =
    if not (hosts_fit minor fields) then Some BadRequest
    else (if list_any is_bad_length fields then Some BadRequest
    else (if list_any has_content fields then Some ContentTooLarge else None))

-- the client wants no further request on the connection
unfoldable pub closes : ℕ → List Header → Bool
closes minor fields = (minor == 0) || has_option (codes "close") (elements_named (codes "connection") fields)
