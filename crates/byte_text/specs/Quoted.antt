-- Texts in quotes: how they are read, and how they are written.
use Rattle.std.specs.Prelude.{ℕ, ◌<◌, ◌+◌, ◌-◌, ◌*◌, ◌/◌, ◌%◌, Bool, true, false, ◌&&◌, nat_le, nat_lt, ◌==◌, if◌then◌else◌, List, [], ◌∷◌, ◌++◌, length, Option, Some, None, option_map}
use Rattle.std.specs.Prelude.{option_to_list}
use Rattle.byte_text.specs.Bytes.{is_printable}
use Rattle.byte_text.specs.declared.quoted.Scan.{Scan}
use Rattle.byte_text.specs.declared.quoted.Scan.TheVariants as scan
use Rattle.byte_text.specs.declared.quoted.ByteRead.{ByteRead}
use Rattle.byte_text.specs.declared.quoted.Measured.{Measured}

-- the value of a digit of `\xHH`, in lower case
abbrev pub hex_value : ℕ → Option ℕ
hex_value b =
    if nat_le 48 b && nat_le b 57 then Some (b - 48)
    else (if nat_le 97 b && nat_le b 102 then Some (b - 97 + 10) else None)

abbrev pub made : ℕ → Option ByteRead
made b = Some (record { scan = scan.Plain; byte = Some b })

abbrev pub moved : Scan → Option ByteRead
moved s = Some (record { scan = s; byte = None })

-- between the bytes of a text: its end, an escape, or a byte that stands for itself
abbrev pub plain : ℕ → Option ByteRead
plain b =
    if b == 34 then moved scan.Done
    else (if b == 92 then moved scan.Escape else (if is_printable b then made b else None))

-- after a backslash: `"`, `\`, `n`, `r` and `x`
abbrev pub escaped : ℕ → Option ByteRead
escaped b =
    if b == 34 then made 34
    else (if b == 92 then made 92
    else (if b == 110 then made 10
    else (if b == 114 then made 13
    else (if b == 120 then moved scan.High else None))))

abbrev pub high_digit : Option ℕ → Option ByteRead
high_digit None = None
high_digit (Some d) = moved (scan.Low d)

abbrev pub low_digit : ℕ → Option ℕ → Option ByteRead
low_digit h None = None
low_digit h (Some d) = made (16 * h + d)

-- what the next byte makes, if it may stand there
abbrev pub scanned : Scan → ℕ → Option ByteRead
scanned scan.Plain b = plain b
scanned scan.Escape b = escaped b
scanned scan.High b = high_digit (hex_value b)
scanned (scan.Low h) b = low_digit h (hex_value b)
scanned scan.Done b = None

abbrev pub is_done : Scan → Bool
is_done scan.Plain = false
is_done scan.Escape = false
is_done scan.High = false
is_done (scan.Low h) = false
is_done scan.Done = true

-- a text, and how many bytes its spelling has with both quotes
pub record Quoted : Type 0 where
  pub text : List ℕ
  pub used : ℕ

-- the end of the text, or the rest of it from the next place on
abbrev pub text_step : Option ByteRead → List ℕ → ℕ → (Scan → List ℕ → Option Quoted) → Option Quoted
text_step None text n rest = None
text_step (Some r) text n rest =
    if is_done r.scan then Some (record { text = text; used = n + 1 })
    else rest r.scan (text ++ option_to_list r.byte)

-- the text that goes on with these bytes, where n bytes of its spelling came before
abbrev pub text_from : Scan → List ℕ → ℕ → List ℕ → Option Quoted
text_from s text n [] = None
text_from s text n (b ∷ bs) = text_step (scanned s b) text n (λ t more. text_from t more (n + 1) bs)

-- the text whose spelling these bytes begin with
unfoldable pub quoted : List ℕ → Option Quoted
quoted [] = None
quoted (b ∷ bs) = if b == 34 then text_from scan.Plain [] 1 bs else None

abbrev pub text_of : Option Quoted → Option (List ℕ)
text_of q = option_map (λ t. t.text) q

abbrev pub with_length : Quoted → List ℕ × ℕ
with_length q = (q.text, q.used)

abbrev pub measure_of : Option Quoted → Option Measured
measure_of q = option_map (λ t. record { len = length t.text; used = t.used }) q

-- the same for the length of the text alone
abbrev pub measure_step : Option ByteRead → ℕ → ℕ → (Scan → ℕ → Option Measured) → Option Measured
measure_step None len n rest = None
measure_step (Some r) len n rest =
    if is_done r.scan then Some (record { len = len; used = n + 1 })
    else rest r.scan (len + length (option_to_list r.byte))

abbrev pub measured_from : Scan → ℕ → ℕ → List ℕ → Option Measured
measured_from s len n [] = None
measured_from s len n (b ∷ bs) = measure_step (scanned s b) len n (λ t more. measured_from t more (n + 1) bs)

-- a digit of `\xHH`
abbrev pub hex_digit : ℕ → ℕ
hex_digit d = if nat_lt d 10 then 48 + d else 87 + d

-- how a byte is written in a text
abbrev pub spelled : ℕ → List ℕ
spelled b =
    if b == 34 then 92 ∷ 34 ∷ []
    else (if b == 92 then 92 ∷ 92 ∷ []
    else (if is_printable b then b ∷ []
    else 92 ∷ 120 ∷ hex_digit (b / 16) ∷ hex_digit (b % 16) ∷ []))

abbrev pub spelled_all : List ℕ → List ℕ
spelled_all [] = []
spelled_all (b ∷ bs) = spelled b ++ spelled_all bs

-- how a text is written
abbrev pub spelling : List ℕ → List ℕ
spelling text = 34 ∷ spelled_all text ++ 34 ∷ []

-- a digit that was read is below 16
abbrev pub IsBelow16 : Scan → Type 0
IsBelow16 scan.Plain = Unit {0}
IsBelow16 scan.Escape = Unit {0}
IsBelow16 scan.High = Unit {0}
IsBelow16 (scan.Low h) = h < 16
IsBelow16 scan.Done = Unit {0}
