-- When the bytes at hand begin with a head within the limits, and when not.
use Rattle.std.proofs.Common.{◌≡◌, ℕ, ◌≤◌, Bool, true, Ok, List, ◌++◌, length, take, drop, sym, ◌∙◌, ap, subst, append-nil, take-append-drop, arith, length-take}
use Rattle.std.proofs.Math.Seq.{take-append_seam}
use Rattle.std.proofs.lemmas.List.{length-map, take-append-le}
use Rattle.httparse.specs.Grammar.{RequestHead, print_request, ReadsRequest, HasNoRequest}
use Rattle.httparse.specs.Spans.{IsRequestAt, IsRequestWithin, RequestOverflows, header_bytes, name_and_value}
use Rattle.httparse.specs.Outcome.{OnPartial}
use Rattle.httparse.specs.declared.Error.{Error}
use Rattle.httparse.specs.declared.Status.{Status}
use Rattle.httparse.specs.declared.Status.TheVariants.{Partial}
use Rattle.httparse.specs.declared.spans.HeaderSpan.{HeaderSpan}
use Rattle.httparse.specs.declared.spans.RequestSpans.{RequestSpans}
use Rattle.http_message.specs.Heads.{IsHeadlessWithin, StaysHeadless}
use Rattle.http_message.specs.Looking.{IsHeadFound}

-- the fields are as many as the spans that were written
fields_count : (buf : List ℕ) (spans : List HeaderSpan) (r : RequestSpans) (h : RequestHead)
    → IsRequestAt buf spans r h → length h.fields ≤ length spans
fields_count buf spans r h at =
    let same : length (take r.headers spans) ≡ length h.fields =
    sym (length-map (take r.headers spans) (header_bytes buf)) ∙ ap length at.fields ∙ length-map h.fields name_and_value in
    omega (arith, same, length-take r.headers spans)

-- a head that was read is within the limits
pub found_within : (limit : ℕ) (buf : List ℕ) (spans : List HeaderSpan) (r : RequestSpans)
    → length buf ≤ limit → IsRequestWithin buf spans r → ((h : RequestHead) × IsRequestAt buf spans r h) → IsHeadFound limit buf spans r
found_within limit buf spans r fits within found = (
  found.0,
  found.1,
  record {
    reads = found.1.reads;
    size = omega (arith, found.1.len, within.section.len_fits);
    count = fields_count buf spans r found.0 found.1;
  },
)

-- no head is in the bytes at hand
pub headless_now : (limit room : ℕ) (buf : List ℕ) → HasNoRequest buf → IsHeadlessWithin limit room buf
headless_now limit room buf none h rest begins = none h rest begins.reads

-- and nothing follows
pub headless_eof : (limit room : ℕ) (buf : List ℕ) (eof : Bool) → eof ≡ true → HasNoRequest buf → StaysHeadless limit room buf eof
headless_eof limit room buf eof is none more over h rest begins =
    let nothing : buf ++ more ≡ buf = ap (λ x. buf ++ x) (over is) ∙ append-nil buf in
    none h rest (subst (λ x. ReadsRequest x h rest) nothing begins.reads)

-- a text that fits into the front lies in it
pub front_only : (buf more text rest : List ℕ) → buf ++ more ≡ text ++ rest → length text ≤ length buf
    → buf ≡ text ++ drop (length text) buf
front_only buf more text rest same fits =
    let front : take (length text) buf ≡ text =
    sym (take-append-le (length text) buf more fits) ∙ ap (take (length text)) same ∙ take-append_seam text rest in
    sym (take-append-drop (length text) buf) ∙ ap (λ x. x ++ drop (length text) buf) front

-- as many bytes as a head may have are at hand
pub headless_full : (limit room : ℕ) (buf : List ℕ) (eof : Bool) → length buf ≡ limit → HasNoRequest buf → StaysHeadless limit room buf eof
headless_full limit room buf eof full none more over h rest begins =
    let text = print_request h in
    none h (drop (length text) buf) (begins.reads.0, front_only buf more text rest begins.reads.1 (omega (arith, full, begins.size)))

-- each head has too many fields
pub headless_fields : (limit room : ℕ) (buf : List ℕ) (eof : Bool) → RequestOverflows room buf → StaysHeadless limit room buf eof
headless_fields limit room buf eof many more over h rest begins =
    let low = many more h rest begins.reads in
    absurd (omega (arith, low, begins.count))

-- what the parser says of bytes that may become a head
pub partial_says : (s : Status RequestSpans) (buf : List ℕ) → s ≡ Partial → OnPartial {A = RequestSpans} {E = Error} (Ok s) (HasNoRequest buf) → HasNoRequest buf
partial_says s buf is says =
    let P : Status RequestSpans → Type 0 = λ x. OnPartial {A = RequestSpans} {E = Error} (Ok x) (HasNoRequest buf) in
    subst P is says
