-- What a look at the bytes at hand finds.
use Rattle.std.specs.Prelude.{◌≡◌, ℕ, ◌<◌, Bool, false, List, drop, length}
use Rattle.httparse.specs.Grammar.{RequestHead, MayBecomeRequest}
use Rattle.httparse.specs.Spans.{IsRequestAt, IsRequestWithin}
use Rattle.httparse.specs.declared.spans.HeaderSpan.{HeaderSpan}
use Rattle.httparse.specs.declared.spans.RequestSpans.{RequestSpans}
use Rattle.http_message.specs.Heads.{BeginsWithin, IsHeadlessWithin, StaysHeadless}
use Rattle.http_message.specs.declared.looking.HeadLook.{HeadLook}
use Rattle.http_message.specs.declared.looking.HeadLook.TheVariants.{Head, More, Headless}

-- the spans are those of a head within the limits, with which the bytes begin
abbrev pub IsHeadFound : ℕ → List ℕ → List HeaderSpan → RequestSpans → Type 0
IsHeadFound limit seen spans r =
    (h : RequestHead) × IsRequestAt seen spans r h
    × BeginsWithin limit (length spans) seen h (drop r.len seen)

-- a head is found, or more bytes are needed, or there is none whatever comes
abbrev pub Looks : ℕ → List ℕ → Bool → List HeaderSpan → HeadLook → Type 0
Looks limit seen eof spans (Head r) = IsRequestWithin seen spans r × IsHeadFound limit seen spans r
Looks limit seen eof spans More =
    (eof ≡ false) × (length seen < limit) × MayBecomeRequest seen × IsHeadlessWithin limit (length spans) seen
Looks limit seen eof spans Headless = StaysHeadless limit (length spans) seen eof
