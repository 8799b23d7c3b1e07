-- Steps in slices: a head begins a request, and the response to it.
use Rattle.std.proofs.Common.{◌≡◌, ℕ, ◌≤◌, ◌<◌, Bool, true, false, Ok, Option, Some, None, List, length, take, drop, refl, sym, inr, ◌∙◌, ap, subst, arith, length-take, Result}
use Rattle.std.specs.Prelude.{Result, IfOk, ◌&&◌, nat_le}
use Rattle.std.proofs.lemmas.List.{take_all}
use Rattle.httparse.specs.Grammar.{RequestHead}
use Rattle.httparse.specs.Spans.{IsRequestAt, IsRequestWithin, IsWithin, span_bytes}
use Rattle.httparse.specs.declared.spans.HeaderSpan.{HeaderSpan}
use Rattle.httparse.specs.declared.spans.RequestSpans.{RequestSpans}
use Rattle.http_message.specs.Asking.{method_of, head_refusal}
use Rattle.http_message.specs.Clocks.{Said}
use Rattle.http_message.specs.Heads.{BeginsWithin}
use Rattle.http_message.specs.ReadBuffers.{unread}
use Rattle.http_message.specs.Looking.{IsHeadFound}
use Rattle.http_message.specs.declared.reply.Method.{Method}
use Rattle.http_message.specs.declared.reply.Reply.{Reply}
use Rattle.http_message.specs.declared.site.Site.{Site}
use Rattle.http_front.specs.Nearing.{Nears}
use Rattle.http_front.specs.Outcomes.{IsReplyTo, file_of}
use Rattle.http_front.specs.Stepping.{DoesStep, IsReplyWritten, ServesRequest}
use Rattle.http_front.specs.Talking.{StepFollows, one_more, pending}
use Rattle.http_front.specs.Texts.{text_of}
use Rattle.http_front.specs.Turns.{ComesTo, ComesUnless, fields_limit, head_limit}
use Rattle.http_front.specs.UnderWays.{RequestAnswered, BeginsHead, IsAskedBy, IsUnderWay, Sends, StepMade, StepsFrom, Wants, WantsPath}
use Rattle.http_front.specs.declared.fault.FrontKind.{FrontKind}
use Rattle.http_front.specs.declared.handler.RequestOutcome.{RequestOutcome}
use Rattle.http_front.specs.declared.handler.Slice.{Slice}
use Rattle.http_front.specs.declared.handler.Slice.TheVariants as request
use Rattle.http_front.specs.declared.http_conn.HttpConn.{HttpConn}
use Rattle.http_front.specs.declared.response.ResponseText.{ResponseText}
use Rattle.http_front.specs.declared.steps.ServeStep.{ServeStep}
use Rattle.http_front.specs.declared.steps.ServeStep.TheVariants as step
use Rattle.http_front.specs.declared.under_way.Asked.{Asked}
use Rattle.http_front.specs.declared.under_way.StepSlice.{StepSlice}
use Rattle.http_front.specs.declared.under_way.StepSlice.TheVariants as slice
use Rattle.http_front.specs.declared.under_way.UnderWay.{UnderWay}
use Rattle.http_front.specs.declared.wanted.SiteTarget.{SiteTarget}
use Rattle.http_front.specs.declared.wanted.SiteTarget.TheVariants as wanted
use Rattle.http_front.proofs.Stepped.{begins_wider, some_bytes, steps_front}

-- The text of a response is that of the reply to the head.
module _ {K : Type 0} (tells : K → Said → K → Type 0) (before after : K) where
  written_for : (seen method target : List ℕ) (a : Asked) (h : RequestHead) (r : Reply) (text : List ℕ) → IsAskedBy seen a h
      → (IsWithin (length seen) a.head.method → method ≡ span_bytes seen a.head.method) → (IsWithin (length seen) a.head.path → target ≡ span_bytes seen a.head.path)
      → IsReplyWritten tells before method target r text after → IsReplyWritten tells before h.method h.target r text after
  written_for seen method target a h r text asked sent named w =
      let fits = asked.within.section.len_fits in
      let m = sent (asked.within.method.0, omega (arith, fits, asked.within.method.1)) ∙ asked.at.method in
      let t = named (asked.within.path.0, omega (arith, fits, asked.within.path.1)) ∙ asked.at.path in
      subst (λ (x : List ℕ). IsReplyWritten tells before x h.target r text after) m (subst (λ (x : List ℕ). IsReplyWritten tells before method x r text after) t w)

  pub sends_so : (seen method target : List ℕ) (a : Asked) (o : RequestOutcome) (r : Reply) (s : ServeStep) (text : List ℕ) (closes : Bool)
      → ((seen : List ℕ) (h : RequestHead) → IsAskedBy seen a h → IsReplyTo h o r) → (IsWithin (length seen) a.head.method → method ≡ span_bytes seen a.head.method)
      → (IsWithin (length seen) a.head.path → target ≡ span_bytes seen a.head.path)
      → IsReplyWritten tells before method target r text after → r.closes ≡ closes → RequestAnswered closes a.head.len s → (h : RequestHead) → IsAskedBy seen a h
      → Sends tells before h o a.head.len s text after
  sends_so seen method target a o r s text closes is sent named w same step h asked =
      record {
        reply = r;
        is = is seen h asked;
        written = written_for seen method target a h r text asked sent named w;
        answered = subst (λ (b : Bool). RequestAnswered b a.head.len s)
            (sym same) step;
      }

-- nothing of a text is written yet
pub pending_all : {T : Type 0} (c : HttpConn T) (t : ResponseText) → c.sent ≡ 0 → c.text ≡ t → pending c ≡ text_of t
pending_all c t none is = subst (λ (n : ℕ). drop n (text_of c.text) ≡ text_of t) (sym none) (ap text_of is)

pub follows_as : {T : Type 0} (s : ServeStep) (a b new : HttpConn T) → a.read_buffer ≡ b.read_buffer → a.needs_input ≡ b.needs_input → a.requests ≡ b.requests → StepFollows s a new → StepFollows s b new
follows_as (step.Stays size) a b new read_buffer needs_input count f = record {
  still = f.still ∙ ap (λ i. drop size (unread i)) read_buffer;
  needs_input = f.needs_input ∙ needs_input;
  over = f.over;
  counted = f.counted ∙ ap one_more count;
}
follows_as (step.Closes size) a b new read_buffer needs_input count f = record {
  still = f.still ∙ ap (λ i. drop size (unread i)) read_buffer;
  needs_input = f.needs_input ∙ needs_input;
  over = f.over;
  counted = f.counted ∙ ap one_more count;
}
follows_as step.Refused a b new read_buffer needs_input count f = record { still = f.still ∙ ap unread read_buffer; needs_input = f.needs_input ∙ needs_input; over = f.over; counted = f.counted ∙ ap one_more count }
follows_as step.More a b new read_buffer needs_input count f = record { still = f.still ∙ ap unread read_buffer; needs_input = f.needs_input; over = f.over; counted = f.counted ∙ count }
follows_as step.Done a b new read_buffer needs_input count f = record { still = f.still ∙ ap unread read_buffer; needs_input = f.needs_input ∙ needs_input; over = f.over; counted = f.counted ∙ count }

-- A head that nothing refuses wants what its path does.
pub wants_path : (site : Site) (h : RequestHead) (w : SiteTarget) → head_refusal h ≡ None → WantsPath site h w → Wants site h w
wants_path site h (wanted.Status status) none p = inr (none, p)
wants_path site h (wanted.File file) none p = (none, p)

-- an outcome is there
pub near_done : {H T : Type 0} (all : RequestOutcome → H → Type 0) (rest : T → RequestOutcome → H → Type 0) (now : H) (x : Slice T) (o : RequestOutcome)
    → x ≡ request.Done o → Nears all rest now x → all o now
near_done all rest now x o is near = subst (λ y. Nears all rest now y) is near

module _ {H T : Type 0} (site : Site) (among : H → Method → List ℕ → RequestOutcome → H → Type 0) (rests : H → T → RequestOutcome → H → Type 0) where
  -- a head that nothing refuses, and whose path has a file, comes to what the request for it does
  comes_so : (h : RequestHead) (file : List ℕ) (o : RequestOutcome) (old new : H) → head_refusal h ≡ None → file_of site h ≡ Some file
      → among old (method_of h.method) file o new → ComesUnless site among (head_refusal h) old h o new
  comes_so h file o old new allowed named x = subst (λ r. ComesUnless site among r old h o new) (sym allowed) (subst (λ f. ComesTo site among f old h o new) (sym named) x)

  module _ {K : Type 0} (tells : K → Said → K → Type 0) (before after : K) where
    -- the head is answered
    serves_so : (low seen : List ℕ) (a : Asked) (h : RequestHead) (o : RequestOutcome) (old new : H) (s : ServeStep) (text : List ℕ) → IsAskedBy low a h
        → BeginsWithin head_limit fields_limit seen h (drop a.head.len seen) → a.head.len ≤ length seen
        → ComesUnless site among (head_refusal h) old h o new → (x : Sends tells before h o a.head.len s text after)
        → ServesRequest site among tells old before seen x.reply.closes a.head.len text new after
    serves_so low seen a h o old new s text asked begins fits comes x = record {
      turn = record { head = h; reply = x.reply; date = x.written.date };
      begins = begins;
      fits = fits;
      some = subst (λ (n : ℕ). 0 < n) (sym asked.at.len) (some_bytes h);
      answers = record {
        valid = begins.reads.0;
        within = record { size = begins.size; count = begins.count };
        outcome = o;
        comes = comes;
        reply = x.is;
        then = x.written.then;
        dated = x.written.dated;
        noted = x.written.noted;
      };
      written = x.written.written;
      goes_on = refl;
    }

    by_closes : (closes : Bool) (seen : List ℕ) (eof : Bool) (size : ℕ) (s : ServeStep) (text : List ℕ) (old new : H) → RequestAnswered closes size s
        → ServesRequest site among tells old before seen closes size text new after → DoesStep site among tells old before seen eof s text new after
    by_closes true seen eof size s text old new is x = subst (λ (t : ServeStep). DoesStep site among tells old before seen eof t text new after) (sym is) x
    by_closes false seen eof size s text old new is x = subst (λ (t : ServeStep). DoesStep site among tells old before seen eof t text new after) (sym is) x

    does_so : (low seen : List ℕ) (eof : Bool) (a : Asked) (h : RequestHead) (o : RequestOutcome) (old new : H) (s : ServeStep) (text : List ℕ)
        → IsAskedBy low a h → BeginsWithin head_limit fields_limit seen h (drop a.head.len seen) → a.head.len ≤ length seen
        → ComesUnless site among (head_refusal h) old h o new → Sends tells before h o a.head.len s text after → DoesStep site among tells old before seen eof s text new after
    does_so low seen eof a h o old new s text asked begins fits comes x =
        by_closes x.reply.closes seen eof a.head.len s text old new x.answered (serves_so low seen a h o old new s text asked begins fits comes x)

    -- a head that was found: it is answered
    pub found_does : (seen : List ℕ) (spans : List HeaderSpan) (eof : Bool) (r : RequestSpans) (a : Asked) (o : RequestOutcome) (old new : H) (s : ServeStep)
        (text : List ℕ) → IsRequestWithin seen spans r → length spans ≡ fields_limit → (found : IsHeadFound head_limit seen spans r)
        → a.head ≡ r → ((h : RequestHead) → IsRequestAt seen spans r h → IsAskedBy seen a h) → BeginsHead site among rests found.0 old (request.Done o) new
        → ((h : RequestHead) → IsAskedBy seen a h → Sends tells before h o a.head.len s text after)
        → DoesStep site among tells old before seen eof s text new after
    found_does seen spans eof r a o old new s text within room found is asked comes sends =
        let h = found.0 in
        let by = asked h found.1 in
        let begins = subst (λ (x : RequestSpans). BeginsWithin head_limit fields_limit seen h (drop x.len seen)) (sym is)
        (subst (λ (n : ℕ). BeginsWithin head_limit n seen h (drop r.len seen)) room found.2) in
        does_so seen seen eof a h o old new s text by begins (subst (λ (x : RequestSpans). x.len ≤ length seen) (sym is) within.section.len_fits) comes (sends h by)

    -- a request is answered that was under way
    pub under_does : (seen low : List ℕ) (eof : Bool) (u : UnderWay T) (o : RequestOutcome) (old now new : H) (s : ServeStep) (text : List ℕ)
        → low ≡ take head_limit seen → (w : IsUnderWay site among rests seen u old now) → rests now u.task o new
        → ((h : RequestHead) → IsAskedBy low u.asked h → Sends tells before h o u.asked.head.len s text after) → DoesStep site among tells old before seen eof s text new after
    under_does seen low eof u o old now new s text is w rest sends =
        let by = subst (λ (l : List ℕ). IsAskedBy l u.asked w.head) (sym is) w.asked in
        does_so low seen eof u.asked w.head o old new s text by w.begins w.fits (comes_so w.head w.asks.file o old new w.asks.allowed w.asks.named (w.asks.goes o new rest)) (sends w.head by)

    -- a slice, from what it was made of
    pub stepped_ok : (did : Result (StepSlice T) FrontKind) (y x : StepSlice T) (hand took : Option (UnderWay T)) (now new : H) (seen low : List ℕ) (eof : Bool) (text pend : List ℕ)
        → did ≡ Ok y → y ≡ x → took ≡ hand → low ≡ seen → pend ≡ text → IfOk did (λ z. StepsFrom site among rests tells took now before low eof z text new after)
        → StepsFrom site among rests tells hand now before seen eof x pend new after
    stepped_ok did y x hand took now new seen low eof text pend is same taken front left s =
        subst (λ (z : StepSlice T). StepsFrom site among rests tells hand now before seen eof z pend new after) same
        (subst (λ (h : Option (UnderWay T)). StepsFrom site among rests tells h now before seen eof y pend new after) taken
        (subst (λ (l : List ℕ). StepsFrom site among rests tells took now before l eof y pend new after) front
        (subst (λ (l : List ℕ). StepsFrom site among rests tells took now before low eof y l new after) (sym left)
        (subst (λ (r : Result (StepSlice T) FrontKind). IfOk r (λ z. StepsFrom site among rests tells took now before low eof z text new after)) is s))))

    -- a request was in hand
    pub steps_some : (hand : Option (UnderWay T)) (u : UnderWay T) (now new : H) (seen : List ℕ) (eof : Bool) (x : StepSlice T) (text : List ℕ) → hand ≡ Some u
        → ((old : H) → IsUnderWay site among rests seen u old now → StepMade site among rests tells old before seen eof x text new after)
        → StepsFrom site among rests tells hand now before seen eof x text new after
    steps_some hand u now new seen eof x text is says = subst (λ (h : Option (UnderWay T)). StepsFrom site among rests tells h now before seen eof x text new after) (sym is) says

    -- a step over a front of the bytes is one over them all
    pub slices_front : (old new : H) (seen low : List ℕ) (eof ended : Bool) (text : List ℕ) (x : StepSlice T) → low ≡ take head_limit seen → ended ≡ (eof && nat_le (length seen) head_limit)
        → StepMade site among rests tells old before low ended x text new after → StepMade site among rests tells old before seen eof x text new after
    slices_front old new seen low eof ended text (slice.Did s) front over x = steps_front site among tells old new before after seen low eof ended text s front over x
    slices_front old new seen low eof ended text (slice.Works u) front over x = (wider u (subst (λ (l : List ℕ). IsUnderWay site among rests l u old new) front x.0), x.1, x.2) where
      wider : (u : UnderWay T) → IsUnderWay site among rests (take head_limit seen) u old new → IsUnderWay site among rests seen u old new
      wider u w = record {
        head = w.head;
        asked = subst (λ (l : List ℕ). IsAskedBy l u.asked w.head) (take_all head_limit (take head_limit seen) (omega (arith, length-take head_limit seen))) w.asked;
        begins = begins_wider head_limit fields_limit seen w.head u.asked.head.len w.fits w.begins;
        fits = omega (arith, w.fits, length-take head_limit seen);
        asks = w.asks;
      }

  -- a head that was found: its request is under way
  pub found_works : (seen : List ℕ) (spans : List HeaderSpan) (r : RequestSpans) (a : Asked) (k : T) (old new : H) → IsRequestWithin seen spans r
      → length spans ≡ fields_limit → length seen ≤ head_limit → (found : IsHeadFound head_limit seen spans r)
      → a.head ≡ r → ((h : RequestHead) → IsRequestAt seen spans r h → IsAskedBy seen a h) → BeginsHead site among rests found.0 old (request.Works k) new
      → IsUnderWay site among rests seen (record { asked = a; task = k }) old new
  found_works seen spans r a k old new within room few found is asked asks = record {
    head = found.0;
    asked = subst (λ (l : List ℕ). IsAskedBy l a found.0) (sym (take_all head_limit seen few)) (asked found.0 found.1);
    begins =
        subst (λ (x : RequestSpans). BeginsWithin head_limit fields_limit seen found.0 (drop x.len seen)) (sym is)
        (subst (λ (n : ℕ). BeginsWithin head_limit n seen found.0 (drop r.len seen)) room found.2);
    fits = subst (λ (x : RequestSpans). x.len ≤ length seen) (sym is) within.section.len_fits;
    asks = asks;
  }
