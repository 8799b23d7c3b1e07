-- What a step does, from its parts.
use Rattle.std.proofs.Common.{◌≡◌, ℕ, ◌≤◌, ◌<◌, ◌==◌, Bool, true, false, ◌&&◌, nat_le, Ok, Err, Some, None, List, [], ◌∷◌, ◌++◌, length, take, drop, refl}
use Rattle.std.proofs.Common.{sym, inl, inr, ◌∙◌, ap, subst, append_assoc, append-nil, take-append-drop, arith, length-take, length-drop, length-append}
use Rattle.std.specs.Prelude.{Result, IfOk, IfErr}
use Rattle.std.proofs.lemmas.Bool.{eqb-true, leb-true, le-leb}
use Rattle.std.proofs.lemmas.List.{drop_all, nil_from_length, take_all}
use Rattle.httparse.specs.Grammar.{RequestHead, print_request}
use Rattle.httparse.specs.Spans.{IsRequestAt}
use Rattle.httparse.specs.declared.spans.HeaderSpan.{HeaderSpan}
use Rattle.httparse.specs.declared.spans.RequestSpans.{RequestSpans}
use Rattle.httparse.proofs.GrammarLemmas.{print_request-append}
use Rattle.percent_encoding.specs.Percent.{percent_decode}
use Rattle.http_message.specs.Clocks.{Said}
use Rattle.http_message.specs.Asking.{target_path}
use Rattle.http_message.specs.Heads.{BeginsWithin, IsHeadlessWithin, StaysHeadless}
use Rattle.http_message.specs.Looking.{IsHeadFound}
use Rattle.http_message.specs.Sites.{route_of}
use Rattle.http_message.specs.declared.reply.Method.{Method}
use Rattle.http_message.specs.declared.site.Site.{Site}
use Rattle.http_message.proofs.Headless.{front_only}
use Rattle.http_front.specs.Outcomes.{file_at, file_of, IsLack, LacksNamesAt}
use Rattle.http_front.specs.Stepping.{LacksAnswer, ServesRequest, DoesStep, WantsAnswer}
use Rattle.http_front.specs.Turns.{WantsMore, head_limit, fields_limit}
use Rattle.http_front.specs.declared.fault.FrontKind.{FrontKind}
use Rattle.http_front.specs.declared.fault.FrontKind.TheVariants as kind
use Rattle.http_front.specs.declared.handler.RequestOutcome.{RequestOutcome}
use Rattle.http_front.specs.declared.steps.ServeStep.{ServeStep}
use Rattle.http_front.specs.declared.steps.ServeStep.TheVariants as step

pub ok_gives : {A E : Type 0} (P Q : A → Type 0) (r : Result A E) → ((a : A) → P a → Q a) → IfOk r P → IfOk r Q
ok_gives P Q (Ok a) gives p = gives a p
ok_gives P Q (Err e) gives p = tt

-- the file at the path of a target
pub file_at_path : (site : Site) (h : RequestHead) (target sent : List ℕ) → target ≡ h.target → target_path target ≡ Some sent
    → route_of site (percent_decode sent) ≡ file_of site h
unfolding file_of
file_at_path site h target sent same is = ap (file_at site) (sym is ∙ ap target_path same)

pub no_file : (site : Site) (h : RequestHead) (target : List ℕ) → target ≡ h.target → target_path target ≡ None → None ≡ file_of site h
unfolding file_of
no_file site h target same is = ap (file_at site) (sym is ∙ ap target_path same)

-- a head has a byte
pub some_bytes : (h : RequestHead) → 0 < length (print_request h)
some_bytes h = omega (arith, simp length-append at (ap length (print_request-append h [])))

-- an empty list begins with no head
none_headless : (limit room : ℕ) → IsHeadlessWithin limit room []
none_headless limit room h rest begins =
    let some = some_bytes h in
    let long = ap length begins.reads.1 in
    let both = length-append (print_request h) rest in
    absurd (omega (arith, some, long, both))

pub none_wants : (seen : List ℕ) → seen ≡ [] → WantsMore seen
none_wants seen none = subst WantsMore (sym none) (record { few = omega arith; hopeful = inl refl; headless = none_headless head_limit fields_limit })

-- a head that a front of the bytes begins with
pub begins_wider : (limit : ℕ) (room : ℕ) (seen : List ℕ) (h : RequestHead) (size : ℕ) → size ≤ length (take limit seen)
    → BeginsWithin limit room (take limit seen) h (drop size (take limit seen)) → BeginsWithin limit room seen h (drop size seen)
begins_wider limit room seen h size fits begins =
    let text = print_request h in
    let low = take limit seen in
    let count : size ≡ length text = omega (arith, ap length begins.reads.1, length-append text (drop size low), length-drop size low) in
    let all : seen ++ [] ≡ text ++ (drop size low ++ drop limit seen) =
    append-nil seen ∙ sym (take-append-drop limit seen) ∙ ap (λ x. x ++ drop limit seen) begins.reads.1 ∙ append_assoc text (drop size low) (drop limit seen) in
    let within : length text ≤ length seen = omega (arith, length-take limit seen) in
    record {
      reads = (begins.reads.0, subst (λ (k : ℕ). seen ≡ text ++ drop k seen) (sym count) (front_only seen [] text (drop size low ++ drop limit seen) all within));
      size = begins.size;
      count = begins.count;
    }

-- nothing lies behind the front
nothing_more : (limit : ℕ) (seen more : List ℕ) (eof : Bool) → (eof ≡ true → more ≡ []) → (eof && nat_le (length seen) limit) ≡ true
    → drop limit seen ++ more ≡ []
nothing_more limit seen more true over is = ap (λ x. x ++ more) (drop_all limit seen (leb-true (length seen) limit is)) ∙ over refl
nothing_more limit seen more false over is = cc

-- what a front of the bytes never becomes
headless_wider : (limit : ℕ) (room : ℕ) (seen : List ℕ) (eof : Bool)
    → StaysHeadless limit room (take limit seen) (eof && nat_le (length seen) limit) → StaysHeadless limit room seen eof
headless_wider limit room seen eof never more over h rest begins =
    let same : seen ++ more ≡ take limit seen ++ (drop limit seen ++ more) =
    ap (λ x. x ++ more) (sym (take-append-drop limit seen)) ∙ append_assoc (take limit seen) (drop limit seen) more in
    never (drop limit seen ++ more) (nothing_more limit seen more eof over) h rest (subst (λ x. BeginsWithin limit room x h rest) same begins)

pub so_not : {b : Bool} → b ≡ false → b ≡ true → ⊥
so_not fails holds = cc

pub is_empty : (xs : List ℕ) → true ≡ (length xs == 0) → xs ≡ []
is_empty xs test = nil_from_length xs (eqb-true (length xs) 0 (sym test))

pub not_empty : (xs : List ℕ) → false ≡ (length xs == 0) → ¬ (xs ≡ [])
not_empty [] test none = so_not (sym test) refl
not_empty (x ∷ xs) test none = cc

-- more bytes come, and there is room for them
more_wider : (seen : List ℕ) (eof : Bool) → (eof && nat_le (length seen) head_limit) ≡ false → WantsMore (take head_limit seen)
    → (eof ≡ false) × WantsMore seen
more_wider seen true is needs_input =
    let fits : length seen ≤ head_limit = omega (arith, needs_input.few, length-take head_limit seen) in
    let yes = le-leb (length seen) head_limit fits in
    absurd (so_not is yes)
more_wider seen false is needs_input =
    let fits : length seen ≤ head_limit = omega (arith, needs_input.few, length-take head_limit seen) in
    (refl, subst WantsMore (take_all head_limit seen fits) needs_input)

-- what a front of the bytes begins with, they begin with
begins_before : (seen : List ℕ) (h : RequestHead) (rest : List ℕ) → BeginsWithin head_limit fields_limit (take head_limit seen) h rest
    → BeginsWithin head_limit fields_limit seen h (rest ++ drop head_limit seen)
begins_before seen h rest begins =
    let all : seen ≡ print_request h ++ (rest ++ drop head_limit seen) = sym (take-append-drop head_limit seen) ∙ ap (λ x. x ++ drop head_limit seen) begins.reads.1
    ∙ append_assoc (print_request h) rest (drop head_limit seen) in
    record { reads = (begins.reads.0, all); size = begins.size; count = begins.count }

-- an answer that is wanted to a front of the bytes is wanted to them all
answer_wider : (seen : List ℕ) (eof : Bool) → WantsAnswer (take head_limit seen) (eof && nat_le (length seen) head_limit) → WantsAnswer seen eof
answer_wider seen eof (inl (h, rest, begins)) = inl (h, rest ++ drop head_limit seen, begins_before seen h rest begins)
answer_wider seen eof (inr bad) = inr ((λ none. bad.0 (ap (take head_limit) none)), headless_wider head_limit fields_limit seen eof bad.1)

-- why a step gets no answer, from a front of the bytes
module _ {H : Type 0} (site : Site) (lacks : H → Method → List ℕ → FrontKind → H → Type 0) (old new : H) where
  lack_before : (seen : List ℕ) (eof : Bool) (e : FrontKind) → LacksAnswer site lacks old (take head_limit seen) (eof && nat_le (length seen) head_limit) new e
      → LacksAnswer site lacks old seen eof new e
  lack_before seen eof kind.NoMemory needs_input = answer_wider seen eof needs_input
  lack_before seen eof kind.NamesSpent needs_input = record {
    head = needs_input.head;
    rest = needs_input.rest ++ drop head_limit seen;
    begins = begins_before seen needs_input.head needs_input.rest needs_input.begins;
    names = needs_input.names;
  }
  lack_before seen eof e lack = absurd lack

  pub lack_wider : {A : Type 0} (seen low : List ℕ) (eof ended : Bool) (r : Result A FrontKind) → low ≡ take head_limit seen → ended ≡ (eof && nat_le (length seen) head_limit)
      → IfErr r (LacksAnswer site lacks old low ended new) → IfErr r (LacksAnswer site lacks old seen eof new)
  lack_wider seen low eof ended (Ok s) front over h = tt
  lack_wider seen low eof ended (Err e) front over h =
      lack_before seen eof e (subst (λ (l : List ℕ). LacksAnswer site lacks old l (eof && nat_le (length seen) head_limit) new e) front
      (subst (λ (b : Bool). LacksAnswer site lacks old low b new e) over h))

  -- why a head that was found gets no answer
  pub found_lack : {A : Type 0} (seen : List ℕ) (spans : List HeaderSpan) (eof : Bool) (head : RequestSpans) (r : Result A FrontKind)
      → length spans ≡ fields_limit → IsHeadFound head_limit seen spans head
      → IfErr r (λ e. IsLack e × (e ≡ kind.NamesSpent → (h : RequestHead) → IsRequestAt seen spans head h → LacksNamesAt lacks site old h new)) → IfErr r (LacksAnswer site lacks old seen eof new)
  found_lack seen spans eof head (Ok s) room found lack = tt
  found_lack seen spans eof head (Err e) room found lack =
      let begins : BeginsWithin head_limit fields_limit seen found.0 (drop head.len seen) = subst (λ (n : ℕ). BeginsWithin head_limit n seen found.0 (drop head.len seen)) room found.2 in
      elim lack.0 [
        | inl memory ↦ subst (LacksAnswer site lacks old seen eof new) (sym memory) (inl (found.0, drop head.len seen, begins))
        | inr names ↦ subst (LacksAnswer site lacks old seen eof new) (sym names) (record { head = found.0; rest = drop head.len seen; begins = begins; names = lack.1 names found.0 found.1 })
      ]

done_wider : (limit : ℕ) (seen : List ℕ) (eof : Bool) → (eof && nat_le (length seen) limit) ≡ true → take limit seen ≡ []
    → (eof ≡ true) × (seen ≡ [])
done_wider limit seen true is none = (refl, sym (take_all limit seen (leb-true (length seen) limit is)) ∙ none)
done_wider limit seen false is none = cc

module _ {H K : Type 0} (site : Site) (handles : H → Method → List ℕ → RequestOutcome → H → Type 0) (tells : K → Said → K → Type 0) where
  serves_wider : (old new : H) (before after : K) (seen : List ℕ) (closes : Bool) (size : ℕ) (text : List ℕ)
      → ServesRequest site handles tells old before (take head_limit seen) closes size text new after
      → ServesRequest site handles tells old before seen closes size text new after
  serves_wider old new before after seen closes size text s = record {
    turn = s.turn;
    begins = begins_wider head_limit fields_limit seen s.turn.head size s.fits s.begins;
    fits = omega (arith, s.fits, length-take head_limit seen);
    some = s.some;
    answers = s.answers;
    written = s.written;
    goes_on = s.goes_on;
  }

  -- a step over a front of the bytes is a step over them all
  steps_wider : (old new : H) (before after : K) (seen : List ℕ) (eof : Bool) (text : List ℕ) (s : ServeStep)
      → DoesStep site handles tells old before (take head_limit seen) (eof && nat_le (length seen) head_limit) s text new after
      → DoesStep site handles tells old before seen eof s text new after
  steps_wider old new before after seen eof text (step.Stays size) x = serves_wider old new before after seen false size text x
  steps_wider old new before after seen eof text (step.Closes size) x = serves_wider old new before after seen true size text x
  steps_wider old new before after seen eof text step.Refused x = (λ none. x.0 (ap (take head_limit) none), headless_wider head_limit fields_limit seen eof x.1, x.2, x.3)
  steps_wider old new before after seen eof text step.More x =
      let wider = more_wider seen eof x.0 x.1 in (wider.0, wider.1, x.2)
  steps_wider old new before after seen eof text step.Done x =
      let wider = done_wider head_limit seen eof x.0 x.1 in (wider.0, wider.1, x.2)

  pub steps_front : (old new : H) (before after : K) (seen low : List ℕ) (eof ended : Bool) (text : List ℕ) (s : ServeStep)
      → low ≡ take head_limit seen → ended ≡ (eof && nat_le (length seen) head_limit)
      → DoesStep site handles tells old before low ended s text new after → DoesStep site handles tells old before seen eof s text new after
  steps_front old new before after seen low eof ended text s front over x =
      let at_front = subst (λ (l : List ℕ). DoesStep site handles tells old before l ended s text new after) front x in
      steps_wider old new before after seen eof text s (subst (λ (e : Bool). DoesStep site handles tells old before (take head_limit seen) e s text new after) over at_front)
