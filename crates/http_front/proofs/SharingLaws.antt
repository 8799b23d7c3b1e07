-- Connections that are served by turns.
use Rattle.std.proofs.Common.{◌≡◌, ℕ, ◌+◌, inl, inr, Bool, true, false, List, [], ◌∷◌, ◌++◌, length, take, drop, Option, Some, None, Result, Ok, Err, refl, sym, subst, ap, ◌∙◌}
use Rattle.std.proofs.lemmas.List.{append_assoc, append-nil, take-append-drop}
use Rattle.std.specs.Prelude.{OnOk}
use Rattle.std.specs.Io.KnownBytes.{Appends, Consumes}
use Rattle.std.proofs.KnownBytes.{Appends-nil, Consumes-nil}
use Rattle.httparse.specs.Grammar.{RequestHead, print_request}
use Rattle.http_message.specs.Clocks.{Said, IsNoted}
use Rattle.http_message.specs.ReadBuffers.{unread}
use Rattle.http_message.specs.Asking.{method_of, head_refusal}
use Rattle.http_message.specs.declared.reply.Method.{Method}
use Rattle.http_message.specs.declared.reply.Reply.{Reply}
use Rattle.http_message.specs.declared.site.Site.{Site}
use Rattle.http_message.specs.declared.status.StatusCode.{StatusCode}
use Rattle.http_front.specs.Outcomes.{file_of}
use Rattle.http_front.specs.Sharing.{IsOpenSo, IsSo, Passes, TellsLater}
use Rattle.http_front.specs.Stepping.{DoesStep, ServesRequest}
use Rattle.http_front.specs.Talking.{StepFollows, GoesSo, IsInHand, SliceLands, ConnStands, StandsCut, pending}
use Rattle.http_front.specs.UnderWays.{IsUnderWay, StepsFrom}
use Rattle.http_message.specs.Heads.{IsHeadlessWithin, StaysHeadless}
use Rattle.http_front.specs.Turns.{Turn, fields_limit, head_limit, AnswersRequest, ComesTo, ComesUnless, IsDated, Responses, SendsBad, heads_of, texts_of}
use Rattle.http_front.specs.declared.fault.FrontKind.{FrontKind}
use Rattle.http_front.specs.declared.handler.RequestOutcome.{RequestOutcome}
use Rattle.http_front.specs.declared.http_conn.HttpConn.{HttpConn}
use Rattle.http_front.specs.declared.http_conn.Turned.{Turned}
use Rattle.http_front.specs.declared.steps.ServeStep.{ServeStep}
use Rattle.http_front.specs.declared.steps.ServeStep.TheVariants as step
use Rattle.http_front.specs.declared.under_way.StepSlice.{StepSlice}
use Rattle.http_front.specs.declared.under_way.StepSlice.TheVariants as slice
use Rattle.http_front.specs.declared.under_way.UnderWay.{UnderWay}
use Rattle.http_front.proofs.PassLaws.{passes_none}
use Rattle.http_front.proofs.ServingLaws.{answers_more, heads_more, stay_more, texts_more}

module _ {K : Type 0} (tells : K → Said → K → Type 0) where
  dated_later : (k before then : K) (date : List ℕ) → Passes tells k before → IsDated tells before date then → IsDated (TellsLater tells) k date then
  dated_later k before then date p d = record { moment = d.moment; told = record { mid = before; others = p; told = d.told }; line = d.line }

  noted_later : (then after : K) (method target : List ℕ) (r : Reply) → IsNoted tells then method target r after → IsNoted (TellsLater tells) then method target r after
  noted_later then after method target r n = record { exchange = n.exchange; is = n.is; told = record { mid = then; others = passes_none tells then; told = n.told } }

-- What is answered now is answered behind what belongs to others.
module _ {H K : Type 0} (site : Site) (among : H → Method → List ℕ → RequestOutcome → H → Type 0) (tells : K → Said → K → Type 0) (apart : H → H → Type 0) (same : (h : H) → apart h h)
    (later : (mid now new : H) (method : Method) (file : List ℕ) (o : RequestOutcome) → apart mid now → among now method file o new → among mid method file o new) where
  route_later : (route : Option (List ℕ)) (h : RequestHead) (o : RequestOutcome) (mid now new : H) → apart mid now → ComesTo site among route now h o new → (to : H)
      × ComesTo site among route mid h o to × apart to new
  route_later None h o mid now new gap comes = (mid, (comes.0, refl), subst (λ (x : H). apart mid x) (sym comes.1) gap)
  route_later (Some file) h o mid now new gap comes = (new, later mid now new (method_of h.method) file o gap comes, same new)

  comes_later : (status : Option StatusCode) (h : RequestHead) (o : RequestOutcome) (mid now new : H) → apart mid now → ComesUnless site among status now h o new
      → (to : H) × ComesUnless site among status mid h o to × apart to new
  comes_later (Some status) h o mid now new gap comes = (mid, (comes.0, refl), subst (λ (x : H). apart mid x) (sym comes.1) gap)
  comes_later None h o mid now new gap comes = route_later (file_of site h) h o mid now new gap comes

  answers_later : (t : Turn) (mid now new : H) (then at after : K) → apart mid now → Passes tells then at → AnswersRequest site among tells now at t new after
      → (to : H) × AnswersRequest site among (TellsLater tells) mid then t to after × apart to new
  answers_later t mid now new then at after gap p a =
      let c = comes_later (head_refusal t.head) t.head a.outcome mid now new gap a.comes in (
        c.0,
        record {
          valid = a.valid;
          within = a.within;
          outcome = a.outcome;
          comes = c.1;
          reply = a.reply;
          then = a.then;
          dated = dated_later tells then at a.then t.date p a.dated;
          noted = noted_later tells a.then after t.head.method t.head.target t.reply a.noted;
        },
        c.2,
      )

  serves_later : (seen : List ℕ) (closes : Bool) (size : ℕ) (text : List ℕ) (mid now new : H) (then at after : K) → apart mid now → Passes tells then at
      → ServesRequest site among tells now at seen closes size text new after
      → (to : H) × ServesRequest site among (TellsLater tells) mid then seen closes size text to after × apart to new
  serves_later seen closes size text mid now new then at after gap p s =
      let a = answers_later s.turn mid now new then at after gap p s.answers in
      (a.0, record { turn = s.turn; begins = s.begins; fits = s.fits; some = s.some; answers = a.1; written = s.written; goes_on = s.goes_on }, a.2)

  bad_later : (text : List ℕ) (then at after : K) → Passes tells then at → SendsBad site among tells at text after → SendsBad site among (TellsLater tells) then text after
  bad_later text then at after p b =
      record {
        reply = b.reply;
        date = b.date;
        bad = b.bad;
        then = b.then;
        dated = dated_later tells then at b.then b.date p b.dated;
        noted = noted_later tells b.then after [] [] b.reply b.noted;
        written = b.written;
      }

-- How far a connection is behind a step.
module _ {H K : Type 0} (site : Site) (among : H → Method → List ℕ → RequestOutcome → H → Type 0) (tells : K → Said → K → Type 0) (start : H) (first : K) (came : List ℕ) where
  so_stays : (text seen left t : List ℕ) (size : ℕ) (mid to : H) (then after : K) → IsOpenSo site among tells start first came text seen mid then
      → ServesRequest site among tells mid then seen false size t to after → left ≡ drop size seen
      → IsOpenSo site among tells start first came (text ++ t) left to after
  so_stays text seen left t size mid to then after so s is = record {
    turns = so.turns ++ s.turn ∷ [];
    stay = stay_more so.turns s.turn so.stay s.goes_on;
    answers = answers_more site among tells start first so.turns mid then s.turn to after so.answers s.answers;
    read =
        so.read ∙ ap (λ l. heads_of so.turns ++ l) (s.begins.reads.1 ∙ ap (λ l. print_request s.turn.head ++ l) (sym is))
        ∙ sym (append_assoc (heads_of so.turns) (print_request s.turn.head) left) ∙ ap (λ l. l ++ left) (sym (heads_more so.turns s.turn));
    written = ap (λ l. l ++ t) so.written ∙ ap (λ l. texts_of so.turns ++ l) s.written ∙ sym (texts_more so.turns s.turn);
  }

  so_closes : (text seen t : List ℕ) (size : ℕ) (mid to : H) (then after : K) → IsOpenSo site among tells start first came text seen mid then
      → ServesRequest site among tells mid then seen true size t to after
      → (n : ℕ) × Responses site among tells start first came (text ++ t) n to after
  so_closes text seen t size mid to then after so s = (
    length (so.turns ++ s.turn ∷ []),
    inr (inl (record {
      turns = so.turns;
      last = s.turn;
      rest = drop size seen;
      stay = so.stay;
      closes = s.goes_on;
      answers = answers_more site among tells start first so.turns mid then s.turn to after so.answers s.answers;
      requests =
          so.read ∙ ap (λ l. heads_of so.turns ++ l) s.begins.reads.1 ∙ sym (append_assoc (heads_of so.turns) (print_request s.turn.head) (drop size seen))
          ∙ ap (λ l. l ++ drop size seen) (sym (heads_more so.turns s.turn));
      written = ap (λ l. l ++ t) so.written ∙ ap (λ l. texts_of so.turns ++ l) s.written ∙ sym (texts_more so.turns s.turn);
      count = refl;
    })),
  )

  so_refused : (text seen t : List ℕ) (eof : Bool) (mid : H) (then after : K) → IsOpenSo site among tells start first came text seen mid then → ¬ (seen ≡ [])
      → StaysHeadless head_limit fields_limit seen eof → SendsBad site among tells then t after
      → (n : ℕ) × Responses site among tells start first came (text ++ t) n mid after
  so_refused text seen t eof mid then after so some never bad = (
    length so.turns + 1,
    inr (inr (record {
      turns = so.turns;
      then = then;
      rest = seen;
      bad = t;
      stay = so.stay;
      answers = so.answers;
      sends = bad;
      more = some;
      headless = subst (λ (l : List ℕ). IsHeadlessWithin head_limit fields_limit l) (append-nil seen) (never [] (λ w. refl));
      requests = so.read;
      written = ap (λ l. l ++ t) so.written;
      count = refl;
    })),
  )

  so_done : (text seen : List ℕ) (mid : H) (then : K) → IsOpenSo site among tells start first came text seen mid then → seen ≡ [] → (n : ℕ)
      × Responses site among tells start first came text n mid then
  so_done text seen mid then so none = (
    length so.turns,
    inl (record {
      turns = so.turns;
      stay = so.stay;
      answers = so.answers;
      requests = so.read ∙ ap (λ l. heads_of so.turns ++ l) none ∙ append-nil (heads_of so.turns);
      written = so.written;
      count = refl;
    }),
  )

-- A connection stands so.
module _ {H K T : Type 0} (site : Site) (among : H → Method → List ℕ → RequestOutcome → H → Type 0) (rests : H → T → RequestOutcome → H → Type 0)
    (tells : K → Said → K → Type 0) (apart : H → H → Type 0) (start : H) (first : K) where
  abbrev StandsHere : List ℕ → List ℕ → HttpConn T → H → K → Type 0
  StandsHere came went c now at = ConnStands site among rests tells apart start first came went c now at

  abbrev HandOver : List ℕ → List ℕ → Option (UnderWay T) → List ℕ → H → H → Type 0
  HandOver came went hand seen mid now = IsInHand site among rests tells apart start first came went hand seen mid now

  abbrev So : List ℕ → Bool → List ℕ → List ℕ → H → K → Type 0
  So came over text left mid then = IsSo site among (TellsLater tells) start first came over text left mid then

  so_as : (came : List ℕ) (a b : Bool) (text more left rest : List ℕ) (mid : H) (then : K) → a ≡ b → text ≡ more → left ≡ rest → So came a text left mid then → So came b more rest mid then
  so_as came a b text more left rest mid then over says reads so =
      subst (λ (x : Bool). So came x more rest mid then) over (subst (λ (l : List ℕ). So came a l rest mid then) says (subst (λ (l : List ℕ). So came a text l mid then) reads so))

  -- others had their turns
  hand_later : (came went : List ℕ) (hand : Option (UnderWay T)) (seen : List ℕ) (mid now new : H) → ((from : H) → apart from now → apart from new)
      → ((k : T) (o : RequestOutcome) (z : H) → rests new k o z → rests now k o z) → HandOver came went hand seen mid now → HandOver came went hand seen mid new
  hand_later came went None seen mid now new gap rest h = gap mid h
  hand_later came went (Some u) seen mid now new gap rest h =
      record {
        head = h.head;
        asked = h.asked;
        begins = h.begins;
        fits = h.fits;
        asks = record { file = h.asks.file; allowed = h.asks.allowed; named = h.asks.named; goes = λ o z r. h.asks.goes o z (rest u.task o z r) };
      }

  pub stands_later : (came went : List ℕ) (c : HttpConn T) (now new : H) (at after : K) → ((from : H) → apart from now → apart from new)
      → ((k : T) (o : RequestOutcome) (z : H) → rests new k o z → rests now k o z)
      → ((from : K) → Passes tells from at → Passes tells from after) → StandsHere came went c now at → StandsHere came went c new after
  stands_later came went c now new at after gap rest pass s =
      record { mid = s.mid; then = s.then; so = s.so; hand = hand_later came went c.hand (unread c.read_buffer) s.mid now new gap rest s.hand; passed = pass s.then s.passed }

  hand_as : (came went more text : List ℕ) (old new : HttpConn T) (mid now to : H) → to ≡ now → new.read_buffer ≡ old.read_buffer → new.hand ≡ old.hand
      → HandOver came went old.hand (unread old.read_buffer) mid now → HandOver more text new.hand (unread new.read_buffer) mid to
  hand_as came went more text old new mid now to still read_buffer hand h =
      subst (λ (x : H). HandOver more text new.hand (unread new.read_buffer) mid x) (sym still) (subst (λ (x : Option (UnderWay T)). HandOver more text x (unread new.read_buffer) mid now) (sym hand)
      (subst (λ (x : List ℕ). HandOver more text old.hand x mid now) (ap unread (sym read_buffer)) (moved old.hand h))) where
        moved : (x : Option (UnderWay T)) → HandOver came went x (unread old.read_buffer) mid now → HandOver more text x (unread old.read_buffer) mid now
        moved None h = h
        moved (Some u) h = h

  -- a part of a response is written
  pub stands_wrote : (came went : List ℕ) (old new : HttpConn T) (now to : H) (at : K) (n : ℕ) → to ≡ now → pending new ≡ drop n (pending old)
      → new.read_buffer ≡ old.read_buffer → new.over ≡ old.over → new.hand ≡ old.hand → StandsHere came went old now at → StandsHere came (went ++ take n (pending old)) new to at
  stands_wrote came went old new now to at n still left read_buffer over hand s = record {
    mid = s.mid;
    then = s.then;
    so = so_as came old.over new.over (went ++ pending old) ((went ++ take n (pending old)) ++ pending new) (unread old.read_buffer) (unread new.read_buffer) s.mid s.then (sym over)
        (ap (λ l. went ++ l) (sym (take-append-drop n (pending old)) ∙ ap (λ l. take n (pending old) ++ l) (sym left))
        ∙ sym (append_assoc went (take n (pending old)) (pending new))) (ap unread (sym read_buffer)) s.so;
    hand = hand_as came went came (went ++ take n (pending old)) old new s.mid now to still read_buffer hand s.hand;
    passed = s.passed;
  }

  open_more : (came bytes text left : List ℕ) (mid : H) (then : K) → IsOpenSo site among (TellsLater tells) start first came text left mid then
      → IsOpenSo site among (TellsLater tells) start first (came ++ bytes) text (left ++ bytes) mid then
  open_more came bytes text left mid then so = record {
    turns = so.turns;
    stay = so.stay;
    answers = so.answers;
    read = ap (λ l. l ++ bytes) so.read ∙ append_assoc (heads_of so.turns) left bytes;
    written = so.written;
  }

  -- the connection is open
  is_open : (came went : List ℕ) (c : HttpConn T) (now : H) (at : K) → c.over ≡ false → (s : StandsHere came went c now at)
      → IsOpenSo site among (TellsLater tells) start first came (went ++ pending c) (unread c.read_buffer) s.mid s.then
  is_open came went c now at over s = so_as came c.over false (went ++ pending c) (went ++ pending c) (unread c.read_buffer) (unread c.read_buffer) s.mid s.then over refl refl s.so

  -- bytes came in
  pub stands_read : (came went bytes : List ℕ) (old new : HttpConn T) (now : H) (at : K) → unread new.read_buffer ≡ unread old.read_buffer ++ bytes → pending new ≡ pending old
      → new.over ≡ old.over → old.over ≡ false → new.hand ≡ old.hand → old.hand ≡ None → StandsHere came went old now at → StandsHere (came ++ bytes) went new now at
  stands_read came went bytes old new now at added still over was hand none s = record {
    mid = s.mid;
    then = s.then;
    so =
        so_as (came ++ bytes) false new.over (went ++ pending old) (went ++ pending new) (unread old.read_buffer ++ bytes) (unread new.read_buffer) s.mid s.then
        (sym (over ∙ was)) (ap (λ l. went ++ l) (sym still)) (sym added) (open_more came bytes (went ++ pending old) (unread old.read_buffer) s.mid s.then (is_open came went old now at was s));
    hand =
        subst (λ (x : Option (UnderWay T)). HandOver (came ++ bytes) went x (unread new.read_buffer) s.mid now) (sym (hand ∙ none))
        (subst (λ (x : Option (UnderWay T)). HandOver came went x (unread old.read_buffer) s.mid now) none s.hand);
    passed = s.passed;
  }

  -- bytes came in, and there was no room for them
  pub cut_read : (came went bytes : List ℕ) (old : HttpConn T) (now : H) (at : K) → old.over ≡ false → StandsHere came went old now at
      → StandsCut site among rests tells apart start first (came ++ bytes) went
  cut_read came went bytes old now at was s = record {
    over = false;
    rest = pending old;
    left = unread old.read_buffer ++ bytes;
    mid = s.mid;
    then = s.then;
    so = open_more came bytes (went ++ pending old) (unread old.read_buffer) s.mid s.then (is_open came went old now at was s);
  }

  -- nothing more is done
  pub stands_cut : (came went : List ℕ) (c : HttpConn T) (now : H) (at : K) → StandsHere came went c now at → StandsCut site among rests tells apart start first came went
  stands_cut came went c now at s = record { over = c.over; rest = pending c; left = unread c.read_buffer; mid = s.mid; then = s.then; so = s.so }

  module _ (same : (h : H) → apart h h) (later : (mid now new : H) (method : Method) (file : List ℕ) (o : RequestOutcome) → apart mid now → among now method file o new → among mid method file o new)
      (came went : List ℕ) (old new : HttpConn T) (now to : H) (at after : K) (none : pending old ≡ []) (was : old.over ≡ false) (s : StandsHere came went old now at) where
    here : IsOpenSo site among (TellsLater tells) start first came went (unread old.read_buffer) s.mid s.then
    here =
        so_as came false false (went ++ pending old) went (unread old.read_buffer) (unread old.read_buffer) s.mid s.then refl (ap (λ l. went ++ l) none ∙ append-nil went) refl (is_open came went old now at was s)

    -- it stands behind a step
    behind : (over : Bool) (left : List ℕ) (mid : H) (then : K) → new.over ≡ over → unread new.read_buffer ≡ left → new.hand ≡ None
        → So came over (went ++ pending new) left mid then → apart mid to → Passes tells then after → StandsHere came went new to after
    behind over left mid then ends reads idle so gap pass = record {
      mid = mid;
      then = then;
      so = so_as came over new.over (went ++ pending new) (went ++ pending new) left (unread new.read_buffer) mid then (sym ends) refl (sym reads) so;
      hand = subst (λ (x : Option (UnderWay T)). HandOver came went x (unread new.read_buffer) mid to) (sym idle) gap;
      passed = pass;
    }

    -- the step was made from this state of the handler on: it is apart from that of the last answer
    module _ (from : H) (gap : apart s.mid from) (idle : new.hand ≡ None) where
      stands_step : (st : ServeStep) → DoesStep site among tells from at (unread old.read_buffer) old.eof st (pending new) to after → StepFollows st old new → StandsHere came went new to after
      stands_step (step.Stays size) did f =
          let l = serves_later site among tells apart same later (unread old.read_buffer) false size (pending new) s.mid from to s.then at after gap s.passed did in
          behind false (drop size (unread old.read_buffer)) l.0 after f.over f.still idle (so_stays site among (TellsLater tells) start first came went (unread old.read_buffer) (drop size (unread old.read_buffer))
          (pending new) size s.mid l.0 s.then after here l.1 refl) l.2 (passes_none tells after)
      stands_step (step.Closes size) did f =
          let l = serves_later site among tells apart same later (unread old.read_buffer) true size (pending new) s.mid from to s.then at after gap s.passed did in
          behind true (drop size (unread old.read_buffer)) l.0 after f.over f.still idle
          (so_closes site among (TellsLater tells) start first came went (unread old.read_buffer) (pending new) size s.mid l.0 s.then after here l.1) l.2 (passes_none tells after)
      stands_step step.Refused did f =
          behind true (unread old.read_buffer) s.mid after f.over f.still idle
          (so_refused site among (TellsLater tells) start first came went (unread old.read_buffer) (pending new) old.eof s.mid s.then after here did.0 did.1
          (bad_later site among tells apart same later (pending new) s.then at after s.passed did.3)) (subst (λ (x : H). apart s.mid x) (sym did.2) gap) (passes_none tells after)
      stands_step step.More did f =
          behind false (unread old.read_buffer) s.mid s.then f.over f.still idle
          (so_as came false false went (went ++ pending new) (unread old.read_buffer) (unread old.read_buffer) s.mid s.then refl (sym (append-nil went) ∙ ap (λ l. went ++ l) (sym did.2.none)) refl here)
          (subst (λ (x : H). apart s.mid x) (sym did.2.same) gap) (subst (λ (x : K). Passes tells s.then x) (sym did.2.still) s.passed)
      stands_step step.Done did f =
          behind true (unread old.read_buffer) s.mid s.then f.over f.still idle
          (so_as came true true went (went ++ pending new) (unread old.read_buffer) (unread old.read_buffer) s.mid s.then refl (sym (append-nil went) ∙ ap (λ l. went ++ l) (sym did.2.none)) refl
          (so_done site among (TellsLater tells) start first came went (unread old.read_buffer) s.mid s.then here did.1))
          (subst (λ (x : H). apart s.mid x) (sym did.2.same) gap) (subst (λ (x : K). Passes tells s.then x) (sym did.2.still) s.passed)

    -- a request is under way
    stands_works : (u : UnderWay T) → IsUnderWay site among rests (unread old.read_buffer) u s.mid to → after ≡ at → pending new ≡ []
        → unread new.read_buffer ≡ unread old.read_buffer → new.over ≡ false → new.hand ≡ Some u → StandsHere came went new to after
    stands_works u way still nothing reads going hand = record {
      mid = s.mid;
      then = s.then;
      so =
          so_as came false new.over went (went ++ pending new) (unread old.read_buffer) (unread new.read_buffer) s.mid s.then (sym going)
          (sym (append-nil went) ∙ ap (λ l. went ++ l) (sym nothing)) (sym reads) here;
      hand = subst (λ (x : Option (UnderWay T)). HandOver came went x (unread new.read_buffer) s.mid to) (sym hand) (subst (λ (x : List ℕ). IsUnderWay site among rests x u s.mid to) (sym reads) way);
      passed = subst (λ (x : K). Passes tells s.then x) (sym still) s.passed;
    }

    under_later : (u : UnderWay T) → apart s.mid now → IsUnderWay site among rests (unread old.read_buffer) u now to → IsUnderWay site among rests (unread old.read_buffer) u s.mid to
    under_later u gap w = record {
      head = w.head;
      asked = w.asked;
      begins = w.begins;
      fits = w.fits;
      asks = record { file = w.asks.file; allowed = w.asks.allowed; named = w.asks.named; goes = λ o z r. later s.mid now z (method_of w.head.method) w.asks.file o gap (w.asks.goes o z r) };
    }

    lands : (hand : Option (UnderWay T)) (x : StepSlice T) → HandOver came went hand (unread old.read_buffer) s.mid now
        → StepsFrom site among rests tells hand now at (unread old.read_buffer) old.eof x (pending new) to after → SliceLands x old new → StandsHere came went new to after
    lands None (slice.Did st) gap did l = stands_step now gap l.1 st did l.0
    lands None (slice.Works u) gap did l = stands_works u (under_later u gap did.0) did.1 did.2 l.0.still l.0.over l.1
    lands (Some v) (slice.Did st) way did l = stands_step s.mid (same s.mid) l.1 st (did s.mid way) l.0
    lands (Some v) (slice.Works u) way did l = (let d = did s.mid way in stands_works u d.0 d.1 d.2 l.0.still l.0.over l.1)

    pub stands_lands : (x : StepSlice T) → StepsFrom site among rests tells old.hand now at (unread old.read_buffer) old.eof x (pending new) to after → SliceLands x old new
        → StandsHere came went new to after
    stands_lands x did l = lands old.hand x s.hand did l

-- A turn that takes nothing in and puts nothing out.
pub quiet : (r w : Option (List ℕ)) (P : List ℕ → List ℕ → Type 0) → P [] [] → (bytes text : List ℕ) × Consumes r r bytes × Appends w w text × P bytes text
quiet r w P own = ([], [], Consumes-nil r, Appends-nil w, own)

-- A turn, by what it did. came and went grow by what it took in and put out.
module _ {H K T : Type 0} (site : Site) (among : H → Method → List ℕ → RequestOutcome → H → Type 0) (rests : H → T → RequestOutcome → H → Type 0)
    (tells : K → Said → K → Type 0) (apart : H → H → Type 0) (same : (h : H) → apart h h)
    (later : (mid now new : H) (method : Method) (file : List ℕ) (o : RequestOutcome) → apart mid now → among now method file o new → among mid method file o new) where
  abbrev TurnGoes : H → K → List ℕ → List ℕ → Result Turned FrontKind → HttpConn T → H → K → Type 0
  TurnGoes start first came went = GoesSo site among rests tells apart start first came went

  abbrev pub Own : H → K → HttpConn T → List ℕ → List ℕ → Result Turned FrontKind → HttpConn T → H → K → Type 0
  Own now at old bytes text r new to after =
      (start : H) (first : K) (came went : List ℕ) → ConnStands site among rests tells apart start first came went old now at → TurnGoes start first (came ++ bytes) (went ++ text) r new to after

  goes_any : (start : H) (first : K) (came went : List ℕ) (r : Result Turned FrontKind) (c : HttpConn T) (now : H) (at : K)
      → ConnStands site among rests tells apart start first came went c now at → TurnGoes start first came went r c now at
  goes_any start first came went (Ok t) c now at s = s
  goes_any start first came went (Err e) c now at s = stands_cut site among rests tells apart start first came went c now at s

  goes_as : (start : H) (first : K) (came more went text : List ℕ) (r : Result Turned FrontKind) (c : HttpConn T) (now : H) (at : K) → came ≡ more → went ≡ text
      → TurnGoes start first came went r c now at → TurnGoes start first more text r c now at
  goes_as start first came more went text r c now at in_as out_as s =
      subst (λ (l : List ℕ). TurnGoes start first l text r c now at) in_as (subst (λ (l : List ℕ). TurnGoes start first came l r c now at) out_as s)

  pub own_over : (r : Result Turned FrontKind) (c : HttpConn T) (now : H) (at : K) → Own now at c [] [] r c now at
  own_over r c now at start first came went s =
      goes_as start first came (came ++ []) went (went ++ []) r c now at (sym (append-nil came)) (sym (append-nil went)) (goes_any start first came went r c now at s)

  pub own_wrote : (r : Result Turned FrontKind) (old new : HttpConn T) (now to : H) (at : K) (n : ℕ) → to ≡ now → pending new ≡ drop n (pending old)
      → new.read_buffer ≡ old.read_buffer → new.over ≡ old.over → new.hand ≡ old.hand → Own now at old [] (take n (pending old)) r new to at
  own_wrote r old new now to at n still left read_buffer over hand start first came went s =
      goes_as start first came (came ++ []) (went ++ take n (pending old)) (went ++ take n (pending old)) r new to at (sym (append-nil came)) refl
      (goes_any start first came (went ++ take n (pending old)) r new to at (stands_wrote site among rests tells apart start first came went old new now to at n still left read_buffer over hand s))

  pub own_read : (r : Result Turned FrontKind) (old new : HttpConn T) (now : H) (at : K) (bytes : List ℕ) → OnOk r (unread new.read_buffer ≡ unread old.read_buffer ++ bytes)
      → pending new ≡ pending old → new.over ≡ old.over → old.over ≡ false → new.hand ≡ old.hand → old.hand ≡ None → Own now at old bytes [] r new now at
  own_read (Ok t) old new now at bytes added still over was hand idle start first came went s =
      goes_as start first (came ++ bytes) (came ++ bytes) went (went ++ []) (Ok t) new now at refl (sym (append-nil went))
      (stands_read site among rests tells apart start first came went bytes old new now at added still over was hand idle s)
  own_read (Err e) old new now at bytes added still over was hand idle start first came went s =
      goes_as start first (came ++ bytes) (came ++ bytes) went (went ++ []) (Err e) new now at refl (sym (append-nil went))
      (cut_read site among rests tells apart start first came went bytes old now at was s)

  pub own_step : (r : Result Turned FrontKind) (old new : HttpConn T) (now to : H) (at after : K) → pending old ≡ [] → old.over ≡ false
      → OnOk r ((x : StepSlice T) × StepsFrom site among rests tells old.hand now at (unread old.read_buffer) old.eof x (pending new) to after × SliceLands x old new) → Own now at old [] [] r new to after
  own_step (Ok t) old new now to at after none was did start first came went s =
      goes_as start first came (came ++ []) went (went ++ []) (Ok t) new to after (sym (append-nil came)) (sym (append-nil went))
      (stands_lands site among rests tells apart start first same later came went old new now to at after none was s did.0 did.1 did.2)
  own_step (Err e) old new now to at after none was did start first came went s =
      goes_as start first came (came ++ []) went (went ++ []) (Err e) new to after (sym (append-nil came)) (sym (append-nil went))
      (stands_cut site among rests tells apart start first came went old now at s)
