-- What a step of serving comes to, once its text is written.
use Rattle.std.proofs.Common.{◌≡◌, ◌≤◌, ◌<◌, ◌+◌, ◌^◌, ℕ, Bool, true, false, List, [], ◌++◌, Option, Some, None, Result, Ok, Err, length, refl, ap, sym, subst, ◌∙◌, arith, append-nil, length-drop}
use Rattle.std.specs.Prelude.{IfErr, IfOk, OnOk}
use Rattle.std.proofs.Math.Nat.{min-eq_left}
use Rattle.std.proofs.KnownBytes.{Appends-trans}
use Rattle.std.specs.Io.KnownBytes.{Appends, IsAtEnd}
use Rattle.http_message.specs.Clocks.{Said}
use Rattle.http_message.specs.ReadBuffers.{unread}
use Rattle.http_message.specs.declared.reply.Method.{Method}
use Rattle.http_message.specs.declared.site.Site.{Site}
use Rattle.http_front.specs.declared.fault.FrontKind.{FrontKind}
use Rattle.http_front.specs.declared.handler.RequestOutcome.{RequestOutcome}
use Rattle.http_front.specs.declared.http_conn.HttpConn.{HttpConn}
use Rattle.http_front.specs.declared.http_conn.Next.{Next}
use Rattle.http_front.specs.declared.http_conn.Next.TheVariants as next
use Rattle.http_front.specs.declared.steps.ServeStep.{ServeStep}
use Rattle.http_front.specs.declared.steps.ServeStep.TheVariants as step
use Rattle.http_front.specs.declared.under_way.StepSlice.{StepSlice}
use Rattle.http_front.specs.declared.under_way.StepSlice.TheVariants as slice
use Rattle.http_front.specs.declared.under_way.UnderWay.{UnderWay}
use Rattle.http_front.specs.Turns.{IsCut, WantsMore, texts_of}
use Rattle.http_front.specs.Stepping.{DoesStep, LacksAnswer}
use Rattle.http_front.specs.Serving.{ServeGoes, IsSinkKind, ServedSoFar, ServeStanding, Writes}
use Rattle.http_front.specs.Talking.{StepFollows, IsNext, SliceLands, one_more, pending, to_do}
use Rattle.byte_streams.specs.Texts.{AppendsFront}
use Rattle.http_front.specs.UnderWays.{LacksSlice, StepsFrom}
use Rattle.http_front.proofs.TurnLaws.{on_ok}
use Rattle.http_front.proofs.ServingLaws.{cut_by, cut_closes, cut_refused, cut_stays, far_closes, far_done, far_refused, far_stays}

-- a count that is no greatest one
counts : (n k m : ℕ) → n + k < 2 ^ 63 → m ≡ one_more n → m ≡ n + 1
counts n k m few is = is ∙ min-eq_left (omega (arith, few))

module _ {T : Type 0} where
  -- A step leaves less to be done.
  pub step_less : (s : ServeStep) (c d : HttpConn T) → c.over ≡ false → c.needs_input ≡ false → StepFollows s c d
      → (is : (size : ℕ) → s ≡ step.Stays size → (0 < size) × (size ≤ length (unread c.read_buffer))) → to_do d < to_do c
  step_less (step.Stays size) c d going ready f is =
      let some = is size refl in
      let left = ap length f.still ∙ length-drop size (unread c.read_buffer) in
      rw (f.needs_input, f.over, going, ready) (omega (arith, some.0, some.1, left))
  step_less (step.Closes size) c d going ready f is =
      let left = ap length f.still ∙ length-drop size (unread c.read_buffer) in
      rw (f.needs_input, f.over, going, ready) (omega (arith, left))
  step_less step.Refused c d going ready f is = let left = ap length f.still in rw (f.needs_input, f.over, going, ready) (omega (arith, left))
  step_less step.More c d going ready f is = let left = ap length f.still in rw (f.needs_input, f.over, going, ready) (omega (arith, left))
  step_less step.Done c d going ready f is = let left = ap length f.still in rw (f.needs_input, f.over, going, ready) (omega (arith, left))

  -- what comes next where it is not over, wants no bytes, and all is written
  pub next_step : (c : HttpConn T) (n : Next) → (T → ⊥) → pending c ≡ [] → IsNext c n → ¬ (n ≡ next.Over) → ¬ (n ≡ next.Reads) → (c.over ≡ false) × (c.needs_input ≡ false)
  next_step c next.Writes never none is over reads = absurd (is none)
  next_step c next.Over never none is over reads = absurd (over refl)
  next_step c next.Reads never none is over reads = absurd (reads refl)
  next_step c next.Steps never none is over reads = (is.1, is.2)
  next_step c next.Works never none is over reads = absurd (is.2 (nothing c.hand)) where
    nothing : (hand : Option (UnderWay T)) → hand ≡ None
    nothing None = refl
    nothing (Some u) = absurd (never u.task)

module _ {H K T : Type 0} (site : Site) (handles : H → Method → List ℕ → RequestOutcome → H → Type 0) (rests : H → T → RequestOutcome → H → Type 0)
    (tells : K → Said → K → Type 0) (never : T → ⊥) where
  -- a slice is a step, where nothing is ever under way
  pub slice_step : (hand : Option (UnderWay T)) (x : StepSlice T) (c d : HttpConn T) (seen : List ℕ) (eof : Bool) (mid new : H) (then after : K) (text : List ℕ)
      → StepsFrom site handles rests tells hand mid then seen eof x text new after → SliceLands x c d
      → (s : ServeStep) × DoesStep site handles tells mid then seen eof s text new after × StepFollows s c d
  slice_step None (slice.Did s) c d seen eof mid new then after text did lands = (s, did, lands.0)
  slice_step None (slice.Works u) c d seen eof mid new then after text did lands = absurd (never u.task)
  slice_step (Some u) x c d seen eof mid new then after text did lands = absurd (never u.task)

module _ {H T : Type 0} (site : Site) (lacks : H → Method → List ℕ → FrontKind → H → Type 0) (lacks_rest : H → T → FrontKind → H → Type 0) (never : T → ⊥) where
  pub slice_lacks : (hand : Option (UnderWay T)) (old new : H) (seen : List ℕ) (eof : Bool) (e : FrontKind)
      → LacksSlice site lacks lacks_rest hand old seen eof new e → LacksAnswer site lacks old seen eof new e
  slice_lacks None old new seen eof e lack = lack
  slice_lacks (Some u) old new seen eof e lack = absurd (never u.task)

module _ {H K : Type 0} (site : Site) (handles : H → Method → List ℕ → RequestOutcome → H → Type 0) (tells : K → Said → K → Type 0) where
  -- the size of a request that is answered
  pub stays_some : (s : ServeStep) (seen : List ℕ) (eof : Bool) (mid new : H) (then after : K) (text : List ℕ)
      → DoesStep site handles tells mid then seen eof s text new after → (size : ℕ) → s ≡ step.Stays size → (0 < size) × (size ≤ length seen)
  stays_some s seen eof mid new then after text did size is =
      let x = subst (λ (y : ServeStep). DoesStep site handles tells mid then seen eof y text new after) is did in
      (x.some, x.fits)

  module _ {T : Type 0} (c d : HttpConn T) (mid new : H) (then after : K) (text : List ℕ) where
    -- more bytes are wanted
    pub wants_more : (s : ServeStep) → c.needs_input ≡ false → DoesStep site handles tells mid then (unread c.read_buffer) c.eof s text new after → StepFollows s c d
        → d.needs_input ≡ true → (c.eof ≡ false) × WantsMore (unread d.read_buffer)
    wants_more (step.Stays size) ready did f needs_input = absurd (cc)
    wants_more (step.Closes size) ready did f needs_input = absurd (cc)
    wants_more step.Refused ready did f needs_input = absurd (cc)
    wants_more step.More ready did f needs_input = (did.0, subst WantsMore (sym f.still) did.1)
    wants_more step.Done ready did f needs_input = absurd (cc)

    -- no more requests than bytes
    pub step_few : (s : ServeStep) → c.requests + length (unread c.read_buffer) < 2 ^ 63 → DoesStep site handles tells mid then (unread c.read_buffer) c.eof s text new after → StepFollows s c d → d.over ≡ false
        → d.requests + length (unread d.read_buffer) ≤ c.requests + length (unread c.read_buffer)
    step_few (step.Stays size) few did f going =
        omega (arith, ap length f.still ∙ length-drop size (unread c.read_buffer), counts c.requests (length (unread c.read_buffer)) d.requests few f.counted, did.some, did.fits)
    step_few (step.Closes size) few did f going = absurd (cc)
    step_few step.Refused few did f going = absurd (cc)
    step_few step.More few did f going = let left = ap length f.still in let count = f.counted in omega (arith, left, count)
    step_few step.Done few did f going = absurd (cc)

    module _ (old : H) (before : K) (r q w v u : Option (List ℕ)) (so : ServedSoFar site handles tells old before r q w v (unread c.read_buffer) c.requests mid then) (end : c.eof ≡ true → IsAtEnd q) where
      -- nothing is answered
      still_far : (left : List ℕ) (m : ℕ) → new ≡ mid → after ≡ then → text ≡ [] → Appends v u text → left ≡ unread c.read_buffer → m ≡ c.requests
          → ServedSoFar site handles tells old before r q w u left m new after
      still_far left m same clock none wrote still count =
          subst (λ (h : H). ServedSoFar site handles tells old before r q w u left m h after) (sym same)
          (subst (λ (k : K). ServedSoFar site handles tells old before r q w u left m mid k) (sym clock)
          (subst (λ (l : List ℕ). ServedSoFar site handles tells old before r q w u l m mid then) (sym still)
          (subst (λ (n : ℕ). ServedSoFar site handles tells old before r q w u (unread c.read_buffer) n mid then) (sym count)
          (record {
            turns = so.turns;
            stay = so.stay;
            answers = so.answers;
            count = so.count;
            took = so.took;
            wrote = subst (Appends w u) (ap (λ l. texts_of so.turns ++ l) none ∙ append-nil (texts_of so.turns)) (Appends-trans w v u (texts_of so.turns) text so.wrote wrote);
          }))))

      -- all of the text is written
      pub goes_well : (s : ServeStep) → c.requests + length (unread c.read_buffer) < 2 ^ 63
          → DoesStep site handles tells mid then (unread c.read_buffer) c.eof s text new after → StepFollows s c d → Appends v u text
          → ServeStanding site handles tells old before r q w u d.over (unread d.read_buffer) d.requests new after
      goes_well (step.Stays size) few did f wrote =
          rw f.over (far_stays site handles tells old before r q w v u (unread c.read_buffer) (unread d.read_buffer) c.requests d.requests size mid new then after text so did
          wrote f.still (counts c.requests (length (unread c.read_buffer)) d.requests few f.counted))
      goes_well (step.Closes size) few did f wrote =
          rw f.over (far_closes site handles tells old before r q w v u (unread c.read_buffer) c.requests d.requests size mid new then after text so did wrote
          (counts c.requests (length (unread c.read_buffer)) d.requests few f.counted))
      goes_well step.Refused few did f wrote =
          rw f.over (far_refused site handles tells old before r q w v u (unread c.read_buffer) c.eof c.requests d.requests mid new then after text so end did wrote
          (counts c.requests (length (unread c.read_buffer)) d.requests few f.counted))
      goes_well step.More few did f wrote = rw f.over (still_far (unread d.read_buffer) d.requests did.2.same did.2.still did.2.none wrote f.still f.counted)
      goes_well step.Done few did f wrote =
          rw f.over (far_done site handles tells old before r q w u (unread d.read_buffer) d.requests new after
          (still_far (unread d.read_buffer) d.requests did.2.same did.2.still did.2.none wrote f.still f.counted) (f.still ∙ did.1) (end did.0))

      -- a front of it is
      pub goes_cut : (s : ServeStep) → DoesStep site handles tells mid then (unread c.read_buffer) c.eof s text new after → AppendsFront v u text
          → Writes r w u (λ stream text. IsCut site handles tells old before stream text new after)
      goes_cut (step.Stays size) did (k, below, wrote) = cut_stays site handles tells old before r q w v u (unread c.read_buffer) c.requests size k mid new then after text so did below wrote
      goes_cut (step.Closes size) did (k, below, wrote) = cut_closes site handles tells old before r q w v u (unread c.read_buffer) c.requests size k mid new then after text so did below wrote
      goes_cut step.Refused did (k, below, wrote) = cut_refused site handles tells old before r q w v u (unread c.read_buffer) c.eof c.requests k mid new then after text so end did below wrote
      goes_cut step.More did (k, below, wrote) = let none = ap length did.2.none in absurd (omega (arith, below, none))
      goes_cut step.Done did (k, below, wrote) = let none = ap length did.2.none in absurd (omega (arith, below, none))

      -- it is put so; put: the connection once it is
      pub goes_put : {A : Type 0} (lacks : H → Method → List ℕ → FrontKind → H → Type 0) (put : HttpConn T) (s : ServeStep) (result : Result A FrontKind)
          → c.requests + length (unread c.read_buffer) < 2 ^ 63
          → DoesStep site handles tells mid then (unread c.read_buffer) c.eof s text new after → StepFollows s c d → put.over ≡ d.over → put.read_buffer ≡ d.read_buffer → put.requests ≡ d.requests
          → IfOk result (λ x. Appends v u text) → IfErr result (λ e. IsSinkKind e × AppendsFront v u text)
          → ServeGoes site handles tells lacks old before r q w u put.over (unread put.read_buffer) put.requests new after result
      goes_put lacks put s (Ok x) few did f over read_buffer count wrote failed = rw (over, read_buffer, count) (goes_well s few did f wrote)
      goes_put lacks put s (Err e) few did f over read_buffer count wrote failed = cut_by site handles tells lacks old before r q w u new after e failed.0 (goes_cut s did failed.1)

-- the same of a connection once its text is put
module _ {A T : Type 0} (r : Result A FrontKind) (c d put : HttpConn T) (over : put.over ≡ d.over) (needs_input : put.needs_input ≡ d.needs_input) (read_buffer : put.read_buffer ≡ d.read_buffer) (count : put.requests ≡ d.requests) where
  pub less_put : to_do d < to_do c → OnOk r (to_do put < to_do c)
  less_put less = on_ok r (rw (over, needs_input, read_buffer) less)

  pub few_put : (d.over ≡ false → d.requests + length (unread d.read_buffer) ≤ c.requests + length (unread c.read_buffer))
      → OnOk r (put.over ≡ false → put.requests + length (unread put.read_buffer) ≤ c.requests + length (unread c.read_buffer))
  few_put few = on_ok r (λ going. rw (read_buffer, count) (few (sym over ∙ going)))

  pub wants_put : (d.needs_input ≡ true → (c.eof ≡ false) × WantsMore (unread d.read_buffer)) → OnOk r (put.needs_input ≡ true → (c.eof ≡ false) × WantsMore (unread put.read_buffer))
  wants_put more = on_ok r (λ is. rw read_buffer (more (sym needs_input ∙ is)))
