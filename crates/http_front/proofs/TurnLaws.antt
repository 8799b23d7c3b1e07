-- How a turn fails.
use Rattle.std.proofs.Common.{◌≡◌, ◌≢◌, ◌∙◌, ℕ, ◌+◌, ◌<◌, ◌≤◌, Bool, true, false, List, [], ◌++◌, length, take, Option, Some, None, Result, Ok, Err, refl, sym, ap, subst, inl, inr, arith}
use Rattle.std.proofs.lemmas.List.{length-append, length-take-le}
use Rattle.std.specs.Prelude.{IfErr, IfOk, OnErr, OnOk, ◌⊎◌}
use Rattle.http_message.specs.Clocks.{Said}
use Rattle.http_message.specs.declared.reply.Method.{Method}
use Rattle.http_message.specs.declared.site.Site.{Site}
use Rattle.http_front.specs.Outcomes.{IsLack}
use Rattle.http_front.specs.Serving.{BlamesSink, BlamesSource, IsSinkKind}
use Rattle.http_front.specs.Stepping.{DoesStep, LacksAnswer}
use Rattle.http_front.specs.UnderWays.{LacksSlice, StepsFrom}
use Rattle.http_front.specs.declared.fault.FrontKind.{FrontKind}
use Rattle.http_front.specs.declared.fault.FrontKind.TheVariants as kind
use Rattle.http_front.specs.declared.handler.RequestOutcome.{RequestOutcome}
use Rattle.http_front.specs.declared.http_conn.HttpConn.{HttpConn}
use Rattle.http_front.specs.declared.steps.ServeStep.{ServeStep}
use Rattle.http_front.specs.declared.steps.ServeStep.TheVariants as step
use Rattle.http_front.specs.declared.under_way.StepSlice.{StepSlice}
use Rattle.http_front.specs.declared.under_way.StepSlice.TheVariants as slice
use Rattle.http_front.specs.declared.under_way.UnderWay.{UnderWay}
use Rattle.http_message.specs.ReadBuffers.{unread}
use Rattle.http_front.specs.Talking.{CountsOn, FailsAs, StepFollows, IsNext, SliceLands, WantsSo, pending}
use Rattle.http_front.specs.declared.http_conn.Next.{Next}
use Rattle.http_front.specs.declared.http_conn.Next.TheVariants as next
use Rattle.http_front.specs.Turns.{WantsMore}

-- what is told of source and sink, where neither failed
module _ {A : Type 0} (was is : Bool) (same : is ≡ was) where
  pub sink_read : (r : Result A FrontKind) → r ≢ Err kind.Write → BlamesSink r was is
  sink_read (Ok x) not = same
  sink_read (Err kind.Write) not = absurd (not refl)
  sink_read (Err e) not = same

  pub sink_lack : (r : Result A FrontKind) → IfErr r IsLack → BlamesSink r was is
  sink_lack (Ok x) lack = same
  sink_lack (Err kind.Write) lack = absurd (elim lack [ inl ill ↦ (cc) | inr ill ↦ (cc) ])
  sink_lack (Err e) lack = same

  -- Failures of this kind are not the source's.
  source_by_kind : (P : FrontKind → Type 0) → (P kind.Read → ⊥) → (P kind.TooManyReads → ⊥) → (left : ℕ) (r : Result A FrontKind) → IfErr r P → BlamesSource r was is left
  source_by_kind P read many left (Ok x) kinds = same
  source_by_kind P read many left (Err kind.Read) kinds = absurd (read kinds)
  source_by_kind P read many left (Err kind.TooManyReads) kinds = absurd (many kinds)
  source_by_kind P read many left (Err e) kinds = same

  pub source_lack : (left : ℕ) (r : Result A FrontKind) → IfErr r IsLack → BlamesSource r was is left
  source_lack = source_by_kind IsLack (λ lack. elim lack [ inl ill ↦ (cc) | inr ill ↦ (cc) ]) (λ lack. elim lack [ inl ill ↦ (cc) | inr ill ↦ (cc) ])

  -- of a write
  pub source_wrote : (left : ℕ) (r : Result A FrontKind) → IfErr r IsSinkKind → BlamesSource r was is left
  source_wrote = source_by_kind IsSinkKind (λ kinds. elim kinds [ inl ill ↦ (cc) | inr ill ↦ (cc) ]) (λ kinds. elim kinds [ inl ill ↦ (cc) | inr ill ↦ (cc) ])

-- what a failure leaves
module _ {A E : Type 0} where
  pub on_err : (r : Result A E) (P : Type 0) → P → OnErr r P
  on_err (Ok x) P p = tt
  on_err (Err e) P p = p

  pub on_ok : (r : Result A E) {P : Type 0} → P → OnOk r P
  on_ok (Ok x) p = p
  on_ok (Err e) p = tt

  pub on_err_as : (r : Result A E) (P Q : Type 0) → (P → Q) → OnErr r P → OnErr r Q
  on_err_as (Ok x) P Q into h = tt
  on_err_as (Err e) P Q into h = into h

-- why a slice fails
module _ {H T : Type 0} (site : Site) (lacks : H → Method → List ℕ → FrontKind → H → Type 0) (lacks_rest : H → T → FrontKind → H → Type 0) (old new : H) (seen : List ℕ) (eof : Bool) where
  pub slice_lack : (hand : Option (UnderWay T)) (e : FrontKind) → LacksSlice site lacks lacks_rest hand old seen eof new e → IsLack e
  slice_lack hand kind.NoMemory h = inl refl
  slice_lack hand kind.NamesSpent h = inr refl
  slice_lack None e h = absurd h
  slice_lack (Some u) e h = absurd h

  -- of a request that was in hand
  pub in_hand : {A : Type 0} (hand : Option (UnderWay T)) (u : UnderWay T) (r : Result A FrontKind) → hand ≡ Some u
      → IfErr r (λ e. IsLack e × (e ≡ kind.NamesSpent → lacks_rest old u.task e new)) → IfErr r (LacksSlice site lacks lacks_rest hand old seen eof new)
  in_hand hand u (Ok x) is h = tt
  in_hand hand u (Err e) is h = subst (λ (o : Option (UnderWay T)). LacksSlice site lacks lacks_rest o old seen eof new e) (sym is) (by e h.0 h.1) where
    by : (e : FrontKind) → IsLack e → (e ≡ kind.NamesSpent → lacks_rest old u.task e new) → LacksSlice site lacks lacks_rest (Some u) old seen eof new e
    by kind.NoMemory lack names = tt
    by kind.NamesSpent lack names = names refl
    by e (inl ill) names = absurd (cc)
    by e (inr ill) names = absurd (cc)

  -- a text is made only where an answer is wanted
  module _ {K : Type 0} (among : H → Method → List ℕ → RequestOutcome → H → Type 0) (rests : H → T → RequestOutcome → H → Type 0) (tells : K → Said → K → Type 0)
      (before after : K) (text : List ℕ) (some : ¬ (text ≡ [])) where
    did_wanted : (s : ServeStep) → DoesStep site among tells old before seen eof s text new after → LacksAnswer site lacks old seen eof new kind.NoMemory
    did_wanted (step.Stays size) x = inl (x.turn.head, _, x.begins)
    did_wanted (step.Closes size) x = inl (x.turn.head, _, x.begins)
    did_wanted step.Refused x = inr (x.0, x.1)
    did_wanted step.More x = absurd (some x.2.none)
    did_wanted step.Done x = absurd (some x.2.none)

    pub text_wanted : (hand : Option (UnderWay T)) (x : StepSlice T) → StepsFrom site among rests tells hand old before seen eof x text new after
        → LacksSlice site lacks lacks_rest hand old seen eof new kind.NoMemory
    text_wanted None (slice.Did s) did = did_wanted s did
    text_wanted None (slice.Works u) did = absurd (some did.2)
    text_wanted (Some u) x did = tt

  -- how a slice fails: by itself, or its text has too many bytes
  module _ {K : Type 0} (among : H → Method → List ℕ → RequestOutcome → H → Type 0) (rests : H → T → RequestOutcome → H → Type 0) (tells : K → Said → K → Type 0)
      (before after : K) (text : List ℕ) where
    pub sized_lack : (hand : Option (UnderWay T)) (did : Result (StepSlice T) FrontKind) (e : FrontKind)
        → IfOk did (λ x. StepsFrom site among rests tells hand old before seen eof x text new after) → IfErr did (LacksSlice site lacks lacks_rest hand old seen eof new)
        → (did ≡ Err e) ⊎ ((x : StepSlice T) × (did ≡ Ok x) × (e ≡ kind.NoMemory) × ¬ (text ≡ [])) → LacksSlice site lacks lacks_rest hand old seen eof new e
    sized_lack hand did e well ill (inl is) = subst (λ (r : Result (StepSlice T) FrontKind). IfErr r (LacksSlice site lacks lacks_rest hand old seen eof new)) is ill
    sized_lack hand did e well ill (inr (x, is, memory, some)) =
        let steps = subst (λ (r : Result (StepSlice T) FrontKind). IfOk r (λ y. StepsFrom site among rests tells hand old before seen eof y text new after)) is well in
        subst (LacksSlice site lacks lacks_rest hand old seen eof new) (sym memory) (text_wanted among rests tells before after text some hand x steps)

-- the same, of what was taken in hand and seen
pub lack_as : {H T : Type 0} (site : Site) (lacks : H → Method → List ℕ → FrontKind → H → Type 0) (lacks_rest : H → T → FrontKind → H → Type 0) (old new : H)
    (took hand : Option (UnderWay T)) (low seen : List ℕ) (eof : Bool) (e : FrontKind)
    → took ≡ hand → low ≡ seen → LacksSlice site lacks lacks_rest took old low eof new e → LacksSlice site lacks lacks_rest hand old seen eof new e
lack_as site lacks lacks_rest old new took hand low seen eof e taken same h =
    subst (λ (l : List ℕ). LacksSlice site lacks lacks_rest hand old l eof new e) same (subst (λ o. LacksSlice site lacks lacks_rest o old low eof new e) taken h)

-- What a read gives is something, and no more than fits.
pub read_some : (n : ℕ) (xs : List ℕ) → 0 < n → n ≤ length xs → take n xs ≡ [] → ⊥
read_some n xs some within none =
    let all = length-take-le n xs within in
    let empty = ap (λ (l : List ℕ). length l) none in
    omega (arith, all, empty, some)

pub read_short : (n : ℕ) (xs : List ℕ) → n ≤ length xs → length (take n xs) ≤ length xs
read_short n xs within =
    let all = length-take-le n xs within in
    omega (arith, all, within)

-- the lengths of three parts that are nothing together
pub lengths_of_none : (a b c : List ℕ) → a ++ b ++ c ≡ [] → length a + length b + length c ≡ 0
lengths_of_none a b c none =
    let whole = length-append (a ++ b) c in
    let rest = length-append a b in
    let empty : length (a ++ b ++ c) ≡ 0 = ap (λ (l : List ℕ). length l) none in
    omega (arith, whole, rest, empty)

-- what a turn leaves of what is wanted, and of the count
module _ {A E T : Type 0} (r : Result A E) (c d : HttpConn T) where
  pub wants_kept : (d.needs_input ≡ true → c.needs_input ≡ true) → OnOk r (WantsSo c d)
  wants_kept kept = on_ok r (λ none is. inl (kept is))

  pub count_kept : d.requests ≡ c.requests → OnOk r (CountsOn c d)
  count_kept same = on_ok r (inl same)

-- what a step does
module _ {T : Type 0} (c d : HttpConn T) where
  counts_step : (s : ServeStep) → StepFollows s c d → CountsOn c d
  counts_step step.More f = inl f.counted
  counts_step step.Done f = inl f.counted
  counts_step s f = inr f.counted

  counts_slice : (x : StepSlice T) → SliceLands x c d → CountsOn c d
  counts_slice (slice.Did s) l = counts_step s l.0
  counts_slice (slice.Works u) l = inl l.0.counted

  module _ {H K : Type 0} (site : Site) (among : H → Method → List ℕ → RequestOutcome → H → Type 0) (rests : H → T → RequestOutcome → H → Type 0)
      (tells : K → Said → K → Type 0) (now new : H) (before after : K) (eof : Bool) (text : List ℕ) where
    wants_step : (s : ServeStep) → DoesStep site among tells now before (unread c.read_buffer) eof s text new after → StepFollows s c d → d.needs_input ≡ true → (c.needs_input ≡ true) ⊎ WantsMore (unread d.read_buffer)
    wants_step step.More did f is = inr (subst WantsMore (sym f.still) did.1)
    wants_step s did f is = inl (sym f.needs_input ∙ is)

    wants_slice : (hand : Option (UnderWay T)) (x : StepSlice T) → StepsFrom site among rests tells hand now before (unread c.read_buffer) eof x text new after
        → SliceLands x c d → hand ≡ None → d.needs_input ≡ true → (c.needs_input ≡ true) ⊎ WantsMore (unread d.read_buffer)
    wants_slice None (slice.Did s) did l none is = wants_step s did l.0 is
    wants_slice hand (slice.Works u) did l none is = inl (sym l.0.needs_input ∙ is)
    wants_slice (Some u) (slice.Did s) did l none is = absurd (cc)

    abbrev TurnMade : Type 0
    TurnMade = (x : StepSlice T) × StepsFrom site among rests tells c.hand now before (unread c.read_buffer) eof x text new after × SliceLands x c d

    pub wants_made : {A E : Type 0} (r : Result A E) → OnOk r TurnMade → OnOk r (WantsSo c d)
    wants_made (Ok y) m = λ none is. wants_slice c.hand m.0 m.1 m.2 none is
    wants_made (Err e) m = tt

    pub counts_made : {A E : Type 0} (r : Result A E) → OnOk r TurnMade → OnOk r (CountsOn c d)
    counts_made (Ok y) m = counts_slice m.0 m.2
    counts_made (Err e) m = tt

-- What waits for neither a write nor its end waits for a read or a slice of a step.
pub slice_next : {T : Type 0} (c : HttpConn T) (n : Next) → IsNext c n → ¬ (n ≡ next.Writes) → ¬ (n ≡ next.Over) → (pending c ≡ []) × (c.over ≡ false)
slice_next c next.Writes at writes over = absurd (writes refl)
slice_next c next.Over at writes over = absurd (over refl)
slice_next c n at writes over = (at.0, at.1)

-- A slice fails by a lack.
pub slice_fails : {H T : Type 0} (site : Site) (lacks : H → Method → List ℕ → FrontKind → H → Type 0) (lacks_rest : H → T → FrontKind → H → Type 0) (limit : ℕ) (r q : Option (List ℕ))
    (now new : H) (c : HttpConn T) (n : Next) (e : FrontKind) → ¬ (n ≡ next.Writes) → ¬ (n ≡ next.Over) → ¬ (n ≡ next.Reads)
    → LacksSlice site lacks lacks_rest c.hand now (unread c.read_buffer) c.eof new e → FailsAs site lacks lacks_rest limit r q now new n c e
slice_fails site lacks lacks_rest limit r q now new c next.Writes e writes over reads how = absurd (writes refl)
slice_fails site lacks lacks_rest limit r q now new c next.Over e writes over reads how = absurd (over refl)
slice_fails site lacks lacks_rest limit r q now new c next.Reads e writes over reads how = absurd (reads refl)
slice_fails site lacks lacks_rest limit r q now new c n e writes over reads how = how
