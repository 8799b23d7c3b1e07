-- A request on the host of chains, in slices.
use Rattle.std.proofs.Common.{◌≡◌, ℕ, List, [], ◌∷◌, Option, Some, None, Result, Ok, Err, IfOk, refl, sym, subst}
use Rattle.std.specs.Global.{Vec}
use Rattle.module_code.specs.Program.{Program}
use Rattle.run_model.specs.declared.event.Event.TheVariants as event
use Rattle.run_model.specs.declared.event.Piece.{Piece}
use Rattle.run_model.specs.declared.event.Refusal.{Refusal}
use Rattle.run_model.specs.Worlds.{Done, Opened, Refused}
use Rattle.bucket_kinds.specs.Device.{Device}
use Rattle.filter_chain.specs.declared.host.Host.{Host}
use Rattle.filter_chain.specs.Hosting.{Ghosts, Stored}
use Rattle.filter_chain.specs.HostViews.{HostView, Answers}
use Rattle.filter_chain.specs.Led.{IsAlive, Refines, Transition}
use Rattle.http_message.specs.declared.failure.Failure.{Failure}
use Rattle.http_message.specs.declared.failure.Failure.TheVariants as failure
use Rattle.http_message.specs.declared.reply.Method.{Method}
use Rattle.http_front.specs.Among.{BringsAllIn, CarriesIn, ComesIn, EndsBareIn, EndsCallIn, FinishesIn, HandlesAmong, InitsIn, OpensNext, MakesSlice, OpensIn}
use Rattle.http_front.specs.Among.{OpensUnlessIn, Rests, RestsAmong, RestsBehind, RunsIn, RunsSlice, Slices, Way, Whole, alone, among, brigades_left}
use Rattle.http_front.specs.Nearing.{Nears}
use Rattle.http_front.specs.Outcomes.{IsUnserved}
use Rattle.http_front.specs.RequestEvents as by
use Rattle.http_front.specs.RequestEvents.{IfSucceeded, brigades_for, lack_of, unopened}
use Rattle.http_front.specs.Requests.{ComesOf, RunsCall}
use Rattle.http_front.specs.declared.fault.FrontKind.{FrontKind}
use Rattle.http_front.specs.declared.handler.RequestOutcome.{RequestOutcome}
use Rattle.http_front.specs.declared.handler.Slice.{Slice}
use Rattle.http_front.specs.declared.handler.Slice.TheVariants as slice
use Rattle.http_front.specs.declared.running.CallEnd.{CallEnd}
use Rattle.http_front.specs.declared.running.CallEnd.TheVariants as ended
use Rattle.http_front.specs.declared.task.FileRest.{FileRest}
use Rattle.http_front.specs.declared.task.RequestTask.{RequestTask}
use Rattle.http_front.specs.declared.task.RequestTask.TheVariants as task
use Rattle.filter_chain.proofs.Driving.{HappenedInAny, alive_then, by_event, leads_any, leads_as, leads_ok, leads_on}
use Rattle.http_front.proofs.RequestLaws.{lacked, now_acts}
use Rattle.http_front.proofs.SliceSteps.{runs_now}

module _ (way : Way) (b : ℕ) (c : List Program) (number : ℕ) where
  -- a brigade was brought, and its call is under way
  carries_brought : (pieces : List Piece) (all left : List (List Piece)) (s m : HostView) → all ≡ pieces ∷ left
      → Answers b c number (event.Bring pieces) s Done m → (o : RequestOutcome) (t : HostView)
      → EndsCallIn way b c number left m o t → CarriesIn way b c number ended.Succeeded all s o t
  unfolding by.BringsAll
  carries_brought pieces all left s m is a o t x =
      let acts = now_acts way b c number (event.Bring pieces) Done s m a in
      record {
        how = x.carries.how;
        mid = x.carries.mid;
        brings = subst (λ (bs : List (List Piece)). BringsAllIn way b c number bs s x.carries.how x.carries.mid) (sym is)
            (x.first, x.mid, record { answer = None; mid = m; acts = acts; runs = x.runs }, x.carries.brings);
        finishes = x.carries.finishes;
      }

  -- it was refused
  carries_refused : (pieces : List Piece) (all left : List (List Piece)) (why : Refusal) (s m : HostView) → all ≡ pieces ∷ left → lack_of why ≡ None
      → Answers b c number (event.Bring pieces) s (Refused why) m → (o : RequestOutcome) (t : HostView)
      → FinishesIn way b c number (ended.Failed (failure.Refused why)) m o t → CarriesIn way b c number ended.Succeeded all s o t
  unfolding by.BringsAll
  carries_refused pieces all left why s m is well a o t x =
      let acts = now_acts way b c number (event.Bring pieces) (Refused why) s m a in
      record {
        how = ended.Failed (failure.Refused why);
        mid = m;
        brings = subst (λ (bs : List (List Piece)). BringsAllIn way b c number bs s (ended.Failed (failure.Refused why)) m) (sym is)
            (ended.Failed (failure.Refused why), m, record { answer = Some why; mid = m; acts = acts; runs = (well, refl, refl) }, (refl, refl));
        finishes = x;
      }

  stopped : (how : CallEnd) (s : HostView) (A : Type 0) → ¬ (how ≡ ended.Succeeded) → IfSucceeded how A ((how ≡ how) × (s ≡ s))
  stopped ended.Succeeded s A not = absurd (not refl)
  stopped (ended.Failed why) s A not = (refl, refl)
  stopped (ended.Broke why) s A not = (refl, refl)

  ends_either : (how : CallEnd) (s : HostView) → IfSucceeded how ((how ≡ ended.Succeeded) × (s ≡ s)) ((how ≡ how) × (s ≡ s))
  ends_either ended.Succeeded s = (refl, refl)
  ends_either (ended.Failed why) s = (refl, refl)
  ends_either (ended.Broke why) s = (refl, refl)

  carries_none : (how : CallEnd) (left : List (List Piece)) (s : HostView) → ¬ (how ≡ ended.Succeeded) → (o : RequestOutcome) (t : HostView)
      → FinishesIn way b c number how s o t → CarriesIn way b c number how left s o t
  carries_none how left s not o t x = record { how = how; mid = s; brings = stopped how s (BringsAllIn way b c number left s how s) not; finishes = x }

  carries_last : (how : CallEnd) (s : HostView) (o : RequestOutcome) (t : HostView) → FinishesIn way b c number how s o t → CarriesIn way b c number how [] s o t
  unfolding by.BringsAll
  carries_last how s o t x = record { how = how; mid = s; brings = ends_either how s; finishes = x }

  -- the file was opened
  opens_so : (init : CallEnd) (method : Method) (name : List ℕ) (file : ℕ × ℕ) (left : List (List Piece)) (s m : HostView) → left ≡ brigades_for method file
      → Answers b c number (event.OpenFile name) s (Opened file.0 file.1) m → (o : RequestOutcome) (t : HostView)
      → CarriesIn way b c number init left m o t → OpensIn way b c number init method name s o t
  opens_so init method name file left s m is a o t x =
      let y = subst (λ (bs : List (List Piece)). CarriesIn way b c number init bs m o t) is x in
      let acts = now_acts way b c number (event.OpenFile name) (Opened file.0 file.1) s m a in
      record { answer = Ok file; mid = m; acts = acts; feeds = record { how = y.how; mid = y.mid; brings = y.brings; finishes = y.finishes } }

  -- it was not
  opens_not : (init : CallEnd) (method : Method) (name : List ℕ) (why : Refusal) (status : Option Failure) (s m : HostView) → status ≡ unopened why
      → lack_of why ≡ None → Answers b c number (event.OpenFile name) s (Refused why) m → (o : RequestOutcome) (t : HostView)
      → EndsBareIn way b c number status m o t → OpensIn way b c number init method name s o t
  opens_not init method name why status s m is well a o t x =
      let acts = now_acts way b c number (event.OpenFile name) (Refused why) s m a in
      record { answer = Err why; mid = m; acts = acts; feeds = (well, subst (λ (f : Option Failure). EndsBareIn way b c number f m o t) is x) }

  -- `init` is under way
  inits_on : (method : Method) (name : List ℕ) (k : RequestTask) (s m : HostView) → OpensNext method name k → RunsSlice way b c number None s m
      → (o : RequestOutcome) (t : HostView) → Rests way b c number k m o t → InitsIn way b c number method name s o t
  inits_on method name (task.Opens asked copy) s m is more o t x =
      let z = subst (λ (a : Method). InitsIn way b c number a copy.items m o t) is.0 x in
      let y = subst (λ (n : List ℕ). InitsIn way b c number method n m o t) is.1 z in
      record { init = y.init; mid = y.mid; runs = more y.init y.mid y.runs; opens = y.opens }
  inits_on method name (task.Brings rest) s m is more o t x = absurd is

  -- a call is under way
  rests_on : (k : RequestTask) (s m : HostView) → RunsSlice way b c number None s m → (o : RequestOutcome) (t : HostView)
      → Rests way b c number k m o t → Rests way b c number k s o t
  rests_on (task.Opens method name) s m more o t x = record { init = x.init; mid = x.mid; runs = more x.init x.mid x.runs; opens = x.opens }
  rests_on (task.Brings rest) s m more o t x = record { first = x.first; mid = x.mid; runs = more x.first x.mid x.runs; carries = x.carries }

  -- a call ended, and what was to follow it was done
  rests_then : (k : RequestTask) (how : CallEnd) (s m : HostView) → RunsIn way b c number s how m → (o : RequestOutcome) (t : HostView)
      → RestsBehind way b c number k how m o t → Rests way b c number k s o t
  rests_then (task.Opens method name) how s m d o t x = record { init = how; mid = m; runs = d; opens = x }
  rests_then (task.Brings left) how s m d o t x = record { first = how; mid = m; runs = d; carries = x }

module _ {F R : Type 0} {g : Ghosts R Stored} (device : F → Device) (number : ℕ) where
  -- a slice that follows a deed
  slices_then : (r : Result (Slice RequestTask) FrontKind) (old mid new : Host F R g) (first : Way → Transition) (part all : Whole)
      → ((way : Way) (b : ℕ) (c : List Program) (s m : HostView) → first way b c s m → (o : RequestOutcome) (t : HostView) → part way b c m o t → all way b c s o t)
      → ((way : Way) → Refines device old mid (first way)) → MakesSlice device number part mid r new → MakesSlice device number all old r new
  slices_then r old mid new first part all gives h k way =
      leads_ok device r old mid new (first way) (λ x b c s t. Slices way b c number (part way b c) s x t) (λ x b c s t. Slices way b c number (all way b c) s x t)
      (λ x b c s m t d y. on x b c s m t d y) (h way) (k way) where
        on : (x : Slice RequestTask) (b : ℕ) (c : List Program) (s m t : HostView) → first way b c s m
            → Slices way b c number (part way b c) m x t → Slices way b c number (all way b c) s x t
        on (slice.Done o) b c s m t d y = gives way b c s m d o t y
        on (slice.Works k) b c s m t d y = λ o z rest. gives way b c s m d o z (y o z rest)

  -- nothing went before
  slices_as : (r : Result (Slice RequestTask) FrontKind) (old new : Host F R g) (part all : Whole)
      → ((way : Way) (b : ℕ) (c : List Program) (s : HostView) (o : RequestOutcome) (t : HostView) → part way b c s o t → all way b c s o t)
      → MakesSlice device number part old r new → MakesSlice device number all old r new
  slices_as r old new part all gives h way =
      leads_as device old new (λ b c s t. IfOk r (λ x. Slices way b c number (part way b c) s x t)) (λ b c s t. IfOk r (λ x. Slices way b c number (all way b c) s x t))
      (λ b c s t y. on r b c s t y) (h way) where
        on : (r : Result (Slice RequestTask) FrontKind) (b : ℕ) (c : List Program) (s t : HostView)
            → IfOk r (λ x. Slices way b c number (part way b c) s x t) → IfOk r (λ x. Slices way b c number (all way b c) s x t)
        on (Ok (slice.Done o)) b c s t y = gives way b c s o t y
        on (Ok (slice.Works k)) b c s t y = λ o z rest. gives way b c s o z (y o z rest)
        on (Err e) b c s t y = tt

  -- a host that is alive is so after a slice
  pub alive_after : (old new : Host F R g) (all : Whole) (r : Result (Slice RequestTask) FrontKind) → IsAlive device old → MakesSlice device number all old r new → IsAlive device new
  alive_after old new all r alive h = alive_then device old new (λ b c s t. IfOk r (λ x. Slices among b c number (all among b c) s x t)) alive (h among)

  -- and after a slice of a call
  pub alive_stepped : (old new : Host F R g) (how : Option CallEnd) → IsAlive device old
      → ((way : Way) → Refines device old new (λ b c s t. RunsSlice way b c number how s t)) → IsAlive device new
  alive_stepped old new how alive h = alive_then device old new (λ b c s t. RunsSlice among b c number how s t) alive (h among)

  -- what lacked in a part lacked in the whole
  pub part_lacked : (old new : Host F R g) (all part : Whole) (x r : Result (Slice RequestTask) FrontKind) (e : FrontKind) → r ≡ Err e
      → MakesSlice device number part old x new → MakesSlice device number all old r new
  part_lacked old new all part x r e is h = lacked device number old new all (λ b c s t. IfOk x (λ y. Slices among b c number (part among b c) s y t)) r e is (h among)

  -- the same slice
  pub slice_is : (old new : Host F R g) (all : Whole) (x y : Slice RequestTask) → x ≡ y → MakesSlice device number all old (Ok x) new
      → MakesSlice device number all old (Ok y) new
  slice_is old new all x y is = subst (λ (z : Slice RequestTask). MakesSlice device number all old (Ok z) new) is

  module _ (old new : Host F R g) (r : Result (Slice RequestTask) FrontKind) (how : CallEnd) where
    pub carried_stopped : (left : List (List Piece)) → ¬ (how ≡ ended.Succeeded) → MakesSlice device number (λ way b c. FinishesIn way b c number how) old r new
        → MakesSlice device number (λ way b c. CarriesIn way b c number how left) old r new
    carried_stopped left not =
        slices_as r old new (λ way b c. FinishesIn way b c number how) (λ way b c. CarriesIn way b c number how left) (λ way b c s o t x. carries_none way b c number how left s not o t x)

    pub carried_last : (rest : Option FileRest) → rest ≡ None → MakesSlice device number (λ way b c. FinishesIn way b c number how) old r new
        → MakesSlice device number (λ way b c. CarriesIn way b c number how (brigades_left rest)) old r new
    carried_last rest none h =
        subst (λ (f : Option FileRest). MakesSlice device number (λ way b c. CarriesIn way b c number how (brigades_left f)) old r new) (sym none)
        (slices_as r old new (λ way b c. FinishesIn way b c number how) (λ way b c. CarriesIn way b c number how []) (λ way b c s o t x. carries_last way b c number how s o t x) h)

    pub carried_on : (rest : Option FileRest) (more : FileRest) → how ≡ ended.Succeeded → rest ≡ Some more
        → MakesSlice device number (λ way b c. CarriesIn way b c number ended.Succeeded (brigades_left (Some more))) old r new
        → MakesSlice device number (λ way b c. CarriesIn way b c number how (brigades_left rest)) old r new
    carried_on rest more well is h =
        subst (λ (e : CallEnd). MakesSlice device number (λ way b c. CarriesIn way b c number e (brigades_left rest)) old r new) (sym well)
        (subst (λ (f : Option FileRest). MakesSlice device number (λ way b c. CarriesIn way b c number ended.Succeeded (brigades_left f)) old r new) (sym is) h)

    module _ (method : Method) (name : List ℕ) where
      -- `init` did not break the connection
      pub opened_unless : ((why : Failure) → ¬ (how ≡ ended.Broke why)) → MakesSlice device number (λ way b c. OpensIn way b c number how method name) old r new
          → MakesSlice device number (λ way b c. OpensUnlessIn way b c number how method name) old r new
      opened_unless = by how where
        by : (is : CallEnd) → ((why : Failure) → ¬ (is ≡ ended.Broke why)) → MakesSlice device number (λ way b c. OpensIn way b c number is method name) old r new
            → MakesSlice device number (λ way b c. OpensUnlessIn way b c number is method name) old r new
        by ended.Succeeded not h = h
        by (ended.Failed why) not h = h
        by (ended.Broke why) not h = absurd (not why refl)

    pub ended_as : (k j : RequestTask) → k ≡ j → MakesSlice device number (λ way b c. RestsBehind way b c number j how) old r new
        → MakesSlice device number (λ way b c. RestsBehind way b c number k how) old r new
    ended_as k j is = subst (λ (i : RequestTask). MakesSlice device number (λ way b c. RestsBehind way b c number i how) old r new) (sym is)

    pub ended_opens : (k : RequestTask) (method : Method) (name : Vec ℕ) (text : List ℕ) → k ≡ task.Opens method name → text ≡ name.items
        → MakesSlice device number (λ way b c. OpensUnlessIn way b c number how method text) old r new
        → MakesSlice device number (λ way b c. RestsBehind way b c number k how) old r new
    ended_opens k method name text is same h =
        ended_as k (task.Opens method name) is (subst (λ (n : List ℕ). MakesSlice device number (λ way b c. OpensUnlessIn way b c number how method n) old r new) same h)

  module _ (old mid : Host F R g) where
    pub brought : (pieces : List Piece) (all : List (List Piece)) (left : Option FileRest) → all ≡ pieces ∷ brigades_left left
        → HappenedInAny device old mid number (event.Bring pieces) Done
        → MakesSlice device number (λ way b c. CarriesIn way b c number ended.Succeeded all) old (Ok (slice.Works (task.Brings left))) mid
    brought pieces all left is h way =
        leads_as device old mid (λ b c s t. Answers b c number (event.Bring pieces) s Done t)
        (λ b c s t. Slices way b c number (CarriesIn way b c number ended.Succeeded all) s (slice.Works (task.Brings left)) t)
        (λ b c s t a. λ o z x. carries_brought way b c number pieces all (brigades_left left) s t is a o z x) (by_event device old mid number (event.Bring pieces) Done h)

    module _ (new : Host F R g) (r : Result (Slice RequestTask) FrontKind) where
      pub not_brought : (pieces : List Piece) (all left : List (List Piece)) (why : Refusal) → all ≡ pieces ∷ left → lack_of why ≡ None
          → HappenedInAny device old mid number (event.Bring pieces) (Refused why)
          → MakesSlice device number (λ way b c. FinishesIn way b c number (ended.Failed (failure.Refused why))) mid r new
          → MakesSlice device number (λ way b c. CarriesIn way b c number ended.Succeeded all) old r new
      not_brought pieces all left why is well h =
          slices_then r old mid new (λ way b c s t. Answers b c number (event.Bring pieces) s (Refused why) t)
          (λ way b c. FinishesIn way b c number (ended.Failed (failure.Refused why))) (λ way b c. CarriesIn way b c number ended.Succeeded all)
          (λ way b c s m a o t x. carries_refused way b c number pieces all left why s m is well a o t x) (λ way. by_event device old mid number (event.Bring pieces) (Refused why) h)

      pub opened_so : (init : CallEnd) (method : Method) (name : List ℕ) (file : ℕ × ℕ) (left : Option FileRest) → brigades_left left ≡ brigades_for method file
          → HappenedInAny device old mid number (event.OpenFile name) (Opened file.0 file.1)
          → MakesSlice device number (λ way b c. CarriesIn way b c number init (brigades_left left)) mid r new
          → MakesSlice device number (λ way b c. OpensIn way b c number init method name) old r new
      opened_so init method name file left is h =
          slices_then r old mid new (λ way b c s t. Answers b c number (event.OpenFile name) s (Opened file.0 file.1) t)
          (λ way b c. CarriesIn way b c number init (brigades_left left)) (λ way b c. OpensIn way b c number init method name)
          (λ way b c s m a o t x. opens_so way b c number init method name file (brigades_left left) s m is a o t x)
          (λ way. by_event device old mid number (event.OpenFile name) (Opened file.0 file.1) h)

      pub not_opened : (init : CallEnd) (method : Method) (name : List ℕ) (why : Refusal) (status : Option Failure) → status ≡ unopened why → lack_of why ≡ None
          → HappenedInAny device old mid number (event.OpenFile name) (Refused why)
          → MakesSlice device number (λ way b c. EndsBareIn way b c number status) mid r new
          → MakesSlice device number (λ way b c. OpensIn way b c number init method name) old r new
      not_opened init method name why status is well h =
          slices_then r old mid new (λ way b c s t. Answers b c number (event.OpenFile name) s (Refused why) t)
          (λ way b c. EndsBareIn way b c number status) (λ way b c. OpensIn way b c number init method name)
          (λ way b c s m a o t x. opens_not way b c number init method name why status s m is well a o t x) (λ way. by_event device old mid number (event.OpenFile name) (Refused why) h)

      pub inited : (init : CallEnd) (method : Method) (name : List ℕ) → ((way : Way) → Refines device old mid (λ b c s t. RunsSlice way b c number (Some init) s t))
          → MakesSlice device number (λ way b c. OpensUnlessIn way b c number init method name) mid r new
          → MakesSlice device number (λ way b c. InitsIn way b c number method name) old r new
      inited init method name =
          slices_then r old mid new (λ way b c s t. RunsSlice way b c number (Some init) s t) (λ way b c. OpensUnlessIn way b c number init method name) (λ way b c. InitsIn way b c number method name)
          (λ way b c s m d o t x. record { init = init; mid = m; runs = d; opens = x })

      pub begun : (method : Method) (name : List ℕ) → HappenedInAny device old mid number event.Begin Done
          → MakesSlice device number (λ way b c. InitsIn way b c number method name) mid r new
          → MakesSlice device number (λ way b c. ComesIn way b c number method name) old r new
      begun method name h =
          slices_then r old mid new (λ way b c s t. Answers b c number event.Begin s Done t) (λ way b c. InitsIn way b c number method name) (λ way b c. ComesIn way b c number method name)
          (λ way b c s m a o t x. record { answer = None; mid = m; acts = now_acts way b c number event.Begin Done s m a; inits = x }) (λ way. by_event device old mid number event.Begin Done h)

      -- the call ended so, and the request went on
      pub ends_then : (k : RequestTask) (how : CallEnd) → ((way : Way) → Refines device old mid (λ b c s t. RunsSlice way b c number (Some how) s t))
          → MakesSlice device number (λ way b c. RestsBehind way b c number k how) mid r new → MakesSlice device number (λ way b c. Rests way b c number k) old r new
      ends_then k how =
          slices_then r old mid new (λ way b c s t. RunsSlice way b c number (Some how) s t) (λ way b c. RestsBehind way b c number k how)
          (λ way b c. Rests way b c number k) (λ way b c s m d o t x. rests_then way b c number k how s m d o t x)

      -- what was begun went on
      pub goes_on : (x : Slice RequestTask) (k : RequestTask) (all : Whole) → x ≡ slice.Works k → MakesSlice device number all old (Ok x) mid
          → MakesSlice device number (λ way b c. Rests way b c number k) mid r new → MakesSlice device number all old r new
      goes_on x k all is h =
          slices_then r old mid new (λ way b c s t. Slices way b c number (all way b c) s (slice.Works k) t) (λ way b c. Rests way b c number k) all
          (λ way b c s m d o t x. d o t x) (subst (λ (y : Slice RequestTask). MakesSlice device number all old (Ok y) mid) is h)

      -- the call that was under way ran to its end, and the request went on
      pub runs_on : (k : RequestTask) (how : CallEnd) → Refines device old mid (λ b c s t. RunsCall b c number s how t)
          → MakesSlice device number (λ way b c. RestsBehind way b c number k how) mid r new → MakesSlice device number (λ way b c. Rests way b c number k) old r new
      runs_on k how h =
          ends_then k how (λ way. leads_as device old mid (λ b c s t. RunsCall b c number s how t) (λ b c s t. RunsSlice way b c number (Some how) s t)
          (λ b c s t d. runs_now b c number way how s t d) h)

    pub init_on : (method : Method) (name : List ℕ) (k : RequestTask) → OpensNext method name k
        → ((way : Way) → Refines device old mid (λ b c s t. RunsSlice way b c number None s t))
        → MakesSlice device number (λ way b c. InitsIn way b c number method name) old (Ok (slice.Works k)) mid
    init_on method name k is h way =
        leads_as device old mid (λ b c s t. RunsSlice way b c number None s t) (λ b c s t. Slices way b c number (InitsIn way b c number method name) s (slice.Works k) t)
        (λ b c s t more. λ o z x. inits_on way b c number method name k s t is more o z x) (h way)

    -- it is under way, and memory lacked
    pub init_lacked : (method : Method) (name : List ℕ) (r : Result (Slice RequestTask) FrontKind) (e : FrontKind) → r ≡ Err e
        → ((way : Way) → Refines device old mid (λ b c s t. RunsSlice way b c number None s t))
        → MakesSlice device number (λ way b c. InitsIn way b c number method name) old r mid
    init_lacked method name r e is h =
        lacked device number old mid (λ way b c. InitsIn way b c number method name) (λ b c s t. RunsSlice among b c number None s t) r e is (h among)

    pub call_on : (k : RequestTask) → ((way : Way) → Refines device old mid (λ b c s t. RunsSlice way b c number None s t))
        → MakesSlice device number (λ way b c. Rests way b c number k) old (Ok (slice.Works k)) mid
    call_on k h way =
        leads_as device old mid (λ b c s t. RunsSlice way b c number None s t) (λ b c s t. Slices way b c number (Rests way b c number k) s (slice.Works k) t)
        (λ b c s t more. λ o z x. rests_on way b c number k s t more o z x) (h way)

    pub not_begun : (method : Method) (name : List ℕ) (why : Refusal) (o : RequestOutcome) → lack_of why ≡ None → IsUnserved (Some (failure.Refused why)) o
        → HappenedInAny device old mid number event.Begin (Refused why)
        → MakesSlice device number (λ way b c. ComesIn way b c number method name) old (Ok (slice.Done o)) mid
    not_begun method name why o well without_body h way =
        leads_as device old mid (λ b c s t. Answers b c number event.Begin s (Refused why) t) (λ b c s t. ComesIn way b c number method name s o t)
        (λ b c s t a. record { answer = Some why; mid = t; acts = now_acts way b c number event.Begin (Refused why) s t a; inits = (well, without_body, refl) })
        (by_event device old mid number event.Begin (Refused why) h)

  -- over hosts
  module _ (r : Result (Slice RequestTask) FrontKind) (old new : Host F R g) where
    pub begun_host : (method : Method) (name : List ℕ) → MakesSlice device number (λ way b c. ComesIn way b c number method name) old r new
        → IfOk r (λ x. Nears (HandlesAmong device old number method name) (RestsAmong device new number) new x)
    unfolding HandlesAmong RestsAmong
    begun_host method name h = by r (h among) where
      by : (r : Result (Slice RequestTask) FrontKind) → Refines device old new (λ b c s t. IfOk r (λ x. Slices among b c number (ComesIn among b c number method name) s x t))
          → IfOk r (λ x. Nears (HandlesAmong device old number method name) (RestsAmong device new number) new x)
      by (Ok (slice.Done o)) h = h
      by (Ok (slice.Works k)) h = λ o z rest.
          leads_on device old new z (λ b c s t. Slices among b c number (ComesIn among b c number method name) s (slice.Works k) t)
          (λ b c s t. Rests among b c number k s o t) (λ b c s t. ComesIn among b c number method name s o t) (λ b c s m t d x. d o t x) h rest
      by (Err e) h = tt

    pub gone_on_host : (k : RequestTask) → MakesSlice device number (λ way b c. Rests way b c number k) old r new
        → IfOk r (λ x. Nears (RestsAmong device old number k) (RestsAmong device new number) new x)
    unfolding RestsAmong
    gone_on_host k h = by r (h among) where
      by : (r : Result (Slice RequestTask) FrontKind) → Refines device old new (λ b c s t. IfOk r (λ x. Slices among b c number (Rests among b c number k) s x t))
          → IfOk r (λ x. Nears (RestsAmong device old number k) (RestsAmong device new number) new x)
      by (Ok (slice.Done o)) h = h
      by (Ok (slice.Works j)) h = λ o z rest.
          leads_on device old new z (λ b c s t. Slices among b c number (Rests among b c number k) s (slice.Works j) t)
          (λ b c s t. Rests among b c number j s o t) (λ b c s t. Rests among b c number k s o t) (λ b c s m t d x. d o t x) h rest
      by (Err e) h = tt

  -- The request is handled: with nothing of others between its events it came to what it comes to alone.
  module _ (old new : Host F R g) (method : Method) (name : List ℕ) where
    pub handled : (x : Slice RequestTask) (o : RequestOutcome) → x ≡ slice.Done o → MakesSlice device number (λ way b c. ComesIn way b c number method name) old (Ok x) new
        → Refines device old new (λ b c s t. ComesOf b c number method name s o t)
    handled x o is h = subst (λ (y : Slice RequestTask). MakesSlice device number (λ way b c. ComesIn way b c number method name) old (Ok y) new) is h alone

    -- something lacked
    pub not_handled : (x : Result (Slice RequestTask) FrontKind) (r : Result RequestOutcome FrontKind) (e : FrontKind) → r ≡ Err e
        → MakesSlice device number (λ way b c. ComesIn way b c number method name) old x new → Refines device old new (λ b c s t. IfOk r (λ o. ComesOf b c number method name s o t))
    not_handled x r e is h =
        subst (λ (y : Result RequestOutcome FrontKind). Refines device old new (λ b c s t. IfOk y (λ o. ComesOf b c number method name s o t))) (sym is)
        (leads_any device old new (λ b c s t. IfOk x (λ y. Slices alone b c number (ComesIn alone b c number method name) s y t)) (h alone))
