-- A connection of the host, from its opening to its close.
use Rattle.std.proofs.Common.{◌≡◌, ℕ, inl, inr, ◌⊎◌, Bool, List, [], Option, Some, None, Result, Ok, Err, IfOk, IfErr, IfSome, refl, sym, subst}
use Rattle.std.proofs.KnownBytes.{Appends-nil}
use Rattle.std.specs.Io.KnownBytes.{Appends}
use Rattle.run_model.specs.declared.event.Event.TheVariants as event
use Rattle.run_model.specs.declared.event.Refusal.{Refusal}
use Rattle.run_model.specs.declared.event.Refusal.TheVariants as refusal
use Rattle.run_model.specs.Worlds.{Connected, Labels, Refused}
use Rattle.bucket_kinds.specs.Device.{Device}
use Rattle.filter_chain.specs.declared.host.Host.{Host}
use Rattle.filter_chain.specs.Hosting.{Ghosts, Stored}
use Rattle.filter_chain.specs.HostViews.{Answers}
use Rattle.http_message.specs.Clocks.{Said}
use Rattle.http_message.specs.declared.reply.Method.{Method}
use Rattle.http_message.specs.declared.site.Site.{Site}
use Rattle.http_front.specs.declared.fault.FrontKind.{FrontKind}
use Rattle.http_front.specs.declared.fault.FrontKind.TheVariants as kind
use Rattle.http_front.specs.declared.handler.RequestOutcome.{RequestOutcome}
use Rattle.http_front.specs.Connecting.{kind_result, ServingFails, FallsBy, IsClosed, IsConnOpened, ServesAll, Visits, kind_of, outcome_of}
use Rattle.http_front.specs.Driven.{HasConn, LacksFor, OnlyEventsOf, Handles, IsAlive, Refines}
use Rattle.http_front.specs.Requests.{RunsCall}
use Rattle.http_front.specs.Serving.{BlamesSink, BlamesSource, FailsBy, Writes}
use Rattle.http_front.specs.Turns.{MemoryLacked, Responses}
use Rattle.http_front.specs.declared.fault.FrontFault.{FrontFault}
use Rattle.http_front.specs.declared.fault.Served.{Served}
use Rattle.http_front.specs.declared.running.CallEnd.{CallEnd}
use Rattle.filter_chain.proofs.Driving.{HappenedInAny, by_event, leads_as, leads_on}
use Rattle.http_front.proofs.Stays.{close_refused, goes_there, open_there}

module _ {F R : Type 0} {g : Ghosts R Stored} (device : F → Device) (number : ℕ) (old new : Host F R g) where
  pub closed : (left : Option ℕ) (labels : List (List ℕ)) → left ≡ None → HappenedInAny device old new number event.Close (Labels labels)
      → Refines device old new (λ b c s t. IsClosed b c number left s t)
  closed left labels is h =
      subst (λ (x : Option ℕ). Refines device old new (λ b c s t. IsClosed b c number x s t)) (sym is)
      (leads_as device old new (λ b c s t. Answers b c number event.Close s (Labels labels) t) (λ b c s t. IsClosed b c number None s t) (λ b c s t a. (labels, a))
      (by_event device old new number event.Close (Labels labels) h))

  lacks_memory : (why : Refusal) → HasConn device old number → HappenedInAny device old new number event.Close (Refused why) → why ≡ refusal.NoMemory
  lacks_memory why has h = close_refused _ _ number why _ _ (h has.0 has.1).acts (has.2, has.3)

  pub kept : (left : Option ℕ) (why : Refusal) → left ≡ Some number → HasConn device old number → HappenedInAny device old new number event.Close (Refused why)
      → Refines device old new (λ b c s t. IsClosed b c number left s t)
  kept left why is has h =
      subst (λ (x : Option ℕ). Refines device old new (λ b c s t. IsClosed b c number x s t)) (sym is)
      (leads_as device old new (λ b c s t. Answers b c number event.Close s (Refused why) t) (λ b c s t. IsClosed b c number (Some number) s t)
      (λ b c s t a. (refl, subst (λ (r : Refusal). Answers b c number event.Close s (Refused r) t) (lacks_memory why has h) a)) (by_event device old new number event.Close (Refused why) h))

  pub opened_conn : (mid : Host F R g) (how : CallEnd) → HappenedInAny device old mid 0 event.Open (Connected number)
      → Refines device mid new (λ b c s t. RunsCall b c number s how t) → Refines device old new (λ b c s t. IsConnOpened b c number s t)
  opened_conn mid how h = leads_on device old mid new (λ b c s t. Answers b c 0 event.Open s (Connected number) t) (λ b c s t. RunsCall b c number s how t) (λ b c s t. IsConnOpened b c number s t)
      (λ b c s m t a r. record { mid = m; how = how; acts = a; runs = r }) (by_event device old mid 0 event.Open (Connected number) h)

-- What is written where serving fails.
module _ {H K : Type 0} (site : Site) (handles : H → Method → List ℕ → RequestOutcome → H → Type 0) (tells : K → Said → K → Type 0)
    (lacks : H → Method → List ℕ → FrontKind → H → Type 0) (old : H) (before : K) where
  front_whole : (stream text : List ℕ) (unread : Option (List ℕ)) (m n : ℕ) (new : H) (after : K) → Responses site handles tells old before stream text n new after
      → FallsBy site handles tells lacks kind.NoMemory (Some m) old before stream text unread new after
  front_whole stream text unread m n new after all = inr ((λ none. cc), n, all)

  lacking : (read unread was is : Option (List ℕ)) (left : Option ℕ) (new : H) (after : K)
      → Writes read was is (λ stream text. MemoryLacked site handles tells old before stream text unread new after)
      → Writes read was is (λ stream text. FallsBy site handles tells lacks kind.NoMemory left old before stream text unread new after)
  lacking None unread was is left new after h = tt
  lacking (Some stream) unread was is left new after h = (h.0, inl h.1, h.2)

  pub falls : (read unread was is : Option (List ℕ)) (left : Option ℕ) (new : H) (after : K) (e : FrontKind)
      → FailsBy site handles tells lacks old before read unread was is new after e → Writes read was is (λ stream text. FallsBy site handles tells lacks e left old before stream text unread new after)
  falls read unread was is left new after kind.Write h = h
  falls read unread was is left new after kind.Read h = h
  falls read unread was is left new after kind.TooManyReads h = h
  falls read unread was is left new after kind.NoMemory h = lacking read unread was is left new after h
  falls read unread was is left new after kind.NamesSpent h = h

module _ {F K R : Type 0} {g : Ghosts R Stored} (device : F → Device) (tells : K → Said → K → Type 0) (site : Site) (old : Host F R g) (before : K) (unread was is : Option (List ℕ)) where
  pub none_opened : (new : Host F R g) (e : FrontFault) (why : Refusal) (read : Option (List ℕ)) → unread ≡ read → is ≡ was → e.kind ≡ kind_of why → e.left ≡ None
      → HappenedInAny device old new 0 event.Open (Refused why)
      → IfSome read (λ stream. ServingFails device tells site old before stream e unread was is new before)
  none_opened new e why None keeps same kind left h = tt
  none_opened new e why (Some stream) keeps same kind left h = inl record {
    why = why;
    kind = kind;
    left = left;
    refused = by_event device old new 0 event.Open (Refused why) h;
    leaves = keeps;
    written = subst (λ (x : Option (List ℕ)). Appends was x []) (sym same) (Appends-nil was);
    still = refl;
  }

  module _ (number : ℕ) (opened served new : Host F R g) (after : K) (opens : Refines device old opened (λ b c s t. IsConnOpened b c number s t))
      (alive : IsAlive device served) (beside : OnlyEventsOf device opened number served) where
    -- what serving the open connection comes to
    abbrev AllSo : Option (List ℕ) → Served → Type 0
    AllSo read s = IfSome read (λ stream. (text : List ℕ) × Responses site (λ o. Handles device o number) tells opened before stream text s.requests served after × Appends was is text)

    abbrev FrontSo : Option ℕ → Option (List ℕ) → FrontKind → Type 0
    FrontSo left read k =
        IfSome read (λ stream. (text : List ℕ) × FallsBy site (λ o. Handles device o number) tells (λ o method file. LacksFor device o number) k left opened before
        stream text unread served after × Appends was is text)

    by_ok : (read : Option (List ℕ)) (r : Result Served FrontKind) (left : Option ℕ) → Refines device served new (λ b c s t. IsClosed b c number left s t) → IfOk r (AllSo read)
        → IfOk (outcome_of r left) (λ s. IfSome read (λ stream. ServesAll device tells site old before stream s.requests was is new after))
    by_ok read (Err k) left closes all = tt
    by_ok read (Ok s) (Some n) closes all = tt
    by_ok None (Ok s) None closes all = tt
    by_ok (Some stream) (Ok s) None closes (text, all, written) = record {
      text = text;
      connects = record { number = number; opened = opened; served = served; opens = opens; done = all; alive = alive; beside = beside; closes = closes };
      written = written;
    }

    by_err : (read : Option (List ℕ)) (r : Result Served FrontKind) (left : Option ℕ) → Refines device served new (λ b c s t. IsClosed b c number left s t)
        → IfOk r (AllSo read) → IfErr r (λ k. FrontSo left read k)
        → IfErr (outcome_of r left) (λ e. IfSome read (λ stream. ServingFails device tells site old before stream e unread was is new after))
    by_err read (Ok s) None closes all front = tt
    by_err None (Ok s) (Some n) closes all front = tt
    by_err (Some stream) (Ok s) (Some n) closes (text, all, written) front = inr record {
      text = text;
      connects = record {
        number = number;
        opened = opened;
        served = served;
        opens = opens;
        done =
            front_whole site (λ o. Handles device o number) tells (λ o method file. LacksFor device o number) opened before stream text unread n s.requests served after all;
        alive = alive;
        beside = beside;
        closes = closes;
      };
      written = written;
    }
    by_err None (Err k) left closes all front = tt
    by_err (Some stream) (Err k) left closes all (text, some, written) = inr record {
      text = text;
      connects = record { number = number; opened = opened; served = served; opens = opens; done = some; alive = alive; beside = beside; closes = closes };
      written = written;
    }

    fails_so : (read : Option (List ℕ)) (r : Result Served FrontKind) (left : Option ℕ)
        → IfErr r (λ e. FailsBy site (λ o. Handles device o number) tells (λ o method file. LacksFor device o number) opened before read unread was is served after
        e) → IfErr r (λ k. FrontSo left read k)
    fails_so read (Ok s) left h = tt
    fails_so read (Err e) left h = falls site (λ o. Handles device o number) tells (λ o method file. LacksFor device o number) opened before read unread was is left served after e h

    module _ (read : Option (List ℕ)) (r : Result Served FrontKind) (left : Option ℕ) (closes : Refines device served new (λ b c s t. IsClosed b c number left s t))
        (all : IfOk r (AllSo read)) (result : Result Served FrontFault) (same : result ≡ outcome_of r left) where
      pub served_ok : IfOk result (λ s. IfSome read (λ stream. ServesAll device tells site old before stream s.requests was is new after))
      served_ok =
          subst (λ (x : Result Served FrontFault). IfOk x (λ s. IfSome read (λ stream. ServesAll device tells site old before stream s.requests was is new after)))
          (sym same) (by_ok read r left closes all)

      pub served_err : IfErr r (λ e. FailsBy site (λ o. Handles device o number) tells (λ o method file. LacksFor device o number) opened before read unread was is
          served after e) → IfErr result (λ e. IfSome read (λ stream. ServingFails device tells site old before stream e unread was is new after))
      served_err front =
          subst (λ (x : Result Served FrontFault). IfErr x (λ e. IfSome read
          (λ stream. ServingFails device tells site old before stream e unread was is new after))) (sym same) (by_err read r left closes all (fails_so read r left front))

-- Of any reader.
module _ {F K R : Type 0} {g : Ghosts R Stored} (device : F → Device) (tells : K → Said → K → Type 0) (site : Site) (old : Host F R g) where
  pub not_visited : (new : Host F R g) (e : FrontFault) (why : Refusal) → HappenedInAny device old new 0 event.Open (Refused why) → Visits device tells site old (Err e) new
  not_visited new e why h = inl (why, by_event device old new 0 event.Open (Refused why) h)

  module _ (number : ℕ) (opened served new : Host F R g) (opens : Refines device old opened (λ b c s t. IsConnOpened b c number s t)) (alive : IsAlive device served)
      (beside : OnlyEventsOf device opened number served) where
    visits_by : (r : Result Served FrontKind) (left : Option ℕ) → Refines device served new (λ b c s t. IsClosed b c number left s t) → Visits device tells site old (outcome_of r left) new
    visits_by (Ok s) None closes = record { number = number; opened = opened; served = served; opens = opens; done = tt; alive = alive; beside = beside; closes = closes }
    visits_by (Ok s) (Some n) closes = inr record { number = number; opened = opened; served = served; opens = opens; done = tt; alive = alive; beside = beside; closes = closes }
    visits_by (Err k) left closes = inr record { number = number; opened = opened; served = served; opens = opens; done = tt; alive = alive; beside = beside; closes = closes }

    pub visited : (r : Result Served FrontKind) (left : Option ℕ) → Refines device served new (λ b c s t. IsClosed b c number left s t)
        → (result : Result Served FrontFault) → result ≡ outcome_of r left
        → Visits device tells site old result new
    visited r left closes result same = subst (λ (x : Result Served FrontFault). Visits device tells site old x new) (sym same) (visits_by r left closes)

-- A connection that is opened is there, and stays there by its own events.
module _ {F R : Type 0} {g : Ghosts R Stored} (device : F → Device) (number : ℕ) where
  pub has_opened : (old mid : Host F R g) → IsAlive device old → HappenedInAny device old mid 0 event.Open (Connected number) → HasConn device mid number
  has_opened old mid alive h =
      let x = h alive.0 alive.1 in
      let there = open_there _ _ number _ _ x.acts in
      (x.to, x.hosts, there.0, there.1)

  pub has_still : (old new : Host F R g) → HasConn device old number → OnlyEventsOf device old number new → HasConn device new number
  unfolding OnlyEventsOf
  has_still old new has h =
      let x = h has.0 has.1 in
      let there = goes_there _ _ number x.did.0 _ _ x.did.1 (has.2, has.3) in
      (x.to, x.hosts, there.0, there.1)

-- what is told of source and sink, by the kind of the fault. left: the connection, where it could not be closed
module _ (was is : Bool) where
  sink_of : (r : Result Served FrontKind) (left : Option ℕ) → BlamesSink r was is → BlamesSink (kind_result (outcome_of r left)) was is
  sink_of (Ok s) None h = h
  sink_of (Ok s) (Some n) h = h
  sink_of (Err k) left h = h

  pub sink_told : (r : Result Served FrontKind) (left : Option ℕ) (result : Result Served FrontFault) → result ≡ outcome_of r left → BlamesSink r was is → BlamesSink (kind_result result) was is
  sink_told r left result same h = subst (λ (x : Result Served FrontFault). BlamesSink (kind_result x) was is) (sym same) (sink_of r left h)

  source_of : (reads : ℕ) (r : Result Served FrontKind) (left : Option ℕ) → BlamesSource r was is reads → BlamesSource (kind_result (outcome_of r left)) was is reads
  source_of reads (Ok s) None h = h
  source_of reads (Ok s) (Some n) h = h
  source_of reads (Err k) left h = h

  pub source_told : (reads : ℕ) (r : Result Served FrontKind) (left : Option ℕ) (result : Result Served FrontFault) → result ≡ outcome_of r left
      → BlamesSource r was is reads → BlamesSource (kind_result result) was is reads
  source_told reads r left result same h = subst (λ (x : Result Served FrontFault). BlamesSource (kind_result x) was is reads) (sym same) (source_of reads r left h)

-- where nothing is opened, neither is asked
unopened_kind : (why : Refusal) → (kind_of why ≡ kind.NamesSpent) ⊎ (kind_of why ≡ kind.NoMemory)
unopened_kind refusal.NamesSpent = inl refl
unopened_kind why = inr refl

module _ (was : Bool) where
  sink_kind : (e : FrontKind) → (e ≡ kind.NamesSpent) ⊎ (e ≡ kind.NoMemory) → BlamesSink {T = Served} (Err e) was was
  sink_kind e (inl is) = subst (λ (k : FrontKind). BlamesSink {T = Served} (Err k) was was) (sym is) refl
  sink_kind e (inr is) = subst (λ (k : FrontKind). BlamesSink {T = Served} (Err k) was was) (sym is) refl

  source_kind : (reads : ℕ) (e : FrontKind) → (e ≡ kind.NamesSpent) ⊎ (e ≡ kind.NoMemory) → BlamesSource {T = Served} (Err e) was was reads
  source_kind reads e (inl is) = subst (λ (k : FrontKind). BlamesSource {T = Served} (Err k) was was reads) (sym is) refl
  source_kind reads e (inr is) = subst (λ (k : FrontKind). BlamesSource {T = Served} (Err k) was was reads) (sym is) refl

  pub sink_unopened : (why : Refusal) (e : FrontKind) → e ≡ kind_of why → BlamesSink {T = Served} (Err e) was was
  sink_unopened why e is = subst (λ (k : FrontKind). BlamesSink {T = Served} (Err k) was was) (sym is) (sink_kind (kind_of why) (unopened_kind why))

  pub source_unopened : (reads : ℕ) (why : Refusal) (e : FrontKind) → e ≡ kind_of why → BlamesSource {T = Served} (Err e) was was reads
  source_unopened reads why e is = subst (λ (k : FrontKind). BlamesSource {T = Served} (Err k) was was reads) (sym is) (source_kind reads (kind_of why) (unopened_kind why))
