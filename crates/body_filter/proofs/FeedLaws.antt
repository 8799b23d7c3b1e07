-- A body is brought, read by read.
use Rattle.std.proofs.Common.{◌≡◌, ◌≢◌, ℕ, ◌<◌, ◌≤◌, List, [], ◌∷◌, ◌++◌, length, take, drop, map, All}
use Rattle.std.proofs.Common.{Option, Some, None, IfSome, Result, Ok, Err, inl, inr, ◌⊎◌, refl, ap, sym, subst, ◌∙◌, arith}
use Rattle.std.proofs.lemmas.List.{append_assoc, append-nil, map-append, take-append-drop, length-drop}
use Rattle.std.proofs.lemmas.List.Elements.{All-append, All-nil, All-cons}
use Rattle.std.proofs.KnownBytes.{Appends-nil, Appends-trans, Appends-kept, Consumes-nil, Consumes-trans, Consumes-kept}
use Rattle.std.specs.Io.KnownBytes.{Appends, Consumes, Keeps, IsAtEnd}
use Rattle.std.specs.List.{concat}
use Rattle.module_code.specs.Program.{Program}
use Rattle.run_model.specs.declared.event.Event.{Event}
use Rattle.run_model.specs.declared.event.Event.TheVariants as event
use Rattle.filter_chain.specs.HostViews.{HostView}
use Rattle.http_message.specs.declared.failure.Failure.{Failure}
use Rattle.module_commands.specs.Streams.{WritesText}
use Rattle.module_commands.specs.declared.fault.PlayFault.{PlayFault}
use Rattle.module_commands.specs.declared.fault.PlayFault.TheVariants as fault
use Rattle.body_filter.specs.Bodies.{IsReadAtOnce, body_events, brings_bytes, brings_eos, first_events}
use Rattle.body_filter.specs.BodyCalls.{MakesCalls}
use Rattle.body_filter.specs.Feeding.{FedSoFar, FeedsBody, PutsCall, TriesCall}
use Rattle.body_filter.specs.Filtered.{Filters, FiltersFront, FiltersUpTo}
use Rattle.body_filter.proofs.CallLaws.{calls_on, calls_stop, one_call}

-- AllReads, as lists.

pub concat-append : (xs ys : List (List ℕ)) → concat (xs ++ ys) ≡ concat xs ++ concat ys
concat-append [] ys = refl
concat-append (x ∷ xs) ys = ap (λ (zs : List ℕ). x ++ zs) (concat-append xs ys) ∙ sym (append_assoc x (concat xs) (concat ys))

concat_one : (x : List ℕ) → concat (x ∷ []) ≡ x
concat_one x = append-nil x

-- any bytes may be read one by one
by_ones : List ℕ → List (List ℕ)
by_ones [] = []
by_ones (b ∷ bs) = (b ∷ []) ∷ by_ones bs

ones_joined : (bytes : List ℕ) → concat (by_ones bytes) ≡ bytes
unfolding by_ones
ones_joined [] = refl
ones_joined (b ∷ bs) = ap (λ (xs : List ℕ). b ∷ xs) (ones_joined bs)

ones_sized : (bytes : List ℕ) → All IsReadAtOnce (by_ones bytes)
unfolding by_ones
ones_sized [] = All-nil IsReadAtOnce
ones_sized (b ∷ bs) = All-cons IsReadAtOnce (b ∷ []) (by_ones bs) (omega arith, omega arith) (ones_sized bs)

-- what follows the first events, where the rest is read so
rest_events : List (List ℕ) → List Event
rest_events reads = map brings_bytes reads ++ brings_eos ∷ []

-- all events of a body are the first ones and the rest
events_split : (front rest : List (List ℕ)) → body_events (front ++ rest) ≡ first_events front ++ rest_events rest
unfolding rest_events
events_split front rest =
    ap (λ (es : List Event). event.Begin ∷ (es ++ brings_eos ∷ [])) (map-append brings_bytes front rest)
    ∙ ap (λ (es : List Event). event.Begin ∷ es) (append_assoc (map brings_bytes front) (map brings_bytes rest) (brings_eos ∷ []))

first_more : (reads : List (List ℕ)) (bytes : List ℕ) → first_events (reads ++ bytes ∷ []) ≡ first_events reads ++ brings_bytes bytes ∷ []
first_more reads bytes = ap (λ (es : List Event). event.Begin ∷ es) (map-append brings_bytes reads (bytes ∷ []))

one_sized : (bytes : List ℕ) → IsReadAtOnce bytes → All IsReadAtOnce (bytes ∷ [])
one_sized bytes size = All-cons IsReadAtOnce bytes [] size (All-nil IsReadAtOnce)

-- what was consumed by reads, and by one more
took_more : (r p q : Option (List ℕ)) (reads : List (List ℕ)) (bytes : List ℕ) → Consumes r p (concat reads) → Consumes p q bytes → Consumes r q (concat (reads ++ bytes ∷ []))
took_more r p q reads bytes first then =
    subst (Consumes r q) (sym (concat-append reads (bytes ∷ []) ∙ ap (λ (xs : List ℕ). concat reads ++ xs) (concat_one bytes))) (Consumes-trans r p q (concat reads) bytes first then)

-- what is true of what was read and of what is left is true of what the reader had
of_unread : (r q : Option (List ℕ)) (text : List ℕ) (P : List ℕ → Type 0) → Consumes r q text → ((rest : List ℕ) → q ≡ Some rest → P (text ++ rest)) → IfSome r P
of_unread None q text P read all = tt
of_unread (Some x) None text P read all = absurd read
of_unread (Some x) (Some y) text P read all = subst P (sym read) (all y refl)

-- behind a front that is not all of it something is left
some_left : (text : List ℕ) (n : ℕ) → n < length text → drop n text ≢ []
some_left text n lt none = (let long = length-drop n text in let empty : length (drop n text) ≡ 0 = ap (λ (xs : List ℕ). length xs) none in omega (arith, long, empty, lt))

-- the events are those of what was read, or all where nothing is left
abbrev pub AreBodyEvents : List Event → List (List ℕ) → Option (List ℕ) → Type 0
AreBodyEvents events reads q = (events ≡ first_events reads) ⊎ ((events ≡ body_events reads) × IsAtEnd q)

none_left : (q : Option (List ℕ)) (rest : List ℕ) → q ≡ Some rest → IsAtEnd q → rest ≡ []
none_left q rest is ends = subst IsAtEnd is ends

are_of : (events : List Event) (reads : List (List ℕ)) (q : Option (List ℕ)) (rest : List ℕ) → q ≡ Some rest → AreBodyEvents events reads q
    → (events ≡ first_events reads) ⊎ ((events ≡ body_events reads) × (rest ≡ []))
are_of events reads q rest is (inl first) = inl first
are_of events reads q rest is (inr (all, ends)) = inr (all, none_left q rest is ends)

module _ (b : ℕ) (c : List Program) (number : ℕ) (r q w v : Option (List ℕ)) (reads : List (List ℕ)) (sizes : All IsReadAtOnce reads) (old new : HostView) where
  -- Some first calls were made, and this came out of them.
  front_of : (events : List Event) (body lost unread : List ℕ) (how : Option Failure) (out : List ℕ) → AreBodyEvents events reads q → body ≡ concat reads ++ (lost ++ unread)
      → length lost ≤ 8000 → q ≡ Some unread
      → MakesCalls b c number events old how out new → FiltersFront b c number body q lost old how out new
  front_of events body lost unread how out are joined few leaves calls =
      record { reads = reads; unread = unread; events = events; joined = joined; sizes = sizes; few = few; leaves = leaves; are = are_of events reads q unread leaves are; calls = calls }

  -- What came out of the last call was not written.
  pub unwritten : (mid : Option (List ℕ)) (events : List Event) (how : Option Failure) (pre out : List ℕ) (e : PlayFault) → Consumes r q (concat reads) → AreBodyEvents events reads q
      → MakesCalls b c number events old how (pre ++ out) new → Appends w mid pre → WritesText {T = Option Failure} mid v out (Err e) → FeedsBody b c number w v r q (Err e) old new
  unwritten mid events how pre out fault.Read took are calls before writes = absurd writes
  unwritten mid events how pre out fault.Write took are calls before (n, lt, wrote) =
      of_unread r q (concat reads) (λ body. (text : List ℕ) × FiltersUpTo b c number body q fault.Write old text new × Appends w v text) took (λ rest is.
      let parts : pre ++ out ≡ (pre ++ take n out) ++ drop n out = ap (λ (xs : List ℕ). pre ++ xs) (sym (take-append-drop n out)) ∙ sym (append_assoc pre (take n out) (drop n out)) in
      let made = subst (λ (xs : List ℕ). MakesCalls b c number events old how xs new) parts calls in (
        pre ++ take n out,
        (how, drop n out, some_left out n lt, front_of events (concat reads ++ rest) [] rest how ((pre ++ take n out) ++ drop n out) are refl (omega arith) is made),
        Appends-trans w mid v pre (take n out) before wrote,
      ))
  unwritten mid events how pre out fault.NoMemory took are calls before kept =
      of_unread r q (concat reads) (λ body. (text : List ℕ) × FiltersUpTo b c number body q fault.NoMemory old text new × Appends w v text) took (λ rest is.
      (pre, (how, [], out, front_of events (concat reads ++ rest) [] rest how (pre ++ out) are refl (omega arith) is calls), Appends-kept w mid v pre before kept))

  -- There was no memory for what was read last.
  pub unbrought : (p : Option (List ℕ)) (bytes pre : List ℕ) → Consumes r p (concat reads) → Consumes p q bytes → length bytes ≤ 8000
      → MakesCalls b c number (first_events reads) old None pre new
      → Appends w v pre → FeedsBody b c number w v r q (Err fault.NoMemory) old new
  unbrought p bytes pre first then few calls wrote =
      of_unread r q (concat reads ++ bytes)
      (λ body. (text : List ℕ) × FiltersUpTo b c number body q fault.NoMemory old text new × Appends w v text) (Consumes-trans r p q (concat reads) bytes first then) (λ rest is.
      let made = subst (λ (xs : List ℕ). MakesCalls b c number (first_events reads) old None xs new) (sym (append-nil pre)) calls in (
        pre,
        (
          None,
          bytes,
          [],
          front_of (first_events reads) ((concat reads ++ bytes) ++ rest) bytes rest None (pre ++ []) (inl refl) (append_assoc
              (concat reads) bytes rest) few is made,
        ),
        wrote,
      ))

  -- Nothing more was read.
  pub unread_more : (pre : List ℕ) → Consumes r q (concat reads) → MakesCalls b c number (first_events reads) old None pre new → Appends w v pre
      → FeedsBody b c number w v r q (Err fault.Read) old new
  unread_more pre took calls wrote =
      of_unread r q (concat reads) (λ body. (text : List ℕ) × FiltersUpTo b c number body q fault.Read old text new × Appends w v text) took (λ rest is.
      (pre, front_of (first_events reads) (concat reads ++ rest) [] rest None pre (inl refl) refl (omega arith) is calls, wrote))

  -- A call did not succeed.
  pub stopped : (why : Failure) (out : List ℕ) → Consumes r q (concat reads) → MakesCalls b c number (first_events reads) old (Some why) out new → Appends w v out
      → FeedsBody b c number w v r q (Ok (Some why)) old new
  stopped why out took calls wrote =
      of_unread r q (concat reads) (λ body. (text : List ℕ) × Filters b c number body old (Some why) text new × Appends w v text) took (λ rest is.
      let joined : concat reads ++ rest ≡ concat (reads ++ by_ones rest) = sym (concat-append reads (by_ones rest) ∙ ap (λ (xs : List ℕ). concat reads ++ xs) (ones_joined rest)) in
      let made = subst (λ (es : List Event). MakesCalls b c number es old (Some why) out new) (sym (events_split reads (by_ones rest)))
      (calls_stop b c number (first_events reads) (rest_events (by_ones rest)) old new why out calls) in (
        out,
        record {
          reads = reads ++ by_ones rest;
          read = record {
            joined = joined;
            sizes = All-append IsReadAtOnce reads (by_ones rest) sizes
                (ones_sized rest);
          };
          calls = made;
        },
        wrote,
      ))

  -- All calls were made.
  pub all_made : (how : Option Failure) (out : List ℕ) → Consumes r q (concat reads) → IsAtEnd q → MakesCalls b c number (body_events reads) old how out new → Appends w v out
      → FeedsBody b c number w v r q (Ok how) old new
  all_made how out took ends calls wrote =
      of_unread r q (concat reads) (λ body. (text : List ℕ) × Filters b c number body old how text new × Appends w v text) took (λ rest is.
      let joined : concat reads ++ rest ≡ concat reads = ap (λ (xs : List ℕ). concat reads ++ xs) (none_left q rest is ends) ∙ append-nil (concat reads) in
      (out, record { reads = reads; read = record { joined = joined; sizes = sizes }; calls = calls }, wrote))

module _ (b : ℕ) (c : List Program) (number : ℕ) where
  -- The first call.

  begun_calls : (w v : Option (List ℕ)) (x : Result (Option Failure) PlayFault) (old new : HostView) → (p : PutsCall b c number w v event.Begin x old new)
      → MakesCalls b c number (first_events []) old p.how p.out new
  begun_calls w v x old new p = one_call b c number event.Begin old p.how p.out new p.makes

  pub begun_well : (r w v : Option (List ℕ)) (old new : HostView) → PutsCall b c number w v event.Begin (Ok None) old new → FedSoFar b c number w v r r old new
  begun_well r w v old new p =
      record {
        reads = [];
        out = p.out;
        sizes = All-nil IsReadAtOnce;
        calls = subst (λ (h : Option Failure). MakesCalls b c number (first_events []) old h p.out new) (sym p.writes.0) (begun_calls w v (Ok None) old new p);
        took = Consumes-nil r;
        wrote = p.writes.1;
      }

  pub begun_badly : (r w v : Option (List ℕ)) (why : Failure) (old new : HostView) → PutsCall b c number w v event.Begin (Ok (Some why)) old new
      → FeedsBody b c number w v r r (Ok (Some why)) old new
  begun_badly r w v why old new p =
      stopped b c number r r w v [] (All-nil IsReadAtOnce) old new why p.out (Consumes-nil r)
      (subst (λ (h : Option Failure). MakesCalls b c number (first_events []) old h p.out new) (sym p.writes.0) (begun_calls w v (Ok (Some why)) old new p)) p.writes.1

  pub begun_unwritten : (r w v : Option (List ℕ)) (e : PlayFault) (old new : HostView) → PutsCall b c number w v event.Begin (Err e) old new
      → FeedsBody b c number w v r r (Err e) old new
  begun_unwritten r w v e old new p =
      unwritten b c number r r w v [] (All-nil IsReadAtOnce) old new w (first_events []) p.how [] p.out e (Consumes-nil r) (inl refl) (begun_calls w v (Err e) old new p)
      (Appends-nil w) p.writes

  -- Bytes were read and are brought.
  module _ (r p q w mid v : Option (List ℕ)) (old now new : HostView) (so : FedSoFar b c number w mid r p old now) where
    more_calls : (what : Event) (x : Result (Option Failure) PlayFault) → (k : PutsCall b c number mid v what x now new)
        → MakesCalls b c number (first_events so.reads ++ what ∷ []) old k.how (so.out ++ k.out) new
    more_calls what x k = calls_on b c number (first_events so.reads) (what ∷ []) old now new k.how so.out k.out so.calls (one_call b c number what now k.how k.out new k.makes)

    module _ (bytes : List ℕ) (size : IsReadAtOnce bytes) (took : Consumes p q bytes) where
      abbrev AllReads : List (List ℕ)
      AllReads = so.reads ++ bytes ∷ []

      sized : All IsReadAtOnce AllReads
      sized = All-append IsReadAtOnce so.reads (bytes ∷ []) so.sizes (one_sized bytes size)

      taken : Consumes r q (concat AllReads)
      taken = took_more r p q so.reads bytes so.took took

      read_calls : (x : Result (Option Failure) PlayFault) → (k : PutsCall b c number mid v (brings_bytes bytes) x now new)
          → MakesCalls b c number (first_events AllReads) old k.how (so.out ++ k.out) new
      read_calls x k = subst (λ (es : List Event). MakesCalls b c number es old k.how (so.out ++ k.out) new) (sym (first_more so.reads bytes)) (more_calls (brings_bytes bytes) x k)

      told_calls : (how : Option Failure) → (k : PutsCall b c number mid v (brings_bytes bytes) (Ok how) now new)
          → MakesCalls b c number (first_events AllReads) old how (so.out ++ k.out) new
      told_calls how k = subst (λ (h : Option Failure). MakesCalls b c number (first_events AllReads) old h (so.out ++ k.out) new) (sym k.writes.0) (read_calls (Ok how) k)

      put_well : (k : PutsCall b c number mid v (brings_bytes bytes) (Ok None) now new) → FedSoFar b c number w v r q old new
      put_well k = record {
        reads = AllReads;
        out = so.out ++ k.out;
        sizes = sized;
        calls = told_calls None k;
        took = taken;
        wrote = Appends-trans w mid v so.out k.out so.wrote k.writes.1;
      }

      pub brought_well : TriesCall b c number mid v (brings_bytes bytes) (Ok None) now new → FedSoFar b c number w v r q old new
      brought_well (inl k) = put_well k
      brought_well (inr none) = (let bad = none.0 in absurd (cc))

      pub brought_badly : (why : Failure) → TriesCall b c number mid v (brings_bytes bytes) (Ok (Some why)) now new → FeedsBody b c number w v r q (Ok (Some why)) old new
      brought_badly why (inl k) = stopped b c number r q w v AllReads sized old new why (so.out ++ k.out) taken (told_calls (Some why) k)
          (Appends-trans w mid v so.out k.out so.wrote k.writes.1)
      brought_badly why (inr none) = (let bad = none.0 in absurd (cc))

      pub brought_unwritten : (e : PlayFault) → TriesCall b c number mid v (brings_bytes bytes) (Err e) now new → FeedsBody b c number w v r q (Err e) old new
      brought_unwritten e (inl k) = unwritten b c number r q w v AllReads sized old new mid (first_events AllReads) k.how so.out k.out e taken (inl refl) (read_calls
          (Err e) k) so.wrote k.writes
      brought_unwritten e (inr none) =
          let is : fault.NoMemory ≡ e = (let told = none.0 in cc) in
          subst (λ (f : PlayFault). FeedsBody b c number w v r q (Err f) old new) is
          (subst (λ (t : HostView). FeedsBody b c number w v r q (Err fault.NoMemory) old t) (sym none.1)
          (unbrought b c number r q w v so.reads so.sizes old now p bytes so.out so.took took size.1 so.calls (subst
          (λ (x : Option (List ℕ)). Appends w x so.out) (sym none.2) so.wrote)))

    -- The end was read, and an EOS is brought.
    module _ (kept : Keeps p q) (ends : IsAtEnd q) where
      all_taken : Consumes r q (concat so.reads)
      all_taken = Consumes-kept r p q (concat so.reads) so.took kept

      pub ended : (x : Result (Option Failure) PlayFault) → TriesCall b c number mid v brings_eos x now new → FeedsBody b c number w v r q x old new
      ended (Ok how) (inl k) =
          all_made b c number r q w v so.reads so.sizes old new how (so.out ++ k.out) all_taken ends
          (subst (λ (h : Option Failure). MakesCalls b c number (body_events so.reads) old h (so.out ++ k.out) new) (sym k.writes.0) (more_calls brings_eos (Ok how) k))
          (Appends-trans w mid v so.out k.out so.wrote k.writes.1)
      ended (Ok how) (inr none) = (let bad = none.0 in absurd (cc))
      ended (Err e) (inl k) =
          unwritten b c number r q w v so.reads so.sizes old new mid (body_events so.reads) k.how so.out k.out e all_taken (inr (refl, ends)) (more_calls brings_eos
          (Err e) k) so.wrote k.writes
      ended (Err e) (inr none) =
          let is : fault.NoMemory ≡ e = (let told = none.0 in cc) in
          subst (λ (f : PlayFault). FeedsBody b c number w v r q (Err f) old new) is
          (subst (λ (t : HostView). FeedsBody b c number w v r q (Err fault.NoMemory) old t) (sym none.1)
          (unbrought b c number r q w v so.reads so.sizes old now q [] so.out all_taken (Consumes-nil q) (omega arith) so.calls
          (subst (λ (x : Option (List ℕ)). Appends w x so.out) (sym none.2) so.wrote)))

  -- Nothing was read.
  pub kept_so : (r p q w v : Option (List ℕ)) (old now : HostView) → Keeps p q → FedSoFar b c number w v r p old now → FedSoFar b c number w v r q old now
  kept_so r p q w v old now kept so = record {
    reads = so.reads;
    out = so.out;
    sizes = so.sizes;
    calls = so.calls;
    took = Consumes-kept r p q (concat so.reads) so.took kept;
    wrote = so.wrote;
  }

  pub left_so : (r q w v : Option (List ℕ)) (old now : HostView) → FedSoFar b c number w v r q old now → FeedsBody b c number w v r q (Err fault.Read) old now
  left_so r q w v old now so = unread_more b c number r q w v so.reads so.sizes old now so.out so.took so.calls so.wrote
