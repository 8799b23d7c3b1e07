-- Serving a connection, turn by turn.
use Rattle.std.proofs.Common.{◌≡◌, ◌≤◌, ℕ, ◌+◌, ◌<◌, inl, inr, Bool, true, false, List, [], ◌∷◌, ◌++◌, length, take, drop, Option, Some, None, refl, ap, sym, subst, ◌∙◌, arith}
use Rattle.std.proofs.lemmas.List.{append_assoc, append-nil, length-append, length-drop, take-append-drop}
use Rattle.std.proofs.lemmas.Grind.{flat_map-append}
use Rattle.std.proofs.KnownBytes.{Appends-nil, Appends-trans, Consumes-nil, Consumes-trans}
use Rattle.std.specs.Io.KnownBytes.{Appends, Consumes, IsAtEnd}
use Rattle.httparse.specs.Grammar.{print_request}
use Rattle.http_message.specs.Clocks.{Said}
use Rattle.http_message.specs.Heads.{StaysHeadless}
use Rattle.http_message.specs.Replying.{reply_text}
use Rattle.http_message.specs.declared.reply.Method.{Method}
use Rattle.http_message.specs.declared.site.Site.{Site}
use Rattle.http_front.specs.declared.fault.FrontKind.{FrontKind}
use Rattle.http_front.specs.declared.fault.FrontKind.TheVariants as kind
use Rattle.http_front.specs.declared.handler.RequestOutcome.{RequestOutcome}
use Rattle.http_front.specs.Turns.{Turn, AllStay, AnswersRequest, AnswersAll, AnswersRequestsRead, SendsBad, WantsMore, heads_of, texts_of, head_limit}
use Rattle.http_front.specs.Turns.{fields_limit, ClosesAfter, RefusesAfter, IsDue, IsResponsesFront, IsCut, IsNext, LacksAt, LacksFile, MemoryLacked}
use Rattle.http_front.specs.Stepping.{LacksAnswer, ServesRequest, WantsAnswer}
use Rattle.http_front.specs.Serving.{Writes, ServedSoFar, EndsWell, FailsBy, IsSinkKind}

-- Lists of turns with one more.

pub heads_more : (turns : List Turn) (t : Turn) → heads_of (turns ++ t ∷ []) ≡ heads_of turns ++ print_request t.head
heads_more turns t = flat_map-append (λ (x : Turn). print_request x.head) turns (t ∷ []) ∙ ap (λ l. heads_of turns ++ l) (append-nil (print_request t.head))

pub texts_more : (turns : List Turn) (t : Turn) → texts_of (turns ++ t ∷ []) ≡ texts_of turns ++ reply_text t.reply t.date
texts_more turns t = flat_map-append (λ (x : Turn). reply_text x.reply x.date) turns (t ∷ []) ∙ ap (λ l. texts_of turns ++ l) (append-nil (reply_text t.reply t.date))

pub stay_more : (turns : List Turn) (t : Turn) → AllStay turns → t.reply.closes ≡ false → AllStay (turns ++ t ∷ [])
stay_more [] t stay stays = (stays, tt)
stay_more (x ∷ turns) t stay stays = (stay.0, stay_more turns t stay.1 stays)

count_more : (turns : List Turn) (t : Turn) (n : ℕ) → n ≡ length turns → n + 1 ≡ length (turns ++ t ∷ [])
count_more turns t n count = ap (λ k. k + 1) count ∙ sym (length-append turns (t ∷ []))

-- the answer that is wanted is due
is_due : (seen left : List ℕ) (eof : Bool) → (eof ≡ true → left ≡ []) → WantsAnswer seen eof → IsDue seen left
is_due seen left eof over (inl begins) = inl begins
is_due seen left eof over (inr bad) = inr (bad.0, eof, over, bad.1)

-- What a reader had left, where it is known, is what was taken and what it has.
abbrev pub WasLeft : List ℕ → Option (List ℕ) → List ℕ → Type 0
WasLeft stream q taken = (rest : List ℕ) × (q ≡ Some rest) × (stream ≡ taken ++ rest)

left_of : (stream taken : List ℕ) (q : Option (List ℕ)) → Consumes (Some stream) q taken → WasLeft stream q taken
left_of stream taken None took = absurd took
left_of stream taken (Some rest) took = (rest, refl, took)

at_end : (q : Option (List ℕ)) (rest : List ℕ) → q ≡ Some rest → IsAtEnd q → rest ≡ []
at_end q rest same end = subst IsAtEnd same end

module _ {H K : Type 0} (site : Site) (handles : H → Method → List ℕ → RequestOutcome → H → Type 0) (tells : K → Said → K → Type 0) where
  abbrev pub Far : H → K → Option (List ℕ) → Option (List ℕ) → Option (List ℕ) → Option (List ℕ) → List ℕ → ℕ → H → K → Type 0
  Far = ServedSoFar site handles tells

  pub answers_more : (old : H) (before : K) (turns : List Turn) (mid : H) (then : K) (t : Turn) (new : H) (after : K)
      → AnswersAll site handles tells old before turns mid then → AnswersRequest site handles tells mid then t new after
      → AnswersAll site handles tells old before (turns ++ t ∷ []) new after
  unfolding AnswersAll
  answers_more old before [] mid then t new after all one =
      (new, after, subst (λ h. AnswersRequest site handles tells h before t new after) all.0 (subst (λ k. AnswersRequest site handles tells mid k t new after) all.1 one), (refl, refl))
  answers_more old before (x ∷ turns) mid then t new after all one = (all.0, all.1, all.2, answers_more all.0 all.1 turns mid then t new after all.3 one)

  -- Nothing is read yet.
  pub far_start : (old : H) (before : K) (r w : Option (List ℕ)) (unread : List ℕ) (n : ℕ) → unread ≡ [] → n ≡ 0 → Far old before r r w w unread n old before
  unfolding AnswersAll
  far_start old before r w unread n none zero-is = record {
    turns = [];
    stay = tt;
    answers = (refl, refl);
    count = zero-is;
    took = subst (Consumes r r) (sym none) (Consumes-nil r);
    wrote = Appends-nil w;
  }

  -- Bytes are read.
  pub far_read : (old : H) (before : K) (r q p w v : Option (List ℕ)) (unread bytes all : List ℕ) (n : ℕ) (new : H) (after : K)
      → Far old before r q w v unread n new after → Consumes q p bytes → all ≡ unread ++ bytes → Far old before r p w v all n new after
  far_read old before r q p w v unread bytes all n new after so read same = record {
    turns = so.turns;
    stay = so.stay;
    answers = so.answers;
    count = so.count;
    took = subst (Consumes r p) (append_assoc (heads_of so.turns) unread bytes ∙ ap (λ l. heads_of so.turns ++ l) (sym same)) (Consumes-trans r q p (heads_of so.turns ++ unread) bytes so.took read);
    wrote = so.wrote;
  }

  -- A request is answered, and the connection stays open.
  pub far_stays : (old : H) (before : K) (r q w v u : Option (List ℕ)) (unread left : List ℕ) (n m size : ℕ) (mid new : H) (then after : K) (text : List ℕ)
      → Far old before r q w v unread n mid then → ServesRequest site handles tells mid then unread false size text new after
      → Appends v u text → left ≡ drop size unread → m ≡ n + 1 → Far old before r q w u left m new after
  far_stays old before r q w v u unread left n m size mid new then after text so serves wrote skipped more =
      let t = serves.turn in
      let took : heads_of so.turns ++ unread ≡ heads_of (so.turns ++ t ∷ []) ++ left = ap (λ l. heads_of so.turns ++ l)
      (serves.begins.reads.1 ∙ ap (λ l. print_request t.head ++ l) (sym skipped)) ∙ sym (append_assoc (heads_of so.turns) (print_request t.head) left)
      ∙ ap (λ l. l ++ left) (sym (heads_more so.turns t)) in
      record {
        turns = so.turns ++ t ∷ [];
        stay = stay_more so.turns t so.stay serves.goes_on;
        answers = answers_more old before so.turns mid then t new after so.answers serves.answers;
        count = more ∙ count_more so.turns t n so.count;
        took = subst (Consumes r q) took so.took;
        wrote = subst (Appends w u) (ap (λ l. texts_of so.turns ++ l) serves.written ∙ sym (texts_more so.turns t)) (Appends-trans w v u (texts_of so.turns) text so.wrote wrote);
      }

  -- The responses so far.
  front_of : (old : H) (before : K) (stream : List ℕ) (q w v : Option (List ℕ)) (unread : List ℕ) (n : ℕ) (new : H) (after : K)
      → (so : Far old before (Some stream) q w v unread n new after) → IsResponsesFront site handles tells old before stream (texts_of so.turns)
  front_of old before stream q w v unread n new after so =
      let left = left_of stream (heads_of so.turns ++ unread) q so.took in
      record {
        first = heads_of so.turns;
        rest = unread ++ left.0;
        n = n;
        new = new;
        after = after;
        splits = left.2 ∙ append_assoc (heads_of so.turns) unread left.0;
        responses = record { turns = so.turns; stay = so.stay; answers = so.answers; requests = refl; written = refl; count = so.count };
      }

  -- What holds of the texts so far, where the stream begins with the requests so far and goes on so.
  far_told : (P : List ℕ → List ℕ → Type 0) (old : H) (before : K) (r q w v : Option (List ℕ)) (unread : List ℕ) (n : ℕ) (new : H) (after : K) (so : Far old before r q w v unread n new after)
      → ((stream left : List ℕ) → q ≡ Some left → stream ≡ (heads_of so.turns ++ unread) ++ left → P stream (texts_of so.turns)) → Writes r w v P
  far_told P old before None q w v unread n new after so holds = tt
  far_told P old before (Some stream) q w v unread n new after so holds =
      let left = left_of stream (heads_of so.turns ++ unread) q so.took in (texts_of so.turns, holds stream left.0 left.1 left.2, so.wrote)

  -- Serving fails where all whole requests that were read are answered.
  pub far_wants : (old : H) (before : K) (r q w v : Option (List ℕ)) (unread : List ℕ) (n : ℕ) (new : H) (after : K)
      → Far old before r q w v unread n new after → WantsMore unread → Writes r w v (λ stream text. AnswersRequestsRead site handles tells old before stream text q new after)
  far_wants old before r q w v unread n new after so needs_input =
      far_told (λ stream text. AnswersRequestsRead site handles tells old before stream text q new after) old before r q w v unread n new after so (λ stream left leaves splits. record {
        first = heads_of so.turns;
        seen = unread;
        unread = left;
        n = n;
        splits = splits;
        responses = record { turns = so.turns; stay = so.stay; answers = so.answers; requests = refl; written = refl; count = so.count };
        needs_input = needs_input;
        leaves = leaves;
      })

  -- Memory or names are lacking for the request at hand.
  far_lacks : (Due : H → List ℕ → List ℕ → Type 0) (old : H) (before : K) (r q w v : Option (List ℕ)) (unread : List ℕ) (n : ℕ) (new : H) (after : K)
      → Far old before r q w v unread n new after → ((left : List ℕ) → q ≡ Some left → Due new unread left) → Writes r w v (λ stream text. LacksAt site handles tells Due old before stream text q)
  far_lacks Due old before r q w v unread n new after so due =
      far_told (λ stream text. LacksAt site handles tells Due old before stream text q) old before r q w v unread n new after so (λ stream left leaves splits. record {
        first = heads_of so.turns;
        seen = unread;
        unread = left;
        n = n;
        new = new;
        after = after;
        splits = splits;
        responses = record { turns = so.turns; stay = so.stay; answers = so.answers; requests = refl; written = refl; count = so.count };
        due = due left leaves;
        leaves = leaves;
      })

  -- Memory is lacking for bytes that were read.
  pub far_loses_read : (old : H) (before : K) (r q p w v : Option (List ℕ)) (unread lost : List ℕ) (n : ℕ) (new : H) (after : K)
      → Far old before r q w v unread n new after → WantsMore unread → ¬ (lost ≡ []) → length lost ≤ 8192 → Consumes q p lost
      → Writes r w v (λ stream text. MemoryLacked site handles tells old before stream text p new after)
  far_loses_read old before r q p w v unread lost n new after so needs_input some few took =
      far_told (λ stream text. MemoryLacked site handles tells old before stream text p new after) old before r q w v unread n new after so (λ stream left leaves splits.
      let rest = left_of left lost p (subst (λ x. Consumes x p lost) leaves took) in
      inr (inl (record {
        first = heads_of so.turns;
        seen = unread;
        lost = lost;
        unread = rest.0;
        n = n;
        some = some;
        few = few;
        splits = splits ∙ ap (λ l. heads_of so.turns ++ unread ++ l) rest.2 ∙ sym (append_assoc (heads_of so.turns ++ unread) lost rest.0);
        responses = record { turns = so.turns; stay = so.stay; answers = so.answers; requests = refl; written = refl; count = so.count };
        needs_input = needs_input;
        leaves = rest.1;
      })))

  -- The stream has ended.
  pub far_done : (old : H) (before : K) (r q w v : Option (List ℕ)) (unread : List ℕ) (n : ℕ) (new : H) (after : K)
      → Far old before r q w v unread n new after → unread ≡ [] → IsAtEnd q → EndsWell site handles tells old before r w v n new after
  far_done old before None q w v unread n new after so none end = tt
  far_done old before (Some stream) q w v unread n new after so none end =
      let left = left_of stream (heads_of so.turns ++ unread) q so.took in
      let all : stream ≡ heads_of so.turns = left.2 ∙ ap (λ l. (heads_of so.turns ++ unread) ++ l) (at_end q left.0 left.1 end)
      ∙ append-nil (heads_of so.turns ++ unread) ∙ ap (λ l. heads_of so.turns ++ l) none ∙ append-nil (heads_of so.turns) in
      (texts_of so.turns, inl (record { turns = so.turns; stay = so.stay; answers = so.answers; requests = all; written = refl; count = so.count }), so.wrote)

  -- A request is answered, and the connection closes.
  closed : (old : H) (before : K) (stream : List ℕ) (q w v : Option (List ℕ)) (unread : List ℕ) (n m size : ℕ) (mid new : H) (then after : K) (text : List ℕ)
      → (so : Far old before (Some stream) q w v unread n mid then) → ServesRequest site handles tells mid then unread true size text new after → m ≡ n + 1
      → ClosesAfter site handles tells old before stream (texts_of so.turns ++ text) m new after
  closed old before stream q w v unread n m size mid new then after text so serves more =
      let t = serves.turn in
      let left = left_of stream (heads_of so.turns ++ unread) q so.took in
      let one : heads_of so.turns ++ unread ≡ heads_of (so.turns ++ t ∷ []) ++ drop size unread = ap (λ l. heads_of so.turns ++ l) serves.begins.reads.1
      ∙ sym (append_assoc (heads_of so.turns) (print_request t.head) (drop size unread)) ∙ ap (λ l. l ++ drop size unread) (sym (heads_more so.turns t)) in
      record {
        turns = so.turns;
        last = t;
        rest = drop size unread ++ left.0;
        stay = so.stay;
        closes = serves.goes_on;
        answers = answers_more old before so.turns mid then t new after so.answers serves.answers;
        requests = left.2 ∙ ap (λ l. l ++ left.0) one ∙ append_assoc (heads_of (so.turns ++ t ∷ [])) (drop size unread) left.0;
        written = ap (λ l. texts_of so.turns ++ l) serves.written ∙ sym (texts_more so.turns t);
        count = more ∙ count_more so.turns t n so.count;
      }

  pub far_closes : (old : H) (before : K) (r q w v u : Option (List ℕ)) (unread : List ℕ) (n m size : ℕ) (mid new : H) (then after : K) (text : List ℕ)
      → Far old before r q w v unread n mid then → ServesRequest site handles tells mid then unread true size text new after
      → Appends v u text → m ≡ n + 1 → EndsWell site handles tells old before r w u m new after
  far_closes old before None q w v u unread n m size mid new then after text so serves wrote more = tt
  far_closes old before (Some stream) q w v u unread n m size mid new then after text so serves wrote more =
      (texts_of so.turns ++ text, inr (inl (closed old before stream q w v unread n m size mid new then after text so serves more)), Appends-trans w v u (texts_of so.turns) text so.wrote wrote)

  -- What follows begins with no head.
  abbrev pub Bad : H → K → List ℕ → Bool → List ℕ → H → K → Type 0
  Bad mid then unread eof text new after = ¬ (unread ≡ []) × StaysHeadless head_limit fields_limit unread eof × (new ≡ mid) × SendsBad site handles tells then text after

  some_left : (unread rest : List ℕ) → ¬ (unread ≡ []) → ¬ (unread ++ rest ≡ [])
  some_left [] rest some = λ _. some refl
  some_left (x ∷ unread) rest some = λ h. cc

  refused : (old : H) (before : K) (stream : List ℕ) (q w v : Option (List ℕ)) (unread : List ℕ) (eof : Bool) (n m : ℕ) (mid new : H) (then after : K) (text : List ℕ)
      → (so : Far old before (Some stream) q w v unread n mid then) → (eof ≡ true → IsAtEnd q) → Bad mid then unread eof text new after → m ≡ n + 1
      → RefusesAfter site handles tells old before stream (texts_of so.turns ++ text) m new after
  refused old before stream q w v unread eof n m mid new then after text so end bad more =
      let left = left_of stream (heads_of so.turns ++ unread) q so.took in
      record {
        turns = so.turns;
        then = then;
        rest = unread ++ left.0;
        bad = text;
        stay = so.stay;
        answers = subst (λ h. AnswersAll site handles tells old before so.turns h then) (sym bad.2) so.answers;
        sends = bad.3;
        more = some_left unread left.0 bad.0;
        headless = bad.1 left.0 (λ w. at_end q left.0 left.1 (end w));
        requests = left.2 ∙ append_assoc (heads_of so.turns) unread left.0;
        written = refl;
        count = more ∙ ap (λ k. k + 1) so.count;
      }

  pub far_refused : (old : H) (before : K) (r q w v u : Option (List ℕ)) (unread : List ℕ) (eof : Bool) (n m : ℕ) (mid new : H) (then after : K) (text : List ℕ)
      → Far old before r q w v unread n mid then → (eof ≡ true → IsAtEnd q) → Bad mid then unread eof text new after
      → Appends v u text → m ≡ n + 1 → EndsWell site handles tells old before r w u m new after
  far_refused old before None q w v u unread eof n m mid new then after text so end bad wrote more = tt
  far_refused old before (Some stream) q w v u unread eof n m mid new then after text so end bad wrote more =
      (texts_of so.turns ++ text, inr (inr (refused old before stream q w v unread eof n m mid new then after text so end bad more)), Appends-trans w v u (texts_of so.turns) text so.wrote wrote)

  -- The writer failed: a front of the response is written.

  unwritten : (old : H) (before : K) (r q w v : Option (List ℕ)) (unread : List ℕ) (n : ℕ) (new : H) (after : K) → Far old before r q w v unread n new after
      → Far old before r q None None unread n new after
  unwritten old before r q w v unread n new after so = record { turns = so.turns; stay = so.stay; answers = so.answers; count = so.count; took = so.took; wrote = tt }

  -- A part of a response is written.
  cut_of : (old : H) (before : K) (q w v u : Option (List ℕ)) (stream unread : List ℕ) (n k : ℕ) (mid new : H) (then after : K) (text : List ℕ)
      → (so : Far old before (Some stream) q w v unread n mid then) → IsNext site handles tells old before stream (texts_of so.turns ++ text) (n + 1) new after
      → k < length text → Appends v u (take k text) → Writes (Some stream) w u (λ stream text. IsCut site handles tells old before stream text new after)
  unfolding front_of
  cut_of old before q w v u stream unread n k mid new then after text so next few wrote = (
    texts_of so.turns ++ take k text,
    record {
      front = texts_of so.turns;
      part = take k text;
      more = drop k text;
      whole = front_of old before stream q w v unread n mid then so;
      next = subst (λ l. IsNext site handles tells old before stream (texts_of so.turns ++ l) (n + 1) new after) (sym (take-append-drop k text)) next;
      some = λ none. let rest = length-drop k text in let zero-is = ap length none in absurd (omega (arith, few, rest, zero-is));
      written = refl;
    },
    Appends-trans w v u (texts_of so.turns) (take k text) so.wrote wrote,
  )

  pub cut_stays : (old : H) (before : K) (r q w v u : Option (List ℕ)) (unread : List ℕ) (n size k : ℕ) (mid new : H) (then after : K) (text : List ℕ)
      → Far old before r q w v unread n mid then → ServesRequest site handles tells mid then unread false size text new after
      → k < length text → Appends v u (take k text) → Writes r w u (λ stream text. IsCut site handles tells old before stream text new after)
  unfolding far_stays front_of unwritten
  cut_stays old before None q w v u unread n size k mid new then after text so serves few wrote = tt
  cut_stays old before (Some stream) q w v u unread n size k mid new then after text so serves few wrote =
      let without_body = unwritten old before (Some stream) q w v unread n mid then so in
      let next = far_stays old before (Some stream) q None None None unread (drop size unread) n (n + 1) size mid new then after text without_body serves tt refl refl in
      let all : texts_of next.turns ≡ texts_of so.turns ++ text = texts_more so.turns serves.turn ∙ ap (λ l. texts_of so.turns ++ l) (sym serves.written) in
      cut_of old before q w v u stream unread n k mid new then after text so (subst (λ l. IsNext site handles tells old before stream l (n + 1) new after) all
      (inl (front_of old before stream q None None (drop size unread) (n + 1) new after next, refl, refl, refl))) few wrote

  pub cut_closes : (old : H) (before : K) (r q w v u : Option (List ℕ)) (unread : List ℕ) (n size k : ℕ) (mid new : H) (then after : K) (text : List ℕ)
      → Far old before r q w v unread n mid then → ServesRequest site handles tells mid then unread true size text new after
      → k < length text → Appends v u (take k text) → Writes r w u (λ stream text. IsCut site handles tells old before stream text new after)
  cut_closes old before None q w v u unread n size k mid new then after text so serves few wrote = tt
  cut_closes old before (Some stream) q w v u unread n size k mid new then after text so serves few wrote =
      cut_of old before q w v u stream unread n k mid new then after text so (inr (inr (inl (closed old before stream q w v unread n (n + 1) size mid new then after text so serves refl)))) few wrote

  pub cut_refused : (old : H) (before : K) (r q w v u : Option (List ℕ)) (unread : List ℕ) (eof : Bool) (n k : ℕ) (mid new : H) (then after : K) (text : List ℕ)
      → Far old before r q w v unread n mid then → (eof ≡ true → IsAtEnd q) → Bad mid then unread eof text new after
      → k < length text → Appends v u (take k text) → Writes r w u (λ stream text. IsCut site handles tells old before stream text new after)
  cut_refused old before None q w v u unread eof n k mid new then after text so end bad few wrote = tt
  cut_refused old before (Some stream) q w v u unread eof n k mid new then after text so end bad few wrote =
      cut_of old before q w v u stream unread n k mid new then after text so
      (inr (inr (inr (refused old before stream q w v unread eof n (n + 1) mid new then after text so end bad refl)))) few wrote

  -- Memory or names are lacking, as the kind of the fault says.
  module _ (lacks : H → Method → List ℕ → FrontKind → H → Type 0) where
    lack_memory : (r q w v : Option (List ℕ)) (old : H) (before : K) (new : H) (after : K)
        → Writes r w v (λ stream text. LacksAt site handles tells (λ mid. IsDue) old before stream text q)
        → Writes r w v (λ stream text. MemoryLacked site handles tells old before stream text q new after)
    lack_memory None q w v old before new after h = tt
    lack_memory (Some stream) q w v old before new after h = (h.0, inl h.1, h.2)

    pub far_lacks_by : (old : H) (before : K) (r q w v : Option (List ℕ)) (unread : List ℕ) (eof : Bool) (n : ℕ) (mid new : H) (then after : K) (e : FrontKind)
        → Far old before r q w v unread n mid then → (eof ≡ true → IsAtEnd q) → LacksAnswer site lacks mid unread eof new e → FailsBy site handles tells lacks old before r q w v new after e
    far_lacks_by old before r q w v unread eof n mid new then after kind.NoMemory so end needs_input =
        lack_memory r q w v old before new after (far_lacks (λ m. IsDue) old before r q w v unread n mid then so (λ left leaves. is_due unread left eof (λ is. at_end q left leaves (end is)) needs_input))
    far_lacks_by old before r q w v unread eof n mid new then after kind.NamesSpent so end needs_input =
        far_lacks (λ m seen left. LacksFile site lacks m seen new) old before r q w v unread n mid then so (λ left leaves. needs_input)
    far_lacks_by old before r q w v unread eof n mid new then after e so end lack = absurd lack

    -- The sink fails, or lacks memory.
    cut_lacks : (r q w v : Option (List ℕ)) (old : H) (before : K) (new : H) (after : K)
        → Writes r w v (λ stream text. IsCut site handles tells old before stream text new after) → Writes r w v (λ stream text. MemoryLacked site handles tells old before stream text q new after)
    cut_lacks None q w v old before new after h = tt
    cut_lacks (Some stream) q w v old before new after h = (h.0, inr (inr h.1), h.2)

    pub cut_by : (old : H) (before : K) (r q w v : Option (List ℕ)) (new : H) (after : K) (e : FrontKind) → IsSinkKind e
        → Writes r w v (λ stream text. IsCut site handles tells old before stream text new after) → FailsBy site handles tells lacks old before r q w v new after e
    cut_by old before r q w v new after e (inl write) cut = subst (FailsBy site handles tells lacks old before r q w v new after) (sym write) cut
    cut_by old before r q w v new after e (inr memory) cut = subst (FailsBy site handles tells lacks old before r q w v new after) (sym memory) (cut_lacks r q w v old before new after cut)
