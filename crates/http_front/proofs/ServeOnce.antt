-- Two servings of one stream on one host, over files of which all is told.
use Rattle.std.proofs.Common.{◌≡◌, ◌⊎◌, ℕ, Bool, true, false, List, ◌∷◌, Option, Some, None, Result, Ok, Err, IfOk, IfSome, inl, inr, refl, sym, ap, subst, ◌∙◌, is_some, ◌||◌, not, []}
use Rattle.module_code.specs.Program.{Program}
use Rattle.run_model.specs.declared.event.Cause.{Cause}
use Rattle.run_model.specs.declared.event.Cause.TheVariants as cause
use Rattle.run_model.specs.declared.event.Event.TheVariants as event
use Rattle.run_model.specs.declared.event.Refusal.{Refusal}
use Rattle.run_model.specs.declared.event.Refusal.TheVariants as refusal
use Rattle.run_model.specs.declared.event.Stepped.{Stepped}
use Rattle.run_model.specs.Steps.{is_spent}
use Rattle.run_model.specs.Refusals.{first_refusal, if_broken, refused_if}
use Rattle.run_model.specs.Chains.{Connection, Linked}
use Rattle.run_model.specs.Passing.{Reads}
use Rattle.run_model.specs.Turns.{begins, begun, is_busy, steps, unless_refused}
use Rattle.run_model.specs.Worlds.{World, Told, Answer, Connected, Refused, Step, answered, happens_on, step_answered}
use Rattle.run_model.proofs.Updates.{upd_at}
use Rattle.model_laws.proofs.Refusals.{refused_step_breaks}
use Rattle.bucket_kinds.specs.Device.{Device}
use Rattle.filter_chain.specs.declared.host.Host.{Host}
use Rattle.filter_chain.specs.Hosting.{Ghosts, Stored, IsHosting, budget_of, chain_of, done_answer, files_of, step_answer}
use Rattle.filter_chain.specs.HostViews.{HostView, Answers, host_view}
use Rattle.filter_chain.specs.Led.{IsAlive, Refines, RefinesFrom}
use Rattle.filter_chain.specs.Running.{StepsToEnd}
use Rattle.run_laws.specs.KnownFiles.{AreFilesKnown, is_no_memory, reports_no_memory}
use Rattle.run_laws.proofs.RunOnce.{events_are_deterministic, events_keep_files_known, steps_are_deterministic, steps_keep_files_known}
use Rattle.http_message.specs.Clocks.{Said}
use Rattle.http_message.specs.declared.reply.Method.{Method}
use Rattle.http_message.specs.declared.site.Site.{Site}
use Rattle.http_front.specs.Connecting.{IsConnOpened, ServesAll}
use Rattle.http_front.specs.Driven.{Handles}
use Rattle.http_front.specs.OneStream.{AreSameHosts, IsOnlyStreamFor, sent_by}
use Rattle.http_front.specs.SameResponses.{AgreeUpToNoMemory, RunsOutOfMemory, bytes_of}
use Rattle.http_front.specs.RequestEvents.{InitsIf}
use Rattle.http_front.specs.Requests.{ComesOf, RunsCall}
use Rattle.http_front.specs.Turns.{Responses}
use Rattle.http_front.specs.declared.fault.FrontFault.{FrontFault}
use Rattle.http_front.specs.declared.fault.Served.{Served}
use Rattle.http_front.specs.declared.handler.RequestOutcome.{RequestOutcome}
use Rattle.http_front.proofs.ComesOnce.{done_same, requests_are_deterministic, requests_keep_files_known}
use Rattle.http_front.proofs.StreamOnce.{responses_once, text_sent}

-- The connection of this number is broken, for lack of memory.
abbrev IsLacking : ℕ → World → Type 0
IsLacking number w = (c : Connection) × (w.conns number ≡ Some c) × (c.broken ≡ Some cause.NoMemory)

-- No request begins on it: it is told why.
begin_refused : (memory : Bool) (b : ℕ) (chain : List Program) (told : Told) (k : ℕ) (w : World) (c : Connection) → c.broken ≡ Some cause.NoMemory
    → (happens_on memory b chain told event.Begin k (Some c) w).0 ≡ Refused (refusal.Broken cause.NoMemory)
unfolding happens_on begins
begin_refused memory b chain told k w c broken = ap by broken where
  by : Option Cause → Answer
  by o =
      (answered k w (unless_refused (first_refusal (if_broken o
      ∷ (refused_if (is_busy c.stack) refusal.Busy
      ∷ (refused_if (is_some c.req) refusal.InRequest
      ∷ (refused_if (is_spent w.common.pools 1 || is_spent w.common.next 1) refusal.NamesSpent
      ∷ (refused_if (not memory) refusal.NoMemory ∷ [])))))) (w.common, c) (begun chain (w.common, c)))).0

module _ (b : ℕ) (chain : List Program) (number : ℕ) where
  lacking_tells : (s t : HostView) (m : Method) (file : List ℕ) (o : RequestOutcome) → IsLacking number s.world → ComesOf b chain number m file s o t → RunsOutOfMemory o
  lacking_tells s t m file o (c, there, broken) x =
      let refused : done_answer x.answer ≡ Refused (refusal.Broken cause.NoMemory) =
      sym (ap (λ (z : Answer × World). z.0) x.acts.is)
      ∙ ap (λ (q : Option Connection). (happens_on x.acts.memory b chain x.acts.told event.Begin number q s.world).0) there
      ∙ begin_refused x.acts.memory b chain x.acts.told number s.world c broken in
      by x.answer (done_same x.answer (Some (refusal.Broken cause.NoMemory)) refused) x.inits where
        by : (a : Option Refusal) → a ≡ Some (refusal.Broken cause.NoMemory) → InitsIf (Answers b chain number) (StepsToEnd b chain number) a m file x.mid o t → RunsOutOfMemory o
        by a is y = (let z = subst (λ (r : Option Refusal). InitsIf (Answers b chain number) (StepsToEnd b chain number) r m file x.mid o t) is y in
            record { why = refusal.Broken cause.NoMemory; memory = refl; fails = z.1.2; status = z.1.0 })

  -- A step that tells the lack has broken the connection.
  broke : (w t : World) (r : Refusal) (x : Result Stepped Refusal × Linked) (c : Connection) (memory : Bool) (reads : Reads) → steps memory b chain reads (w.common, c) ≡ x
      → step_answered number w x ≡ (Refused r, t) → is_no_memory r ≡ true → IsLacking number t
  broke w t r (Ok s, v) c memory reads from is lacks = (let never : Step s ≡ Refused r = ap (λ (z : Answer × World). z.0) is in absurd (cc))
  broke w t r (Err q, v) c memory reads from is lacks =
      let same : q ≡ r = refused_same q r (ap (λ (z : Answer × World). z.0) is) in
      elim (refused_step_breaks memory b chain reads (w.common, c) v q from) [
        | inl idle ↦ absurd (idle_not r (sym same ∙ idle.0) lacks)
        | inr broken ↦ (
          v.1,
          ap (λ (z : Answer × World). z.1.conns number) (sym is) ∙ upd_at w.conns number (Some v.1),
          ap (λ (z : Linked). z.1.broken) broken.1.1 ∙ ap (λ (k : Cause). some_cause k) (cause_is broken.0 r (sym same ∙ broken.1.0) lacks),
        )
      ] where
        refused_same : (q r : Refusal) → Refused q ≡ Refused r → q ≡ r
        refused_same q r is = cc

        idle_not : (r : Refusal) → r ≡ refusal.Idle → is_no_memory r ≡ true → ⊥
        idle_not r is lacks = (let never : false ≡ true = ap is_no_memory (sym is) ∙ lacks in cc)

        some_cause : Cause → Option Cause
        some_cause k = Some k

        broken_lack : (k : Cause) → is_no_memory (refusal.Broken k) ≡ true → k ≡ cause.NoMemory
        broken_lack cause.NoMemory is = refl
        broken_lack k is = absurd (cc)

        cause_is : (k : Cause) (r : Refusal) → r ≡ refusal.Broken k → is_no_memory r ≡ true → k ≡ cause.NoMemory
        cause_is k r is lacks = broken_lack k (ap is_no_memory (sym is) ∙ lacks)

  step_lacks : (s t : HostView) (a : Result Stepped Refusal) → reports_no_memory (step_answer a) ≡ true → Answers b chain number event.Step s (step_answer a) t → IsLacking number t.world
  unfolding happens_on
  step_lacks s t (Ok x) lacks acts = absurd (cc)
  step_lacks s t (Err r) lacks acts = by (s.world.conns number) acts.is where
    by : (o : Option Connection) → happens_on acts.memory b chain acts.told event.Step number o s.world ≡ (Refused r, t.world) → IsLacking number t.world
    by None is = (let same : Refused refusal.NoSuchConn ≡ Refused r = ap (λ (z : Answer × World). z.0) is in let one : refusal.NoSuchConn ≡ r = cc in
        let never : false ≡ true = ap is_no_memory one ∙ lacks in absurd (cc))
    by (Some c) is = broke s.world t.world r (steps acts.memory b chain acts.told.reads (s.world.common, c)) c acts.memory acts.told.reads refl is lacks

-- Two hosts of one world, or of one whose connection is broken for lack of memory.
module _ {F R : Type 0} {g : Ghosts R Stored} (device : F → Device) (number : ℕ) where
  record AlikeHosts (h k : Host F R g) : Type 0 where
    w : World
    v : World
    left : IsHosting (device (files_of h)) h w
    right : IsHosting (device (files_of k)) k v
    budget : budget_of h ≡ budget_of k
    chain : chain_of h ≡ chain_of k
    state : ((host_view w (device (files_of h)) ≡ host_view v (device (files_of k))) × AreFilesKnown (device (files_of h))) ⊎ (IsLacking number w ⊎ IsLacking number v)

  handles_once : (h x j y : Host F R g) (m : Method) (file : List ℕ) (o p : RequestOutcome) → AlikeHosts h j → Handles device h number m file o x → Handles device j number m file p y
      → ((o ≡ p) × AlikeHosts x y) ⊎ (RunsOutOfMemory o ⊎ RunsOutOfMemory p)
  handles_once h x j y m file o p alike one two = by alike.state (one alike.w alike.left) (two alike.v alike.right) where
    by : ((host_view alike.w (device (files_of h)) ≡ host_view alike.v (device (files_of j))) × AreFilesKnown (device (files_of h))) ⊎ (IsLacking number alike.w ⊎ IsLacking number alike.v)
        → RefinesFrom device h x (λ b c s t. ComesOf b c number m file s o t) alike.w → RefinesFrom device j y (λ b c s t. ComesOf b c number m file s p t) alike.v
        → ((o ≡ p) × AlikeHosts x y) ⊎ (RunsOutOfMemory o ⊎ RunsOutOfMemory p)
    by (inl (same, told)) a d =
        elim (requests_are_deterministic (budget_of h) (chain_of h) number m file (host_view alike.w (device (files_of h))) (host_view a.to (device (files_of x)))
        (host_view d.to (device (files_of y))) o p told a.did
        (subst (λ (s : HostView). ComesOf (budget_of h) (chain_of h) number m file s p (host_view d.to (device (files_of y)))) (sym same)
        (subst (λ (b : ℕ). ComesOf b (chain_of h) number m file (host_view alike.v (device (files_of j))) p (host_view d.to (device (files_of y)))) (sym alike.budget)
        (subst (λ (c : List Program). ComesOf (budget_of j) c number m file (host_view alike.v (device (files_of j))) p (host_view d.to (device (files_of y)))) (sym alike.chain) d.did)))) [
          | inl is ↦
              inl (
                is.0,
                record {
                  w = a.to;
                  v = d.to;
                  left = a.hosts;
                  right = d.hosts;
                  budget = a.budget ∙ alike.budget ∙ sym d.budget;
                  chain = a.chain ∙ alike.chain ∙ sym d.chain;
                  state = inl (
                    is.1,
                    requests_keep_files_known (budget_of h) (chain_of h) number m file (host_view alike.w (device (files_of h)))
                        (host_view a.to (device (files_of x))) o told a.did,
                  );
                },
              )
          | inr lack ↦ inr lack
        ]
    by (inr (inl lack)) a d = inr (inl (lacking_tells (budget_of h) (chain_of h) number (host_view alike.w (device (files_of h))) (host_view a.to (device (files_of x))) m file o lack a.did))
    by (inr (inr lack)) a d = inr (inr (lacking_tells (budget_of j) (chain_of j) number (host_view alike.v (device (files_of j))) (host_view d.to (device (files_of y))) m file p lack d.did))

-- A connection is opened.

-- The numbers are one, and the states are one, or one of them lacks.
opened_once : (b : ℕ) (c : List Program) (n m : ℕ) (s t u : HostView) → AreFilesKnown s.device → IsConnOpened b c n s t → IsConnOpened b c m s u
    → (n ≡ m) × (((t ≡ u) × AreFilesKnown t.device) ⊎ (IsLacking n t.world ⊎ IsLacking n u.world))
opened_once b c n m s t u told x y =
    elim (events_are_deterministic b c 0 event.Open s x.mid y.mid (Connected n) (Connected m) told x.acts y.acts) [
      | inl same ↦
          (let number : n ≡ m = one_number n m same.0 in (
            number,
            by (events_keep_files_known b c 0 event.Open s x.mid (Connected n) told x.acts)
                (subst (λ (v : HostView). RunsCall b c n v y.how u) (sym same.1) (subst (λ (k : ℕ). RunsCall b c k y.mid y.how u) (sym number) y.runs)),
          ))
      | inr (inl lacks) ↦ absurd (cc)
      | inr (inr lacks) ↦ absurd (cc)
    ] where
      one_number : (n m : ℕ) → Connected n ≡ Connected m → n ≡ m
      one_number n m is = cc

      by : AreFilesKnown x.mid.device → RunsCall b c n x.mid y.how u → ((t ≡ u) × AreFilesKnown t.device) ⊎ (IsLacking n t.world ⊎ IsLacking n u.world)
      by still runs =
          elim ((steps_are_deterministic b c n x.mid t u x.runs.answer runs.answer still).1 x.runs.runs runs.runs) [
            | inl same ↦ inl (same.1, (steps_keep_files_known b c n x.mid t x.runs.answer still).1 x.runs.runs)
            | inr (inl lacks) ↦ inr (inl (step_lacks b c n x.runs.runs.before t x.runs.answer lacks x.runs.runs.last))
            | inr (inr lacks) ↦ inr (inr (step_lacks b c n runs.runs.before u runs.answer lacks runs.runs.last))
          ]

module _ {F K R : Type 0} {g : Ghosts R Stored} (device : F → Device) (tells : K → Said → K → Type 0) (site : Site) where
  -- The two hosts from which the connections are opened.
  opens_alike : (h j x y : Host F R g) (n m : ℕ) → AreFilesKnown (device (files_of h)) → AreSameHosts device h j → Refines device h x (λ b c s t. IsConnOpened b c n s t)
      → Refines device j y (λ b c s t. IsConnOpened b c m s t)
      → (n ≡ m) × AlikeHosts device n x y
  opens_alike h j x y n m told like one two =
      let a = one like.world like.stands in
      let d = two like.world like.other_stands in
      let same = opened_once (budget_of h) (chain_of h) n m (host_view like.world (device (files_of h))) (host_view a.to (device (files_of x))) (host_view d.to (device (files_of y))) told a.did
      (subst (λ (e : Device). IsConnOpened (budget_of h) (chain_of h) m (host_view like.world e) (host_view d.to (device (files_of y)))) like.files
      (subst (λ (b : ℕ). IsConnOpened b (chain_of h) m (host_view like.world (device (files_of j))) (host_view d.to (device (files_of y)))) like.budget
      (subst (λ (c : List Program). IsConnOpened (budget_of j) c m (host_view like.world (device (files_of j))) (host_view d.to (device (files_of y)))) like.chain d.did))) in (
        same.0,
        record {
          w = a.to;
          v = d.to;
          left = a.hosts;
          right = d.hosts;
          budget = a.budget ∙ sym like.budget ∙ sym d.budget;
          chain = a.chain ∙ sym like.chain ∙ sym d.chain;
          state = same.1;
        },
      )

  -- Two servings agree.
  serves_once : (old from new last : Host F R g) (before after start end : K) (stream : List ℕ) (n m : ℕ) (was is v u : Option (List ℕ))
      (x : ServesAll device tells site old before stream n was is new after) (y : ServesAll device tells site from start stream m v u last end)
      → AreFilesKnown (device (files_of old)) → AreSameHosts device old from
      → AgreeUpToNoMemory (sent_by device tells site old before stream n was is new after x) (sent_by device tells site from start stream m v u last end y)
  serves_once old from new last before after start end stream n m was is v u x y told like =
      let p = x.connects in
      let q = y.connects in
      let alike = opens_alike old from p.opened q.opened p.number q.number told like p.opens q.opens in
      responses_once site (λ o. Handles device o p.number) (λ o. Handles device o q.number) tells tells (AlikeHosts device p.number)
      (λ h z j w a f o r like one two. handles_once device p.number h z j w a f o r like one (subst (λ (k : ℕ). Handles device j k a f r w) (sym alike.0) two)) p.opened p.served q.opened
      q.served before after start end stream x.text y.text n m alike.1 p.done q.done

  serves_bytes : (old new : Host F R g) (before after : K) (stream : List ℕ) (n : ℕ) (was is : Option (List ℕ)) (x : ServesAll device tells site old before stream n was is new after)
      → x.text ≡ bytes_of (sent_by device tells site old before stream n was is new after x)
  serves_bytes old new before after stream n was is x =
      text_sent site (λ o. Handles device o x.connects.number) tells x.connects.opened before stream x.text n x.connects.served after x.connects.done

  -- So what was written is the only stream, where it is known what was read.
  pub only_served : (old new : Host F R g) (before after : K) (r : Result Served FrontFault) (input was is : Option (List ℕ))
      → IfOk r (λ s. IfSome input (λ stream. ServesAll device tells site old before stream s.requests was is new after))
      → IfOk r (λ s. IfSome input (λ stream. IsOnlyStreamFor device tells site old before stream s.requests was is new after))
  only_served old new before after (Ok s) None was is x = tt
  only_served old new before after (Ok s) (Some stream) was is x =
      λ told. (
        x,
        serves_bytes old new before after stream s.requests was is x,
        λ from last start end m v u other like. (
          serves_bytes from last start end stream m v u other,
          serves_once old from new last before after start end stream s.requests m was is v u x other told like,
        ),
      )
  only_served old new before after (Err e) input was is x = tt
