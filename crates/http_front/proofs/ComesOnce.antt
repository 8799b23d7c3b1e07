-- A request for a file, twice, of one host over files of which all is told.
use Rattle.std.proofs.Common.{◌≡◌, ◌⊎◌, ℕ, true, List, [], ◌∷◌, Option, Some, None, Result, Ok, Err, inl, inr, refl, sym, ap, subst, ◌∙◌}
use Rattle.module_code.specs.Program.{Program}
use Rattle.run_model.specs.declared.event.Event.{Event}
use Rattle.run_model.specs.declared.event.Event.TheVariants as event
use Rattle.run_model.specs.declared.event.Piece.{Piece}
use Rattle.run_model.specs.declared.event.Refusal.{Refusal}
use Rattle.run_model.specs.declared.event.Refusal.TheVariants as refusal
use Rattle.run_model.specs.declared.event.Stepped.{Stepped}
use Rattle.run_model.specs.Worlds.{Answer, Refused}
use Rattle.filter_chain.specs.Hosting.{done_answer, file_answer, output_answer, step_answer}
use Rattle.filter_chain.specs.HostViews.{HostView, Answers}
use Rattle.filter_chain.specs.Running.{StepsToEnd}
use Rattle.run_laws.specs.KnownFiles.{AreFilesKnown, is_no_memory, answers_no_memory, reports_no_memory}
use Rattle.run_laws.proofs.RunOnce.{events_are_deterministic, events_keep_files_known, steps_are_deterministic, steps_keep_files_known}
use Rattle.http_message.specs.declared.failure.Failure.{Failure}
use Rattle.http_message.specs.declared.failure.Failure.TheVariants as failure
use Rattle.http_message.specs.declared.reply.Method.{Method}
use Rattle.http_message.specs.declared.status.StatusCode.{StatusCode}
use Rattle.http_front.specs.OneStream.{RequestsAreDeterministic, RequestsKeepFilesKnown, SameOutcome}
use Rattle.http_front.specs.SameResponses.{RunsOutOfMemory}
use Rattle.http_front.specs.Outcomes.{IsUnserved}
use Rattle.http_front.specs.RequestEvents.{BringsAll, BringsBrigade, EndsBare, EndsRequest, Feeds, FeedsIf, Finishes, IfSucceeded, Inits, InitsIf, IsOutput, OpensAndFeeds, OpensUnless, RunsCall, RunsCallUnless}
use Rattle.http_front.specs.RequestEvents.{brigades_for, ended_of, lack_of, unopened}
use Rattle.http_front.specs.declared.handler.RequestOutcome.{RequestOutcome}
use Rattle.http_front.specs.declared.running.CallEnd.{CallEnd}
use Rattle.http_front.specs.declared.running.CallEnd.TheVariants as ended

-- Outcomes.

outcome_is : (o p : RequestOutcome) → o.status ≡ p.status → o.body ≡ p.body → o.failure ≡ p.failure → o ≡ p
outcome_is o p status body failed =
    ap (λ (s : StatusCode). record o { status = s }) status ∙ ap (λ (b : List ℕ). record o { status = p.status; body = b }) body
    ∙ ap (λ (f : Option Failure). record p { failure = f }) failed

unserved_once : (why : Option Failure) (o p : RequestOutcome) → IsUnserved why o → IsUnserved why p → o ≡ p
unserved_once None o p x y = outcome_is o p (x.0 ∙ sym y.0) (x.1 ∙ sym y.1) (x.2 ∙ sym y.2)
unserved_once (Some f) o p x y = outcome_is o p (x.0 ∙ sym y.0) (x.1 ∙ sym y.1) (x.2 ∙ sym y.2)

output_once : (a : Result (List ℕ) Refusal) (o p : RequestOutcome) → IsOutput a o → IsOutput a p → o ≡ p
output_once (Ok bytes) o p x y = outcome_is o p (x.0 ∙ sym y.0) (x.1 ∙ sym y.1) (x.2 ∙ sym y.2)
output_once (Err r) o p x y = unserved_once (Some (failure.Refused r)) o p x y

-- Answers.

pub done_same : (a b : Option Refusal) → done_answer a ≡ done_answer b → a ≡ b
done_same None None is = refl
done_same None (Some r) is = absurd (cc)
done_same (Some r) None is = absurd (cc)
done_same (Some r) (Some q) is = (let same : r ≡ q = cc in ap Some same)

step_same : (a b : Result Stepped Refusal) → step_answer a ≡ step_answer b → a ≡ b
step_same (Ok s) (Ok t) is = (let same : s ≡ t = cc in ap Ok same)
step_same (Ok s) (Err q) is = absurd (cc)
step_same (Err r) (Ok t) is = absurd (cc)
step_same (Err r) (Err q) is = (let same : r ≡ q = cc in ap Err same)

file_same : (a b : Result (ℕ × ℕ) Refusal) → file_answer a ≡ file_answer b → a ≡ b
file_same (Ok x) (Ok y) is = by x y (cc) (cc) where
  by : (x y : ℕ × ℕ) → x.0 ≡ y.0 → x.1 ≡ y.1 → ◌≡◌ {A = Result (ℕ × ℕ) Refusal} (Ok x) (Ok y)
  by x y p q = ap (λ (n : ℕ). (let o : Result (ℕ × ℕ) Refusal = Ok (n, x.1) in o)) p ∙ ap (λ (n : ℕ). (let o : Result (ℕ × ℕ) Refusal = Ok (y.0, n) in o)) q
file_same (Ok x) (Err q) is = absurd (cc)
file_same (Err r) (Ok y) is = absurd (cc)
file_same (Err r) (Err q) is = (let same : r ≡ q = cc in ap Err same)

output_same : (a b : Result (List ℕ) Refusal) → output_answer a ≡ output_answer b → a ≡ b
output_same (Ok s) (Ok t) is = (let same : s ≡ t = cc in ap Ok same)
output_same (Ok s) (Err q) is = absurd (cc)
output_same (Err r) (Ok t) is = absurd (cc)
output_same (Err r) (Err q) is = (let same : r ≡ q = cc in ap Err same)

-- a refusal for lack of memory
lacking : (r : Refusal) → answers_no_memory (Refused r) ≡ true → r ≡ refusal.NoMemory
lacking refusal.NoMemory is = refl
lacking r is = absurd (cc)

never_lacks : (r : Refusal) → answers_no_memory (Refused r) ≡ true → lack_of r ≡ None → ⊥
never_lacks refusal.NoMemory is none = cc
never_lacks r is none = cc

-- How a call ends that tells the lack.
abbrev LackEnd : CallEnd → Type 0
LackEnd how = (r : Refusal) × (is_no_memory r ≡ true) × (how ≡ ended.Broke (failure.Refused r))

abbrev SameEnd : CallEnd → HostView → CallEnd → HostView → Type 0
SameEnd how t end u = ((how ≡ end) × (t ≡ u)) ⊎ (LackEnd how ⊎ LackEnd end)

broke_same : (why f : Failure) → ended.Broke why ≡ ended.Broke f → why ≡ f
broke_same why f is = cc

unserved_lack : (why : Failure) (r : Refusal) (o : RequestOutcome) → is_no_memory r ≡ true → why ≡ failure.Refused r → IsUnserved (Some why) o → RunsOutOfMemory o
unserved_lack why r o lacks is x = record { why = r; memory = lacks; fails = x.2 ∙ ap Some is; status = x.0 }

step_lack : (a : Result Stepped Refusal) (how : CallEnd) → how ≡ ended_of a → reports_no_memory (step_answer a) ≡ true → LackEnd how
step_lack (Ok s) how is lacks = absurd (cc)
step_lack (Err r) how is lacks = (r, lacks, is)

if_lack : (first how : CallEnd) (t m : HostView) (P : Type 0) → LackEnd first → IfSucceeded first P ((how ≡ first) × (t ≡ m)) → LackEnd how
if_lack ended.Succeeded how t m P lack x = (let never = lack.2 in absurd (cc))
if_lack (ended.Failed why) how t m P lack x = (let never = lack.2 in absurd (cc))
if_lack (ended.Broke why) how t m P lack x = (lack.0, lack.1, x.0 ∙ lack.2)

module _ (b : ℕ) (c : List Program) (n : ℕ) where
  abbrev RequestDoes : Event → HostView → Answer → HostView → Type 0
  RequestDoes = Answers b c n

  abbrev RequestCalls : HostView → Result Stepped Refusal → HostView → Type 0
  RequestCalls = StepsToEnd b c n

  end_lack : (a : Option Refusal) → ((r : Refusal) → a ≡ Some r → lack_of r ≡ None) → answers_no_memory (done_answer a) ≡ true → ⊥
  end_lack None none is = cc
  end_lack (Some r) none is = never_lacks r is (none r refl)

  end_once : (s t u : HostView) → AreFilesKnown s.device → EndsRequest RequestDoes RequestCalls s t → EndsRequest RequestDoes RequestCalls s u → t ≡ u
  end_once s t u told x y =
      elim (events_are_deterministic b c n event.End s t u (done_answer x.answer) (done_answer y.answer) told x.acts y.acts) [
        | inl same ↦ same.1
        | inr (inl lacks) ↦ absurd (end_lack x.answer x.lacks lacks)
        | inr (inr lacks) ↦ absurd (end_lack y.answer y.lacks lacks)
      ]

  run_once : (s t u : HostView) (how end : CallEnd) → AreFilesKnown s.device → RunsCall RequestDoes RequestCalls s how t → RunsCall RequestDoes RequestCalls s end u → SameEnd how t end u
  run_once s t u how end told x y =
      elim ((steps_are_deterministic b c n s t u x.answer y.answer told).1 x.runs y.runs) [
        | inl same ↦ inl (x.told ∙ ap ended_of (step_same x.answer y.answer same.0) ∙ sym y.told, same.1)
        | inr (inl lacks) ↦ inr (inl (step_lack x.answer how x.told lacks))
        | inr (inr lacks) ↦ inr (inr (step_lack y.answer end y.told lacks))
      ]

  run_told : (s t : HostView) (how : CallEnd) → AreFilesKnown s.device → RunsCall RequestDoes RequestCalls s how t → AreFilesKnown t.device
  run_told s t how told x = (steps_keep_files_known b c n s t x.answer told).1 x.runs

  unless_once : (a : Option Refusal) (s t u : HostView) (how end : CallEnd) → AreFilesKnown s.device → RunsCallUnless RequestDoes RequestCalls a s how t
      → RunsCallUnless RequestDoes RequestCalls a s end u → SameEnd how t end u
  unless_once None s t u how end told x y = run_once s t u how end told x y
  unless_once (Some r) s t u how end told x y = inl (x.1 ∙ sym y.1, x.2 ∙ sym y.2)

  unless_told : (a : Option Refusal) (s t : HostView) (how : CallEnd) → AreFilesKnown s.device → RunsCallUnless RequestDoes RequestCalls a s how t → AreFilesKnown t.device
  unless_told None s t how told x = run_told s t how told x
  unless_told (Some r) s t how told x = subst (λ (v : HostView). AreFilesKnown v.device) (sym x.2) told

  unless_lack : (a : Option Refusal) (s t : HostView) (how : CallEnd) → answers_no_memory (done_answer a) ≡ true → RunsCallUnless RequestDoes RequestCalls a s how t → ⊥
  unless_lack None s t how is x = cc
  unless_lack (Some r) s t how is x = never_lacks r is x.0

  brigade_once : (pieces : List Piece) (s t u : HostView) (how end : CallEnd) → AreFilesKnown s.device → BringsBrigade RequestDoes RequestCalls pieces s how t
      → BringsBrigade RequestDoes RequestCalls pieces s end u
      → SameEnd how t end u
  brigade_once pieces s t u how end told x y =
      elim (events_are_deterministic b c n (event.Bring pieces) s x.mid y.mid (done_answer x.answer) (done_answer y.answer) told x.acts y.acts) [
        | inl same ↦
            unless_once x.answer x.mid t u how end (events_keep_files_known b c n (event.Bring pieces) s x.mid (done_answer x.answer) told x.acts) x.runs
            (subst (λ (v : HostView). RunsCallUnless RequestDoes RequestCalls x.answer v end u) (sym same.1)
            (subst (λ (o : Option Refusal). RunsCallUnless RequestDoes RequestCalls o y.mid end u) (sym (done_same x.answer y.answer same.0)) y.runs))
        | inr (inl lacks) ↦ absurd (unless_lack x.answer x.mid t how lacks x.runs)
        | inr (inr lacks) ↦ absurd (unless_lack y.answer y.mid u end lacks y.runs)
      ]

  brigade_told : (pieces : List Piece) (s t : HostView) (how : CallEnd) → AreFilesKnown s.device → BringsBrigade RequestDoes RequestCalls pieces s how t → AreFilesKnown t.device
  brigade_told pieces s t how told x = unless_told x.answer x.mid t how (events_keep_files_known b c n (event.Bring pieces) s x.mid (done_answer x.answer) told x.acts) x.runs

  -- what goes on only where a call succeeded
  if_once : (first how end : CallEnd) (t u m : HostView) (P Q : Type 0) → (P → Q → SameEnd how t end u) → IfSucceeded first P ((how ≡ first) × (t ≡ m))
      → IfSucceeded first Q ((end ≡ first) × (u ≡ m))
      → SameEnd how t end u
  if_once ended.Succeeded how end t u m P Q go x y = go x y
  if_once (ended.Failed why) how end t u m P Q go x y = inl (x.0 ∙ sym y.0, x.1 ∙ sym y.1)
  if_once (ended.Broke why) how end t u m P Q go x y = inl (x.0 ∙ sym y.0, x.1 ∙ sym y.1)

  if_told : (first how : CallEnd) (t m : HostView) (P : Type 0) → AreFilesKnown m.device → (P → AreFilesKnown t.device) → IfSucceeded first P ((how ≡ first) × (t ≡ m)) → AreFilesKnown t.device
  if_told ended.Succeeded how t m P told go x = go x
  if_told (ended.Failed why) how t m P told go x = subst (λ (v : HostView). AreFilesKnown v.device) (sym x.1) told
  if_told (ended.Broke why) how t m P told go x = subst (λ (v : HostView). AreFilesKnown v.device) (sym x.1) told

  all_once : (bs : List (List Piece)) (s t u : HostView) (how end : CallEnd) → AreFilesKnown s.device → BringsAll RequestDoes RequestCalls bs s how t
      → BringsAll RequestDoes RequestCalls bs s end u → SameEnd how t end u
  unfolding BringsAll
  all_once [] s t u how end told x y = inl (x.0 ∙ sym y.0, x.1 ∙ sym y.1)
  all_once (p ∷ ps) s t u how end told (first, m, x, xs) (second, k, y, ys) =
      elim (brigade_once p s m k first second told x y) [
        | inl same ↦
            if_once first how end t u m _ _ (λ left right. all_once ps m t u how end (brigade_told p s m first told x) left right) xs
            (subst (λ (v : HostView). IfSucceeded first (BringsAll RequestDoes RequestCalls ps v end u) ((end ≡ first) × (u ≡ v))) (sym same.1)
            (subst (λ (e : CallEnd). IfSucceeded e (BringsAll RequestDoes RequestCalls ps k end u) ((end ≡ e) × (u ≡ k))) (sym same.0) ys))
        | inr (inl lack) ↦ inr (inl (if_lack first how t m _ lack xs))
        | inr (inr lack) ↦ inr (inr (if_lack second end u k _ lack ys))
      ]

  all_told : (bs : List (List Piece)) (s t : HostView) (how : CallEnd) → AreFilesKnown s.device → BringsAll RequestDoes RequestCalls bs s how t → AreFilesKnown t.device
  unfolding BringsAll
  all_told [] s t how told x = subst (λ (v : HostView). AreFilesKnown v.device) (sym x.1) told
  all_told (p ∷ ps) s t how told (first, m, x, xs) =
      let still = brigade_told p s m first told x in
      if_told first how t m _ still (λ left. all_told ps m t how still left) xs

  -- The request finishes.

  output_lack : (a : Result (List ℕ) Refusal) (o : RequestOutcome) → answers_no_memory (output_answer a) ≡ true → IsOutput a o → RunsOutOfMemory o
  output_lack (Ok bytes) o is x = absurd (cc)
  output_lack (Err r) o is x = (let same = lacking r is in unserved_lack (failure.Refused r) r o (ap is_no_memory same) refl x)

  bare_once : (why : Option Failure) (s t u : HostView) (o p : RequestOutcome) → AreFilesKnown s.device → EndsBare RequestDoes RequestCalls why s o t
      → EndsBare RequestDoes RequestCalls why s p u → SameOutcome o t p u
  bare_once why s t u o p told x y = inl (unserved_once why o p x.0 y.0, end_once s t u told x.1 y.1)

  end_told : (s t : HostView) → AreFilesKnown s.device → EndsRequest RequestDoes RequestCalls s t → AreFilesKnown t.device
  end_told s t told x = events_keep_files_known b c n event.End s t (done_answer x.answer) told x.acts

  finish_once : (how : CallEnd) (s t u : HostView) (o p : RequestOutcome) → AreFilesKnown s.device → Finishes RequestDoes RequestCalls how s o t
      → Finishes RequestDoes RequestCalls how s p u → SameOutcome o t p u
  finish_once ended.Succeeded s t u o p told (m, x, xs) (k, y, ys) =
      elim (events_are_deterministic b c n event.TakeOutput s m k (output_answer x.answer) (output_answer y.answer) told x.acts y.acts) [
        | inl same ↦
            inl (
              output_once x.answer o p x.gives (subst (λ (a : Result (List ℕ) Refusal). IsOutput a p) (sym (output_same x.answer y.answer same.0)) y.gives),
              end_once m t u (events_keep_files_known b c n event.TakeOutput s m (output_answer x.answer) told x.acts) xs (subst (λ (v : HostView). EndsRequest RequestDoes RequestCalls v u)
                  (sym same.1) ys),
            )
        | inr (inl lacks) ↦ inr (inl (output_lack x.answer o lacks x.gives))
        | inr (inr lacks) ↦ inr (inr (output_lack y.answer p lacks y.gives))
      ]
  finish_once (ended.Failed why) s t u o p told x y = bare_once (Some why) s t u o p told x y
  finish_once (ended.Broke why) s t u o p told x y = inl (unserved_once (Some why) o p x.0 y.0, x.1 ∙ sym y.1)

  finish_told : (how : CallEnd) (s t : HostView) (o : RequestOutcome) → AreFilesKnown s.device → Finishes RequestDoes RequestCalls how s o t → AreFilesKnown t.device
  finish_told ended.Succeeded s t o told (m, x, xs) = end_told m t (events_keep_files_known b c n event.TakeOutput s m (output_answer x.answer) told x.acts) xs
  finish_told (ended.Failed why) s t o told x = end_told s t told x.1
  finish_told (ended.Broke why) s t o told x = subst (λ (v : HostView). AreFilesKnown v.device) (sym x.1) told

  finish_lack : (how : CallEnd) (s t : HostView) (o : RequestOutcome) → LackEnd how → Finishes RequestDoes RequestCalls how s o t → RunsOutOfMemory o
  finish_lack ended.Succeeded s t o lack x = (let never = lack.2 in absurd (cc))
  finish_lack (ended.Failed why) s t o lack x = (let never = lack.2 in absurd (cc))
  finish_lack (ended.Broke why) s t o lack x = (let same : why ≡ failure.Refused lack.0 = broke_same why (failure.Refused lack.0) lack.2 in unserved_lack why lack.0 o lack.1 same x.0)

  -- one call ended, and so did the other, and the request finishes
  both_finish : (t m k u : HostView) (how end : CallEnd) (o p : RequestOutcome) → AreFilesKnown m.device → SameEnd how m end k → Finishes RequestDoes RequestCalls how m o t
      → Finishes RequestDoes RequestCalls end k p u
      → SameOutcome o t p u
  both_finish t m k u how end o p told (inl same) x y =
      finish_once how m t u o p told x (subst (λ (w : HostView). Finishes RequestDoes RequestCalls how w p u) (sym same.1)
      (subst (λ (e : CallEnd). Finishes RequestDoes RequestCalls e k p u) (sym same.0) y))
  both_finish t m k u how end o p told (inr (inl lack)) x y = inr (inl (finish_lack how m t o lack x))
  both_finish t m k u how end o p told (inr (inr lack)) x y = inr (inr (finish_lack end k u p lack y))

  feeds_once : (init : CallEnd) (method : Method) (file : ℕ × ℕ) (s t u : HostView) (o p : RequestOutcome) → AreFilesKnown s.device → Feeds RequestDoes RequestCalls init method file s o t
      → Feeds RequestDoes RequestCalls init method file s p u
      → SameOutcome o t p u
  feeds_once init method file s t u o p told x y =
      both_finish t x.mid y.mid u x.how y.how o p
      (if_told init x.how x.mid s _ told (λ left. all_told (brigades_for method file) s x.mid x.how told left) x.brings)
      (if_once init x.how y.how x.mid y.mid s _ _ (λ left right. all_once (brigades_for method file) s x.mid y.mid x.how y.how told left right) x.brings y.brings) x.finishes y.finishes

  feeds_told : (init : CallEnd) (method : Method) (file : ℕ × ℕ) (s t : HostView) (o : RequestOutcome) → AreFilesKnown s.device → Feeds RequestDoes RequestCalls init method file s o t
      → AreFilesKnown t.device
  feeds_told init method file s t o told x =
      finish_told x.how x.mid t o (if_told init x.how x.mid s _ told (λ left. all_told (brigades_for method file) s x.mid x.how told left) x.brings) x.finishes

  feeds_if_once : (a : Result (ℕ × ℕ) Refusal) (init : CallEnd) (method : Method) (s t u : HostView) (o p : RequestOutcome) → AreFilesKnown s.device
      → FeedsIf RequestDoes RequestCalls a init method s o t
      → FeedsIf RequestDoes RequestCalls a init method s p u
      → SameOutcome o t p u
  feeds_if_once (Ok file) init method s t u o p told x y = feeds_once init method file s t u o p told x y
  feeds_if_once (Err r) init method s t u o p told x y = bare_once (unopened r) s t u o p told x.1 y.1

  feeds_if_told : (a : Result (ℕ × ℕ) Refusal) (init : CallEnd) (method : Method) (s t : HostView) (o : RequestOutcome) → AreFilesKnown s.device
      → FeedsIf RequestDoes RequestCalls a init method s o t
      → AreFilesKnown t.device
  feeds_if_told (Ok file) init method s t o told x = feeds_told init method file s t o told x
  feeds_if_told (Err r) init method s t o told x = end_told s t told x.1.1

  file_lack : (a : Result (ℕ × ℕ) Refusal) (init : CallEnd) (method : Method) (s t : HostView) (o : RequestOutcome) → answers_no_memory (file_answer a) ≡ true
      → FeedsIf RequestDoes RequestCalls a init method s o t → ⊥
  file_lack (Ok file) init method s t o is x = cc
  file_lack (Err r) init method s t o is x = never_lacks r is x.0

  opens_once : (init : CallEnd) (method : Method) (name : List ℕ) (s t u : HostView) (o p : RequestOutcome) → AreFilesKnown s.device
      → OpensAndFeeds RequestDoes RequestCalls init method name s o t
      → OpensAndFeeds RequestDoes RequestCalls init method name s p u
      → SameOutcome o t p u
  opens_once init method name s t u o p told x y =
      elim (events_are_deterministic b c n (event.OpenFile name) s x.mid y.mid (file_answer x.answer) (file_answer y.answer) told x.acts y.acts) [
        | inl same ↦
            feeds_if_once x.answer init method x.mid t u o p (events_keep_files_known b c n (event.OpenFile name) s x.mid (file_answer x.answer) told x.acts) x.feeds
            (subst (λ (v : HostView). FeedsIf RequestDoes RequestCalls x.answer init method v p u) (sym same.1)
            (subst (λ (a : Result (ℕ × ℕ) Refusal). FeedsIf RequestDoes RequestCalls a init method y.mid p u) (sym (file_same x.answer y.answer same.0)) y.feeds))
        | inr (inl lacks) ↦ absurd (file_lack x.answer init method x.mid t o lacks x.feeds)
        | inr (inr lacks) ↦ absurd (file_lack y.answer init method y.mid u p lacks y.feeds)
      ]

  opens_told : (init : CallEnd) (method : Method) (name : List ℕ) (s t : HostView) (o : RequestOutcome) → AreFilesKnown s.device
      → OpensAndFeeds RequestDoes RequestCalls init method name s o t → AreFilesKnown t.device
  opens_told init method name s t o told x =
      feeds_if_told x.answer init method x.mid t o (events_keep_files_known b c n (event.OpenFile name) s x.mid (file_answer x.answer) told x.acts) x.feeds

  open_once : (init : CallEnd) (method : Method) (name : List ℕ) (s t u : HostView) (o p : RequestOutcome) → AreFilesKnown s.device
      → OpensUnless RequestDoes RequestCalls init method name s o t
      → OpensUnless RequestDoes RequestCalls init method name s p u
      → SameOutcome o t p u
  open_once ended.Succeeded method name s t u o p told x y = opens_once ended.Succeeded method name s t u o p told x y
  open_once (ended.Failed why) method name s t u o p told x y = opens_once (ended.Failed why) method name s t u o p told x y
  open_once (ended.Broke why) method name s t u o p told x y = inl (unserved_once (Some why) o p x.0 y.0, x.1 ∙ sym y.1)

  open_told : (init : CallEnd) (method : Method) (name : List ℕ) (s t : HostView) (o : RequestOutcome) → AreFilesKnown s.device
      → OpensUnless RequestDoes RequestCalls init method name s o t → AreFilesKnown t.device
  open_told ended.Succeeded method name s t o told x = opens_told ended.Succeeded method name s t o told x
  open_told (ended.Failed why) method name s t o told x = opens_told (ended.Failed why) method name s t o told x
  open_told (ended.Broke why) method name s t o told x = subst (λ (v : HostView). AreFilesKnown v.device) (sym x.1) told

  open_lack : (init : CallEnd) (method : Method) (name : List ℕ) (s t : HostView) (o : RequestOutcome) → LackEnd init → OpensUnless RequestDoes RequestCalls init method name s o t
      → RunsOutOfMemory o
  open_lack ended.Succeeded method name s t o lack x = (let never = lack.2 in absurd (cc))
  open_lack (ended.Failed why) method name s t o lack x = (let never = lack.2 in absurd (cc))
  open_lack (ended.Broke why) method name s t o lack x = unserved_lack why lack.0 o lack.1 (broke_same why (failure.Refused lack.0) lack.2) x.0

  inits_once : (method : Method) (name : List ℕ) (s t u : HostView) (o p : RequestOutcome) → AreFilesKnown s.device → Inits RequestDoes RequestCalls method name s o t
      → Inits RequestDoes RequestCalls method name s p u
      → SameOutcome o t p u
  inits_once method name s t u o p told x y =
      elim (run_once s x.mid y.mid x.init y.init told x.runs y.runs) [
        | inl same ↦
            open_once x.init method name x.mid t u o p (run_told s x.mid x.init told x.runs) x.opens
            (subst (λ (v : HostView). OpensUnless RequestDoes RequestCalls x.init method name v p u) (sym same.1)
            (subst (λ (e : CallEnd). OpensUnless RequestDoes RequestCalls e method name y.mid p u) (sym same.0) y.opens))
        | inr (inl lack) ↦ inr (inl (open_lack x.init method name x.mid t o lack x.opens))
        | inr (inr lack) ↦ inr (inr (open_lack y.init method name y.mid u p lack y.opens))
      ]

  begun_once : (a : Option Refusal) (method : Method) (name : List ℕ) (s t u : HostView) (o p : RequestOutcome) → AreFilesKnown s.device → InitsIf RequestDoes RequestCalls a method name s o t
      → InitsIf RequestDoes RequestCalls a method name s p u
      → SameOutcome o t p u
  begun_once None method name s t u o p told x y = inits_once method name s t u o p told x y
  begun_once (Some r) method name s t u o p told x y = inl (unserved_once (Some (failure.Refused r)) o p x.1 y.1, x.2 ∙ sym y.2)

  begun_told : (a : Option Refusal) (method : Method) (name : List ℕ) (s t : HostView) (o : RequestOutcome) → AreFilesKnown s.device → InitsIf RequestDoes RequestCalls a method name s o t
      → AreFilesKnown t.device
  begun_told None method name s t o told x = open_told x.init method name x.mid t o (run_told s x.mid x.init told x.runs) x.opens
  begun_told (Some r) method name s t o told x = subst (λ (v : HostView). AreFilesKnown v.device) (sym x.2) told

  begin_lack : (a : Option Refusal) (method : Method) (name : List ℕ) (s t : HostView) (o : RequestOutcome) → answers_no_memory (done_answer a) ≡ true
      → InitsIf RequestDoes RequestCalls a method name s o t → ⊥
  begin_lack None method name s t o is x = cc
  begin_lack (Some r) method name s t o is x = never_lacks r is x.0

pub requests_are_deterministic : RequestsAreDeterministic
requests_are_deterministic b c n method name s t u o p told x y =
    elim (events_are_deterministic b c n event.Begin s x.mid y.mid (done_answer x.answer) (done_answer y.answer) told x.acts y.acts) [
      | inl same ↦
          begun_once b c n x.answer method name x.mid t u o p (events_keep_files_known b c n event.Begin s x.mid (done_answer x.answer) told x.acts) x.inits
          (subst (λ (v : HostView). InitsIf (Answers b c n) (StepsToEnd b c n) x.answer method name v p u) (sym same.1)
          (subst (λ (a : Option Refusal). InitsIf (Answers b c n) (StepsToEnd b c n) a method name y.mid p u) (sym (done_same x.answer y.answer same.0)) y.inits))
      | inr (inl lacks) ↦ absurd (begin_lack b c n x.answer method name x.mid t o lacks x.inits)
      | inr (inr lacks) ↦ absurd (begin_lack b c n y.answer method name y.mid u p lacks y.inits)
    ]

pub requests_keep_files_known : RequestsKeepFilesKnown
requests_keep_files_known b c n method name s t o told x =
    begun_told b c n x.answer method name x.mid t o (events_keep_files_known b c n event.Begin s x.mid (done_answer x.answer) told x.acts) x.inits
