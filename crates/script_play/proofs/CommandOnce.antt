-- A command, twice, on one host over files of which all is told.
use Rattle.std.proofs.Common.{◌≡◌, ◌⊎◌, ℕ, ◌-◌, true, List, [], ◌∷◌, ◌++◌, Result, Ok, Err, inl, inr, refl, sym, ap, subst, ◌∙◌}
use Rattle.module_code.specs.Program.{Program}
use Rattle.run_model.specs.declared.event.Event.{Event}
use Rattle.run_model.specs.declared.event.Event.TheVariants as event
use Rattle.run_model.specs.declared.event.Piece.{Piece}
use Rattle.run_model.specs.declared.event.Piece.TheVariants as piece
use Rattle.run_model.specs.declared.event.Refusal.{Refusal}
use Rattle.run_model.specs.declared.event.Refusal.TheVariants as refusal
use Rattle.run_model.specs.declared.event.Stepped.{Stepped}
use Rattle.run_model.specs.Worlds.{Answer, Done, Refused, Step, Opened}
use Rattle.filter_chain.specs.Hosting.{file_answer, step_answer}
use Rattle.filter_chain.specs.HostViews.{HostView}
use Rattle.run_laws.specs.KnownFiles.{AreFilesKnown, is_no_memory, is_out_of_memory, answers_no_memory, reports_no_memory}
use Rattle.run_laws.proofs.RunOnce.{events_are_deterministic, events_keep_files_known, steps_are_deterministic, steps_keep_files_known}
use Rattle.script_text.specs.declared.command.Command.{Command}
use Rattle.script_text.specs.declared.command.Command.TheVariants as command
use Rattle.script_text.specs.declared.pieces.ScriptPiece.{ScriptPiece}
use Rattle.script_text.specs.declared.pieces.ScriptPiece.TheVariants as script_piece
use Rattle.script_text.specs.declared.reply.CommandReply.{CommandReply}
use Rattle.script_text.specs.declared.reply.CommandReply.TheVariants as reply
use Rattle.script_play.specs.Plays.{AnswersCommand, BringsPieces, IfOpened, MakesSteps, RepliesTo, RunsTo, file_bytes, reply_of, steps_reply}

-- A reply that tells that memory was refused.
pub record RefusesMemory (r : CommandReply) : Type 0 where
  pub why : Refusal
  pub lacks : is_no_memory why ≡ true
  pub is : r ≡ reply.Refused why

-- Two replies, and what each left: they are the same, or one of them tells that memory was refused.
abbrev pub SameReply : CommandReply → HostView → CommandReply → HostView → Type 0
SameReply r t q u = ((r ≡ q) × (t ≡ u)) ⊎ (RefusesMemory r ⊎ RefusesMemory q)

lack_of : (a : Answer) (r : CommandReply) → r ≡ reply_of a → reports_no_memory a ≡ true → RefusesMemory r
lack_of (Refused why) r is lacks = record { why = why; lacks = lacks; is = is }
lack_of Done r is lacks = absurd (cc)
lack_of (Opened file len) r is lacks = absurd (cc)
lack_of (Step s) r is lacks = absurd (cc)
lack_of a r is lacks = absurd (cc)

refused_tells : (a : Answer) → answers_no_memory a ≡ true → reports_no_memory a ≡ true
refused_tells (Refused refusal.NoMemory) lacks = refl
refused_tells (Refused r) lacks = absurd (cc)
refused_tells a lacks = absurd (cc)

-- an event of its own answers so
tells_at : (what : Event) (a : Answer) → is_out_of_memory what a ≡ true → reports_no_memory a ≡ true
tells_at event.Step a lacks = lacks
tells_at what a lacks = refused_tells a lacks

steps_lack : (n : ℕ) (a : Result Stepped Refusal) (r : CommandReply) → r ≡ steps_reply n a → reports_no_memory (step_answer a) ≡ true → RefusesMemory r
steps_lack n (Ok s) r is lacks = absurd (cc)
steps_lack n (Err why) r is lacks = record { why = why; lacks = lacks; is = is }

step_same : (a b : Result Stepped Refusal) → step_answer a ≡ step_answer b → a ≡ b
step_same (Ok s) (Ok t) is = (let same : s ≡ t = cc in ap Ok same)
step_same (Ok s) (Err q) is = absurd (cc)
step_same (Err r) (Ok t) is = absurd (cc)
step_same (Err r) (Err q) is = (let same : r ≡ q = cc in ap Err same)

file_same : (a b : Result (ℕ × ℕ) Refusal) → file_answer a ≡ file_answer b → a ≡ b
file_same (Ok x) (Ok y) is = by x y (cc) (cc) where
  by : (x y : ℕ × ℕ) → x.0 ≡ y.0 → x.1 ≡ y.1 → ◌≡◌ {A = Result (ℕ × ℕ) Refusal} (Ok x) (Ok y)
  by x y p q = ap (λ (n : ℕ). (let o : Result (ℕ × ℕ) Refusal = Ok (n, x.1) in o)) p ∙ ap (λ (n : ℕ). (let o : Result (ℕ × ℕ) Refusal = Ok (y.0, n) in o)) q
file_same (Ok x) (Err q) is = absurd (cc)
file_same (Err r) (Ok y) is = absurd (cc)
file_same (Err r) (Err q) is = (let same : r ≡ q = cc in ap Err same)

module _ (budget : ℕ) (chain : List Program) where
  event_once : (number : ℕ) (what : Event) (s t u : HostView) (r q : CommandReply) → AreFilesKnown s.device → RepliesTo budget chain number what s r t
      → RepliesTo budget chain number what s q u
      → SameReply r t q u
  event_once number what s t u r q told x y =
      elim (events_are_deterministic budget chain number what s t u x.answer y.answer told x.acts y.acts) [
        | inl same ↦ inl (x.told ∙ ap reply_of same.0 ∙ sym y.told, same.1)
        | inr (inl lacks) ↦ inr (inl (lack_of x.answer r x.told (tells_at what x.answer lacks)))
        | inr (inr lacks) ↦ inr (inr (lack_of y.answer q y.told (tells_at what y.answer lacks)))
      ]

  makes_once : (number n : ℕ) (s t u : HostView) (r q : CommandReply) → AreFilesKnown s.device → MakesSteps budget chain number n s r t → MakesSteps budget chain number n s q u
      → SameReply r t q u
  makes_once number n s t u r q told x y =
      elim ((steps_are_deterministic budget chain number s t u x.answer y.answer told).0 (n - 1) x.steps y.steps) [
        | inl same ↦ inl (x.told ∙ ap (steps_reply n) (step_same x.answer y.answer same.0) ∙ sym y.told, same.1)
        | inr (inl lacks) ↦ inr (inl (steps_lack n x.answer r x.told lacks))
        | inr (inr lacks) ↦ inr (inr (steps_lack n y.answer q y.told lacks))
      ]

  runs_once : (number : ℕ) (s t u : HostView) (r q : CommandReply) → AreFilesKnown s.device → RunsTo budget chain number s r t → RunsTo budget chain number s q u → SameReply r t q u
  runs_once number s t u r q told x y =
      elim ((steps_are_deterministic budget chain number s t u x.answer y.answer told).1 x.runs y.runs) [
        | inl same ↦ inl (x.told ∙ ap reply_of same.0 ∙ sym y.told, same.1)
        | inr (inl lacks) ↦ inr (inl (lack_of (step_answer x.answer) r x.told lacks))
        | inr (inr lacks) ↦ inr (inr (lack_of (step_answer y.answer) q y.told lacks))
      ]

  -- what follows an opening that was refused
  refused_file : (a : Result (ℕ × ℕ) Refusal) (r : CommandReply) (t m : HostView) (P : ℕ → Type 0) → reports_no_memory (file_answer a) ≡ true
      → IfOpened a (λ why. (r ≡ reply.Refused why) × (t ≡ m)) P → RefusesMemory r
  refused_file (Ok x) r t m P lacks is = absurd (cc)
  refused_file (Err why) r t m P lacks is = record { why = why; lacks = lacks; is = is.0 }

  same_file : (a : Result (ℕ × ℕ) Refusal) (r q : CommandReply) (t u m : HostView) (P Q : ℕ → Type 0) → ((file : ℕ) → P file → Q file → SameReply r t q u)
      → IfOpened a (λ why. (r ≡ reply.Refused why) × (t ≡ m)) P → IfOpened a (λ why. (q ≡ reply.Refused why) × (u ≡ m)) Q → SameReply r t q u
  same_file (Ok x) r q t u m P Q go x' y' = go x.0 x' y'
  same_file (Err why) r q t u m P Q go x y = inl (x.0 ∙ sym y.0, x.1 ∙ sym y.1)

  brings_once : (number : ℕ) (pieces : List ScriptPiece) (ready : List Piece) (s t u : HostView) (r q : CommandReply) → AreFilesKnown s.device
      → BringsPieces budget chain number ready pieces s r t
      → BringsPieces budget chain number ready pieces s q u
      → SameReply r t q u
  unfolding BringsPieces
  brings_once number [] ready s t u r q told x y = event_once number (event.Bring ready) s t u r q told x y
  brings_once number (script_piece.Ready p ∷ ps) ready s t u r q told x y = brings_once number ps (ready ++ p ∷ []) s t u r q told x y
  brings_once number (script_piece.Range name start len ∷ ps) ready s t u r q told (a, m, acts, x) (b, n, others, y) =
      elim (events_are_deterministic budget chain number (event.OpenFile name) s m n (file_answer a) (file_answer b) told acts others) [
        | inl same ↦
            same_file a r q t u m _ _
            (λ file more rest. brings_once number ps (ready ++ piece.File file start len ∷ []) m t u r q
            (events_keep_files_known budget chain number (event.OpenFile name) s m (file_answer a) told acts) more rest) x
            (subst (λ (v : HostView). IfOpened a (λ why. (q ≡ reply.Refused why) × (u ≡ v)) (λ file. BringsPieces budget chain number (ready ++ piece.File file start len ∷ []) ps v q u)) (sym same.1)
            (subst (λ (c : Result (ℕ × ℕ) Refusal). IfOpened c (λ why. (q ≡ reply.Refused why) × (u ≡ n)) (λ file. BringsPieces budget chain number (ready ++ piece.File file start len ∷ []) ps n q u))
            (sym (file_same a b same.0)) y))
        | inr (inl lacks) ↦ inr (inl (refused_file a r t m _ (refused_tells (file_answer a) lacks) x))
        | inr (inr lacks) ↦ inr (inr (refused_file b q u n _ (refused_tells (file_answer b) lacks) y))
      ]

  -- A command is answered once, unless memory is refused.
  pub command_once : (c : Command) (s t u : HostView) (r q : CommandReply) → AreFilesKnown s.device → AnswersCommand budget chain c s r t → AnswersCommand budget chain c s q u
      → SameReply r t q u
  unfolding AnswersCommand
  command_once command.Open s t u r q told x y = event_once 0 event.Open s t u r q told x y
  command_once (command.File f) s t u r q told x y =
      elim (events_are_deterministic budget chain 0 (event.AddFile f.name (file_bytes f)) s t u Done Done told x.1 y.1) [
        | inl same ↦ inl (x.0 ∙ sym y.0, same.1)
        | inr (inl lacks) ↦ absurd (cc)
        | inr (inr lacks) ↦ absurd (cc)
      ]
  command_once (command.Begin k) s t u r q told x y = event_once k event.Begin s t u r q told x y
  command_once (command.End k) s t u r q told x y = event_once k event.End s t u r q told x y
  command_once (command.Bring k pieces) s t u r q told x y = brings_once k pieces [] s t u r q told x y
  command_once (command.Step k n) s t u r q told x y = makes_once k n s t u r q told x y
  command_once (command.Run k) s t u r q told x y = runs_once k s t u r q told x y
  command_once (command.Output k) s t u r q told x y = event_once k event.TakeOutput s t u r q told x y
  command_once (command.Labels k) s t u r q told x y = event_once k event.TellLabels s t u r q told x y
  command_once (command.Close k) s t u r q told x y = event_once k event.Close s t u r q told x y
  command_once command.Pools s t u r q told x y = event_once 0 event.TellPools s t u r q told x y

  -- All is told of the files afterwards.

  opened_told : (a : Result (ℕ × ℕ) Refusal) (r : CommandReply) (t m : HostView) (P : ℕ → Type 0) → AreFilesKnown m.device → ((file : ℕ) → P file → AreFilesKnown t.device)
      → IfOpened a (λ why. (r ≡ reply.Refused why) × (t ≡ m)) P → AreFilesKnown t.device
  opened_told (Ok x) r t m P told go is = go x.0 is
  opened_told (Err why) r t m P told go is = subst (λ (v : HostView). AreFilesKnown v.device) (sym is.1) told

  brings_told : (number : ℕ) (pieces : List ScriptPiece) (ready : List Piece) (s t : HostView) (r : CommandReply) → AreFilesKnown s.device → BringsPieces budget chain number ready pieces s r t
      → AreFilesKnown t.device
  unfolding BringsPieces
  brings_told number [] ready s t r told x = events_keep_files_known budget chain number (event.Bring ready) s t x.answer told x.acts
  brings_told number (script_piece.Ready p ∷ ps) ready s t r told x = brings_told number ps (ready ++ p ∷ []) s t r told x
  brings_told number (script_piece.Range name start len ∷ ps) ready s t r told (a, m, acts, x) =
      let still = events_keep_files_known budget chain number (event.OpenFile name) s m (file_answer a) told acts in
      opened_told a r t m _ still (λ file more. brings_told number ps (ready ++ piece.File file start len ∷ []) m t r still more) x

  event_told : (number : ℕ) (what : Event) (s t : HostView) (r : CommandReply) → AreFilesKnown s.device → RepliesTo budget chain number what s r t → AreFilesKnown t.device
  event_told number what s t r told x = events_keep_files_known budget chain number what s t x.answer told x.acts

  pub command_told : (c : Command) (s t : HostView) (r : CommandReply) → AreFilesKnown s.device → AnswersCommand budget chain c s r t → AreFilesKnown t.device
  unfolding AnswersCommand
  command_told command.Open s t r told x = event_told 0 event.Open s t r told x
  command_told (command.File f) s t r told x = events_keep_files_known budget chain 0 (event.AddFile f.name (file_bytes f)) s t Done told x.1
  command_told (command.Begin k) s t r told x = event_told k event.Begin s t r told x
  command_told (command.End k) s t r told x = event_told k event.End s t r told x
  command_told (command.Bring k pieces) s t r told x = brings_told k pieces [] s t r told x
  command_told (command.Step k n) s t r told x = (steps_keep_files_known budget chain k s t x.answer told).0 (n - 1) x.steps
  command_told (command.Run k) s t r told x = (steps_keep_files_known budget chain k s t x.answer told).1 x.runs
  command_told (command.Output k) s t r told x = event_told k event.TakeOutput s t r told x
  command_told (command.Labels k) s t r told x = event_told k event.TellLabels s t r told x
  command_told (command.Close k) s t r told x = event_told k event.Close s t r told x
  command_told command.Pools s t r told x = event_told 0 event.TellPools s t r told x
