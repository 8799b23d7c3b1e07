-- Two texts for one script are the same, up to a line of one of them that says that memory was refused.
use Rattle.std.proofs.Common.{◌≡◌, ◌≢◌, ◌⊎◌, ℕ, ◌+◌, Result, Ok, Err, IfOk, Bool, true, false, if◌then◌else◌, List, [], ◌∷◌, ◌++◌, Option, Some, None, MatchOption, inl, inr, refl, sym, ap, ap₂, subst, ◌∙◌, append_assoc, append-nil}
use Rattle.module_code.specs.Program.{Program}
use Rattle.byte_text.specs.TextLines.{RawLine, lines_of}
use Rattle.life_check.specs.declared.refusal.CheckRefusal.{CheckRefusal}
use Rattle.filter_chain.specs.HostViews.{HostView}
use Rattle.run_laws.specs.KnownFiles.{AreFilesKnown}
use Rattle.module_commands.specs.Streams.{Writes}
use Rattle.module_commands.specs.declared.ended.Ended.{Ended}
use Rattle.module_commands.specs.declared.fault.PlayFault.{PlayFault}
use Rattle.script_text.specs.declared.command.Command.{Command}
use Rattle.script_text.specs.declared.reply.CommandReply.{CommandReply}
use Rattle.script_text.specs.declared.texts.LineTaken.{LineTaken}
use Rattle.script_text.specs.declared.texts.LineTaken.TheVariants as taken
use Rattle.script_text.specs.Heads.{ScriptHead, no_head}
use Rattle.script_text.specs.Parts.{refused_in}
use Rattle.script_text.specs.Replies.{refused_line, reply_line, script_line}
use Rattle.script_play.specs.OneText.{AgreesUpToNoMemory, BeginsWithNoMemory, IsOnlyTextFor, PartsAtNoMemory}
use Rattle.script_play.specs.Plays.{due_at}
use Rattle.script_play.specs.Written.{BeginsUnless, EndsAt, FollowsLine, IsWhole, IsWrittenFor, Over, PlaysLine, Reading, Replies, ScriptBegins, Serving, Session, Stage, TakesAll, TakesAt, TakesCommand, TakesFirst, ended_by, first_view, session_of}
use Rattle.script_play.proofs.CommandOnce.{RefusesMemory, command_once, command_told}
use Rattle.script_play.proofs.WholeLines.{line_is_whole, whole_both}
use Rattle.script_play.proofs.HeadOnce.{AlikeHeads, alike_codes, alike_refused, end_once, line_once}

-- Two stages that the same follows.
abbrev AlikeStages : Stage → Stage → Type 0
AlikeStages (Reading h) (Reading k) = AlikeHeads h k
AlikeStages (Serving v) (Serving w) = (v ≡ w) × AreFilesKnown v.host_view.device
AlikeStages Over Over = Unit {0}
AlikeStages s t = ⊥

-- What two lines tell, and what follows them.
abbrev OneLine : List ℕ → Stage → List ℕ → Stage → Type 0
OneLine text t other u = ((text ≡ other) × AlikeStages t u) ⊎ (BeginsWithNoMemory text ⊎ BeginsWithNoMemory other)

-- A command.

told_lack : (r : CommandReply) (text : List ℕ) → text ≡ reply_line r → RefusesMemory r → BeginsWithNoMemory text
told_lack r text is refuses = record {
  why = refuses.why;
  rest = [];
  memory = refuses.lacks;
  begins = is ∙ ap reply_line refuses.is ∙ sym (append-nil (refused_line refuses.why));
}

serving_alike : (v w : Session) (t u : Stage) → v ≡ w → AreFilesKnown v.host_view.device → t ≡ Serving v → u ≡ Serving w → AlikeStages t u
serving_alike v w t u same told x y =
    subst (λ (s : Stage). AlikeStages s u) (sym x) (subst (λ (s : Stage). AlikeStages (Serving v) s) (sym y) (same, told))

over_alike : (t u : Stage) → t ≡ Over → u ≡ Over → AlikeStages t u
over_alike t u x y = subst (λ (s : Stage). AlikeStages s u) (sym x) (subst (λ (s : Stage). AlikeStages Over s) (sym y) tt)

replies_once : (c : Command) (s : Session) (text other : List ℕ) (t u : Stage) → AreFilesKnown s.host_view.device → Replies c s text t → Replies c s other u → OneLine text t other u
replies_once c s text other t u told x y =
    elim (command_once s.budget s.chain c s.host_view x.after y.after x.reply y.reply told x.serves y.serves) [
      | inl same ↦
          inl (
            x.told ∙ ap reply_line same.0 ∙ sym y.told,
            serving_alike (record s { host_view = x.after }) (record s { host_view = y.after }) t u (ap (λ (v : HostView). record s { host_view = v }) same.1)
                (command_told s.budget s.chain c s.host_view x.after x.reply told x.serves) x.stage y.stage,
          )
      | inr (inl refuses) ↦ inr (inl (told_lack x.reply text x.told refuses))
      | inr (inr refuses) ↦ inr (inr (told_lack y.reply other y.told refuses))
    ]

by_command : (o : Option Command) (number : ℕ) (s : Session) (text other : List ℕ) (t u : Stage) → AreFilesKnown s.host_view.device
    → MatchOption o ((text ≡ script_line number) × (t ≡ Over)) (λ c. Replies c s text t) → MatchOption o ((other ≡ script_line number) × (u ≡ Over)) (λ c. Replies c s other u)
    → OneLine text t other u
by_command None number s text other t u told x y = inl (x.0 ∙ sym y.0, over_alike t u x.1 y.1)
by_command (Some c) number s text other t u told x y = replies_once c s text other t u told x y

commands_once : (number : ℕ) (l : RawLine) (s : Session) (text other : List ℕ) (t u : Stage) → AreFilesKnown s.host_view.device → TakesCommand number l s text t
    → TakesCommand number l s other u
    → OneLine text t other u
commands_once number l s text other t u told x y = by_command (due_at s.host_view.device l) number s text other t u told x y

-- The commands begin.

first_told : AreFilesKnown first_view.device
first_told = record { sound = refl; named = λ name is. cc; numbered = λ file is. cc }

by_refusal : (o : Option (ℕ × CheckRefusal)) (checked : Bool) (h k : ScriptHead) (text other : List ℕ) (t u : Stage) → AlikeHeads h k → BeginsUnless o checked h text t
    → BeginsUnless o checked k other u
    → (text ≡ other) × AlikeStages t u
by_refusal None checked h k text other t u alike x y = (
  x.0 ∙ sym y.0,
  serving_alike (session_of checked h) (session_of checked k) t u
      (ap₂ (λ (c : List Program) (b : ℕ). (let s : Session = record { chain = c; budget = b; is_checked = checked; host_view = first_view } in s))
      (alike_codes h.parts k.parts alike.parts) alike.budget)
      first_told x.1 y.1,
)
by_refusal (Some r) checked h k text other t u alike x y = (x.0 ∙ sym y.0, over_alike t u x.1 y.1)

begins_once : (checked : Bool) (h k : ScriptHead) (text other : List ℕ) (t u : Stage) → AlikeHeads h k → ScriptBegins checked h text t → ScriptBegins checked k other u
    → (text ≡ other) × AlikeStages t u
begins_once checked h k text other t u alike x y =
    by_refusal (if checked then refused_in h.parts else None) checked h k text other t u alike x
    (subst (λ (o : Option (ℕ × CheckRefusal)). BeginsUnless (if checked then o else None) checked k other u) (sym (alike_refused h.parts k.parts alike.parts)) y)

taken_once : (number : ℕ) (l : RawLine) (s z : Stage) (text other : List ℕ) (t u : Stage) → AlikeStages s z → TakesAt number l s text t → TakesAt number l z other u → OneLine text t other u
taken_once number l (Reading h) z text other t u alike x y = absurd x
taken_once number l (Serving v) (Reading k) text other t u alike x y = absurd y
taken_once number l (Serving v) (Serving w) text other t u alike x y =
    commands_once number l v text other t u alike.1 x (subst (λ (s : Session). TakesCommand number l s other u) (sym alike.0) y)
taken_once number l (Serving v) Over text other t u alike x y = absurd alike
taken_once number l Over (Reading k) text other t u alike x y = absurd y
taken_once number l Over (Serving w) text other t u alike x y = absurd alike
taken_once number l Over Over text other t u alike x y = inl (x.0 ∙ sym y.0, over_alike t u x.1 y.1)

follows_once : (a : LineTaken) (number : ℕ) (l : RawLine) (h k : ScriptHead) (told same text other : List ℕ) (t u : Stage) → told ≡ same → (a ≢ taken.Over → AlikeHeads h k)
    → FollowsLine a number l h told text t → FollowsLine a number l k same other u
    → OneLine text t other u
follows_once taken.More number l h k told same text other t u is alike x y =
    inl (x.0 ∙ is ∙ sym y.0, subst (λ (s : Stage). AlikeStages s u) (sym x.1) (subst (λ (s : Stage). AlikeStages (Reading h) s) (sym y.1) (alike (λ never. cc))))
follows_once taken.Over number l h k told same text other t u is alike x y = inl (x.0 ∙ is ∙ sym y.0, over_alike t u x.1 y.1)
follows_once taken.Checked number l h k told same text other t u is alike x y = inl (begins_once true h k text other t u (alike (λ never. cc)) x y)
follows_once taken.Command number l h k told same text other t u is alike (s, begun, x) (z, begins, y) =
    taken_once number l s z text other t u (begins_once false h k [] [] s z (alike (λ never. cc)) begun begins).1 x y

first_once : (number : ℕ) (l : RawLine) (h k : ScriptHead) (text other : List ℕ) (t u : Stage) → AlikeHeads h k → TakesFirst number l h text t → TakesFirst number l k other u
    → OneLine text t other u
first_once number l h k text other t u alike x y =
    let same = line_once number l h k alike x.taken y.taken x.told y.told x.head y.head x.takes y.takes in
    follows_once x.taken number l x.head y.head x.told y.told text other t u same.told same.heads x.follows
    (subst (λ (a : LineTaken). FollowsLine a number l y.head y.told other u) (sym same.follows) y.follows)

-- A line.
plays_once : (number : ℕ) (l : RawLine) (s z : Stage) (text other : List ℕ) (t u : Stage) → AlikeStages s z → PlaysLine number l s text t → PlaysLine number l z other u
    → OneLine text t other u
plays_once number l (Reading h) (Reading k) text other t u alike x y = first_once number l h k text other t u alike x y
plays_once number l (Reading h) (Serving w) text other t u alike x y = absurd alike
plays_once number l (Reading h) Over text other t u alike x y = absurd alike
plays_once number l (Serving v) (Reading k) text other t u alike x y = absurd alike
plays_once number l (Serving v) (Serving w) text other t u alike x y = taken_once number l (Serving v) (Serving w) text other t u alike x y
plays_once number l (Serving v) Over text other t u alike x y = absurd alike
plays_once number l Over (Reading k) text other t u alike x y = absurd alike
plays_once number l Over (Serving w) text other t u alike x y = absurd alike
plays_once number l Over Over text other t u alike x y = inl (x.0 ∙ sym y.0, over_alike t u x.1 y.1)

-- Lines.

lack_behind : (text more all : List ℕ) → all ≡ text ++ more → BeginsWithNoMemory text → BeginsWithNoMemory all
lack_behind text more all is lack = record {
  why = lack.why;
  rest = lack.rest ++ more;
  memory = lack.memory;
  begins = is ∙ ap (λ (t : List ℕ). t ++ more) lack.begins ∙ append_assoc (refused_line lack.why) lack.rest more;
}

parts_here : (text other : List ℕ) → BeginsWithNoMemory text ⊎ BeginsWithNoMemory other → PartsAtNoMemory text other
parts_here text other lack = record { same = []; left = text; right = other; lines = inl refl; one = refl; two = refl; parts = lack }

-- with the same before both
parts_behind : (told same more rest all whole : List ℕ) → IsWhole same → told ≡ same → all ≡ told ++ more → whole ≡ same ++ rest → PartsAtNoMemory more rest → PartsAtNoMemory all whole
parts_behind told same more rest all whole lines is x y parts = record {
  same = same ++ parts.same;
  left = parts.left;
  right = parts.right;
  lines = whole_both same parts.same lines parts.lines;
  one = x ∙ ap₂ (λ (a b : List ℕ). a ++ b) is parts.one ∙ sym (append_assoc same parts.same parts.left);
  two = y ∙ ap (λ (b : List ℕ). same ++ b) parts.two ∙ sym (append_assoc same parts.same parts.right);
  parts = parts.parts;
}

-- and more behind them
lack_more : (text other more rest : List ℕ) → BeginsWithNoMemory text ⊎ BeginsWithNoMemory other → BeginsWithNoMemory (text ++ more) ⊎ BeginsWithNoMemory (other ++ rest)
lack_more text other more rest (inl lack) = inl (lack_behind text more (text ++ more) refl lack)
lack_more text other more rest (inr lack) = inr (lack_behind other rest (other ++ rest) refl lack)

parts_before : (text other more rest all whole : List ℕ) → all ≡ text ++ more → whole ≡ other ++ rest → PartsAtNoMemory text other → PartsAtNoMemory all whole
parts_before text other more rest all whole x y parts = record {
  same = parts.same;
  left = parts.left ++ more;
  right = parts.right ++ rest;
  lines = parts.lines;
  one = x ∙ ap (λ (t : List ℕ). t ++ more) parts.one ∙ append_assoc parts.same parts.left more;
  two = y ∙ ap (λ (t : List ℕ). t ++ rest) parts.two ∙ append_assoc parts.same parts.right rest;
  parts = lack_more parts.left parts.right more rest parts.parts;
}

lines_once : (ls : List RawLine) (number : ℕ) (s z : Stage) (text other : List ℕ) (t u : Stage) → AlikeStages s z → TakesAll number ls s text t → TakesAll number ls z other u
    → ((text ≡ other) × AlikeStages t u) ⊎ PartsAtNoMemory text other
unfolding TakesAll
lines_once [] number s z text other t u alike x y =
    inl (x.0 ∙ sym y.0, subst (λ (v : Stage). AlikeStages v u) (sym x.1) (subst (λ (v : Stage). AlikeStages s v) (sym y.1) alike))
lines_once (l ∷ ls) number s z text other t u alike (m, told, more, x, xs, is) (n, same, rest, y, ys, so) =
    by (plays_once number l s z told same m n alike x y) (λ going. lines_once ls (number + 1) m n more rest t u going xs ys) where
      by : OneLine told m same n → (AlikeStages m n → ((more ≡ rest) × AlikeStages t u) ⊎ PartsAtNoMemory more rest) → ((text ≡ other) × AlikeStages t u) ⊎ PartsAtNoMemory text other
      by (inl line) go =
          elim (go line.1) [
            | inl end ↦ inl (is ∙ ap₂ (λ (a b : List ℕ). a ++ b) line.0 end.0 ∙ sym so, end.1)
            | inr parts ↦ inr (parts_behind told same more rest text other (line_is_whole number l z same n y) line.0 is so parts)
          ]
      by (inr lack) go = inr (parts_before told same more rest text other is so (parts_here told same lack))

-- The script ends.
ends_once : (s z : Stage) (text other : List ℕ) (e f : Ended) → AlikeStages s z → EndsAt s text e → EndsAt z other f → (text ≡ other) × (e ≡ f)
ends_once (Reading h) (Reading k) text other e f alike (t, last, x, is) (u, end, y, so) =
    let same = end_once h k alike t u text other last end x y in
    (same.told, is ∙ ap ended_by same.follows ∙ sym so)
ends_once (Reading h) (Serving w) text other e f alike x y = absurd alike
ends_once (Reading h) Over text other e f alike x y = absurd alike
ends_once (Serving v) (Reading k) text other e f alike x y = absurd alike
ends_once (Serving v) (Serving w) text other e f alike x y = (x.0 ∙ sym y.0, x.1 ∙ sym y.1)
ends_once (Serving v) Over text other e f alike x y = absurd alike
ends_once Over (Reading k) text other e f alike x y = absurd alike
ends_once Over (Serving w) text other e f alike x y = absurd alike
ends_once Over Over text other e f alike x y = (x.0 ∙ sym y.0, x.1 ∙ sym y.1)

no_head_alike : AlikeHeads no_head no_head
no_head_alike = record { parts = tt; budget = refl; place = refl; text = refl; before = refl }

-- A text that may be written for a script is the only one, up to running out of memory.
pub written_once : (script text : List ℕ) (e : Ended) → IsWrittenFor script text e → IsOnlyTextFor script text e
written_once script text e x other f y =
    by (lines_once (lines_of script) 1 (Reading no_head) (Reading no_head) x.answers y.answers x.stage y.stage no_head_alike x.takes y.takes) where
      by : ((x.answers ≡ y.answers) × AlikeStages x.stage y.stage) ⊎ PartsAtNoMemory x.answers y.answers → AgreesUpToNoMemory text e other f
      by (inl same) =
          let end = ends_once x.stage y.stage x.last y.last e f same.1 x.ends y.ends in
          inl (x.written ∙ ap₂ (λ (a b : List ℕ). a ++ b) same.0 end.0 ∙ sym y.written, end.1)
      by (inr parts) = inr (parts_before x.answers y.answers x.last y.last text other x.written y.written parts)

-- So is one that was written, where it is known what was read and what the writer holds.
pub only_written : (r : Result Ended PlayFault) (input old new : Option (List ℕ)) → IfOk r (λ e. Writes input old new (λ script text. IsWrittenFor script text e))
    → IfOk r (λ e. Writes input old new (λ script text. IsOnlyTextFor script text e))
only_written (Ok e) None old new x = tt
only_written (Ok e) (Some known) old new x = (x.0, written_once known x.0 e x.1, x.2)
only_written (Err k) input old new x = tt
