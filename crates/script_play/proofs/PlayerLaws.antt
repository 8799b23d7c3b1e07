-- How a player goes on, line by line.
use Rattle.std.proofs.Common.{◌≡◌, ℕ, ◌+◌, ◌^◌, ◌<◌, Bool, true, false, if◌then◌else◌, List, [], ◌++◌, map, None, Result, Ok, Err, IfOk, OnErr, refl, ap, sym, subst, ◌∙◌}
use Rattle.std.proofs.lemmas.List.{append-nil}
use Rattle.byte_text.specs.TextLines.{RawLine}
use Rattle.filter_chain.specs.Hosting.{Ghosts, Stored}
use Rattle.script_play.specs.declared.player.Player.{Player}
use Rattle.script_play.specs.declared.player.Stage.{Stage as CodeStage}
use Rattle.script_play.specs.declared.player.Stage.TheVariants as code
use Rattle.script_play.specs.declared.session.Session.{Session as CodeSession}
use Rattle.script_text.specs.declared.texts.Texts.{Texts}
use Rattle.script_text.specs.declared.texts.LineTaken.{LineTaken}
use Rattle.script_text.specs.declared.texts.LineTaken.TheVariants as taken
use Rattle.script_text.specs.Heads.{ScriptHead, head_of, seen_part, TellsMore, TakesLine}
use Rattle.script_play.specs.Players.{TakesOneLine, MayBeginCommands, HasBegun}
use Rattle.script_text.specs.Bounds.{IsScriptBounded}
use Rattle.script_play.specs.Sessions.{IsSession, TakesOne, IsStageOf, IsAt}
use Rattle.script_text.specs.Parts.{codes_of, refused_in}
use Rattle.script_play.specs.Written.{Session, Stage, Reading, Serving, Over, ScriptBegins, BeginsUnless, TakesAt, PlaysLine, first_view, session_of}
use Rattle.script_text.proofs.Bounds.{HeadKept, line_kept}

-- the head that texts of the code stand for
head_is : {R : Type 0} {g : Ghosts R Stored} (old : CodeStage R g) (t : Texts) (h : ScriptHead) → old ≡ code.Texts t → IsStageOf old (Reading h) → h ≡ head_of t
head_is old t h is at = subst (λ x. IsStageOf x (Reading h)) is at

-- the session that the commands of texts begin with
abbrev first_session : Bool → Texts → Session
first_session checked t = record { chain = codes_of (map seen_part t.parts.items); budget = t.budget; is_checked = checked; host_view = first_view }

begun_at : {R : Type 0} {g : Ghosts R Stored} (p : Player R g) (text : List ℕ) (t : Texts) (h : ScriptHead) (s : CodeSession R g) (checked is : Bool) → checked ≡ is → h ≡ head_of t
    → (if is then refused_in h.parts else None) ≡ None → IsSession s (first_session is t) → p.stage ≡ code.Session s → TakesOneLine p text text (λ told v. ScriptBegins checked h told v)
begun_at p text t h s checked is known same none hosted now =
    let v : Session = session_of is h in
    let to : first_session is t ≡ v = ap (λ (x : ScriptHead). session_of is x) (sym same) in
    let P : CodeStage _ _ → Type 0 = λ x. IsStageOf x (Serving v) in
    let Q : Bool → Type 0 = λ b. ScriptBegins b h [] (Serving v) in
    let R : _ = λ o. BeginsUnless o is h [] (Serving v) in
    record {
      told = [];
      stage = Serving v;
      holds = subst Q (sym known) (subst R (sym none) (refl, refl));
      at = record { stage = subst P (sym now) (subst (IsSession s) to hosted); bounded = tt };
      added = sym (append-nil text);
    }

-- The commands begin, without a check.
pub begun_watched : {R : Type 0} {g : Ghosts R Stored} (p : Player R g) (text : List ℕ) (old : CodeStage R g) (t : Texts) (h : ScriptHead) (s : CodeSession R g) (checked : Bool) → old ≡ code.Texts t
    → MayBeginCommands old h → checked ≡ false → IsSession s (first_session false t) → p.stage ≡ code.Session s → TakesOneLine p text text (λ told v. ScriptBegins checked h told v)
begun_watched p text old t h s checked was ready unchecked hosted now =
    begun_at p text t h s checked false unchecked (head_is old t h was ready.stage) refl hosted now

-- The chain is accepted, and the commands begin.
pub begun_checked : {R : Type 0} {g : Ghosts R Stored} {E : Type 0} (r : Result (CodeSession R g) E) (p : Player R g) (text : List ℕ) (old : CodeStage R g) (t : Texts) (h : ScriptHead)
    (s : CodeSession R g) (checked : Bool) → old ≡ code.Texts t
    → MayBeginCommands old h → checked ≡ true → r ≡ Ok s → IfOk r (λ x. (refused_in (map seen_part t.parts.items) ≡ None) × IsSession x (first_session true t)) → p.stage ≡ code.Session s
    → TakesOneLine p text text (λ told v. ScriptBegins checked h told v)
begun_checked r p text old t h s checked was ready given is accepted now =
    let same = head_is old t h was ready.stage in
    let P : Result (CodeSession _ _) _ → Type 0 = λ q. IfOk q (λ x. (refused_in (map seen_part t.parts.items) ≡ None) × IsSession x (first_session true t)) in
    let known = subst P is accepted in
    begun_at p text t h s checked true given same (ap (λ (x : ScriptHead). refused_in x.parts) same ∙ known.0) known.1 now

-- A command is taken.

-- The line was a command, and was answered.
pub served : {R : Type 0} {g : Ghosts R Stored} (p : Player R g) (old : CodeStage R g) (x new : CodeSession R g) (before after : List ℕ) (number : ℕ) (l : RawLine) (was : Bool) (s : Stage)
    → old ≡ code.Session x → was ≡ true → p.stage ≡ code.Session new → ((v : Session) → IsSession x v → TakesOne new before after number l v was)
    → IsStageOf old s → HasBegun s → TakesOneLine p before after (λ told t. TakesAt number l s told t)
served p old x new before after number l was (Reading h) at done now takes stage begun = absurd begun
served p old x new before after number l was Over at done now takes stage begun = absurd (subst (λ c. IsStageOf c Over) at stage)
served p old x new before after number l was (Serving v) at done now takes stage begun =
    let one = subst (λ b. TakesOne new before after number l v b) done (takes v (subst (λ c. IsStageOf c (Serving v)) at stage)) in
    record {
      told = one.0;
      stage = Serving one.1;
      holds = one.2;
      at = record { stage = subst (λ c. IsStageOf c (Serving one.1)) (sym now) one.3; bounded = tt };
      added = one.4;
    }

-- The line was none, which is told.
pub unserved : {R : Type 0} {g : Ghosts R Stored} (p : Player R g) (old : CodeStage R g) (x new : CodeSession R g) (before after : List ℕ) (number : ℕ) (l : RawLine) (was : Bool) (s : Stage)
    → old ≡ code.Session x → was ≡ false
    → p.stage ≡ code.Over → ((v : Session) → IsSession x v → TakesOne new before after number l v was) → IsStageOf old s → HasBegun s
    → TakesOneLine p before after (λ told t. TakesAt number l s told t)
unserved p old x new before after number l was (Reading h) at none now takes stage begun = absurd begun
unserved p old x new before after number l was Over at none now takes stage begun = absurd (subst (λ c. IsStageOf c Over) at stage)
unserved p old x new before after number l was (Serving v) at none now takes stage begun =
    let one = subst (λ b. TakesOne new before after number l v b) none (takes v (subst (λ c. IsStageOf c (Serving v)) at stage)) in
    record {
      told = one.0;
      stage = Over;
      holds = one.1;
      at = record { stage = subst (λ c. IsStageOf c Over) (sym now) tt; bounded = tt };
      added = one.2;
    }

-- A fault was told, and the line is not looked at.
pub passed : {R : Type 0} {g : Ghosts R Stored} (p : Player R g) (text : List ℕ) (number : ℕ) (l : RawLine) (s : Stage) → ((x : CodeSession R g) → p.stage ≡ code.Session x → ⊥) → IsAt p s → HasBegun s
    → TakesOneLine p text text (λ told t. TakesAt number l s told t)
passed p text number l (Reading h) none at begun = absurd begun
passed p text number l (Serving v) none at begun = absurd (by p.stage refl at.stage)
  where
    by : (c : CodeStage _ _) → p.stage ≡ c → IsStageOf c (Serving v) → ⊥
    by (code.Texts t) e i = i
    by (code.Session x) e i = none x e
    by code.Over e i = i
passed p text number l Over none at begun = record { told = []; stage = Over; holds = (refl, refl); at = at; added = sym (append-nil text) }

-- A line before the commands is taken.

-- what is known of it
pub record Heard (lines : ℕ) (l : RawLine) (x new : Texts) (t : LineTaken) (before after : List ℕ) (s : Stage) : Type 0 where
  pub told : List ℕ
  pub head : s ≡ Reading (head_of x)
  pub takes : TakesLine (lines + 1) l (head_of x) t told (head_of new)
  pub kept : HeadKept (lines + 1) t told (head_of new)
  pub added : after ≡ before ++ told

stage_is : {R : Type 0} {g : Ghosts R Stored} (p : Player R g) (x : Texts) (s : Stage) → p.stage ≡ code.Texts x → IsAt p s → (s ≡ Reading (head_of x)) × IsScriptBounded p.lines (head_of x)
stage_is p x (Reading h) is at =
    let same = head_is p.stage x h is at.stage in
    (ap Reading same, subst (IsScriptBounded p.lines) same at.bounded)
stage_is p x (Serving v) is at = absurd (subst (λ c. IsStageOf c (Serving v)) is at.stage)
stage_is p x Over is at = absurd (subst (λ c. IsStageOf c Over) is at.stage)

pub heard : {R : Type 0} {g : Ghosts R Stored} (p : Player R g) (l : RawLine) (x new : Texts) (t is : LineTaken) (before after : List ℕ) (s : Stage) → p.lines < 2 ^ 62 → p.stage ≡ code.Texts x
    → IsAt p s → t ≡ is → TellsMore before after (λ told. TakesLine (p.lines + 1) l (head_of x) t told (head_of new)) → Heard p.lines l x new is before after s
heard p l x new t is before after s low stage at same tells =
    let known = stage_is p x s stage at in
    let takes = subst (λ y. TakesLine (p.lines + 1) l (head_of x) y tells.0 (head_of new)) same tells.2 in
    record { told = tells.0; head = known.0; takes = takes; kept = line_kept p.lines l (head_of x) is tells.0 (head_of new) low known.1 takes; added = tells.1 }

pub heard_more : {R : Type 0} {g : Ghosts R Stored} (p : Player R g) (lines : ℕ) (l : RawLine) (x new : Texts) (before after : List ℕ) (s : Stage) → Heard lines l x new taken.More before after s
    → p.stage ≡ code.Texts new → p.lines ≡ lines + 1 → TakesOneLine p before after (λ told v. PlaysLine (lines + 1) l s told v)
heard_more p lines l x new before after s k now count =
    let P : CodeStage _ _ → Type 0 = λ c. IsStageOf c (Reading (head_of new)) in
    let Q : ℕ → Type 0 = λ n. IsScriptBounded n (head_of new) in
    let R : Stage → Type 0 = λ v. PlaysLine (lines + 1) l v k.told (Reading (head_of new)) in
    record {
      told = k.told;
      stage = Reading (head_of new);
      holds = subst R (sym k.head) (record { taken = taken.More; told = k.told; head = head_of new; takes = k.takes; follows = (refl, refl) });
      at = record { stage = subst P (sym now) refl; bounded = subst Q (sym count) k.kept };
      added = k.added;
    }

pub heard_over : {R : Type 0} {g : Ghosts R Stored} (p : Player R g) (lines : ℕ) (l : RawLine) (x new : Texts) (before after : List ℕ) (s : Stage) → Heard lines l x new taken.Over before after s
    → p.stage ≡ code.Over → TakesOneLine p before after (λ told v. PlaysLine (lines + 1) l s told v)
heard_over p lines l x new before after s k now =
    let R : Stage → Type 0 = λ v. PlaysLine (lines + 1) l v k.told Over in
    record {
      told = k.told;
      stage = Over;
      holds = subst R (sym k.head) (record { taken = taken.Over; told = k.told; head = head_of new; takes = k.takes; follows = (refl, refl) });
      at = record { stage = subst (λ c. IsStageOf c Over) (sym now) tt; bounded = tt };
      added = k.added;
    }

ready_by : {R : Type 0} {g : Ghosts R Stored} (n : ℕ) (new : Texts) (told : List ℕ) → HeadKept n taken.Checked told (head_of new) → MayBeginCommands {R = R} {g = g} (code.Texts new) (head_of new)
ready_by n new told k = record { stage = refl; some = k.0.some k.1; few = k.0.few }

pub heard_ready : {R : Type 0} {g : Ghosts R Stored} (lines : ℕ) (l : RawLine) (x new : Texts) (before after : List ℕ) (s : Stage) → Heard lines l x new taken.Checked before after s
    → MayBeginCommands {R = R} {g = g} (code.Texts new) (head_of new)
heard_ready lines l x new before after s k = ready_by (lines + 1) new k.told k.kept

pub heard_begun : {R : Type 0} {g : Ghosts R Stored} (lines : ℕ) (l : RawLine) (x new : Texts) (before after : List ℕ) (s : Stage) → Heard lines l x new taken.Command before after s
    → MayBeginCommands {R = R} {g = g} (code.Texts new) (head_of new)
heard_begun lines l x new before after s k = ready_by (lines + 1) new k.told k.kept

same_by : (before after told : List ℕ) → told ≡ [] → after ≡ before ++ told → after ≡ before
same_by before after told none added = added ∙ ap (λ l. before ++ l) none ∙ append-nil before

pub heard_quiet : (lines : ℕ) (l : RawLine) (x new : Texts) (before after : List ℕ) (s : Stage) → Heard lines l x new taken.Checked before after s → after ≡ before
heard_quiet lines l x new before after s k = same_by before after k.told k.kept.2 k.added

pub heard_still : (lines : ℕ) (l : RawLine) (x new : Texts) (before after : List ℕ) (s : Stage) → Heard lines l x new taken.Command before after s → after ≡ before
heard_still lines l x new before after s k = same_by before after k.told k.kept.2 k.added

-- The chain is checked, and the commands begin or a module is refused.
pub heard_checked : {R : Type 0} {g : Ghosts R Stored} (p : Player R g) (lines : ℕ) (l : RawLine) (x new : Texts) (before mid after : List ℕ) (s : Stage)
    → Heard lines l x new taken.Checked before mid s → TakesOneLine p mid after (λ told v. ScriptBegins true (head_of new) told v)
    → TakesOneLine p before after (λ told v. PlaysLine (lines + 1) l s told v)
heard_checked p lines l x new before mid after s k b =
    let R : Stage → Type 0 = λ v. PlaysLine (lines + 1) l v b.told b.stage in
    record {
      told = b.told;
      stage = b.stage;
      holds = subst R (sym k.head) (record { taken = taken.Checked; told = k.told; head = head_of new; takes = k.takes; follows = b.holds });
      at = b.at;
      added = b.added ∙ ap (λ t. t ++ b.told) (heard_quiet lines l x new before mid s k);
    }

-- The commands have begun without a check.
pub begun_by : {R : Type 0} {g : Ghosts R Stored} (p : Player R g) (h : ScriptHead) (before after : List ℕ) (b : TakesOneLine p before after (λ told v. ScriptBegins false h told v))
    → HasBegun b.stage × (after ≡ before)
begun_by p h before after b = (subst HasBegun (sym b.holds.1) tt, same_by before after b.told b.holds.0 b.added)

pub heard_command : {R : Type 0} {g : Ghosts R Stored} (old p : Player R g) (lines : ℕ) (l : RawLine) (x new : Texts) (before mid still after : List ℕ) (s : Stage)
    → Heard lines l x new taken.Command before mid s
    → (b : TakesOneLine old mid still (λ told v. ScriptBegins false (head_of new) told v)) → old.lines ≡ lines + 1 → TakesOneLine p still after (λ told v. TakesAt old.lines l b.stage told v)
    → TakesOneLine p before after (λ told v. PlaysLine (lines + 1) l s told v)
heard_command old p lines l x new before mid still after s k b count t =
    let R : Stage → Type 0 = λ v. PlaysLine (lines + 1) l v t.told t.stage in
    let takes = subst (λ n. TakesAt n l b.stage t.told t.stage) count t.holds in
    let quiet = (begun_by old (head_of new) mid still b).1 ∙ heard_still lines l x new before mid s k in
    record {
      told = t.told;
      stage = t.stage;
      holds = subst R (sym k.head) (record { taken = taken.Command; told = k.told; head = head_of new; takes = k.takes; follows = (b.stage, (refl, b.holds.1), takes) });
      at = t.at;
      added = t.added ∙ ap (λ y. y ++ t.told) quiet;
    }

pub on_err_any : {T E P : Type 0} (r : Result T E) → P → OnErr r P
on_err_any (Ok x) p = tt
on_err_any (Err e) p = p

-- The texts stand low enough to be told of.
pub texts_low : {R : Type 0} {g : Ghosts R Stored} (p : Player R g) (x : Texts) (s : Stage) → p.stage ≡ code.Texts x → IsAt p s → x.before < 2 ^ 63
texts_low p x s is at = (stage_is p x s is at).1.small
