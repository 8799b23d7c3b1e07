-- Lines that a player takes one after another.
use Rattle.std.proofs.Common.{◌≡◌, ℕ, ◌+◌, ◌-◌, ◌<◌, ◌≤◌, ◌⊎◌, inl, inr, Bool, true, List, [], ◌∷◌, ◌++◌, length, take, drop, refl, ap, sym, subst, ◌∙◌, arith}
use Rattle.std.proofs.lemmas.List.{append_assoc, append-nil, length-append, length-drop, take_at, take_rest, nil_from_length}
use Rattle.byte_text.specs.TextLines.{RawLine, lines_of, first_line, width}
use Rattle.filter_chain.specs.Hosting.{Ghosts, Stored}
use Rattle.script_play.specs.declared.player.Player.{Player}
use Rattle.script_play.specs.Players.{TakesOneLine}
use Rattle.script_play.specs.Sessions.{IsAt, TakesOn}
use Rattle.script_play.specs.Written.{Stage, Reading, Serving, Over, is_over, PlaysLine, TakesAll}
use Rattle.script_play.proofs.TakenLaws.{taken_append, taken_none, taken_one, taken_over}

-- Of all bytes, the lines before the rest were taken.
pub record Taking {R : Type 0} {g : Ghosts R Stored} (old now : Player R g) (before after all rest : List ℕ) (s : Stage) : Type 0 where
  pub done : List RawLine
  pub told : List ℕ
  pub stage : Stage
  pub lines : lines_of all ≡ done ++ lines_of rest
  pub takes : TakesAll (old.lines + 1) done s told stage
  pub at : IsAt now stage
  pub count : now.lines ≡ old.lines + length done
  pub few : length done + length rest ≤ length all
  pub added : after ≡ before ++ told

pub taking_first : {R : Type 0} {g : Ghosts R Stored} (p : Player R g) (text all : List ℕ) (s : Stage) → IsAt p s → Taking p p text text all all s
taking_first p text all s at =
    record {
      done = [];
      told = [];
      stage = s;
      lines = refl;
      takes = taken_none (p.lines + 1) s;
      at = at;
      count = omega arith;
      few = omega arith;
      added = sym (append-nil text);
    }

-- the first line of the rest, as code finds it
pub record IsFirstLine (rest text : List ℕ) (ended : Bool) (wide : ℕ) : Type 0 where
  pub text_is : text ≡ (first_line rest).text
  pub ended_is : ended ≡ (first_line rest).ended
  pub lines : lines_of rest ≡ first_line rest ∷ lines_of (drop (width (first_line rest)) rest)
  pub wide_is : wide ≡ width (first_line rest)
  pub within : wide ≤ length rest
  pub moves : 0 < wide

line_is : (rest text : List ℕ) (ended : Bool) (wide : ℕ) → IsFirstLine rest text ended wide → (let l : RawLine = record { text = text; ended = ended } in l) ≡ first_line rest
line_is rest text ended wide f =
    let of : List ℕ → Bool → RawLine = λ t e. record { text = t; ended = e } in
    ap (λ t. of t ended) f.text_is ∙ ap (of (first_line rest).text) f.ended_is

taking_line : {R : Type 0} {g : Ghosts R Stored} (old now new : Player R g) (before mid after all rest text : List ℕ) (ended : Bool) (wide : ℕ) (s : Stage) → (k : Taking old now before mid all rest s)
    → IsFirstLine rest text ended wide
    → TakesOneLine new mid after (λ told t. PlaysLine (now.lines + 1) (record { text = text; ended = ended }) k.stage told t) → new.lines ≡ now.lines + 1 → Taking old new before after all
    (drop wide rest) s
taking_line old now new before mid after all rest text ended wide s k f l more =
    let line : RawLine = record { text = text; ended = ended } in
    let number : now.lines + 1 ≡ old.lines + 1 + length k.done = let c = k.count in omega (arith, c) in
    let one = taken_one (old.lines + 1 + length k.done) line k.stage l.stage l.told (subst (λ n. PlaysLine n line k.stage l.told l.stage) number l.holds) in
    let long = length-append k.done (line ∷ []) in
    record {
      done = k.done ++ line ∷ [];
      told = k.told ++ l.told;
      stage = l.stage;
      lines = k.lines ∙ ap (λ ls. k.done ++ ls) (f.lines ∙ ap (λ x. x ∷ lines_of (drop (width (first_line rest)) rest)) (sym (line_is rest text ended wide f))
          ∙ ap (λ n. line ∷ lines_of (drop n rest)) (sym f.wide_is)) ∙ sym (append_assoc k.done (line ∷ []) (lines_of (drop wide rest)));
      takes = taken_append (old.lines + 1) k.done (line ∷ []) s k.stage l.stage k.told l.told k.takes one;
      at = l.at;
      count = let c = k.count in omega (arith, c, more, long);
      few = let c = k.few in let d = length-drop wide rest in let m = f.moves in let w = f.within in omega (arith, c, d, m, w, long);
      added = l.added ∙ ap (λ t. t ++ l.told) k.added ∙ append_assoc before k.told l.told;
    }

-- One line more is taken.
pub taking_more : {R : Type 0} {g : Ghosts R Stored} (old now new : Player R g) (before mid after all rest text : List ℕ) (ended : Bool) (wide : ℕ) (s : Stage)
    → (k : Taking old now before mid all rest s) → IsFirstLine rest text ended wide
    → TakesOneLine new mid after (λ told t. PlaysLine (now.lines + 1) (record { text = text; ended = ended }) k.stage told t) → new.lines ≡ now.lines + 1
    → Taking old new before after all (take (length rest - wide) (drop wide rest)) s
taking_more old now new before mid after all rest text ended wide s k f l more =
    subst (λ r. Taking old new before after all r s) (sym (take_rest rest wide)) (taking_line old now new before mid after all rest text ended wide s k f l more)

-- Without memory the lines that were taken are the first of all.
pub taking_some : {R : Type 0} {g : Ghosts R Stored} (old now : Player R g) (before mid after all rest : List ℕ) (s : Stage) → Taking old now before mid all rest s → after ≡ mid
    → (n : ℕ) × (told : List ℕ) × (last : Stage)
    × TakesAll (old.lines + 1) (take n (lines_of all)) s told last × (after ≡ before ++ told)
taking_some old now before mid after all rest s k same =
    let front : take (length k.done) (lines_of all) ≡ k.done = ap (take (length k.done)) k.lines ∙ take_at k.done (lines_of rest) (length k.done) refl in
    (length k.done, k.told, k.stage, subst (λ ls. TakesAll (old.lines + 1) ls s k.told k.stage) (sym front) k.takes, same ∙ k.added)

-- No line is left.
taking_all : {R : Type 0} {g : Ghosts R Stored} (old now : Player R g) (before after all rest : List ℕ) (s : Stage) → Taking old now before after all rest s → length rest ≡ 0
    → TakesOn old now before after (lines_of all) s
unfolding lines_of
taking_all old now before after all rest s k none =
    let same : lines_of all ≡ k.done = k.lines ∙ ap (λ r. k.done ++ lines_of r) (nil_from_length rest none) ∙ append-nil k.done in
    record {
      told = k.told;
      stage = k.stage;
      takes = subst (λ ls. TakesAll (old.lines + 1) ls s k.told k.stage) (sym same) k.takes;
      at = k.at;
      lines = λ _. k.count ∙ ap (λ ls. old.lines + length ls) (sym same);
      added = k.added;
    }

-- A fault was told, and the lines that are left are not looked at.
taking_over : {R : Type 0} {g : Ghosts R Stored} (old now : Player R g) (before after all rest : List ℕ) (s : Stage) (k : Taking old now before after all rest s) → is_over k.stage ≡ true
    → TakesOn old now before after (lines_of all) s
taking_over old now before after all rest s k over = by k.stage k.takes k.at over
  where
    by : (t : Stage) → TakesAll (old.lines + 1) k.done s k.told t → IsAt now t → is_over t ≡ true → TakesOn old now before after (lines_of all) s
    by (Reading h) takes at e = absurd (cc e)
    by (Serving v) takes at e = absurd (cc e)
    by Over takes at e =
        let rest_taken = taken_over (old.lines + 1 + length k.done) (lines_of rest) in
        let whole = taken_append (old.lines + 1) k.done (lines_of rest) s Over Over k.told [] takes rest_taken in
        let P : List RawLine → List ℕ → Type 0 = λ ls t. TakesAll (old.lines + 1) ls s t Over in
        record {
          told = k.told;
          stage = Over;
          takes = subst (λ ls. P ls k.told) (sym k.lines) (subst (P (k.done ++ lines_of rest)) (append-nil k.told) whole);
          at = at;
          lines = λ f. absurd (cc f);
          added = k.added;
        }

pub taking_end : {R : Type 0} {g : Ghosts R Stored} (old now : Player R g) (before after all rest : List ℕ) (s : Stage) (k : Taking old now before after all rest s)
    → (length rest ≡ 0) ⊎ (is_over k.stage ≡ true) → TakesOn old now before after (lines_of all) s
taking_end old now before after all rest s k (inl none) = taking_all old now before after all rest s k none
taking_end old now before after all rest s k (inr over) = taking_over old now before after all rest s k over
