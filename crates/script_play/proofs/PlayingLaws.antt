-- How a script is played, part by part.
use Rattle.std.proofs.Common.{◌≡◌, ◌≢◌, ℕ, ◌+◌, ◌-◌, ◌<◌, ◌≤◌, inl, inr, List, [], ◌++◌, length, take, drop, Option, Result, Ok, Err, IfOk, IfErr, get_or, refl, ap, sym, subst, ◌∙◌, arith}
use Rattle.std.proofs.lemmas.List.{append_assoc, append-nil, get_or-drop, get_or_default, length-drop, take-append-drop, take_at}
use Rattle.std.proofs.lemmas.List.Elements.{All-append}
use Rattle.std.proofs.KnownBytes.{Appends-nil, Appends-trans, Appends-kept}
use Rattle.std.specs.Io.KnownBytes.{Appends, Keeps}
use Rattle.byte_text.specs.TextLines.{RawLine, lines_of}
use Rattle.module_commands.specs.declared.ended.Ended.{Ended}
use Rattle.module_commands.specs.declared.fault.PlayFault.{PlayFault}
use Rattle.module_commands.specs.declared.fault.PlayFault.TheVariants as fault
use Rattle.filter_chain.specs.Hosting.{Ghosts, Stored}
use Rattle.script_play.specs.declared.player.Player.{Player}
use Rattle.module_commands.specs.Streams.{WritesText}
use Rattle.script_play.specs.Playing.{IsCutOfSome, AddsText, PlaysOn, PlaysLines, PlaysBytes, EndsLines, PlaysEnd}
use Rattle.script_play.specs.Sessions.{IsAt, TakesOn, EndsOn}
use Rattle.script_play.specs.Written.{Stage, TakesAll, IsSomeOf, EndsAt, IsWhole, HasNoLf}
use Rattle.script_play.proofs.ScriptLines.{whole_append, ends_at}

-- Lines are played.

-- all answers were written
pub played_all : {R : Type 0} {g : Ghosts R Stored} (old new : Player R g) (w v : Option (List ℕ)) (before after : List ℕ) (ls : List RawLine) (s : Stage) → before ≡ []
    → TakesOn old new before after ls s → Appends w v after → PlaysOn old new w v ls s
played_all old new w v before after ls s none t wrote =
    record { told = t.told; stage = t.stage; takes = t.takes; at = t.at; lines = t.lines; added = subst (Appends w v) (t.added ∙ ap (λ l. l ++ t.told) none) wrote }

abbrev pub SomeTaken : ℕ → List RawLine → Stage → List ℕ → List ℕ → Type 0
SomeTaken number ls s before after = (n : ℕ) × (told : List ℕ) × (last : Stage) × TakesAll number (take n ls) s told last × (after ≡ before ++ told)

some_of : (number : ℕ) (ls : List RawLine) (s : Stage) (before after : List ℕ) → before ≡ [] → SomeTaken number ls s before after → IsSomeOf number ls s after
some_of number ls s before after none t =
    let told_is : t.1 ≡ after = sym (t.4 ∙ ap (λ l. l ++ t.1) none) in
    record { count = t.0; stage = t.2; takes = subst (λ l. TakesAll number (take t.0 ls) s l t.2) told_is t.3 }

-- those of the lines that were taken
pub played_some : (number : ℕ) (w v : Option (List ℕ)) (before after : List ℕ) (ls : List RawLine) (s : Stage) → before ≡ [] → SomeTaken number ls s before after → Appends w v after
    → AddsText w v (IsSomeOf number ls s)
played_some number w v before after ls s none t wrote = (after, some_of number ls s before after none t, wrote)

all_some : (number : ℕ) (ls : List RawLine) (s last : Stage) (told : List ℕ) → TakesAll number ls s told last → IsSomeOf number ls s told
all_some number ls s last told takes =
    record { count = length ls; stage = last; takes = subst (λ l. TakesAll number l s told last) (sym (ap (take (length ls)) (sym (append-nil ls)) ∙ take_at ls [] (length ls) refl)) takes }

-- behind a front that is not all of it something is left
some_left : (text : List ℕ) (n : ℕ) → n < length text → drop n text ≢ []
some_left text n lt none = (let long = length-drop n text in let empty : length (drop n text) ≡ 0 = ap (λ (xs : List ℕ). length xs) none in omega (arith, long, empty, lt))

cut_some : (number : ℕ) (w v : Option (List ℕ)) (text : List ℕ) (ls : List RawLine) (s : Stage) (n : ℕ) → n < length text → IsSomeOf number ls s text → Appends w v (take n text)
    → AddsText w v (IsCutOfSome number ls s)
cut_some number w v text ls s n lt some wrote = (take n text, (drop n text, some_left text n lt, subst (IsSomeOf number ls s) (sym (take-append-drop n text)) some), wrote)

-- what a player left of its lines
abbrev pub Took : {R : Type 0} {g : Ghosts R Stored} → Player R g → Player R g → List ℕ → List ℕ → List RawLine → Stage → Result (Unit {0}) PlayFault → Type 0
Took old new before after ls s (Ok u) = TakesOn old new before after ls s
Took old new before after ls s (Err e) = SomeTaken (old.lines + 1) ls s before after

took_some : {R : Type 0} {g : Ghosts R Stored} {E : Type 0} (old new : Player R g) (before after : List ℕ) (ls : List RawLine) (s : Stage) (r : Result (Unit {0}) E) → before ≡ []
    → IfOk r (λ u. TakesOn old new before after ls s) → IfErr r (λ e. SomeTaken (old.lines + 1) ls s before after) → IsSomeOf (old.lines + 1) ls s after
took_some old new before after ls s (Ok u) none t other =
    subst (IsSomeOf (old.lines + 1) ls s) (sym (t.added ∙ ap (λ l. l ++ t.told) none)) (all_some (old.lines + 1) ls s t.stage t.told t.takes)
took_some old new before after ls s (Err e) none other t = some_of (old.lines + 1) ls s before after none t

-- nothing was written
kept_none : (w v : Option (List ℕ)) → Keeps w v → Appends w v []
kept_none w v kept = Appends-kept w w v [] (Appends-nil w) kept

none_some : (number : ℕ) (w v : Option (List ℕ)) (ls : List RawLine) (s : Stage) → Keeps w v → AddsText w v (IsSomeOf number ls s)
unfolding TakesAll
none_some number w v ls s kept = ([], record { count = 0; stage = s; takes = (refl, refl) }, kept_none w v kept)

-- not all answers were written
pub played_cut : {R : Type 0} {g : Ghosts R Stored} {E : Type 0} (old new : Player R g) (w v : Option (List ℕ)) (before after text : List ℕ) (ls : List RawLine) (s : Stage) (r : Result (Unit {0}) E)
    (f : PlayFault) → before ≡ []
    → IfOk r (λ u. TakesOn old new before after ls s) → IfErr r (λ e. SomeTaken (old.lines + 1) ls s before after) → text ≡ after → WritesText {T = Unit {0}} w v text (Err f)
    → PlaysLines old new w v ls s (Err f)
played_cut old new w v before after text ls s r fault.Read none ok err same wrote = wrote
played_cut old new w v before after text ls s r fault.NoMemory none ok err same kept = none_some (old.lines + 1) w v ls s kept
played_cut old new w v before after text ls s r fault.Write none ok err same (n, lt, wrote) =
    let some = subst (IsSomeOf (old.lines + 1) ls s) (sym same) (took_some old new before after ls s r none ok err) in
    cut_some (old.lines + 1) w v text ls s n lt some wrote

-- The play ends.

pub ended_all : (w v : Option (List ℕ)) (before after : List ℕ) (s : Stage) (e : Ended) → before ≡ [] → EndsOn before after s e → Appends w v after → EndsLines w v s (Ok e)
ended_all w v before after s e none ends wrote =
    let told_is : ends.0 ≡ after = sym (ends.2 ∙ ap (λ l. l ++ ends.0) none) in
    (after, subst (λ l. EndsAt s l e) told_is ends.1, wrote)

pub ended_none : (w v : Option (List ℕ)) (before after : List ℕ) (s : Stage) → before ≡ [] → after ≡ before → Appends w v after → EndsLines w v s (Err fault.NoMemory)
ended_none w v before after s none same wrote = subst (Appends w v) (same ∙ none) wrote

cut_end : (w v : Option (List ℕ)) (after : List ℕ) (s : Stage) (e : Ended) (n : ℕ) → n < length after → EndsAt s after e → Appends w v (take n after) → EndsLines w v s (Err fault.Write)
cut_end w v after s e n lt ends wrote = (take n after, (drop n after, some_left after n lt, (e, subst (λ l. EndsAt s l e) (sym (take-append-drop n after)) ends)), wrote)

pub ended_cut : {E : Type 0} (w v : Option (List ℕ)) (before after text : List ℕ) (s : Stage) (r : Result Ended E) (f : PlayFault) → before ≡ [] → IfOk r (λ e. EndsOn before after s e)
    → IfErr r (λ e. after ≡ before) → text ≡ after → WritesText {T = Unit {0}} w v text (Err f) → EndsLines w v s (Err f)
ended_cut w v before after text s r fault.Read none ends quiet same wrote = wrote
ended_cut w v before after text s r fault.NoMemory none ends quiet same kept = kept_none w v kept
ended_cut w v before after text s (Ok e) fault.Write none ends quiet same (n, lt, wrote) =
    let told_is : ends.0 ≡ text = sym (same ∙ ends.2 ∙ ap (λ l. l ++ ends.0) none) in
    cut_end w v text s e n lt (subst (λ l. EndsAt s l e) told_is ends.1) wrote
ended_cut w v before after text s (Err e) fault.Write none ends quiet same (n, lt, wrote) =
    absurd (let empty : length text ≡ 0 = ap (λ (xs : List ℕ). length xs) (same ∙ quiet ∙ none) in omega (arith, lt, empty))

-- The last lines are played, and then the play ends.
pub ends_behind : {R : Type 0} {g : Ghosts R Stored} (old mid : Player R g) (w u v : Option (List ℕ)) (ls : List RawLine) (s : Stage) (r : Result Ended PlayFault) → (k : PlaysOn old mid w u ls s)
    → EndsLines u v k.stage r → PlaysEnd (old.lines + 1) w v ls s r
ends_behind old mid w u v ls s (Ok e) k (text, ends, added) =
    (k.told ++ text, record { stage = k.stage; answers = k.told; last = text; takes = k.takes; ends = ends; written = refl }, Appends-trans w u v k.told text k.added added)
ends_behind old mid w u v ls s (Err fault.Read) k none = none
ends_behind old mid w u v ls s (Err fault.NoMemory) k added =
    (k.told, all_some (old.lines + 1) ls s k.stage k.told k.takes, subst (Appends w v) (append-nil k.told) (Appends-trans w u v k.told [] k.added added))
ends_behind old mid w u v ls s (Err fault.Write) k (text, (more, some, (e, ends)), added) = (
  k.told ++ text,
  (
    more,
    some,
    inr (
      e,
      record {
        stage = k.stage;
        answers = k.told;
        last = text ++ more;
        takes = k.takes;
        ends = ends;
        written = append_assoc k.told text more;
      },
    ),
  ),
  Appends-trans w u v k.told text k.added added,
)

pub ends_failed : {R : Type 0} {g : Ghosts R Stored} (old new : Player R g) (w v : Option (List ℕ)) (ls : List RawLine) (s : Stage) (f : PlayFault) → PlaysLines old new w v ls s (Err f)
    → PlaysEnd (old.lines + 1) w v ls s (Err f)
ends_failed old new w v ls s fault.Read k = k
ends_failed old new w v ls s fault.NoMemory k = k
ends_failed old new w v ls s fault.Write (text, (more, left, some), added) = (text, (more, left, inl some), added)

-- Bytes are taken.

pub none_played : {R : Type 0} {g : Ghosts R Stored} (p : Player R g) (w v : Option (List ℕ)) (s : Stage) → IsAt p s → Appends w v [] → PlaysOn p p w v (lines_of []) s
unfolding lines_of TakesAll
none_played p w v s at added =
    record { told = []; stage = s; takes = (refl, refl); at = at; lines = λ _. omega arith; added = added }

pub bytes_unheld : {R : Type 0} {g : Ghosts R Stored} (p : Player R g) (w : Option (List ℕ)) (bytes held : List ℕ) (s : Stage) → IsAt p s → PlaysBytes p p w w bytes held s (Err fault.NoMemory)
unfolding lines_of TakesAll
bytes_unheld p w bytes held s at =
    ([], bytes, inl refl, refl, ([], record { count = 0; stage = s; takes = (refl, refl) }, Appends-nil w))

-- what was held back and the front of the bytes end a line
whole_front : (held bytes : List ℕ) (n : ℕ) → 0 < n → n ≤ length bytes → get_or bytes (n - 1) 0 ≡ 10 → IsWhole (held ++ take n bytes)
whole_front held bytes n some within lf = inr (whole_append held (take n bytes) (ends_at bytes n some within lf))

front_is : (held bytes : List ℕ) (n : ℕ) → held ++ bytes ≡ (held ++ take n bytes) ++ drop n bytes
front_is held bytes n = ap (λ l. held ++ l) (sym (take-append-drop n bytes)) ∙ sym (append_assoc held (take n bytes) (drop n bytes))

pub bytes_failed : {R : Type 0} {g : Ghosts R Stored} (old new : Player R g) (w v : Option (List ℕ)) (held bytes whole left : List ℕ) (n : ℕ) (s : Stage) (f : PlayFault) → 0 < n → n ≤ length bytes
    → get_or bytes (n - 1) 0 ≡ 10 → whole ≡ held ++ take n bytes → PlaysLines old new w v (lines_of whole) s (Err f) → PlaysBytes old new w v (held ++ bytes) left s (Err f)
bytes_failed old new w v held bytes whole left n s fault.Read some within lf is k = k
bytes_failed old new w v held bytes whole left n s fault.NoMemory some within lf is k =
    (whole, drop n bytes, subst IsWhole (sym is) (whole_front held bytes n some within lf), front_is held bytes n ∙ ap (λ l. l ++ drop n bytes) (sym is), k)
bytes_failed old new w v held bytes whole left n s fault.Write some within lf is k =
    (whole, drop n bytes, subst IsWhole (sym is) (whole_front held bytes n some within lf), front_is held bytes n ∙ ap (λ l. l ++ drop n bytes) (sym is), k)

-- The whole lines were played, and this is held back, before the rest.
pub record JoinedLines {R : Type 0} {g : Ghosts R Stored} (old new : Player R g) (w v : Option (List ℕ)) (all held rest : List ℕ) (s : Stage) : Type 0 where
  pub whole : List ℕ
  pub is_whole : IsWhole whole
  pub split : all ≡ whole ++ (held ++ rest)
  pub plays : PlaysOn old new w v (lines_of whole) s
  pub unended : HasNoLf (held ++ rest)

-- no LF stands from here on
no_lf : (bytes : List ℕ) (n : ℕ) → ((k : ℕ) → n ≤ k → k < length bytes → get_or bytes k 0 ≢ 10) → HasNoLf (drop n bytes)
no_lf bytes n none = λ k d less.
    let long = length-drop n bytes in
    let here : get_or (drop n bytes) k d ≡ get_or bytes (n + k) 0 = get_or-drop n bytes k d ∙ get_or_default bytes (n + k) d 0 (omega (arith, less, long)) in
    subst (λ b. b ≢ 10) (sym here) (none (n + k) (omega arith) (omega (arith, less, long)))

pub joined_none : {R : Type 0} {g : Ghosts R Stored} (p new : Player R g) (w v : Option (List ℕ)) (held bytes kept : List ℕ) (n : ℕ) (s : Stage) → HasNoLf held
    → ((k : ℕ) → n ≤ k → k < length bytes → get_or bytes k 0 ≢ 10) → n ≤ 0 → IsAt p s → new ≡ p → v ≡ w → kept ≡ held → JoinedLines p new w v (held ++ bytes) kept (drop n bytes) s
joined_none p new w v held bytes kept n s unended lacks none at same wrote is =
    let zero : n ≡ 0 = omega (arith, none) in
    let P : Player _ _ → Option (List ℕ) → Type 0 = λ q o. PlaysOn p q w o (lines_of []) s in
    record {
      whole = [];
      is_whole = inl refl;
      split = ap (λ k. held ++ drop k bytes) (sym zero) ∙ ap (λ l. l ++ drop n bytes) (sym is);
      plays = subst (λ q. P q v) (sym same) (subst (P p) (sym wrote) (none_played p w w s at (Appends-nil w)));
      unended = subst (λ l. HasNoLf (l ++ drop n bytes)) (sym is) (All-append (λ b. b ≢ 10) held (drop n bytes) unended (no_lf bytes n lacks));
    }

pub joined_some : {R : Type 0} {g : Ghosts R Stored} (old new now : Player R g) (w v u : Option (List ℕ)) (held bytes whole kept : List ℕ) (n : ℕ) (s : Stage)
    → ((k : ℕ) → n ≤ k → k < length bytes → get_or bytes k 0 ≢ 10) → 0 < n
    → n ≤ length bytes → get_or bytes (n - 1) 0 ≡ 10 → whole ≡ held ++ take n bytes → PlaysOn old now w u (lines_of whole) s → new ≡ now → v ≡ u → kept ≡ []
    → JoinedLines old new w v (held ++ bytes) kept (drop n bytes) s
joined_some old new now w v u held bytes whole kept n s lacks some within lf is k same wrote none =
    let P : Player _ _ → Option (List ℕ) → Type 0 = λ q o. PlaysOn old q w o (lines_of whole) s in
    record {
      whole = whole;
      is_whole = subst IsWhole (sym is) (whole_front held bytes n some within lf);
      split = front_is held bytes n ∙ ap (λ l. l ++ drop n bytes) (sym is) ∙ ap (λ l. whole ++ (l ++ drop n bytes)) (sym none);
      plays = subst (λ q. P q v) (sym same) (subst (P now) (sym wrote) k);
      unended = subst (λ l. HasNoLf (l ++ drop n bytes)) (sym none) (no_lf bytes n lacks);
    }

-- what is left was held back
pub joined_held : {R : Type 0} {g : Ghosts R Stored} (old new : Player R g) (w v : Option (List ℕ)) (all held rest left : List ℕ) (s : Stage) (u : Unit {0}) → JoinedLines old new w v all held rest s
    → left ≡ held ++ rest → PlaysBytes old new w v all left s (Ok u)
joined_held old new w v all held rest left s u j is = (j.whole, j.is_whole, j.split ∙ ap (λ l. j.whole ++ l) (sym is), j.plays, subst HasNoLf (sym is) j.unended)

-- there was no memory for what is left
pub joined_lost : {R : Type 0} {g : Ghosts R Stored} (old new : Player R g) (w v : Option (List ℕ)) (all held rest left : List ℕ) (s : Stage) → JoinedLines old new w v all held rest s
    → PlaysBytes old new w v all left s (Err fault.NoMemory)
joined_lost old new w v all held rest left s j =
    let k = j.plays in
    (j.whole, held ++ rest, j.is_whole, j.split, (k.told, all_some (old.lines + 1) (lines_of j.whole) s k.stage k.told k.takes, k.added))
