-- A text that is read as a module is a text of it.
use Rattle.std.proofs.Common.{◌≡◌, ℕ, zero, suc, ◌+◌, ◌<◌, ◌≤◌, true, nat_lt, List, [], ◌∷◌, ◌++◌, length, take, map, Some, Result, Ok, Err, refl, sym, ◌∙◌, ap, subst, arith, append_assoc, take_all}
use Rattle.std.proofs.Common.{length-append}
use Rattle.std.specs.Prelude.{All, codes, slice_get}
use Rattle.std.proofs.lemmas.Bool.{ltb-false}
use Rattle.std.proofs.lemmas.List.{length-map}
use Rattle.module_lang.specs.Assembling.{assembling, draft_read, program_of, is_end}
use Rattle.byte_text.specs.Bytes.{all_printable}
use Rattle.module_lang.specs.Drafts.{empty_draft}
use Rattle.module_lang.specs.Codes.{◌>>=◌}
use Rattle.module_lang.specs.Entries.{IsDraft, entered}
use Rattle.module_lang.specs.Lines.{line_taken, taken, line_read}
use Rattle.module_lang.specs.Handlers.{handler_resolved, jump_fault, step_code}
use Rattle.module_code.specs.Program.{Program, program}
use Rattle.module_lang.specs.Texts.{AreDistinct, CodeLine, IsCode, IsTextOf, instrs, joined, labels_from, module_texts, pool_texts, brigade_texts, statements}
use Rattle.module_lang.specs.declared.draft.Draft.{Draft}
use Rattle.module_lang.specs.declared.draft.HandlerLines.{HandlerLines}
use Rattle.module_lang.specs.declared.draft.Label.{Label}
use Rattle.module_code.specs.declared.part.Part.{Part}
use Rattle.module_code.specs.declared.part.Part.TheVariants as part
use Rattle.module_code.specs.declared.instr.Instr.{Instr}
use Rattle.module_code.specs.declared.instr.PoolRef.{PoolRef}
use Rattle.module_lang.specs.declared.lines.Line.{Line}
use Rattle.module_lang.specs.declared.refusal.Code.{Code}
use Rattle.module_lang.specs.declared.refusal.AsmRefusal.{AsmRefusal}
use Rattle.module_lang.proofs.DraftLaws.{entered_keeps}
use Rattle.module_lang.proofs.FoundLabels.{labels_distinct, lines_aimed}
use Rattle.module_lang.proofs.FoundLaws.{PartTold, served}
use Rattle.module_lang.proofs.RawLines.{AreTexted, Built, Raw, raw_labels, raw_steps, raw_text}
use Rattle.module_lang.proofs.FoundModule.{instrs_same, labels_good, labels_marked, line_of, lines_spelled, texts_same}
use Rattle.module_lang.proofs.FoundText.{cut_lines, fold_told}
use Rattle.module_lang.proofs.LabelLaws.{Marked, HaveThoseNames, named-append, named_of, names_of}
use Rattle.module_lang.proofs.LineLaws.{bind_ok}
use Rattle.module_lang.proofs.SaysLaws.{line_says}
use Rattle.module_lang.proofs.ModuleLaws.{labels_below, module_of, resolved}
use Rattle.module_lang.proofs.RunLaws.{Fold}

abbrev ready : Program → Result Program AsmRefusal
ready m = Ok m

no_item : (k : ℕ) (q : PoolRef) → slice_get [] k ≡ Some q → ⊥
no_item zero q e = cc e
no_item (suc k) q e = cc e

empty_sound : IsDraft empty_draft
empty_sound = record {
  count = omega arith;
  pools = omega arith;
  brigades = omega arith;
  parents = λ k q e. absurd (no_item k q e);
  homes = λ k q e. absurd (no_item k q e);
  texts = refl;
  few = omega arith;
  short = λ k d lt. absurd (omega arith);
  bytes = λ k d lt. absurd (omega arith);
  none = refl;
  opening = λ k d lt. absurd (omega arith);
  init = λ k d lt. absurd (omega arith);
  main = λ k d lt. absurd (omega arith);
}

-- a line that is taken keeps a draft sound
pub taken_sound : (d : Draft) (n : ℕ) (l : List ℕ) (x : Draft) → IsDraft d → line_taken d n l ≡ Ok x → IsDraft x
unfolding line_taken
taken_sound d n l x s h = said (line_read d l) refl h
  where
    said : (r : Result Line Code) → line_read d l ≡ r → taken d n l r ≡ Ok x → IsDraft x
    said (Err c) q h = absurd (cc h)
    said (Ok y) q h = let same : entered d n l y ≡ x = cc h in subst IsDraft same (entered_keeps d n l y s (line_says d l y q))

fold_sound : (lines : List (List ℕ)) (d : Draft) (n : ℕ) (e : Draft) → IsDraft d → Fold d n lines e → IsDraft e
fold_sound [] d n e s f = subst IsDraft f s
fold_sound (l ∷ ls) d n e s f = fold_sound ls f.0 (n + 1) e (taken_sound d n l f.0 s f.1) f.2

-- a draft that a text was read as
record DraftRead (text : List ℕ) (d : Draft) : Type 0 where
  lines : List (List ℕ)
  whole : text ≡ joined lines
  small : length text ≤ 1048576
  clean : All (λ l. all_printable l ≡ true) lines
  told : PartTold part.End d (statements lines)
  sound : IsDraft d

ended : (q : Part) (d : Draft) (ss : List (List ℕ)) → is_end q ≡ true → PartTold q d ss → PartTold part.End d ss
ended part.Start d ss h t = absurd (cc h)
ended part.Pools d ss h t = absurd (cc h)
ended part.Brigades d ss h t = absurd (cc h)
ended part.Open d ss h t = absurd (cc h)
ended part.Init d ss h t = absurd (cc h)
ended part.Main d ss h t = absurd (cc h)
ended part.End d ss h t = t

none_told : PartTold part.Start empty_draft []
none_told = let none : Built [] empty_draft.open = record { labels = refl; steps = refl; lines = tt } in record {
  a = [];
  b = [];
  c = [];
  first = none;
  second = none;
  third = none;
  text = refl;
  clear = (refl, refl, refl, refl, refl);
  texts_a = tt;
  texts_b = tt;
  texts_c = tt;
}

read_as : (text : List ℕ) (d : Draft) → draft_read text ≡ Ok d → DraftRead text d
unfolding draft_read
read_as text d h =
    let c = cut_lines (take 1048576 text) (nat_lt 1048576 (length text)) empty_draft 1 [] d h in
    let small = ltb-false 1048576 (length text) c.short in
    let f = fold_told c.lines empty_draft 1 d [] c.fold none_told in
    record {
      lines = c.lines;
      whole = sym (take_all 1048576 text small) ∙ c.whole;
      small = small;
      clean = f.0;
      told = ended d.part d (statements c.lines) c.ended f.1;
      sound = fold_sound c.lines empty_draft 1 d empty_sound c.fold;
    }

-- a handler's lines of code, as a grammar has them
abbrev body_of : ℕ → HandlerLines → List Raw → List CodeLine
body_of base h rs = map (line_of base h.labels) rs

record HasLines (m : Program) (bs : List (List ℕ × ℕ)) (h : HandlerLines) (rs : List Raw) (code after : List Instr) : Type 0 where
  whole : after ≡ code ++ instrs (body_of (length code) h rs)
  good : IsCode m (length code) (body_of (length code) h rs)
  named : HaveThoseNames h.labels (labels_from (length code) (body_of (length code) h rs))
  distinct : AreDistinct (bs ++ labels_from (length code) (body_of (length code) h rs))

handler_lines : (m : Program) (before : List Label) (bs : List (List ℕ × ℕ)) (h : HandlerLines) (rs : List Raw) (code after : List Instr) → Built rs h → handler_resolved before h code ≡ Ok after
    → HaveThoseNames before bs → AreDistinct bs → AreTexted m.texts rs → HasLines m bs h rs code after
handler_lines m before bs h rs code after b e n d w =
    let r = resolved before h code after e in
    let base = length code in
    let lines = body_of base h rs in
    let xs = labels_from base lines in
    let size : length (instrs lines) ≡ length h.steps = ap length (instrs_same base h.labels rs) ∙ length-map (raw_steps rs) (step_code base h.labels) ∙ sym (ap length b.steps) in
    let marked : Marked base h.labels xs = subst (λ y. Marked base y xs) (sym b.labels) (labels_marked base 0 base h.labels rs (omega arith) b.lines) in
    let named = named_of base h.labels xs marked in
    let below : All (λ l. l.place < length h.steps) (raw_labels rs) = subst (λ y. All (λ l. l.place < length h.steps) y) b.labels (labels_below before (length h.steps) h.labels r.labels) in
    let good = labels_good base 0 base (base + length (instrs lines)) (length h.steps) h.labels h.labels rs (omega arith) (ap (λ k. base + k) size) b.lines below in
    record {
      whole = r.whole ∙ ap (λ x. code ++ x) (ap (map (step_code base h.labels)) b.steps ∙ sym (instrs_same base h.labels rs));
      good = record {
        labels = good;
        aimed = lines_aimed base 0 h.labels xs rs marked (names_of (base + length (instrs lines)) xs good) b.lines (ap (jump_fault h.labels) (sym b.steps) ∙ r.jumps);
        texts = lines_spelled m base h.labels rs w;
      };
      named = named;
      distinct = labels_distinct before h.labels bs xs (length h.steps) n named d r.labels;
    }

nested : {X : Type 0} (p b o i m e : List X) → ((((p ++ b) ++ o) ++ i) ++ m) ++ e ≡ p ++ (b ++ (o ++ (i ++ (m ++ e))))
nested p b o i m e = append_assoc (((p ++ b) ++ o) ++ i) m e ∙ append_assoc ((p ++ b) ++ o) i (m ++ e) ∙ append_assoc (p ++ b) o (i ++ (m ++ e)) ∙ append_assoc p b (o ++ (i ++ (m ++ e)))

-- the statements of a draft are those of a module with its declarations and code
told_again : (d : Draft) (m : Program) (a b c : List Raw) (i j k : ℕ) → m.pools ≡ d.pools → m.brigades ≡ d.brigades
    → served d a b c ++ codes "end" ∷ [] ≡ module_texts m (body_of i d.open a) (body_of j d.init b) (body_of k d.main c)
told_again d m a b c i j k p q =
    rw (texts_same i d.open.labels a, texts_same j d.init.labels b, texts_same k d.main.labels c, p, q) (nested (codes "module 1" ∷ pool_texts 0 d.pools) (brigade_texts 0 d.brigades)
    (codes "open" ∷ map raw_text a) (codes "init" ∷ map raw_text b) (codes "main" ∷ map raw_text c) (codes "end" ∷ []))

of_draft : (text : List ℕ) (d : Draft) (x y z : List Instr) → DraftRead text d → handler_resolved [] d.open [] ≡ Ok x → handler_resolved d.open.labels d.init x ≡ Ok y
    → handler_resolved (d.open.labels ++ d.init.labels) d.main y ≡ Ok z → IsTextOf text (program d.pools d.brigades d.texts z (length x) (length y))
of_draft text d x y z r p q s =
    let m = program d.pools d.brigades d.texts z (length x) (length y) in
    let t = r.told in
    let one = handler_lines m [] [] d.open t.a [] x t.first p tt tt t.texts_a in
    let first = body_of 0 d.open t.a in
    let two = handler_lines m d.open.labels (labels_from 0 first) d.init t.b x y t.second q one.named one.distinct t.texts_b in
    let second = body_of (length x) d.init t.b in
    let three = handler_lines m (d.open.labels ++ d.init.labels) (labels_from 0 first ++ labels_from (length x) second) d.main t.c y z t.third s
    (named-append d.open.labels d.init.labels (labels_from 0 first) (labels_from (length x) second) one.named two.named) two.distinct t.texts_c in
    let third = body_of (length y) d.main t.c in
    record {
      sound = module_of d [] x y z refl r.sound p q s;
      lines = r.lines;
      whole = r.whole;
      small = r.small;
      clean = r.clean;
      first = first;
      second = second;
      third = third;
      spelled = t.text ∙ told_again d m t.a t.b t.c 0 (length x) (length y) refl refl;
      code = three.whole ∙ ap (λ u. u ++ instrs third) (two.whole ∙ ap (λ u. u ++ instrs second) one.whole);
      inits = ap length one.whole;
      mains = ap length two.whole ∙ length-append x (instrs second);
      opening = one.good;
      initial = two.good;
      serving = three.good;
      distinct = three.distinct;
    }

-- what is taken is a text of the grammar
pub text_found : (text : List ℕ) (m : Program) → assembling text ≡ Ok m → IsTextOf text m
unfolding assembling program_of
text_found text m h =
    let a = bind_ok (draft_read text) program_of m h in
    let d = a.0 in
    let made = λ (x y z : List Instr). ready (program d.pools d.brigades d.texts z (length x) (length y)) in
    let more = λ (x y : List Instr). handler_resolved (d.open.labels ++ d.init.labels) d.main y >>= made x y in
    let one = bind_ok (handler_resolved [] d.open []) (λ x. handler_resolved d.open.labels d.init x >>= more x) m a.2 in
    let two = bind_ok (handler_resolved d.open.labels d.init one.0) (more one.0) m one.2 in
    let three = bind_ok (handler_resolved (d.open.labels ++ d.init.labels) d.main two.0) (made one.0 two.0) m two.2 in
    let same : program d.pools d.brigades d.texts three.0 (length one.0) (length two.0) ≡ m = cc three.2 in
    subst (IsTextOf text) same (of_draft text d one.0 two.0 three.0 (read_as text d a.1) one.1 two.1 three.1)
