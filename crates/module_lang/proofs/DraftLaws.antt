-- What each line keeps true of a draft.
use Rattle.std.proofs.Common.{◌≡◌, ℕ, ◌+◌, ◌<◌, Bool, true, false, ◌||◌, ◌≤◌, not, ltb, List, [], ◌∷◌, ◌++◌, length, length-append, append-nil, append_assoc, inl, inr, ◌⊎◌, Some, Ok, refl, sym, ◌∙◌}
use Rattle.std.proofs.Common.{ap, subst, arith}
use Rattle.std.specs.Prelude.{slice_get, All, is_some}
use Rattle.std.specs.List.{range_with_len}
use Rattle.std.proofs.lemmas.Bool.{and_parts, or_parts, eqb-true, ltb-true, ltb-false, lt-ltb, not-false}
use Rattle.std.proofs.lemmas.List.Elements.{All-push, filter_map-append}
use Rattle.module_lang.specs.Codes.{◌>>=◌, unless}
use Rattle.module_lang.specs.Drafts.{with_more, with_step, step_added, label_added, with_line}
use Rattle.module_lang.specs.Entries.{IsDraft, IsDraftStep, early_steps, entered, from_quote, item_entered, step_numbers, step_text, step_texts, step_entered}
use Rattle.byte_text.specs.Bytes.{unindented}
use Rattle.module_lang.specs.Lines.{instruction_count, is_due, judged, op_judged, declaration_judged, is_next, is_declared, place_is_declared, has_equal_brigades, has_long_text, is_long_text}
use Rattle.module_lang.specs.Lines.{are_declared, is_misplaced, has_room, has_text}
use Rattle.module_lang.specs.Operands.{of_kind, operand_kind_is_text, operand_place}
use Rattle.module_code.specs.Program.{text_of_instr}
use Rattle.byte_text.specs.Quoted.{quoted, text_of}
use Rattle.module_code.specs.Spelling.{operands_of}
use Rattle.module_code.specs.Words.{word_kinds, word_text, op_kinds, op_text}
use Rattle.module_lang.specs.declared.draft.Draft.{Draft}
use Rattle.module_lang.specs.declared.draft.Label.{Label}
use Rattle.module_code.specs.declared.part.Part.{Part}
use Rattle.module_code.specs.declared.part.Part.TheVariants as part
use Rattle.module_lang.specs.declared.draft.DraftStep.{DraftStep}
use Rattle.module_lang.specs.declared.draft.HandlerLines.{HandlerLines}
use Rattle.module_code.specs.declared.instr.Instr.{Instr}
use Rattle.module_code.specs.declared.instr.Instr.TheVariants as instr
use Rattle.module_code.specs.declared.instr.PoolRef.{PoolRef}
use Rattle.module_code.specs.declared.instr.PoolRef.TheVariants as pool
use Rattle.module_code.specs.declared.instr.VarRef.TheVariants as variable
use Rattle.module_lang.specs.declared.lines.Line.{Line}
use Rattle.module_lang.specs.declared.lines.Line.TheVariants as line
use Rattle.module_code.specs.declared.operand.Operand.{Operand}
use Rattle.module_code.specs.declared.operand.Operand.TheVariants as operand
use Rattle.module_code.specs.declared.operand.Operands.{Operands}
use Rattle.module_lang.specs.declared.refusal.Code.TheVariants as code
use Rattle.module_code.specs.declared.word.OperandKind.TheVariants as kind
use Rattle.module_code.specs.declared.word.Op.{Op}
use Rattle.module_code.specs.declared.word.Word.{Word}
use Rattle.module_code.specs.declared.word.Word.TheVariants as word
use Rattle.module_lang.proofs.ArgsFound.{AreFound, ops_found, word_unquoted}
use Rattle.module_lang.proofs.InverseLaws.{WordLine, TextFound}
use Rattle.module_lang.proofs.LineLaws.{bind_ok, unless_ok}
use Rattle.byte_text.proofs.ListLaws.{empty_list, range_more}
use Rattle.module_lang.proofs.OperandLaws.{kinds_read}
use Rattle.module_lang.proofs.QuoteLaws.{quote_unindented}
use Rattle.byte_text.proofs.QuoteAgain.{spelled_bytes}
use Rattle.module_lang.proofs.SaysLaws.{Says}
use Rattle.module_lang.proofs.SliceLaws.{none_of, pushed_item}

-- a draft with another part, other labels and lines
abbrev turned : Draft → Part → List Label → List Label → List Label → ℕ → ℕ → ℕ → Draft
turned d p a b c x y z = record d {
  part = p;
  «open» = record d.open { labels = a; line = x };
  init = record d.init { labels = b; line = y };
  main = record d.main { labels = c; line = z };
}

early_turned : (q : Part) (d : Draft) (p : Part) (a b c : List Label) (x y z : ℕ) → early_steps q (turned d p a b c x y z) ≡ early_steps q d
early_turned part.Start d p a b c x y z = refl
early_turned _ d p a b c x y z = refl

early_pools : (q : Part) (d : Draft) (pools : List PoolRef) → early_steps q (record d { pools = pools }) ≡ early_steps q d
early_pools part.Start d ps = refl
early_pools _ d ps = refl

turned_keeps : (d : Draft) (p : Part) (a b c : List Label) (x y z : ℕ) → early_steps p d ≡ 0 → IsDraft d → IsDraft (turned d p a b c x y z)
turned_keeps d p a b c x y z none s = record {
  count = s.count;
  pools = s.pools;
  brigades = s.brigades;
  parents = s.parents;
  homes = s.homes;
  texts = s.texts;
  few = s.few;
  short = s.short;
  bytes = s.bytes;
  none = early_turned p d p a b c x y z ∙ none;
  opening = s.opening;
  init = s.init;
  main = s.main;
}

label_keeps : (p : Part) (d : Draft) (n : ℕ) (name : List ℕ) → IsDraft d → IsDraft (label_added p d n name)
label_keeps part.Start d n name s = turned_keeps d d.part d.open.labels d.init.labels (with_line d.main n name).labels d.open.line d.init.line d.main.line s.none s
label_keeps part.Pools d n name s = turned_keeps d d.part d.open.labels d.init.labels (with_line d.main n name).labels d.open.line d.init.line d.main.line s.none s
label_keeps part.Brigades d n name s = turned_keeps d d.part d.open.labels d.init.labels (with_line d.main n name).labels d.open.line d.init.line d.main.line s.none s
label_keeps part.Open d n name s = turned_keeps d d.part (with_line d.open n name).labels d.init.labels d.main.labels d.open.line d.init.line d.main.line s.none s
label_keeps part.Init d n name s = turned_keeps d d.part d.open.labels (with_line d.init n name).labels d.main.labels d.open.line d.init.line d.main.line s.none s
label_keeps part.Main d n name s = turned_keeps d d.part d.open.labels d.init.labels (with_line d.main n name).labels d.open.line d.init.line d.main.line s.none s
label_keeps part.End d n name s = turned_keeps d d.part d.open.labels d.init.labels (with_line d.main n name).labels d.open.line d.init.line d.main.line s.none s

-- the instructions that stand in handlers that have not begun, where a word is due
abbrev comes_first : Word → Bool
comes_first word.Module = true
comes_first word.Pool = true
comes_first word.Brigade = true
comes_first word.Open = true
comes_first _ = false

early_first : (w : Word) (p : Part) (d : Draft) → comes_first w ≡ true → is_due p w ≡ true → early_steps p d ≡ instruction_count d
early_first (word.Op i) p d f h = absurd (cc f)
early_first _ part.Start d f h = refl
early_first _ part.Pools d f h = refl
early_first _ part.Brigades d f h = refl
early_first _ _ d f h = absurd (cc)

early_init : (p : Part) (d : Draft) → is_due p word.Init ≡ true → early_steps p d ≡ length d.init.steps + length d.main.steps
early_init part.Open d h = refl
early_init _ d h = absurd (cc h)

-- more pools declare what was declared
more_declared : (n : ℕ) (q : PoolRef) → place_is_declared n q ≡ true → place_is_declared (n + 1) q ≡ true
more_declared n pool.Conn h = refl
more_declared n pool.Req h = refl
more_declared n (pool.Own i) h = let low = ltb-true i n h in lt-ltb i (n + 1) (omega arith)

-- the variable that is declared next, where a kind allows eight
next_pool : (n : ℕ) (x : Operand) → of_kind kind.Pool x ≡ true → is_next n x ≡ true → n < 8
next_pool n (operand.Place (pool.Own i)) k h = let same = eqb-true i n h in let low = ltb-true i 8 k in omega arith
next_pool n _ k h = absurd (cc k)

next_brigade : (n : ℕ) (x : Operand) → of_kind kind.Brigade x ≡ true → is_next n x ≡ true → n < 8
next_brigade n (operand.Brigade i) k h = let same = eqb-true i n h in let low = ltb-true i 8 k in omega arith
next_brigade n _ k h = absurd (cc k)

-- the second operand of a declaration is a declared pool
home_declared : (n : ℕ) (x : Operand) → is_declared n 0 x ≡ true → place_is_declared n (operand_place x) ≡ true
home_declared n (operand.Place p) h = h
home_declared n _ h = refl

pub record IsDeclaration (count pools : ℕ) (o : Operands) : Type 0 where
  pub next : is_next count o.first ≡ true
  pub home : place_is_declared pools (operand_place o.second) ≡ true

pub declaration : (count pools : ℕ) (o : Operands) → declaration_judged count pools o ≡ Ok tt → IsDeclaration count pools o
declaration count pools o h =
    let a = bind_ok (unless (not (is_next count o.first)) code.WrongOperands) (λ _. unless (not (is_declared pools 0 o.second)) code.Undeclared) tt h in
    record {
      next = not-false (is_next count o.first) (unless_ok (not (is_next count o.first)) code.WrongOperands a.0 a.1);
      home = home_declared pools o.second (not-false (is_declared pools 0 o.second) (unless_ok (not (is_declared pools 0 o.second)) code.Undeclared tt a.2));
    }

pushed_few : (xs : List PoolRef) (q : PoolRef) → length xs < 8 → length (xs ++ q ∷ []) ≤ 8
pushed_few xs q low = let one = length-append xs (q ∷ []) in omega arith

-- a draft with no instruction, and with these declarations
declaring_keeps : (d : Draft) (p : Part) (ps bs : List PoolRef) → IsDraft d → instruction_count d ≡ 0 → length ps ≤ 8 → length bs ≤ 8
    → ((k : ℕ) (q : PoolRef) → slice_get ps k ≡ Some q → place_is_declared k q ≡ true)
    → ((k : ℕ) (q : PoolRef) → slice_get bs k ≡ Some q → place_is_declared (length ps) q ≡ true)
    → early_steps p (record d { part = p; pools = ps; brigades = bs }) ≡ 0 → IsDraft (record d { part = p; pools = ps; brigades = bs })
declaring_keeps d p ps bs s zero few_pools few_brigades parents homes none = record {
  count = s.count;
  pools = few_pools;
  brigades = few_brigades;
  parents = parents;
  homes = homes;
  texts = s.texts;
  few = s.few;
  short = s.short;
  bytes = s.bytes;
  none = none;
  opening = none_of (IsDraftStep ps bs part.Open) d.open.steps (omega arith);
  init = none_of (IsDraftStep ps bs part.Init) d.init.steps (omega arith);
  main = none_of (IsDraftStep ps bs part.Main) d.main.steps (omega arith);
}

pool_keeps : (d : Draft) (b : List ℕ) (o : Operands) → IsDraft d → WordLine d b word.Pool o → IsDraft (record d { pools = d.pools ++ operand_place o.second ∷ [] })
unfolding judged word_kinds
pool_keeps d b o s h =
    let q = operand_place o.second in
    let n = length d.pools in
    let say = declaration n n o h.sound in
    let one : length (d.pools ++ q ∷ []) ≡ n + 1 = length-append d.pools (q ∷ []) in
    declaring_keeps d d.part (d.pools ++ q ∷ []) d.brigades s (sym (early_first word.Pool d.part d refl h.due) ∙ s.none)
    (pushed_few d.pools q (next_pool n o.first (kinds_read (word_kinds word.Pool) h.rest o h.read).first say.next)) s.brigades
    (pushed_item (λ k x. place_is_declared k x ≡ true) d.pools q s.parents say.home) (λ k x e. subst (λ n. place_is_declared n x ≡ true) (sym one) (more_declared n x (s.homes k x e)))
    (early_pools d.part d (d.pools ++ q ∷ []) ∙ s.none)

brigade_keeps : (d : Draft) (b : List ℕ) (o : Operands) → IsDraft d → WordLine d b word.Brigade o → IsDraft (record d { part = part.Brigades; brigades = d.brigades ++ operand_place o.second ∷ [] })
unfolding judged word_kinds
brigade_keeps d b o s h =
    let q = operand_place o.second in
    let zero : instruction_count d ≡ 0 = sym (early_first word.Brigade d.part d refl h.due) ∙ s.none in
    let say = declaration (length d.brigades) (length d.pools) o h.sound in
    declaring_keeps d part.Brigades d.pools (d.brigades ++ q ∷ []) s zero s.pools
    (pushed_few d.brigades q (next_brigade (length d.brigades) o.first (kinds_read (word_kinds word.Brigade) h.rest o h.read).first say.next))
    s.parents (pushed_item (λ k x. place_is_declared (length d.pools) x ≡ true) d.brigades q s.homes say.home) zero

record IsLineSound (d : Draft) (i : Op) (o : Operands) : Type 0 where
  apart : has_equal_brigades o ≡ false
  short : has_long_text o ≡ false
  declared : are_declared (length d.pools) (length d.brigades) o ≡ true
  allowed : is_misplaced d i o ≡ false
  room : has_room d o ≡ true

sound_op : (d : Draft) (i : Op) (o : Operands) → op_judged d i o ≡ Ok tt → IsLineSound d i o
sound_op d i o h =
    let f4 = λ (_ : Unit {0}). unless (not (has_room d o)) code.TooMany in
    let f3 = λ (_ : Unit {0}). unless (is_misplaced d i o) code.Misplaced >>= f4 in
    let f2 = λ (_ : Unit {0}). unless (not (are_declared (length d.pools) (length d.brigades) o)) code.Undeclared >>= f3 in
    let f1 = λ (_ : Unit {0}). unless (has_long_text o) code.FaultyText >>= f2 in
    let a = bind_ok (unless (has_equal_brigades o) code.WrongOperands) f1 tt h in
    let b = bind_ok (unless (has_long_text o) code.FaultyText) f2 tt a.2 in
    let c = bind_ok (unless (not (are_declared (length d.pools) (length d.brigades) o)) code.Undeclared) f3 tt b.2 in
    let e = bind_ok (unless (is_misplaced d i o) code.Misplaced) f4 tt c.2 in
    record {
      apart = unless_ok (has_equal_brigades o) code.WrongOperands a.0 a.1;
      short = unless_ok (has_long_text o) code.FaultyText b.0 b.1;
      declared = not-false (are_declared (length d.pools) (length d.brigades) o) (unless_ok (not (are_declared (length d.pools) (length d.brigades) o)) code.Undeclared c.0 c.1);
      allowed = unless_ok (is_misplaced d i o) code.Misplaced e.0 e.1;
      room = not-false (has_room d o) (unless_ok (not (has_room d o)) code.TooMany tt e.2);
    }

-- a text that an instruction adds to a draft
record IsText (d : Draft) (ts : List (List ℕ)) (s : DraftStep) : Type 0 where
  few : length (d.texts ++ ts) ≤ 64
  short : All (λ t. length t ≤ 255) (d.texts ++ ts)
  bytes : All (λ t. All (λ b. b < 256) t) (d.texts ++ ts)
  numbers : range_with_len 0 (length d.texts) ++ step_numbers (s ∷ []) ≡ range_with_len 0 (length (d.texts ++ ts))

pushed : (a : List DraftStep) (t : DraftStep) → step_numbers (a ++ t ∷ []) ≡ step_numbers a ++ step_numbers (t ∷ [])
pushed a t = filter_map-append step_text a (t ∷ [])

open_numbers : (a b c : List DraftStep) (t : DraftStep) (n m : ℕ) → length b + length c ≡ 0 → step_numbers a ++ (step_numbers b ++ step_numbers c) ≡ range_with_len 0 n
    → range_with_len 0 n ++ step_numbers (t ∷ []) ≡ range_with_len 0 m → step_numbers (a ++ t ∷ []) ++ (step_numbers b ++ step_numbers c) ≡ range_with_len 0 m
open_numbers a b c t n m z e f =
    let none_b = empty_list b (omega arith) in
    let none_c = empty_list c (omega arith) in
    let before : step_numbers a ++ [] ≡ range_with_len 0 n = rw (none_b, none_c) at e in
    rw (none_b, none_c) (append-nil (step_numbers (a ++ t ∷ [])) ∙ pushed a t ∙ ap (λ x. x ++ step_numbers (t ∷ [])) (sym (append-nil (step_numbers a)) ∙ before) ∙ f)

init_numbers : (a b c : List DraftStep) (t : DraftStep) (n m : ℕ) → length c ≡ 0 → step_numbers a ++ (step_numbers b ++ step_numbers c) ≡ range_with_len 0 n
    → range_with_len 0 n ++ step_numbers (t ∷ []) ≡ range_with_len 0 m → step_numbers a ++ (step_numbers (b ++ t ∷ []) ++ step_numbers c) ≡ range_with_len 0 m
init_numbers a b c t n m z e f =
    let none_c = empty_list c z in
    let before : step_numbers a ++ (step_numbers b ++ []) ≡ range_with_len 0 n = rw none_c at e in
    let join : step_numbers a ++ step_numbers b ≡ range_with_len 0 n = ap (λ x. step_numbers a ++ x) (sym (append-nil (step_numbers b))) ∙ before in
    rw none_c (ap (λ x. step_numbers a ++ x) (append-nil (step_numbers (b ++ t ∷ [])) ∙ pushed b t) ∙ sym (append_assoc (step_numbers a) (step_numbers b) (step_numbers (t ∷ [])))
    ∙ ap (λ x. x ++ step_numbers (t ∷ [])) join ∙ f)

main_numbers : (a b c : List DraftStep) (t : DraftStep) (n m : ℕ) → step_numbers a ++ (step_numbers b ++ step_numbers c) ≡ range_with_len 0 n
    → range_with_len 0 n ++ step_numbers (t ∷ []) ≡ range_with_len 0 m → step_numbers a ++ (step_numbers b ++ step_numbers (c ++ t ∷ [])) ≡ range_with_len 0 m
main_numbers a b c t n m e f =
    let one = step_numbers (t ∷ []) in
    ap (λ x. step_numbers a ++ (step_numbers b ++ x)) (pushed c t) ∙ ap (λ x. step_numbers a ++ x) (sym (append_assoc (step_numbers b) (step_numbers c) one))
    ∙ sym (append_assoc (step_numbers a) (step_numbers b ++ step_numbers c) one) ∙ ap (λ x. x ++ one) e ∙ f

-- a draft with other handlers, and more texts
steps_kept : (d : Draft) (ts : List (List ℕ)) (o i m : HandlerLines) (t : DraftStep) → IsDraft d → IsText d ts t
    → instruction_count (record d { «open» = o; init = i; main = m }) ≤ 1024
    → step_numbers o.steps ++ (step_numbers i.steps ++ step_numbers m.steps) ≡ range_with_len 0 (length (d.texts ++ ts))
    → early_steps d.part (record d { texts = d.texts ++ ts; «open» = o; init = i; main = m }) ≡ 0
    → All (IsDraftStep d.pools d.brigades part.Open) o.steps → All (IsDraftStep d.pools d.brigades part.Init) i.steps
    → All (IsDraftStep d.pools d.brigades part.Main) m.steps
    → IsDraft (record d { texts = d.texts ++ ts; «open» = o; init = i; main = m })
steps_kept d ts o i m t s x count numbers none opening init main = record {
  count = count;
  pools = s.pools;
  brigades = s.brigades;
  parents = s.parents;
  homes = s.homes;
  texts = numbers;
  few = x.few;
  short = x.short;
  bytes = x.bytes;
  none = none;
  opening = opening;
  init = init;
  main = main;
}

-- an instruction in the handler that is being read, with its text
added_keeps : (p : Part) (i : Op) (d : Draft) (ts : List (List ℕ)) (s : DraftStep) → is_due p (word.Op i) ≡ true → instruction_count d < 1024 → IsDraft d → d.part ≡ p
    → IsDraftStep d.pools d.brigades p s → IsText d ts s → IsDraft (step_added p (record d { texts = d.texts ++ ts }) s)
added_keeps part.Open i d ts t due low s e h x =
    let one : length (d.open.steps ++ t ∷ []) ≡ length d.open.steps + 1 = length-append d.open.steps (t ∷ []) in
    let early : early_steps part.Open d ≡ 0 = ap (λ q. early_steps q d) (sym e) ∙ s.none in
    steps_kept d ts (with_more d.open t) d.init d.main t s x (omega arith)
    (open_numbers d.open.steps d.init.steps d.main.steps t (length d.texts) (length (d.texts ++ ts)) early s.texts x.numbers)
    (ap (λ q. early_steps q (step_added part.Open (record d { texts = d.texts ++ ts }) t)) e
    ∙ early) (All-push (IsDraftStep d.pools d.brigades part.Open) d.open.steps t s.opening h) s.init s.main
added_keeps part.Init i d ts t due low s e h x =
    let one : length (d.init.steps ++ t ∷ []) ≡ length d.init.steps + 1 = length-append d.init.steps (t ∷ []) in
    let early : early_steps part.Init d ≡ 0 = ap (λ q. early_steps q d) (sym e) ∙ s.none in
    steps_kept d ts d.open (with_more d.init t) d.main t s x (omega arith)
    (init_numbers d.open.steps d.init.steps d.main.steps t (length d.texts) (length (d.texts ++ ts)) early s.texts x.numbers)
    (ap (λ q. early_steps q (step_added part.Init (record d { texts = d.texts ++ ts }) t)) e
    ∙ early) s.opening (All-push (IsDraftStep d.pools d.brigades part.Init) d.init.steps t s.init h) s.main
added_keeps part.Main i d ts t due low s e h x =
    let one : length (d.main.steps ++ t ∷ []) ≡ length d.main.steps + 1 = length-append d.main.steps (t ∷ []) in
    steps_kept d ts d.open d.init (with_more d.main t) t s x (omega arith)
    (main_numbers d.open.steps d.init.steps d.main.steps t (length d.texts) (length (d.texts ++ ts)) s.texts x.numbers)
    (ap (λ q. early_steps q (step_added part.Main (record d { texts = d.texts ++ ts }) t)) e
    ∙ refl) s.opening s.init (All-push (IsDraftStep d.pools d.brigades part.Main) d.main.steps t s.main h)
added_keeps _ i d ts t due low s e h x = absurd (cc due)

-- the operands of an instruction have a text where the instruction has
pub has_text_of : (i : Instr) (n : List ℕ) (k : ℕ) → has_text (operands_of i n k) ≡ is_some (text_of_instr i)
has_text_of (instr.JNull (variable.Pool q) l) n k = refl
has_text_of (instr.JNull (variable.Brigade b) l) n k = refl
has_text_of _ n k = refl

-- an instruction has a text in its line, or none
pub text_has : (i : Op) (d : Draft) (s : List ℕ) (o : Operands) → WordLine d s (word.Op i) o → (has_text o ≡ false) ⊎ ((has_text o ≡ true) × TextFound s o.second)
unfolding word_kinds word_text
text_has i d s o h = by_kind (operand_kind_is_text (op_kinds i).second) refl
  where
    f : AreFound i o 0 h.rest
    f = ops_found i o 0 h.rest h.read

    by_kind : (b : Bool) → operand_kind_is_text (op_kinds i).second ≡ b → (has_text o ≡ false) ⊎ ((has_text o ≡ true) × TextFound s o.second)
    by_kind false e = inl (f.has ∙ e)
    by_kind true e =
        let at : text_of (quoted (from_quote s)) ≡ Some f.text = ap (λ x. text_of (quoted (from_quote x))) h.spelled ∙ f.behind e (op_text i) (word_unquoted i) in
        inr (f.has ∙ e, record { text = f.text; found = at; len = (f.right e).1; bytes = spelled_bytes f.spelled f.text (f.right e).0 })

without_text : (d : Draft) (n : ℕ) (i : Op) (o : Operands) → IsDraft d → has_text o ≡ false → IsText d [] (record { line = n; op = i; operands = o; text = length d.texts })
without_text d n i o s e = record {
  few = rw (append-nil d.texts) s.few;
  short = rw (append-nil d.texts) s.short;
  bytes = rw (append-nil d.texts) s.bytes;
  numbers = rw (e, append-nil d.texts) (append-nil (range_with_len 0 (length d.texts)));
}

with_text : (d : Draft) (n : ℕ) (i : Op) (o : Operands) (x : List ℕ) → IsDraft d → has_text o ≡ true → length x ≤ 255 → All (λ b. b < 256) x → length d.texts < 64
    → IsText d (x ∷ []) (record { line = n; op = i; operands = o; text = length d.texts })
with_text d n i o x s e low bytes room =
    let one : length (d.texts ++ x ∷ []) ≡ length d.texts + 1 = length-append d.texts (x ∷ []) in
    record {
      few = omega arith;
      short = All-push (λ t. length t ≤ 255) d.texts x s.short low;
      bytes = All-push (λ t. All (λ b. b < 256) t) d.texts x s.bytes bytes;
      numbers = let z : length d.texts ≡ 0 + length d.texts = omega arith in rw (e, one) (ap (λ x. range_with_len 0 (length d.texts) ++ x ∷ []) z ∙ range_more 0 (length d.texts));
    }

op_keeps : (d : Draft) (n : ℕ) (bytes : List ℕ) (i : Op) (o : Operands) → IsDraft d → WordLine d (unindented bytes) (word.Op i) o → IsDraft (step_entered d n bytes i o)
unfolding judged word_kinds
op_keeps d n bytes i o s h = texts (text_has i d (unindented bytes) o h)
  where
    sound : IsLineSound d i o
    sound = sound_op d i o h.sound

    room : (ltb (instruction_count d) 1024 ≡ true) × ((not (has_text o) || ltb (length d.texts) 64) ≡ true)
    room = and_parts (ltb (instruction_count d) 1024) (not (has_text o) || ltb (length d.texts) 64) sound.room

    added : (ts : List (List ℕ)) → step_texts o bytes ≡ ts → IsText d ts (record { line = n; op = i; operands = o; text = length d.texts }) → IsDraft (step_entered d n bytes i o)
    added ts e x =
        let t : DraftStep = record { line = n; op = i; operands = o; text = length d.texts } in
        subst (λ xs. IsDraft (with_step (record d { texts = d.texts ++ xs }) t)) (sym e) (added_keeps d.part i d ts t h.due (ltb-true (instruction_count d) 1024 room.0) s refl (record {
          kinds = kinds_read (word_kinds (word.Op i)) h.rest o h.read;
          declared = sound.declared;
          apart = sound.apart;
          allowed = sound.allowed;
        }) x)

    texts : (has_text o ≡ false) ⊎ ((has_text o ≡ true) × TextFound (unindented bytes) o.second) → IsDraft (step_entered d n bytes i o)
    texts (inl e) = added [] (rw e refl) (without_text d n i o s e)
    texts (inr e) =
        let at : text_of (quoted (from_quote bytes)) ≡ Some e.1.text = ap (λ x. text_of (quoted x)) (quote_unindented bytes) ∙ e.1.found in
        let long = or_parts (is_long_text o.first || is_long_text o.second || is_long_text o.third) (is_long_text o.fourth) sound.short in
        let long_2 = or_parts (is_long_text o.first || is_long_text o.second) (is_long_text o.third) long.0 in
        let long_1 = or_parts (is_long_text o.first) (is_long_text o.second) long_2.0 in
        let low : ltb 255 (length e.1.text) ≡ false = ap is_long_text (sym e.1.len) ∙ long_1.1 in
        let space : ltb (length d.texts) 64 ≡ true = rw e.0 at room.1 in
        added (e.1.text ∷ []) (rw (e.0, at) refl) (with_text d n i o e.1.text s e.0 (ltb-false 255 (length e.1.text) low) e.1.bytes (ltb-true (length d.texts) 64 space))

item_keeps : (d : Draft) (n : ℕ) (bytes : List ℕ) (w : Word) (o : Operands) → IsDraft d → WordLine d (unindented bytes) w o → IsDraft (item_entered d n bytes w o)
item_keeps d n bytes word.Module o s h =
    turned_keeps d part.Pools d.open.labels d.init.labels d.main.labels d.open.line d.init.line d.main.line (sym (early_first word.Module d.part d refl h.due) ∙ s.none) s
item_keeps d n bytes word.Pool o s h = pool_keeps d (unindented bytes) o s h
item_keeps d n bytes word.Brigade o s h = brigade_keeps d (unindented bytes) o s h
item_keeps d n bytes word.Open o s h =
    let zero : instruction_count d ≡ 0 = sym (early_first word.Open d.part d refl h.due) ∙ s.none in
    turned_keeps d part.Open d.open.labels d.init.labels d.main.labels n d.init.line d.main.line (omega arith) s
item_keeps d n bytes word.Init o s h =
    let zero : length d.init.steps + length d.main.steps ≡ 0 = sym (early_init d.part d h.due) ∙ s.none in
    turned_keeps d part.Init d.open.labels d.init.labels d.main.labels d.open.line n d.main.line (omega arith) s
item_keeps d n bytes word.Main o s h = turned_keeps d part.Main d.open.labels d.init.labels d.main.labels d.open.line d.init.line n refl s
item_keeps d n bytes word.End o s h = turned_keeps d part.End d.open.labels d.init.labels d.main.labels d.open.line d.init.line d.main.line refl s
item_keeps d n bytes (word.Op i) o s h = op_keeps d n bytes i o s h

-- what a line says is kept sound
pub entered_keeps : (d : Draft) (n : ℕ) (bytes : List ℕ) (x : Line) → IsDraft d → Says d (unindented bytes) x → IsDraft (entered d n bytes x)
entered_keeps d n bytes line.Skipped s h = s
entered_keeps d n bytes (line.Label name) s h = label_keeps d.part d n name s
entered_keeps d n bytes (line.Item w o) s h = item_keeps d n bytes w o s h
