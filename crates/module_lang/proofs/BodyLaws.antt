-- The lines of handlers and of declarations, in the order in which they are spelled.
use Rattle.std.proofs.Common.{◌≡◌, ℕ, suc, ◌+◌, ◌<◌, ◌≤◌, Bool, true, false, cond, List, [], ◌∷◌, ◌++◌, length, map, Option, Some, None, refl, sym, ◌∙◌, ap, subst, arith, append_assoc, append-nil}
use Rattle.std.proofs.Common.{length-append}
use Rattle.std.specs.Prelude.{IfSome, filter_map, is_some, option_to_list, slice_get}
use Rattle.std.proofs.lemmas.Bool.{eq-eqb}
use Rattle.std.specs.List.{cons_option, range_with_len}
use Rattle.std.proofs.lemmas.List.{length-map, map-append}
use Rattle.std.proofs.lemmas.List.Elements.{filter_map-append}
use Rattle.byte_text.specs.Bytes.{unindented}
use Rattle.module_lang.specs.Drafts.{label_added, step_added, with_line, with_more}
use Rattle.module_lang.specs.Entries.{from_quote, step_text, step_texts}
use Rattle.module_lang.specs.Lines.{has_text, is_due, is_handler, judged, misplaced, instruction_count, place_is_declared}
use Rattle.module_code.specs.Names.{is_name}
use Rattle.module_code.specs.Program.{Program, IsModule, fits, target, text_at, text_of_instr}
use Rattle.module_code.specs.Args.{args, names_text, op_of}
use Rattle.byte_text.specs.Quoted.{quoted, text_of}
use Rattle.module_code.specs.Spelling.{operands_of}
use Rattle.module_lang.specs.Texts.{CodeLine, label, step, arg_texts, brigade_text, cursor_text, number_text, operands_text, status_text, value_text, code_text, instr_word, line_text, instrs}
use Rattle.module_lang.specs.Texts.{operand_texts, pool_texts, brigade_texts, place_text, own_text}
use Rattle.byte_text.specs.QuotedTexts.{Spells}
use Rattle.module_code.specs.Words.{kind_test_text, word_text, word_kinds}
use Rattle.module_code.specs.declared.arg.Arg.{Arg}
use Rattle.module_code.specs.declared.arg.Arg.TheVariants as arg
use Rattle.module_lang.specs.declared.draft.Draft.{Draft}
use Rattle.module_lang.specs.declared.draft.HandlerLines.{HandlerLines}
use Rattle.module_lang.specs.declared.draft.Label.{Label}
use Rattle.module_code.specs.declared.part.Part.{Part}
use Rattle.module_code.specs.declared.part.Part.TheVariants as part
use Rattle.module_lang.specs.declared.draft.DraftStep.{DraftStep}
use Rattle.module_code.specs.declared.instr.Instr.{Instr}
use Rattle.module_code.specs.declared.instr.PoolRef.{PoolRef}
use Rattle.module_code.specs.declared.instr.PoolRef.TheVariants as pool
use Rattle.module_code.specs.declared.instr.VarRef.TheVariants as variable
use Rattle.module_code.specs.declared.operand.Operand.TheVariants as operand
use Rattle.module_code.specs.declared.operand.Operands.{Operands}
use Rattle.module_code.specs.declared.word.Op.{Op}
use Rattle.module_code.specs.declared.word.OperandKind.TheVariants as kind
use Rattle.module_code.specs.declared.word.Word.TheVariants as word
use Rattle.module_lang.proofs.ArgLaws.{formed}
use Rattle.module_lang.proofs.ArgsFound.{word_unquoted}
use Rattle.module_lang.proofs.DraftLaws.{has_text_of}
use Rattle.module_lang.proofs.InverseLaws.{token_unquoted}
use Rattle.byte_text.proofs.ListLaws.{number_at, some_both}
use Rattle.module_lang.proofs.QuoteLaws.{place_unquoted, quote_behind, quote_unindented}
use Rattle.byte_text.proofs.QuoteAgain.{quoted_again}
use Rattle.module_lang.proofs.RunLaws.{Goes, DraftAt, goes_item, goes_label, instr_judged}
use Rattle.module_lang.proofs.SpellingLaws.{AreSaid, IsSaid, args_said, instr_again, word_of_instr, padded, operands, pool_operand, place_operand, own_operand, two_again, declared_up, text_len}

-- the labels of lines of code with their padded names, and the instructions as they are written
abbrev pub marks_from : ℕ → List CodeLine → List (List ℕ × ℕ)
marks_from n [] = []
marks_from n (label name ∷ ls) = (padded name, n) ∷ marks_from n ls
marks_from n (step i name s ∷ ls) = marks_from (n + 1) ls

-- an instruction as it is written: its word, its operands and the number of its text
abbrev pub written : Program → Instr → List ℕ → Op × Operands × Option ℕ
written p i name = (op_of i, operands_of i (padded name) (text_len p (text_of_instr i)), text_of_instr i)

abbrev pub bares : Program → List CodeLine → List (Op × Operands × Option ℕ)
bares p [] = []
bares p (label name ∷ ls) = bares p ls
bares p (step i name s ∷ ls) = written p i name ∷ bares p ls

abbrev pub mark : Label → List ℕ × ℕ
mark l = (l.name, l.place)

abbrev pub bare : DraftStep → Op × Operands × Option ℕ
bare s = (s.op, s.operands, step_text s)

pub bares-length : (p : Program) (code : List CodeLine) → length (bares p code) ≡ length (instrs code)
bares-length p [] = refl
bares-length p (label name ∷ ls) = bares-length p ls
bares-length p (step i name s ∷ ls) = ap suc (bares-length p ls)

marks-label : (p : Program) (n : ℕ) (code : List CodeLine) (name : List ℕ) → marks_from n (code ++ label name ∷ []) ≡ marks_from n code ++ (padded name, n + length (bares p code)) ∷ []
marks-label p n [] name = let e : n ≡ n + 0 = omega arith in ap (λ k. (padded name, k) ∷ []) e
marks-label p n (label x ∷ ls) name = ap (λ ms. (padded x, n) ∷ ms) (marks-label p n ls name)
marks-label p n (step i x s ∷ ls) name =
    let e : n + 1 + length (bares p ls) ≡ n + suc (length (bares p ls)) = omega arith in
    marks-label p (n + 1) ls name ∙ ap (λ k. marks_from (n + 1) ls ++ (padded name, k) ∷ []) e

marks-step : (n : ℕ) (code : List CodeLine) (i : Instr) (name s : List ℕ) → marks_from n (code ++ step i name s ∷ []) ≡ marks_from n code
marks-step n [] i name s = refl
marks-step n (label x ∷ ls) i name s = ap (λ ms. (padded x, n) ∷ ms) (marks-step n ls i name s)
marks-step n (step j x y ∷ ls) i name s = marks-step (n + 1) ls i name s

bares-label : (p : Program) (code : List CodeLine) (name : List ℕ) → bares p (code ++ label name ∷ []) ≡ bares p code
bares-label p [] name = refl
bares-label p (label x ∷ ls) name = bares-label p ls name
bares-label p (step i x s ∷ ls) name = ap (λ bs. written p i x ∷ bs) (bares-label p ls name)

bares-step : (p : Program) (code : List CodeLine) (i : Instr) (name s : List ℕ) → bares p (code ++ step i name s ∷ []) ≡ bares p code ++ written p i name ∷ []
bares-step p [] i name s = refl
bares-step p (label x ∷ ls) i name s = bares-step p ls i name s
bares-step p (step j x y ∷ ls) i name s = ap (λ bs. written p j x ∷ bs) (bares-step p ls i name s)

-- a handler of a draft has these lines
pub record Matches (p : Program) (code : List CodeLine) (h : HandlerLines) : Type 0 where
  pub labels : map mark h.labels ≡ marks_from 0 code
  pub steps : map bare h.steps ≡ bares p code

pub steps-length : (p : Program) (code : List CodeLine) (h : HandlerLines) → Matches p code h → length h.steps ≡ length (instrs code)
steps-length p code h m = sym (length-map h.steps bare) ∙ ap length m.steps ∙ bares-length p code

label_matches : (p : Program) (code : List CodeLine) (h : HandlerLines) (n : ℕ) (name : List ℕ) → Matches p code h → Matches p (code ++ label name ∷ []) (with_line h n (padded name))
label_matches p code h n name m =
    let size : length h.steps ≡ 0 + length (bares p code) = let e : length h.steps ≡ length (bares p code) = sym (length-map h.steps bare) ∙ ap length m.steps in omega arith in
    let x : Label = record { line = n; name = padded name; place = length h.steps } in
    record {
      labels = map-append mark h.labels (x ∷ []) ∙ ap (λ ms. ms ++ (padded name, length h.steps) ∷ []) m.labels ∙ ap (λ k. marks_from 0 code ++ (padded name, k) ∷ []) size
          ∙ sym (marks-label p 0 code name);
      steps = m.steps ∙ sym (bares-label p code name);
    }

step_matches : (p : Program) (code : List CodeLine) (h : HandlerLines) (x : DraftStep) (i : Instr) (name s : List ℕ) → bare x ≡ written p i name → Matches p code h
    → Matches p (code ++ step i name s ∷ []) (with_more h x)
step_matches p code h x i name s e m = record {
  labels = m.labels ∙ sym (marks-step 0 code i name s);
  steps = map-append bare h.steps (x ∷ []) ∙ ap (λ bs. bs ++ bare x ∷ []) m.steps ∙ ap (λ y. bares p code ++ y ∷ []) e ∙ sym (bares-step p code i name s);
}

-- the numbers of the texts of instructions, and the texts
abbrev pub numbers : List Instr → List ℕ
numbers is = filter_map text_of_instr is

abbrev pub texts_of : Program → List Instr → List (List ℕ)
texts_of p is = map (text_at p) (numbers is)

-- the text of a number, if there is one
abbrev pub text_list : Program → Option ℕ → List (List ℕ)
text_list p None = []
text_list p (Some t) = text_at p t ∷ []

-- a draft in a handler of a program, with the lines of its handlers so far
pub record HoldsLines (p : Program) (q : Part) (a b c : List CodeLine) (d : Draft) : Type 0 where
  pub at : DraftAt p q d
  pub first : Matches p a d.open
  pub second : Matches p b d.init
  pub third : Matches p c d.main
  pub texts : d.texts ≡ texts_of p ((instrs a ++ instrs b) ++ instrs c)

-- an instruction, and its text, in the handler that is being read
abbrev pub step_with : Program → Part → Instr → Draft → DraftStep → Draft
step_with p q i d x = step_added q (record d { texts = d.texts ++ text_list p (text_of_instr i) }) x

-- what the lines of a handler keep of a draft, where these instructions stand before the handler
pub record IsStage (p : Program) (q : Part) (front : List Instr) (H : List CodeLine → Draft → Type 0) : Type 0 where
  pub due : (i : Op) → is_due q (word.Op i) ≡ true
  pub handled : is_handler q ≡ true
  pub at : (code : List CodeLine) (d : Draft) → H code d → DraftAt p q d
  pub count : (code : List CodeLine) (d : Draft) → H code d → instruction_count d ≡ length (front ++ instrs code)
  pub texts : (code : List CodeLine) (d : Draft) → H code d → d.texts ≡ texts_of p (front ++ instrs code)
  pub labels : (code : List CodeLine) (d : Draft) (n : ℕ) (name : List ℕ) → H code d → H (code ++ label name ∷ []) (label_added q d n (padded name))
  pub steps : (code : List CodeLine) (d : Draft) (x : DraftStep) (i : Instr) (name s : List ℕ) → bare x ≡ written p i name → H code d → H (code ++ step i name s ∷ []) (step_with p q i d x)

-- what is due of each line of a handler
abbrev pub IsRight : Program → Part → CodeLine → Type 0
IsRight p q (label name) = is_name name ≡ true
IsRight p q (step i name s) = (fits p i ≡ true) × (misplaced q p.pools p.brigades (op_of i) (operands_of i [] 0) ≡ false) × IfSome (target i) (λ _. is_name name ≡ true)
    × IfSome (text_of_instr i) (λ t. Spells s (text_at p t))

abbrev pub AreRight : Program → Part → List CodeLine → Type 0
AreRight p q [] = Unit {0}
AreRight p q (l ∷ ls) = IsRight p q l × AreRight p q ls

pub instrs-append : (xs ys : List CodeLine) → instrs (xs ++ ys) ≡ instrs xs ++ instrs ys
instrs-append [] ys = refl
instrs-append (label n ∷ xs) ys = instrs-append xs ys
instrs-append (step i n s ∷ xs) ys = ap (λ is. i ∷ is) (instrs-append xs ys)

abbrev pub step_of : ℕ → Op → Operands → Draft → DraftStep
step_of n i o d = record { line = n; op = i; operands = o; text = length d.texts }

-- the number of a text is how many stand before it, where all instructions of a module are known
number_here : (p : Program) (before after : List Instr) (i : Instr) → IsModule p → p.code ≡ before ++ i ∷ after → IfSome (text_of_instr i) (λ t. (t ≡ length (numbers before)) × (t < length p.texts))
number_here p before after i s whole = here (text_of_instr i) refl
  where
    all : numbers before ++ cons_option (text_of_instr i) (numbers after) ≡ range_with_len 0 (length p.texts)
    all = sym (filter_map-append text_of_instr before (i ∷ after)) ∙ ap numbers (sym whole) ∙ s.texts

    here : (o : Option ℕ) → text_of_instr i ≡ o → IfSome o (λ t. (t ≡ length (numbers before)) × (t < length p.texts))
    here None e = tt
    here (Some t) e =
        let z = number_at (numbers before) (numbers after) t 0 (length p.texts) (rw e at all) in
        (omega (arith, z.0), omega (arith, z.0, z.1))

-- one more instruction, and its text
texts_more : (p : Program) (is : List Instr) (i : Instr) (ts : List (List ℕ)) → ts ≡ texts_of p is → ts ++ text_list p (text_of_instr i) ≡ texts_of p (is ++ i ∷ [])
texts_more p is i ts e =
    ap (λ x. x ++ text_list p (text_of_instr i)) e ∙ ap (λ x. texts_of p is ++ x) (one (text_of_instr i)) ∙ sym (map-append (text_at p) (numbers is) (numbers (i ∷ [])))
    ∙ ap (map (text_at p)) (sym (filter_map-append text_of_instr is (i ∷ [])))
  where
    one : (o : Option ℕ) → text_list p o ≡ map (text_at p) (cons_option o [])
    one None = refl
    one (Some t) = refl

text_is : (o : Option ℕ) (b : Bool) (m : ℕ) → b ≡ is_some o → IfSome o (λ t. t ≡ m) → cond b (Some m) None ≡ o
text_is None b m e h = rw e refl
text_is (Some t) b m e h = rw e (ap Some (sym h))

-- no operand but a text has a quote
arg_bare : (p : Program) (a : Arg) (n s : List ℕ) (len : ℕ) (os : List (List ℕ)) → IsSaid p a n s len → names_text a ≡ None
    → from_quote (operands_text (arg_texts a n s ++ os)) ≡ from_quote (operands_text os)
arg_bare p a n s len os x e = by_kind a x e
  where
    by_kind : (a : Arg) → IsSaid p a n s len → names_text a ≡ None → from_quote (operands_text (arg_texts a n s ++ os)) ≡ from_quote (operands_text os)
    by_kind arg.Nothing x e = refl
    by_kind (arg.Place q) x e = quote_behind (place_text q) (operands_text os) (place_unquoted q)
    by_kind (arg.Pool q) x e = quote_behind (place_text (pool.Own q)) (operands_text os) (place_unquoted (pool.Own q))
    by_kind (arg.Brigade b) x e = quote_behind (own_text b) (operands_text os) (place_unquoted (pool.Own b))
    by_kind (arg.Source b) x e = quote_behind (brigade_text b) (operands_text os) (token_unquoted (operand.Brigade b) (brigade_text b) refl)
    by_kind (arg.Ending y) x e = quote_behind (status_text y) (operands_text os) (token_unquoted (operand.Ending y) (status_text y) refl)
    by_kind (arg.Target t) x e = quote_behind n (operands_text os) (token_unquoted (operand.Label (padded n)) n (x.name, refl))
    by_kind (arg.Text t) x e = absurd (cc e)
    by_kind (arg.Variable (variable.Pool q)) x e = quote_behind (place_text (pool.Own q)) (operands_text os) (place_unquoted (pool.Own q))
    by_kind (arg.Variable (variable.Brigade b)) x e = quote_behind (own_text b) (operands_text os) (place_unquoted (pool.Own b))
    by_kind (arg.Number m) x e = quote_behind (number_text m) (operands_text os) (place_unquoted (pool.Own m))
    by_kind (arg.Value v) x e = quote_behind (value_text v) (operands_text os) (token_unquoted (operand.Value v) (value_text v) (refl, x.fit.0))
    by_kind (arg.Cursor c) x e = quote_behind (cursor_text c) (operands_text os) (token_unquoted (operand.Cursor c) (cursor_text c) (refl, x.fit.0))
    by_kind (arg.KindTest k) x e = quote_behind (kind_test_text k) (operands_text os) (token_unquoted (operand.KindTest k) (kind_test_text k) refl)

text_first : (p : Program) (a : Arg) (n s : List ℕ) (os : List (List ℕ)) (t : ℕ) → names_text a ≡ Some t → Spells s (text_at p t)
    → from_quote (operands_text (arg_texts a n s ++ os)) ≡ s ++ operands_text os
text_first p (arg.Text u) n s os t e h = rw h.whole refl
text_first p _ n s os t e h = absurd (cc e)

-- the text that stands in the line of an instruction
pub text_entered : (p : Program) (i : Instr) (name s bytes : List ℕ) (k : ℕ) → AreSaid p (args i) name s k → IfSome (text_of_instr i) (λ t. Spells s (text_at p t))
    → unindented bytes ≡ line_text (instr_word i) (operand_texts i name s) → step_texts (operands_of i (padded name) k) bytes ≡ text_list p (text_of_instr i)
text_entered p i name s bytes k x h e = rw (has_text_of i (padded name) k) (by_text (text_of_instr i) (sym (formed i).second) h)
  where
    os : List (List ℕ)
    os = arg_texts (args i).third name s ++ arg_texts (args i).fourth name s

    by_text : (o : Option ℕ) → names_text (args i).second ≡ o → IfSome o (λ t. Spells s (text_at p t)) → cond (is_some o) (option_to_list (text_of (quoted (from_quote bytes)))) [] ≡ text_list p o
    by_text None q w = refl
    by_text (Some t) q w =
        let second = text_first p (args i).second name s os t q w in
        let first = arg_bare p (args i).first name s k (arg_texts (args i).second name s ++ os) x.first (formed i).first in
        let at = quote_unindented bytes ∙ ap from_quote e ∙ quote_behind (instr_word i) (operands_text (operand_texts i name s)) (word_unquoted (op_of i)) ∙ first ∙ second in
        rw (at, quoted_again s (text_at p t) (operands_text os) w) refl

text_short : (p : Program) (o : Option ℕ) → IsModule p → IfSome o (λ t. t < length p.texts) → text_len p o ≤ 255
unfolding text_at
text_short p None s h = omega arith
text_short p (Some t) s h = s.short t [] h

-- the lines of a handler are taken one after another
pub body_goes : (p : Program) (q : Part) (front back : List Instr) (H : List CodeLine → Draft → Type 0) → IsStage p q front H → IsModule p
    → (rest done : List CodeLine) (d : Draft) (ss : List (List ℕ)) (P : Draft → Type 0) → H done d → AreRight p q rest → p.code ≡ front ++ (instrs (done ++ rest) ++ back)
    → ((e : Draft) → H (done ++ rest) e → Goes e ss P) → Goes d (map code_text rest ++ ss) P
unfolding word_kinds
body_goes p q front back H stage s [] done d ss P h right whole more = more d (subst (λ c. H c d) (sym (append-nil done)) h)
body_goes p q front back H stage s (label name ∷ ls) done d ss P h right whole more =
    let at = stage.at done d h in
    let same : (done ++ label name ∷ []) ++ ls ≡ done ++ label name ∷ ls = append_assoc done (label name ∷ []) ls in
    goes_label d name (map code_text ls ++ ss) P (ap is_handler at.part ∙ stage.handled) right.0 (λ n.
    subst (λ x. Goes (label_added x d n (padded name)) (map code_text ls ++ ss) P) (sym at.part) (body_goes p q front back H stage s ls (done ++ label name ∷ [])
    (label_added q d n (padded name)) ss P (stage.labels done d n name h) right.1 (rw same whole) (λ e x. more e (subst (λ c. H c e) same x))))
body_goes p q front back H stage s (step i name w ∷ ls) done d ss P h right whole more =
    let at = stage.at done d h in
    let same : (done ++ step i name w ∷ []) ++ ls ≡ done ++ step i name w ∷ ls = append_assoc done (step i name w ∷ []) ls in
    let k = text_len p (text_of_instr i) in
    let o = operands_of i (padded name) k in
    let before = front ++ instrs done in
    let after = instrs ls ++ back in
    let split : p.code ≡ before ++ i ∷ after = whole ∙ ap (λ x. front ++ (x ++ back)) (instrs-append done (step i name w ∷ ls))
    ∙ ap (λ x. front ++ x) (append_assoc (instrs done) (i ∷ instrs ls) back) ∙ sym (append_assoc front (instrs done) (i ∷ after)) in
    let number = number_here p before after i s split in
    let count : length d.texts ≡ length (numbers before) = ap length (stage.texts done d h) ∙ length-map (numbers before) (text_at p) in
    let few : IfSome (text_of_instr i) (λ _. length d.texts < 64) =
    some_both (text_of_instr i) (λ t. (t ≡ length (numbers before)) × (t < length p.texts)) (λ _. length d.texts < 64) (λ t x. omega (arith, x.0, x.1, count, s.few)) number in
    let short = text_short p (text_of_instr i) s (some_both (text_of_instr i) (λ t. (t ≡ length (numbers before)) × (t < length p.texts)) (λ t. t < length p.texts) (λ t x. x.1) number) in
    let is_next = text_is (text_of_instr i) (has_text o) (length d.texts) (has_text_of i (padded name) k)
    (some_both (text_of_instr i) (λ t. (t ≡ length (numbers before)) × (t < length p.texts)) (λ t. t ≡ length d.texts) (λ t x. omega (arith, x.0, count)) number) in
    let bare_is = λ (n : ℕ). let e : bare (step_of n (op_of i) o d) ≡ written p i name = ap (λ x. (op_of i, o, x)) is_next in e in
    let low : instruction_count d < 1024 = omega (arith, stage.count done d h, ap length split, length-append before (i ∷ after), s.size) in
    let due : is_due d.part (word.Op (op_of i)) ≡ true = ap (λ x. is_due x (word.Op (op_of i))) at.part ∙ stage.due (op_of i) in
    let read = instr_again p i name w s.pools s.brigades right.0.0 right.0.2 right.0.3 in
    let sound = instr_judged p q d i (padded name) k at low right.0.0 right.0.1 short few in
    let t = λ (n : ℕ). step_of n (op_of i) o d in
    rw (word_of_instr i) (goes_item d (word.Op (op_of i)) (operand_texts i name w) o (λ n. step_with p d.part i d (t n)) (map code_text ls ++ ss) P due read sound (λ n bytes e. rw
    (text_entered p i name w bytes k (args_said p i name w right.0.0 right.0.2 right.0.3) right.0.3 (e ∙ ap (λ x. line_text x (operand_texts i name w)) (sym (word_of_instr i)))) refl) (λ n.
    subst (λ x. Goes (step_with p x i d (t n)) (map code_text ls ++ ss) P) (sym at.part) (body_goes p q front back H stage s ls (done ++ step i name w ∷ []) (step_with p q i d (t n)) ss P
    (stage.steps done d (t n) i name w (bare_is n) h) right.1 (rw same whole) (λ e x. more e (subst (λ c. H c e) same x)))))

module _ (p : Program) where
  -- the instructions of a handler with one more
  one_instr : (front : List Instr) (c : List CodeLine) (i : Instr) (name s : List ℕ) → front ++ instrs (c ++ step i name s ∷ []) ≡ (front ++ instrs c) ++ i ∷ []
  one_instr front c i name s = ap (λ x. front ++ x) (instrs-append c (step i name s ∷ [])) ∙ sym (append_assoc front (instrs c) (i ∷ []))

  pub open_stage : IsStage p part.Open [] (λ c d. HoldsLines p part.Open c [] [] d)
  open_stage = record {
    due = λ i. refl;
    handled = refl;
    at = λ c d h. h.at;
    count = λ c d h. omega (arith, steps-length p c d.open h.first, steps-length p [] d.init h.second, steps-length p [] d.main h.third);
    texts = λ c d h. h.texts ∙ ap (texts_of p) (bared c);
    labels = λ c d n name h. record {
      at = record { part = h.at.part; pools = h.at.pools; brigades = h.at.brigades };
      first = label_matches p c d.open n name h.first;
      second = h.second;
      third = h.third;
      texts = h.texts ∙ ap (texts_of p) (bared c) ∙ ap (texts_of p) (sym (instrs-append c (label name ∷ []) ∙ append-nil (instrs c))) ∙ ap (texts_of p) (sym (bared (c ++ label name ∷ [])));
    };
    steps = λ c d x i name s e h. record {
      at = record { part = h.at.part; pools = h.at.pools; brigades = h.at.brigades };
      first = step_matches p c d.open x i name s e h.first;
      second = h.second;
      third = h.third;
      texts = texts_more p (instrs c) i d.texts (h.texts ∙ ap (texts_of p) (bared c)) ∙ ap (texts_of p) (sym (one_instr [] c i name s)) ∙ ap (texts_of p) (sym (bared (c ++ step i name s ∷ [])));
    };
  }
    where
      bared : (c : List CodeLine) → (instrs c ++ []) ++ [] ≡ instrs c
      bared c = append-nil (instrs c ++ []) ∙ append-nil (instrs c)

  pub init_stage : (a : List CodeLine) → IsStage p part.Init (instrs a) (λ c d. HoldsLines p part.Init a c [] d)
  init_stage a = record {
    due = λ i. refl;
    handled = refl;
    at = λ c d h. h.at;
    count = λ c d h. omega (arith, steps-length p a d.open h.first, steps-length p c d.init h.second, steps-length p [] d.main h.third, length-append (instrs a) (instrs c));
    texts = λ c d h. h.texts ∙ ap (texts_of p) (append-nil (instrs a ++ instrs c));
    labels = λ c d n name h. record {
      at = record { part = h.at.part; pools = h.at.pools; brigades = h.at.brigades };
      first = h.first;
      second = label_matches p c d.init n name h.second;
      third = h.third;
      texts = h.texts ∙ ap (λ x. texts_of p ((instrs a ++ x) ++ [])) (sym (instrs-append c (label name ∷ []) ∙ append-nil (instrs c)));
    };
    steps = λ c d x i name s e h. record {
      at = record { part = h.at.part; pools = h.at.pools; brigades = h.at.brigades };
      first = h.first;
      second = step_matches p c d.init x i name s e h.second;
      third = h.third;
      texts = texts_more p (instrs a ++ instrs c) i d.texts (h.texts ∙ ap (texts_of p) (append-nil (instrs a ++ instrs c)))
          ∙ ap (texts_of p) (sym (one_instr (instrs a) c i name s)) ∙ ap (texts_of p) (sym (append-nil (instrs a ++ instrs (c ++ step i name s ∷ []))));
    };
  }

  pub main_stage : (a b : List CodeLine) → IsStage p part.Main (instrs a ++ instrs b) (λ c d. HoldsLines p part.Main a b c d)
  main_stage a b = record {
    due = λ i. refl;
    handled = refl;
    at = λ c d h. h.at;
    count = λ c d h. omega (
      arith,
      steps-length p a d.open h.first,
      steps-length p b d.init h.second,
      steps-length p c d.main h.third,
      length-append (instrs a ++ instrs b) (instrs c),
      length-append (instrs a) (instrs b),
    );
    texts = λ c d h. h.texts;
    labels = λ c d n name h. record {
      at = record { part = h.at.part; pools = h.at.pools; brigades = h.at.brigades };
      first = h.first;
      second = h.second;
      third = label_matches p c d.main n name h.third;
      texts = h.texts ∙ ap (λ x. texts_of p ((instrs a ++ instrs b) ++ x)) (sym (instrs-append c (label name ∷ []) ∙ append-nil (instrs c)));
    };
    steps = λ c d x i name s e h. record {
      at = record { part = h.at.part; pools = h.at.pools; brigades = h.at.brigades };
      first = h.first;
      second = h.second;
      third = step_matches p c d.main x i name s e h.third;
      texts = texts_more p ((instrs a ++ instrs b) ++ instrs c) i d.texts h.texts ∙ ap (texts_of p) (sym (one_instr (instrs a ++ instrs b) c i name s));
    };
  }

-- a draft that has these declarations and no code
pub record Declares (p : Program) (ps bs : List PoolRef) (d : Draft) : Type 0 where
  pub brigade : is_due d.part word.Brigade ≡ true
  pub opening : is_due d.part word.Open ≡ true
  pub pools : d.pools ≡ ps
  pub brigades : d.brigades ≡ bs
  pub texts : d.texts ≡ []
  pub first : Matches p [] d.open
  pub second : Matches p [] d.init
  pub third : Matches p [] d.main

-- other declarations, and no instruction yet
declaring : (p : Program) {ps bs xs ys : List PoolRef} (d : Draft) (r : Part) (qs cs : List PoolRef) → Declares p ps bs d → is_due r word.Brigade ≡ true → is_due r word.Open ≡ true
    → qs ≡ xs → cs ≡ ys → Declares p xs ys (record d { part = r; pools = qs; brigades = cs })
declaring p d r qs cs s brigade opening pools brigades =
    record { brigade = brigade; opening = opening; pools = pools; brigades = brigades; texts = s.texts; first = s.first; second = s.second; third = s.third }

-- each parent is lower, where the first pool has number k
abbrev pub Lower : ℕ → List PoolRef → Type 0
Lower k [] = Unit {0}
Lower k (q ∷ qs) = (place_is_declared k q ≡ true) × Lower (k + 1) qs

pub lower_from : (k : ℕ) (qs : List PoolRef) → ((j : ℕ) (q : PoolRef) → slice_get qs j ≡ Some q → place_is_declared (k + j) q ≡ true) → Lower k qs
lower_from k [] h = tt
lower_from k (q ∷ qs) h =
    let e : k + 0 ≡ k = omega arith in (
      subst (λ n. place_is_declared n q ≡ true) e (h 0 q refl),
      lower_from (k + 1) qs (λ j x s. let e : k + suc j ≡ k + 1 + j = omega arith in subst (λ n. place_is_declared n x ≡ true) e (h (suc j) x s)),
    )

-- each pool is declared, where so many are
abbrev pub AreDeclaredHomes : ℕ → List PoolRef → Type 0
AreDeclaredHomes n [] = Unit {0}
AreDeclaredHomes n (q ∷ qs) = (place_is_declared n q ≡ true) × AreDeclaredHomes n qs

pub homes_from : (n : ℕ) (qs : List PoolRef) → ((j : ℕ) (q : PoolRef) → slice_get qs j ≡ Some q → place_is_declared n q ≡ true) → AreDeclaredHomes n qs
homes_from n [] h = tt
homes_from n (q ∷ qs) h = (h 0 q refl, homes_from n qs (λ j x s. h (suc j) x s))

pub pools_go : (p : Program) (qs done : List PoolRef) (k : ℕ) (d : Draft) (ss : List (List ℕ)) (P : Draft → Type 0) → d.part ≡ part.Pools → Declares p done [] d → k ≡ length done
    → length (done ++ qs) ≤ 8 → Lower k qs → ((e : Draft) → Declares p (done ++ qs) [] e → Goes e ss P) → Goes d (pool_texts k qs ++ ss) P
unfolding word_kinds word_text judged
pools_go p [] done k d ss P at s size small low more = more d (rw (append-nil done) s)
pools_go p (q ∷ qs) done k d ss P at s size small low more =
    let o = operands (operand.Place (pool.Own k)) (operand.Place q) in
    let long = length-append done (q ∷ qs) in
    let high : k < 8 = omega (arith, long) in
    let read = two_again kind.Pool kind.Place (operand.Place (pool.Own k)) (operand.Place q) (place_text (pool.Own k)) (place_text q) (pool_operand k high)
    (place_operand q (declared_up k 8 q (omega arith) low.0)) in
    let count : length d.pools ≡ k = ap length s.pools ∙ sym size in
    let same : (done ++ q ∷ []) ++ qs ≡ done ++ q ∷ qs = append_assoc done (q ∷ []) qs in
    let one = length-append done (q ∷ []) in
    goes_item d word.Pool (place_text (pool.Own k) ∷ place_text q ∷ []) o (λ n. record d { pools = d.pools ++ q ∷ [] }) (pool_texts (k + 1) qs ++ ss) P (rw at refl) read
    (rw (count, eq-eqb k k refl, low.0) refl) (λ n bytes _. refl) (λ n.
    pools_go p qs (done ++ q ∷ []) (k + 1) (record d { pools = d.pools ++ q ∷ [] }) ss P at
    (declaring p d d.part (d.pools ++ q ∷ []) d.brigades s s.brigade s.opening (ap (λ x. x ++ q ∷ []) s.pools) s.brigades)
    (omega (arith, one)) (rw same small) low.1 (λ e x. more e (rw same at x)))

pub brigades_go : (p : Program) (pools qs done : List PoolRef) (k : ℕ) (d : Draft) (ss : List (List ℕ)) (P : Draft → Type 0) → Declares p pools done d → k ≡ length done → length (done ++ qs) ≤ 8
    → length pools ≤ 8 → AreDeclaredHomes (length pools) qs → ((e : Draft) → Declares p pools (done ++ qs) e → Goes e ss P) → Goes d (brigade_texts k qs ++ ss) P
unfolding word_kinds word_text judged
brigades_go p pools [] done k d ss P s size small few low more = more d (rw (append-nil done) s)
brigades_go p pools (q ∷ qs) done k d ss P s size small few low more =
    let o = operands (operand.Brigade k) (operand.Place q) in
    let long = length-append done (q ∷ qs) in
    let high : k < 8 = omega (arith, long) in
    let read = two_again kind.Brigade kind.Place (operand.Brigade k) (operand.Place q) (own_text k) (place_text q) (own_operand k high) (place_operand q (declared_up (length pools) 8 q few low.0)) in
    let count : length d.brigades ≡ k = ap length s.brigades ∙ sym size in
    let same : (done ++ q ∷ []) ++ qs ≡ done ++ q ∷ qs = append_assoc done (q ∷ []) qs in
    let one = length-append done (q ∷ []) in
    let home : place_is_declared (length d.pools) q ≡ true = rw s.pools low.0 in
    goes_item d word.Brigade (own_text k ∷ place_text q ∷ []) o (λ n. record d { part = part.Brigades; brigades = d.brigades ++ q ∷ [] }) (brigade_texts (k + 1) qs ++ ss) P s.brigade read
    (rw (count, eq-eqb k k refl, home) refl) (λ n bytes _. refl) (λ n.
    brigades_go p pools qs (done ++ q ∷ []) (k + 1) (record d { part = part.Brigades; brigades = d.brigades ++ q ∷ [] }) ss P
    (declaring p d part.Brigades d.pools (d.brigades ++ q ∷ []) s refl refl s.pools (ap (λ x. x ++ q ∷ []) s.brigades))
    (omega (arith, one)) (rw same small) few low.1 (λ e x. more e (rw same at x)))
