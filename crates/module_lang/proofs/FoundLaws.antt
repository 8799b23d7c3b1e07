-- A text that is read as a module is a text of it: the lines so far and the draft.
use Rattle.std.proofs.Common.{◌≡◌, ℕ, ◌+◌, true, false, List, [], ◌∷◌, ◌++◌, length, refl, sym, ◌∙◌, ap, subst, arith, suc, map, append_assoc, append-nil}
use Rattle.std.specs.Prelude.{codes, IfSome}
use Rattle.std.proofs.lemmas.Bool.{eqb-true, ltb-true}
use Rattle.std.proofs.lemmas.List.{map-append}
use Rattle.module_lang.specs.Entries.{entered, step_entered, step_texts, from_quote, item_entered}
use Rattle.module_lang.specs.Drafts.{with_part, label_added, step_added}
use Rattle.module_lang.specs.Lines.{is_due, is_handler, is_next, judged}
use Rattle.module_lang.specs.Operands.{of_kind, operand_kind_is_nothing, operand_kind_is_text, operand_place}
use Rattle.module_lang.specs.Texts.{line_text, place_text, own_text, pool_texts, brigade_texts, operands_text}
use Rattle.module_code.specs.declared.part.Part.{Part}
use Rattle.module_code.specs.declared.part.Part.TheVariants as part
use Rattle.module_code.specs.declared.instr.PoolRef.{PoolRef}
use Rattle.module_code.specs.declared.instr.PoolRef.TheVariants as pool
use Rattle.module_lang.proofs.DraftLaws.{declaration}
use Rattle.module_lang.specs.Handlers.{op_instr}
use Rattle.module_code.specs.Names.{is_name}
use Rattle.module_code.specs.Program.{target, text_of_instr}
use Rattle.module_code.specs.Words.{no_operand, two_operands, word_text, word_kinds}
use Rattle.module_lang.specs.declared.draft.Draft.{Draft}
use Rattle.module_lang.specs.declared.draft.Label.{Label}
use Rattle.module_lang.specs.declared.draft.DraftStep.{DraftStep}
use Rattle.module_code.specs.declared.operand.Operand.{Operand}
use Rattle.module_code.specs.declared.operand.Operand.TheVariants as operand
use Rattle.module_code.specs.declared.operand.Operands.{Operands}
use Rattle.module_code.specs.declared.word.OperandKind.{OperandKind}
use Rattle.module_code.specs.declared.word.OperandKind.TheVariants as kind
use Rattle.module_code.specs.declared.word.Op.{Op}
use Rattle.module_code.specs.declared.word.Word.{Word}
use Rattle.module_lang.specs.declared.lines.Line.{Line}
use Rattle.module_lang.specs.declared.lines.Line.TheVariants as line
use Rattle.module_code.specs.declared.word.Word.TheVariants as word
use Rattle.module_lang.proofs.InverseLaws.{WordLine, SpellsOperand, none_spelled, one_taken, two_taken, own_is, Spelled}
use Rattle.module_lang.proofs.ModuleLaws as modules
use Rattle.module_lang.proofs.OperandLaws.{kinds_read}
use Rattle.module_lang.proofs.SpellingLaws.{padded}
use Rattle.module_lang.proofs.OpsFound.{op_spelled}
use Rattle.module_lang.proofs.RawLines.{AreTexted, Built, IsTexted, HasWrittenOperands, Raw, did, label_built, marked, raw_text, step_built, text_last, texted-did, texted-marked, texted-more}

abbrev pub head_of : Draft → List (List ℕ)
head_of d = codes "module 1" ∷ pool_texts 0 d.pools

abbrev pub declared_of : Draft → List (List ℕ)
declared_of d = head_of d ++ brigade_texts 0 d.brigades

abbrev pub opened : Draft → List Raw → List (List ℕ)
opened d a = declared_of d ++ (codes "open" ∷ map raw_text a)

abbrev pub begun : Draft → List Raw → List Raw → List (List ℕ)
begun d a b = opened d a ++ (codes "init" ∷ map raw_text b)

abbrev pub served : Draft → List Raw → List Raw → List Raw → List (List ℕ)
served d a b c = begun d a b ++ (codes "main" ∷ map raw_text c)

-- the statements that a draft has been read from
abbrev pub told : Part → Draft → List Raw → List Raw → List Raw → List (List ℕ)
told part.Start d a b c = []
told part.Pools d a b c = head_of d
told part.Brigades d a b c = declared_of d
told part.Open d a b c = opened d a
told part.Init d a b c = begun d a b
told part.Main d a b c = served d a b c
told part.End d a b c = served d a b c ++ codes "end" ∷ []

-- what has not been read yet
abbrev pub Clear : Part → Draft → List Raw → List Raw → List Raw → Type 0
Clear part.Start d a b c = (d.pools ≡ []) × (d.brigades ≡ []) × (a ≡ []) × (b ≡ []) × (c ≡ [])
Clear part.Pools d a b c = (d.brigades ≡ []) × (a ≡ []) × (b ≡ []) × (c ≡ [])
Clear part.Brigades d a b c = (a ≡ []) × (b ≡ []) × (c ≡ [])
Clear part.Open d a b c = (b ≡ []) × (c ≡ [])
Clear part.Init d a b c = c ≡ []
Clear part.Main d a b c = Unit {0}
Clear part.End d a b c = Unit {0}

pub record PartTold (q : Part) (d : Draft) (ss : List (List ℕ)) : Type 0 where
  pub a : List Raw
  pub b : List Raw
  pub c : List Raw
  pub first : Built a d.open
  pub second : Built b d.init
  pub third : Built c d.main
  pub text : ss ≡ told q d a b c
  pub clear : Clear q d a b c
  pub texts_a : AreTexted d.texts a
  pub texts_b : AreTexted d.texts b
  pub texts_c : AreTexted d.texts c

pub pool_texts-push : (k : ℕ) (qs : List PoolRef) (q : PoolRef)
    → pool_texts k (qs ++ q ∷ []) ≡ pool_texts k qs ++ line_text (codes "pool") (place_text (pool.Own (k + length qs)) ∷ place_text q ∷ []) ∷ []
pool_texts-push k [] q = let e : k ≡ k + 0 = omega arith in ap (λ j. line_text (codes "pool") (place_text (pool.Own j) ∷ place_text q ∷ []) ∷ []) e
pool_texts-push k (x ∷ xs) q =
    let e : k + 1 + length xs ≡ k + suc (length xs) = omega arith in
    ap (λ ls. line_text (codes "pool") (place_text (pool.Own k) ∷ place_text x ∷ []) ∷ ls)
    (pool_texts-push (k + 1) xs q ∙ ap (λ j. pool_texts (k + 1) xs ++ line_text (codes "pool") (place_text (pool.Own j) ∷ place_text q ∷ []) ∷ []) e)

pub brigade_texts-push : (k : ℕ) (qs : List PoolRef) (q : PoolRef)
    → brigade_texts k (qs ++ q ∷ []) ≡ brigade_texts k qs ++ line_text (codes "brigade") (own_text (k + length qs) ∷ place_text q ∷ []) ∷ []
brigade_texts-push k [] q = let e : k ≡ k + 0 = omega arith in ap (λ j. line_text (codes "brigade") (own_text j ∷ place_text q ∷ []) ∷ []) e
brigade_texts-push k (x ∷ xs) q =
    let e : k + 1 + length xs ≡ k + suc (length xs) = omega arith in
    ap (λ ls. line_text (codes "brigade") (own_text k ∷ place_text x ∷ []) ∷ ls)
    (brigade_texts-push (k + 1) xs q ∙ ap (λ j. brigade_texts (k + 1) xs ++ line_text (codes "brigade") (own_text j ∷ place_text q ∷ []) ∷ []) e)

-- one more line of a handler
snoc : (front : List (List ℕ)) (word s : List ℕ) (rs : List Raw) (r : Raw) → s ≡ raw_text r → (front ++ (word ∷ map raw_text rs)) ++ s ∷ [] ≡ front ++ (word ∷ map raw_text (rs ++ r ∷ []))
snoc front word s rs r e =
    append_assoc front (word ∷ map raw_text rs) (s ∷ []) ∙ ap (λ x. front ++ (word ∷ (map raw_text rs ++ x ∷ []))) e ∙ ap (λ xs. front ++ (word ∷ xs)) (sym (map-append raw_text rs (r ∷ [])))

one_is : (x : Operand) → of_kind kind.One x ≡ true → x ≡ operand.One
one_is operand.One h = refl
one_is _ h = absurd (cc h)

-- the lines of the words that stand alone
module_line : (d : Draft) (s : List ℕ) (o : Operands) → WordLine d s word.Module o → s ≡ codes "module 1"
unfolding word_kinds word_text
module_line d s o h =
    let k = kinds_read (word_kinds word.Module) h.rest o h.read in
    let x = one_taken kind.One h.rest o refl refl h.read in
    let t : x.token ≡ codes "1" = subst (λ y. SpellsOperand y x.token) (one_is o.first k.first) x.first in
    h.spelled ∙ ap (λ r. codes "module" ++ r) (x.whole ∙ ap (λ y. operands_text (y ∷ [])) t)

bare_line : (w : Word) (d : Draft) (s : List ℕ) (o : Operands) → word_kinds w ≡ no_operand → WordLine d s w o → s ≡ word_text w
bare_line w d s o none h =
    let empty : h.rest ≡ [] = none_spelled h.rest o (rw none at h.read) in
    h.spelled ∙ ap (λ r. word_text w ++ r) empty ∙ append-nil (word_text w)

-- a declaration, which is the next one
next_place : (n : ℕ) (x : Operand) (t : List ℕ) → of_kind kind.Pool x ≡ true → is_next n x ≡ true → SpellsOperand x t → t ≡ place_text (pool.Own n)
next_place n (operand.Place (pool.Own i)) t k h s = s ∙ ap (λ j. place_text (pool.Own j)) (eqb-true i n h)
next_place n _ t k h s = absurd (cc k)

next_own : (n : ℕ) (x : Operand) (t : List ℕ) → of_kind kind.Brigade x ≡ true → is_next n x ≡ true → SpellsOperand x t → t ≡ own_text n
next_own n (operand.Brigade i) t k h s = s ∙ sym (own_is i (ltb-true i 8 k)) ∙ ap own_text (eqb-true i n h)
next_own n _ t k h s = absurd (cc k)

home_text : (x : Operand) (t : List ℕ) → of_kind kind.Place x ≡ true → SpellsOperand x t → t ≡ place_text (operand_place x)
home_text (operand.Place p) t k s = s
home_text _ t k s = absurd (cc k)

-- the line of a declaration, whose first operand is written so
declared_line : (w : Word) (k : OperandKind) (first : List ℕ) (d : Draft) (s : List ℕ) (o : Operands)
    → word_kinds w ≡ two_operands k kind.Place → operand_kind_is_nothing k ≡ false → operand_kind_is_text k ≡ false
    → ((t : List ℕ) → of_kind k o.first ≡ true → SpellsOperand o.first t → t ≡ first) → WordLine d s w o
    → s ≡ line_text (word_text w) (first ∷ place_text (operand_place o.second) ∷ [])
declared_line w k first d s o kinds some plain next h =
    let read = rw kinds at h.read in
    let are = kinds_read (two_operands k kind.Place) h.rest o read in
    let x = two_taken k kind.Place h.rest o some plain refl refl read in
    h.spelled ∙ ap (λ r. word_text w ++ r) (x.whole ∙ ap (λ y. operands_text (y ∷ x.two ∷ [])) (next x.one are.first x.first)
    ∙ ap (λ y. operands_text (first ∷ y ∷ [])) (home_text o.second x.two are.second x.second))

pub pool_line : (d : Draft) (s : List ℕ) (o : Operands) → WordLine d s word.Pool o → s ≡ line_text (codes "pool") (place_text (pool.Own (length d.pools)) ∷ place_text (operand_place o.second) ∷ [])
unfolding word_kinds word_text judged
pool_line d s o h =
    let n = length d.pools in
    declared_line word.Pool kind.Pool (place_text (pool.Own n)) d s o refl refl refl (λ t k. next_place n o.first t k (declaration n n o h.sound).next) h

pub brigade_line : (d : Draft) (s : List ℕ) (o : Operands) → WordLine d s word.Brigade o → s ≡ line_text (codes "brigade") (own_text (length d.brigades) ∷ place_text (operand_place o.second) ∷ [])
unfolding word_kinds word_text judged
brigade_line d s o h =
    let n = length d.brigades in
    declared_line word.Brigade kind.Brigade (own_text n) d s o refl refl refl (λ t k. next_own n o.first t k (declaration n (length d.pools) o h.sound).next) h

-- the lines of the handlers are these, and the statements are those of them
telling : {q : Part} {d : Draft} {ss : List (List ℕ)} (a b c : List Raw) → Built a d.open → Built b d.init → Built c d.main → ss ≡ told q d a b c → Clear q d a b c
    → AreTexted d.texts a → AreTexted d.texts b → AreTexted d.texts c → PartTold q d ss
telling a b c first second third text clear texts_a texts_b texts_c =
    record { a = a; b = b; c = c; first = first; second = second; third = third; text = text; clear = clear; texts_a = texts_a; texts_b = texts_b; texts_c = texts_c }

-- another statement, and the same lines of the handlers
kept : {q r : Part} {d e : Draft} {ss us : List (List ℕ)} (t : PartTold q d ss) → Built t.a e.open → Built t.b e.init → Built t.c e.main → d.texts ≡ e.texts
    → us ≡ told r e t.a t.b t.c → Clear r e t.a t.b t.c → PartTold r e us
kept t first second third same text clear =
    let held = λ (rs : List Raw) (x : AreTexted _ rs). subst (λ ts. AreTexted ts rs) same x in
    telling t.a t.b t.c first second third text clear (held t.a t.texts_a) (held t.b t.texts_b) (held t.c t.texts_c)

tell_module : (d : Draft) (n : ℕ) (ss : List (List ℕ)) (s : List ℕ) (o : Operands) → WordLine d s word.Module o → PartTold part.Start d ss
    → PartTold part.Pools (with_part d part.Pools n) (ss ++ s ∷ [])
tell_module d n ss s o h t =
    kept t t.first t.second t.third refl
    (ap (λ x. x ++ s ∷ []) t.text ∙ ap (λ x. x ∷ []) (module_line d s o h) ∙ ap (λ ps. codes "module 1" ∷ pool_texts 0 ps) (sym t.clear.0))
    (t.clear.1, t.clear.2, t.clear.3, t.clear.4)

tell_pool : (d : Draft) (ss : List (List ℕ)) (s : List ℕ) (o : Operands) → WordLine d s word.Pool o → PartTold part.Pools d ss
    → PartTold part.Pools (record d { pools = d.pools ++ operand_place o.second ∷ [] }) (ss ++ s ∷ [])
tell_pool d ss s o h t =
    let q = operand_place o.second in
    let z : 0 + length d.pools ≡ length d.pools = omega arith in
    kept t t.first t.second t.third refl
    (ap (λ x. x ++ s ∷ []) t.text ∙ ap (λ x. codes "module 1" ∷ (pool_texts 0 d.pools ++ x ∷ []))
    (pool_line d s o h ∙ ap (λ k. line_text (codes "pool") (place_text (pool.Own k) ∷ place_text q ∷ [])) (sym z)) ∙ ap (λ x. codes "module 1" ∷ x) (sym (pool_texts-push 0 d.pools q)))
    t.clear

all_pools : (d : Draft) (ss : List (List ℕ)) → PartTold part.Pools d ss → PartTold part.Brigades d ss
all_pools d ss t =
    kept t t.first t.second t.third refl (t.text ∙ sym (append-nil (head_of d)) ∙ ap (λ bs. head_of d ++ brigade_texts 0 bs) (sym t.clear.0))
    (t.clear.1, t.clear.2, t.clear.3)

tell_brigade : (d : Draft) (ss : List (List ℕ)) (s : List ℕ) (o : Operands) → WordLine d s word.Brigade o → PartTold part.Brigades d ss
    → PartTold part.Brigades (record d { part = part.Brigades; brigades = d.brigades ++ operand_place o.second ∷ [] }) (ss ++ s ∷ [])
tell_brigade d ss s o h t =
    let q = operand_place o.second in
    let z : 0 + length d.brigades ≡ length d.brigades = omega arith in
    kept t t.first t.second t.third refl
    (ap (λ x. x ++ s ∷ []) t.text ∙ append_assoc (head_of d) (brigade_texts 0 d.brigades) (s ∷ []) ∙ ap (λ x. head_of d ++ (brigade_texts 0 d.brigades ++ x ∷ []))
    (brigade_line d s o h ∙ ap (λ k. line_text (codes "brigade") (own_text k ∷ place_text q ∷ [])) (sym z)) ∙ ap (λ x. head_of d ++ x) (sym (brigade_texts-push 0 d.brigades q)))
    t.clear

tell_open : (d : Draft) (n : ℕ) (ss : List (List ℕ)) (s : List ℕ) (o : Operands) → WordLine d s word.Open o → PartTold part.Brigades d ss → PartTold part.Open (with_part d part.Open n) (ss ++ s ∷ [])
unfolding word_kinds word_text
tell_open d n ss s o h t =
    kept t (record { labels = t.first.labels; steps = t.first.steps; lines = t.first.lines }) t.second t.third refl
    (ap (λ x. x ++ s ∷ []) t.text ∙ ap (λ x. declared_of d ++ x ∷ []) (bare_line word.Open d s o refl h) ∙ ap (λ r. declared_of d ++ (codes "open" ∷ map raw_text r)) (sym t.clear.0))
    (t.clear.1, t.clear.2)

tell_init : (d : Draft) (n : ℕ) (ss : List (List ℕ)) (s : List ℕ) (o : Operands) → WordLine d s word.Init o → PartTold part.Open d ss → PartTold part.Init (with_part d part.Init n) (ss ++ s ∷ [])
unfolding word_kinds word_text
tell_init d n ss s o h t =
    kept t t.first (record { labels = t.second.labels; steps = t.second.steps; lines = t.second.lines }) t.third refl
    (ap (λ x. x ++ s ∷ []) t.text ∙ ap (λ x. opened d t.a ++ x ∷ []) (bare_line word.Init d s o refl h) ∙ ap (λ r. opened d t.a ++ (codes "init" ∷ map raw_text r)) (sym t.clear.0))
    t.clear.1

tell_main : (d : Draft) (n : ℕ) (ss : List (List ℕ)) (s : List ℕ) (o : Operands) → WordLine d s word.Main o → PartTold part.Init d ss → PartTold part.Main (with_part d part.Main n) (ss ++ s ∷ [])
unfolding word_kinds word_text
tell_main d n ss s o h t =
    kept t t.first t.second (record { labels = t.third.labels; steps = t.third.steps; lines = t.third.lines }) refl
    (ap (λ x. x ++ s ∷ []) t.text ∙ ap (λ x. begun d t.a t.b ++ x ∷ []) (bare_line word.Main d s o refl h) ∙ ap (λ r. begun d t.a t.b ++ (codes "main" ∷ map raw_text r)) (sym t.clear))
    tt

tell_end : (d : Draft) (n : ℕ) (ss : List (List ℕ)) (s : List ℕ) (o : Operands) → WordLine d s word.End o → PartTold part.Main d ss → PartTold part.End (with_part d part.End n) (ss ++ s ∷ [])
unfolding word_kinds word_text
tell_end d n ss s o h t =
    kept t t.first t.second t.third refl (ap (λ x. x ++ s ∷ []) t.text ∙ ap (λ x. served d t.a t.b t.c ++ x ∷ []) (bare_line word.End d s o refl h)) tt

-- a step that is read into the handler of this part, and a label
abbrev Did : Part → Type 0
Did q = (d : Draft) (us : List (List ℕ)) (ss : List (List ℕ)) (s : List ℕ) (st : DraftStep) (name w : List ℕ) → PartTold q d ss → s ≡ raw_text (did st name w)
    → HasWrittenOperands st name
    → IfSome (target (op_instr st.op st.operands st.text 0)) (λ _. is_name name ≡ true) → IsTexted (d.texts ++ us) st w
    → PartTold q (step_added q (record d { texts = d.texts ++ us }) st) (ss ++ s ∷ [])

abbrev Marks : Part → Type 0
Marks q = (d : Draft) (n : ℕ) (ss : List (List ℕ)) (s name : List ℕ) → PartTold q d ss → s ≡ 58 ∷ name → is_name name ≡ true
    → PartTold q (label_added q d n (padded name)) (ss ++ s ∷ [])

did_open : Did part.Open
did_open d us ss s st name w t e same named one =
    let more = texted-more d.texts us in
    telling (t.a ++ did st name w ∷ []) t.b t.c (step_built t.a d.open st name w t.first same named) t.second t.third
    (ap (λ x. x ++ s ∷ []) t.text ∙ snoc (declared_of d) (codes "open") s t.a (did st name w) e) t.clear
    (texted-did (d.texts ++ us) t.a st name w (more t.a t.texts_a) one) (more t.b t.texts_b) (more t.c t.texts_c)

marked_open : Marks part.Open
marked_open d n ss s name t e named =
    let l : Label = record { line = n; name = padded name; place = length d.open.steps } in
    telling (t.a ++ marked l name ∷ []) t.b t.c (label_built t.a d.open n name t.first named) t.second t.third
    (ap (λ x. x ++ s ∷ []) t.text ∙ snoc (declared_of d) (codes "open") s t.a (marked l name) e) t.clear
    (texted-marked d.texts t.a l name t.texts_a) t.texts_b t.texts_c

did_init : Did part.Init
did_init d us ss s st name w t e same named one =
    let more = texted-more d.texts us in
    telling t.a (t.b ++ did st name w ∷ []) t.c t.first (step_built t.b d.init st name w t.second same named) t.third
    (ap (λ x. x ++ s ∷ []) t.text ∙ snoc (opened d t.a) (codes "init") s t.b (did st name w) e) t.clear
    (more t.a t.texts_a) (texted-did (d.texts ++ us) t.b st name w (more t.b t.texts_b) one) (more t.c t.texts_c)

marked_init : Marks part.Init
marked_init d n ss s name t e named =
    let l : Label = record { line = n; name = padded name; place = length d.init.steps } in
    telling t.a (t.b ++ marked l name ∷ []) t.c t.first (label_built t.b d.init n name t.second named) t.third
    (ap (λ x. x ++ s ∷ []) t.text ∙ snoc (opened d t.a) (codes "init") s t.b (marked l name) e) t.clear
    t.texts_a (texted-marked d.texts t.b l name t.texts_b) t.texts_c

did_main : Did part.Main
did_main d us ss s st name w t e same named one =
    let more = texted-more d.texts us in
    telling t.a t.b (t.c ++ did st name w ∷ []) t.first t.second (step_built t.c d.main st name w t.third same named)
    (ap (λ x. x ++ s ∷ []) t.text ∙ snoc (begun d t.a t.b) (codes "main") s t.c (did st name w) e) tt
    (more t.a t.texts_a) (more t.b t.texts_b) (texted-did (d.texts ++ us) t.c st name w (more t.c t.texts_c) one)

marked_main : Marks part.Main
marked_main d n ss s name t e named =
    let l : Label = record { line = n; name = padded name; place = length d.main.steps } in
    telling t.a t.b (t.c ++ marked l name ∷ []) t.first t.second (label_built t.c d.main n name t.third named)
    (ap (λ x. x ++ s ∷ []) t.text ∙ snoc (begun d t.a t.b) (codes "main") s t.c (marked l name) e) tt
    t.texts_a t.texts_b (texted-marked d.texts t.c l name t.texts_c)

-- a statement that begins with this word
abbrev OnWord : Word → Type 0
OnWord w = (q : Part) (d : Draft) (n : ℕ) (bytes : List ℕ) (ss : List (List ℕ)) (s : List ℕ) (o : Operands) → d.part ≡ q → is_due q w ≡ true → WordLine d s w o
    → PartTold q d ss
    → PartTold (item_entered d n bytes w o).part (item_entered d n bytes w o) (ss ++ s ∷ [])

on_module : OnWord word.Module
on_module part.Start d n bytes ss s o e due h t = tell_module d n ss s o h t
on_module _ d n bytes ss s o e due h t = absurd (cc due)

on_pool : OnWord word.Pool
on_pool part.Pools d n bytes ss s o e due h t = subst (λ x. PartTold x (record d { pools = d.pools ++ operand_place o.second ∷ [] }) (ss ++ s ∷ [])) (sym e) (tell_pool d ss s o h t)
on_pool _ d n bytes ss s o e due h t = absurd (cc due)

on_brigade : OnWord word.Brigade
on_brigade part.Pools d n bytes ss s o e due h t = tell_brigade d ss s o h (all_pools d ss t)
on_brigade part.Brigades d n bytes ss s o e due h t = tell_brigade d ss s o h t
on_brigade _ d n bytes ss s o e due h t = absurd (cc due)

on_open : OnWord word.Open
on_open part.Pools d n bytes ss s o e due h t = tell_open d n ss s o h (all_pools d ss t)
on_open part.Brigades d n bytes ss s o e due h t = tell_open d n ss s o h t
on_open _ d n bytes ss s o e due h t = absurd (cc due)

on_init : OnWord word.Init
on_init part.Open d n bytes ss s o e due h t = tell_init d n ss s o h t
on_init _ d n bytes ss s o e due h t = absurd (cc due)

on_main : OnWord word.Main
on_main part.Init d n bytes ss s o e due h t = tell_main d n ss s o h t
on_main _ d n bytes ss s o e due h t = absurd (cc due)

on_end : OnWord word.End
on_end part.Main d n bytes ss s o e due h t = tell_end d n ss s o h t
on_end _ d n bytes ss s o e due h t = absurd (cc due)

same_part : (q : Part) (d : Draft) (st : DraftStep) → (step_added q d st).part ≡ d.part
same_part part.Open d st = refl
same_part part.Init d st = refl
same_part _ d st = refl

op_done : (q : Part) → Did q → (i : Op) (d : Draft) (n : ℕ) (bytes : List ℕ) (ss : List (List ℕ)) (s : List ℕ) (o : Operands) → d.part ≡ q
    → from_quote bytes ≡ from_quote s → WordLine d s (word.Op i) o → PartTold q d ss
    → PartTold (step_entered d n bytes i o).part (step_entered d n bytes i o) (ss ++ s ∷ [])
op_done q done i d n bytes ss s o e u h t =
    let x = op_spelled d s i o (length d.texts) h in
    let next : Draft = record d { texts = d.texts ++ step_texts o bytes } in
    let st : DraftStep = record { line = n; op = i; operands = o; text = length d.texts } in
    let one = text_last (text_of_instr (op_instr i o (length d.texts) 0)) (length d.texts) d.texts (step_texts o bytes) x.text (modules.own_text i o (length d.texts) 0) refl (x.texted bytes u) in
    subst (λ y. PartTold (step_added y next st).part (step_added y next st) (ss ++ s ∷ [])) (sym e)
    (subst (λ y. PartTold y (step_added q next st) (ss ++ s ∷ []))
    (sym (same_part q next st ∙ e)) (done d (step_texts o bytes) ss s st x.name x.text t x.spelled (x.len, x.same) x.named one))

on_op : (q : Part) (i : Op) (d : Draft) (n : ℕ) (bytes : List ℕ) (ss : List (List ℕ)) (s : List ℕ) (o : Operands) → d.part ≡ q
    → is_due q (word.Op i) ≡ true → from_quote bytes ≡ from_quote s → WordLine d s (word.Op i) o → PartTold q d ss → PartTold (step_entered d n bytes i o).part
    (step_entered d n bytes i o) (ss ++ s ∷ [])
on_op part.Open i d n bytes ss s o e due = op_done part.Open did_open i d n bytes ss s o e
on_op part.Init i d n bytes ss s o e due = op_done part.Init did_init i d n bytes ss s o e
on_op part.Main i d n bytes ss s o e due = op_done part.Main did_main i d n bytes ss s o e
on_op _ i d n bytes ss s o e due = absurd (cc due)

on_item : (d : Draft) (n : ℕ) (bytes : List ℕ) (ss : List (List ℕ)) (s : List ℕ) (w : Word) (o : Operands) → from_quote bytes ≡ from_quote s → WordLine d s w o → PartTold d.part d ss
    → PartTold (item_entered d n bytes w o).part (item_entered d n bytes w o) (ss ++ s ∷ [])
on_item d n bytes ss s word.Module o u h t = on_module d.part d n bytes ss s o refl h.due h t
on_item d n bytes ss s word.Pool o u h t = on_pool d.part d n bytes ss s o refl h.due h t
on_item d n bytes ss s word.Brigade o u h t = on_brigade d.part d n bytes ss s o refl h.due h t
on_item d n bytes ss s word.Open o u h t = on_open d.part d n bytes ss s o refl h.due h t
on_item d n bytes ss s word.Init o u h t = on_init d.part d n bytes ss s o refl h.due h t
on_item d n bytes ss s word.Main o u h t = on_main d.part d n bytes ss s o refl h.due h t
on_item d n bytes ss s word.End o u h t = on_end d.part d n bytes ss s o refl h.due h t
on_item d n bytes ss s (word.Op i) o u h t = on_op d.part i d n bytes ss s o refl h.due u h t

label_done : (q : Part) → Marks q → (d : Draft) (n : ℕ) (ss : List (List ℕ)) (s name : List ℕ) → d.part ≡ q → s ≡ 58 ∷ name → is_name name ≡ true
    → PartTold q d ss → PartTold d.part (label_added q d n (padded name)) (ss ++ s ∷ [])
label_done q done d n ss s name e p v t = subst (λ y. PartTold y (label_added q d n (padded name)) (ss ++ s ∷ [])) (sym e) (done d n ss s name t p v)

on_label : (q : Part) (d : Draft) (n : ℕ) (ss : List (List ℕ)) (s name : List ℕ) → d.part ≡ q → is_handler q ≡ true → s ≡ 58 ∷ name → is_name name ≡ true → PartTold q d ss
    → PartTold d.part (label_added q d n (padded name)) (ss ++ s ∷ [])
on_label part.Open d n ss s name e due = label_done part.Open marked_open d n ss s name e
on_label part.Init d n ss s name e due = label_done part.Init marked_init d n ss s name e
on_label part.Main d n ss s name e due = label_done part.Main marked_main d n ss s name e
on_label _ d n ss s name e due = absurd (cc due)

-- a statement that says something
pub on_line : (d : Draft) (n : ℕ) (bytes : List ℕ) (ss : List (List ℕ)) (s : List ℕ) (x : Line) → from_quote bytes ≡ from_quote s → Spelled d s x → PartTold d.part d ss
    → PartTold (entered d n bytes x).part (entered d n bytes x) (ss ++ s ∷ [])
on_line d n bytes ss s line.Skipped u h t = absurd h
on_line d n bytes ss s (line.Label m) u h t =
    subst (λ y. PartTold (label_added d.part d n y).part (label_added d.part d n y) (ss ++ s ∷ [])) (sym h.3) (labelled d.part refl (on_label d.part d n ss s h.0 refl h.4 h.1 h.2 t))
  where
    labelled : (q : Part) → d.part ≡ q → PartTold d.part (label_added d.part d n (padded h.0)) (ss ++ s ∷ [])
        → PartTold (label_added d.part d n (padded h.0)).part (label_added d.part d n (padded h.0)) (ss ++ s ∷ [])
    labelled q e t = subst (λ y. PartTold y (label_added d.part d n (padded h.0)) (ss ++ s ∷ [])) (sym (same d.part d)) t
      where
        same : (q : Part) (x : Draft) → (label_added q x n (padded h.0)).part ≡ x.part
        same part.Start x = refl
        same _ x = refl
on_line d n bytes ss s (line.Item w o) u h t = on_item d n bytes ss s w o u h t
