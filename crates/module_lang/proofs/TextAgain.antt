-- A text of a module is read as it.
use Rattle.std.proofs.Common.{◌≡◌, ℕ, ◌+◌, false, List, [], ◌∷◌, ◌++◌, length, map, Ok, refl, sym, ◌∙◌, ap, arith, append_assoc, append-nil, length-append}
use Rattle.std.specs.Prelude.{codes}
use Rattle.module_lang.specs.Assembling.{assembling, draft_read, lines_read, is_end}
use Rattle.module_lang.specs.Drafts.{empty_draft, with_part}
use Rattle.module_lang.specs.Lines.{is_due, judged}
use Rattle.module_lang.specs.Operands.{operand_in}
use Rattle.module_code.specs.Program.{Program, program, IsModule, text_at}
use Rattle.module_lang.specs.Texts.{CodeLine, code_text, instrs, labels_from, AreDistinct, IsApart, IsTextOf, module_texts, pool_texts, brigade_texts}
use Rattle.module_code.specs.Words.{word_text, word_kinds}
use Rattle.module_lang.specs.declared.draft.Draft.{Draft}
use Rattle.module_code.specs.declared.part.Part.TheVariants as part
use Rattle.module_code.specs.declared.operand.Operand.TheVariants as operand
use Rattle.module_code.specs.declared.word.OperandKind.TheVariants as kind
use Rattle.module_code.specs.declared.word.Word.TheVariants as word
use Rattle.module_lang.proofs.AssemblingLaws.{done, read_short}
use Rattle.module_lang.proofs.BodyLaws.{AreRight, Declares, HoldsLines, Matches, body_goes, brigades_go, homes_from, init_stage, lower_from, main_stage, open_stage, pools_go, texts_of}
use Rattle.module_lang.proofs.LabelLaws.{HaveLabelNames-append, marked_from, named-append, named_of, names_of}
use Rattle.byte_text.proofs.ListLaws.{items_of}
use Rattle.module_lang.proofs.RunLaws.{Goes, fold_read, goes_item, run}
use Rattle.module_lang.proofs.SourceLaws.{part_ends, part_right, resolve_again, right_from}
use Rattle.module_lang.proofs.SpellingLaws.{IsOperand, no_operands, one_again, operands}

one_is : IsOperand kind.One operand.One (codes "1")
unfolding operand_in
one_is = record { some = refl; bare = refl; read = refl; plain = refl }

module _ (p : Program) (a b c : List CodeLine) (s : IsModule p) (whole : p.code ≡ instrs a ++ (instrs b ++ instrs c)) (first : AreRight p part.Open a) (second : AreRight p part.Init b)
    (third : AreRight p part.Main c) where
  end_goes : (d : Draft) → HoldsLines p part.Main a b c d → Goes d (codes "end" ∷ []) (HoldsLines p part.End a b c)
  unfolding word_kinds word_text judged
  end_goes d h =
      goes_item d word.End [] (operands operand.Nothing operand.Nothing) (λ n. record d { part = part.End }) [] (HoldsLines p part.End a b c) (ap (λ x. is_due x word.End) h.at.part) no_operands refl
      (λ n bytes _. refl) (λ n. record {
        at = record { part = refl; pools = h.at.pools; brigades = h.at.brigades };
        first = h.first;
        second = h.second;
        third = h.third;
        texts = h.texts;
      })

  main_goes : (d : Draft) → HoldsLines p part.Init a b [] d → Goes d (codes "main" ∷ (map code_text c ++ codes "end" ∷ [])) (HoldsLines p part.End a b c)
  unfolding word_kinds word_text judged
  main_goes d h =
      goes_item d word.Main [] (operands operand.Nothing operand.Nothing) (λ n. with_part d part.Main n) (map code_text c ++ codes "end" ∷ []) (HoldsLines p part.End a b c)
      (ap (λ x. is_due x word.Main) h.at.part) no_operands refl (λ n bytes _. refl) (λ n.
      body_goes p part.Main (instrs a ++ instrs b) [] (λ x d. HoldsLines p part.Main a b x d) (main_stage p a b) s c [] (with_part d part.Main n) (codes "end" ∷ [])
      (HoldsLines p part.End a b c) (record {
        at = record { part = refl; pools = h.at.pools; brigades = h.at.brigades };
        first = h.first;
        second = h.second;
        third = record { labels = h.third.labels; steps = h.third.steps };
        texts = h.texts;
      }) third (whole ∙ sym (append_assoc (instrs a) (instrs b) (instrs c)) ∙ ap (λ x. (instrs a ++ instrs b) ++ x) (sym (append-nil (instrs c)))) end_goes)

  init_goes : (d : Draft) → HoldsLines p part.Open a [] [] d → Goes d (codes "init" ∷ (map code_text b ++ (codes "main" ∷ (map code_text c ++ codes "end" ∷ [])))) (HoldsLines p part.End a b c)
  unfolding word_kinds word_text judged
  init_goes d h =
      goes_item d word.Init [] (operands operand.Nothing operand.Nothing) (λ n. with_part d part.Init n) (map code_text b ++ (codes "main" ∷ (map code_text c ++ codes "end" ∷ [])))
      (HoldsLines p part.End a b c) (ap (λ x. is_due x word.Init) h.at.part) no_operands refl (λ n bytes _. refl) (λ n.
      body_goes p part.Init (instrs a) (instrs c) (λ x d. HoldsLines p part.Init a x [] d) (init_stage p a) s b [] (with_part d part.Init n) (codes "main" ∷ (map code_text c ++ codes "end" ∷ []))
      (HoldsLines p part.End a b c) (record {
        at = record { part = refl; pools = h.at.pools; brigades = h.at.brigades };
        first = h.first;
        second = record { labels = h.second.labels; steps = h.second.steps };
        third = h.third;
        texts = h.texts;
      }) second whole main_goes)

  open_goes : (d : Draft) → Declares p p.pools p.brigades d
      → Goes d (codes "open" ∷ (map code_text a ++ (codes "init" ∷ (map code_text b ++ (codes "main" ∷ (map code_text c ++ codes "end" ∷ [])))))) (HoldsLines p part.End a b c)
  unfolding word_kinds word_text judged
  open_goes d h =
      let ss = codes "init" ∷ (map code_text b ++ (codes "main" ∷ (map code_text c ++ codes "end" ∷ []))) in
      goes_item d word.Open [] (operands operand.Nothing operand.Nothing) (λ n. with_part d part.Open n) (map code_text a ++ ss) (HoldsLines p part.End a b c) h.opening no_operands refl
      (λ n bytes _. refl) (λ n.
      body_goes p part.Open [] (instrs b ++ instrs c) (λ x d. HoldsLines p part.Open x [] [] d) (open_stage p) s a [] (with_part d part.Open n) ss (HoldsLines p part.End a b c) (record {
        at = record { part = refl; pools = h.pools; brigades = h.brigades };
        first = record { labels = h.first.labels; steps = h.first.steps };
        second = h.second;
        third = h.third;
        texts = h.texts;
      }) first whole init_goes)

  module_goes : Goes empty_draft (module_texts p a b c) (HoldsLines p part.End a b c)
  unfolding word_kinds word_text judged
  module_goes =
      let code = codes "open" ∷ (map code_text a ++ (codes "init" ∷ (map code_text b ++ (codes "main" ∷ (map code_text c ++ codes "end" ∷ []))))) in
      let none : Matches p [] empty_draft.open = record { labels = refl; steps = refl } in
      goes_item empty_draft word.Module (codes "1" ∷ []) (operands operand.One operand.Nothing) (λ n. record empty_draft { part = part.Pools })
      (pool_texts 0 p.pools ++ (brigade_texts 0 p.brigades ++ code)) (HoldsLines p part.End a b c) refl (one_again kind.One operand.One (codes "1") one_is) refl (λ n bytes _. refl) (λ n.
      pools_go p p.pools [] 0 (record empty_draft { part = part.Pools }) (brigade_texts 0 p.brigades ++ code) (HoldsLines p part.End a b c) refl (record {
        brigade = refl;
        opening = refl;
        pools = refl;
        brigades = refl;
        texts = refl;
        first = none;
        second = none;
        third = none;
      }) refl s.pools (lower_from 0 p.pools (λ j q e. let z : 0 + j ≡ j = omega arith in rw z (s.parents j q e))) (λ e h.
      brigades_go p p.pools p.brigades [] 0 e code (HoldsLines p part.End a b c) h refl s.brigades s.pools (homes_from (length p.pools) p.brigades s.homes) open_goes))

-- the texts of all instructions are those of the module
all_texts : (p : Program) → IsModule p → texts_of p p.code ≡ p.texts
unfolding text_at
all_texts p s = ap (map (text_at p)) s.texts ∙ items_of (text_at p) [] p.texts 0 (λ k lt. let e : 0 + k ≡ k = omega arith in ap (text_at p) e)

apart_front : (name : List ℕ) (xs ys : List (List ℕ × ℕ)) → IsApart name (xs ++ ys) → IsApart name xs
apart_front name [] ys d = tt
apart_front name (x ∷ xs) ys d = (d.0, apart_front name xs ys d.1)

distinct_front : (xs ys : List (List ℕ × ℕ)) → AreDistinct (xs ++ ys) → AreDistinct xs
distinct_front [] ys d = tt
distinct_front (x ∷ xs) ys d = (apart_front x.0 xs ys d.0, distinct_front xs ys d.1)

same_program : (p q : Program) → p.pools ≡ q.pools → p.brigades ≡ q.brigades → p.texts ≡ q.texts → p.code ≡ q.code → p.init ≡ q.init → p.main ≡ q.main → p ≡ q
same_program p q a b c d e f = λ i. record { pools = a i; brigades = b i; texts = c i; code = d i; init = e i; main = f i }

pub text_again : (text : List ℕ) (m : Program) → IsTextOf text m → assembling text ≡ Ok m
unfolding assembling
text_again text m t =
    let s = t.sound in
    let A = instrs t.first in
    let B = instrs t.second in
    let C = instrs t.third in
    let xs = labels_from 0 t.first in
    let ys = labels_from m.init t.second in
    let zs = labels_from m.main t.third in
    let whole : m.code ≡ A ++ (B ++ C) = t.code ∙ append_assoc A B C in
    let whole_c : m.code ≡ (A ++ B) ++ (C ++ []) = t.code ∙ ap (λ x. (A ++ B) ++ x) (sym (append-nil C)) in
    let front : length (A ++ B) ≡ m.main = length-append A B ∙ ap (λ k. k + length B) (sym t.inits) ∙ sym t.mains in
    let total : length m.code ≡ length A + length B + length C = ap length t.code ∙ length-append (A ++ B) C ∙ ap (λ k. k + length C) (length-append A B) in
    let low : 0 + length A ≡ m.init = omega (arith, t.inits) in
    let end_b : m.init + length B ≡ m.main = sym t.mains in
    let end_c : m.main + length C ≡ length m.code = omega (arith, total, t.inits, t.mains) in
    let names_a = names_of (0 + length A) xs t.opening.labels in
    let names_b = names_of (m.init + length B) ys t.initial.labels in
    let names_c = names_of (m.main + length C) zs t.serving.labels in
    let right_a = right_from m part.Open xs names_a 0 t.first (part_right m part.Open 0 m.init [] A (B ++ C) s s.opening whole refl low) names_a t.opening.aimed t.opening.texts in
    let right_b = right_from m part.Init ys names_b m.init t.second (part_right m part.Init m.init m.main A B C s s.initial whole (sym t.inits) end_b) names_b t.initial.aimed t.initial.texts in
    let right_c = right_from m part.Main zs names_c m.main t.third
    (part_right m part.Main m.main (length m.code) (A ++ B) C [] s s.serving whole_c front end_c) names_c t.serving.aimed t.serving.texts in
    let goes = module_goes m t.first t.second t.third s whole right_a right_b right_c in
    let ran = run t.lines empty_draft 1 (HoldsLines m part.End t.first t.second t.third) t.clean (rw t.spelled goes) in
    let d = ran.0 in
    let h = ran.2 in
    let read : draft_read text ≡ Ok d = read_short text t.small ∙ ap (lines_read false empty_draft 1 []) t.whole ∙ fold_read t.lines empty_draft d 1 t.clean ran.1 (ap is_end h.at.part) in
    let named_a = named_of 0 d.open.labels xs (marked_from 0 0 0 t.first d.open.labels refl h.first.labels) in
    let named_b = named_of m.init d.init.labels ys (marked_from m.init 0 m.init t.second d.init.labels (omega arith) h.second.labels) in
    let ends_a = part_ends m part.Open 0 m.init [] t.first (B ++ C) d.open s.opening whole refl low h.first in
    let ends_b = part_ends m part.Init m.init m.main A t.second C d.init s.initial whole (sym t.inits) end_b h.second in
    let ends_c = part_ends m part.Main m.main (length m.code) (A ++ B) t.third [] d.main s.serving whole_c front end_c h.third in
    let one = resolve_again m [] [] d.open [] t.first tt tt h.first t.opening (distinct_front xs ys (distinct_front (xs ++ ys) zs t.distinct)) ends_a in
    let init_is : length A ≡ m.init = sym t.inits in
    let two = resolve_again m d.open.labels xs d.init A t.second named_a names_a h.second (rw init_is t.initial) (rw init_is (distinct_front (xs ++ ys) zs t.distinct)) ends_b in
    let three = resolve_again m (d.open.labels ++ d.init.labels) (xs ++ ys) d.main (A ++ B) t.third (named-append d.open.labels d.init.labels xs ys named_a named_b)
    (HaveLabelNames-append xs ys names_a names_b) h.third (rw front t.serving) (rw front t.distinct) ends_c in
    let made = done d [] A (A ++ B) ((A ++ B) ++ C) refl one two three in
    rw read (made ∙ ap Ok (same_program (program d.pools d.brigades d.texts ((A ++ B) ++ C) (length A) (length (A ++ B))) m h.at.pools h.at.brigades
    (h.texts ∙ ap (texts_of m) (sym t.code) ∙ all_texts m s) (sym t.code) init_is front))
