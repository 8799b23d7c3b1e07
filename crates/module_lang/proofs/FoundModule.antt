-- A draft whose handlers are resolved: the lines of code that its statements spell.
use Rattle.std.proofs.Common.{◌≡◌, ℕ, ◌+◌, ◌<◌, false, nat_eq, List, [], ◌∷◌, length, map, refl, sym, ◌∙◌, ap, arith, subst}
use Rattle.std.specs.Prelude.{All, IfSome}
use Rattle.std.specs.Cmp.Lexicographic.{pointwise}
use Rattle.std.proofs.lemmas.Bool.{both_ways, or_parts}
use Rattle.module_lang.specs.Handlers.{is_named, label_of, op_instr, step_code, target_place}
use Rattle.module_lang.specs.Texts.{CodeLine, label, step, code_text, instrs, labels_from, HasLabelsBelow, AreSpelled, IsApart}
use Rattle.byte_text.specs.QuotedTexts.{Spells}
use Rattle.module_code.specs.Program.{Program, text_at, text_of_instr}
use Rattle.module_lang.specs.declared.draft.Label.{Label}
use Rattle.module_code.specs.declared.operand.Operands.{Operands}
use Rattle.module_code.specs.declared.word.Op.{Op}
use Rattle.module_code.specs.declared.word.Op.TheVariants as op
use Rattle.module_lang.proofs.RawLines.{AreBuilt, AreTexted, Raw, marked, did, raw_labels, raw_steps, raw_text}
use Rattle.module_lang.proofs.LabelLaws.{Marked, HaveThoseNames, same_name}
use Rattle.byte_text.proofs.ListLaws.{all_tail, some_both}
use Rattle.module_lang.proofs.SpellingLaws.{padded}

-- a line of code, with the instruction that it makes
abbrev pub line_of : ℕ → List Label → Raw → CodeLine
line_of base ls (marked l name) = label name
line_of base ls (did s name w) = step (step_code base ls s) name w

same_text_of : (i : Op) (o : Operands) (x t : ℕ) (n w : List ℕ) → code_text (step (op_instr i o x t) n w) ≡ code_text (step (op_instr i o x 0) n w)
same_text_of op.PCreate o x t n w = refl
same_text_of _ o x t n w = refl

same_number : (i : Op) (o : Operands) (x t : ℕ) → text_of_instr (op_instr i o x 0) ≡ text_of_instr (op_instr i o x t)
same_number op.PCreate o x t = refl
same_number _ o x t = refl

pub texts_same : (base : ℕ) (ls : List Label) (rs : List Raw) → map code_text (map (line_of base ls) rs) ≡ map raw_text rs
unfolding step_code
texts_same base ls [] = refl
texts_same base ls (marked l n ∷ rs) = ap (λ xs. (58 ∷ n) ∷ xs) (texts_same base ls rs)
texts_same base ls (did s n w ∷ rs) =
    let t = base + target_place ls (label_of s.operands) in
    ap (λ x. x ∷ map code_text (map (line_of base ls) rs)) (same_text_of s.op s.operands s.text t n w) ∙ ap (λ xs. raw_text (did s n w) ∷ xs) (texts_same base ls rs)

pub instrs_same : (base : ℕ) (ls : List Label) (rs : List Raw) → instrs (map (line_of base ls) rs) ≡ map (step_code base ls) (raw_steps rs)
instrs_same base ls [] = refl
instrs_same base ls (marked l n ∷ rs) = instrs_same base ls rs
instrs_same base ls (did s n w ∷ rs) = ap (λ xs. step_code base ls s ∷ xs) (instrs_same base ls rs)

-- the texts of the lines are those of the module
pub lines_spelled : (p : Program) (base : ℕ) (ls : List Label) (rs : List Raw) → AreTexted p.texts rs → AreSpelled p (map (line_of base ls) rs)
unfolding step_code text_at
lines_spelled p base ls [] h = tt
lines_spelled p base ls (marked l n ∷ rs) h = lines_spelled p base ls rs h
lines_spelled p base ls (did s n w ∷ rs) h = (
  subst (λ o. IfSome o (λ t. Spells w (text_at p t))) (same_number s.op s.operands s.text (base + target_place ls (label_of s.operands)))
      (some_both (text_of_instr (op_instr s.op s.operands s.text 0)) (λ t. (t < length p.texts) × Spells w (text_at p t)) (λ t. Spells w (text_at p t)) (λ t x. x.1) h.0),
  lines_spelled p base ls rs h.1,
)

-- the labels of the lines are those of the handler
pub labels_marked : (base n k : ℕ) (ls : List Label) (rs : List Raw) → k ≡ base + n → AreBuilt n rs → Marked base (raw_labels rs) (labels_from k (map (line_of base ls) rs))
labels_marked base n k ls [] q h = tt
labels_marked base n k ls (marked l name ∷ rs) q h = (h.1, omega (arith, h.2), labels_marked base n k ls rs q h.3)
labels_marked base n k ls (did s name w ∷ rs) q h = labels_marked base (n + 1) (k + 1) ls rs (omega arith) h.2

-- labels without a fault have names, instructions follow them, and they are distinct
pub labels_good : (base n k to count : ℕ) (ls all : List Label) (rs : List Raw) → k ≡ base + n → to ≡ base + count → AreBuilt n rs → All (λ l. l.place < count) (raw_labels rs)
    → HasLabelsBelow to (labels_from k (map (line_of base all) rs))
labels_good base n k to count ls all [] q r h a = tt
labels_good base n k to count ls all (marked l name ∷ rs) q r h a =
    (h.0, (let low = a 0 l (omega arith) in omega (arith, h.2)), labels_good base n k to count ls all rs q r h.3 (all_tail (λ l. l.place < count) l (raw_labels rs) a))
labels_good base n k to count ls all (did s name w ∷ rs) q r h a = labels_good base (n + 1) (k + 1) to count ls all rs (omega arith) r h.2 a

pub unnamed_apart : (q : List ℕ) (ls : List Label) (xs : List (List ℕ × ℕ)) → HaveThoseNames ls xs → is_named (padded q) ls ≡ false → IsApart q xs
unnamed_apart q [] [] n h = tt
unnamed_apart q [] (x ∷ xs) n h = absurd n
unnamed_apart q (l ∷ ls) [] n h = absurd n
unnamed_apart q (l ∷ ls) (x ∷ xs) n h =
    let z = or_parts (pointwise nat_eq l.name (padded q)) (is_named (padded q) ls) h in
    ((λ e. both_ways (pointwise nat_eq l.name (padded q)) z.0 (rw (n.0, sym e) (same_name (padded q)))), unnamed_apart q ls xs n.1 z.1)
