-- The labels and the targets of printed code.
use Rattle.std.proofs.Common.{◌≡◌, ◌≢◌, ℕ, zero, suc, ◌+◌, ◌^◌, ◌%◌, ◌<◌, ◌≤◌, Bool, true, false, cond, leb, List, [], ◌∷◌, ◌++◌, length, Option, Some, None, inl, inr, ◌⊎◌, refl, sym, ◌∙◌, ap, subst}
use Rattle.std.proofs.Common.{arith, append_assoc}
use Rattle.std.specs.Prelude.{IfSome, slice_get, decimal}
use Rattle.std.specs.List.{list_all}
use Rattle.std.proofs.Math.Nat.{eq-or-lt_of_le}
use Rattle.std.proofs.lemmas.Bool.{le-leb, eq-eqb, or_right}
use Rattle.std.proofs.lemmas.Fmt.{decimal_injective, decimal_by_steps, length-decimal-le}
use Rattle.std.proofs.lemmas.List.Folds.{list_all-append}
use Rattle.module_code.specs.Names.{is_name, is_name_byte, all_name_bytes}
use Rattle.module_lang.specs.Printing.{target_name, aim, is_number, is_target, printed_code, quoted_text}
use Rattle.module_code.specs.Program.{target, text_of_instr}
use Rattle.module_lang.specs.Texts.{CodeLine, label, step, instrs, labels_from, AreDistinct, HasLabelsBelow, IsAimed, IsApart, IsLabel}
use Rattle.module_code.specs.declared.instr.Instr.{Instr}

pub line_instrs : (b : Bool) (x : List ℕ) (i : Instr) (y s : List ℕ) (ls : List CodeLine) → instrs (cond b (label x ∷ []) [] ++ step i y s ∷ ls) ≡ i ∷ instrs ls
line_instrs true x i y s ls = refl
line_instrs false x i y s ls = refl

pub instrs_printed : (ts : List (List ℕ)) (code : List Instr) (n : ℕ) (is : List Instr) → instrs (printed_code ts code n is) ≡ is
instrs_printed ts code n [] = refl
instrs_printed ts code n (i ∷ is) =
    line_instrs (is_target code n) (target_name n) i (aim (target i)) (quoted_text ts (text_of_instr i)) (printed_code ts code (n + 1) is) ∙ ap (λ x. i ∷ x) (instrs_printed ts code (n + 1) is)

-- the labels before the instructions that are targets
abbrev pub mark_at : List Instr → ℕ → List (List ℕ × ℕ)
mark_at code n = cond (is_target code n) ((target_name n, n) ∷ []) []

abbrev pub marks : List Instr → ℕ → List Instr → List (List ℕ × ℕ)
marks code n [] = []
marks code n (i ∷ is) = mark_at code n ++ marks code (n + 1) is

line_labels : (b : Bool) (n : ℕ) (x : List ℕ) (i : Instr) (y s : List ℕ) (ls : List CodeLine)
    → labels_from n (cond b (label x ∷ []) [] ++ step i y s ∷ ls) ≡ cond b ((x, n) ∷ []) [] ++ labels_from (n + 1) ls
line_labels true n x i y s ls = refl
line_labels false n x i y s ls = refl

pub labels_printed : (ts : List (List ℕ)) (code : List Instr) (n : ℕ) (is : List Instr) → labels_from n (printed_code ts code n is) ≡ marks code n is
labels_printed ts code n [] = refl
labels_printed ts code n (i ∷ is) =
    line_labels (is_target code n) n (target_name n) i (aim (target i)) (quoted_text ts (text_of_instr i)) (printed_code ts code (n + 1) is)
    ∙ ap (λ x. mark_at code n ++ x) (labels_printed ts code (n + 1) is)

pub marks-append : (code : List Instr) (n : ℕ) (xs ys : List Instr) → marks code n (xs ++ ys) ≡ marks code n xs ++ marks code (n + length xs) ys
marks-append code n [] ys = let e : n + 0 ≡ n = omega arith in rw e refl
marks-append code n (x ∷ xs) ys =
    let e : n + 1 + length xs ≡ n + length (x ∷ xs) = omega arith in
    ap (λ z. mark_at code n ++ z) (marks-append code (n + 1) xs ys) ∙ sym (append_assoc (mark_at code n) (marks code (n + 1) xs) (marks code (n + 1 + length xs) ys))
    ∙ ap (λ k. mark_at code n ++ marks code (n + 1) xs ++ marks code k ys) e

-- names

pub all_joined : (p : ℕ → Bool) (xs ys : List ℕ) → list_all p xs ≡ true → list_all p ys ≡ true → list_all p (xs ++ ys) ≡ true
all_joined p xs ys h j = list_all-append p xs ys ∙ rw (h, j) refl

digit_named : (d : ℕ) → d < 10 → list_all is_name_byte ((48 + d) ∷ []) ≡ true
digit_named d low = grind arith

pub digits_named : (n : ℕ) → n < 2 ^ 64 → list_all is_name_byte (decimal n) ≡ true
digits_named n low =
    decimal_by_steps (λ m ds. list_all is_name_byte ds ≡ true) digit_named (λ m ds high h. all_joined is_name_byte ds ((48 + m % 10) ∷ []) h (digit_named (m % 10) (omega arith))) n low

pub name_is : (n : ℕ) → n < 1024 → is_name (target_name n) ≡ true
unfolding is_name all_name_bytes
name_is n low =
    let short = length-decimal-le 4 n (omega arith) (omega arith) (omega arith) in
    let named = digits_named n (omega arith) in
    let fits : leb (length (105 ∷ decimal n)) 16 ≡ true = le-leb (length (105 ∷ decimal n)) 16 (omega (arith, short)) in
    let some : leb 1 (length (105 ∷ decimal n)) ≡ true = le-leb 1 (length (105 ∷ decimal n)) (omega arith) in
    rw (fits, some, named) refl

pub names_apart : (m n : ℕ) → m < n → n < 1024 → target_name m ≢ target_name n
names_apart m n low high = λ e. let same : decimal m ≡ decimal n = cc e in absurd (omega (arith, decimal_injective m n (omega arith) (omega arith) same))

-- the labels have names, and an instruction follows each
mark_named : (b : Bool) (to n : ℕ) (rest : List (List ℕ × ℕ)) → n < to → to ≤ 1024 → HasLabelsBelow to rest → HasLabelsBelow to (cond b ((target_name n, n) ∷ []) [] ++ rest)
mark_named true to n rest low few h = (name_is n (omega arith), low, h)
mark_named false to n rest low few h = h

pub marks_named : (code : List Instr) (to n : ℕ) (is : List Instr) → n + length is ≤ to → to ≤ 1024 → HasLabelsBelow to (marks code n is)
marks_named code to n [] low few = tt
marks_named code to n (i ∷ is) low few =
    mark_named (is_target code n) to n (marks code (n + 1) is) (omega arith) few (marks_named code to (n + 1) is (omega arith) few)

-- no two of them have one name
mark_apart : (b : Bool) (m n : ℕ) (rest : List (List ℕ × ℕ)) → m < n → n < 1024 → IsApart (target_name m) rest → IsApart (target_name m) (cond b ((target_name n, n) ∷ []) [] ++ rest)
mark_apart true m n rest low few h = (names_apart m n low few, h)
mark_apart false m n rest low few h = h

marks_apart : (code : List Instr) (m n : ℕ) (is : List Instr) → m < n → n + length is ≤ 1024 → IsApart (target_name m) (marks code n is)
marks_apart code m n [] low few = tt
marks_apart code m n (i ∷ is) low few =
    mark_apart (is_target code n) m n (marks code (n + 1) is) low (omega arith) (marks_apart code m (n + 1) is (omega arith) (omega arith))

mark_distinct : (b : Bool) (n : ℕ) (rest : List (List ℕ × ℕ)) → IsApart (target_name n) rest → AreDistinct rest → AreDistinct (cond b ((target_name n, n) ∷ []) [] ++ rest)
mark_distinct true n rest a h = (a, h)
mark_distinct false n rest a h = h

pub marks_distinct : (code : List Instr) (n : ℕ) (is : List Instr) → n + length is ≤ 1024 → AreDistinct (marks code n is)
marks_distinct code n [] few = tt
marks_distinct code n (i ∷ is) few =
    mark_distinct (is_target code n) n (marks code (n + 1) is) (marks_apart code n (n + 1) is (omega arith) (omega arith)) (marks_distinct code (n + 1) is (omega arith))

-- a target has its label
mark_here : (b : Bool) (n : ℕ) (rest : List (List ℕ × ℕ)) → b ≡ true → IsLabel (target_name n) n (cond b ((target_name n, n) ∷ []) [] ++ rest)
mark_here true n rest h = inl (refl, refl)
mark_here false n rest h = absurd (cc h)

mark_later : (b : Bool) (t n : ℕ) (rest : List (List ℕ × ℕ)) → IsLabel (target_name t) t rest → IsLabel (target_name t) t (cond b ((target_name n, n) ∷ []) [] ++ rest)
mark_later true t n rest h = inr h
mark_later false t n rest h = h

pub marked : (code : List Instr) (t n : ℕ) (is : List Instr) → is_target code t ≡ true → n ≤ t → t < n + length is → IsLabel (target_name t) t (marks code n is)
marked code t n [] h low high = absurd (omega arith)
marked code t n (i ∷ is) h low high =
    here_or (eq-or-lt_of_le low) (λ l. marked code t (n + 1) is h (omega arith) (omega arith))
  where
    here_or : (n ≡ t) ⊎ (n < t) → (n < t → IsLabel (target_name t) t (marks code (n + 1) is)) → IsLabel (target_name t) t (marks code n (i ∷ is))
    here_or (inl e) later =
        let at : is_target code n ≡ true = ap (is_target code) e ∙ h in
        subst (λ k. IsLabel (target_name k) k (marks code n (i ∷ is))) e (mark_here (is_target code n) n (marks code (n + 1) is) at)
    here_or (inr l) later = mark_later (is_target code n) t n (marks code (n + 1) is) (later l)

-- where each target has its label, the code is aimed
line_aimed : (b : Bool) (labels : List (List ℕ × ℕ)) (x : List ℕ) (i : Instr) (y s : List ℕ) (ls : List CodeLine) → IfSome (target i) (λ t. IsLabel y t labels) → IsAimed labels ls
    → IsAimed labels (cond b (label x ∷ []) [] ++ step i y s ∷ ls)
line_aimed true labels x i y s ls h j = (h, j)
line_aimed false labels x i y s ls h j = (h, j)

named_aim : (labels : List (List ℕ × ℕ)) (o : Option ℕ) → IfSome o (λ t. IsLabel (target_name t) t labels) → IfSome o (λ t. IsLabel (aim o) t labels)
named_aim labels None h = tt
named_aim labels (Some t) h = h

pub aimed_printed : (ts : List (List ℕ)) (code : List Instr) (labels : List (List ℕ × ℕ)) (n : ℕ) (is : List Instr)
    → ((k : ℕ) (i : Instr) → slice_get is k ≡ Some i → IfSome (target i) (λ t. IsLabel (target_name t) t labels)) → IsAimed labels (printed_code ts code n is)
aimed_printed ts code labels n [] h = tt
aimed_printed ts code labels n (i ∷ is) h =
    line_aimed (is_target code n) labels (target_name n) i (aim (target i)) (quoted_text ts (text_of_instr i)) (printed_code ts code (n + 1) is) (named_aim labels (target i) (h 0 i refl))
    (aimed_printed ts code labels (n + 1) is (λ k j e. h (suc k) j e))

-- the target of an instruction of the code is a target
pub is_target_of : (code : List Instr) (k t : ℕ) (i : Instr) → slice_get code k ≡ Some i → target i ≡ Some t → is_target code t ≡ true
unfolding is_target
is_target_of [] k t i e a = absurd (cc e)
is_target_of (x ∷ xs) zero t i e a =
    let same : x ≡ i = cc e in let num : is_number t (target x) ≡ true = rw (same, a) (eq-eqb t t refl) in rw num refl
is_target_of (x ∷ xs) (suc k) t i e a = let rest = is_target_of xs k t i e a in or_right (is_number t (target x)) (is_target xs t) rest
