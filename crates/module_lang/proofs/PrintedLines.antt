-- The lines of a printed module: each says something and begins with no space, and together they are short.
use Rattle.std.proofs.Common.{◌≡◌, ℕ, ◌+◌, ◌*◌, ◌%◌, ◌^◌, ◌||◌, ltb, ◌<◌, ◌≤◌, Bool, true, false, cond, eqb, List, [], ◌∷◌, ◌++◌, length, map, Option, Some, None, refl, sym, ◌∙◌, ap, subst, arith}
use Rattle.std.proofs.Common.{length-append, suc}
use Rattle.std.specs.Prelude.{All, IfSome, codes, filter_map}
use Rattle.std.specs.List.{cons_option, list_all}
use Rattle.std.proofs.lemmas.Bool.{ne_eqb, ltb-true}
use Rattle.std.proofs.lemmas.Fmt.{decimal_by_steps, length-decimal-le}
use Rattle.std.proofs.lemmas.List.Folds.{list_all-append}
use Rattle.module_code.specs.Args.{args, names_text, is_value}
use Rattle.byte_text.specs.Bytes.{all_printable, is_printable, unindented}
use Rattle.module_lang.specs.Printing.{target_name, aim, is_target, printed_code, quoted_text}
use Rattle.module_code.specs.Program.{Program, fits, target, tests, text_of_instr}
use Rattle.module_lang.specs.Lines.{place_is_declared}
use Rattle.module_lang.specs.Texts.{CodeLine, label, step, arg_texts, brigade_text, brigade_texts, code_text, cursor_text, instr_word, is_skipped, joined, line_text, operand_texts, number_text}
use Rattle.module_lang.specs.Texts.{operands_text, own_text, place_text, pool_texts, statements, status_text, value_text}
use Rattle.module_code.specs.Words.{kind_test_text}
use Rattle.module_code.specs.declared.arg.Arg.{Arg}
use Rattle.module_code.specs.declared.arg.Arg.TheVariants as arg
use Rattle.module_code.specs.declared.instr.Instr.{Instr}
use Rattle.module_code.specs.declared.instr.Instr.TheVariants as instr
use Rattle.module_code.specs.declared.instr.KindTest.{KindTest}
use Rattle.module_code.specs.declared.instr.KindTest.TheVariants as kind_test
use Rattle.module_code.specs.declared.instr.PoolRef.{PoolRef}
use Rattle.module_code.specs.declared.instr.PoolRef.TheVariants as pool
use Rattle.module_code.specs.declared.instr.Value.{Value}
use Rattle.module_code.specs.declared.instr.Value.TheVariants as value
use Rattle.module_code.specs.declared.instr.VarRef.TheVariants as variable
use Rattle.module_code.specs.declared.instr.Status.{Status}
use Rattle.module_code.specs.declared.instr.Status.TheVariants as status
use Rattle.module_lang.proofs.ArgLaws.{formed}
use Rattle.module_code.proofs.FitLaws.{Every, fits_parts}
use Rattle.module_lang.proofs.PrintedLabels.{all_joined}
use Rattle.module_lang.proofs.ShownLaws.{operands_text-append}
use Rattle.byte_text.proofs.ListLaws.{all_cons, all_head, all_tail}

-- printable bytes, of which the first is neither a space nor `#`
abbrev pub IsPlain : List ℕ → Type 0
IsPlain [] = ⊥
IsPlain (b ∷ bs) = (eqb b 32 ≡ false) × (eqb b 35 ≡ false) × (list_all is_printable (b ∷ bs) ≡ true)

abbrev pub ArePlain : List (List ℕ) → Type 0
ArePlain [] = Unit {0}
ArePlain (l ∷ ls) = IsPlain l × ArePlain ls

pub plain-append : (xs ys : List (List ℕ)) → ArePlain xs → ArePlain ys → ArePlain (xs ++ ys)
plain-append [] ys h j = j
plain-append (x ∷ xs) ys h j = (h.0, plain-append xs ys h.1 j)

plain_says : (l : List ℕ) (rest : List (List ℕ)) → IsPlain l → cond (is_skipped (unindented l)) (statements rest) (unindented l ∷ statements rest) ≡ l ∷ statements rest
plain_says [] rest h = absurd h
plain_says (b ∷ bs) rest h = rw (h.0, ne_eqb (length (b ∷ bs)) 0 (λ e. omega arith), h.1) refl

pub plain_statements : (ls : List (List ℕ)) → ArePlain ls → statements ls ≡ ls
plain_statements [] h = refl
plain_statements (l ∷ ls) h = plain_says l ls h.0 ∙ ap (λ x. l ∷ x) (plain_statements ls h.1)

plain_printable : (l : List ℕ) → IsPlain l → all_printable l ≡ true
unfolding all_printable
plain_printable [] h = absurd h
plain_printable (b ∷ bs) h = h.2

pub plain_clean : (ls : List (List ℕ)) → ArePlain ls → All (λ l. all_printable l ≡ true) ls
plain_clean [] h = λ k d low. absurd (omega arith)
plain_clean (l ∷ ls) h = all_cons (λ x. all_printable x ≡ true) l ls (plain_printable l h.0) (plain_clean ls h.1)

-- a word and the operands behind it

abbrev AreShown : List (List ℕ) → Type 0
AreShown [] = Unit {0}
AreShown (o ∷ os) = (list_all is_printable o ≡ true) × (length o ≤ 10) × AreShown os

operands_printable : (os : List (List ℕ)) → AreShown os → list_all is_printable (operands_text os) ≡ true
operands_printable [] h = refl
operands_printable (o ∷ os) h = list_all-append is_printable o (operands_text os) ∙ rw (h.0, operands_printable os h.2) refl

operands_short : (os : List (List ℕ)) → AreShown os → length (operands_text os) ≤ 11 * length os
operands_short [] h = omega arith
operands_short (o ∷ os) h = omega (arith, h.1, operands_short os h.2, length-append o (operands_text os))

-- operands of printable bytes, and so many bytes more than four short ones have
record StepShown (os : List (List ℕ)) (more : ℕ) : Type 0 where
  clean : list_all is_printable (operands_text os) ≡ true
  short : length (operands_text os) ≤ 44 + more

all_short : (os : List (List ℕ)) (more : ℕ) → length os ≤ 4 → AreShown os → StepShown os more
all_short os more few s = record { clean = operands_printable os s; short = omega (arith, operands_short os s) }

line_plain : (w : List ℕ) (os : List (List ℕ)) (more : ℕ) → IsPlain w → StepShown os more → IsPlain (line_text w os)
line_plain [] os more h s = absurd h
line_plain (b ∷ bs) os more h s = (h.0, h.1, list_all-append is_printable (b ∷ bs) (operands_text os) ∙ rw (h.2, s.clean) refl)

line_short : (w : List ℕ) (os : List (List ℕ)) (more : ℕ) → length w ≤ 10 → StepShown os more → length (line_text w os) ≤ 55 + more
line_short w os more low s = omega (arith, s.short, length-append w (operands_text os))

-- operands

digit_printable : (d : ℕ) → d < 10 → list_all is_printable ((48 + d) ∷ []) ≡ true
digit_printable d low = grind arith

name_printable : (n : ℕ) → n < 1024 → list_all is_printable (target_name n) ≡ true
name_printable n low =
    decimal_by_steps (λ m ds. list_all is_printable ds ≡ true) digit_printable (λ m ds high h. all_joined is_printable ds ((48 + m % 10) ∷ []) h (digit_printable (m % 10) (omega arith))) n
    (omega arith)

name_short : (n : ℕ) → n < 1024 → length (target_name n) ≤ 8
name_short n low = omega (arith, length-decimal-le 4 n (omega arith) (omega arith) (omega arith))

own_shown : (b : ℕ) → b < 8 → (list_all is_printable (own_text b) ≡ true) × (length (own_text b) ≤ 8)
own_shown b low = (rw (digit_printable b (omega arith)) refl, omega arith)

brigade_shown : (n b : ℕ) → n ≤ 8 → (ltb b n || eqb b 8) ≡ true → (list_all is_printable (brigade_text b) ≡ true) × (length (brigade_text b) ≤ 8)
brigade_shown n b small h = either (eqb b 8) (ltb b n) refl h
  where
    either : (x y : Bool) → ltb b n ≡ y → (y || x) ≡ true → (list_all is_printable (cond x (codes "in") (own_text b)) ≡ true) × (length (cond x (codes "in") (own_text b)) ≤ 8)
    either true y e h = (refl, omega arith)
    either false true e h = own_shown b (let low = ltb-true b n e in omega arith)
    either false false e h = absurd (cc h)

place_shown : (n : ℕ) (q : PoolRef) → n ≤ 8 → place_is_declared n q ≡ true → (list_all is_printable (place_text q) ≡ true) × (length (place_text q) ≤ 8)
place_shown n pool.Conn small h = (refl, omega arith)
place_shown n pool.Req small h = (refl, omega arith)
place_shown n (pool.Own i) small h = let low = ltb-true i n h in (rw (digit_printable i (omega arith)) refl, omega arith)

own_pool_shown : (q : ℕ) → q < 8 → (list_all is_printable (place_text (pool.Own q)) ≡ true) × (length (place_text (pool.Own q)) ≤ 8)
own_pool_shown q low = (rw (digit_printable q (omega arith)) refl, omega arith)

status_shown : (s : Status) → (list_all is_printable (status_text s) ≡ true) × (length (status_text s) ≤ 8)
status_shown status.Success = (refl, omega arith)
status_shown status.Fail = (refl, omega arith)

value_shown : (v : Value) → is_value v ≡ true → (list_all is_printable (value_text v) ≡ true) × (length (value_text v) ≤ 10)
value_shown (value.Number n) h = let low = ltb-true n 8 h in (rw (digit_printable n (omega arith)) refl, omega arith)
value_shown (value.Constant k) h =
    let low = ltb-true k (2 ^ 32) h in (
      decimal_by_steps (λ m ds. list_all is_printable ds ≡ true) digit_printable (λ m ds high e. all_joined is_printable ds ((48 + m % 10) ∷ []) e (digit_printable (m % 10) (omega arith))) k
          (omega arith),
      length-decimal-le 10 k (omega arith) (omega arith) (omega arith),
    )

cursor_shown : (c : ℕ) → ltb c 8 ≡ true → (list_all is_printable (cursor_text c) ≡ true) × (length (cursor_text c) ≤ 10)
cursor_shown c h = let low = ltb-true c 8 h in (rw (digit_printable c (omega arith)) refl, omega arith)

kind_test_shown : (k : KindTest) → (list_all is_printable (kind_test_text k) ≡ true) × (length (kind_test_text k) ≤ 10)
kind_test_shown kind_test.Data = (refl, omega arith)
kind_test_shown _ = (refl, omega arith)

number_shown : (n : ℕ) → ltb n 8 ≡ true → (list_all is_printable (number_text n) ≡ true) × (length (number_text n) ≤ 10)
number_shown n h = let low = ltb-true n 8 h in (rw (digit_printable n (omega arith)) refl, omega arith)

-- instructions

-- a text in quotes is printable, and has so many bytes at most
abbrev pub text_room : Option ℕ → ℕ
text_room None = 0
text_room (Some t) = 1022

abbrev pub QuotedShown : Option ℕ → List ℕ → Type 0
QuotedShown None s = Unit {0}
QuotedShown (Some t) s = (list_all is_printable s ≡ true) × (length s ≤ 1022)

-- operands of printable bytes, of so many bytes at most in a line
record AreWritten (os : List (List ℕ)) (most : ℕ) : Type 0 where
  clean : list_all is_printable (operands_text os) ≡ true
  short : length (operands_text os) ≤ most

written_both : (xs ys : List (List ℕ)) (m n : ℕ) → AreWritten xs m → AreWritten ys n → AreWritten (xs ++ ys) (m + n)
written_both xs ys m n a b =
    let e = operands_text-append xs ys in
    let size = length-append (operands_text xs) (operands_text ys) in
    record {
      clean = ap (list_all is_printable) e ∙ list_all-append is_printable (operands_text xs) (operands_text ys) ∙ rw (a.clean, b.clean) refl;
      short = omega (arith, ap length e, size, a.short, b.short);
    }

token_written : (t : List ℕ) (n : ℕ) → n ≤ 10 → (list_all is_printable t ≡ true) × (length t ≤ n) → AreWritten (t ∷ []) 11
token_written t n low h = record { clean = operands_printable (t ∷ []) (h.0, omega (arith, h.1), tt); short = omega (arith, operands_short (t ∷ []) (h.0, omega (arith, h.1), tt)) }

-- an operand of an instruction of a program
arg_written : (p : Program) (a : Arg) (n s : List ℕ) → length p.pools ≤ 8 → length p.brigades ≤ 8 → Every (tests p a) → (list_all is_printable n ≡ true) × (length n ≤ 8)
    → QuotedShown (names_text a) s → AreWritten (arg_texts a n s) (11 + text_room (names_text a))
arg_written p arg.Nothing n s few small f t w = record { clean = refl; short = omega arith }
arg_written p (arg.Place q) n s few small f t w = token_written _ 8 (omega arith) (place_shown (length p.pools) q few f.0)
arg_written p (arg.Pool q) n s few small f t w = token_written _ 8 (omega arith) (own_pool_shown q (let low = ltb-true q (length p.pools) f.0 in omega arith))
arg_written p (arg.Brigade b) n s few small f t w = token_written _ 8 (omega arith) (own_shown b (let low = ltb-true b (length p.brigades) f.0 in omega arith))
arg_written p (arg.Source b) n s few small f t w = token_written _ 8 (omega arith) (brigade_shown (length p.brigades) b small f.0)
arg_written p (arg.Ending e) n s few small f t w = token_written _ 8 (omega arith) (status_shown e)
arg_written p (arg.Target l) n s few small f t w = token_written _ 8 (omega arith) t
arg_written p (arg.Text l) n s few small f t w = record { clean = list_all-append is_printable s [] ∙ rw w.0 refl; short = omega (arith, length-append s [], w.1) }
arg_written p (arg.Variable (variable.Pool q)) n s few small f t w = token_written _ 8 (omega arith) (own_pool_shown q (let low = ltb-true q (length p.pools) f.0 in omega arith))
arg_written p (arg.Variable (variable.Brigade b)) n s few small f t w = token_written _ 8 (omega arith) (own_shown b (let low = ltb-true b (length p.brigades) f.0 in omega arith))
arg_written p (arg.Number m) n s few small f t w = token_written _ 10 (omega arith) (number_shown m f.0)
arg_written p (arg.Value v) n s few small f t w = token_written _ 10 (omega arith) (value_shown v f.0)
arg_written p (arg.Cursor c) n s few small f t w = token_written _ 10 (omega arith) (cursor_shown c f.0)
arg_written p (arg.KindTest k) n s few small f t w = token_written _ 10 (omega arith) (kind_test_shown k)

instr_shown : (p : Program) (i : Instr) (n s : List ℕ) → length p.pools ≤ 8 → length p.brigades ≤ 8 → fits p i ≡ true → (list_all is_printable n ≡ true) × (length n ≤ 8)
    → QuotedShown (text_of_instr i) s → StepShown (operand_texts i n s) (text_room (text_of_instr i))
instr_shown p i n s few small h t w =
    let a = args i in
    let f = fits_parts p i h in
    let g = formed i in
    let none : (o : Option ℕ) → o ≡ None → QuotedShown o s = λ o e. subst (λ x. QuotedShown x s) (sym e) tt in
    let one = arg_written p a.first n s few small f.first t (none (names_text a.first) g.first) in
    let two = arg_written p a.second n s few small f.second t (subst (λ x. QuotedShown x s) g.second w) in
    let three = arg_written p a.third n s few small f.third t (none (names_text a.third) g.third) in
    let four = arg_written p a.fourth n s few small f.fourth t (none (names_text a.fourth) g.fourth) in
    let all = written_both _ _ _ _ one (written_both _ _ _ _ two (written_both _ _ _ _ three four)) in
    record { clean = all.clean; short = omega (arith, all.short, ap text_room g.first, ap text_room g.second, ap text_room g.third, ap text_room g.fourth) }

instr_worded : (i : Instr) → IsPlain (instr_word i) × (length (instr_word i) ≤ 10)
instr_worded (instr.PCreate q) = ((refl, refl, refl), omega arith)
instr_worded _ = ((refl, refl, refl), omega arith)

aim_shown : (o : Option ℕ) → IfSome o (λ t. t < 1024) → (list_all is_printable (aim o) ≡ true) × (length (aim o) ≤ 8)
aim_shown None h = (refl, omega arith)
aim_shown (Some t) h = (name_printable t h, name_short t h)

-- what holds of each instruction of a module
pub record IsPrintable (p : Program) (i : Instr) : Type 0 where
  pub fit : fits p i ≡ true
  pub low : IfSome (target i) (λ t. t < 1024)
  pub text : QuotedShown (text_of_instr i) (quoted_text p.texts (text_of_instr i))

step_plain : (p : Program) (i : Instr) → length p.pools ≤ 8 → length p.brigades ≤ 8 → IsPrintable p i → IsPlain (code_text (step i (aim (target i)) (quoted_text p.texts (text_of_instr i))))
    × (length (code_text (step i (aim (target i)) (quoted_text p.texts (text_of_instr i)))) ≤ 55 + text_room (text_of_instr i))
step_plain p i few small h =
    let name = aim (target i) in
    let s = quoted_text p.texts (text_of_instr i) in
    let more = text_room (text_of_instr i) in
    let w = instr_worded i in
    let x = instr_shown p i name s few small h.fit (aim_shown (target i) h.low) h.text in
    (line_plain (instr_word i) (operand_texts i name s) more w.0 x, line_short (instr_word i) (operand_texts i name s) more w.1 x)

label_plain : (n : ℕ) → n < 1024 → IsPlain (58 ∷ target_name n) × (length (58 ∷ target_name n) ≤ 40)
label_plain n low = ((refl, refl, name_printable n low), omega (arith, name_short n low))

-- the lines, and how many bytes they have in all
abbrev pub IsFew : ℕ → List (List ℕ) → Type 0
IsFew n ls = ArePlain ls × (length (joined ls) ≤ n)

printed_line : (b : Bool) (l : List ℕ) (i : Instr) (y s : List ℕ) (ls : List CodeLine) (k m : ℕ) → IsPlain (58 ∷ l) × (length (58 ∷ l) ≤ 40) → IsPlain (code_text (step i y s))
    × (length (code_text (step i y s)) ≤ 55 + k) → IsFew m (map code_text ls) → IsFew (97 + k + m) (map code_text (cond b (label l ∷ []) [] ++ step i y s ∷ ls))
printed_line true l i y s ls k m a c h =
    let rest = joined (map code_text ls) in
    let one = length-append (code_text (step i y s)) (10 ∷ rest) in
    let two = length-append (58 ∷ l) (10 ∷ (code_text (step i y s) ++ 10 ∷ rest)) in
    ((a.0, (c.0, h.0)), omega (arith, one, two, a.1, c.1, h.1))
printed_line false l i y s ls k m a c h =
    let rest = joined (map code_text ls) in
    let one = length-append (code_text (step i y s)) (10 ∷ rest) in
    ((c.0, h.0), omega (arith, one, c.1, h.1))

more_room : (o : Option ℕ) (ts : List ℕ) → text_room o + 1022 * length ts ≡ 1022 * length (cons_option o ts)
more_room None ts = omega arith
more_room (Some t) ts = omega arith

-- the lines of code
pub code_plain : (p : Program) (n : ℕ) (is : List Instr) → length p.pools ≤ 8 → length p.brigades ≤ 8 → n + length is ≤ 1024 → All (IsPrintable p) is
    → IsFew (97 * length is + 1022 * length (filter_map text_of_instr is)) (map code_text (printed_code p.texts p.code n is))
code_plain p n [] few small low h = (tt, omega arith)
code_plain p n (i ∷ is) few small low h =
    let k = text_room (text_of_instr i) in
    let more = filter_map text_of_instr is in
    let rest = code_plain p (n + 1) is few small (omega arith) (all_tail (IsPrintable p) i is h) in
    let x = printed_line (is_target p.code n) (target_name n) i (aim (target i)) (quoted_text p.texts (text_of_instr i)) (printed_code p.texts p.code (n + 1) is) k
    (97 * length is + 1022 * length more) (label_plain n (omega arith)) (step_plain p i few small (all_head (IsPrintable p) i is h)) rest in
    (x.0, omega (arith, x.1, more_room (text_of_instr i) more))

-- the declarations
declared_line : (w : List ℕ) (os ls : List (List ℕ)) (n : ℕ) → IsPlain w → length w ≤ 10 → length os ≤ 4 → AreShown os → IsFew n ls → IsFew (56 + n) (line_text w os ∷ ls)
declared_line w os ls n h low few s r =
    let x = all_short os 0 few s in
    let size = line_short w os 0 low x in
    let one = length-append (line_text w os) (10 ∷ joined ls) in
    ((line_plain w os 0 h x, r.0), omega (arith, one, size, r.1))

-- the line of one declaration, in front of those of others
declared_plain : (w own : List ℕ) (q : PoolRef) (ls : List (List ℕ)) (n : ℕ) → IsPlain w → length w ≤ 10 → (list_all is_printable own ≡ true) × (length own ≤ 8)
    → place_is_declared 8 q ≡ true → IsFew (56 * n) ls → IsFew (56 * suc n) (line_text w (own ∷ place_text q ∷ []) ∷ ls)
declared_plain w own q ls n h low shown home rest =
    let place = place_shown 8 q (omega arith) home in
    let x = declared_line w (own ∷ place_text q ∷ []) ls (56 * n) h low (omega arith) (shown.0, omega (arith, shown.1), (place.0, omega (arith, place.1), tt)) rest in
    (x.0, omega (arith, x.1))

pub pools_plain : (k : ℕ) (ps : List PoolRef) → k + length ps ≤ 8 → All (λ q. place_is_declared 8 q ≡ true) ps → IsFew (56 * length ps) (pool_texts k ps)
pools_plain k [] few h = (tt, omega arith)
pools_plain k (q ∷ qs) few h =
    declared_plain (codes "pool") (place_text (pool.Own k)) q (pool_texts (k + 1) qs) (length qs) (refl, refl, refl) (omega arith) (own_pool_shown k (omega arith))
    (all_head (λ q. place_is_declared 8 q ≡ true) q qs h) (pools_plain (k + 1) qs (omega arith) (all_tail (λ q. place_is_declared 8 q ≡ true) q qs h))

pub brigades_plain : (k : ℕ) (ps : List PoolRef) → k + length ps ≤ 8 → All (λ q. place_is_declared 8 q ≡ true) ps → IsFew (56 * length ps) (brigade_texts k ps)
brigades_plain k [] few h = (tt, omega arith)
brigades_plain k (q ∷ qs) few h =
    declared_plain (codes "brigade") (own_text k) q (brigade_texts (k + 1) qs) (length qs) (refl, refl, refl) (omega arith) (own_shown k (omega arith))
    (all_head (λ q. place_is_declared 8 q ≡ true) q qs h) (brigades_plain (k + 1) qs (omega arith) (all_tail (λ q. place_is_declared 8 q ≡ true) q qs h))
