-- The parts of printed lines.
use Rattle.std.proofs.Common.{◌≡◌, ℕ, suc, ◌+◌, ◌-◌, ◌<◌, ◌≤◌, Bool, true, false, ◌||◌, eqb, ltb, cond, get_or, List, [], ◌∷◌, ◌++◌, length, map, drop, Some, refl, sym, ◌∙◌, ap, subst, arith}
use Rattle.std.proofs.Common.{append_assoc}
use Rattle.std.specs.Prelude.{IfSome, codes, slice_get, slice_range}
use Rattle.std.proofs.lemmas.Bool.{eqb-true, lt-ltb, ltb-true}
use Rattle.std.proofs.lemmas.Option.{slice_get_within, get_or_from_slice_get}
use Rattle.module_code.specs.Args.{args, names_text, no_arg, two_args}
use Rattle.module_lang.specs.Printing.{aim, is_target, label_line, quoted_text, printed, printed_code, printed_handler, target_name}
use Rattle.module_code.specs.Program.{Program, fits, target, tests, text_of_instr}
use Rattle.module_lang.specs.Shown.{AreShort, IsShortArg, own_texts, shown_arg, shown_args, shown_code, shown_declarations, shown_handler, shown_line, shown_step}
use Rattle.module_lang.specs.Texts.{CodeLine, brigade_texts, code_text, instr_word, joined, label, line_text, operand_texts, operands_text, own_text, place_text, pool_texts, step}
use Rattle.module_code.specs.declared.arg.Arg.{Arg}
use Rattle.module_code.specs.declared.arg.Arg.TheVariants as arg
use Rattle.module_code.specs.declared.arg.Args.{Args}
use Rattle.module_code.specs.declared.instr.Instr.{Instr}
use Rattle.module_code.specs.declared.instr.Instr.TheVariants as instr
use Rattle.module_code.specs.declared.instr.PoolRef.{PoolRef}
use Rattle.module_code.specs.declared.instr.PoolRef.TheVariants as pool
use Rattle.module_code.specs.declared.instr.VarRef.TheVariants as variable
use Rattle.module_lang.proofs.ArgLaws.{formed}
use Rattle.module_code.proofs.FitLaws.{Every, fits_parts}
use Rattle.byte_text.proofs.ListLaws.{drop_here}
use Rattle.module_lang.proofs.SpellingLaws.{declared_up}

pub joined-append : (xs ys : List (List ℕ)) → joined (xs ++ ys) ≡ joined xs ++ joined ys
joined-append [] ys = refl
joined-append (x ∷ xs) ys = ap (λ z. x ++ 10 ∷ z) (joined-append xs ys) ∙ sym (append_assoc x (10 ∷ joined xs) (joined ys))

pub label_shown : (code : List Instr) (n : ℕ) → is_target code n ≡ true → joined (map code_text (label_line code n)) ≡ 58 ∷ target_name n ++ 10 ∷ []
label_shown code n h = rw h refl

pub operands_text-append : (xs ys : List (List ℕ)) → operands_text (xs ++ ys) ≡ operands_text xs ++ operands_text ys
operands_text-append [] ys = refl
operands_text-append (x ∷ xs) ys = ap (λ z. 32 ∷ (x ++ z)) (operands_text-append xs ys) ∙ ap (λ z. 32 ∷ z) (sym (append_assoc x (operands_text xs) (operands_text ys)))

-- the operands of a line
abbrev line_texts : List (List ℕ) → Args → List (List ℕ)
line_texts ts a = own_texts ts a.first ++ (own_texts ts a.second ++ (own_texts ts a.third ++ own_texts ts a.fourth))

args_shown : (ts : List (List ℕ)) (a : Args) → shown_args ts a ≡ operands_text (line_texts ts a)
args_shown ts a =
    let b = own_texts ts a.second in
    let c = own_texts ts a.third in
    let d = own_texts ts a.fourth in
    let x = operands_text-append c d in
    let y = operands_text-append b (c ++ d) ∙ ap (λ z. operands_text b ++ z) x in
    sym (operands_text-append (own_texts ts a.first) (b ++ (c ++ d)) ∙ ap (λ z. shown_arg ts a.first ++ z) y)

-- a line whose operands are these
pub line_shown : (ts : List (List ℕ)) (word : List ℕ) (a : Args) → shown_line ts word a ≡ line_text word (line_texts ts a) ++ 10 ∷ []
line_shown ts word a = ap (λ z. word ++ (z ++ 10 ∷ [])) (args_shown ts a) ∙ sym (append_assoc word (operands_text (line_texts ts a)) (10 ∷ []))

-- the operands of an instruction: its target and its text are its own
instr_texts : (ts : List (List ℕ)) (i : Instr) → line_texts ts (args i) ≡ operand_texts i (aim (target i)) (quoted_text ts (text_of_instr i))
instr_texts ts instr.ClearBuf = refl
instr_texts ts _ = refl

pub step_shown : (ts : List (List ℕ)) (i : Instr) → shown_line ts (instr_word i) (args i) ≡ shown_step ts i
step_shown ts i = line_shown ts (instr_word i) (args i) ∙ ap (λ z. line_text (instr_word i) z ++ 10 ∷ []) (instr_texts ts i)

-- the operands of an instruction of a module can be printed
one_short : (p : Program) (a : Arg) → length p.pools ≤ 8 → length p.brigades ≤ 8 → Every (tests p a) → IsShortArg p.texts a
one_short p arg.Nothing few small h = tt
one_short p (arg.Place q) few small h = declared_up (length p.pools) 8 q few h.0
one_short p (arg.Pool q) few small h = let low = ltb-true q (length p.pools) h.0 in omega arith
one_short p (arg.Brigade b) few small h = let low = ltb-true b (length p.brigades) h.0 in omega arith
one_short p (arg.Source b) few small h = source (ltb b (length p.brigades)) refl h.0
  where
    source : (x : Bool) → ltb b (length p.brigades) ≡ x → (x || eqb b 8) ≡ true → (ltb b 8 || eqb b 8) ≡ true
    source true e h = let low = ltb-true b (length p.brigades) e in rw (lt-ltb b 8 (omega arith)) refl
    source false e h = rw (eqb-true b 8 h) refl
one_short p (arg.Ending s) few small h = tt
one_short p (arg.Target t) few small h = tt
one_short p (arg.Text t) few small h = ltb-true t (length p.texts) h.0
one_short p (arg.Variable (variable.Pool q)) few small h = let low = ltb-true q (length p.pools) h.0 in omega arith
one_short p (arg.Variable (variable.Brigade b)) few small h = let low = ltb-true b (length p.brigades) h.0 in omega arith
one_short p (arg.Number m) few small h = ltb-true m 8 h.0
one_short p (arg.Value v) few small h = h.0
one_short p (arg.Cursor c) few small h = ltb-true c 8 h.0
one_short p (arg.KindTest k) few small h = tt

pub args_short : (p : Program) (i : Instr) → length p.pools ≤ 8 → length p.brigades ≤ 8 → fits p i ≡ true → AreShort p.texts (args i)
args_short p i few small h =
    let f = fits_parts p i h in
    let a = args i in
    record {
      first = one_short p a.first few small f.first;
      second = one_short p a.second few small f.second;
      third = one_short p a.third few small f.third;
      fourth = one_short p a.fourth few small f.fourth;
    }

-- the text of an instruction of a module is there
pub text_there : (p : Program) (i : Instr) → fits p i ≡ true → IfSome (text_of_instr i) (λ t. t < length p.texts)
text_there p i h = subst (λ o. IfSome o (λ t. t < length p.texts)) (sym (formed i).second) (low (args i).second (fits_parts p i h).second)
  where
    low : (a : Arg) → Every (tests p a) → IfSome (names_text a) (λ t. t < length p.texts)
    low (arg.Text t) h = ltb-true t (length p.texts) h.0
    low _ h = tt

range_more : {X : Type 0} (xs : List X) (n to : ℕ) (x : X) → n < to → slice_get xs n ≡ Some x → slice_range xs n to ≡ x ∷ slice_range xs (n + 1) to
range_more xs n to x low at =
    let k : to - n ≡ suc (to - (n + 1)) = omega arith in
    let here : get_or xs n x ≡ x = get_or_from_slice_get xs n x x at in
    rw (k, drop_here xs n x (slice_get_within xs n x at), here) refl

line_joined : (l rest : List ℕ) → l ++ 10 ∷ rest ≡ (l ++ 10 ∷ []) ++ rest
line_joined l rest = sym (append_assoc l (10 ∷ []) rest)

lines_joined : (b : Bool) (name : List ℕ) (i : Instr) (y s : List ℕ) (ls : List CodeLine) → joined (map code_text (cond b (label name ∷ []) [] ++ step i y s ∷ ls)) ≡ joined
    (map code_text (cond b (label name ∷ []) [])) ++ ((code_text (step i y s) ++ 10 ∷ []) ++ joined (map code_text ls))
lines_joined true name i y s ls =
    ap (λ z. (58 ∷ name) ++ 10 ∷ z) (line_joined (code_text (step i y s)) (joined (map code_text ls))) ∙ line_joined (58 ∷ name) ((code_text (step i y s) ++ 10 ∷ []) ++ joined (map code_text ls))
lines_joined false name i y s ls = line_joined (code_text (step i y s)) (joined (map code_text ls))

-- the code from an instruction on: its label, if it is a target, its line, and the rest
pub code_more : (ts : List (List ℕ)) (code : List Instr) (n to : ℕ) (i : Instr) → n < to → slice_get code n ≡ Some i
    → shown_code ts code n to ≡ joined (map code_text (label_line code n)) ++ (shown_step ts i ++ shown_code ts code (n + 1) to)
unfolding shown_code
code_more ts code n to i low at =
    rw (range_more code n to i low at)
    (lines_joined (is_target code n) (target_name n) i (aim (target i)) (quoted_text ts (text_of_instr i)) (printed_code ts code (n + 1) (slice_range code (n + 1) to)))

pub code_none : (ts : List (List ℕ)) (code : List Instr) (n to : ℕ) → to ≤ n → shown_code ts code n to ≡ []
unfolding shown_code
code_none ts code n to high = let k : to - n ≡ 0 = omega arith in rw k refl

-- declarations

pub pools_more : (ts : List (List ℕ)) (ps : List PoolRef) (k : ℕ) (d : PoolRef) → k < length ps
    → joined (pool_texts k (drop k ps)) ≡ shown_line ts (codes "pool") (two_args (arg.Pool k) (arg.Place (get_or ps k d))) ++ joined (pool_texts (k + 1) (drop (k + 1) ps))
pools_more ts ps k d low =
    let q = get_or ps k d in
    let rest = joined (pool_texts (k + 1) (drop (k + 1) ps)) in
    ap (λ xs. joined (pool_texts k xs)) (drop_here ps k d low) ∙ line_joined (line_text (codes "pool") (place_text (pool.Own k) ∷ place_text q ∷ [])) rest
    ∙ ap (λ z. z ++ rest) (sym (line_shown ts (codes "pool") (two_args (arg.Pool k) (arg.Place q))))

pub brigades_more : (ts : List (List ℕ)) (ps : List PoolRef) (k : ℕ) (d : PoolRef) → k < length ps
    → joined (brigade_texts k (drop k ps)) ≡ shown_line ts (codes "brigade") (two_args (arg.Brigade k) (arg.Place (get_or ps k d))) ++ joined (brigade_texts (k + 1) (drop (k + 1) ps))
brigades_more ts ps k d low =
    let q = get_or ps k d in
    let rest = joined (brigade_texts (k + 1) (drop (k + 1) ps)) in
    ap (λ xs. joined (brigade_texts k xs)) (drop_here ps k d low) ∙ line_joined (line_text (codes "brigade") (own_text k ∷ place_text q ∷ [])) rest
    ∙ ap (λ z. z ++ rest) (sym (line_shown ts (codes "brigade") (two_args (arg.Brigade k) (arg.Place q))))

handler_joined : (ts : List (List ℕ)) (word : List ℕ) (ls rest : List (List ℕ)) → joined (word ∷ (ls ++ rest)) ≡ shown_line ts word no_arg ++ joined ls ++ joined rest
handler_joined ts word ls rest =
    ap (λ z. word ++ 10 ∷ z) (joined-append ls rest) ∙ line_joined word (joined ls ++ joined rest) ∙ sym (append_assoc (word ++ 10 ∷ []) (joined ls) (joined rest))

-- the text of a module is its declarations, its three handlers, and `end`
pub printed_parts : (m : Program) (init main to : ℕ) → init ≡ m.init → main ≡ m.main → to ≡ length m.code → printed m ≡ shown_declarations m
    ++ (shown_handler (codes "open") m.texts m.code 0 init ++ (shown_handler (codes "init") m.texts m.code init main ++ (shown_handler (codes "main") m.texts m.code main to ++ codes "end\n")))
unfolding printed shown_declarations shown_handler shown_code
printed_parts m init main to i j k =
    let ps = pool_texts 0 m.pools in
    let bs = brigade_texts 0 m.brigades in
    let a = map code_text (printed_handler m.texts m.code 0 m.init) in
    let b = map code_text (printed_handler m.texts m.code m.init m.main) in
    let c = map code_text (printed_handler m.texts m.code m.main (length m.code)) in
    let third = codes "main" ∷ (c ++ codes "end" ∷ []) in
    let second = codes "init" ∷ (b ++ third) in
    let first = codes "open" ∷ (a ++ second) in
    let head : List ℕ → List ℕ = λ z. codes "module 1" ++ 10 ∷ z in
    let line : List ℕ → List ℕ = λ word. shown_line m.texts word no_arg in
    let declared : joined (ps ++ (bs ++ first)) ≡ joined ps ++ joined bs ++ joined first =
    joined-append ps (bs ++ first) ∙ ap (λ z. joined ps ++ z) (joined-append bs first) ∙ sym (append_assoc (joined ps) (joined bs) (joined first)) in
    let handled : joined first ≡ (line (codes "open") ++ joined a) ++ ((line (codes "init") ++ joined b) ++ ((line (codes "main") ++ joined c) ++ codes "end\n")) =
    handler_joined m.texts (codes "open") a second ∙ ap (λ z. line (codes "open") ++ joined a ++ z)
    (handler_joined m.texts (codes "init") b third ∙ ap (λ z. line (codes "init") ++ joined b ++ z) (handler_joined m.texts (codes "main") c (codes "end" ∷ []))) in
    rw (i, j, k) (ap head declared ∙ ap (λ z. head (joined ps ++ joined bs) ++ z) handled)
