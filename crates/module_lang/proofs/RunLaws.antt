-- A text whose lines are spelled is read line by line.
use Rattle.std.proofs.Common.{◌≡◌, ℕ, ◌+◌, ◌<◌, Bool, true, false, not, cond, eqb, List, [], ◌∷◌, ◌++◌, length, ltb, ◌||◌, ◌≤◌, Option, Some, None, Ok, refl, sym, ◌∙◌, ap, arith, append_assoc}
use Rattle.std.proofs.Common.{append-nil}
use Rattle.std.specs.Prelude.{All, IfSome, is_some}
use Rattle.std.specs.List.{list_all}
use Rattle.std.proofs.lemmas.Bool.{and_parts, ne_eqb, lt-ltb, le-ltb, not-true}
use Rattle.module_lang.specs.Assembling.{lines_read, lines_ended, is_end}
use Rattle.byte_text.specs.Bytes.{all_printable, is_printable, unindented}
use Rattle.module_lang.specs.Codes.{◌>>=◌}
use Rattle.module_lang.specs.Drafts.{label_added}
use Rattle.module_lang.specs.Entries.{item_entered}
use Rattle.module_lang.specs.Lines.{line_taken, taken}
use Rattle.module_lang.specs.Lines.{line_read, unindented_read, is_due, is_handler, judged, has_equal_brigades, has_long_text, are_declared, misplaced, has_room, instruction_count, is_declared}
use Rattle.module_lang.specs.Lines.{is_long_text, same_brigade}
use Rattle.module_code.specs.Names.{is_name}
use Rattle.module_lang.specs.Operands.{operands_at}
use Rattle.module_code.specs.Program.{Program, apart, fits, tests, text_of_instr}
use Rattle.module_code.specs.Args.{args, op_of}
use Rattle.module_code.specs.Spelling.{operand_of, operands_of}
use Rattle.module_lang.specs.Texts.{is_skipped, statements, joined, line_text, operands_text}
use Rattle.module_code.specs.Words.{word_text, word_kinds}
use Rattle.module_code.specs.declared.arg.Arg.{Arg}
use Rattle.module_code.specs.declared.arg.Arg.TheVariants as arg
use Rattle.module_lang.specs.declared.draft.Draft.{Draft}
use Rattle.module_code.specs.declared.part.Part.{Part}
use Rattle.module_code.specs.declared.instr.Instr.{Instr}
use Rattle.module_code.specs.declared.instr.VarRef.TheVariants as variable
use Rattle.module_code.specs.declared.operand.Operands.{Operands}
use Rattle.module_code.specs.declared.word.Word.{Word}
use Rattle.module_code.specs.declared.word.Word.TheVariants as word
use Rattle.module_lang.proofs.ArgLaws.{formed, mixes}
use Rattle.module_lang.proofs.DraftLaws.{has_text_of}
use Rattle.module_code.proofs.FitLaws.{Every, fits_parts}
use Rattle.byte_text.proofs.ListLaws.{all_head, all_tail}
use Rattle.module_lang.proofs.ModuleLaws.{unnamed}
use Rattle.module_lang.proofs.SpellingLaws.{item_again, statement_plain, name_again, padded}

-- lines that are taken one after another
abbrev pub Fold : Draft → ℕ → List (List ℕ) → Draft → Type 0
Fold d n [] e = d ≡ e
Fold d n (l ∷ ls) e = (x : Draft) × (line_taken d n l ≡ Ok x) × Fold x (n + 1) ls e

one_line : (d : Draft) (n : ℕ) (cur l rest : List ℕ) → list_all is_printable l ≡ true
    → lines_read false d n cur (l ++ 10 ∷ rest) ≡ (line_taken d n (cur ++ l) >>= λ x. lines_read false x (n + 1) [] rest)
one_line d n cur [] rest h = rw (append-nil cur) refl
one_line d n cur (b ∷ bs) rest h =
    let a = and_parts (is_printable b) (list_all is_printable bs) h in
    let apart : eqb b 10 ≡ false = ne_eqb b 10 (λ e. absurd (cc (sym a.0 ∙ ap is_printable e))) in
    rw apart (one_line d n (cur ++ b ∷ []) bs rest a.1 ∙ rw (append_assoc cur (b ∷ []) bs) refl)

pub fold_read : (lines : List (List ℕ)) (d e : Draft) (n : ℕ) → All (λ l. all_printable l ≡ true) lines → Fold d n lines e → is_end e.part ≡ true → lines_read false d n [] (joined lines) ≡ Ok e
unfolding lines_ended all_printable
fold_read [] d e n clean f end = let p : is_end d.part ≡ true = ap (λ (x : Draft). is_end x.part) f ∙ end in rw p (ap Ok f)
fold_read (l ∷ ls) d e n clean f end =
    let first = all_head (λ l. all_printable l ≡ true) l ls clean in
    let one = one_line d n [] l (joined ls) first in
    rw (one, f.1) (fold_read ls f.0 e (n + 1) (all_tail (λ l. all_printable l ≡ true) l ls clean) f.2 end)

-- a statement is taken, whatever spaces stand before it
abbrev pub Takes : Draft → List ℕ → ℕ → Draft → Type 0
Takes d s n e = (bytes : List ℕ) → unindented bytes ≡ s → taken d n bytes (unindented_read d s) ≡ Ok e

-- statements lead from a draft to one of which P holds, whatever lines they stand in
abbrev pub Goes : Draft → List (List ℕ) → (Draft → Type 0) → Type 0
Goes d [] P = P d
Goes d (s ∷ ss) P = (is_skipped s ≡ false) × ((n : ℕ) → (e : Draft) × Takes d s n e × Goes e ss P)

pub run : (lines : List (List ℕ)) (d : Draft) (n : ℕ) (P : Draft → Type 0) → All (λ l. all_printable l ≡ true) lines → Goes d (statements lines) P → (e : Draft) × Fold d n lines e × P e
unfolding line_taken line_read
run [] d n P clean g = (d, refl, g)
run (l ∷ ls) d n P clean g = cases (is_skipped (unindented l)) refl (λ e m. run ls e m P rest) g
  where
    rest : All (λ l. all_printable l ≡ true) ls
    rest = all_tail (λ l. all_printable l ≡ true) l ls clean

    cases : (b : Bool) → is_skipped (unindented l) ≡ b → ((e : Draft) (m : ℕ) → Goes e (statements ls) P → (x : Draft) × Fold e m ls x × P x)
        → Goes d (cond b (statements ls) (unindented l ∷ statements ls)) P → (e : Draft) × Fold d n (l ∷ ls) e × P e
    cases true q more g =
        let first = all_head (λ l. all_printable l ≡ true) l ls clean in
        let z = more d (n + 1) g in
        (z.0, (d, rw (first, q) refl, z.1), z.2)
    cases false q more g =
        let first = all_head (λ l. all_printable l ≡ true) l ls clean in
        let s = g.1 n in
        let z = more s.0 (n + 1) s.2 in
        (z.0, (s.0, rw first (s.1 l refl), z.1), z.2)

pub goes_append : (xs ys : List (List ℕ)) (d : Draft) (P : Draft → Type 0) → Goes d xs (λ e. Goes e ys P) → Goes d (xs ++ ys) P
goes_append [] ys d P g = g
goes_append (x ∷ xs) ys d P g = (g.0, λ n. let s = g.1 n in (s.0, s.1, goes_append xs ys s.0 P s.2))

-- a line with a word
pub goes_item : (d : Draft) (w : Word) (os : List (List ℕ)) (o : Operands) (next : ℕ → Draft) (ss : List (List ℕ)) (P : Draft → Type 0) → is_due d.part w ≡ true
    → operands_at (word_kinds w) (operands_text os) ≡ Ok o → judged d w o ≡ Ok tt → ((n : ℕ) (bytes : List ℕ) → unindented bytes ≡ line_text (word_text w) os → item_entered d n bytes w o ≡ next n)
    → ((n : ℕ) → Goes (next n) ss P) → Goes d (line_text (word_text w) os ∷ ss) P
goes_item d w os o next ss P due read sound same more =
    (statement_plain w os, λ n. (next n, λ bytes e. rw (item_again d w os o due read sound) (ap Ok (same n bytes e)), more n))

-- a label line
pub goes_label : (d : Draft) (name : List ℕ) (ss : List (List ℕ)) (P : Draft → Type 0) → is_handler d.part ≡ true → is_name name ≡ true
    → ((n : ℕ) → Goes (label_added d.part d n (padded name)) ss P) → Goes d ((58 ∷ name) ∷ ss) P
goes_label d name ss P due named more =
    (skip, λ n. (label_added d.part d n (padded name), λ bytes e. rw (skip, due, name_again name named) refl, more n))
  where
    skip : is_skipped (58 ∷ name) ≡ false
    skip = rw (ne_eqb (length (58 ∷ name)) 0 (λ e. omega arith)) refl

not_apart : (a b : ℕ) → Every (not (eqb a b) ∷ []) → eqb a b ≡ false
not_apart a b h = not-true (eqb a b) h.0

-- two operands that differ are not one brigade
pair_none : (a b : Arg) (n : List ℕ) (k : ℕ) → mixes a b ≡ false → Every (apart a b) → same_brigade (operand_of a n k) (operand_of b n k) ≡ false
pair_none (arg.Brigade a) (arg.Brigade b) n k m h = not_apart a b h
pair_none (arg.Brigade a) (arg.Source b) n k m h = not_apart a b h
pair_none (arg.Brigade a) (arg.Variable v) n k m h = absurd (cc m)
pair_none (arg.Source a) (arg.Brigade b) n k m h = not_apart a b h
pair_none (arg.Source a) (arg.Source b) n k m h = not_apart a b h
pair_none (arg.Source a) (arg.Variable v) n k m h = absurd (cc m)
pair_none (arg.Variable (variable.Pool q)) b n k m h = refl
pair_none (arg.Variable (variable.Brigade q)) (arg.Brigade b) n k m h = absurd (cc m)
pair_none (arg.Variable (variable.Brigade q)) (arg.Source b) n k m h = absurd (cc m)
pair_none (arg.Variable (variable.Brigade q)) (arg.Variable v) n k m h = absurd (cc m)
pair_none _ _ n k m h = refl

equal_none : (p : Program) (i : Instr) (n : List ℕ) (k : ℕ) → fits p i ≡ true → has_equal_brigades (operands_of i n k) ≡ false
equal_none p i n k h =
    let a = args i in
    let f = fits_parts p i h in
    let g = formed i in
    rw (pair_none a.first a.second n k g.one_two f.one_two, pair_none a.first a.third n k g.one_three f.one_three, pair_none a.second a.third n k g.two_three f.two_three) refl

one_declared : (p : Program) (a : Arg) (n : List ℕ) (k : ℕ) → Every (tests p a) → is_declared (length p.pools) (length p.brigades) (operand_of a n k) ≡ true
one_declared p (arg.Place q) n k h = h.0
one_declared p (arg.Pool q) n k h = h.0
one_declared p (arg.Brigade b) n k h = rw h.0 refl
one_declared p (arg.Source b) n k h = h.0
one_declared p (arg.Variable (variable.Pool q)) n k h = h.0
one_declared p (arg.Variable (variable.Brigade b)) n k h = rw h.0 refl
one_declared p _ n k h = refl

declared_all : (p : Program) (i : Instr) (n : List ℕ) (k : ℕ) → fits p i ≡ true → are_declared (length p.pools) (length p.brigades) (operands_of i n k) ≡ true
declared_all p i n k h =
    let a = args i in
    let f = fits_parts p i h in
    rw (one_declared p a.first n k f.first, one_declared p a.second n k f.second, one_declared p a.third n k f.third, one_declared p a.fourth n k f.fourth) refl

one_short : (a : Arg) (n : List ℕ) (k : ℕ) → k ≤ 255 → is_long_text (operand_of a n k) ≡ false
one_short (arg.Text t) n k h = le-ltb 255 k h
one_short (arg.Variable (variable.Pool q)) n k h = refl
one_short (arg.Variable (variable.Brigade b)) n k h = refl
one_short _ n k h = refl

short_all : (i : Instr) (n : List ℕ) (k : ℕ) → k ≤ 255 → has_long_text (operands_of i n k) ≡ false
short_all i n k h =
    let a = args i in
    rw (one_short a.first n k h, one_short a.second n k h, one_short a.third n k h, one_short a.fourth n k h) refl

-- the part, the pools and the brigades of a draft in a handler of a program
pub record DraftAt (p : Program) (q : Part) (d : Draft) : Type 0 where
  pub part : d.part ≡ q
  pub pools : d.pools ≡ p.pools
  pub brigades : d.brigades ≡ p.brigades

room_for : (o : Option ℕ) (m : ℕ) → IfSome o (λ _. m < 64) → (not (is_some o) || ltb m 64) ≡ true
room_for None m h = refl
room_for (Some t) m h = lt-ltb m 64 h

-- an instruction of a program is judged right
pub instr_judged : (p : Program) (q : Part) (d : Draft) (i : Instr) (n : List ℕ) (k : ℕ) → DraftAt p q d → instruction_count d < 1024 → fits p i ≡ true
    → misplaced q p.pools p.brigades (op_of i) (operands_of i [] 0) ≡ false → k ≤ 255 → IfSome (text_of_instr i) (λ _. length d.texts < 64) → judged d (word.Op (op_of i)) (operands_of i n k) ≡ Ok tt
unfolding judged
instr_judged p q d i n k at low fit allowed short few =
    let equal = equal_none p i n k fit in
    let long = short_all i n k short in
    let declared : are_declared (length d.pools) (length d.brigades) (operands_of i n k) ≡ true = rw (at.pools, at.brigades) (declared_all p i n k fit) in
    let placed : misplaced d.part d.pools d.brigades (op_of i) (operands_of i n k) ≡ false = rw (at.part, at.pools, at.brigades) (unnamed q p.pools p.brigades i n k ∙ allowed) in
    let room : has_room d (operands_of i n k) ≡ true = rw (lt-ltb (instruction_count d) 1024 low, has_text_of i n k) (room_for (text_of_instr i) (length d.texts) few) in
    rw (equal, long, declared, placed, room) refl
