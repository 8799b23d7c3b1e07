-- A line is read as the codes fit it: the lowest that fits is told, and where none fits the line adds what it says.
use Rattle.std.specs.Prelude.{replicate}
use Rattle.std.proofs.Common.{◌≡◌, ℕ, ◌+◌, ◌-◌, ◌++◌, ◌<◌, ◌≤◌, Bool, true, false, ◌&&◌, ◌||◌, not, cond, eqb, leb, ltb, List, length, Option, Some, None, inl, inr, ◌⊎◌, Result, Ok, Err, refl, sym}
use Rattle.std.proofs.Common.{◌∙◌, ap, arith}
use Rattle.std.proofs.lemmas.Bool.{cases_lt}
use Rattle.std.proofs.lemmas.Bool.Decides.{nat_tests}
use Rattle.byte_text.specs.Bytes.{after_token, all_printable, begins, tail, token, unindented}
use Rattle.module_lang.specs.Codes.{◌>>=◌, code_number, unless}
use Rattle.module_lang.specs.FirstFault.{Statement, are_misplaced, are_undeclared, are_wrong, has_code, has_faulty_text, has_operands, has_wrong_operands, have, is_faulty_text, is_not_due}
use Rattle.module_lang.specs.FirstFault.{is_too_many, is_unknown, item, item_line, item_of, label, label_line, line_of, nothing, statement, takes_text, unindented_statement}
use Rattle.module_lang.specs.Lines.{are_declared, has_equal_brigades, has_long_text, has_room, has_text, instruction_count, is_declared, is_due, is_handler, is_misplaced, is_next, is_text_operand}
use Rattle.module_lang.specs.Lines.{item_read, judged, label_read, line_read, or_no_label, or_unknown, unindented_read}
use Rattle.module_code.specs.Names.{is_name, name_of}
use Rattle.module_lang.specs.Operands.{after_operand, of_kind, operand_at, operand_in, operand_kind_is_nothing, operand_kind_is_text, operands_at, text_measured, text_operand, or_wrong}
use Rattle.byte_text.specs.Quoted.{measure_of, quoted}
use Rattle.module_lang.specs.Texts.{is_skipped}
use Rattle.module_code.specs.Words.{op_kinds, word_at, word_kinds}
use Rattle.module_lang.specs.declared.draft.Draft.{Draft}
use Rattle.module_lang.specs.declared.lines.Line.{Line}
use Rattle.module_lang.specs.declared.lines.Line.TheVariants as line
use Rattle.module_code.specs.declared.operand.Operand.{Operand}
use Rattle.module_code.specs.declared.operand.Operand.TheVariants as operand
use Rattle.module_code.specs.declared.operand.Operands.{Operands}
use Rattle.byte_text.specs.declared.quoted.Measured.{Measured}
use Rattle.module_lang.specs.declared.refusal.Code.{Code}
use Rattle.module_lang.specs.declared.refusal.Code.TheVariants as code
use Rattle.module_code.specs.declared.word.OperandKind.{OperandKind}
use Rattle.module_code.specs.declared.word.OperandKind.TheVariants as kind
use Rattle.module_code.specs.declared.word.OperandKinds.{OperandKinds}
use Rattle.module_code.specs.declared.word.Word.{Word}
use Rattle.module_code.specs.declared.word.Word.TheVariants as word
use Rattle.module_lang.proofs.OperandLaws.{kinds_read}

-- an answer tells the lowest code that fits, or that none fits
abbrev pub Judges : {A : Type 0} → Result A Code → (Code → Bool) → Type 0
Judges (Ok x) p = (c : Code) → p c ≡ true → ⊥
Judges (Err c) p = (p c ≡ true) × ((e : Code) → p e ≡ true → code_number c ≤ code_number e)

-- no code below this number fits
abbrev IsAbove : ℕ → (Code → Bool) → Type 0
IsAbove n p = (e : Code) → p e ≡ true → n ≤ code_number e

numbered : ℕ → Code
numbered n =
    cond (eqb n 1) code.BadByte (cond (eqb n 2) code.NotDue (cond (eqb n 3) code.UnknownWord (cond (eqb n 4) code.WrongOperands (cond (eqb n 5) code.FaultyText
    (cond (eqb n 6) code.Undeclared (cond (eqb n 7) code.DoubledLabel (cond (eqb n 8) code.LostLabel (cond (eqb n 9) code.Misplaced (cond (eqb n 10) code.OpenEnd code.TooMany)))))))))

number_of : (c : Code) → numbered (code_number c) ≡ c
unfolding numbered
number_of code.BadByte = refl
number_of _ = refl

pub same_code : (c e : Code) → code_number c ≡ code_number e → c ≡ e
same_code c e h = sym (number_of c) ∙ ap numbered h ∙ number_of e

least : (c : Code) → 1 ≤ code_number c
least code.BadByte = omega arith
least _ = omega arith

most : (c : Code) → code_number c < 12
most code.BadByte = omega arith
most _ = omega arith

above_more : (p : Code → Bool) (c : Code) → IsAbove (code_number c) p → p c ≡ false → IsAbove (code_number c + 1) p
above_more p c low none = λ e h. higher e h (cases_lt (code_number e) (code_number c + 1))
  where
    higher : (e : Code) → p e ≡ true → (code_number e < code_number c + 1) ⊎ (code_number c + 1 ≤ code_number e) → code_number c + 1 ≤ code_number e
    higher e h (inr g) = g
    higher e h (inl l) = let n = low e h in let s = same_code e c (omega arith) in absurd (cc (sym none ∙ sym (ap p s) ∙ h))

-- the lowest code that fits, as tests in the order of the codes tell it
abbrev pub told : (Code → Bool) → Result (Unit {0}) Code
told p =
    cond (p code.BadByte) (Err code.BadByte) (cond (p code.NotDue) (Err code.NotDue) (cond (p code.UnknownWord) (Err code.UnknownWord) (cond (p code.WrongOperands) (Err code.WrongOperands)
    (cond (p code.FaultyText) (Err code.FaultyText) (cond (p code.Undeclared) (Err code.Undeclared) (cond (p code.DoubledLabel) (Err code.DoubledLabel) (cond (p code.LostLabel)
    (Err code.LostLabel) (cond (p code.Misplaced) (Err code.Misplaced) (cond (p code.OpenEnd) (Err code.OpenEnd) (cond (p code.TooMany) (Err code.TooMany) (Ok tt)))))))))))

pub told_judges : (p : Code → Bool) → Judges (told p) p
told_judges p =
    test code.BadByte _ (λ e h. least e) (λ a. test code.NotDue _ a (λ a. test code.UnknownWord _ a (λ a. test code.WrongOperands _ a (λ a. test code.FaultyText _ a
    (λ a. test code.Undeclared _ a (λ a. test code.DoubledLabel _ a (λ a. test code.LostLabel _ a
    (λ a. test code.Misplaced _ a (λ a. test code.OpenEnd _ a (λ a. test code.TooMany (Ok tt) a (λ a e h. let x = a e h in let y = most e in omega (arith, x, y))))))))))))
  where
    test : (c : Code) (r : Result (Unit {0}) Code) → IsAbove (code_number c) p → (IsAbove (code_number c + 1) p → Judges r p) → Judges (cond (p c) (Err c) r) p
    test c r low more = by (p c) refl
      where
        by : (b : Bool) → p c ≡ b → Judges (cond b (Err c) r) p
        by true q = (q, low)
        by false q = more (above_more p c low q)

-- operands are refused by code 4 or 5
abbrev Refuses : {A : Type 0} → Result A Code → Type 0
Refuses r = (c : Code) → r ≡ Err c → (c ≡ code.WrongOperands) ⊎ (c ≡ code.FaultyText)

refuses_none : {A : Type 0} (x : A) → Refuses {A = A} (Ok x)
refuses_none x c h = absurd (cc h)

refuses_wrong : {A : Type 0} → Refuses {A = A} (Err code.WrongOperands)
refuses_wrong c h = inl (cc h)

refuses_cond : {A : Type 0} (b : Bool) (r s : Result A Code) → Refuses r → Refuses s → Refuses (cond b r s)
refuses_cond true r s x y = x
refuses_cond false r s x y = y

refuses_bind : {A B : Type 0} (r : Result A Code) (f : A → Result B Code) → Refuses r → ((x : A) → Refuses (f x)) → Refuses (r >>= f)
refuses_bind (Ok x) f h g = g x
refuses_bind (Err e) f h g = λ c q. h c (cc q)

operand_refuses : (k : OperandKind) (bytes : List ℕ) → Refuses (operand_at k bytes)
unfolding operand_at
operand_refuses k bytes =
    refuses_cond (operand_kind_is_nothing k) (Ok operand.Nothing) _ (refuses_none operand.Nothing) (refuses_cond (not (begins 32 bytes)) (Err code.WrongOperands) _ refuses_wrong
    (refuses_cond (operand_kind_is_text k) (text_operand (tail bytes)) _
    (refuses_cond (not (begins 34 (tail bytes))) (Err code.WrongOperands) _ refuses_wrong (measured (measure_of (quoted (tail bytes))))) (wrong (operand_in k (token (tail bytes))))))
  where
    measured : (m : Option Measured) → Refuses (text_measured m)
    measured None = λ c h. inr (cc h)
    measured (Some m) = refuses_none (operand.Text m.len)

    wrong : (o : Option Operand) → Refuses (or_wrong o)
    wrong None = refuses_wrong
    wrong (Some o) = refuses_none o

operands_refuse : (k : OperandKinds) (bytes : List ℕ) → Refuses (operands_at k bytes)
unfolding operands_at
operands_refuse k bytes =
    refuses_bind (operand_at k.first bytes) _ (operand_refuses k.first bytes) (λ a. refuses_bind (operand_at k.second rest1) _ (operand_refuses k.second rest1)
    (λ b. refuses_bind (operand_at k.third rest2) _ (operand_refuses k.third rest2) (λ c. refuses_bind (operand_at k.fourth rest3) _ (operand_refuses k.fourth rest3)
    (λ d. refuses_bind (unless (not (eqb (length (after_operand k.fourth rest3)) 0)) code.WrongOperands) _ (end (not (eqb (length (after_operand k.fourth rest3)) 0)))
    (λ u. refuses_none (record { first = a; second = b; third = c; fourth = d }))))))
  where
    rest1 : List ℕ
    rest1 = after_operand k.first bytes

    rest2 : List ℕ
    rest2 = after_operand k.second rest1

    rest3 : List ℕ
    rest3 = after_operand k.third rest2

    end : (b : Bool) → Refuses (unless b code.WrongOperands)
    end true = refuses_wrong
    end false = refuses_none tt

-- operands that were read have a text where one is due
text_kind : (k : OperandKind) (o : Operand) → of_kind k o ≡ true → is_text_operand o ≡ operand_kind_is_text k
text_kind kind.Text (operand.Text n) h = refl
text_kind kind.Text _ h = absurd (cc h)
text_kind _ (operand.Text n) h = absurd (cc h)
text_kind _ _ h = refl

text_read : (k : OperandKinds) (bytes : List ℕ) (o : Operands) → operands_at k bytes ≡ Ok o
    → has_text o ≡ (operand_kind_is_text k.first || operand_kind_is_text k.second || operand_kind_is_text k.third || operand_kind_is_text k.fourth)
text_read k bytes o q =
    let x = kinds_read k bytes o q in
    rw (text_kind k.first o.first x.first, text_kind k.second o.second x.second, text_kind k.third o.third x.third, text_kind k.fourth o.fourth x.fourth) refl

no_room : (n m : ℕ) (x : Bool) → not (ltb n 1024 && (not x || ltb m 64)) ≡ (leb 1024 n || (x && leb 64 m))
no_room n m true = grind (arith, nat_tests)
no_room n m false = grind (arith, nat_tests)

abbrev fine : Result (Unit {0}) Code
fine = Ok tt

-- the tests of a statement, in the order of their codes, and what it adds
abbrev behind : Draft → Statement → Result (Unit {0}) Code
behind d s =
    cond (is_not_due d.part s) (Err code.NotDue) (cond (is_unknown s) (Err code.UnknownWord) (cond (has_wrong_operands d s) (Err code.WrongOperands) (cond (has_faulty_text s) (Err code.FaultyText)
    (cond (has_operands (are_undeclared d) s) (Err code.Undeclared) (cond (has_operands (are_misplaced d) s) (Err code.Misplaced) (cond (is_too_many d s) (Err code.TooMany) fine))))))

abbrev shows : Draft → Statement → Result Line Code
shows d s = behind d s >>= λ _. Ok (line_of s)

two : (a u : Bool) (x : Line) → ((unless a code.WrongOperands >>= λ _. unless u code.Undeclared) >>= λ _. Ok x) ≡ (cond a (Err code.WrongOperands) (cond u (Err code.Undeclared) fine) >>= λ _. Ok x)
two true u x = refl
two false true x = refl
two false false x = refl

five : (a b u m t : Bool) (x : Line) → ((unless a code.WrongOperands >>= λ _. unless b code.FaultyText >>= λ _. unless u code.Undeclared >>= λ _. unless m code.Misplaced >>= λ _.
    unless t code.TooMany) >>= λ _.
    Ok x) ≡ (cond a (Err code.WrongOperands) (cond b (Err code.FaultyText) (cond u (Err code.Undeclared) (cond m (Err code.Misplaced) (cond t (Err code.TooMany) fine)))) >>= λ _. Ok x)
five true b u m t x = refl
five false true u m t x = refl
five false false true m t x = refl
five false false false true t x = refl
five false false false false true x = refl
five false false false false false x = refl

-- the tests of the operands of a word
abbrev operand_tests : Draft → Word → List ℕ → Result Operands Code → Result (Unit {0}) Code
operand_tests d w bytes r =
    cond (are_wrong d w r) (Err code.WrongOperands) (cond (is_faulty_text w r) (Err code.FaultyText)
    (cond (have (are_undeclared d w) r) (Err code.Undeclared) (cond (have (are_misplaced d w) r) (Err code.Misplaced) (cond (is_too_many d (item w bytes)) (Err code.TooMany) fine))))

tests_are : (d : Draft) (w : Word) (bytes : List ℕ) (o : Operands) → operands_at (word_kinds w) bytes ≡ Ok o
    → (judged d w o >>= λ _. Ok (line.Item w o)) ≡ (operand_tests d w bytes (Ok o) >>= λ _. Ok (line.Item w o))
unfolding judged word_kinds
tests_are d word.Pool bytes o q = two (not (is_next (length d.pools) o.first)) (not (is_declared (length d.pools) 0 o.second)) (line.Item word.Pool o)
tests_are d word.Brigade bytes o q = two (not (is_next (length d.brigades) o.first)) (not (is_declared (length d.pools) 0 o.second)) (line.Item word.Brigade o)
tests_are d (word.Op i) bytes o q =
    let room : not (has_room d o) ≡ is_too_many d (item (word.Op i) bytes) =
    ap (λ x. not (ltb (instruction_count d) 1024 && (not x || ltb (length d.texts) 64))) (text_read (op_kinds i) bytes o q) ∙ no_room (instruction_count d) (length d.texts) (takes_text i) in
    five (has_equal_brigades o) (has_long_text o) (not (are_declared (length d.pools) (length d.brigades) o)) (is_misplaced d i o) (not (has_room d o)) (line.Item (word.Op i) o)
    ∙ ap (λ t. cond (has_equal_brigades o) (Err code.WrongOperands) (cond (has_long_text o) (Err code.FaultyText) (cond (not (are_declared (length d.pools) (length d.brigades) o))
    (Err code.Undeclared) (cond (is_misplaced d i o) (Err code.Misplaced) (cond t (Err code.TooMany) fine)))) >>= λ _. Ok (line.Item (word.Op i) o)) room
tests_are d _ bytes o q = refl

word_is : (d : Draft) (w : Word) (bytes : List ℕ)
    → (unless (not (is_due d.part w)) code.NotDue >>= λ _. operands_at (word_kinds w) bytes >>= λ o. judged d w o >>= λ _. Ok (line.Item w o)) ≡ shows d (item w bytes)
word_is d w bytes = due (is_due d.part w) (operands_at (word_kinds w) bytes >>= λ o. judged d w o >>= λ _. Ok (line.Item w o)) (operand_tests d w bytes (operands_at (word_kinds w) bytes))
    (item_line w (operands_at (word_kinds w) bytes)) (read (operands_at (word_kinds w) bytes) refl (operands_refuse (word_kinds w) bytes))
  where
    due : (b : Bool) (r : Result Line Code) (t : Result (Unit {0}) Code) (x : Line) → r ≡ (t >>= λ _. Ok x) → (unless (not b) code.NotDue >>= λ _. r) ≡ (cond (not b) (Err code.NotDue) t >>= λ _. Ok x)
    due true r t x e = e
    due false r t x e = refl

    failing : (c : Code) → (c ≡ code.WrongOperands) ⊎ (c ≡ code.FaultyText) → Err c ≡ (operand_tests d w bytes (Err c) >>= λ _. Ok (line.Skipped))
    failing c (inl e) = rw e refl
    failing c (inr e) = rw e refl

    read : (r : Result Operands Code) → operands_at (word_kinds w) bytes ≡ r → Refuses r
        → (r >>= λ o. judged d w o >>= λ _. Ok (line.Item w o)) ≡ (operand_tests d w bytes r >>= λ _. Ok (item_line w r))
    read (Err c) q h = failing c (h c refl)
    read (Ok o) q h = tests_are d w bytes o q

item_is : (d : Draft) (s : List ℕ) → item_read d s ≡ shows d (item_of (word_at (token s)) (after_token s))
unfolding item_read
item_is d s = known (word_at (token s))
  where
    known : (r : Option Word) → (or_unknown r >>= λ w. unless (not (is_due d.part w)) code.NotDue >>= λ _. operands_at (word_kinds w) (after_token s) >>= λ o. judged d w o >>= λ _. Ok
        (line.Item w o)) ≡ shows d (item_of r (after_token s))
    known None = refl
    known (Some w) = word_is d w (after_token s)

label_is : (d : Draft) (name : List ℕ) → label_read d name ≡ shows d (label name)
unfolding name_of
label_is d name = by (is_handler d.part) (is_name name) (name ++ replicate (16 - length name) 0)
  where
    by : (h v : Bool) (n : List ℕ) → (unless (not h) code.NotDue >>= λ _. or_no_label (cond v (Some n) None))
        ≡ (cond (not h) (Err code.NotDue) (cond (not v) (Err code.WrongOperands) fine) >>= λ _. Ok (label_line (cond v (Some n) None)))
    by false v n = refl
    by true true n = refl
    by true false n = refl

unindented_is : (d : Draft) (s : List ℕ) → unindented_read d s ≡ shows d (unindented_statement s)
unindented_is d s = skipped (is_skipped s)
  where
    labelled : (b : Bool) → cond b (label_read d (tail s)) (item_read d s) ≡ shows d (cond b (label (tail s)) (item_of (word_at (token s)) (after_token s)))
    labelled true = label_is d (tail s)
    labelled false = item_is d s

    skipped : (b : Bool) → cond b (Ok line.Skipped) (cond (begins 58 s) (label_read d (tail s)) (item_read d s)) ≡ shows d
        (cond b nothing (cond (begins 58 s) (label (tail s)) (item_of (word_at (token s)) (after_token s))))
    skipped true = refl
    skipped false = labelled (begins 58 s)

-- a line adds what it says, unless a code fits it
pub line_is : (d : Draft) (l : List ℕ) → line_read d l ≡ (told (has_code d l) >>= λ _. Ok (line_of (statement l)))
unfolding line_read
line_is d l = printable (all_printable l)
  where
    printable : (b : Bool) → cond (not b) (Err code.BadByte) (unindented_read d (unindented l)) ≡ (cond (not b) (Err code.BadByte) (behind d (statement l)) >>= λ _. Ok (line_of (statement l)))
    printable false = refl
    printable true = unindented_is d (unindented l)
