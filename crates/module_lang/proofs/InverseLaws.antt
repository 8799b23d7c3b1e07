-- What is read was spelled so: words, operands and lines.
use Rattle.std.proofs.Common.{◌≡◌, ℕ, zero, suc, ◌+◌, ◌-◌, ◌^◌, ◌<◌, Bool, true, false, ◌&&◌, not, cond, eqb, leb, ltb, nat_eq, List, [], ◌∷◌, ◌++◌, length, take, drop, Option, Some, None, Ok, Err}
use Rattle.std.proofs.Common.{refl, sym, ◌∙◌, ap, subst, arith}
use Rattle.std.specs.Prelude.{All, slice_index, codes, option_map, find}
use Rattle.std.specs.Cmp.Lexicographic.{pointwise, same_text}
use Rattle.std.proofs.lemmas.Bool.{and_parts, leb-true, eqb-true, lt-ltb, ltb-true, ne_eqb}
use Rattle.std.specs.List.{list_all}
use Rattle.byte_text.specs.Bytes.{begins, tail, token, token_len, after_token}
use Rattle.module_lang.specs.Codes.{◌>>=◌, unless}
use Rattle.module_lang.specs.Lines.{is_due, judged, known_word, or_unknown, label_read, item_read, or_no_label, is_handler}
use Rattle.module_lang.specs.Entries.{from_quote}
use Rattle.module_code.specs.Names.{all_name_bytes, is_letter, is_name, is_name_byte, name_of}
use Rattle.byte_text.specs.Numbers.{constant_of}
use Rattle.module_code.specs.Args.{is_value}
use Rattle.module_lang.specs.Operands.{kind_test_at, numbered, operand_in, operand_at, after_operand, operands_at, operand_kind_is_nothing, operand_kind_is_text, or_wrong, text_measured, text_operand}
use Rattle.byte_text.specs.Quoted.{Quoted, quoted, measure_of, text_of}
use Rattle.module_lang.specs.Texts.{place_text, own_text, brigade_text, cursor_text, status_text, value_text, operands_text}
use Rattle.module_code.specs.Words.{all_kind_tests, all_words, kind_test_text, word_at, word_text, word_kinds, two_operands, one_operand, no_operand}
use Rattle.module_lang.specs.declared.draft.Draft.{Draft}
use Rattle.module_code.specs.declared.instr.KindTest.{KindTest}
use Rattle.module_code.specs.declared.instr.KindTest.TheVariants as kind_test
use Rattle.module_code.specs.declared.instr.PoolRef.TheVariants as pool
use Rattle.module_code.specs.declared.instr.Status.TheVariants as status
use Rattle.module_code.specs.declared.instr.Value.TheVariants as value
use Rattle.module_lang.specs.declared.lines.Line.{Line}
use Rattle.module_lang.specs.declared.lines.Line.TheVariants as line
use Rattle.module_code.specs.declared.operand.Operand.{Operand}
use Rattle.module_code.specs.declared.operand.Operand.TheVariants as operand
use Rattle.module_code.specs.declared.operand.Operands.{Operands}
use Rattle.module_lang.specs.declared.refusal.Code.TheVariants as code
use Rattle.module_code.specs.declared.word.OperandKind.{OperandKind}
use Rattle.module_code.specs.declared.word.OperandKind.TheVariants as kind
use Rattle.module_code.specs.declared.word.Word.{Word}
use Rattle.module_lang.proofs.LineLaws.{bind_ok, unless_ok, not_false}
use Rattle.byte_text.proofs.NumberLaws.{constant_found, decimal_without}
use Rattle.module_lang.proofs.OperandLaws.{chain, cond_some, numbered_below}
use Rattle.module_lang.proofs.QuoteLaws.{unquoted, place_unquoted}
use Rattle.module_lang.proofs.SpellingLaws.{name_without, padded}

cut : (n : ℕ) (xs : List ℕ) → take n xs ++ drop n xs ≡ xs
cut zero xs = refl
cut (suc n) [] = refl
cut (suc n) (x ∷ xs) = ap (λ ys. x ∷ ys) (cut n xs)

pub tokens : (bytes : List ℕ) → bytes ≡ token bytes ++ after_token bytes
unfolding token after_token
tokens bytes = sym (cut (token_len bytes) bytes)

found_passes : {X : Type 0} (p : X → Bool) (xs : List X) (x : X) → find p xs ≡ Some x → p x ≡ true
found_passes p [] x h = absurd (cc h)
found_passes p (y ∷ ys) x h = first (p y) refl h (found_passes p ys x)
  where
    first : (b : Bool) → p y ≡ b → cond b (Some y) (find p ys) ≡ Some x → (find p ys ≡ Some x → p x ≡ true) → p x ≡ true
    first true q h more = let s : y ≡ x = cc h in subst (λ z. p z ≡ true) s q
    first false q h more = more h

pub word_spelled : (t : List ℕ) (w : Word) → word_at t ≡ Some w → t ≡ word_text w
unfolding word_at
word_spelled t w h = sym (same_text (word_text w) t (sym (found_passes (λ x. pointwise nat_eq (word_text x) t) all_words w h)))

-- a token was read as an operand
pub record ReadsOperand (k : OperandKind) (rest : List ℕ) (o : Operand) : Type 0 where
  pub token : List ℕ
  pub read : operand_in k token ≡ Some o
  pub spelled : rest ≡ 32 ∷ (token ++ after_operand k rest)

pub read_token : (k : OperandKind) (rest : List ℕ) (o : Operand) → operand_kind_is_nothing k ≡ false → operand_kind_is_text k ≡ false → operand_at k rest ≡ Ok o → ReadsOperand k rest o
unfolding operand_at after_operand
read_token k [] o n q h = let z = rw n at h in absurd (cc z)
read_token k (b ∷ bs) o n q h = space (eqb b 32) refl (rw (n, q) at h)
  where
    some : (r : Option Operand) → operand_in k (token bs) ≡ r → b ≡ 32 → or_wrong r ≡ Ok o → ReadsOperand k (b ∷ bs) o
    some None e s h = absurd (cc h)
    some (Some x) e s h = record { token = token bs; read = e ∙ (let z : x ≡ o = cc h in ap Some z); spelled = rw (n, q, s) (ap (λ ys. 32 ∷ ys) (tokens bs)) }

    space : (x : Bool) → eqb b 32 ≡ x → cond (not x) (Err code.WrongOperands) (or_wrong (operand_in k (token bs))) ≡ Ok o → ReadsOperand k (b ∷ bs) o
    space false e h = absurd (cc h)
    space true e h = some (operand_in k (token bs)) refl (eqb-true b 32 e) h

numbered_spelled : (letter : ℕ) (t : List ℕ) (i : ℕ) → numbered letter t ≡ Some i → t ≡ letter ∷ (48 + i) ∷ []
numbered_spelled letter t i h =
    let x = slice_index t 1 in
    let a = cond_some ((eqb (length t) 2) && (eqb (slice_index t 0) letter) && leb 48 x && leb x 55) (x - 48) i h in
    let b = and_parts ((eqb (length t) 2) && (eqb (slice_index t 0) letter) && leb 48 x) (leb x 55) a.0 in
    let c = and_parts ((eqb (length t) 2) && (eqb (slice_index t 0) letter)) (leb 48 x) b.0 in
    let d = and_parts (eqb (length t) 2) (eqb (slice_index t 0) letter) c.0 in
    let low = leb-true 48 x c.1 in
    let digit : x ≡ 48 + i = omega (arith, a.1) in
    two t (eqb-true (length t) 2 d.0) (eqb-true (slice_index t 0) letter d.1) digit
  where
    two : (t : List ℕ) → length t ≡ 2 → slice_index t 0 ≡ letter → slice_index t 1 ≡ 48 + i → t ≡ letter ∷ (48 + i) ∷ []
    two [] n p q = absurd (omega (arith, n))
    two (x ∷ []) n p q = absurd (omega (arith, n))
    two (x ∷ y ∷ []) n p q = cc
    two (x ∷ y ∷ z ∷ zs) n p q = absurd (omega (arith, n))

-- an operand and the tokens that spell it
abbrev pub SpellsOperand : Operand → List ℕ → Type 0
SpellsOperand operand.Nothing t = ⊥
SpellsOperand operand.One t = t ≡ codes "1"
SpellsOperand (operand.Place p) t = t ≡ place_text p
SpellsOperand (operand.Brigade b) t = t ≡ brigade_text b
SpellsOperand (operand.Ending s) t = t ≡ status_text s
SpellsOperand (operand.Label n) t = (is_name t ≡ true) × (n ≡ padded t)
SpellsOperand (operand.Text n) t = ⊥
SpellsOperand (operand.Value v) t = (t ≡ value_text v) × (is_value v ≡ true)
SpellsOperand (operand.Cursor c) t = (t ≡ cursor_text c) × (ltb c 8 ≡ true)
SpellsOperand (operand.KindTest k) t = t ≡ kind_test_text k

to : (o x : Operand) (t : List ℕ) → Some x ≡ Some o → SpellsOperand x t → SpellsOperand o t
to o x t e h = let s : x ≡ o = cc e in subst (λ y. SpellsOperand y t) s h

pub own_is : (b : ℕ) → b < 8 → own_text b ≡ brigade_text b
own_is b h = let e : eqb b 8 ≡ false = ne_eqb b 8 (λ e. omega arith) in rw e refl

number_place : (n : Option ℕ) (t : List ℕ) (o : Operand) → numbered 112 t ≡ n → option_map (λ i. operand.Place (pool.Own i)) n ≡ Some o → SpellsOperand o t
number_place None t o q e = absurd (cc e)
number_place (Some i) t o q e = to o (operand.Place (pool.Own i)) t e (numbered_spelled 112 t i q)

number_brigade : (n : Option ℕ) (t : List ℕ) (o : Operand) → numbered 98 t ≡ n → option_map (λ i. operand.Brigade i) n ≡ Some o → SpellsOperand o t
number_brigade None t o q e = absurd (cc e)
number_brigade (Some i) t o q e = to o (operand.Brigade i) t e (numbered_spelled 98 t i q ∙ own_is i (numbered_below 98 t i q))

place_spelled : (a b : Bool) (t : List ℕ) (o : Operand) → pointwise nat_eq t (codes "conn") ≡ a → pointwise nat_eq t (codes "req") ≡ b
    → cond a (Some (operand.Place pool.Conn)) (cond b (Some (operand.Place pool.Req)) (option_map (λ i. operand.Place (pool.Own i)) (numbered 112 t))) ≡ Some o → SpellsOperand o t
place_spelled true b t o p q e = to o (operand.Place pool.Conn) t e (same_text t (codes "conn") (sym p))
place_spelled false true t o p q e = to o (operand.Place pool.Req) t e (same_text t (codes "req") (sym q))
place_spelled false false t o p q e = number_place (numbered 112 t) t o refl e

source_spelled : (a : Bool) (t : List ℕ) (o : Operand) → pointwise nat_eq t (codes "in") ≡ a → cond a (Some (operand.Brigade 8)) (option_map (λ i. operand.Brigade i) (numbered 98 t)) ≡ Some o
    → SpellsOperand o t
source_spelled true t o p e = to o (operand.Brigade 8) t e (same_text t (codes "in") (sym p))
source_spelled false t o p e = number_brigade (numbered 98 t) t o refl e

ending_spelled : (a b : Bool) (t : List ℕ) (o : Operand) → pointwise nat_eq t (codes "ok") ≡ a → pointwise nat_eq t (codes "fail") ≡ b
    → cond a (Some (operand.Ending status.Success)) (cond b (Some (operand.Ending status.Fail)) None) ≡ Some o → SpellsOperand o t
ending_spelled true b t o p q e = to o (operand.Ending status.Success) t e (same_text t (codes "ok") (sym p))
ending_spelled false true t o p q e = to o (operand.Ending status.Fail) t e (same_text t (codes "fail") (sym q))
ending_spelled false false t o p q e = absurd (cc e)

one_spelled : (a : Bool) (t : List ℕ) (o : Operand) → pointwise nat_eq t (codes "1") ≡ a → cond a (Some operand.One) None ≡ Some o → SpellsOperand o t
one_spelled true t o p e = to o operand.One t e (same_text t (codes "1") (sym p))
one_spelled false t o p e = absurd (cc e)

pub name_spelled : (t n : List ℕ) → name_of t ≡ Some n → (is_name t ≡ true) × (n ≡ padded t)
unfolding name_of
name_spelled t n h = let a = cond_some (is_name t) (padded t) n h in (a.0, sym a.1)

label_spelled : (r : Option (List ℕ)) (t : List ℕ) (o : Operand) → name_of t ≡ r → option_map (λ n. operand.Label n) r ≡ Some o → SpellsOperand o t
label_spelled None t o q e = absurd (cc e)
label_spelled (Some n) t o q e = to o (operand.Label n) t e (name_spelled t n q)

variable_spelled : (a : Bool) (t : List ℕ) (o : Operand) → cond a (option_map (λ i. operand.Place (pool.Own i)) (numbered 112 t)) (option_map (λ i. operand.Brigade i) (numbered 98 t)) ≡ Some o
    → SpellsOperand o t
variable_spelled true t o e = number_place (numbered 112 t) t o refl e
variable_spelled false t o e = number_brigade (numbered 98 t) t o refl e

number_spelled : (n : Option ℕ) (t : List ℕ) (o : Operand) → numbered 110 t ≡ n → option_map (λ i. operand.Value (value.Number i)) n ≡ Some o → SpellsOperand o t
number_spelled None t o q e = absurd (cc e)
number_spelled (Some i) t o q e = to o (operand.Value (value.Number i)) t e (numbered_spelled 110 t i q, lt-ltb i 8 (numbered_below 110 t i q))

constant_spelled : (n : Option ℕ) (t : List ℕ) (o : Operand) → constant_of t ≡ n → option_map (λ k. operand.Value (value.Constant k)) n ≡ Some o → SpellsOperand o t
constant_spelled None t o q e = absurd (cc e)
constant_spelled (Some k) t o q e = let z = constant_found t k q in to o (operand.Value (value.Constant k)) t e (z.0, lt-ltb k (2 ^ 32) z.1)

value_spelled : (a : Bool) (t : List ℕ) (o : Operand)
    → cond a (option_map (λ i. operand.Value (value.Number i)) (numbered 110 t)) (option_map (λ k. operand.Value (value.Constant k)) (constant_of t)) ≡ Some o → SpellsOperand o t
value_spelled true t o e = number_spelled (numbered 110 t) t o refl e
value_spelled false t o e = constant_spelled (constant_of t) t o refl e

cursor_spelled : (n : Option ℕ) (t : List ℕ) (o : Operand) → numbered 99 t ≡ n → option_map (λ i. operand.Cursor i) n ≡ Some o → SpellsOperand o t
cursor_spelled None t o q e = absurd (cc e)
cursor_spelled (Some i) t o q e = to o (operand.Cursor i) t e (numbered_spelled 99 t i q, lt-ltb i 8 (numbered_below 99 t i q))

kind_test_spelled : (r : Option KindTest) (t : List ℕ) (o : Operand) → kind_test_at t ≡ r → option_map (λ k. operand.KindTest k) r ≡ Some o → SpellsOperand o t
kind_test_spelled None t o q e = absurd (cc e)
kind_test_spelled (Some k) t o q e = to o (operand.KindTest k) t e (sym (same_text (kind_test_text k) t (sym (found_passes (λ x. pointwise nat_eq (kind_test_text x) t) all_kind_tests k q))))

pub token_spelled : (k : OperandKind) (t : List ℕ) (o : Operand) → operand_in k t ≡ Some o → SpellsOperand o t
unfolding operand_in
token_spelled kind.Nothing t o e = absurd (cc e)
token_spelled kind.One t o e = one_spelled (pointwise nat_eq t (codes "1")) t o refl e
token_spelled kind.Place t o e = place_spelled (pointwise nat_eq t (codes "conn")) (pointwise nat_eq t (codes "req")) t o refl refl e
token_spelled kind.Pool t o e = number_place (numbered 112 t) t o refl e
token_spelled kind.Brigade t o e = number_brigade (numbered 98 t) t o refl e
token_spelled kind.Source t o e = source_spelled (pointwise nat_eq t (codes "in")) t o refl e
token_spelled kind.Ending t o e = ending_spelled (pointwise nat_eq t (codes "ok")) (pointwise nat_eq t (codes "fail")) t o refl refl e
token_spelled kind.Label t o e = label_spelled (name_of t) t o refl e
token_spelled kind.Text t o e = absurd (cc e)
token_spelled kind.Variable t o e = variable_spelled (begins 112 t) t o e
token_spelled kind.Number t o e = number_spelled (numbered 110 t) t o refl e
token_spelled kind.Value t o e = value_spelled (begins 110 t) t o e
token_spelled kind.Cursor t o e = cursor_spelled (numbered 99 t) t o refl e
token_spelled kind.KindTest t o e = kind_test_spelled (kind_test_at t) t o refl e

nothing_behind : (rest : List ℕ) → after_operand kind.Nothing rest ≡ rest
unfolding after_operand
nothing_behind rest = refl

-- a line with no operand, one operand, two and three
pub none_spelled : (rest : List ℕ) (o : Operands) → operands_at no_operand rest ≡ Ok o → rest ≡ []
none_spelled rest o h =
    let c = chain no_operand rest o h in
    rw (nothing_behind rest, nothing_behind rest, nothing_behind rest, nothing_behind rest) at c.last

pub record OneSpelled (k : OperandKind) (rest : List ℕ) (o : Operands) : Type 0 where
  pub token : List ℕ
  pub whole : rest ≡ operands_text (token ∷ [])
  pub first : SpellsOperand o.first token

pub one_taken : (k : OperandKind) (rest : List ℕ) (o : Operands) → operand_kind_is_nothing k ≡ false → operand_kind_is_text k ≡ false → operands_at (one_operand k) rest ≡ Ok o → OneSpelled k rest o
one_taken k rest o n q h =
    let c = chain (one_operand k) rest o h in
    let r = after_operand k rest in
    let x = read_token k rest o.first n q c.first in
    let none : r ≡ [] = rw (nothing_behind r, nothing_behind r, nothing_behind r) at c.last in
    record { token = x.token; whole = x.spelled ∙ ap (λ ys. 32 ∷ (x.token ++ ys)) none; first = token_spelled k x.token o.first x.read }

pub record TwoSpelled (k l : OperandKind) (rest : List ℕ) (o : Operands) : Type 0 where
  pub one : List ℕ
  pub two : List ℕ
  pub whole : rest ≡ operands_text (one ∷ two ∷ [])
  pub first : SpellsOperand o.first one
  pub second : SpellsOperand o.second two

pub two_taken : (k l : OperandKind) (rest : List ℕ) (o : Operands) → operand_kind_is_nothing k ≡ false → operand_kind_is_text k ≡ false → operand_kind_is_nothing l ≡ false
    → operand_kind_is_text l ≡ false → operands_at (two_operands k l) rest ≡ Ok o → TwoSpelled k l rest o
two_taken k l rest o n q m r h =
    let c = chain (two_operands k l) rest o h in
    let r1 = after_operand k rest in
    let r2 = after_operand l r1 in
    let x = read_token k rest o.first n q c.first in
    let y = read_token l r1 o.second m r c.second in
    let none : r2 ≡ [] = rw (nothing_behind r2, nothing_behind r2) at c.last in
    record {
      one = x.token;
      two = y.token;
      whole = x.spelled ∙ ap (λ ys. 32 ∷ (x.token ++ ys)) (y.spelled ∙ ap (λ ys. 32 ∷ (y.token ++ ys)) none);
      first = token_spelled k x.token o.first x.read;
      second = token_spelled l y.token o.second y.read;
    }

all_named : (n : List ℕ) → is_name n ≡ true → list_all is_name_byte n ≡ true
unfolding is_name all_name_bytes
all_named n h = (and_parts (leb 1 (length n) && leb (length n) 16 && is_letter (slice_index n 0)) (list_all is_name_byte n) h).1

kind_test_unquoted : (k : KindTest) → unquoted (kind_test_text k) ≡ true
kind_test_unquoted kind_test.Data = refl
kind_test_unquoted _ = refl

-- no operand but a text has a quote
pub token_unquoted : (o : Operand) (t : List ℕ) → SpellsOperand o t → unquoted t ≡ true
token_unquoted operand.Nothing t h = absurd h
token_unquoted operand.One t h = rw h refl
token_unquoted (operand.Place p) t h = rw h (place_unquoted p)
token_unquoted (operand.Brigade b) t h = rw h (source (eqb b 8))
  where
    source : (x : Bool) → unquoted (cond x (codes "in") (own_text b)) ≡ true
    source true = refl
    source false = let apart : eqb (48 + b) 34 ≡ false = ne_eqb (48 + b) 34 (λ e. omega arith) in rw apart refl
token_unquoted (operand.Ending status.Success) t h = rw h refl
token_unquoted (operand.Ending status.Fail) t h = rw h refl
token_unquoted (operand.Label n) t h = name_without 34 refl t (all_named t h.0)
token_unquoted (operand.Text n) t h = absurd h
token_unquoted (operand.Value (value.Number i)) t h = rw h.0 (let apart : eqb (48 + i) 34 ≡ false = ne_eqb (48 + i) 34 (λ e. omega arith) in rw apart refl)
token_unquoted (operand.Value (value.Constant k)) t h = rw h.0 (decimal_without 34 k refl (ltb-true k (2 ^ 32) h.1))
token_unquoted (operand.Cursor i) t h = rw h.0 (let apart : eqb (48 + i) 34 ≡ false = ne_eqb (48 + i) 34 (λ e. omega arith) in rw apart refl)
token_unquoted (operand.KindTest k) t h = rw h (kind_test_unquoted k)

-- a text that was read
pub record TextRead (rest : List ℕ) (o : Operand) : Type 0 where
  pub quote : Quoted
  pub spaced : rest ≡ 32 ∷ tail rest
  pub begun : tail rest ≡ 34 ∷ tail (tail rest)
  pub read : quoted (tail rest) ≡ Some quote
  pub len : o ≡ operand.Text (length quote.text)

begun_by : (c : ℕ) (bs : List ℕ) → begins c bs ≡ true → bs ≡ c ∷ tail bs
begun_by c [] h = absurd (cc h)
begun_by c (b ∷ bs) h = ap (λ x. x ∷ bs) (eqb-true b c h)

pub text_taken : (rest : List ℕ) (o : Operand) → operand_at kind.Text rest ≡ Ok o → TextRead rest o
unfolding operand_at
text_taken rest o h = space (begins 32 rest) refl h
  where
    measured : (q : Option Quoted) → quoted (tail rest) ≡ q → begins 32 rest ≡ true → begins 34 (tail rest) ≡ true → text_measured (measure_of q) ≡ Ok o → TextRead rest o
    measured None e s t h = absurd (cc h)
    measured (Some q) e s t h = record { quote = q; spaced = begun_by 32 rest s; begun = begun_by 34 (tail rest) t; read = e; len = let z : operand.Text (length q.text) ≡ o = cc h in sym z }

    mark : (b : Bool) → begins 34 (tail rest) ≡ b → begins 32 rest ≡ true → cond (not b) (Err code.WrongOperands) (text_measured (measure_of (quoted (tail rest)))) ≡ Ok o → TextRead rest o
    mark false e s h = absurd (cc h)
    mark true e s h = measured (quoted (tail rest)) refl s e h

    space : (b : Bool) → begins 32 rest ≡ b → cond (not b) (Err code.WrongOperands) (text_operand (tail rest)) ≡ Ok o → TextRead rest o
    space false e h = absurd (cc h)
    space true e h = mark (begins 34 (tail rest)) refl e h

-- the text of a line whose second operand is one
pub record TextFound (line : List ℕ) (o : Operand) : Type 0 where
  pub text : List ℕ
  pub found : text_of (quoted (from_quote line)) ≡ Some text
  pub len : o ≡ operand.Text (length text)
  pub bytes : All (λ b. b < 256) text

pub text_behind : (r : List ℕ) (q : Quoted) → quoted (tail r) ≡ Some q → after_operand kind.Text r ≡ drop q.used (tail r)
unfolding after_operand
text_behind r q h = rw h refl

-- a line with a word, and what follows the word
pub record WordLine (d : Draft) (s : List ℕ) (w : Word) (o : Operands) : Type 0 where
  pub rest : List ℕ
  pub spelled : s ≡ word_text w ++ rest
  pub read : operands_at (word_kinds w) rest ≡ Ok o
  pub due : is_due d.part w ≡ true
  pub sound : judged d w o ≡ Ok tt

-- what is known of the spelling of what a statement says
abbrev pub Spelled : Draft → List ℕ → Line → Type 0
Spelled d s line.Skipped = ⊥
Spelled d s (line.Label n) = (name : List ℕ) × (s ≡ 58 ∷ name) × (is_name name ≡ true) × (n ≡ padded name) × (is_handler d.part ≡ true)
Spelled d s (line.Item w o) = WordLine d s w o

pub known : (t : List ℕ) (r : Option Word) (w : Word) → word_at t ≡ r → or_unknown r ≡ Ok w → t ≡ word_text w
known t None w q h = absurd (cc h)
known t (Some x) w q h = let z : x ≡ w = cc h in word_spelled t w (q ∙ ap Some z)

pub item_spelled : (d : Draft) (s : List ℕ) (x : Line) → item_read d s ≡ Ok x → Spelled d s x
unfolding item_read
item_spelled d s x h =
    let a = bind_ok (known_word (token s))
    (λ w. unless (not (is_due d.part w)) code.NotDue >>= λ _. operands_at (word_kinds w) (after_token s) >>= λ o. judged d w o >>= λ _. Ok (line.Item w o)) x h in
    let b = bind_ok (unless (not (is_due d.part a.0)) code.NotDue) (λ _. operands_at (word_kinds a.0) (after_token s) >>= λ o. judged d a.0 o >>= λ _. Ok (line.Item a.0 o)) x a.2 in
    let e = bind_ok (operands_at (word_kinds a.0) (after_token s)) (λ o. judged d a.0 o >>= λ _. Ok (line.Item a.0 o)) x b.2 in
    let f = bind_ok (judged d a.0 e.0) (λ _. Ok (line.Item a.0 e.0)) x e.2 in
    let z : line.Item a.0 e.0 ≡ x = cc f.2 in
    subst (λ y. Spelled d s y) z (record {
      rest = after_token s;
      spelled = tokens s ∙ ap (λ t. t ++ after_token s) (known (token s) (word_at (token s)) a.0 refl a.1);
      read = e.1;
      due = not_false (is_due d.part a.0) (unless_ok (not (is_due d.part a.0)) code.NotDue b.0 b.1);
      sound = f.1;
    })

pub label_said : (d : Draft) (name : List ℕ) (x : Line) → label_read d name ≡ Ok x → Spelled d (58 ∷ name) x
label_said d name x h =
    let a = bind_ok (unless (not (is_handler d.part)) code.NotDue) (λ _. or_no_label (name_of name)) x h in
    named (name_of name) refl a.2 (not_false (is_handler d.part) (unless_ok (not (is_handler d.part)) code.NotDue a.0 a.1))
  where
    named : (r : Option (List ℕ)) → name_of name ≡ r → or_no_label r ≡ Ok x → is_handler d.part ≡ true → Spelled d (58 ∷ name) x
    named None q e due = absurd (cc e)
    named (Some n) q e due =
        let z : line.Label n ≡ x = cc e in
        let y = name_spelled name n q in
        subst (λ l. Spelled d (58 ∷ name) l) z (name, refl, y.0, y.1, due)
