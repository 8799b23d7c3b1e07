-- Operands that were read are of their kinds, and an instruction has them again.
use Rattle.std.proofs.Common.{◌≡◌, ℕ, ◌-◌, ◌^◌, ◌<◌, Bool, true, false, ◌&&◌, ◌||◌, not, cond, eqb, leb, nat_eq, List, [], ◌∷◌, length, Option, Some, None, Result, Ok, Err, refl, sym, ◌∙◌, ap, subst}
use Rattle.std.proofs.Common.{arith}
use Rattle.std.specs.Prelude.{option_map, slice_index, codes}
use Rattle.std.specs.Cmp.Lexicographic.{pointwise}
use Rattle.std.proofs.lemmas.Bool.{and_parts, eqb-true, leb-true, lt-ltb, or_parts}
use Rattle.byte_text.specs.Bytes.{begins, tail, token}
use Rattle.module_lang.specs.Codes.{◌>>=◌, unless}
use Rattle.module_lang.specs.Handlers.{arg_in, op_instr, operand_index, operand_status, operand_value, operand_variable}
use Rattle.module_code.specs.Names.{name_of}
use Rattle.byte_text.specs.Numbers.{constant_of}
use Rattle.module_lang.specs.Operands.{IsOfKinds, kind_test_at, numbered, of_kind, operand_in, operand_at, operand_place, operand_kind_is_text, or_wrong, text_operand, text_measured, operands_at}
use Rattle.module_lang.specs.Operands.{after_operand}
use Rattle.byte_text.specs.Quoted.{quoted, measure_of}
use Rattle.module_code.specs.Spelling.{number_operand, operand_of, operands_of, own_pool, variable_operand}
use Rattle.module_code.specs.Words.{op_kinds}
use Rattle.module_code.specs.declared.arg.Args.{Args}
use Rattle.module_code.specs.declared.instr.PoolRef.TheVariants as pool
use Rattle.module_code.specs.declared.instr.Status.TheVariants as status
use Rattle.module_code.specs.declared.instr.Value.TheVariants as value
use Rattle.module_code.specs.declared.operand.Operand.{Operand}
use Rattle.module_code.specs.declared.operand.Operand.TheVariants as operand
use Rattle.module_code.specs.declared.operand.Operands.{Operands}
use Rattle.byte_text.specs.declared.quoted.Measured.{Measured}
use Rattle.module_lang.specs.declared.refusal.Code.{Code}
use Rattle.module_lang.specs.declared.refusal.Code.TheVariants as code
use Rattle.module_code.specs.declared.word.OperandKind.{OperandKind}
use Rattle.module_code.specs.declared.word.OperandKind.TheVariants as kind
use Rattle.module_code.specs.declared.word.OperandKinds.{OperandKinds}
use Rattle.module_code.specs.declared.word.Op.{Op}
use Rattle.module_lang.proofs.ArgLaws.{args_of_read, is_label, is_version, op_formed, picked}
use Rattle.module_lang.proofs.LineLaws.{bind_ok, not_false, unless_ok}
use Rattle.byte_text.proofs.NumberLaws.{constant_found}

abbrev pub made : Operand → Operand → Operand → Operand → Operands
made a b c d = record { first = a; second = b; third = c; fourth = d }

abbrev done : Operands → Result Operands Code
done o = Ok o

pub cond_some : {A : Type 0} (b : Bool) (x y : A) → cond b (Some x) None ≡ Some y → (b ≡ true) × (x ≡ y)
cond_some true x y h = (refl, cc h)
cond_some false x y h = absurd (cc h)

pub numbered_below : (letter : ℕ) (t : List ℕ) (i : ℕ) → numbered letter t ≡ Some i → i < 8
numbered_below letter t i h =
    let a = cond_some ((eqb (length t) 2) && (eqb (slice_index t 0) letter) && leb 48 (slice_index t 1) && leb (slice_index t 1) 55) (slice_index t 1 - 48) i h in
    let b = and_parts ((eqb (length t) 2) && (eqb (slice_index t 0) letter) && leb 48 (slice_index t 1)) (leb (slice_index t 1) 55) a.0 in
    let low = leb-true (slice_index t 1) 55 b.1 in
    omega (arith, a.1)

is_kind : (k : OperandKind) (x o : Operand) → of_kind k x ≡ true → Some x ≡ Some o → of_kind k o ≡ true
is_kind k x o h e = let s : x ≡ o = cc e in subst (λ y. of_kind k y ≡ true) s h

-- an operand that is made of what is found, and of the number of one of eight
found_kind : {X : Type 0} (k : OperandKind) (make : X → Operand) (n : Option X) (o : Operand) → ((x : X) → n ≡ Some x → of_kind k (make x) ≡ true) → option_map make n ≡ Some o → of_kind k o ≡ true
found_kind k make None o h e = absurd (cc e)
found_kind k make (Some x) o h e = is_kind k (make x) o (h x refl) e

eighth_kind : (k : OperandKind) (make : ℕ → Operand) (letter : ℕ) (t : List ℕ) (o : Operand) → ((i : ℕ) → i < 8 → of_kind k (make i) ≡ true) → option_map make (numbered letter t) ≡ Some o
    → of_kind k o ≡ true
eighth_kind k make letter t o h e = found_kind k make (numbered letter t) o (λ i at. h i (numbered_below letter t i at)) e

place_kind : (a b : Bool) (n : Option ℕ) (o : Operand) → cond a (Some (operand.Place pool.Conn)) (cond b (Some (operand.Place pool.Req)) (option_map (λ i. operand.Place (pool.Own i)) n)) ≡ Some o
    → of_kind kind.Place o ≡ true
place_kind true b n o e = is_kind kind.Place (operand.Place pool.Conn) o refl e
place_kind false true n o e = is_kind kind.Place (operand.Place pool.Req) o refl e
place_kind false false n o e = found_kind kind.Place (λ i. operand.Place (pool.Own i)) n o (λ i at. refl) e

source_kind : (a : Bool) (n : Option ℕ) (o : Operand) → cond a (Some (operand.Brigade 8)) (option_map (λ i. operand.Brigade i) n) ≡ Some o → of_kind kind.Source o ≡ true
source_kind true n o e = is_kind kind.Source (operand.Brigade 8) o refl e
source_kind false n o e = found_kind kind.Source (λ i. operand.Brigade i) n o (λ i at. refl) e

ending_kind : (a b : Bool) (o : Operand) → cond a (Some (operand.Ending status.Success)) (cond b (Some (operand.Ending status.Fail)) None) ≡ Some o → of_kind kind.Ending o ≡ true
ending_kind true b o e = is_kind kind.Ending (operand.Ending status.Success) o refl e
ending_kind false true o e = is_kind kind.Ending (operand.Ending status.Fail) o refl e
ending_kind false false o e = absurd (cc e)

one_kind : (a : Bool) (o : Operand) → cond a (Some operand.One) None ≡ Some o → of_kind kind.One o ≡ true
one_kind true o e = is_kind kind.One operand.One o refl e
one_kind false o e = absurd (cc e)

variable_kind : (a : Bool) (t : List ℕ) (o : Operand) → cond a (option_map (λ i. operand.Place (pool.Own i)) (numbered 112 t)) (option_map (λ i. operand.Brigade i) (numbered 98 t)) ≡ Some o
    → of_kind kind.Variable o ≡ true
variable_kind true t o e = eighth_kind kind.Variable (λ i. operand.Place (pool.Own i)) 112 t o (λ i low. lt-ltb i 8 low) e
variable_kind false t o e = eighth_kind kind.Variable (λ i. operand.Brigade i) 98 t o (λ i low. lt-ltb i 8 low) e

value_kind : (a : Bool) (t : List ℕ) (o : Operand)
    → cond a (option_map (λ i. operand.Value (value.Number i)) (numbered 110 t)) (option_map (λ k. operand.Value (value.Constant k)) (constant_of t)) ≡ Some o → of_kind kind.Value o ≡ true
value_kind true t o e = eighth_kind kind.Value (λ i. operand.Value (value.Number i)) 110 t o (λ i low. lt-ltb i 8 low) e
value_kind false t o e = found_kind kind.Value (λ k. operand.Value (value.Constant k)) (constant_of t) o (λ k at. lt-ltb k (2 ^ 32) (constant_found t k at).1) e

pub token_kind : (k : OperandKind) (t : List ℕ) (o : Operand) → operand_in k t ≡ Some o → of_kind k o ≡ true
unfolding operand_in
token_kind kind.Nothing t o e = absurd (cc e)
token_kind kind.One t o e = one_kind (pointwise nat_eq t (codes "1")) o e
token_kind kind.Place t o e = place_kind (pointwise nat_eq t (codes "conn")) (pointwise nat_eq t (codes "req")) (numbered 112 t) o e
token_kind kind.Pool t o e = eighth_kind kind.Pool (λ i. operand.Place (pool.Own i)) 112 t o (λ i low. lt-ltb i 8 low) e
token_kind kind.Brigade t o e = eighth_kind kind.Brigade (λ i. operand.Brigade i) 98 t o (λ i low. lt-ltb i 8 low) e
token_kind kind.Source t o e = source_kind (pointwise nat_eq t (codes "in")) (numbered 98 t) o e
token_kind kind.Ending t o e = ending_kind (pointwise nat_eq t (codes "ok")) (pointwise nat_eq t (codes "fail")) o e
token_kind kind.Label t o e = found_kind kind.Label (λ n. operand.Label n) (name_of t) o (λ n at. refl) e
token_kind kind.Text t o e = absurd (cc e)
token_kind kind.Variable t o e = variable_kind (begins 112 t) t o e
token_kind kind.Number t o e = eighth_kind kind.Number (λ i. operand.Value (value.Number i)) 110 t o (λ i low. lt-ltb i 8 low) e
token_kind kind.Value t o e = value_kind (begins 110 t) t o e
token_kind kind.Cursor t o e = eighth_kind kind.Cursor (λ i. operand.Cursor i) 99 t o (λ i low. lt-ltb i 8 low) e
token_kind kind.KindTest t o e = found_kind kind.KindTest (λ k. operand.KindTest k) (kind_test_at t) o (λ k at. refl) e

wrong_or : (k : OperandKind) (t : List ℕ) (r : Option Operand) (o : Operand) → operand_in k t ≡ r → or_wrong r ≡ Ok o → of_kind k o ≡ true
wrong_or k t None o q e = absurd (cc e)
wrong_or k t (Some x) o q e = let s : x ≡ o = cc e in token_kind k t o (q ∙ ap Some s)

word_kind : (k : OperandKind) (b : Bool) (t : List ℕ) (o : Operand) → cond b (Err code.WrongOperands) (or_wrong (operand_in k t)) ≡ Ok o → of_kind k o ≡ true
word_kind k true t o e = absurd (cc e)
word_kind k false t o e = wrong_or k t (operand_in k t) o refl e

measured_kind : (m : Option Measured) (o : Operand) → text_measured m ≡ Ok o → of_kind kind.Text o ≡ true
measured_kind None o e = absurd (cc e)
measured_kind (Some m) o e = let s : operand.Text m.len ≡ o = cc e in subst (λ y. of_kind kind.Text y ≡ true) s refl

quoted_kind : (b : Bool) (m : Option Measured) (o : Operand) → cond b (Err code.WrongOperands) (text_measured m) ≡ Ok o → of_kind kind.Text o ≡ true
quoted_kind true m o e = absurd (cc e)
quoted_kind false m o e = measured_kind m o e

text_kind : (b : Bool) (t : List ℕ) (o : Operand) → cond b (Err code.WrongOperands) (text_operand t) ≡ Ok o → of_kind kind.Text o ≡ true
text_kind true t o e = absurd (cc e)
text_kind false t o e = quoted_kind (not (begins 34 t)) (measure_of (quoted t)) o e

pub read_kind : (k : OperandKind) (rest : List ℕ) (o : Operand) → operand_at k rest ≡ Ok o → of_kind k o ≡ true
unfolding operand_at
read_kind kind.Nothing rest o e = let s : operand.Nothing ≡ o = cc e in subst (λ y. of_kind kind.Nothing y ≡ true) s refl
read_kind kind.Text rest o e = text_kind (not (begins 32 rest)) (tail rest) o e
read_kind kind.One rest o e = word_kind kind.One (not (begins 32 rest)) (token (tail rest)) o e
read_kind k rest o e = word_kind k (not (begins 32 rest)) (token (tail rest)) o e

-- the operands of a line, one behind another
pub record OperandsFollow (k : OperandKinds) (rest : List ℕ) (o : Operands) : Type 0 where
  pub first : operand_at k.first rest ≡ Ok o.first
  pub second : operand_at k.second (after_operand k.first rest) ≡ Ok o.second
  pub third : operand_at k.third (after_operand k.second (after_operand k.first rest)) ≡ Ok o.third
  pub fourth : operand_at k.fourth (after_operand k.third (after_operand k.second (after_operand k.first rest))) ≡ Ok o.fourth
  pub last : after_operand k.fourth (after_operand k.third (after_operand k.second (after_operand k.first rest))) ≡ []

empty_is : (xs : List ℕ) → eqb (length xs) 0 ≡ true → xs ≡ []
empty_is [] h = refl
empty_is (x ∷ xs) h = let e = eqb-true (length (x ∷ xs)) 0 h in absurd (omega (arith, e))

pub chain : (k : OperandKinds) (rest : List ℕ) (o : Operands) → operands_at k rest ≡ Ok o → OperandsFollow k rest o
unfolding operands_at
chain k rest o h =
    let r1 = after_operand k.first rest in
    let r2 = after_operand k.second r1 in
    let r3 = after_operand k.third r2 in
    let r4 = after_operand k.fourth r3 in
    let last = λ (a b c d : Operand) (u : Unit {0}). done (made a b c d) in
    let p4 = λ (a b c d : Operand). unless (not (eqb (length r4) 0)) code.WrongOperands >>= last a b c d in
    let p3 = λ (a b c : Operand). operand_at k.fourth r3 >>= p4 a b c in
    let p2 = λ (a b : Operand). operand_at k.third r2 >>= p3 a b in
    let p1 = λ (a : Operand). operand_at k.second r1 >>= p2 a in
    let a = bind_ok (operand_at k.first rest) p1 o h in
    let b = bind_ok (operand_at k.second r1) (p2 a.0) o a.2 in
    let c = bind_ok (operand_at k.third r2) (p3 a.0 b.0) o b.2 in
    let d = bind_ok (operand_at k.fourth r3) (p4 a.0 b.0 c.0) o c.2 in
    let u = bind_ok (unless (not (eqb (length r4) 0)) code.WrongOperands) (last a.0 b.0 c.0 d.0) o d.2 in
    let s : made a.0 b.0 c.0 d.0 ≡ o = cc u.2 in
    let none = empty_is r4 (not_false (eqb (length r4) 0) (unless_ok (not (eqb (length r4) 0)) code.WrongOperands u.0 u.1)) in
    subst (λ x. OperandsFollow k rest x) s (record { first = a.1; second = b.1; third = c.1; fourth = d.1; last = none })

pub kinds_read : (k : OperandKinds) (rest : List ℕ) (o : Operands) → operands_at k rest ≡ Ok o → IsOfKinds k o
kinds_read k rest o h =
    let c = chain k rest o h in
    record {
      first = read_kind k.first rest o.first c.first;
      second = read_kind k.second _ o.second c.second;
      third = read_kind k.third _ o.third c.third;
      fourth = read_kind k.fourth _ o.fourth c.fourth;
    }

nothing_is : (x : Operand) → of_kind kind.Nothing x ≡ true → x ≡ operand.Nothing
nothing_is operand.Nothing h = refl
nothing_is _ h = absurd (cc h)

pub brigade_is : (x : Operand) → of_kind kind.Brigade x ≡ true → x ≡ operand.Brigade (operand_index x)
brigade_is (operand.Brigade b) h = refl
brigade_is _ h = absurd (cc h)

pub source_is : (x : Operand) → of_kind kind.Source x ≡ true → x ≡ operand.Brigade (operand_index x)
source_is (operand.Brigade b) h = refl
source_is _ h = absurd (cc h)

pub ending_is : (x : Operand) → of_kind kind.Ending x ≡ true → x ≡ operand.Ending (operand_status x)
ending_is (operand.Ending s) h = refl
ending_is _ h = absurd (cc h)

pub label_is : (x : Operand) → of_kind kind.Label x ≡ true → (n : List ℕ) × (x ≡ operand.Label n)
label_is (operand.Label n) h = (n, refl)
label_is _ h = absurd (cc h)

pub place_is : (x : Operand) → of_kind kind.Place x ≡ true → x ≡ operand.Place (operand_place x)
place_is (operand.Place p) h = refl
place_is _ h = absurd (cc h)

pub pool_is : (x : Operand) → of_kind kind.Pool x ≡ true → x ≡ own_pool (operand_index x)
pool_is (operand.Place (pool.Own i)) h = refl
pool_is _ h = absurd (cc h)

pub variable_is : (x : Operand) → of_kind kind.Variable x ≡ true → x ≡ variable_operand (operand_variable x)
variable_is (operand.Place (pool.Own i)) h = refl
variable_is (operand.Brigade b) h = refl
variable_is _ h = absurd (cc h)

pub text_is : (x : Operand) → of_kind kind.Text x ≡ true → (k : ℕ) × (x ≡ operand.Text k)
text_is (operand.Text k) h = (k, refl)
text_is _ h = absurd (cc h)

pub number_is : (x : Operand) → of_kind kind.Number x ≡ true → x ≡ number_operand (operand_index x)
number_is (operand.Value (value.Number i)) h = refl
number_is _ h = absurd (cc h)

pub value_is : (x : Operand) → of_kind kind.Value x ≡ true → x ≡ operand.Value (operand_value x)
value_is (operand.Value v) h = refl
value_is _ h = absurd (cc h)

-- the operands that were read are those of the instruction, with the name of its label and the length of its text
pub record IsShaped (i : Op) (o : Operands) (x t : ℕ) : Type 0 where
  pub name : List ℕ
  pub len : ℕ
  pub same : o ≡ operands_of (op_instr i o x t) name len

abbrev name_in : Operand → List ℕ
name_in (operand.Label n) = n
name_in _ = []

abbrev len_in : Operand → ℕ
len_in (operand.Text n) = n
len_in _ = 0

-- an operand that was read is that of the instruction, with its name or its length
one_shape : (k : OperandKind) (o : Operand) (x t : ℕ) (n : List ℕ) (len : ℕ) → is_version k ≡ false → of_kind k o ≡ true → (is_label k ≡ true → n ≡ name_in o)
    → (operand_kind_is_text k ≡ true → len ≡ len_in o) → o ≡ operand_of (arg_in k o x t) n len
one_shape kind.One o x t n len v h l w = absurd (cc v)
one_shape kind.Nothing operand.Nothing x t n len v h l w = refl
one_shape kind.Place (operand.Place p) x t n len v h l w = refl
one_shape kind.Pool (operand.Place (pool.Own i)) x t n len v h l w = refl
one_shape kind.Brigade (operand.Brigade b) x t n len v h l w = refl
one_shape kind.Source (operand.Brigade b) x t n len v h l w = refl
one_shape kind.Ending (operand.Ending s) x t n len v h l w = refl
one_shape kind.Label (operand.Label m) x t n len v h l w = ap operand.Label (sym (l refl))
one_shape kind.Text (operand.Text m) x t n len v h l w = ap operand.Text (sym (w refl))
one_shape kind.Variable (operand.Place (pool.Own i)) x t n len v h l w = refl
one_shape kind.Variable (operand.Brigade b) x t n len v h l w = refl
one_shape kind.Number (operand.Value (value.Number i)) x t n len v h l w = refl
one_shape kind.Value (operand.Value y) x t n len v h l w = refl
one_shape kind.Cursor (operand.Cursor i) x t n len v h l w = refl
one_shape kind.KindTest (operand.KindTest y) x t n len v h l w = refl
one_shape _ _ x t n len v h l w = absurd (cc h)

pub shape : (i : Op) (o : Operands) (x t : ℕ) → IsOfKinds (op_kinds i) o → IsShaped i o x t
shape i o x t h =
    let k = op_kinds i in
    let f = op_formed i in
    let v1 = or_parts (is_version k.first || is_version k.second || is_version k.third) (is_version k.fourth) f.versions in
    let v2 = or_parts (is_version k.first || is_version k.second) (is_version k.third) v1.0 in
    let v3 = or_parts (is_version k.first) (is_version k.second) v2.0 in
    let n = picked (is_label k.first) (is_label k.second) (is_label k.third) (is_label k.fourth) (name_in o.first) (name_in o.second) (name_in o.third) (name_in o.fourth) f.labels in
    let len = len_in o.second in
    let none : (b : Bool) (m : ℕ) → b ≡ false → b ≡ true → len ≡ m = λ b m p q. absurd (cc (sym p ∙ q)) in
    let a = one_shape k.first o.first x t n.0 len v3.0 h.first n.1 (none (operand_kind_is_text k.first) (len_in o.first) f.first) in
    let b = one_shape k.second o.second x t n.0 len v3.1 h.second n.2 (λ e. refl) in
    let c = one_shape k.third o.third x t n.0 len v2.1 h.third n.3 (none (operand_kind_is_text k.third) (len_in o.third) f.third) in
    let d = one_shape k.fourth o.fourth x t n.0 len v1.1 h.fourth n.4 (none (operand_kind_is_text k.fourth) (len_in o.fourth) f.fourth) in
    record {
      name = n.0;
      len = len;
      same = (λ j. made (a j) (b j) (c j) (d j))
          ∙ ap (λ (y : Args). made (operand_of y.first n.0 len) (operand_of y.second n.0 len) (operand_of y.third n.0 len) (operand_of y.fourth n.0 len)) (sym (args_of_read i o x t));
    }
