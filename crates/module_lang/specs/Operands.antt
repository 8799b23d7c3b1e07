-- The operands of a line.
use Rattle.std.specs.Prelude.{◌≡◌, ℕ, ◌-◌, nat_lt, Bool, true, false, ◌&&◌, not, nat_eq, nat_le, ◌==◌, if◌then◌else◌, List, length, drop, slice_index, codes, find, Option, Some, None, option_map}
use Rattle.std.specs.Prelude.{Result, Ok, Err}
use Rattle.std.specs.Cmp.Lexicographic.{pointwise}
use Rattle.byte_text.specs.Bytes.{begins, tail, token, after_token}
use Rattle.module_lang.specs.Codes.{◌>>=◌, unless}
use Rattle.module_code.specs.Names.{name_of}
use Rattle.byte_text.specs.Numbers.{constant_of}
use Rattle.module_code.specs.Args.{is_value}
use Rattle.byte_text.specs.Quoted.{quoted, measure_of}
use Rattle.module_code.specs.Words.{all_kind_tests, kind_test_text}
use Rattle.module_code.specs.declared.instr.KindTest.{KindTest}
use Rattle.module_code.specs.declared.instr.PoolRef.{PoolRef}
use Rattle.module_code.specs.declared.instr.PoolRef.TheVariants as pool
use Rattle.module_code.specs.declared.instr.Status.TheVariants as status
use Rattle.module_code.specs.declared.instr.Value.TheVariants as value
use Rattle.module_code.specs.declared.operand.Operand.{Operand}
use Rattle.module_code.specs.declared.operand.Operand.TheVariants as operand
use Rattle.module_code.specs.declared.operand.Operands.{Operands}
use Rattle.byte_text.specs.declared.quoted.Measured.{Measured}
use Rattle.module_lang.specs.declared.refusal.Code.{Code}
use Rattle.module_lang.specs.declared.refusal.Code.TheVariants as code
use Rattle.module_code.specs.declared.word.OperandKind.{OperandKind}
use Rattle.module_code.specs.declared.word.OperandKind.TheVariants as kind
use Rattle.module_code.specs.declared.word.OperandKinds.{OperandKinds}

-- the number of the variable that is written by this letter and a digit from 0 to 7
abbrev pub numbered : ℕ → List ℕ → Option ℕ
numbered letter t =
    if (length t == 2) && (slice_index t 0 == letter) && nat_le 48 (slice_index t 1) && nat_le (slice_index t 1) 55
    then Some (slice_index t 1 - 48) else None

abbrev pub is_one : List ℕ → Option Operand
is_one t = if pointwise nat_eq t (codes "1") then Some operand.One else None

abbrev pub pool_in : List ℕ → Option Operand
pool_in t = option_map (λ i. operand.Place (pool.Own i)) (numbered 112 t)

abbrev pub place_in : List ℕ → Option Operand
place_in t =
    if pointwise nat_eq t (codes "conn") then Some (operand.Place pool.Conn)
    else (if pointwise nat_eq t (codes "req") then Some (operand.Place pool.Req) else pool_in t)

abbrev pub brigade_in : List ℕ → Option Operand
brigade_in t = option_map (λ i. operand.Brigade i) (numbered 98 t)

abbrev pub source_in : List ℕ → Option Operand
source_in t = if pointwise nat_eq t (codes "in") then Some (operand.Brigade 8) else brigade_in t

abbrev pub ending_in : List ℕ → Option Operand
ending_in t =
    if pointwise nat_eq t (codes "ok") then Some (operand.Ending status.Success)
    else (if pointwise nat_eq t (codes "fail") then Some (operand.Ending status.Fail) else None)

abbrev pub label_in : List ℕ → Option Operand
label_in t = option_map (λ n. operand.Label n) (name_of t)

abbrev pub variable_in : List ℕ → Option Operand
variable_in t = if begins 112 t then pool_in t else brigade_in t

abbrev pub number_in : List ℕ → Option Operand
number_in t = option_map (λ i. operand.Value (value.Number i)) (numbered 110 t)

abbrev pub constant_in : List ℕ → Option Operand
constant_in t = option_map (λ k. operand.Value (value.Constant k)) (constant_of t)

abbrev pub value_in : List ℕ → Option Operand
value_in t = if begins 110 t then number_in t else constant_in t

abbrev pub cursor_in : List ℕ → Option Operand
cursor_in t = option_map (λ i. operand.Cursor i) (numbered 99 t)

abbrev pub kind_test_at : List ℕ → Option KindTest
kind_test_at t = find (λ k. pointwise nat_eq (kind_test_text k) t) all_kind_tests

abbrev pub kind_test_in : List ℕ → Option Operand
kind_test_in t = option_map (λ k. operand.KindTest k) (kind_test_at t)

-- the operand of a kind that a token without spaces spells
unfoldable pub operand_in : OperandKind → List ℕ → Option Operand
operand_in kind.Nothing t = None
operand_in kind.One t = is_one t
operand_in kind.Place t = place_in t
operand_in kind.Pool t = pool_in t
operand_in kind.Brigade t = brigade_in t
operand_in kind.Source t = source_in t
operand_in kind.Ending t = ending_in t
operand_in kind.Label t = label_in t
operand_in kind.Text t = None
operand_in kind.Variable t = variable_in t
operand_in kind.Number t = number_in t
operand_in kind.Value t = value_in t
operand_in kind.Cursor t = cursor_in t
operand_in kind.KindTest t = kind_test_in t

-- whether an operand is of a kind
abbrev pub of_kind : OperandKind → Operand → Bool
of_kind kind.Nothing operand.Nothing = true
of_kind kind.One operand.One = true
of_kind kind.Place (operand.Place p) = true
of_kind kind.Pool (operand.Place (pool.Own i)) = nat_lt i 8
of_kind kind.Brigade (operand.Brigade b) = nat_lt b 8
of_kind kind.Source (operand.Brigade b) = true
of_kind kind.Ending (operand.Ending s) = true
of_kind kind.Label (operand.Label n) = true
of_kind kind.Text (operand.Text len) = true
of_kind kind.Variable (operand.Place (pool.Own i)) = nat_lt i 8
of_kind kind.Variable (operand.Brigade b) = nat_lt b 8
of_kind kind.Number (operand.Value (value.Number i)) = nat_lt i 8
of_kind kind.Value (operand.Value v) = is_value v
of_kind kind.Cursor (operand.Cursor i) = nat_lt i 8
of_kind kind.KindTest (operand.KindTest k) = true
of_kind _ _ = false

pub record IsOfKinds (k : OperandKinds) (o : Operands) : Type 0 where
  pub first : of_kind k.first o.first ≡ true
  pub second : of_kind k.second o.second ≡ true
  pub third : of_kind k.third o.third ≡ true
  pub fourth : of_kind k.fourth o.fourth ≡ true

-- the pool that an operand names
abbrev pub operand_place : Operand → PoolRef
operand_place (operand.Place p) = p
operand_place _ = pool.Conn

abbrev pub operand_kind_is_nothing : OperandKind → Bool
operand_kind_is_nothing k = of_kind k operand.Nothing

abbrev pub operand_kind_is_text : OperandKind → Bool
operand_kind_is_text k = of_kind k (operand.Text 0)

abbrev pub text_measured : Option Measured → Result Operand Code
text_measured None = Err code.FaultyText
text_measured (Some m) = Ok (operand.Text m.len)

abbrev pub text_operand : List ℕ → Result Operand Code
text_operand bytes =
    if not (begins 34 bytes) then Err code.WrongOperands else text_measured (measure_of (quoted bytes))

abbrev pub or_wrong : Option Operand → Result Operand Code
or_wrong None = Err code.WrongOperands
or_wrong (Some o) = Ok o

-- the operand of a kind that these bytes begin with, after one space
unfoldable pub operand_at : OperandKind → List ℕ → Result Operand Code
operand_at k rest =
    if operand_kind_is_nothing k then Ok operand.Nothing
    else (if not (begins 32 rest) then Err code.WrongOperands
    else (if operand_kind_is_text k then text_operand (tail rest)
    else or_wrong (operand_in k (token (tail rest)))))

abbrev pub text_left : Option Measured → List ℕ → List ℕ
text_left None bytes = bytes
text_left (Some m) bytes = drop m.used bytes

abbrev pub after_text : List ℕ → List ℕ
after_text bytes = text_left (measure_of (quoted bytes)) bytes

-- what follows the operand of a kind
unfoldable pub after_operand : OperandKind → List ℕ → List ℕ
after_operand k rest =
    if operand_kind_is_nothing k then rest
    else (if operand_kind_is_text k then after_text (tail rest) else after_token (tail rest))

-- the operands that follow a word, with nothing behind the last
unfoldable pub operands_at : OperandKinds → List ℕ → Result Operands Code
operands_at k rest = do
  a ← operand_at k.first rest
  let rest1 = after_operand k.first rest
  b ← operand_at k.second rest1
  let rest2 = after_operand k.second rest1
  c ← operand_at k.third rest2
  let rest3 = after_operand k.third rest2
  d ← operand_at k.fourth rest3
  _ ← unless (not (length (after_operand k.fourth rest3) == 0)) code.WrongOperands
  Ok (record { first = a; second = b; third = c; fourth = d })
