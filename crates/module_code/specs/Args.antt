-- An instruction as its word and its operands, and what is known of an operand by its kind.
use Rattle.std.specs.Prelude.{◌≡◌, ℕ, Bool, true, false, Option, Some, None, ◌^◌, nat_lt}
use Rattle.module_code.specs.Words.{op_kinds}
use Rattle.module_code.specs.declared.arg.Arg.{Arg}
use Rattle.module_code.specs.declared.arg.Arg.TheVariants as arg
use Rattle.module_code.specs.declared.arg.Args.{Args}
use Rattle.module_code.specs.declared.instr.Instr.{Instr}
use Rattle.module_code.specs.declared.instr.Instr.TheVariants as instr
use Rattle.module_code.specs.declared.instr.KindTest.{KindTest}
use Rattle.module_code.specs.declared.instr.KindTest.TheVariants as kind_test
use Rattle.module_code.specs.declared.instr.PoolRef.{PoolRef}
use Rattle.module_code.specs.declared.instr.PoolRef.TheVariants as pool
use Rattle.module_code.specs.declared.instr.Status.{Status}
use Rattle.module_code.specs.declared.instr.Status.TheVariants as status
use Rattle.module_code.specs.declared.instr.Value.{Value}
use Rattle.module_code.specs.declared.instr.Value.TheVariants as value
use Rattle.module_code.specs.declared.instr.VarRef.{VarRef}
use Rattle.module_code.specs.declared.instr.VarRef.TheVariants as variable
use Rattle.module_code.specs.declared.word.OperandKind.{OperandKind}
use Rattle.module_code.specs.declared.word.OperandKind.TheVariants as kind
use Rattle.module_code.specs.declared.word.OperandKinds.{OperandKinds}
use Rattle.module_code.specs.declared.word.Op.{Op}
use Rattle.module_code.specs.declared.word.Op.TheVariants as op

abbrev pub four_args : Arg → Arg → Arg → Arg → Args
four_args a b c d = record { first = a; second = b; third = c; fourth = d }

abbrev pub three_args : Arg → Arg → Arg → Args
three_args a b c = four_args a b c arg.Nothing

abbrev pub two_args : Arg → Arg → Args
two_args a b = three_args a b arg.Nothing

abbrev pub one_arg : Arg → Args
one_arg a = two_args a arg.Nothing

abbrev pub no_arg : Args
no_arg = one_arg arg.Nothing

-- the word of an instruction, and its operands
abbrev pub parts : Instr → Op × Args
parts (instr.PCreate q) = (op.PCreate, one_arg (arg.Pool q))
parts (instr.PClear q) = (op.PClear, one_arg (arg.Pool q))
parts (instr.PDestroy q) = (op.PDestroy, one_arg (arg.Pool q))
parts (instr.Label q t) = (op.Label, two_args (arg.Place q) (arg.Text t))
parts (instr.Unlabel q t) = (op.Unlabel, two_args (arg.Place q) (arg.Text t))
parts (instr.PreLabel q t) = (op.PreLabel, two_args (arg.Place q) (arg.Text t))
parts (instr.BCreate o) = (op.BCreate, one_arg (arg.Brigade o))
parts (instr.BClean b) = (op.BClean, one_arg (arg.Source b))
parts (instr.BConcat a b) = (op.BConcat, two_args (arg.Source a) (arg.Source b))
parts (instr.BSplit b c d) = (op.BSplit, three_args (arg.Source b) (arg.Cursor c) (arg.Source d))
parts (instr.BPart b x c l) = (op.BPart, four_args (arg.Source b) (arg.Value x) (arg.Cursor c) (arg.Target l))
parts (instr.BSave o b) = (op.BSave, two_args (arg.Brigade o) (arg.Source b))
parts (instr.Pass b l) = (op.Pass, two_args (arg.Source b) (arg.Target l))
parts (instr.JEmpty b l) = (op.JEmpty, two_args (arg.Source b) (arg.Target l))
parts (instr.First c b) = (op.First, two_args (arg.Cursor c) (arg.Source b))
parts (instr.Next d c) = (op.Next, two_args (arg.Cursor d) (arg.Cursor c))
parts (instr.JEnd c l) = (op.JEnd, two_args (arg.Cursor c) (arg.Target l))
parts (instr.JKind c k l) = (op.JKind, three_args (arg.Cursor c) (arg.KindTest k) (arg.Target l))
parts (instr.Unlink c) = (op.Unlink, one_arg (arg.Cursor c))
parts (instr.BDelete c) = (op.BDelete, one_arg (arg.Cursor c))
parts (instr.Tail b c) = (op.Tail, two_args (arg.Source b) (arg.Cursor c))
parts (instr.Head b c) = (op.Head, two_args (arg.Source b) (arg.Cursor c))
parts (instr.Before c d) = (op.Before, two_args (arg.Cursor c) (arg.Cursor d))
parts (instr.Heap c t) = (op.Heap, two_args (arg.Cursor c) (arg.Text t))
parts (instr.Immortal c t) = (op.Immortal, two_args (arg.Cursor c) (arg.Text t))
parts (instr.FromBuf c) = (op.FromBuf, one_arg (arg.Cursor c))
parts (instr.Transient c) = (op.Transient, one_arg (arg.Cursor c))
parts (instr.PoolB c q) = (op.PoolB, two_args (arg.Cursor c) (arg.Place q))
parts (instr.Flush c) = (op.Flush, one_arg (arg.Cursor c))
parts (instr.Eos c) = (op.Eos, one_arg (arg.Cursor c))
parts (instr.Split c x l) = (op.Split, three_args (arg.Cursor c) (arg.Value x) (arg.Target l))
parts (instr.Copy d c) = (op.Copy, two_args (arg.Cursor d) (arg.Cursor c))
parts (instr.Aside c q) = (op.Aside, two_args (arg.Cursor c) (arg.Place q))
parts (instr.Read c l) = (op.Read, two_args (arg.Cursor c) (arg.Target l))
parts (instr.Len n c) = (op.Len, two_args (arg.Number n) (arg.Cursor c))
parts (instr.Get n x l) = (op.Get, three_args (arg.Number n) (arg.Value x) (arg.Target l))
parts (instr.Put x l) = (op.Put, two_args (arg.Value x) (arg.Target l))
parts instr.ClearBuf = (op.ClearBuf, no_arg)
parts (instr.Set n x) = (op.Set, two_args (arg.Number n) (arg.Value x))
parts (instr.Add n x) = (op.Add, two_args (arg.Number n) (arg.Value x))
parts (instr.Sub n x) = (op.Sub, two_args (arg.Number n) (arg.Value x))
parts (instr.JLt n x l) = (op.JLt, three_args (arg.Number n) (arg.Value x) (arg.Target l))
parts (instr.JEq n x l) = (op.JEq, three_args (arg.Number n) (arg.Value x) (arg.Target l))
parts (instr.JNull v l) = (op.JNull, two_args (arg.Variable v) (arg.Target l))
parts (instr.JSent l) = (op.JSent, one_arg (arg.Target l))
parts instr.Leave = (op.Leave, no_arg)
parts (instr.Jump l) = (op.Jump, one_arg (arg.Target l))
parts (instr.Ret s) = (op.Ret, one_arg (arg.Ending s))

abbrev pub op_of : Instr → Op
op_of i = (parts i).0

abbrev pub args : Instr → Args
args i = (parts i).1

-- the number of the variable or cursor that an operand names
abbrev pub arg_index : Arg → ℕ
arg_index (arg.Pool i) = i
arg_index (arg.Brigade i) = i
arg_index (arg.Source i) = i
arg_index (arg.Number i) = i
arg_index (arg.Cursor i) = i
arg_index _ = 0

abbrev pub arg_place : Arg → PoolRef
arg_place (arg.Place p) = p
arg_place _ = pool.Conn

abbrev pub arg_status : Arg → Status
arg_status (arg.Ending s) = s
arg_status _ = status.Success

abbrev pub arg_variable : Arg → VarRef
arg_variable (arg.Variable v) = v
arg_variable _ = variable.Pool 0

abbrev pub arg_value : Arg → Value
arg_value (arg.Value v) = v
arg_value _ = value.Constant 0

abbrev pub arg_kind_test : Arg → KindTest
arg_kind_test (arg.KindTest k) = k
arg_kind_test _ = kind_test.Data

-- the number of the instruction that an operand names, and that of a text
abbrev pub arg_aim : Arg → ℕ
arg_aim (arg.Target t) = t
arg_aim _ = 0

abbrev pub arg_text : Arg → ℕ
arg_text (arg.Text t) = t
arg_text _ = 0

-- the instruction of a word and operands of its kinds
abbrev pub made : Op → Args → Instr
made op.PCreate a = instr.PCreate (arg_index a.first)
made op.PClear a = instr.PClear (arg_index a.first)
made op.PDestroy a = instr.PDestroy (arg_index a.first)
made op.Label a = instr.Label (arg_place a.first) (arg_text a.second)
made op.Unlabel a = instr.Unlabel (arg_place a.first) (arg_text a.second)
made op.PreLabel a = instr.PreLabel (arg_place a.first) (arg_text a.second)
made op.BCreate a = instr.BCreate (arg_index a.first)
made op.BClean a = instr.BClean (arg_index a.first)
made op.BConcat a = instr.BConcat (arg_index a.first) (arg_index a.second)
made op.BSplit a = instr.BSplit (arg_index a.first) (arg_index a.second) (arg_index a.third)
made op.BPart a = instr.BPart (arg_index a.first) (arg_value a.second) (arg_index a.third) (arg_aim a.fourth)
made op.BSave a = instr.BSave (arg_index a.first) (arg_index a.second)
made op.Pass a = instr.Pass (arg_index a.first) (arg_aim a.second)
made op.JEmpty a = instr.JEmpty (arg_index a.first) (arg_aim a.second)
made op.First a = instr.First (arg_index a.first) (arg_index a.second)
made op.Next a = instr.Next (arg_index a.first) (arg_index a.second)
made op.JEnd a = instr.JEnd (arg_index a.first) (arg_aim a.second)
made op.JKind a = instr.JKind (arg_index a.first) (arg_kind_test a.second) (arg_aim a.third)
made op.Unlink a = instr.Unlink (arg_index a.first)
made op.BDelete a = instr.BDelete (arg_index a.first)
made op.Tail a = instr.Tail (arg_index a.first) (arg_index a.second)
made op.Head a = instr.Head (arg_index a.first) (arg_index a.second)
made op.Before a = instr.Before (arg_index a.first) (arg_index a.second)
made op.Heap a = instr.Heap (arg_index a.first) (arg_text a.second)
made op.Immortal a = instr.Immortal (arg_index a.first) (arg_text a.second)
made op.FromBuf a = instr.FromBuf (arg_index a.first)
made op.Transient a = instr.Transient (arg_index a.first)
made op.PoolB a = instr.PoolB (arg_index a.first) (arg_place a.second)
made op.Flush a = instr.Flush (arg_index a.first)
made op.Eos a = instr.Eos (arg_index a.first)
made op.Split a = instr.Split (arg_index a.first) (arg_value a.second) (arg_aim a.third)
made op.Copy a = instr.Copy (arg_index a.first) (arg_index a.second)
made op.Aside a = instr.Aside (arg_index a.first) (arg_place a.second)
made op.Read a = instr.Read (arg_index a.first) (arg_aim a.second)
made op.Len a = instr.Len (arg_index a.first) (arg_index a.second)
made op.Get a = instr.Get (arg_index a.first) (arg_value a.second) (arg_aim a.third)
made op.Put a = instr.Put (arg_value a.first) (arg_aim a.second)
made op.ClearBuf a = instr.ClearBuf
made op.Set a = instr.Set (arg_index a.first) (arg_value a.second)
made op.Add a = instr.Add (arg_index a.first) (arg_value a.second)
made op.Sub a = instr.Sub (arg_index a.first) (arg_value a.second)
made op.JLt a = instr.JLt (arg_index a.first) (arg_value a.second) (arg_aim a.third)
made op.JEq a = instr.JEq (arg_index a.first) (arg_value a.second) (arg_aim a.third)
made op.JNull a = instr.JNull (arg_variable a.first) (arg_aim a.second)
made op.JSent a = instr.JSent (arg_aim a.first)
made op.Leave a = instr.Leave
made op.Jump a = instr.Jump (arg_aim a.first)
made op.Ret a = instr.Ret (arg_status a.first)

-- whether an operand is of a kind
abbrev pub is_of : OperandKind → Arg → Bool
is_of kind.Nothing arg.Nothing = true
is_of kind.Place (arg.Place p) = true
is_of kind.Pool (arg.Pool i) = true
is_of kind.Brigade (arg.Brigade b) = true
is_of kind.Source (arg.Source b) = true
is_of kind.Ending (arg.Ending s) = true
is_of kind.Label (arg.Target t) = true
is_of kind.Text (arg.Text t) = true
is_of kind.Variable (arg.Variable v) = true
is_of kind.Number (arg.Number i) = true
is_of kind.Value (arg.Value v) = true
is_of kind.Cursor (arg.Cursor i) = true
is_of kind.KindTest (arg.KindTest k) = true
is_of _ _ = false

pub record AreOf (k : OperandKinds) (a : Args) : Type 0 where
  pub first : is_of k.first a.first ≡ true
  pub second : is_of k.second a.second ≡ true
  pub third : is_of k.third a.third ≡ true
  pub fourth : is_of k.fourth a.fourth ≡ true

-- the number of the instruction that an operand names, if it names one
abbrev pub names_target : Arg → Option ℕ
names_target (arg.Target t) = Some t
names_target _ = None

-- the number of the text that an operand names, if it names one
abbrev pub names_text : Arg → Option ℕ
names_text (arg.Text t) = Some t
names_text _ = None

abbrev pub or_else : {X : Type 0} → Option X → Option X → Option X
or_else None b = b
or_else (Some x) b = Some x

-- the first that there is
abbrev pub first_some : {X : Type 0} → Option X → Option X → Option X → Option X → Option X
first_some a b c d = or_else (or_else (or_else a b) c) d

-- An instruction is made again from its word and its operands, which are of the kinds of the word.
pub record IsSplit (i : Instr) (o : Op) (a : Args) : Type 0 where
  pub again : made o a ≡ i
  pub kinds : AreOf (op_kinds o) a

-- one of eight number variables, or a constant below 2^32
abbrev pub is_value : Value → Bool
is_value (value.Number i) = nat_lt i 8
is_value (value.Constant k) = nat_lt k (2 ^ 32)
