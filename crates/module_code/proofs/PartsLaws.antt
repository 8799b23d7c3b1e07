-- An instruction is made again from its word and its operands.
use Rattle.std.proofs.Common.{◌≡◌, ℕ, Bool, true, false, ◌&&◌, ◌||◌, not, List, Option, Some, None, refl, sym, ◌∙◌, ap, subst}
use Rattle.std.specs.Prelude.{IfSome, is_some, option_map}
use Rattle.module_code.specs.Args.{AreOf, IsSplit, arg_aim, arg_index, arg_kind_test, arg_place, arg_status, arg_text, arg_value, arg_variable, args, first_some, four_args, is_of, made, names_target}
use Rattle.module_code.specs.Args.{names_text, op_of, parts}
use Rattle.module_code.specs.Words.{op_kinds}
use Rattle.module_code.specs.declared.arg.Arg.{Arg}
use Rattle.module_code.specs.declared.arg.Arg.TheVariants as arg
use Rattle.module_code.specs.declared.arg.Args.{Args}
use Rattle.module_code.specs.declared.instr.Instr.{Instr}
use Rattle.module_code.specs.declared.instr.Instr.TheVariants as instr
use Rattle.module_code.specs.declared.instr.VarRef.TheVariants as variable
use Rattle.module_code.specs.declared.operand.Operands.{Operands}
use Rattle.module_code.specs.declared.word.OperandKind.{OperandKind}
use Rattle.module_code.specs.declared.word.OperandKind.TheVariants as kind
use Rattle.module_code.specs.declared.word.OperandKinds.{OperandKinds}
use Rattle.module_code.specs.declared.word.Op.{Op}
use Rattle.module_code.specs.declared.word.Op.TheVariants as op

-- an operand that its kind knows
abbrev as_kind : OperandKind → Arg → Arg
as_kind kind.Nothing a = arg.Nothing
as_kind kind.One a = arg.Nothing
as_kind kind.Place a = arg.Place (arg_place a)
as_kind kind.Pool a = arg.Pool (arg_index a)
as_kind kind.Brigade a = arg.Brigade (arg_index a)
as_kind kind.Source a = arg.Source (arg_index a)
as_kind kind.Ending a = arg.Ending (arg_status a)
as_kind kind.Label a = arg.Target (arg_aim a)
as_kind kind.Text a = arg.Text (arg_text a)
as_kind kind.Variable a = arg.Variable (arg_variable a)
as_kind kind.Number a = arg.Number (arg_index a)
as_kind kind.Value a = arg.Value (arg_value a)
as_kind kind.Cursor a = arg.Cursor (arg_index a)
as_kind kind.KindTest a = arg.KindTest (arg_kind_test a)

same_kind : (k : OperandKind) (a : Arg) → is_of k a ≡ true → as_kind k a ≡ a
same_kind kind.Nothing arg.Nothing h = refl
same_kind kind.Place (arg.Place p) h = refl
same_kind kind.Pool (arg.Pool i) h = refl
same_kind kind.Brigade (arg.Brigade b) h = refl
same_kind kind.Source (arg.Source b) h = refl
same_kind kind.Ending (arg.Ending s) h = refl
same_kind kind.Label (arg.Target t) h = refl
same_kind kind.Text (arg.Text t) h = refl
same_kind kind.Variable (arg.Variable v) h = refl
same_kind kind.Number (arg.Number i) h = refl
same_kind kind.Value (arg.Value v) h = refl
same_kind kind.Cursor (arg.Cursor i) h = refl
same_kind kind.KindTest (arg.KindTest k) h = refl
same_kind _ _ h = absurd (cc h)

-- the table is the same read from either side
made_kinds : (o : Op) (a : Args)
    → parts (made o a) ≡ (o, four_args (as_kind (op_kinds o).first a.first) (as_kind (op_kinds o).second a.second) (as_kind (op_kinds o).third a.third) (as_kind (op_kinds o).fourth a.fourth))
made_kinds op.ClearBuf a = refl
made_kinds _ a = refl

pub split_again : (i : Instr) → IsSplit i (parts i).0 (parts i).1
split_again instr.ClearBuf = record { again = refl; kinds = record { first = refl; second = refl; third = refl; fourth = refl } }
split_again _ = record { again = refl; kinds = record { first = refl; second = refl; third = refl; fourth = refl } }

pub made_again : (o : Op) (a : Args) → AreOf (op_kinds o) a → parts (made o a) ≡ (o, a)
made_again o a h =
    let k = op_kinds o in
    made_kinds o a ∙ (λ i. (o, four_args (same_kind k.first a.first h.first i) (same_kind k.second a.second h.second i) (same_kind k.third a.third h.third i) (same_kind k.fourth a.fourth h.fourth i)))
