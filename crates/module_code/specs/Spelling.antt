-- How an instruction is written: its word and its operands.
use Rattle.std.specs.Prelude.{ℕ, List}
use Rattle.module_code.specs.Args.{args}
use Rattle.module_code.specs.declared.arg.Arg.{Arg}
use Rattle.module_code.specs.declared.arg.Arg.TheVariants as arg
use Rattle.module_code.specs.declared.instr.Instr.{Instr}
use Rattle.module_code.specs.declared.instr.PoolRef.TheVariants as pool
use Rattle.module_code.specs.declared.instr.Value.TheVariants as value
use Rattle.module_code.specs.declared.instr.VarRef.{VarRef}
use Rattle.module_code.specs.declared.instr.VarRef.TheVariants as variable
use Rattle.module_code.specs.declared.operand.Operand.{Operand}
use Rattle.module_code.specs.declared.operand.Operand.TheVariants as operand
use Rattle.module_code.specs.declared.operand.Operands.{Operands}

abbrev pub three : Operand → Operand → Operand → Operands
three a b c = record { first = a; second = b; third = c; fourth = operand.Nothing }

abbrev pub two : Operand → Operand → Operands
two a b = three a b operand.Nothing

abbrev pub one : Operand → Operands
one a = two a operand.Nothing

-- a number variable, a pool variable, and a variable
abbrev pub number_operand : ℕ → Operand
number_operand n = operand.Value (value.Number n)

abbrev pub own_pool : ℕ → Operand
own_pool q = operand.Place (pool.Own q)

abbrev pub variable_operand : VarRef → Operand
variable_operand (variable.Pool q) = own_pool q
variable_operand (variable.Brigade b) = operand.Brigade b

-- an operand as it is written, where a target has this name and a text so many bytes
abbrev pub operand_of : Arg → List ℕ → ℕ → Operand
operand_of arg.Nothing n k = operand.Nothing
operand_of (arg.Place p) n k = operand.Place p
operand_of (arg.Pool q) n k = own_pool q
operand_of (arg.Brigade b) n k = operand.Brigade b
operand_of (arg.Source b) n k = operand.Brigade b
operand_of (arg.Ending s) n k = operand.Ending s
operand_of (arg.Target t) n k = operand.Label n
operand_of (arg.Text t) n k = operand.Text k
operand_of (arg.Variable v) n k = variable_operand v
operand_of (arg.Number m) n k = number_operand m
operand_of (arg.Value x) n k = operand.Value x
operand_of (arg.Cursor c) n k = operand.Cursor c
operand_of (arg.KindTest t) n k = operand.KindTest t

-- the operands of an instruction, where its target has this name and its text so many bytes
abbrev pub operands_of : Instr → List ℕ → ℕ → Operands
operands_of i n k = record {
  first = operand_of (args i).first n k;
  second = operand_of (args i).second n k;
  third = operand_of (args i).third n k;
  fourth = operand_of (args i).fourth n k;
}
