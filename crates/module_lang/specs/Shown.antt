-- The parts of a printed line.
use Rattle.std.specs.Prelude.{◌≡◌, ◌<◌, ℕ, true, ◌||◌, nat_lt, ◌==◌, List, [], ◌∷◌, ◌++◌, codes, length, map, slice_range}
use Rattle.module_code.specs.Args.{names_target, names_text, no_arg, is_value}
use Rattle.module_lang.specs.Lines.{place_is_declared}
use Rattle.module_lang.specs.Printing.{aim, printed_code, quoted_text}
use Rattle.module_code.specs.Program.{Program, target, text_of_instr}
use Rattle.module_lang.specs.Texts.{arg_texts, brigade_texts, code_text, joined, operands_text, pool_texts, step}
use Rattle.module_code.specs.declared.arg.Arg.{Arg}
use Rattle.module_code.specs.declared.arg.Arg.TheVariants as arg
use Rattle.module_code.specs.declared.arg.Args.{Args}
use Rattle.module_code.specs.declared.instr.Instr.{Instr}
use Rattle.module_code.specs.declared.instr.VarRef.{VarRef}
use Rattle.module_code.specs.declared.instr.VarRef.TheVariants as variable

-- an operand of a module with these texts
abbrev pub own_texts : List (List ℕ) → Arg → List (List ℕ)
own_texts ts a = arg_texts a (aim (names_target a)) (quoted_text ts (names_text a))

-- an operand with the space before it
abbrev pub shown_arg : List (List ℕ) → Arg → List ℕ
shown_arg ts a = operands_text (own_texts ts a)

abbrev pub shown_args : List (List ℕ) → Args → List ℕ
shown_args ts a = shown_arg ts a.first ++ (shown_arg ts a.second ++ (shown_arg ts a.third ++ shown_arg ts a.fourth))

abbrev pub HasDigit : VarRef → Type 0
HasDigit (variable.Pool q) = q < 8
HasDigit (variable.Brigade b) = b < 8

-- the number of a variable or cursor has one digit, a constant is below 2^32, and a text is one of these
abbrev pub IsShortArg : List (List ℕ) → Arg → Type 0
IsShortArg ts arg.Nothing = Unit {0}
IsShortArg ts (arg.Place p) = place_is_declared 8 p ≡ true
IsShortArg ts (arg.Pool q) = q < 8
IsShortArg ts (arg.Brigade b) = b < 8
IsShortArg ts (arg.Source b) = (nat_lt b 8 || (b == 8)) ≡ true
IsShortArg ts (arg.Ending s) = Unit {0}
IsShortArg ts (arg.Target t) = Unit {0}
IsShortArg ts (arg.Text t) = t < length ts
IsShortArg ts (arg.Variable v) = HasDigit v
IsShortArg ts (arg.Number m) = m < 8
IsShortArg ts (arg.Value v) = is_value v ≡ true
IsShortArg ts (arg.Cursor c) = c < 8
IsShortArg ts (arg.KindTest k) = Unit {0}

pub record AreShort (ts : List (List ℕ)) (a : Args) : Type 0 where
  pub first : IsShortArg ts a.first
  pub second : IsShortArg ts a.second
  pub third : IsShortArg ts a.third
  pub fourth : IsShortArg ts a.fourth

-- a line of a word and its operands, with its LF
abbrev pub shown_line : List (List ℕ) → List ℕ → Args → List ℕ
shown_line ts word a = word ++ (shown_args ts a ++ 10 ∷ [])

-- the line of an instruction of a module with these texts
abbrev pub shown_step : List (List ℕ) → Instr → List ℕ
shown_step ts i = code_text (step i (aim (target i)) (quoted_text ts (text_of_instr i))) ++ 10 ∷ []

-- the lines of the instructions from one number up to another
unfoldable pub shown_code : List (List ℕ) → List Instr → ℕ → ℕ → List ℕ
shown_code ts code from to = joined (map code_text (printed_code ts code from (slice_range code from to)))

-- the lines of a handler, behind its word
unfoldable pub shown_handler : List ℕ → List (List ℕ) → List Instr → ℕ → ℕ → List ℕ
shown_handler word ts code from to = shown_line ts word no_arg ++ shown_code ts code from to

-- the lines of the declarations
unfoldable pub shown_declarations : Program → List ℕ
shown_declarations m = codes "module 1" ++ 10 ∷ (joined (pool_texts 0 m.pools) ++ joined (brigade_texts 0 m.brigades))
