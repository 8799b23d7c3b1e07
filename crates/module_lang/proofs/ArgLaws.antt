-- An instruction is made again from its word and its operands.
use Rattle.std.proofs.Common.{◌≡◌, ℕ, Bool, true, false, ◌&&◌, ◌||◌, not, List, [], Option, Some, None, refl, sym, ◌∙◌, ap, subst}
use Rattle.std.specs.Prelude.{IfSome, is_some, option_map}
use Rattle.module_code.specs.Args.{AreOf, args, first_some, four_args, is_of, made, names_target, names_text, op_of, parts}
use Rattle.module_lang.specs.Handlers.{arg_in, args_in, label_of, op_instr}
use Rattle.module_lang.specs.Operands.{of_kind, operand_kind_is_text}
use Rattle.module_code.proofs.PartsLaws.{made_again, split_again}
use Rattle.module_code.specs.Program.{target, text_of_instr}
use Rattle.module_code.specs.Spelling.{operand_of, operands_of}
use Rattle.module_code.specs.Words.{op_kinds}
use Rattle.module_code.specs.declared.arg.Arg.{Arg}
use Rattle.module_code.specs.declared.arg.Arg.TheVariants as arg
use Rattle.module_code.specs.declared.arg.Args.{Args}
use Rattle.module_code.specs.declared.instr.Instr.{Instr}
use Rattle.module_code.specs.declared.instr.Instr.TheVariants as instr
use Rattle.module_code.specs.declared.instr.VarRef.TheVariants as variable
use Rattle.module_code.specs.declared.operand.Operand.TheVariants as operand
use Rattle.module_code.specs.declared.operand.Operands.{Operands}
use Rattle.module_code.specs.declared.word.OperandKind.{OperandKind}
use Rattle.module_code.specs.declared.word.OperandKind.TheVariants as kind
use Rattle.module_code.specs.declared.word.OperandKinds.{OperandKinds}
use Rattle.module_code.specs.declared.word.Op.{Op}
use Rattle.module_code.specs.declared.word.Op.TheVariants as op

-- operands that are read by their kinds are of them
pub args_are : (i : Op) (o : Operands) (x t : ℕ) → AreOf (op_kinds i) (args_in (op_kinds i) o x t)
args_are op.ClearBuf o x t = record { first = refl; second = refl; third = refl; fourth = refl }
args_are _ o x t = record { first = refl; second = refl; third = refl; fourth = refl }

-- an operand that is a variable beside a brigade: two names of brigades that no test compares
abbrev pub mixes : Arg → Arg → Bool
mixes (arg.Variable v) (arg.Brigade b) = true
mixes (arg.Variable v) (arg.Source b) = true
mixes (arg.Variable v) (arg.Variable w) = true
mixes (arg.Brigade b) (arg.Variable v) = true
mixes (arg.Source b) (arg.Variable v) = true
mixes _ _ = false

abbrev pub at_most_one : Bool → Bool → Bool → Bool → Bool
at_most_one a b c d = not (a && b) && not ((a || b) && c) && not ((a || b || c) && d)

-- At most one operand is a target, a text is the second, and no variable stands beside a brigade.
pub record ArgsFormed (a : Args) : Type 0 where
  pub targets : at_most_one (is_some (names_target a.first)) (is_some (names_target a.second)) (is_some (names_target a.third)) (is_some (names_target a.fourth)) ≡ true
  pub first : names_text a.first ≡ None
  pub second : first_some (names_text a.first) (names_text a.second) (names_text a.third) (names_text a.fourth) ≡ names_text a.second
  pub third : names_text a.third ≡ None
  pub fourth : names_text a.fourth ≡ None
  pub one_two : mixes a.first a.second ≡ false
  pub one_three : mixes a.first a.third ≡ false
  pub two_three : mixes a.second a.third ≡ false

pub formed : (i : Instr) → ArgsFormed (args i)
formed instr.ClearBuf = record { targets = refl; first = refl; second = refl; third = refl; fourth = refl; one_two = refl; one_three = refl; two_three = refl }
formed _ = record { targets = refl; first = refl; second = refl; third = refl; fourth = refl; one_two = refl; one_three = refl; two_three = refl }

abbrev pub is_label : OperandKind → Bool
is_label k = of_kind k (operand.Label [])

abbrev pub is_version : OperandKind → Bool
is_version k = of_kind k operand.One

-- At most one operand of a word is a label, a text is the second, and none is the version.
pub record AreOpKinds (k : OperandKinds) : Type 0 where
  pub labels : at_most_one (is_label k.first) (is_label k.second) (is_label k.third) (is_label k.fourth) ≡ true
  pub first : operand_kind_is_text k.first ≡ false
  pub third : operand_kind_is_text k.third ≡ false
  pub fourth : operand_kind_is_text k.fourth ≡ false
  pub versions : (is_version k.first || is_version k.second || is_version k.third || is_version k.fourth) ≡ false

pub op_formed : (i : Op) → AreOpKinds (op_kinds i)
op_formed op.ClearBuf = record { labels = refl; first = refl; third = refl; fourth = refl; versions = refl }
op_formed _ = record { labels = refl; first = refl; third = refl; fourth = refl; versions = refl }

-- the one of four that there is
pub picked : {A : Type 0} (a b c d : Bool) (p q r s : A) → at_most_one a b c d ≡ true → (x : A) × (a ≡ true → x ≡ p) × (b ≡ true → x ≡ q) × (c ≡ true → x ≡ r) × (d ≡ true → x ≡ s)
picked true false false false p q r s h = (p, λ e. refl, λ e. absurd (cc e), λ e. absurd (cc e), λ e. absurd (cc e))
picked false true false false p q r s h = (q, λ e. absurd (cc e), λ e. refl, λ e. absurd (cc e), λ e. absurd (cc e))
picked false false true false p q r s h = (r, λ e. absurd (cc e), λ e. absurd (cc e), λ e. refl, λ e. absurd (cc e))
picked false false false d p q r s h = (s, λ e. absurd (cc e), λ e. absurd (cc e), λ e. absurd (cc e), λ e. refl)
picked _ _ _ _ p q r s h = absurd (cc h)

-- what holds of the first of four, of which there is one at most, holds of each
pub each_some : (a b c d : Option ℕ) (P : ℕ → Type 0) → at_most_one (is_some a) (is_some b) (is_some c) (is_some d) ≡ true → IfSome (first_some a b c d) P → IfSome a P × IfSome b P × IfSome c P
    × IfSome d P
each_some None None None d P g h = (tt, tt, tt, h)
each_some None None (Some x) None P g h = (tt, tt, h, tt)
each_some None (Some x) None None P g h = (tt, h, tt, tt)
each_some (Some x) None None None P g h = (h, tt, tt, tt)
each_some _ _ _ _ P g h = absurd (cc g)

-- an instruction that was read has the operands that were read
pub parts_in : (i : Op) (o : Operands) (x t : ℕ) → parts (op_instr i o x t) ≡ (i, args_in (op_kinds i) o x t)
parts_in i o x t = made_again i (args_in (op_kinds i) o x t) (args_are i o x t)

pub args_of_read : (i : Op) (o : Operands) (x t : ℕ) → args (op_instr i o x t) ≡ args_in (op_kinds i) o x t
args_of_read i o x t = ap (λ (z : Op × Args). z.1) (parts_in i o x t)

-- its target is the one that it is given
pub target_moved : (i : Op) (o : Operands) (x t : ℕ) → target (op_instr i o x t) ≡ option_map (λ _. t) (target (op_instr i o x 0))
target_moved op.ClearBuf o x t = refl
target_moved _ o x t = refl

-- the label that is written is that of the target
pub label_target : (i : Instr) (n : List ℕ) (k : ℕ) → label_of (operands_of i n k) ≡ option_map (λ _. n) (target i)
label_target (instr.JNull (variable.Pool q) l) n k = refl
label_target (instr.JNull (variable.Brigade b) l) n k = refl
label_target _ n k = refl

arg_made : (k : OperandKind) (a : Arg) (n : List ℕ) (len x t : ℕ) → is_of k a ≡ true → IfSome (names_target a) (λ u. t ≡ u) → IfSome (names_text a) (λ u. x ≡ u) → arg_in k (operand_of a n len) x t ≡ a
arg_made kind.Nothing arg.Nothing n len x t h a w = refl
arg_made kind.Place (arg.Place p) n len x t h a w = refl
arg_made kind.Pool (arg.Pool q) n len x t h a w = refl
arg_made kind.Brigade (arg.Brigade b) n len x t h a w = refl
arg_made kind.Source (arg.Source b) n len x t h a w = refl
arg_made kind.Ending (arg.Ending s) n len x t h a w = refl
arg_made kind.Label (arg.Target u) n len x t h a w = ap arg.Target a
arg_made kind.Text (arg.Text u) n len x t h a w = ap arg.Text w
arg_made kind.Variable (arg.Variable (variable.Pool q)) n len x t h a w = refl
arg_made kind.Variable (arg.Variable (variable.Brigade b)) n len x t h a w = refl
arg_made kind.Number (arg.Number m) n len x t h a w = refl
arg_made kind.Value (arg.Value v) n len x t h a w = refl
arg_made kind.Cursor (arg.Cursor c) n len x t h a w = refl
arg_made kind.KindTest (arg.KindTest k) n len x t h a w = refl
arg_made _ _ n len x t h a w = absurd (cc h)

-- an instruction is made again from its operands as they are written, with its target and the number of its text
pub instr_again : (i : Instr) (n : List ℕ) (len x t : ℕ) → IfSome (target i) (λ u. t ≡ u) → IfSome (text_of_instr i) (λ u. x ≡ u) → op_instr (op_of i) (operands_of i n len) x t ≡ i
instr_again i n len x t a w =
    let y = args i in
    let z = split_again i in
    let f = formed i in
    let e = each_some (names_target y.first) (names_target y.second) (names_target y.third) (names_target y.fourth) (λ u. t ≡ u) f.targets a in
    let none : (o : Option ℕ) → o ≡ None → IfSome o (λ u. x ≡ u) = λ o q. subst (λ v. IfSome v (λ u. x ≡ u)) (sym q) tt in
    let p = arg_made (op_kinds (op_of i)).first y.first n len x t z.kinds.first e.0 (none (names_text y.first) f.first) in
    let q = arg_made (op_kinds (op_of i)).second y.second n len x t z.kinds.second e.1 (subst (λ v. IfSome v (λ u. x ≡ u)) f.second w) in
    let r = arg_made (op_kinds (op_of i)).third y.third n len x t z.kinds.third e.2 (none (names_text y.third) f.third) in
    let s = arg_made (op_kinds (op_of i)).fourth y.fourth n len x t z.kinds.fourth e.3 (none (names_text y.fourth) f.fourth) in
    (λ j. made (op_of i) (four_args (p j) (q j) (r j) (s j))) ∙ z.again
