-- The tables of the module language: which words are due, which variables are declared, and what may not stand in a handler.
-- The grammar, the first fault and the reader share them, so no proof guards them: a reader checks them here, once. The
-- words and the kinds of their operands stand in Words.antt, and the codes' numbers in Codes.antt.
use Rattle.std.specs.Prelude.{ℕ, suc, zero, Bool, true, false, ◌&&◌, ◌||◌, not, nat_lt, ◌==◌, List, length, slice_index_or}
use Rattle.module_code.specs.declared.part.Part.{Part}
use Rattle.module_code.specs.declared.part.Part.TheVariants as part
use Rattle.module_code.specs.declared.instr.PoolRef.{PoolRef}
use Rattle.module_code.specs.declared.instr.PoolRef.TheVariants as pool
use Rattle.module_code.specs.declared.instr.Status.TheVariants as status
use Rattle.module_code.specs.declared.operand.Operand.{Operand}
use Rattle.module_code.specs.declared.operand.Operand.TheVariants as operand
use Rattle.module_code.specs.declared.operand.Operands.{Operands}
use Rattle.module_code.specs.declared.word.Op.{Op}
use Rattle.module_code.specs.declared.word.Op.TheVariants as op
use Rattle.module_code.specs.declared.word.Word.{Word}
use Rattle.module_code.specs.declared.word.Word.TheVariants as word

-- the words that may begin the next line
abbrev pub is_due : Part → Word → Bool
is_due part.Start word.Module = true
is_due part.Pools word.Pool = true
is_due part.Pools word.Brigade = true
is_due part.Pools word.Open = true
is_due part.Brigades word.Brigade = true
is_due part.Brigades word.Open = true
is_due part.Open (word.Op o) = true
is_due part.Open word.Init = true
is_due part.Init (word.Op o) = true
is_due part.Init word.Main = true
is_due part.Main (word.Op o) = true
is_due part.Main word.End = true
is_due _ _ = false

abbrev pub is_handler : Part → Bool
is_handler part.Open = true
is_handler part.Init = true
is_handler part.Main = true
is_handler _ = false

abbrev pub is_main : Part → Bool
is_main part.Main = true
is_main _ = false

abbrev pub is_open : Part → Bool
is_open part.Open = true
is_open _ = false

abbrev pub is_end : Part → Bool
is_end part.End = true
is_end _ = false

-- the two operands are one brigade
abbrev pub same_brigade : Operand → Operand → Bool
same_brigade (operand.Brigade x) (operand.Brigade y) = x == y
same_brigade _ _ = false

abbrev pub has_equal_brigades : Operands → Bool
has_equal_brigades o = same_brigade o.first o.second || same_brigade o.first o.third || same_brigade o.second o.third

abbrev pub is_long_text : Operand → Bool
is_long_text (operand.Text len) = nat_lt 255 len
is_long_text _ = false

abbrev pub has_long_text : Operands → Bool
has_long_text o = is_long_text o.first || is_long_text o.second || is_long_text o.third || is_long_text o.fourth

abbrev pub is_text_operand : Operand → Bool
is_text_operand (operand.Text len) = true
is_text_operand _ = false

abbrev pub has_text : Operands → Bool
has_text o =
    is_text_operand o.first || is_text_operand o.second || is_text_operand o.third || is_text_operand o.fourth

-- the pool is declared, where so many are
abbrev pub place_is_declared : ℕ → PoolRef → Bool
place_is_declared pools pool.Conn = true
place_is_declared pools pool.Req = true
place_is_declared pools (pool.Own i) = nat_lt i pools

-- the variable is declared, where so many pools and brigades are; 8 is `in`
abbrev pub is_declared : ℕ → ℕ → Operand → Bool
is_declared pools brigades (operand.Place p) = place_is_declared pools p
is_declared pools brigades (operand.Brigade b) = nat_lt b brigades || (b == 8)
is_declared pools brigades _ = true

abbrev pub are_declared : ℕ → ℕ → Operands → Bool
are_declared pools brigades o =
    is_declared pools brigades o.first && is_declared pools brigades o.second && is_declared pools brigades o.third
    && is_declared pools brigades o.fourth

-- whether a pool is `req` or lies under it, by so many looks: each parent is lower, and there are at most eight
abbrev pub under_req : ℕ → List PoolRef → PoolRef → Bool
under_req zero pools p = false
under_req (suc n) pools pool.Conn = false
under_req (suc n) pools pool.Req = true
under_req (suc n) pools (pool.Own i) = under_req n pools (slice_index_or pools i pool.Conn)

-- an operand that only `main` has: `in` and `fail`
abbrev pub is_main_only : Operand → Bool
is_main_only (operand.Brigade b) = b == 8
is_main_only (operand.Ending status.Fail) = true
is_main_only _ = false

-- a word that only `main` has
abbrev pub is_main_word : Op → Bool
is_main_word op.Pass = true
is_main_word op.Leave = true
is_main_word _ = false

abbrev pub has_main_only : Op → Operands → Bool
has_main_only i o =
    is_main_word i || is_main_only o.first || is_main_only o.second || is_main_only o.third || is_main_only o.fourth

-- an operand that `open` may not have: `req`, or a variable under it
abbrev pub touches_req : List PoolRef → List PoolRef → Operand → Bool
touches_req pools brigades (operand.Place p) = under_req 9 pools p
touches_req pools brigades (operand.Brigade b) = under_req 9 pools (slice_index_or brigades b pool.Conn)
touches_req pools brigades _ = false

abbrev pub any_touches_req : List PoolRef → List PoolRef → Operands → Bool
any_touches_req pools brigades o =
    touches_req pools brigades o.first || touches_req pools brigades o.second || touches_req pools brigades o.third
    || touches_req pools brigades o.fourth

-- an instruction that may not stand in this handler
abbrev pub misplaced : Part → List PoolRef → List PoolRef → Op → Operands → Bool
misplaced p pools brigades i o =
    (not (is_main p) && has_main_only i o) || (is_open p && any_touches_req pools brigades o)

-- the operand is the variable that is declared next, where so many are
abbrev pub is_next : ℕ → Operand → Bool
is_next count (operand.Place (pool.Own i)) = i == count
is_next count (operand.Brigade i) = i == count
is_next count _ = false
