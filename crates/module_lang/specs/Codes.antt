-- The codes of faults, and how an answer of the code compares with one that is computed.
use Rattle.std.specs.Prelude.{◌≡◌, ℕ, Bool, true, false, Result, Ok, Err}
use Rattle.module_lang.specs.declared.refusal.Code.{Code}
use Rattle.module_lang.specs.declared.refusal.Code.TheVariants as code
use Rattle.module_lang.specs.declared.refusal.AsmRefusal.{AsmRefusal}
use Rattle.module_lang.specs.declared.refusal.AsmRefusal.TheVariants.{Fault, NoMemory}

-- the number of a code
abbrev pub code_number : Code → ℕ
code_number code.BadByte = 1
code_number code.NotDue = 2
code_number code.UnknownWord = 3
code_number code.WrongOperands = 4
code_number code.FaultyText = 5
code_number code.Undeclared = 6
code_number code.DoubledLabel = 7
code_number code.LostLabel = 8
code_number code.Misplaced = 9
code_number code.OpenEnd = 10
code_number code.TooMany = 11

-- A fault that is told is the computed one; want of memory says nothing.
abbrev pub Tells : {Y : Type 0} → AsmRefusal → Result Y AsmRefusal → Type 0
Tells (Fault l c) r = r ≡ Err (Fault l c)
Tells NoMemory r = Unit {0}

-- The result, seen by a view, is the computed one, or there was no memory.
abbrev pub Gives : {X Y : Type 0} → (X → Y) → Result X AsmRefusal → Result Y AsmRefusal → Type 0
Gives view (Ok x) r = r ≡ Ok (view x)
Gives view (Err e) r = Tells e r

-- a step, and the next step where it succeeds
infixl 10 ◌>>=◌
abbrev pub ◌>>=◌ : {A B E : Type 0} → Result A E → (A → Result B E) → Result B E
(Ok x) >>= f = f x
(Err e) >>= f = Err e

-- fails where there is such a fault
abbrev pub unless : Bool → Code → Result (Unit {0}) Code
unless true c = Err c
unless false c = Ok tt
