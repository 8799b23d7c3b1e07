-- Passed brigades: that they are not used, and stay passed, until they are cleaned.
use Rattle.std.specs.Prelude.{◌≡◌, ℕ, Bool, true, false, ◌==◌, ◌&&◌, ◌⊎◌, List, [], ◌∷◌, ◌++◌, Option, Some, None}
use Rattle.std.specs.List.{list_any}
use Rattle.module_code.specs.declared.instr.Status.{Status}
use Rattle.module_code.specs.declared.instr.Instr.{Instr}
use Rattle.module_code.specs.declared.instr.Instr.TheVariants as instr
use Rattle.module_code.specs.Program.{Program}
use Rattle.run_model.specs.declared.bucket.Mark.TheVariants.{Passed}
use Rattle.run_model.specs.declared.bucket.BrigadeVar.{BrigadeVar}
use Rattle.run_model.specs.declared.bucket.BrigadeVar.TheVariants as var
use Rattle.run_model.specs.declared.fault.FaultKind.{FaultKind}
use Rattle.run_model.specs.declared.fault.FaultKind.TheVariants as fault_kind
use Rattle.run_model.specs.declared.event.Event.{Event}
use Rattle.run_model.specs.declared.event.Event.TheVariants as event
use Rattle.run_model.specs.State.{Configuration, items_of}
use Rattle.run_model.specs.Cursors.{CursorPlace, Nowhere, AtLoose, Within, AtEndOf, at_cursor}
use Rattle.run_model.specs.Faults.{Want, WPool, WBrigade, WUsable, WNew, WNewPool, WCursor, WHomes, WHome, WHomeAcross, WSend, WReturn, wants, fault_want, fault}
use Rattle.run_model.specs.Steps.{Choice, step, current}
use Rattle.run_model.specs.Sound.{brigade_name}
use Rattle.run_model.specs.Chains.{Frame, Connection, module_at, IsChain}
use Rattle.run_model.specs.Worlds.{World, Told, happens}
use Rattle.model_laws.specs.ChainSound.{WorldSound}
use Rattle.model_laws.specs.ChainNumbers.{WorldNumbers}
use Rattle.model_laws.specs.ChainOrder.{WorldOrder}

-- whether a cursor stands at a bucket or at the end of the brigade in this variable
abbrev pub is_at : CursorPlace → ℕ → Bool
is_at Nowhere k = false
is_at (AtLoose x) k = false
is_at (Within b x) k = k == b
is_at (AtEndOf b) k = k == b

-- Whether a want is that of this brigade as a usable one, or of a cursor that stands there. (Homes, and what may be sent on, are asked
-- of operands for which an instruction has such a want too; at a return a passed brigade may be kept.)
abbrev pub wants_use : Configuration → ℕ → Want → Bool
wants_use r k (WPool o) = false
wants_use r k (WBrigade b) = false
wants_use r k (WUsable b) = k == b
wants_use r k (WNew o) = false
wants_use r k (WNewPool q) = false
wants_use r k (WCursor c f) = is_at (at_cursor r c) k
wants_use r k (WHomes b) = false
wants_use r k (WHome c) = false
wants_use r k (WHomeAcross b x) = false
wants_use r k (WSend b) = false
wants_use r k WReturn = false

-- whether an instruction uses this brigade
abbrev pub uses : Program → Configuration → Instr → ℕ → Bool
uses p r i k = list_any (wants_use r k) (wants p i)

-- A variable holds a brigade that was passed.
abbrev pub HoldsPassed : BrigadeVar → Type 0
HoldsPassed var.Null = ⊥
HoldsPassed var.Gone = ⊥
HoldsPassed (var.Live v) = v.mark ≡ Passed

-- The same brigade is still in the variable and passed, or it is gone.
abbrev pub StaysPassed : BrigadeVar → BrigadeVar → Type 0
StaysPassed old var.Null = ⊥
StaysPassed old var.Gone = Unit {0}
StaysPassed old (var.Live v) = (brigade_name old ≡ Some v.name) × (v.mark ≡ Passed)

-- After a pass without a fault its variable holds the same brigade, which was passed.
abbrev pub PassesMark : Type 0
PassesMark = (p : Program) (choice : Choice) (b l : ℕ) (r : Configuration) → fault p r (instr.Pass b l) ≡ None
    → HoldsPassed ((step p choice (instr.Pass b l) r).state.instance.brigades b) × (brigade_name ((step p choice (instr.Pass b l) r).state.instance.brigades b) ≡ brigade_name (r.instance.brigades b))

-- the faults that may be told before that of a passed brigade
abbrev pub may_come_first : FaultKind → Bool
may_come_first fault_kind.F2 = true
may_come_first fault_kind.F3 = true
may_come_first fault_kind.F4 = true
may_come_first fault_kind.F9 = true
may_come_first k = false

-- A want stands before each use of the brigade k, and has a fault, which is told.
pub record FaultBefore (p : Program) (r : Configuration) (i : Instr) (k : ℕ) : Type 0 where
  pub kind : FaultKind
  pub told : fault p r i ≡ Some kind
  pub one_of : may_come_first kind ≡ true
  pub earlier : List Want
  pub want : Want
  pub later : List Want
  pub order : wants p i ≡ earlier ++ want ∷ later
  pub unmet : fault_want r want ≡ Some kind
  pub unused : list_any (wants_use r k) (earlier ++ want ∷ []) ≡ false

-- An instruction that uses a brigade that was passed has the fault F7, or the fault of an operand that stands before it: F2
-- of a brigade that is null or dead, F3, F4 or F9 of a cursor.
abbrev pub PassedIsNotUsed : Type 0
PassedIsNotUsed = (p : Program) (b : ℕ) (r : Configuration) (i : Instr) → uses p r i b ≡ true → HoldsPassed (r.instance.brigades b)
    → (fault p r i ≡ Some fault_kind.F7) ⊎ FaultBefore p r i b

-- So after a pass no instruction that uses the brigade goes on.
abbrev pub UseAfterPassFaults : Type 0
UseAfterPassFaults = (p : Program) (choice : Choice) (b l : ℕ) (r : Configuration) (i : Instr) → uses p (step p choice (instr.Pass b l) r).state i b ≡ true
    → fault p (step p choice (instr.Pass b l) r).state i ≡ None → ⊥

-- whether an instruction lets go of a passed brigade: a clean of it, and of `in` a return
abbrev pub lets_go : Instr → ℕ → Bool
lets_go (instr.BClean c) b = b == c
lets_go (instr.Ret s) b = b == 8
lets_go i b = false

-- Each other step without a fault leaves it passed, or it is gone.
abbrev pub StepKeepsPassed : Type 0
StepKeepsPassed = (p : Program) (choice : Choice) (i : Instr) (b : ℕ) (r : Configuration) → fault p r i ≡ None → lets_go i b ≡ false → HoldsPassed (r.instance.brigades b)
    → StaysPassed (r.instance.brigades b) ((step p choice i r).state.instance.brigades b)

-- A return ends `in`.
abbrev pub ReturnEndsIn : Type 0
ReturnEndsIn = (p : Program) (choice : Choice) (s : Status) (r : Configuration) → (step p choice (instr.Ret s) r).state.instance.brigades 8 ≡ var.Null

-- In a connection with a chain.

-- whether a step lets go of the brigade b of the instance j: the call on top is of that module, at an instruction that does
abbrev pub top_lets_go : List Program → List Frame → ℕ → ℕ → Bool
top_lets_go chain [] j b = false
top_lets_go chain (f ∷ rest) j b = (f.of == j) && lets_go (current (module_at chain f.of) f.pc) b

-- whether an event of its connection does
abbrev pub event_lets_go : List Program → Connection → Event → ℕ → ℕ → Bool
event_lets_go chain c event.Step j b = top_lets_go chain c.stack j b
event_lets_go chain c e j b = false

-- the same of a variable of a connection that may be closed
abbrev pub StaysPassedIn : BrigadeVar → ℕ → ℕ → Option Connection → Type 0
StaysPassedIn old j b None = Unit {0}
StaysPassedIn old j b (Some c) = StaysPassed old ((c.instances j).brigades b)

-- Each other event, also of another connection, leaves it passed, or it is gone; or its connection is closed.
abbrev pub EventKeepsPassed : Type 0
EventKeepsPassed = (memory : Bool) (budget : ℕ) (chain : List Program) (told : Told) (i k j b : ℕ) (e : Event) (w : World) (c : Connection)
    → IsChain chain → WorldSound chain w → WorldNumbers w → WorldOrder budget w → w.conns k ≡ Some c → (i ≡ k → event_lets_go chain c e j b ≡ false) → HoldsPassed ((c.instances j).brigades b)
    → StaysPassedIn ((c.instances j).brigades b) j b ((happens memory budget chain told i e w).1.conns k)

-- A brigade that was cleaned is usable and empty.
abbrev pub CleanedIsUsable : Type 0
CleanedIsUsable = (p : Program) (choice : Choice) (b : ℕ) (r : Configuration) → fault p r (instr.BClean b) ≡ None
    → (fault_want (step p choice (instr.BClean b) r).state (WUsable b) ≡ None) × (items_of ((step p choice (instr.BClean b) r).state.instance.brigades b) ≡ [])
