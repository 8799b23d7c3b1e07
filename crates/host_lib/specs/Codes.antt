-- The numbers by which C is told: those of `cidawru.h`.
use Rattle.std.specs.Prelude.{ℕ, List, [], length, Option, Some, None, Result, Ok, Err}
use Rattle.std.specs.Global.{Vec}
use Rattle.module_code.specs.declared.instr.Status.TheVariants as status
use Rattle.module_lang.specs.Codes.{code_number}
use Rattle.life_cert.specs.Codes.{code_number as cert_code_number}
use Rattle.life_check.specs.declared.refusal.Rule.{Rule}
use Rattle.life_check.specs.declared.refusal.Rule.TheVariants as rule
use Rattle.run_model.specs.declared.fault.FaultKind.{FaultKind}
use Rattle.run_model.specs.declared.fault.FaultKind.TheVariants as kind
use Rattle.run_model.specs.declared.event.Refusal.{Refusal}
use Rattle.run_model.specs.declared.event.Refusal.TheVariants as refusal
use Rattle.run_model.specs.declared.event.Cause.{Cause}
use Rattle.run_model.specs.declared.event.Cause.TheVariants as cause
use Rattle.run_model.specs.declared.event.Stepped.{Stepped}
use Rattle.run_model.specs.declared.event.Stepped.TheVariants as stepped
use Rattle.interp_exec.specs.declared.labels_run.LabelsRun.{LabelsRun}
use Rattle.author_text.specs.declared.place.Place.{Place}
use Rattle.filter_files.specs.declared.compiling.FilterFault.{FilterFault}
use Rattle.host_lib.specs.declared.pieces.PieceRefusal.{PieceRefusal}
use Rattle.host_lib.specs.declared.pieces.PieceRefusal.TheVariants as piece
use Rattle.host_lib.specs.declared.loading.LoadRefusal.{LoadRefusal}
use Rattle.host_lib.specs.declared.loading.LoadRefusal.TheVariants as load
use Rattle.host_lib.specs.declared.told.LoadTold.{LoadTold}

abbrev pub cause_code : Cause → ℕ
cause_code cause.NoMemory = 5
cause_code cause.NamesSpent = 6
cause_code cause.OutOfSteps = 7
cause_code cause.Faulted = 17

abbrev pub refusal_code : Refusal → ℕ
refusal_code refusal.NoMemory = 3
refusal_code refusal.NamesSpent = 4
refusal_code (refusal.Broken why) = cause_code why
refusal_code refusal.NoSuchConn = 8
refusal_code refusal.Busy = 9
refusal_code refusal.Idle = 10
refusal_code refusal.InRequest = 11
refusal_code refusal.NotInRequest = 12
refusal_code refusal.DataAfterEos = 13
refusal_code refusal.NoFile = 16
refusal_code refusal.FileFailed = 16

abbrev pub done_code : Option Refusal → ℕ
done_code None = 0
done_code (Some r) = refusal_code r

abbrev pub open_code : Result ℕ Refusal → ℕ
open_code (Ok number) = 0
open_code (Err r) = refusal_code r

abbrev pub close_code : Result (Vec LabelsRun) Refusal → ℕ
close_code (Ok labels) = 0
close_code (Err r) = refusal_code r

abbrev pub run_code : Result Stepped Refusal → ℕ
run_code (Ok (stepped.CallEnded status.Success)) = 0
run_code (Ok (stepped.CallEnded status.Fail)) = 1
run_code (Ok stepped.Went) = 2
run_code (Ok (stepped.Fault k m pc)) = 17
run_code (Err r) = refusal_code r

abbrev pub piece_code : Result (Unit {0}) PieceRefusal → ℕ
piece_code (Ok x) = 0
piece_code (Err piece.NoMemory) = 3
piece_code (Err piece.NoConnection) = 8
piece_code (Err piece.NoKind) = 14

-- the number of a connection that was opened; else 0
abbrev pub number_in : Result ℕ Refusal → ℕ
number_in (Ok number) = number
number_in (Err r) = 0

abbrev pub fault_code : FaultKind → ℕ
fault_code kind.F1 = 1
fault_code kind.F2 = 2
fault_code kind.F3 = 3
fault_code kind.F4 = 4
fault_code kind.F5 = 5
fault_code kind.F6 = 6
fault_code kind.F7 = 7
fault_code kind.F8 = 8
fault_code kind.F9 = 9
fault_code kind.F10 = 10

abbrev pub rule_code : Rule → ℕ
rule_code (rule.May k) = fault_code k
rule_code rule.Shape = 11
rule_code rule.Entry = 12
rule_code rule.Flow = 13
rule_code rule.Exit = 14
rule_code rule.Request = 15

-- what is told alone
abbrev pub only : ℕ → LoadTold
only what = record { what = what; code = 0; «module» = 0; place = 0; column = 0; message = 0 }

-- a line and a column; 0 and 0 where there is no place
abbrev pub place_numbers : Option Place → ℕ × ℕ
place_numbers None = (0, 0)
place_numbers (Some p) = (p.line, p.column)

abbrev pub told_of_filter : ℕ → FilterFault → LoadTold
told_of_filter index fault =
    record { what = 7; code = 0; «module» = index; place = (place_numbers fault.place).0; column = (place_numbers fault.place).1; message = length fault.line.items }

-- what is told of why a chain is not taken
abbrev pub told_of : LoadRefusal → LoadTold
told_of load.NoChain = only 1
told_of load.NoMemory = only 2
told_of (load.NoModule index line code) = record { what = 3; code = code_number code; «module» = index; place = line; column = 0; message = 0 }
told_of (load.NoCert index line code) = record { what = 4; code = cert_code_number code; «module» = index; place = line; column = 0; message = 0 }
told_of (load.NotSafe index why) = record { what = 5; code = rule_code why.rule; «module» = index; place = why.pc; column = 0; message = 0 }
told_of (load.NoFilter index fault) = told_of_filter index fault
told_of (load.NoSetting fault) = record { what = 8; code = 0; «module» = 0; place = 0; column = 0; message = length fault.line.items }
told_of (load.NoKind index) = record { what = 9; code = 0; «module» = index; place = 0; column = 0; message = 0 }

-- what is said in words: of filters and settings alone
abbrev pub message_of : LoadRefusal → List ℕ
message_of (load.NoFilter index fault) = fault.line.items
message_of (load.NoSetting fault) = fault.line.items
message_of e = []
