-- An instruction at its place in a module may be executed, where it has no fault and the names that it gives out are there.
use Rattle.std.proofs.Common.{◌≡◌, ℕ, true, false, length, get_or, None, inl, inr, ap}
use Rattle.std.proofs.lemmas.Bool.{cases_lt}
use Rattle.std.proofs.lemmas.List.{get_or_past}
use Rattle.std.proofs.lemmas.Option.{slice_get-get_or}
use Rattle.module_code.specs.declared.instr.Status.TheVariants.{Success}
use Rattle.module_code.specs.declared.instr.Instr.TheVariants as instr
use Rattle.module_code.specs.Program.{Program, IsModule, fits}
use Rattle.run_model.specs.State.{Configuration}
use Rattle.run_model.specs.Faults.{fault}
use Rattle.run_model.specs.Steps.{lacks_names, current}
use Rattle.model_laws.specs.Laws.{MayExecute}

-- the instruction at a place fits the module, and so does the return that stands for none
pub current_fits : (p : Program) → IsModule p → (pc : ℕ) → fits p (current p pc) ≡ true
unfolding current
current_fits p m pc = elim (cases_lt pc (length p.code)) [
  | inl lt ↦ (m.placed pc (get_or p.code pc (instr.Ret Success)) (slice_get-get_or p.code pc (instr.Ret Success) lt)).fit
  | inr le ↦ ap (fits p) (get_or_past p.code pc (instr.Ret Success) le)
]

pub may_execute : (p : Program) (r : Configuration) → IsModule p → fault p r (current p r.pc) ≡ None → lacks_names r (current p r.pc) ≡ false → MayExecute p r (current p r.pc)
may_execute p r m none last = record { proper = m; fit = current_fits p m r.pc; faultless = none; names_last = last }
