-- An instruction, and the one that stands for all with its effect.
use Rattle.std.proofs.Common.{◌≡◌, ℕ, ◌<◌, true, None, refl, rules}
use Rattle.module_code.specs.declared.instr.Instr.{Instr}
use Rattle.module_code.specs.declared.instr.Instr.TheVariants as instr
use Rattle.module_code.specs.Program.{Program, fits}
use Rattle.run_model.specs.declared.effect.Effect.TheVariants as effect
use Rattle.run_model.specs.declared.effect.MadeFrom.{MadeFrom}
use Rattle.run_model.specs.declared.effect.MadeFrom.TheVariants.{PoolBuffer}
use Rattle.run_model.specs.EffectOf.{effect_of, instr_with}
use Rattle.run_model.specs.Faults.{fault}
use Rattle.run_model.specs.State.{Configuration}

-- operands fit alike
pub fits_with : (p : Program) (i : Instr) → fits p i ≡ true → fits p (instr_with (effect_of i)) ≡ true
fits_with p (instr.Jump l) fit = refl
fits_with p i fit = cc

-- and where there is no fault, there is none
pub faultless_with : (p : Program) (r : Configuration) (i : Instr) → fault p r i ≡ None → fault p r (instr_with (effect_of i)) ≡ None
faultless_with p r (instr.Jump l) none = refl
faultless_with p r i none = cc

-- the cursor at which a bucket is made
pub made_cursor : (p : Program) (c : ℕ) (source : MadeFrom) → fits p (instr_with (effect.Make c source)) ≡ true → c < 9
made_cursor p c (PoolBuffer q) fit = search rules
made_cursor p c source fit = search rules
