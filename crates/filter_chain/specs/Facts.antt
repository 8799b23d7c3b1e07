-- That no run of a chain answers a fault is a fact: it has one proof at most. (So it may be a ghost field.)
use Rattle.std.specs.Prelude.{◌≡◌, true, Bool, List, [], ◌∷◌, refl}
use Rattle.std.proofs.Common.{◌∙◌, ap}
use Rattle.std.proofs.Math.Path.{fun_ext}
use Rattle.module_code.specs.Program.{Program}
use Rattle.run_model.specs.declared.event.Stepped.TheVariants as stepped
use Rattle.run_model.specs.Worlds.{Answer, Step}
use Rattle.life_check.specs.ChainTheorem.{ChainNeverFaults, IsNoFault, NoFaults}

no_fault_is_a_fact : (a : Answer) → IsProp (IsNoFault a)
no_fault_is_a_fact (Step (stepped.Fault k m pc)) x y = absurd x
no_fault_is_a_fact (Step answer) x y = refl
no_fault_is_a_fact a x y = refl

no_faults_are_a_fact : (answers : List Answer) → IsProp (NoFaults answers)
unfolding NoFaults
no_faults_are_a_fact [] x y = refl
no_faults_are_a_fact (a ∷ answers) x y =
    let first : ◌≡◌ {A = IsNoFault a × NoFaults answers} x (y.0, x.1) = ap (λ (z : IsNoFault a). (z, x.1)) (no_fault_is_a_fact a x.0 y.0) in
    let rest : ◌≡◌ {A = IsNoFault a × NoFaults answers} (y.0, x.1) y = ap (λ (z : NoFaults answers). (y.0, z)) (no_faults_are_a_fact answers x.1 y.1) in
    first ∙ rest

pub checked_is_a_fact : (bare : Bool) (chain : List Program) → IsProp (bare ≡ true → ChainNeverFaults chain)
checked_is_a_fact bare chain f g =
    fun_ext (λ b. fun_ext (λ budget. fun_ext (λ es. fun_ext (λ answers. fun_ext (λ w. fun_ext (λ run. no_faults_are_a_fact answers (f b budget es answers w run) (g b budget es answers w run)))))))
