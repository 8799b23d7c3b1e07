-- Where the instructions of a handler lead: within it.
use Rattle.std.proofs.Common.{◌≡◌, ℕ, ◌+◌, ◌-◌, ◌<◌, ◌≤◌, true, false, length, Some, IfSome, slice_get, ◌⊎◌, inl, inr, sym, ◌∙◌, ap, subst, arith}
use Rattle.std.proofs.lemmas.Bool.{cases_lt}
use Rattle.std.proofs.lemmas.Option.{slice_get-get_or}
use Rattle.module_code.specs.declared.part.Part.{Part}
use Rattle.module_code.specs.declared.part.Part.TheVariants as part
use Rattle.module_code.specs.declared.instr.Status.TheVariants.{Success}
use Rattle.module_code.specs.declared.instr.Instr.{Instr}
use Rattle.module_code.specs.declared.instr.Instr.TheVariants as instr
use Rattle.module_code.specs.Program.{Program, IsModule, IsHandler, target, goes_on}
use Rattle.run_model.specs.Steps.{current}
use Rattle.model_laws.specs.Handlers.{IsHandlerCode, LiesBetween}

-- where an instruction can lead, and this is true there
pub record LeadsWhere (P : ℕ → Type 0) (pc : ℕ) (i : Instr) : Type 0 where
  pub jump : IfSome (target i) P
  pub next : goes_on i ≡ true → P (pc + 1)

-- the instruction at a place of the code is one of the code
pub current_at : (p : Program) (pc : ℕ) → pc < length p.code → slice_get p.code pc ≡ Some (current p pc)
unfolding current
current_at p pc lt = slice_get-get_or p.code pc (instr.Ret Success) lt

-- an instruction of a handler leads within it
handler_leads : (p : Program) (q : Part) (from to pc : ℕ) → IsHandler p q from to → to ≤ length p.code → LiesBetween from to pc → LeadsWhere (LiesBetween from to) pc (current p pc)
handler_leads p q from to pc h le stands =
    let at : slice_get p.code pc ≡ Some (current p pc) = current_at p pc (omega (arith, stands.1)) in
    record { jump = (h.inside pc (current p pc) stands.0 stands.1 at).target; next = λ on. by_end on at (cases_lt (pc + 1) to) } where
      by_end : goes_on (current p pc) ≡ true → slice_get p.code pc ≡ Some (current p pc) → (pc + 1 < to) ⊎ (to ≤ pc + 1) → LiesBetween from to (pc + 1)
      by_end on at (inl lt) = (omega (arith, stands.0), lt)
      by_end on at (inr last) =
          let lt : pc < to = stands.1 in
          let is : pc ≡ to - 1 = omega arith in
          let ends : goes_on (current p pc) ≡ false = h.ends (current p pc) (ap (λ (k : ℕ). slice_get p.code k) (sym is) ∙ at) in
          absurd (let no : true ≡ false = sym on ∙ ends in cc)

at_bounds : (p : Program) (q : Part) (a b from to pc : ℕ) → from ≡ a → to ≡ b → IsHandler p q a b → b ≤ length p.code → LiesBetween from to pc → LeadsWhere (LiesBetween from to) pc (current p pc)
at_bounds p q a b from to pc first last h le =
    handler_leads p q from to pc (subst (λ (k : ℕ). IsHandler p q k to) (sym first) (subst (λ (k : ℕ). IsHandler p q a k) (sym last) h)) (omega (arith, last, le))

pub code_leads : (p : Program) → IsModule p → (from to pc : ℕ) → IsHandlerCode p from to → LiesBetween from to pc → LeadsWhere (LiesBetween from to) pc (current p pc)
code_leads p m from to pc (inl e) = at_bounds p part.Open 0 p.init from to pc e.0 e.1 m.opening (omega (arith, m.inits))
code_leads p m from to pc (inr (inl e)) = at_bounds p part.Init p.init p.main from to pc e.0 e.1 m.initial (omega (arith, m.mains))
code_leads p m from to pc (inr (inr e)) = at_bounds p part.Main p.main (length p.code) from to pc e.0 e.1 m.serving (omega arith)

-- where a call that runs stands
pub side : (p : Program) → IsModule p → (pc : ℕ) → pc < length p.code → LiesBetween 0 p.init pc ⊎ (LiesBetween p.init p.main pc ⊎ LiesBetween p.main (length p.code) pc)
side p m pc lt = elim (cases_lt pc p.init) [
  | inl first ↦ inl (omega arith, first)
  | inr le ↦ elim (cases_lt pc p.main) [ inl second ↦ inr (inl (le, second)) | inr third ↦ inr (inr (third, lt)) ]
]
