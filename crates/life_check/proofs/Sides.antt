-- Which instructions stand on one side of `main`.
use Rattle.std.proofs.Common.{◌≡◌, ℕ, ◌+◌, ◌-◌, ◌<◌, ◌≤◌, Bool, true, false, nat_le, length, inl, inr, Option, Some, IfSome, slice_get, ap, sym, ◌∙◌, subst, arith}
use Rattle.std.proofs.lemmas.Bool.{cases_eq, cases_lt, le-leb, lt-leb}
use Rattle.module_code.specs.declared.instr.Instr.{Instr}
use Rattle.module_code.specs.Program.{Program, IsModule, target, goes_on}

-- both stand before `main`, or neither
pub record SameSide (m a b : ℕ) : Type 0 where
  pub before : a < m → b < m
  pub behind : m ≤ a → m ≤ b

pub same_side : (m a b : ℕ) → SameSide m a b → nat_le m a ≡ nat_le m b
same_side m a b h =
    elim (cases_lt a m) [
      | inl less ↦ lt-leb m a less ∙ sym (lt-leb m b (h.before less))
      | inr more ↦ le-leb m a more ∙ sym (le-leb m b (h.behind more))
    ]

pub if_some : {X : Type 0} (o : Option X) (l : X) (P : X → Type 0) → o ≡ Some l → IfSome o P → P l
if_some {X = X} o l P e h = subst (λ (x : Option X). IfSome x P) e h

pub target_side : (p : Program) → IsModule p → (pc l : ℕ) (i : Instr) → slice_get p.code pc ≡ Some i → pc < length p.code → target i ≡ Some l → SameSide p.main pc l
target_side p m pc l i here inside e = record {
  before = λ less. elim (cases_lt pc p.init) [
    | inl first ↦ (let t = if_some (target i) l (λ x. (0 ≤ x) × (x < p.init)) e (m.opening.inside pc i (omega arith) first here).target in let some = m.initial.some in let u = t.1 in omega arith)
    | inr second ↦ (let t = if_some (target i) l (λ x. (p.init ≤ x) × (x < p.main)) e (m.initial.inside pc i second less here).target in t.1)
  ];
  behind = λ more. (if_some (target i) l (λ x. (p.main ≤ x) × (x < length p.code)) e (m.serving.inside pc i more inside here).target).0;
}

pub next_side : (p : Program) → IsModule p → (pc : ℕ) (i : Instr) → slice_get p.code pc ≡ Some i → goes_on i ≡ true → SameSide p.main pc (pc + 1)
next_side p m pc i here on = record {
  before = λ less. elim (cases_eq (pc + 1) p.main) [
    | inl last ↦ (let e : p.main - 1 ≡ pc = omega arith in absurd (not_both (goes_on i) on (m.initial.ends i (ap (slice_get p.code) e ∙ here))))
    | inr other ↦ omega arith
  ];
  behind = λ more. omega arith;
}
  where
    not_both : (b : Bool) → b ≡ true → b ≡ false → ⊥
    not_both true h k = cc
    not_both false h k = cc
