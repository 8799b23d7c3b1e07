-- Where an instruction of a call leads: it stays in its handler, and only `main` passes.
use Rattle.std.proofs.Common.{◌≡◌, ◌⊎◌, ℕ, ◌+◌, ◌<◌, ◌≤◌, Bool, true, false, ◌==◌, nat_lt, length, Some, is_none, unwrap_or, slice_get, inl, inr, refl, sym, ◌∙◌, ap, subst, arith}
use Rattle.module_code.specs.declared.instr.Instr.{Instr}
use Rattle.module_code.specs.declared.instr.Instr.TheVariants as instr
use Rattle.module_code.specs.declared.instr.Status.{Status}
use Rattle.module_code.specs.declared.instr.Status.TheVariants.{Success, Fail}
use Rattle.module_code.specs.Program.{Program, IsModule, target}
use Rattle.run_model.specs.Pools.{is_empty}
use Rattle.run_model.specs.State.{Configuration, items_of}
use Rattle.run_model.specs.BrigadeLists.{partition_answer}
use Rattle.run_model.specs.Cursors.{at_cursor, bucket_at, is_end, read_cursor}
use Rattle.run_model.specs.BucketSteps.{byte_of, content_at, is_incomplete, is_unread, is_unsplit, items_at, kind_is}
use Rattle.run_model.specs.Steps.{Choice, step, jumps_if, is_null, is_fail, value_of, is_full, current}
use Rattle.model_laws.specs.Laws.{is_return}
use Rattle.model_laws.specs.Handlers.{LiesBetween}
use Rattle.run_model.specs.Chains.{led_to}
use Rattle.run_model.specs.Passing.{after_pass}
use Rattle.model_laws.proofs.Handlers.{LeadsWhere, current_at, code_leads, side}

-- where an instruction leads that does not return
branch : (P : ℕ → Type 0) (i : Instr) (l pc : ℕ) (b : Bool) → P l → P (pc + 1) → unwrap_or (target i) 0 ≡ l → P (led_to (jumps_if b) i pc)
branch P i l pc true jump next is = subst P (sym is) jump
branch P i l pc false jump next is = next

pub led : (P : ℕ → Type 0) (p : Program) (choice : Choice) (i : Instr) (r : Configuration) (pc : ℕ) → is_return i ≡ false → LeadsWhere P pc i → P (led_to (step p choice i r).exit i pc)
led P p choice (instr.BPart b x c l) r pc on placed =
    branch P (instr.BPart b x c l) l pc (is_incomplete (partition_answer r.shared.next (value_of r x) (items_at r b))) placed.jump (placed.next refl) refl
led P p choice (instr.JEmpty b l) r pc on placed = branch P (instr.JEmpty b l) l pc (is_empty (items_of (r.instance.brigades b))) placed.jump (placed.next refl) refl
led P p choice (instr.Pass b l) r pc on placed = branch P (instr.Pass b l) l pc (is_fail choice.answer) placed.jump (placed.next refl) refl
led P p choice (instr.JEnd c l) r pc on placed = branch P (instr.JEnd c l) l pc (is_end (at_cursor r c)) placed.jump (placed.next refl) refl
led P p choice (instr.JKind c k l) r pc on placed = branch P (instr.JKind c k l) l pc (kind_is k (bucket_at (at_cursor r c))) placed.jump (placed.next refl) refl
led P p choice (instr.Split c x l) r pc on placed = branch P (instr.Split c x l) l pc (is_unsplit (value_of r x) (at_cursor r c)) placed.jump (placed.next refl) refl
led P p choice (instr.Read c l) r pc on placed = branch P (instr.Read c l) l pc (is_unread choice.given (at_cursor r c)) placed.jump (placed.next refl) refl
led P p choice (instr.Get n x l) r pc on placed = branch P (instr.Get n x l) l pc (is_none (byte_of (value_of r x) (content_at (at_cursor r read_cursor)))) placed.jump (placed.next refl) refl
led P p choice (instr.Put x l) r pc on placed = branch P (instr.Put x l) l pc (is_full r x) placed.jump (placed.next refl) refl
led P p choice (instr.JLt n x l) r pc on placed = branch P (instr.JLt n x l) l pc (nat_lt (r.instance.numbers n) (value_of r x)) placed.jump (placed.next refl) refl
led P p choice (instr.JEq n x l) r pc on placed = branch P (instr.JEq n x l) l pc (r.instance.numbers n == value_of r x) placed.jump (placed.next refl) refl
led P p choice (instr.JNull v l) r pc on placed = branch P (instr.JNull v l) l pc (is_null r v) placed.jump (placed.next refl) refl
led P p choice (instr.JSent l) r pc on placed = branch P (instr.JSent l) l pc r.instance.sent placed.jump (placed.next refl) refl
led P p choice (instr.Jump l) r pc on placed = placed.jump
led P p choice (instr.Ret s) r pc on placed = absurd (cc)
led P p choice i r pc on placed = placed.next refl

-- A number in the handler of another: inside the module, and on the same side of `init` and `main`.
pub record SameHandler (p : Program) (pc new : ℕ) : Type 0 where
  pub inside : new < length p.code
  pub opening : new < p.init → pc < p.init
  pub serving : p.init ≤ new → p.init ≤ pc
  pub main : p.main ≤ new → p.main ≤ pc

-- What is true of each number in its handler, where it is true of the numbers where the instruction leads.
pub stays_in_handler : (p : Program) (pc new : ℕ) → IsModule p → pc < length p.code → ((P : ℕ → Type 0) → LeadsWhere P pc (current p pc) → P new) → SameHandler p pc new
stays_in_handler p pc new m lt leads = by_side (side p m pc lt) where
  init_low : p.init < p.main
  init_low = m.initial.some

  main_low : p.main < length p.code
  main_low = m.serving.some

  by_side : LiesBetween 0 p.init pc ⊎ (LiesBetween p.init p.main pc ⊎ LiesBetween p.main (length p.code) pc) → SameHandler p pc new
  by_side (inl at) =
      let there : LiesBetween 0 p.init new = leads (LiesBetween 0 p.init) (code_leads p m 0 p.init pc (inl (refl, refl)) at) in
      let below : new < p.init = there.1 in
      record { inside = omega (arith, init_low, main_low); opening = λ h. at.1; serving = λ le. absurd (omega arith); main = λ le. absurd (omega (arith, init_low)) }
  by_side (inr (inl at)) =
      let there : LiesBetween p.init p.main new = leads (LiesBetween p.init p.main) (code_leads p m p.init p.main pc (inr (inl (refl, refl))) at) in
      let low : p.init ≤ new = there.0 in
      let below : new < p.main = there.1 in
      record { inside = omega (arith, main_low); opening = λ h. absurd (omega arith); serving = λ le. at.0; main = λ le. absurd (omega arith) }
  by_side (inr (inr at)) =
      let there : LiesBetween p.main (length p.code) new = leads (LiesBetween p.main (length p.code)) (code_leads p m p.main (length p.code) pc (inr (inr (refl, refl))) at) in
      let low : p.main ≤ new = there.0 in
      let from : p.main ≤ pc = at.0 in
      record { inside = there.1; opening = λ h. absurd (omega (arith, init_low)); serving = λ le. omega (arith, init_low); main = λ le. from }

-- a pass stands in `main`
pub pass_in_main : (p : Program) (pc b l : ℕ) → IsModule p → pc < length p.code → current p pc ≡ instr.Pass b l → p.main ≤ pc
pass_in_main p pc b l m lt is = by_side (side p m pc lt) where
  at : slice_get p.code pc ≡ Some (instr.Pass b l)
  at = current_at p pc lt ∙ ap (λ (i : Instr). Some i) is

  by_side : LiesBetween 0 p.init pc ⊎ (LiesBetween p.init p.main pc ⊎ LiesBetween p.main (length p.code) pc) → p.main ≤ pc
  by_side (inl stands) = absurd (let no : true ≡ false = (m.opening.inside pc (instr.Pass b l) stands.0 stands.1 at).allowed in cc)
  by_side (inr (inl stands)) = absurd (let no : true ≡ false = (m.initial.inside pc (instr.Pass b l) stands.0 stands.1 at).allowed in cc)
  by_side (inr (inr stands)) = stands.0

-- where a call goes on that waited at its pass
pub after_leads : (P : ℕ → Type 0) (s : Status) (i : Instr) (b l pc : ℕ) → i ≡ instr.Pass b l → LeadsWhere P pc i → P (after_pass s i pc)
after_leads P s i b l pc is placed = subst (λ (x : Instr). P (after_pass s x pc)) (sym is) (by_status s (subst (LeadsWhere P pc) is placed)) where
  by_status : (s : Status) → LeadsWhere P pc (instr.Pass b l) → P (after_pass s (instr.Pass b l) pc)
  by_status Success at = at.next refl
  by_status Fail at = at.jump
