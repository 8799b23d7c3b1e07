-- A look at a parent is one of those that are left.
use Rattle.std.proofs.Common.{◌≡◌, ℕ, suc, ◌+◌, ◌-◌, Bool, true, false, ◌||◌, ap, sym, ◌∙◌, arith, rules}
use Rattle.module_code.specs.declared.instr.PoolRef.{PoolRef}
use Rattle.module_code.specs.Program.{Program}
use Rattle.life_state.specs.PoolOrder.{is_same_place, parent_of, under_within}
use Rattle.life_state.proofs.clears.is_under.Goals as goal

found : (m n : ℕ) (p : Program) (top at : PoolRef) (b : Bool) → m ≡ suc n → is_same_place top at ≡ true → under_within m p top at ≡ b → true ≡ b
unfolding under_within
found m n p top at b e same h =
    let one : under_within (suc n) p top at ≡ true = ap (λ x. x || under_within n p top (parent_of p at)) same in
    sym one ∙ (ap (λ k. under_within k p top at) (sym e) ∙ h)

look : (m n : ℕ) (p : Program) (top at next : PoolRef) (b : Bool) → m ≡ suc n → is_same_place top at ≡ false → next ≡ parent_of p at → under_within m p top at ≡ b → under_within n p top next ≡ b
unfolding under_within
look m n p top at next b e other up h =
    let one : under_within (suc n) p top at ≡ under_within n p top (parent_of p at) = ap (λ x. x || under_within n p top (parent_of p at)) other in
    ap (under_within n p top) up ∙ (sym one ∙ (ap (λ k. under_within k p top at) (sym e) ∙ h))

none_left : (n : ℕ) (p : Program) (top at : PoolRef) (b : Bool) → n ≡ 0 → under_within n p top at ≡ b → false ≡ b
unfolding under_within
none_left n p top at b e h = sym (ap (λ k. under_within k p top at) e) ∙ h

pub loop-preserved : goal.loop-preserved
loop-preserved c =
    let other : is_same_place c.args.top c.loop.at ≡ false = search rules in
    look (10 - c.loop.counter) (10 - (c.loop.counter + 1)) c.args.code.now c.args.top c.loop.at c.parent_of-at.result _ (omega arith) other c.parent_of-at.ensures c.loop.invariant

pub returns-then-is_same_place : goal.returns-then-is_same_place
returns-then-is_same_place c =
    let same : is_same_place c.args.top c.loop.at ≡ true = search rules in
    found (10 - c.loop.counter) (10 - (c.loop.counter + 1)) c.args.code.now c.args.top c.loop.at _ (omega arith) same c.loop.invariant

pub returns : goal.returns
returns c = none_left (10 - c.loop.counter) c.args.code.now c.args.top c.loop.at _ (omega arith) c.loop.invariant
