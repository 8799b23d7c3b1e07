-- A loose bucket's homes change. In a brigade, a cursor stays if the brigade does.
use Rattle.std.proofs.Common.{◌≡◌, ◌⊎◌, ℕ, Bool, true, false, inl, inr, refl, ap, sym, subst, ◌∙◌}
use Rattle.std.specs.Prelude.{if◌then◌else◌}
use Rattle.module_code.specs.Program.{Program}
use Rattle.module_code.specs.declared.instr.PoolRef.{PoolRef}
use Rattle.life_state.specs.declared.parts.Classes.{Classes}
use Rattle.life_state.specs.declared.parts.CursorState.{CursorState}
use Rattle.life_state.specs.declared.parts.CursorState.TheVariants as cursor
use Rattle.life_state.specs.States.{Homes, CursorKnown, Unset, Loose}
use Rattle.life_state.specs.Rules.{lies_under, left_under, cleared_cursor}
use Rattle.life_state.specs.Seen.{seen_cursor, seen_pools}
use Rattle.life_state.proofs.state.State.cleared_cursor.Goals as goal

-- where it stands in the brigade b
placed : (p : Program) (under : PoolRef → Bool) (b : ℕ) (v : CursorState)
    → ((s : Classes) × (v ≡ cursor.In b s)) ⊎ ((v ≡ cursor.End b) ⊎ ((s : Classes) × (v ≡ cursor.InOrEnd b s)))
    → left_under p under b (seen_cursor v) ≡ cleared_cursor p under (seen_cursor v)
placed p under b v at =
    let P : CursorState → Type 0 = λ x. left_under p under b (seen_cursor x) ≡ cleared_cursor p under (seen_cursor x) in
    elim at [ inl x ↦ subst P (sym x.1) refl | inr x ↦ elim x [ inl e ↦ subst P (sym e) refl | inr y ↦ subst P (sym y.1) refl ] ]

-- by whether the brigade goes
left : (p : Program) (under : PoolRef → Bool) (b : ℕ) (v : CursorState) (was : CursorKnown) (gone : Bool)
    → ((s : Classes) × (v ≡ cursor.In b s)) ⊎ ((v ≡ cursor.End b) ⊎ ((s : Classes) × (v ≡ cursor.InOrEnd b s)))
    → seen_cursor v ≡ was → gone ≡ lies_under p under b → (if gone then Unset else seen_cursor v) ≡ cleared_cursor p under was
left p under b v was gone at is g =
    ap (λ (t : Bool). if t then Unset else seen_cursor v) g ∙ placed p under b v at ∙ ap (cleared_cursor p under) is

pub returns-in-Loose : goal.returns-in-Loose
returns-in-Loose c =
    ap (λ (h : Homes). Loose c.in-Loose.classes h) c.dead_where.ensures
    ∙ ap (cleared_cursor c.args.code.now (seen_pools c.args.under.now)) (sym (ap seen_cursor c.in-Loose.is) ∙ c.cursor-cursor.ensures)

pub returns-then-has : goal.returns-then-has
returns-then-has c =
    let under = seen_pools c.args.under.now in
    left c.args.code.now under c.in-In.at c.cursor-cursor.result _ true c.in-In.is c.cursor-cursor.ensures
    (c.if-has.ensures ∙ ap under c.pool_of_brigade.ensures)

pub returns-else-has : goal.returns-else-has
returns-else-has c =
    let under = seen_pools c.args.under.now in
    ap seen_cursor c.in-In.cursor-is
    ∙ left c.args.code.now under c.in-In.at c.cursor-cursor.result _ false c.in-In.is c.cursor-cursor.ensures
    (c.if-has.ensures ∙ ap under c.pool_of_brigade.ensures)
