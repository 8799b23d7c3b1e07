-- Where edges lead, and that states keep their variables.
use Rattle.std.proofs.Common.{◌≡◌, ℕ, Bool, true, false, not, ◌||◌, nat_lt, if◌then◌else◌, Option, Some, None, Ok, refl, ◌∙◌}
use Rattle.module_code.specs.declared.instr.Instr.{Instr}
use Rattle.module_code.specs.declared.instr.Instr.TheVariants as instr
use Rattle.module_code.specs.declared.instr.PoolRef.{PoolRef}
use Rattle.module_code.specs.declared.instr.VarRef.{VarRef}
use Rattle.module_code.specs.declared.instr.VarRef.TheVariants as variable
use Rattle.module_code.specs.Program.{Program, goes_on}
use Rattle.run_model.specs.declared.effect.Condition.{Condition}
use Rattle.run_model.specs.declared.effect.Condition.TheVariants as condition
use Rattle.run_model.specs.declared.effect.ClearKind.TheVariants.{Destroy}
use Rattle.run_model.specs.declared.effect.Effect.{Effect}
use Rattle.run_model.specs.declared.effect.Effect.TheVariants as effect
use Rattle.run_model.specs.declared.effect.Branch.{Branch}
use Rattle.run_model.specs.declared.effect.Branch.TheVariants.{ToNext, JumpIf, JumpAlways, EndCall}
use Rattle.run_model.specs.EffectOf.{effect_of, branch_of}
use Rattle.run_model.specs.declared.fault.FaultKind.{FaultKind}
use Rattle.run_model.specs.Faults.{wants}
use Rattle.life_state.specs.declared.parts.Classes.{Classes}
use Rattle.life_state.specs.States.{State, CursorKnown, Loose, In, End, InOrEnd, home_in, homes_join, with_homes, only_null, never_made, set_pool, set_brigade}
use Rattle.life_state.specs.Facts.{moved, set_cursor}
use Rattle.life_state.specs.Rules.{Edges, some_if, cleared_under, after_next, if_brigade, put_in, before_content, after_before, after_aside, is_empty, edges_jend, of_kind, not_of_kind, some_class}
use Rattle.life_state.specs.Rules.{with_classes, classes_of, told, told_classes, pool_not_null, brigade_not_null, edges_jnull, after, on_condition, led, edges, first_need, need_or, rule}

-- of the same variables
pub record OfSameVariables (s t : State) : Type 0 where
  pub pools : t.pool_count ≡ s.pool_count
  pub brigades : t.brigade_count ≡ s.brigade_count

abbrev pub SomeAlike : State → Option State → Type 0
SomeAlike s None = Unit {0}
SomeAlike s (Some t) = OfSameVariables s t

pub record EdgesAlike (s : State) (e : Edges) : Type 0 where
  pub next : SomeAlike s e.next
  pub jump : SomeAlike s e.jump

some_if_alike : (b : Bool) (s t : State) → OfSameVariables s t → SomeAlike s (some_if b t)
some_if_alike true s t h = h
some_if_alike false s t h = tt

next_alike : (d c : ℕ) (v : CursorKnown) (s : State) → OfSameVariables s (after_next d c v s)
unfolding set_cursor
next_alike d c (In b t) s = record { pools = refl; brigades = refl }
next_alike d c _ s = record { pools = refl; brigades = refl }

if_alike : (b n : ℕ) (t s : State) → OfSameVariables s t → OfSameVariables s (if_brigade b t s)
if_alike b n t s h = elim (nat_lt b 9) as (λ x. OfSameVariables s (if x then t else s)) [ true ↦ h | false ↦ record { pools = refl; brigades = refl } ]

before_alike : (c : ℕ) (v : CursorKnown) (s : State) → OfSameVariables s (after_before c v s)
unfolding moved
before_alike c (In b t) s = if_alike b 9 (put_in before_content b c s) s (record { pools = refl; brigades = refl })
before_alike c _ s = record { pools = refl; brigades = refl }

aside_alike : (c : ℕ) (q : PoolRef) (v : CursorKnown) (s : State) → OfSameVariables s (after_aside c q v s)
unfolding moved
aside_alike c q (Loose t h) s = record { pools = refl; brigades = refl }
aside_alike c q (In b t) s = if_alike b 9 (set_brigade b (with_homes (homes_join (home_in q)) (s.brigades b)) s) s (record { pools = refl; brigades = refl })
aside_alike c q _ s = record { pools = refl; brigades = refl }

jend_alike : (c : ℕ) (v : CursorKnown) (s : State) → EdgesAlike s (edges_jend c v s)
unfolding moved
jend_alike c (End b) s = record { next = tt; jump = record { pools = refl; brigades = refl } }
jend_alike c (InOrEnd b t) s = record { next = record { pools = refl; brigades = refl }; jump = record { pools = refl; brigades = refl } }
jend_alike c _ s = record { next = record { pools = refl; brigades = refl }; jump = tt }

jnull_alike : (v : VarRef) (s : State) → EdgesAlike s (edges_jnull v s)
jnull_alike (variable.Pool q) s = record {
  next = some_if_alike ((s.pools q).gone || (s.pools q).live) s (set_pool q (pool_not_null (s.pools q)) s) (record { pools = refl; brigades = refl });
  jump = some_if_alike (s.pools q).null s (set_pool q only_null s) (record { pools = refl; brigades = refl });
}
jnull_alike (variable.Brigade b) s = record {
  next = some_if_alike ((s.brigades b).gone || (s.brigades b).live) s (set_brigade b (brigade_not_null (s.brigades b)) s) (record { pools = refl; brigades = refl });
  jump = some_if_alike (s.brigades b).null s (set_brigade b never_made s) (record { pools = refl; brigades = refl });
}

told_alike : (c : ℕ) (t : Classes) (s : State) → SomeAlike s (told_classes c t s)
unfolding moved
told_alike c t s = some_if_alike (some_class t) s (told c (with_classes t (s.cursors c)) s) (record { pools = refl; brigades = refl })

-- what an effect makes of a state is of the same variables
after_alike : (p : Program) (e : Effect) (s : State) → OfSameVariables s (after p e s)
unfolding moved set_cursor cleared_under
after_alike p (effect.Next d c) s = next_alike d c (s.cursors c) s
after_alike p (effect.Before c d) s = before_alike c (s.cursors d) s
after_alike p (effect.EmptyPool Destroy q) s = record { pools = refl; brigades = refl }
after_alike p (effect.Aside c q) s = aside_alike c q (s.cursors c) s
after_alike p e s = record { pools = refl; brigades = refl }

-- t is of the variables of s
module _ (s t : State) (h : OfSameVariables s t) where
  some_past : (o : Option State) → SomeAlike t o → SomeAlike s o
  some_past None g = tt
  some_past (Some x) g = record { pools = g.pools ∙ h.pools; brigades = g.brigades ∙ h.brigades }

  past : (e : Edges) → EdgesAlike t e → EdgesAlike s e
  past e g = record { next = some_past e.next g.next; jump = some_past e.jump g.jump }

  condition_alike : (when : Condition) → EdgesAlike s (on_condition when s t)
  unfolding set_cursor
  condition_alike (condition.TooShort b x c) = record { next = h; jump = record { pools = refl; brigades = refl } }
  condition_alike (condition.NoBucket b) =
      past _ (record { next = some_if_alike (not (is_empty (t.brigades b).content)) t t (record { pools = refl; brigades = refl }); jump = record { pools = refl; brigades = refl } })
  condition_alike (condition.AtEnd c) = past _ (jend_alike c (t.cursors c) t)
  condition_alike (condition.OfKind c k) = past _ (record { next = told_alike c (not_of_kind k (classes_of (t.cursors c))) t; jump = told_alike c (of_kind k (classes_of (t.cursors c))) t })
  condition_alike (condition.ReadFailed c) = record { next = h; jump = record { pools = refl; brigades = refl } }
  condition_alike (condition.IsNull v) = past _ (jnull_alike v t)
  condition_alike condition.WasSent = past _ (record { next = record { pools = refl; brigades = refl }; jump = some_if_alike t.sent t t (record { pools = refl; brigades = refl }) })
  condition_alike when = record { next = h; jump = h }

  led_alike : (branch : Branch) → EdgesAlike s (led branch s t)
  led_alike ToNext = record { next = h; jump = tt }
  led_alike (JumpIf when) = condition_alike when
  led_alike JumpAlways = record { next = tt; jump = h }
  led_alike EndCall = record { next = tt; jump = tt }

-- each state that an instruction leads to is of the same variables
pub edges_alike : (p : Program) (i : Instr) (s : State) → EdgesAlike s (edges p i s)
edges_alike p i s = led_alike s (after p (effect_of i) s) (after_alike p (effect_of i) s) (branch_of i)

-- the next instruction is led to by those alone behind which control goes on
pub goes_on_next : (p : Program) (i : Instr) (s t : State) → (edges p i s).next ≡ Some t → goes_on i ≡ true
goes_on_next p (instr.Jump l) s t h = cc
goes_on_next p (instr.Ret a) s t h = cc
goes_on_next p _ s t h = refl

-- what the rule answers is on the edges
pub rule_edges : (p : Program) (i : Instr) (s : State) (e : Edges) → rule p i s ≡ Ok e → e ≡ edges p i s
rule_edges p i s e h = by_need (first_need s (wants p i)) (edges p i s) e h where
  by_need : (n : Option FaultKind) (f e : Edges) → need_or n f ≡ Ok e → e ≡ f
  by_need None f e h = cc
  by_need (Some k) f e h = cc
