-- The effects and conditions of a module's instructions: a state has their variables and cursors.
use Rattle.std.proofs.Common.{◌≡◌, ℕ, ◌<◌, ◌≤◌, Bool, true, ◌==◌, nat_lt, length, refl, inl, inr, arith}
use Rattle.std.proofs.lemmas.Bool.{ltb-true, lt-ltb, eqb-true}
use Rattle.module_code.specs.declared.instr.Instr.{Instr}
use Rattle.module_code.specs.declared.instr.Instr.TheVariants as instr
use Rattle.module_code.specs.declared.instr.VarRef.{VarRef}
use Rattle.module_code.specs.declared.instr.VarRef.TheVariants as variable
use Rattle.module_code.specs.Args.{args}
use Rattle.module_code.specs.Program.{Program, fits, is_brigade, is_variable}
use Rattle.module_code.proofs.FitLaws.{AreFit, fits_parts}
use Rattle.run_model.specs.EffectOf.{effect_of, branch_of, instr_with}
use Rattle.run_model.specs.declared.effect.Effect.{Effect}
use Rattle.run_model.specs.declared.effect.Effect.TheVariants as effect
use Rattle.run_model.specs.declared.effect.MadeFrom.{MadeFrom}
use Rattle.run_model.specs.declared.effect.MadeFrom.TheVariants.{PoolBuffer}
use Rattle.run_model.proofs.WithEffects.{fits_with}
use Rattle.run_model.specs.declared.effect.Branch.{Branch}
use Rattle.run_model.specs.declared.effect.Branch.TheVariants.{JumpIf}
use Rattle.run_model.specs.declared.effect.Condition.TheVariants as condition
use Rattle.life_state.specs.InState.{effect_fits, condition_fits}
use Rattle.life_state.proofs.Tests.{and2, or_either}

abbrev branch_fits : Branch → Bool
branch_fits (JumpIf when) = condition_fits when
branch_fits f = true

cursor_in : (c : ℕ) → nat_lt c 8 ≡ true → nat_lt c 9 ≡ true
cursor_in c h = lt-ltb c 9 (let below : c < 8 = ltb-true c 8 h in omega arith)

module _ (p : Program) (pools : length p.pools ≤ 8) (brigades : length p.brigades ≤ 8) where
  pool_in : (q : ℕ) → nat_lt q (length p.pools) ≡ true → nat_lt q 8 ≡ true
  pool_in q h = lt-ltb q 8 (let below : q < length p.pools = ltb-true q (length p.pools) h in omega (arith, pools))

  own_in : (o : ℕ) → nat_lt o (length p.brigades) ≡ true → nat_lt o 9 ≡ true
  own_in o h = lt-ltb o 9 (let below : o < length p.brigades = ltb-true o (length p.brigades) h in omega (arith, brigades))

  brigade_in : (b : ℕ) → is_brigade p b ≡ true → nat_lt b 9 ≡ true
  brigade_in b h = elim (or_either (nat_lt b (length p.brigades)) (b == 8) h) [ inl own ↦ own_in b own | inr last ↦ lt-ltb b 9 (let is : b ≡ 8 = eqb-true b 8 last in omega (arith, is)) ]

  made_in : (c : ℕ) (from : MadeFrom) → AreFit p (args (instr_with (effect.Make c from))) → nat_lt c 9 ≡ true
  made_in c (PoolBuffer q) a = cursor_in c (a.first.0)
  made_in c from a = cursor_in c (a.first.0)

  variable_in : (v : VarRef) → is_variable p v ≡ true → condition_fits (condition.IsNull v) ≡ true
  variable_in (variable.Pool q) h = pool_in q h
  variable_in (variable.Brigade b) h = own_in b h

  effect_parts : (e : Effect) → AreFit p (args (instr_with e)) → effect_fits e ≡ true
  effect_parts (effect.MakePool q) a = pool_in q (a.first.0)
  effect_parts (effect.EmptyPool kind q) a = pool_in q (a.first.0)
  effect_parts (effect.MakeBrigade o) a = own_in o (a.first.0)
  effect_parts (effect.Clean b) a = brigade_in b (a.first.0)
  effect_parts (effect.Concat b d) a = and2 (nat_lt b 9) (nat_lt d 9) (brigade_in b (a.first.0)) (brigade_in d (a.second.0))
  effect_parts (effect.SplitBrigade b c d) a = brigade_in d (a.third.0)
  effect_parts (effect.PartBrigade b x c) a = cursor_in c (a.third.0)
  effect_parts (effect.Save o b) a = and2 (nat_lt o 9) (nat_lt b 9) (own_in o (a.first.0)) (brigade_in b (a.second.0))
  effect_parts (effect.Pass b) a = brigade_in b (a.first.0)
  effect_parts (effect.First c b) a = cursor_in c (a.first.0)
  effect_parts (effect.Next d c) a = cursor_in d (a.first.0)
  effect_parts (effect.Unlink c) a = cursor_in c (a.first.0)
  effect_parts (effect.Delete c) a = cursor_in c (a.first.0)
  effect_parts (effect.Insert side b c) a = and2 (nat_lt b 9) (nat_lt c 9) (brigade_in b (a.first.0)) (cursor_in c (a.second.0))
  effect_parts (effect.Before c d) a = cursor_in c (a.first.0)
  effect_parts (effect.Make c from) a = made_in c from a
  effect_parts (effect.Aside c q) a = cursor_in c (a.first.0)
  effect_parts e a = refl

  branch_parts : (i : Instr) → AreFit p (args i) → branch_fits (branch_of i) ≡ true
  branch_parts (instr.BPart b x c l) a = cursor_in c (a.third.0)
  branch_parts (instr.JEmpty b l) a = brigade_in b (a.first.0)
  branch_parts (instr.JEnd c l) a = cursor_in c (a.first.0)
  branch_parts (instr.JKind c k l) a = cursor_in c (a.first.0)
  branch_parts (instr.JNull v l) a = variable_in v (a.first.0)
  branch_parts i a = refl

pub effects_fit : (p : Program) (i : Instr) → length p.pools ≤ 8 → length p.brigades ≤ 8 → fits p i ≡ true → effect_fits (effect_of i) ≡ true
effects_fit p i pools brigades h = effect_parts p pools brigades (effect_of i) (fits_parts p (instr_with (effect_of i)) (fits_with p i h))

pub branches_fit : (p : Program) (i : Instr) → length p.pools ≤ 8 → length p.brigades ≤ 8 → fits p i ≡ true → branch_fits (branch_of i) ≡ true
branches_fit p i pools brigades h = branch_parts p pools brigades i (fits_parts p i h)
