-- Effects and conditions of which a state has the variables and cursors: eight pools, nine brigades and nine cursors. Those of a
-- module's instructions are such, and the functions of the code take no other.
use Rattle.std.specs.Prelude.{Bool, true, ◌&&◌, nat_lt}
use Rattle.module_code.specs.declared.instr.VarRef.TheVariants as variable
use Rattle.run_model.specs.declared.effect.Effect.{Effect}
use Rattle.run_model.specs.declared.effect.Effect.TheVariants as effect
use Rattle.run_model.specs.declared.effect.Condition.{Condition}
use Rattle.run_model.specs.declared.effect.Condition.TheVariants as condition

-- only what the effect changes: beyond the last, nothing is known
abbrev pub effect_fits : Effect → Bool
effect_fits (effect.MakePool q) = nat_lt q 8
effect_fits (effect.EmptyPool kind q) = nat_lt q 8
effect_fits (effect.MakeBrigade o) = nat_lt o 9
effect_fits (effect.Clean b) = nat_lt b 9
effect_fits (effect.Concat a b) = nat_lt a 9 && nat_lt b 9
effect_fits (effect.SplitBrigade b c a) = nat_lt a 9
effect_fits (effect.PartBrigade b x c) = nat_lt c 9
effect_fits (effect.Save o b) = nat_lt o 9 && nat_lt b 9
effect_fits (effect.Pass b) = nat_lt b 9
effect_fits (effect.First c b) = nat_lt c 9
effect_fits (effect.Next d c) = nat_lt d 9
effect_fits (effect.Unlink c) = nat_lt c 9
effect_fits (effect.Delete c) = nat_lt c 9
effect_fits (effect.Insert side b c) = nat_lt b 9 && nat_lt c 9
effect_fits (effect.Before c d) = nat_lt c 9
effect_fits (effect.Make c from) = nat_lt c 9
effect_fits (effect.Aside c q) = nat_lt c 9
effect_fits e = true

abbrev pub condition_fits : Condition → Bool
condition_fits (condition.TooShort b x c) = nat_lt c 9
condition_fits (condition.NoBucket b) = nat_lt b 9
condition_fits (condition.AtEnd c) = nat_lt c 9
condition_fits (condition.OfKind c k) = nat_lt c 9
condition_fits (condition.IsNull (variable.Pool q)) = nat_lt q 8
condition_fits (condition.IsNull (variable.Brigade b)) = nat_lt b 9
condition_fits when = true
