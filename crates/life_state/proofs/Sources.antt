-- A new bucket, by what it is made from: its classes and homes.
use Rattle.std.proofs.Common.{◌≡◌, ℕ, ◌<◌, Bool, true, refl}
use Rattle.module_code.specs.Program.{Program}
use Rattle.run_model.specs.declared.effect.Effect.TheVariants as effect
use Rattle.run_model.specs.declared.effect.MadeFrom.{MadeFrom}
use Rattle.run_model.specs.declared.effect.MadeFrom.TheVariants.{TransientBuffer, CopyAt}
use Rattle.run_model.specs.EffectOf.{instr_with}
use Rattle.run_model.specs.Faults.{OnBucket, wants}
use Rattle.life_state.specs.States.{only_call, Loose, State}
use Rattle.life_state.specs.Order.{classes_leq, homes_leq, cursor_leq}
use Rattle.life_state.specs.Rules.{only_bytes, classes_of, classes_from, homes_at, homes_from, all_others, after_make}
use Rattle.life_state.specs.Form.{FormedCursor}
use Rattle.life_state.specs.FormLaws.{IsFormedIn}
use Rattle.life_state.proofs.FormMoves.{set_cursor_formed}
use Rattle.life_state.proofs.FormNeeds.{on_bucket}
use Rattle.life_state.proofs.FormParts.{no_named, call_named}
use Rattle.life_state.proofs.FormSteps.{loose_formed}
use Rattle.life_state.proofs.PartsOrder.{cursor_same}
use Rattle.life_state.proofs.Tests.{and2}
use Rattle.life_state.proofs.Within.{Within, set_within}
use Rattle.life_state.proofs.WithinNeeds.{Met, there}
use Rattle.life_state.proofs.WithinParts.{classes_within, homes_at_within}

module _ (p : Program) (c : ℕ) where
  -- they are in form
  source_formed : (call : Bool) (s : State) (from : MadeFrom) → IsFormedIn p call s → Met s (wants p (instr_with (effect.Make c from)))
      → FormedCursor s (Loose (classes_from from s) (homes_from from s))
  unfolding Met
  source_formed call s TransientBuffer f h = (refl, call_named s)
  source_formed call s (CopyAt d) f h = loose_formed p call s (s.cursors d) f (f.formed.cursors d) (on_bucket (s.cursors d) (h.0))
  source_formed call s from f h = (refl, no_named s)

  -- and below those of a greater state
  source_within : (s t : State) → Within s t → (from : MadeFrom) → Met t (wants p (instr_with (effect.Make c from)))
      → cursor_leq (Loose (classes_from from s) (homes_from from s)) (Loose (classes_from from t) (homes_from from t)) ≡ true
  unfolding Met
  source_within s t w TransientBuffer h = cursor_same (Loose only_bytes only_call)
  source_within s t w (CopyAt d) h =
      let a = s.cursors d in
      let b = t.cursors d in
      let set = there OnBucket b (h.0) in
      and2 (classes_leq (classes_of a) (classes_of b)) (homes_leq (homes_at s a) (homes_at t b)) (classes_within a b set (w.cursors d)) (homes_at_within s t a b w.brigades set (w.cursors d))
  source_within s t w from h = cursor_same (Loose (classes_from from s) (homes_from from s))

pub made_formed : (p : Program) (call : Bool) (s : State) (c : ℕ) (from : MadeFrom) → IsFormedIn p call s → c < 9 → Met s (wants p (instr_with (effect.Make c from)))
    → IsFormedIn p call (after_make c from s)
made_formed p call s c from f inside h = set_cursor_formed p call s c (Loose (classes_from from s) (homes_from from s)) all_others f inside (source_formed p c call s from f h)

pub made_within : (p : Program) (s t : State) → Within s t → (c : ℕ) (from : MadeFrom) → Met t (wants p (instr_with (effect.Make c from))) → Within (after_make c from s) (after_make c from t)
made_within p s t w c from h =
    set_within s t c (Loose (classes_from from s) (homes_from from s)) (Loose (classes_from from t) (homes_from from t)) all_others all_others w (source_within p c s t w from h) (λ i e. e)
