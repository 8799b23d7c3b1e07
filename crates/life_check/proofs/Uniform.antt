-- The law of the instructions that make a bucket, set a number or change the buffer, or that only jump, by what no state speaks of.
use Rattle.std.proofs.Common.{◌≡◌, ℕ, Bool, true, false, cond, [], ◌∷◌, ◌++◌, Option, Some, None, refl, ap, sym, ◌∙◌, subst}
use Rattle.module_code.specs.declared.instr.Instr.{Instr}
use Rattle.module_code.specs.declared.instr.Value.{Value}
use Rattle.module_code.specs.Program.{Program}
use Rattle.run_model.specs.declared.bucket.BrigadeVar.{BrigadeVar}
use Rattle.run_model.specs.declared.bucket.Cursor.{Cursor}
use Rattle.run_model.specs.declared.bucket.Home.{Home}
use Rattle.run_model.specs.declared.bucket.PoolVar.{PoolVar}
use Rattle.run_model.specs.declared.effect.Condition.TheVariants as condition
use Rattle.run_model.specs.declared.effect.Effect.{Effect}
use Rattle.run_model.specs.declared.effect.Effect.TheVariants as effect
use Rattle.run_model.specs.declared.effect.Branch.{Branch}
use Rattle.run_model.specs.declared.effect.Branch.TheVariants.{ToNext, JumpIf, JumpAlways}
use Rattle.run_model.specs.declared.payload.Payload.{Payload}
use Rattle.run_model.specs.BrigadeLists.{bucket_named}
use Rattle.run_model.specs.BucketSteps.{items_at, got}
use Rattle.run_model.specs.EffectOf.{effect_of, branch_of, instr_with}
use Rattle.run_model.proofs.WithEffects.{faultless_with}
use Rattle.run_model.specs.Faults.{fault, usable_fault, wants}
use Rattle.run_model.specs.Pools.{Pools}
use Rattle.run_model.specs.Sound.{SoundNames, brigade_name}
use Rattle.run_model.specs.State.{Configuration, pool_view, set_number, items_of}
use Rattle.run_model.specs.Steps.{Choice, jumps_if, exit_by, holds, value_of, do_clearbuf, do_leave, do_effect, is_full, number_of}
use Rattle.life_state.specs.Rules.{after, both_with, first_need, led}
use Rattle.life_state.proofs.WithinNeeds.{needs_with}
use Rattle.life_state.specs.States.{Homes, CursorKnown, State}
use Rattle.life_check.proofs.Makers.{made_described}
use Rattle.life_check.proofs.Standing.{cursor_stays, finds_same}
use Rattle.life_check.specs.Meaning.{Differ, Covers, FitsPool, FitsBrigade, FitsCursor, Fits}
use Rattle.life_check.specs.Soundness.{LivesOutside, Lands, LawOf}

-- What a state says of is as it was.
pub record SameSeen (r new : Configuration) : Type 0 where
  pub sent : new.instance.sent ≡ r.instance.sent
  pub vars : new.instance.pools ≡ r.instance.pools
  pub pools : new.shared.pools ≡ r.shared.pools
  pub brigades : new.instance.brigades ≡ r.instance.brigades
  pub loose : new.call.loose ≡ r.call.loose
  pub cursors : new.call.cursors ≡ r.call.cursors

cursor_same : (C : Homes → Home → Type 0) (r new : Configuration) (k : CursorKnown) (v : Cursor) → SameSeen r new → FitsCursor C r k v → FitsCursor C new k v
cursor_same C r new k v same e =
    cursor_stays C C r new v (record {
      loose = λ n at. finds_same C C n r.call.loose new.call.loose (λ h x c. c) (ap (bucket_named n) same.loose);
      within = λ b n at. finds_same C C n (items_at r b) (items_at new b) (λ h x c. c) (ap (λ (g : ℕ → BrigadeVar). bucket_named n (items_of (g b))) same.brigades);
      names = λ b. ap (λ (g : ℕ → BrigadeVar). brigade_name (g b)) same.brigades;
      usable = λ b h. ap (λ (g : ℕ → BrigadeVar). usable_fault (g b)) same.brigades ∙ h;
    }) k e

fits_same : (C : Homes → Home → Type 0) (s : State) (r new : Configuration) → SameSeen r new → Fits C s r → Fits C s new
fits_same C s r new same f = record {
  sent = λ h. f.sent (sym same.sent ∙ h);
  pools = λ q. subst (λ (ps : Pools Payload). FitsPool ps (s.pools q) (new.instance.pools q)) (sym same.pools)
      (subst (λ (g : ℕ → PoolVar). FitsPool r.shared.pools (s.pools q) (g q)) (sym same.vars) (f.pools q));
  brigades = λ b. subst (λ (g : ℕ → BrigadeVar). FitsBrigade C (s.brigades b) (g b)) (sym same.brigades) (f.brigades b);
  cursors = λ c. subst (λ (g : ℕ → Cursor). FitsCursor C new (s.cursors c) (g c)) (sym same.cursors) (cursor_same C r new (s.cursors c) (r.call.cursors c) same (f.cursors c));
  facts = λ c d h. subst (λ (g : ℕ → Cursor). Differ (g c) (g d)) (sym same.cursors) (f.facts c d h);
}

-- The effects that one law serves.

abbrev pub Uniform : Effect → Type 0
Uniform effect.Nothing = Unit {0}
Uniform (effect.Make c from) = Unit {0}
Uniform (effect.Number n number) = Unit {0}
Uniform (effect.Put x) = Unit {0}
Uniform effect.ClearBuffer = Unit {0}
Uniform effect.Leave = Unit {0}
Uniform e = ⊥

-- one more byte in the buffer
abbrev with_byte : Value → Configuration → Configuration
with_byte x r = record r { call = record r.call { buffer = r.call.buffer ++ value_of r x ∷ [] } }

module _ (lives : Home → Type 0) (p : Program) (choice : Choice) (r : Configuration) (s : State) (names : SoundNames r) (outside : LivesOutside r lives)
    (f : Fits (Covers p (pool_view r) lives) s r) where
  -- the state describes what an effect leaves
  abbrev Describes : Effect → Type 0
  Describes e = Fits (Covers p (pool_view (do_effect p choice e r)) lives) (after p e s) (do_effect p choice e r)

  number_described : (n : ℕ) (o : Option ℕ) → Fits (Covers p (pool_view (got n o r)) lives) s (got n o r)
  unfolding set_number
  number_described n None = f
  number_described n (Some v) = fits_same (Covers p (pool_view r) lives) s r (set_number n v r) (record { sent = refl; vars = refl; pools = refl; brigades = refl; loose = refl; cursors = refl }) f

  byte_described : (x : Value) (full : Bool) → Fits (Covers p (pool_view (cond full r (with_byte x r))) lives) s (cond full r (with_byte x r))
  byte_described x true = f
  byte_described x false = fits_same (Covers p (pool_view r) lives) s r (with_byte x r) (record { sent = refl; vars = refl; pools = refl; brigades = refl; loose = refl; cursors = refl }) f

  uniform_described : (e : Effect) → Uniform e → fault p r (instr_with e) ≡ None → first_need s (wants p (instr_with e)) ≡ None → Describes e
  uniform_described effect.Nothing h none met = f
  uniform_described (effect.Make c from) h none met = made_described lives p r s names outside f c from none met
  uniform_described (effect.Number n number) h none met = number_described n (number_of r n number)
  uniform_described (effect.Put x) h none met = byte_described x (is_full r x)
  uniform_described effect.ClearBuffer h none met =
      fits_same (Covers p (pool_view r) lives) s r (do_clearbuf r) (record { sent = refl; vars = refl; pools = refl; brigades = refl; loose = refl; cursors = refl }) f
  uniform_described effect.Leave h none met =
      fits_same (Covers p (pool_view r) lives) s r (do_leave r) (record { sent = refl; vars = refl; pools = refl; brigades = refl; loose = refl; cursors = refl }) f
  uniform_described e h none met = absurd h

-- Where an instruction leads on.

-- Both edges lead on with one state.
pub lands_both : (lives : Home → Type 0) (p : Program) (s t : State) (r : Configuration) (jumps : Bool) → Fits (Covers p (pool_view r) lives) t r → Lands lives p (both_with t) s (jumps_if jumps) r
lands_both lives p s t r true f = f
lands_both lives p s t r false f = f

-- by what no state speaks of
abbrev pub Unseen : Branch → Type 0
Unseen ToNext = Unit {0}
Unseen JumpAlways = Unit {0}
Unseen (JumpIf (condition.NoByte x)) = Unit {0}
Unseen (JumpIf (condition.NoRoom x)) = Unit {0}
Unseen (JumpIf (condition.Less n x)) = Unit {0}
Unseen (JumpIf (condition.Equal n x)) = Unit {0}
Unseen branch = ⊥

unseen_lands : (lives : Home → Type 0) (p : Program) (choice : Choice) (s t : State) (r new : Configuration) (branch : Branch) → Unseen branch
    → Fits (Covers p (pool_view new) lives) t new → Lands lives p (led branch s t) s (exit_by choice branch r) new
unseen_lands lives p choice s t r new ToNext h f = f
unseen_lands lives p choice s t r new JumpAlways h f = f
unseen_lands lives p choice s t r new (JumpIf (condition.NoByte x)) h f = lands_both lives p s t new (holds choice (condition.NoByte x) r) f
unseen_lands lives p choice s t r new (JumpIf (condition.NoRoom x)) h f = lands_both lives p s t new (holds choice (condition.NoRoom x) r) f
unseen_lands lives p choice s t r new (JumpIf (condition.Less n x)) h f = lands_both lives p s t new (holds choice (condition.Less n x) r) f
unseen_lands lives p choice s t r new (JumpIf (condition.Equal n x)) h f = lands_both lives p s t new (holds choice (condition.Equal n x) r) f
unseen_lands lives p choice s t r new branch h f = absurd h

pub law_uniform : {lives : Home → Type 0} (i : Instr) → Uniform (effect_of i) → Unseen (branch_of i) → LawOf lives i
law_uniform {lives = lives} i asks leads p choice r s ready =
    unseen_lands lives p choice s (after p (effect_of i) s) r (do_effect p choice (effect_of i) r) (branch_of i) leads
    (uniform_described lives p choice r s ready.sound.names ready.outside ready.fits (effect_of i) asks (faultless_with p r i ready.may.faultless) (needs_with p i s ready.met))
