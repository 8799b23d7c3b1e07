-- Instructions that leave the pools as they are do the same over any pools.
use Rattle.run_model.specs.declared.bucket.Bucket.{Bucket}
use Rattle.std.proofs.Common.{◌≡◌, ◌∙◌, ℕ, Bool, true, false, cond, Option, Some, None, refl, ap, List, [], ◌∷◌, ◌++◌}
use Rattle.module_code.specs.declared.instr.Instr.{Instr}
use Rattle.module_code.specs.declared.instr.Instr.TheVariants as instr
use Rattle.module_code.specs.declared.instr.Value.{Value}
use Rattle.module_code.specs.Program.{Program}
use Rattle.run_model.specs.declared.bucket.NamedBucket.{NamedBucket}
use Rattle.run_model.specs.declared.event.Exit.{Exit}
use Rattle.run_model.specs.declared.payload.Payload.{Payload}
use Rattle.run_model.specs.Pools.{Pools}
use Rattle.run_model.specs.State.{Configuration, named_at, set_brigade, set_loose, set_number, set_cursor}
use Rattle.run_model.specs.Cursors.{CursorPlace, AtLoose, Within, at_cursor, place_of_cursor, holder_of, variable_of}
use Rattle.run_model.specs.BucketSteps.{do_next, do_unlink, do_delete, put_into, do_before, do_make, do_split, split_there, is_unsplit, do_read, read_within, read_given, got}
use Rattle.run_model.specs.BrigadeLists.{put_before}
use Rattle.model_laws.specs.Laws.{may_change_tree}
use Rattle.model_laws.proofs.NamedPools.{with_buffer}
use Rattle.run_model.specs.declared.effect.Effect.{Effect}
use Rattle.run_model.specs.declared.effect.Effect.TheVariants as effect
use Rattle.run_model.specs.declared.effect.MadeFrom.{MadeFrom}
use Rattle.run_model.specs.declared.effect.NewNumber.{NewNumber}
use Rattle.run_model.specs.EffectOf.{effect_of}
use Rattle.run_model.specs.Steps.{exit_of, do_effect, made_of, number_of, put_at, Choice, Outcome, step, value_of, is_full, do_put}

-- r with its pools changed
abbrev pub amended : (Pools Payload → Pools Payload) → Configuration → Configuration
amended change r = record r { shared = record r.shared { pools = change r.shared.pools } }

abbrev pub amended_outcome : (Pools Payload → Pools Payload) → Outcome → Outcome
amended_outcome change o = record o { state = amended change o.state }

abbrev pub went : Exit → Configuration → Outcome
went e r = record { exit = e; state = r }

module _ (change : Pools Payload → Pools Payload) where
  next_alike : (d : ℕ) (s : CursorPlace) (r : Configuration) → do_next d s (amended change r) ≡ amended change (do_next d s r)
  unfolding set_cursor
  next_alike d (Within b x) r = refl
  next_alike d s r = refl

  unlink_alike : (s : CursorPlace) (r : Configuration) → do_unlink s (amended change r) ≡ amended change (do_unlink s r)
  unfolding set_loose set_brigade
  unlink_alike (Within b x) r = refl
  unlink_alike s r = refl

  delete_alike : (s : CursorPlace) (r : Configuration) → do_delete s (amended change r) ≡ amended change (do_delete s r)
  unfolding set_loose set_brigade
  delete_alike (Within b x) r = refl
  delete_alike s r = refl

  put_alike : (insert : NamedBucket → List NamedBucket → List NamedBucket) (b : ℕ) (s : CursorPlace) (r : Configuration) → put_into insert b s (amended change r) ≡ amended change (put_into insert b s r)
  unfolding set_loose set_brigade
  put_alike insert b (AtLoose x) r = refl
  put_alike insert b s r = refl

  before_alike : (s t : CursorPlace) (r : Configuration) → do_before s t (amended change r) ≡ amended change (do_before s t r)
  before_alike s (Within b y) r = put_alike (put_before y.name) b s r
  before_alike s t r = refl

  split_alike : (n : ℕ) (s : CursorPlace) (r : Configuration) → do_split n s (amended change r) ≡ amended change (do_split n s r)
  unfolding set_brigade
  split_alike n s r = by_test s (is_unsplit n s) where
    by_test : (s : CursorPlace) (t : Bool) → cond t (amended change r) (split_there n s (amended change r)) ≡ amended change (cond t r (split_there n s r))
    by_test s true = refl
    by_test (Within b x) false = refl
    by_test s false = refl

  make_alike : (c : ℕ) (o : Option Bucket) (r : Configuration) → do_make c o (amended change r) ≡ amended change (do_make c o r)
  unfolding set_cursor set_loose
  make_alike c None r = refl
  make_alike c (Some b) r = refl

  within_alike : (b : ℕ) (x : NamedBucket) (given : Option (List ℕ)) (r : Configuration) → read_within b x given (amended change r) ≡ amended change (read_within b x given r)
  unfolding set_cursor set_brigade
  within_alike b x None r = refl
  within_alike b x (Some bytes) r = refl

  read_alike : (given : Option (List ℕ)) (s : CursorPlace) (r : Configuration) → do_read given s (amended change r) ≡ amended change (do_read given s r)
  read_alike given (Within b x) r = within_alike b x (read_given given x.bucket.content) r
  read_alike given s r = refl

  got_alike : (n : ℕ) (byte : Option ℕ) (r : Configuration) → got n byte (amended change r) ≡ amended change (got n byte r)
  unfolding set_number
  got_alike n None r = refl
  got_alike n (Some x) r = refl

  into_alike : (x : Value) (r : Configuration) → do_put x (amended change r) ≡ amended change (do_put x r)
  into_alike x r = by_test (is_full r x) where
    by_test : (t : Bool)
        → cond t (amended change r) (amended change (with_buffer (r.call.buffer ++ value_of r x ∷ []) r)) ≡ amended change (cond t r (with_buffer (r.call.buffer ++ value_of r x ∷ []) r))
    by_test true = refl
    by_test false = refl

  made_alike : (p : Program) (source : MadeFrom) (r : Configuration) → made_of p (amended change r) source ≡ made_of p r source
  unfolding place_of_cursor holder_of variable_of named_at
  made_alike p source r = refl

  number_alike : (n : ℕ) (number : NewNumber) (r : Configuration) → number_of (amended change r) n number ≡ number_of r n number
  unfolding place_of_cursor holder_of variable_of
  number_alike n number r = refl

  exit_alike : (choice : Choice) (i : Instr) (r : Configuration) → exit_of choice i (amended change r) ≡ exit_of choice i r
  unfolding place_of_cursor holder_of variable_of
  exit_alike choice (instr.Jump l) r = refl
  exit_alike choice i r = refl

  run_alike : (p : Program) (choice : Choice) (e : Effect) (r : Configuration) → may_change_tree e ≡ false → do_effect p choice e (amended change r) ≡ amended change (do_effect p choice e r)
  unfolding set_brigade set_loose set_number set_cursor place_of_cursor holder_of variable_of named_at
  run_alike p choice effect.Nothing r quiet = refl
  run_alike p choice (effect.Clean b) r quiet = refl
  run_alike p choice (effect.Concat a b) r quiet = refl
  run_alike p choice (effect.SplitBrigade b c a) r quiet = refl
  run_alike p choice (effect.PartBrigade b x c) r quiet = refl
  run_alike p choice (effect.Pass b) r quiet = refl
  run_alike p choice (effect.First c b) r quiet = refl
  run_alike p choice (effect.Next d c) r quiet = next_alike d (at_cursor r c) r
  run_alike p choice (effect.Unlink c) r quiet = unlink_alike (at_cursor r c) r
  run_alike p choice (effect.Delete c) r quiet = delete_alike (at_cursor r c) r
  run_alike p choice (effect.Insert side b c) r quiet = put_alike (put_at side) b (at_cursor r c) r
  run_alike p choice (effect.Before c d) r quiet = before_alike (at_cursor r c) (at_cursor r d) r
  run_alike p choice (effect.Make c source) r quiet = ap (λ (o : Option Bucket). do_make c o (amended change r)) (made_alike p source r) ∙ make_alike c (made_of p r source) r
  run_alike p choice (effect.Split c x) r quiet = split_alike (value_of r x) (at_cursor r c) r
  run_alike p choice (effect.Read c) r quiet = read_alike choice.given (at_cursor r c) r
  run_alike p choice (effect.Number n number) r quiet = ap (λ (o : Option ℕ). got n o (amended change r)) (number_alike n number r) ∙ got_alike n (number_of r n number) r
  run_alike p choice (effect.Put x) r quiet = into_alike x r
  run_alike p choice effect.ClearBuffer r quiet = refl
  run_alike p choice effect.Return r quiet = refl
  run_alike p choice effect.Leave r quiet = refl
  run_alike p choice e r quiet = absurd (cc)

  pub quiet_alike : (p : Program) (choice : Choice) (i : Instr) (r : Configuration) → may_change_tree (effect_of i) ≡ false
      → step p choice i (amended change r) ≡ amended_outcome change (step p choice i r)
  quiet_alike p choice i r quiet =
      ap (λ (e : Exit). went e (do_effect p choice (effect_of i) (amended change r))) (exit_alike choice i r) ∙ ap (went (exit_of choice i r)) (run_alike p choice (effect_of i) r quiet)
