-- Where one cursor is set, in the state and in the run.
use Rattle.std.proofs.Common.{◌≡◌, ◌≢◌, ℕ, Bool, true, refl}
use Rattle.run_model.specs.declared.bucket.Cursor.{Cursor}
use Rattle.run_model.specs.declared.bucket.Home.{Home}
use Rattle.run_model.specs.Sound.{SoundNames}
use Rattle.run_model.specs.State as model
use Rattle.run_model.specs.State.{Configuration}
use Rattle.life_state.specs.Facts.{is_set, set_cursor}
use Rattle.life_state.specs.States.{Homes, CursorKnown, State}
use Rattle.life_check.specs.Meaning.{Differ, FitsCursor, Fits}
use Rattle.life_check.proofs.Standing.{upd_both, set_facts, CursorStays, finds_same, cursor_stays}

module _ (C : Homes → Home → Type 0) (r : Configuration) where
  -- a cursor that is set changes no place
  pub set_stays : (c : ℕ) (w v : Cursor) → CursorStays C C r (model.set_cursor c w r) v
  unfolding model.set_cursor
  set_stays c w v = record {
    loose = λ n e. finds_same C C n _ _ (λ h x y. y) refl;
    within = λ b n e. finds_same C C n _ _ (λ h x y. y) refl;
    names = λ b. refl;
    usable = λ b u. u;
  }

  pub set_fits : (s : State) (c : ℕ) (v : CursorKnown) (w : Cursor) (new : ℕ → Bool) → SoundNames r → Fits C s r → FitsCursor C r v w
      → ((k : ℕ) → k ≢ c → is_set (s.cursors k) ≡ true → new k ≡ true → Differ w (r.call.cursors k)) → Fits C (set_cursor c v new s) (model.set_cursor c w r)
  unfolding model.set_cursor set_cursor
  set_fits s c v w new names f here away = record {
    sent = f.sent;
    pools = f.pools;
    brigades = f.brigades;
    cursors = upd_both (λ k x. FitsCursor C (model.set_cursor c w r) k x) s.cursors r.call.cursors c v w (stays v w here) (λ k differ. stays (s.cursors k) (r.call.cursors k) (f.cursors k));
    facts = set_facts C r s names f c v w new away;
  } where
    stays : (k : CursorKnown) (x : Cursor) → FitsCursor C r k x → FitsCursor C (model.set_cursor c w r) k x
    stays k x g = cursor_stays C C r (model.set_cursor c w r) x (set_stays c w x) k g
