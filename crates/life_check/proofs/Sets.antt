-- A cursor that is set: the state of set_cursor.
use Rattle.std.proofs.Common.{◌≡◌, ◌≢◌, ℕ, Bool, true, List}
use Rattle.run_model.specs.declared.bucket.Cursor.{Cursor}
use Rattle.run_model.specs.declared.bucket.Home.{Home}
use Rattle.run_model.specs.declared.bucket.NamedBucket.{NamedBucket}
use Rattle.run_model.specs.Indexed.{upd}
use Rattle.run_model.specs.Sound.{SoundNames}
use Rattle.run_model.specs.State.{Configuration}
use Rattle.life_state.specs.States.{Homes, CursorKnown, State}
use Rattle.life_state.specs.Facts.{is_set, set_cursor}
use Rattle.life_check.specs.Meaning.{FitsCursor, Differ, Fits}
use Rattle.life_check.proofs.Standing.{upd_both, set_facts, CursorStays, cursor_stays}

-- c is set to w; there are these loose buckets, and names are given out up to this one
abbrev pub with_cursor : ℕ → Cursor → List NamedBucket → ℕ → Configuration → Configuration
with_cursor c w loose next r = record r {
  call = record r.call { cursors = upd r.call.cursors c w; loose = loose };
  shared = record r.shared { next = next };
}

pub cursor_set : (C : Homes → Home → Type 0) (r : Configuration) (s : State) → SoundNames r → Fits C s r
    → (c : ℕ) (v : CursorKnown) (w : Cursor) (loose : List NamedBucket) (next : ℕ) (other : ℕ → Bool)
    → ((k : ℕ) → CursorStays C C r (with_cursor c w loose next r) (r.call.cursors k))
    → FitsCursor C (with_cursor c w loose next r) v w
    → ((k : ℕ) → k ≢ c → is_set (s.cursors k) ≡ true → other k ≡ true → Differ w (r.call.cursors k))
    → Fits C (set_cursor c v other s) (with_cursor c w loose next r)
unfolding set_cursor
cursor_set C r s names f c v w loose next other stays here away = record {
  sent = f.sent;
  pools = f.pools;
  brigades = f.brigades;
  cursors = upd_both (FitsCursor C (with_cursor c w loose next r)) s.cursors r.call.cursors c v w here
      (λ k differ. cursor_stays C C r (with_cursor c w loose next r) (r.call.cursors k) (stays k) (s.cursors k) (f.cursors k));
  facts = set_facts C r s names f c v w other away;
}
