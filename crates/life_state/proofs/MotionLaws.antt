-- A cursor that is unset stays so, however the others move.
use Rattle.std.proofs.Common.{◌≡◌, ℕ, ◌≤◌, Bool, true, false, ◌==◌, if◌then◌else◌, List, length, refl, ap, ◌∙◌}
use Rattle.std.proofs.lemmas.List.{get_or_past}
use Rattle.life_state.specs.declared.parts.CursorState.{CursorState}
use Rattle.life_state.specs.declared.parts.CursorState.TheVariants as cursor
use Rattle.life_state.specs.declared.state.State as code
use Rattle.life_state.specs.declared.motions.Motion.{Motion}
use Rattle.life_state.specs.declared.motions.Motion.TheVariants as motion
use Rattle.life_state.specs.States.{Unset, State}
use Rattle.life_state.specs.Facts.{known}
use Rattle.life_state.specs.Rules.{emptied, left, carried}
use Rattle.life_state.specs.Seen.{seen_cursor, seen_cursors, seen, motion_of}

-- beyond the last cursor none is set
pub cursor_past : (xs : List CursorState) (k : ℕ) → length xs ≤ k → seen_cursors xs k ≡ Unset
cursor_past xs k h = ap seen_cursor (get_or_past xs k cursor.Unset h)

same_either : {A : Type 0} (b : Bool) (x : A) → (if b then x else x) ≡ x
same_either true x = refl
same_either false x = refl

pub stays_unset : (m : Motion) (s : State) (k : ℕ) → s.cursors k ≡ Unset → motion_of m s k ≡ Unset
stays_unset (motion.Emptied b) s k unset = ap (emptied b) unset
stays_unset (motion.Left b) s k unset = ap (left b) unset
stays_unset (motion.Carried a b) s k unset = ap (carried a b) unset
stays_unset (motion.SplitOff b c a) s k unset =
    ap (λ x. if k == c then carried a b x else emptied a (emptied b x)) unset ∙ same_either (k == c) Unset
stays_unset (motion.Forgotten c) s k unset =
    ap (λ x. if k == c then x else (if known s c k then x else Unset)) unset
    ∙ (ap (λ x. if k == c then Unset else x) (same_either (known s c k) Unset) ∙ same_either (k == c) Unset)

-- no motion sets a cursor beyond the last
pub motion_past : (m : Motion) (s : code.State) (k : ℕ) → length s.cursors ≤ k → motion_of m (seen s) k ≡ Unset
unfolding seen
motion_past m s k h = stays_unset m (seen s) k (cursor_past s.cursors k h)
