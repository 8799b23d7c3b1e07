-- By whether the other cursor is known to be at another bucket.
use Rattle.std.proofs.Common.{◌≡◌, ℕ, Bool, true, false, ap, sym, ◌∙◌}
use Rattle.std.specs.Prelude.{if◌then◌else◌}
use Rattle.std.proofs.lemmas.Bool.{ne_eqb}
use Rattle.life_state.specs.declared.motions.Motion.{Motion}
use Rattle.life_state.specs.States.{State, Unset}
use Rattle.life_state.specs.Facts.{known, forgotten}
use Rattle.life_state.specs.Seen.{seen, motion_of}
use Rattle.life_state.proofs.state.State.motion.Goals as goal

-- what is forgotten of another cursor
others : (s : State) (c k : ℕ) (apart : Bool) → (k ≡ c → ⊥) → apart ≡ known s c k → (if apart then s.cursors k else Unset) ≡ forgotten s c k
others s c k apart other is =
    ap (λ (t : Bool). if t then s.cursors k else Unset) is
    ∙ sym (ap (λ (t : Bool). if t then s.cursors k else (if known s c k then s.cursors k else Unset)) (ne_eqb k c other))

pub returns-then-known : goal.returns-then-known
returns-then-known c =
    let s = seen c.args.self.now in
    c.cursor-cursor.ensures ∙ others s c.in-Forgotten.c c.args.k true c.if-k-c-2.false c.if-known.ensures
    ∙ sym (ap (λ (m : Motion). motion_of m s c.args.k) c.in-Forgotten.is)

pub returns-else-known : goal.returns-else-known
returns-else-known c =
    let s = seen c.args.self.now in
    others s c.in-Forgotten.c c.args.k false c.if-k-c-2.false c.if-known.ensures ∙ sym (ap (λ (m : Motion). motion_of m s c.args.k) c.in-Forgotten.is)
