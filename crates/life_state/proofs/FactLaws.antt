-- No fact is written of a cursor that is unset.
use Rattle.std.proofs.Common.{◌≡◌, ℕ, Bool, false, ◌&&◌, not, ◌==◌, ap, ◌∙◌}
use Rattle.life_state.specs.States.{CursorKnown, Unset}
use Rattle.life_state.specs.Facts.{is_set, is_apart, facts_of}
use Rattle.life_state.proofs.Below.{and_false}

pub none_of_unset : (keep : ℕ → ℕ → Bool) (cursors : ℕ → CursorKnown) (c d : ℕ) → is_set (cursors c) ≡ false → facts_of keep cursors c d ≡ false
unfolding facts_of
none_of_unset keep cursors c d off =
    ap (λ s. not (c == d) && keep c d && s && is_set (cursors d) && not (is_apart (cursors c) (cursors d))) off
    ∙ ap (λ s. s && is_set (cursors d) && not (is_apart (cursors c) (cursors d))) (and_false (not (c == d) && keep c d))

pub none_of_first : (keep : ℕ → ℕ → Bool) (cursors : ℕ → CursorKnown) (c d : ℕ) → cursors c ≡ Unset → facts_of keep cursors c d ≡ false
none_of_first keep cursors c d unset = none_of_unset keep cursors c d (ap is_set unset)

pub none_of_second : (keep : ℕ → ℕ → Bool) (cursors : ℕ → CursorKnown) (c d : ℕ) → cursors d ≡ Unset → facts_of keep cursors c d ≡ false
unfolding facts_of
none_of_second keep cursors c d unset =
    let off : is_set (cursors d) ≡ false = ap is_set unset in
    ap (λ s. not (c == d) && keep c d && is_set (cursors c) && s && not (is_apart (cursors c) (cursors d))) off
    ∙ ap (λ s. s && not (is_apart (cursors c) (cursors d))) (and_false (not (c == d) && keep c d && is_set (cursors c)))
