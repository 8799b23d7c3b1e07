-- One state is below another where each index passes.
use Rattle.std.proofs.Common.{◌≡◌, ℕ, ◌<◌, ◌≤◌, Bool, true, false, ◌&&◌, ◌||◌, ◌==◌, List, length, slice_index_or, refl, sym, ap, ◌∙◌, ⊎_elim, arith}
use Rattle.std.proofs.lemmas.List.{get_or_default}
use Rattle.std.proofs.lemmas.Bool.{cases_lt, eq-eqb, ne_eqb}
use Rattle.life_state.specs.States.{State}
use Rattle.life_state.specs.Facts.{known}
use Rattle.life_state.specs.Order.{implies, all_below, pool_leq, brigade_leq, cursor_leq, same_variables, pools_leq, brigades_leq, cursors_leq, facts_leq, leq}
use Rattle.life_state.proofs.Below.{all_below_holds}
use Rattle.life_state.proofs.Tests.{split2, and2, split3, and3, or_left, or_right, all_at}

-- what is there is read as the same, whatever the default
pub read_at : {X : Type 0} (xs : List X) (i k : ℕ) (d e : X) → i ≡ k → k < length xs → slice_index_or xs i d ≡ slice_index_or xs k e
read_at xs i k d e same low = ap (λ j. slice_index_or xs j d) same ∙ get_or_default xs k d e low

-- the variables, cursor and facts of one index
abbrev pub below_at : State → State → ℕ → Bool
below_at a b k =
    (k == 8 || pool_leq (a.pools k) (b.pools k)) && brigade_leq (a.brigades k) (b.brigades k) && cursor_leq (a.cursors k) (b.cursors k)
    && all_below 9 (λ d. implies (b.facts k d) (known a k d))

pub each_below : (a b : State) → leq a b ≡ true → (k : ℕ) → k < 9 → below_at a b k ≡ true
unfolding leq
each_below a b h k low =
    let h4 = split3 (same_variables a b && implies a.sent b.sent && pools_leq a b && brigades_leq a b) (cursors_leq a b) (facts_leq a b) h in
    let h3 = split3 (same_variables a b && implies a.sent b.sent) (pools_leq a b) (brigades_leq a b) (h4.0) in
    let pool : (k == 8 || pool_leq (a.pools k) (b.pools k)) ≡ true =
    ⊎_elim (λ (q : k < 8). or_right (k == 8) (pool_leq (a.pools k) (b.pools k)) (all_at 8 k (λ q. pool_leq (a.pools q) (b.pools q)) (h3.1) q))
    (λ (q : 8 ≤ k). or_left (k == 8) (pool_leq (a.pools k) (b.pools k)) (eq-eqb k 8 (omega arith))) (cases_lt k 8) in
    and2 ((k == 8 || pool_leq (a.pools k) (b.pools k)) && brigade_leq (a.brigades k) (b.brigades k) && cursor_leq (a.cursors k) (b.cursors k)) (all_below 9 (λ d. implies (b.facts k d) (known a k d)))
    (and3 (k == 8 || pool_leq (a.pools k) (b.pools k)) (brigade_leq (a.brigades k) (b.brigades k)) (cursor_leq (a.cursors k) (b.cursors k))
    pool
    (all_at 9 k (λ v. brigade_leq (a.brigades v) (b.brigades v)) (h3.2) low)
    (all_at 9 k (λ c. cursor_leq (a.cursors c) (b.cursors c)) (h4.1) low))
    (all_at 9 k (λ c. all_below 9 (λ d. implies (b.facts c d) (known a c d))) (h4.2) low)

false_is : (x : Bool) → (x ≡ true → ⊥) → false ≡ x
false_is true none = absurd (none refl)
false_is false none = refl

pub one_fails : (a b : State) (k : ℕ) → k < 9 → below_at a b k ≡ false → false ≡ leq a b
one_fails a b k low fails = false_is (leq a b) (λ h. let is = each_below a b h k low in cc (is, fails))

and_true : (x y : Bool) → y ≡ true → (x && y) ≡ x
and_true true y h = h
and_true false y h = refl

or_last : (x y : Bool) → x ≡ false → (x || y) ≡ true → y ≡ true
or_last true y n h = cc n
or_last false y n h = h

-- where each index passes, the counts and what was sent decide
pub each_passes : (a b : State) → ((k : ℕ) → k < 9 → below_at a b k ≡ true) → (same_variables a b && implies a.sent b.sent) ≡ leq a b
unfolding leq
each_passes a b each =
    let at : (k : ℕ) → k < 9 → _ = λ k low. split2 ((k == 8 || pool_leq (a.pools k) (b.pools k)) && brigade_leq (a.brigades k) (b.brigades k) && cursor_leq (a.cursors k) (b.cursors k))
    (all_below 9 (λ d. implies (b.facts k d) (known a k d))) (each k low) in
    let three : (k : ℕ) → k < 9 → _ = λ k low. split3 (k == 8 || pool_leq (a.pools k) (b.pools k)) (brigade_leq (a.brigades k) (b.brigades k)) (cursor_leq (a.cursors k) (b.cursors k)) (at k low).0 in
    let pools : pools_leq a b ≡ true = all_below_holds 8 (λ q. pool_leq (a.pools q) (b.pools q))
    (λ q low. or_last (q == 8) (pool_leq (a.pools q) (b.pools q)) (ne_eqb q 8 (omega arith)) (three q (omega arith)).0) in
    let brigades : brigades_leq a b ≡ true = all_below_holds 9 (λ v. brigade_leq (a.brigades v) (b.brigades v)) (λ v low. (three v low).1) in
    let cursors : cursors_leq a b ≡ true = all_below_holds 9 (λ c. cursor_leq (a.cursors c) (b.cursors c)) (λ c low. (three c low).2) in
    let facts : facts_leq a b ≡ true = all_below_holds 9 (λ c. all_below 9 (λ d. implies (b.facts c d) (known a c d))) (λ c low. (at c low).1) in
    let same = same_variables a b && implies a.sent b.sent in
    sym (and_true (same && pools_leq a b && brigades_leq a b && cursors_leq a b) (facts_leq a b) facts
    ∙ (and_true (same && pools_leq a b && brigades_leq a b) (cursors_leq a b) cursors
    ∙ (and_true (same && pools_leq a b) (brigades_leq a b) brigades ∙ and_true same (pools_leq a b) pools)))
