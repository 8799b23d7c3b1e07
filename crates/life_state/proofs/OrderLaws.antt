-- The order of states, part by part: it is reflexive and transitive.
use Rattle.std.proofs.Common.{◌≡◌, ℕ, ◌<◌, Bool, true, false, ◌&&◌, ◌||◌, not, ◌==◌, refl, ap, sym, ◌∙◌, ⊎_elim}
use Rattle.std.proofs.lemmas.Bool.{eqb-true, eq-eqb}
use Rattle.life_state.specs.States.{State}
use Rattle.life_state.specs.Facts.{is_apart, known}
use Rattle.life_state.specs.Order.{implies, all_below, pool_leq, brigade_leq, cursor_leq, same_variables, pools_leq, brigades_leq, cursors_leq, facts_leq, leq}
use Rattle.life_state.specs.Laws.{Below, LeqSays, LeqHolds, LeqIsReflexive, LeqIsTransitive}
use Rattle.life_state.proofs.Below.{all_below_holds}
use Rattle.life_state.proofs.Tests.{split2, and2, split3, and3, or_either, or_left, or_right, implies_says, implies_by, all_at}
use Rattle.life_state.proofs.PartsOrder.{pool_same, pool_trans, brigade_same, brigade_trans, cursor_same, cursor_trans, apart_below}

pub leq_says : LeqSays
unfolding leq
leq_says a b h =
    let h4 = split3 (same_variables a b && implies a.sent b.sent && pools_leq a b && brigades_leq a b) (cursors_leq a b) (facts_leq a b) h in
    let h3 = split3 (same_variables a b && implies a.sent b.sent) (pools_leq a b) (brigades_leq a b) (h4.0) in
    let h2 = split2 (same_variables a b) (implies a.sent b.sent) (h3.0) in
    record {
      variables = h2.0;
      sent = implies_says a.sent b.sent (h2.1);
      pools = λ q below. all_at 8 q (λ q. pool_leq (a.pools q) (b.pools q)) (h3.1) below;
      brigades = λ v below. all_at 9 v (λ v. brigade_leq (a.brigades v) (b.brigades v)) (h3.2) below;
      cursors = λ c below. all_at 9 c (λ c. cursor_leq (a.cursors c) (b.cursors c)) (h4.1) below;
      facts = λ c d first second. implies_says (b.facts c d) (known a c d)
          (all_at 9 d (λ d. implies (b.facts c d) (known a c d)) (all_at 9 c (λ c. all_below 9 (λ d. implies (b.facts c d) (known a c d))) (h4.2) first) second);
    }

pub leq_holds : LeqHolds
unfolding leq
leq_holds a b h =
    and3 (same_variables a b && implies a.sent b.sent && pools_leq a b && brigades_leq a b) (cursors_leq a b) (facts_leq a b)
    (and3 (same_variables a b && implies a.sent b.sent) (pools_leq a b) (brigades_leq a b)
    (and2 (same_variables a b) (implies a.sent b.sent) h.variables (implies_by a.sent b.sent h.sent))
    (all_below_holds 8 (λ q. pool_leq (a.pools q) (b.pools q)) h.pools)
    (all_below_holds 9 (λ v. brigade_leq (a.brigades v) (b.brigades v)) h.brigades))
    (all_below_holds 9 (λ c. cursor_leq (a.cursors c) (b.cursors c)) h.cursors)
    (all_below_holds 9 (λ c. all_below 9 (λ d. implies (b.facts c d) (known a c d)))
    (λ c first. all_below_holds 9 (λ d. implies (b.facts c d) (known a c d)) (λ d second. implies_by (b.facts c d) (known a c d) (h.facts c d first second))))

-- a written fact of two cursors is known
written_known : (s : State) → ((c : ℕ) → s.facts c c ≡ false) → (c d : ℕ) → s.facts c d ≡ true → known s c d ≡ true
unfolding known
written_known s alone c d h =
    and2 (not (c == d)) (s.facts c d || is_apart (s.cursors c) (s.cursors d)) (two (c == d) refl) (or_left (s.facts c d) (is_apart (s.cursors c) (s.cursors d)) h)
  where
    two : (e : Bool) → (c == d) ≡ e → not (c == d) ≡ true
    two false same = ap not same
    two true same = absurd (clash (sym (alone c) ∙ (ap (s.facts c) (eqb-true c d same) ∙ h)))
      where
        clash : false ≡ true → ⊥
        clash p = cc

pub leq_same : LeqIsReflexive
leq_same s alone =
    leq_holds s s (record {
      variables = and2 (s.pool_count == s.pool_count) (s.brigade_count == s.brigade_count) (eq-eqb s.pool_count s.pool_count refl) (eq-eqb s.brigade_count s.brigade_count refl);
      sent = λ h. h;
      pools = λ q below. pool_same (s.pools q);
      brigades = λ v below. brigade_same (s.brigades v);
      cursors = λ c below. cursor_same (s.cursors c);
      facts = λ c d first second h. written_known s alone c d h;
    })

-- what is known in the greater state is known in the smaller one
pub known_below : (a b : State) → Below a b → (c d : ℕ) → c < 9 → d < 9 → known b c d ≡ true → known a c d ≡ true
unfolding known
known_below a b below c d first second h =
    let h2 = split2 (not (c == d)) (b.facts c d || is_apart (b.cursors c) (b.cursors d)) h in
    ⊎_elim (λ (written : b.facts c d ≡ true). below.facts c d first second written)
    (λ (apart : is_apart (b.cursors c) (b.cursors d) ≡ true).
    and2 (not (c == d)) (a.facts c d || is_apart (a.cursors c) (a.cursors d)) (h2.0)
    (or_right (a.facts c d) (is_apart (a.cursors c) (a.cursors d)) (apart_below (a.cursors c) (a.cursors d) (b.cursors c) (b.cursors d) (below.cursors c first) (below.cursors d second) apart)))
    (or_either (b.facts c d) (is_apart (b.cursors c) (b.cursors d)) (h2.1))

pub leq_trans : LeqIsTransitive
leq_trans a b c p q =
    let ab = leq_says a b p in
    let bc = leq_says b c q in
    let ab2 = split2 (a.pool_count == b.pool_count) (a.brigade_count == b.brigade_count) ab.variables in
    let bc2 = split2 (b.pool_count == c.pool_count) (b.brigade_count == c.brigade_count) bc.variables in
    leq_holds a c (record {
      variables = and2 (a.pool_count == c.pool_count) (a.brigade_count == c.brigade_count)
          (eq-eqb a.pool_count c.pool_count (eqb-true a.pool_count b.pool_count (ab2.0) ∙ eqb-true b.pool_count c.pool_count (bc2.0)))
          (eq-eqb a.brigade_count c.brigade_count (eqb-true a.brigade_count b.brigade_count (ab2.1) ∙ eqb-true b.brigade_count c.brigade_count (bc2.1)));
      sent = λ h. bc.sent (ab.sent h);
      pools = λ k below. pool_trans (a.pools k) (b.pools k) (c.pools k) (ab.pools k below) (bc.pools k below);
      brigades = λ k below. brigade_trans (a.brigades k) (b.brigades k) (c.brigades k) (ab.brigades k below) (bc.brigades k below);
      cursors = λ k below. cursor_trans (a.cursors k) (b.cursors k) (c.cursors k) (ab.cursors k below) (bc.cursors k below);
      facts = λ i j first second h. known_below a b ab i j first second (bc.facts i j first second h);
    })
