-- Two states of the same variables are below their join.
use Rattle.std.proofs.Common.{◌≡◌, ℕ, ◌+◌, ◌<◌, Bool, true, false, ◌&&◌, ◌||◌, not, ◌==◌, if◌then◌else◌, refl, sym, arith}
use Rattle.std.proofs.lemmas.Bool.{leb-false, le-leb, eqb-true, eq-eqb}
use Rattle.module_code.specs.declared.instr.PoolRef.{PoolRef}
use Rattle.module_code.specs.declared.instr.PoolRef.TheVariants as pool
use Rattle.life_state.specs.declared.parts.Contents.{Contents}
use Rattle.life_state.specs.declared.parts.Classes.{Classes}
use Rattle.life_state.specs.States.{Homes, homes_join, BrigadeKnown, CursorKnown, Unset, Loose, In, End, InOrEnd, State}
use Rattle.life_state.specs.Facts.{is_set, is_apart, place_of, known, facts_of}
use Rattle.life_state.specs.Order.{implies, all_below, rank, content_leq, content_join, classes_leq, classes_join, places_leq, homes_leq, brigade_leq, brigade_join, cursor_leq, join_here, cursor_join}
use Rattle.life_state.specs.Order.{is_at_hand, kept_cursor, same_variables, joined_brigades, joined_cursors, join}
use Rattle.life_state.specs.Laws.{Below, JoinIsAbove}
use Rattle.life_state.proofs.Below.{all_below_holds}
use Rattle.life_state.proofs.Tests.{split2, and2, split3, and3, or_left, or_right, implies_left, implies_right}
use Rattle.life_state.proofs.PartsOrder.{IsPick, pool_left, pool_right, as_pool, brigade_by, classes_same, classes_left, classes_right, content_same}
use Rattle.life_state.proofs.OrderLaws.{leq_holds}

homes_above : (pick : Bool → Bool → Bool) → IsPick pick → (a b : Homes)
    → homes_leq (record { call = pick a.call b.call; dead = pick a.dead b.dead; at = λ k. pick (a.at k) (b.at k) }) (homes_join a b) ≡ true
homes_above pick up a b =
    let one : PoolRef → Bool = λ k. pick (a.at k) (b.at k) in
    let joined : PoolRef → Bool = λ k. a.at k || b.at k in
    and3 (implies (pick a.call b.call) (a.call || b.call)) (implies (pick a.dead b.dead) (a.dead || b.dead)) (places_leq one joined) (up a.call b.call) (up a.dead b.dead)
    (and2 (implies (one pool.Req) (joined pool.Req)) (all_below 8 (λ i. implies (one (pool.Own i)) (joined (pool.Own i)))) (up (a.at pool.Req) (b.at pool.Req))
    (all_below_holds 8 (λ i. implies (one (pool.Own i)) (joined (pool.Own i))) (λ i h. up (a.at (pool.Own i)) (b.at (pool.Own i)))))

pub homes_left : (a b : Homes) → homes_leq a (homes_join a b) ≡ true
homes_left = homes_above (λ x y. x) implies_left

pub homes_right : (a b : Homes) → homes_leq b (homes_join a b) ≡ true
homes_right = homes_above (λ x y. y) implies_right

content_left : (a b : Contents) → content_leq a (content_join a b) ≡ true
content_left a b = pick (content_leq a b) refl
  where
    pick : (t : Bool) → content_leq a b ≡ t → content_leq a (if t then b else a) ≡ true
    pick true h = h
    pick false h = content_same a

content_right : (a b : Contents) → content_leq b (content_join a b) ≡ true
content_right a b = pick (content_leq a b) refl
  where
    pick : (t : Bool) → content_leq a b ≡ t → content_leq b (if t then b else a) ≡ true
    pick true h = content_same b
    pick false h = let more : rank b < rank a = leb-false (rank a) (rank b) h in le-leb (rank b) (rank a) (omega arith)

brigade_left : (a b : BrigadeKnown) → brigade_leq a (brigade_join a b) ≡ true
unfolding brigade_join
brigade_left a b =
    brigade_by a (brigade_join a b) (pool_left (as_pool a) (as_pool b)) (and2 _ _ (implies_left a.usable b.usable) (implies_left a.passed b.passed))
    (content_left a.content b.content) (homes_left a.homes b.homes)

brigade_right : (a b : BrigadeKnown) → brigade_leq b (brigade_join a b) ≡ true
unfolding brigade_join
brigade_right a b =
    brigade_by b (brigade_join a b) (pool_right (as_pool a) (as_pool b)) (and2 _ _ (implies_right a.usable b.usable) (implies_right a.passed b.passed))
    (content_right a.content b.content) (homes_right a.homes b.homes)

same_number : (b : ℕ) → (b == b) ≡ true
same_number b = eq-eqb b b refl

at_left : (b : ℕ) (s t : Classes) → (b == b && classes_leq s (classes_join s t)) ≡ true
at_left b s t = and2 (b == b) (classes_leq s (classes_join s t)) (same_number b) (classes_left s t)

at_same : (b : ℕ) (s : Classes) → (b == b && classes_leq s s) ≡ true
at_same b s = and2 (b == b) (classes_leq s s) (same_number b) (classes_same s)

here_left : (x y : CursorKnown) → cursor_leq x (join_here x y) ≡ true
here_left (Loose s h) (Loose t k) = and2 (classes_leq s (classes_join s t)) (homes_leq h (homes_join h k)) (classes_left s t) (homes_left h k)
here_left (In b s) (In c t) = at_left b s t
here_left (In b s) (End c) = at_same b s
here_left (In b s) (InOrEnd c t) = at_left b s t
here_left (End b) (In c t) = same_number b
here_left (End b) (End c) = same_number b
here_left (End b) (InOrEnd c t) = same_number b
here_left (InOrEnd b s) (In c t) = at_left b s t
here_left (InOrEnd b s) (End c) = at_same b s
here_left (InOrEnd b s) (InOrEnd c t) = at_left b s t
here_left x y = refl

turned : (b c : ℕ) → (b + 1 == c + 1) ≡ true → (c == b) ≡ true
turned b c h = let e : b + 1 ≡ c + 1 = eqb-true (b + 1) (c + 1) h in eq-eqb c b (omega arith)

at_right : (b c : ℕ) (s t : Classes) → (b + 1 == c + 1) ≡ true → (c == b && classes_leq t (classes_join s t)) ≡ true
at_right b c s t h = and2 (c == b) (classes_leq t (classes_join s t)) (turned b c h) (classes_right s t)

at_turned : (b c : ℕ) (t : Classes) → (b + 1 == c + 1) ≡ true → (c == b && classes_leq t t) ≡ true
at_turned b c t h = and2 (c == b) (classes_leq t t) (turned b c h) (classes_same t)

here_right : (x y : CursorKnown) → (place_of x == place_of y) ≡ true → cursor_leq y (join_here x y) ≡ true
here_right (Loose s h) (Loose t k) e = and2 (classes_leq t (classes_join s t)) (homes_leq k (homes_join h k)) (classes_right s t) (homes_right h k)
here_right (In b s) (In c t) e = at_right b c s t e
here_right (In b s) (End c) e = turned b c e
here_right (In b s) (InOrEnd c t) e = at_right b c s t e
here_right (End b) (In c t) e = at_turned b c t e
here_right (End b) (End c) e = turned b c e
here_right (End b) (InOrEnd c t) e = at_turned b c t e
here_right (InOrEnd b s) (In c t) e = at_right b c s t e
here_right (InOrEnd b s) (End c) e = turned b c e
here_right (InOrEnd b s) (InOrEnd c t) e = at_right b c s t e
here_right x y e = refl

picked : (x y : CursorKnown) (t : Bool) → (t ≡ true → cursor_leq x y ≡ true) → cursor_leq x (if t then y else Unset) ≡ true
picked x y true h = h refl
picked x y false h = refl

cursor_left : (x y : CursorKnown) → cursor_leq x (cursor_join x y) ≡ true
unfolding cursor_join
cursor_left x y = picked x (join_here x y) (place_of x == place_of y) (λ e. here_left x y)

cursor_right : (x y : CursorKnown) → cursor_leq y (cursor_join x y) ≡ true
unfolding cursor_join
cursor_right x y = picked y (join_here x y) (place_of x == place_of y) (here_right x y)

kept_above : (brigades : ℕ → BrigadeKnown) (x y : CursorKnown) → cursor_leq x y ≡ true → cursor_leq x (kept_cursor brigades y) ≡ true
kept_above brigades x Unset h = refl
kept_above brigades x (Loose s k) h = h
kept_above brigades x (In b s) h = picked x (In b s) (is_at_hand (brigades b)) (λ e. h)
kept_above brigades x (End b) h = picked x (End b) (is_at_hand (brigades b)) (λ e. h)
kept_above brigades x (InOrEnd b s) h = picked x (InOrEnd b s) (is_at_hand (brigades b)) (λ e. h)

-- what is written was kept
written_kept : (keep : ℕ → ℕ → Bool) (cursors : ℕ → CursorKnown) (c d : ℕ) → facts_of keep cursors c d ≡ true → keep c d ≡ true
unfolding facts_of
written_kept keep cursors c d h =
    let h3 = split3 (not (c == d) && keep c d && is_set (cursors c)) (is_set (cursors d)) (not (is_apart (cursors c) (cursors d))) h in
    (split3 (not (c == d)) (keep c d) (is_set (cursors c)) (h3.0)).1

first_below : (a b : State) → same_variables a b ≡ true → Below a (join a b)
unfolding join
first_below a b same = record {
  variables = and2 (a.pool_count == a.pool_count) (a.brigade_count == a.brigade_count) (same_number a.pool_count) (same_number a.brigade_count);
  sent = λ h. or_left a.sent b.sent h;
  pools = λ q below. pool_left (a.pools q) (b.pools q);
  brigades = λ v below. brigade_left (a.brigades v) (b.brigades v);
  cursors = λ c below. kept_above (joined_brigades a b) (a.cursors c) (cursor_join (a.cursors c) (b.cursors c)) (cursor_left (a.cursors c) (b.cursors c));
  facts = λ c d first second h. (split2 (known a c d) (known b c d) (written_kept (λ i j. known a i j && known b i j) (joined_cursors a b) c d h)).0;
}

second_below : (a b : State) → same_variables a b ≡ true → Below b (join a b)
unfolding join
second_below a b same =
    let counts = split2 (a.pool_count == b.pool_count) (a.brigade_count == b.brigade_count) same in
    record {
      variables = and2 (b.pool_count == a.pool_count) (b.brigade_count == a.brigade_count)
          (eq-eqb b.pool_count a.pool_count (sym (eqb-true a.pool_count b.pool_count (counts.0)))) (eq-eqb b.brigade_count a.brigade_count (sym (eqb-true a.brigade_count b.brigade_count (counts.1))));
      sent = λ h. or_right a.sent b.sent h;
      pools = λ q below. pool_right (a.pools q) (b.pools q);
      brigades = λ v below. brigade_right (a.brigades v) (b.brigades v);
      cursors = λ c below. kept_above (joined_brigades a b) (b.cursors c) (cursor_join (a.cursors c) (b.cursors c)) (cursor_right (a.cursors c) (b.cursors c));
      facts = λ c d first second h. (split2 (known a c d) (known b c d) (written_kept (λ i j. known a i j && known b i j) (joined_cursors a b) c d h)).1;
    }

pub join_above : JoinIsAbove
join_above a b same = (leq_holds a (join a b) (first_below a b same), leq_holds b (join a b) (second_below a b same))
