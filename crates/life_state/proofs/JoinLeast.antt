-- The join of two states in form is below each state in form that is above both.
use Rattle.std.proofs.Common.{◌≡◌, ℕ, ◌<◌, Bool, true, false, ◌&&◌, ◌||◌, not, ◌==◌, if◌then◌else◌, refl, ap, sym, ◌∙◌, ⊎_elim}
use Rattle.std.proofs.lemmas.Bool.{eqb-true, eq-eqb}
use Rattle.module_code.specs.declared.instr.PoolRef.{PoolRef}
use Rattle.module_code.specs.declared.instr.PoolRef.TheVariants as pool
use Rattle.life_state.specs.declared.parts.Contents.{Contents}
use Rattle.life_state.specs.declared.parts.Classes.{Classes}
use Rattle.life_state.specs.declared.parts.PoolState.{PoolState}
use Rattle.life_state.specs.States.{Homes, homes_join, BrigadeKnown, is_live_brigade, is_usable_alone, CursorKnown, Unset, Loose, In, End, InOrEnd, State}
use Rattle.life_state.specs.Facts.{is_set, is_apart, place_of, known, facts_of}
use Rattle.life_state.specs.Order.{implies, all_below, content_leq, content_join, classes_leq, classes_join, pool_leq, pool_join, places_leq, homes_leq, variable_leq, marks_leq, brigade_leq, brigade_join}
use Rattle.life_state.specs.Order.{cursor_leq, join_here, cursor_join, is_at_hand, kept_cursor, joined_brigades, joined_cursors, join}
use Rattle.life_state.specs.Form.{FormedBrigade, AtHand, FormedCursor, IsFormed}
use Rattle.life_state.specs.Laws.{Below, JoinIsLeast}
use Rattle.life_state.proofs.Below.{all_below_holds}
use Rattle.life_state.proofs.Tests.{split2, and2, split3, and3, or_either, or_left, or_right, all_at}
use Rattle.life_state.proofs.PartsOrder.{leq_set, leq_place}
use Rattle.life_state.proofs.OrderLaws.{leq_says, leq_holds}

implies_or : (a b u : Bool) → implies a u ≡ true → implies b u ≡ true → implies (a || b) u ≡ true
implies_or true b u p q = p
implies_or false b u p q = q

implies_off : (a u : Bool) → implies a u ≡ true → u ≡ false → a ≡ false
implies_off true u p e = sym p ∙ e
implies_off false u p e = refl

not_off : (a : Bool) → not a ≡ true → a ≡ false
not_off true h = cc
not_off false h = refl

off_not : (a : Bool) → a ≡ false → not a ≡ true
off_not a h = ap not h

or_off : (a b : Bool) → a ≡ false → b ≡ false → (a || b) ≡ false
or_off a b p q = ap (λ x. x || b) p ∙ q

-- the last of some that are not the others
last_on : (a b : Bool) → (a || b) ≡ true → a ≡ false → b ≡ true
last_on a b h p = sym (ap (λ x. x || b) p) ∙ h

-- three tests of two
three_least : (a b c x y z u v w : Bool) → (implies a u && implies b v && implies c w) ≡ true → (implies x u && implies y v && implies z w) ≡ true
    → (implies (a || x) u && implies (b || y) v && implies (c || z) w) ≡ true
three_least a b c x y z u v w p q =
    let p3 = split3 (implies a u) (implies b v) (implies c w) p in
    let q3 = split3 (implies x u) (implies y v) (implies z w) q in
    and3 (implies (a || x) u) (implies (b || y) v) (implies (c || z) w) (implies_or a x u (p3.0) (q3.0)) (implies_or b y v (p3.1) (q3.1))
    (implies_or c z w (p3.2) (q3.2))

classes_least : (s t u : Classes) → classes_leq s u ≡ true → classes_leq t u ≡ true → classes_leq (classes_join s t) u ≡ true
classes_least s t u = three_least s.bytes s.flush s.eos t.bytes t.flush t.eos u.bytes u.flush u.eos

pool_least : (s t u : PoolState) → pool_leq s u ≡ true → pool_leq t u ≡ true → pool_leq (pool_join s t) u ≡ true
pool_least s t u = three_least s.null s.gone s.live t.null t.gone t.live u.null u.gone u.live

pub homes_least : (a b u : Homes) → homes_leq a u ≡ true → homes_leq b u ≡ true → homes_leq (homes_join a b) u ≡ true
homes_least a b u p q =
    let p3 = split3 (implies a.call u.call) (implies a.dead u.dead) (places_leq a.at u.at) p in
    let q3 = split3 (implies b.call u.call) (implies b.dead u.dead) (places_leq b.at u.at) q in
    let pp = split2 (implies (a.at pool.Req) (u.at pool.Req)) (all_below 8 (λ i. implies (a.at (pool.Own i)) (u.at (pool.Own i)))) (p3.2) in
    let qq = split2 (implies (b.at pool.Req) (u.at pool.Req)) (all_below 8 (λ i. implies (b.at (pool.Own i)) (u.at (pool.Own i)))) (q3.2) in
    let joined : PoolRef → Bool = λ k. a.at k || b.at k in
    and3 (implies (a.call || b.call) u.call) (implies (a.dead || b.dead) u.dead) (places_leq joined u.at) (implies_or a.call b.call u.call (p3.0) (q3.0)) (implies_or a.dead b.dead u.dead (p3.1) (q3.1))
    (and2 (implies (joined pool.Req) (u.at pool.Req)) (all_below 8 (λ i. implies (joined (pool.Own i)) (u.at (pool.Own i)))) (implies_or (a.at pool.Req) (b.at pool.Req) (u.at pool.Req) (pp.0) (qq.0))
    (all_below_holds 8 (λ i. implies (joined (pool.Own i)) (u.at (pool.Own i)))
    (λ k h. implies_or (a.at (pool.Own k)) (b.at (pool.Own k)) (u.at (pool.Own k)) (all_at 8 k (λ i. implies (a.at (pool.Own i)) (u.at (pool.Own i))) (pp.1) h)
    (all_at 8 k (λ i. implies (b.at (pool.Own i)) (u.at (pool.Own i))) (qq.1) h))))

content_least : (a b u : Contents) → content_leq a u ≡ true → content_leq b u ≡ true → content_leq (content_join a b) u ≡ true
content_least a b u p q = pick (content_leq a b)
  where
    pick : (t : Bool) → content_leq (if t then b else a) u ≡ true
    pick true = q
    pick false = p

-- the parts of what the order says of a brigade
pub record BrigadeParts (a u : BrigadeKnown) : Type 0 where
  pub null : implies a.null u.null ≡ true
  pub gone : implies a.gone u.gone ≡ true
  pub live : implies a.live u.live ≡ true
  pub usable : implies a.usable u.usable ≡ true
  pub passed : implies a.passed u.passed ≡ true
  pub content : content_leq a.content u.content ≡ true
  pub homes : homes_leq a.homes u.homes ≡ true

pub parts : (a u : BrigadeKnown) → brigade_leq a u ≡ true → BrigadeParts a u
unfolding brigade_leq
parts a u p =
    let p2 = split2 (variable_leq a u && marks_leq a u && content_leq a.content u.content) (homes_leq a.homes u.homes) p in
    let p3 = split3 (variable_leq a u) (marks_leq a u) (content_leq a.content u.content) (p2.0) in
    let v3 = split3 (implies a.null u.null) (implies a.gone u.gone) (implies a.live u.live) (p3.0) in
    let m2 = split2 (implies a.usable u.usable) (implies a.passed u.passed) (p3.1) in
    record { null = v3.0; gone = v3.1; live = v3.2; usable = m2.0; passed = m2.1; content = p3.2; homes = p2.1 }

brigade_least : (a b u : BrigadeKnown) → BrigadeParts a u → BrigadeParts b u → brigade_leq (brigade_join a b) u ≡ true
unfolding brigade_leq brigade_join
brigade_least a b u p q =
    let joined = brigade_join a b in
    and2 (variable_leq joined u && marks_leq joined u && content_leq (content_join a.content b.content) u.content) (homes_leq (homes_join a.homes b.homes) u.homes)
    (and3 (variable_leq joined u) (marks_leq joined u) (content_leq (content_join a.content b.content) u.content)
    (and3 (implies (a.null || b.null) u.null) (implies (a.gone || b.gone) u.gone) (implies (a.live || b.live) u.live)
    (implies_or a.null b.null u.null p.null q.null) (implies_or a.gone b.gone u.gone p.gone q.gone) (implies_or a.live b.live u.live p.live q.live))
    (and2 (implies (a.usable || b.usable) u.usable) (implies (a.passed || b.passed) u.passed) (implies_or a.usable b.usable u.usable p.usable q.usable)
    (implies_or a.passed b.passed u.passed p.passed q.passed))
    (content_least a.content b.content u.content p.content q.content))
    (homes_least a.homes b.homes u.homes p.homes q.homes)

-- a brigade that is exactly usable above two is so in their join
hand_joined : (a b u : BrigadeKnown) → FormedBrigade a → BrigadeParts a u → BrigadeParts b u → is_at_hand u ≡ true → is_at_hand (brigade_join a b) ≡ true
unfolding brigade_join
hand_joined a b u formed p q h =
    let u2 = split2 (is_live_brigade u) (is_usable_alone u) h in
    let v3 = split3 u.live (not u.null) (not u.gone) (u2.0) in
    let m2 = split2 u.usable (not u.passed) (u2.1) in
    let null = implies_off a.null u.null p.null (not_off u.null (v3.1)) in
    let gone = implies_off a.gone u.gone p.gone (not_off u.gone (v3.2)) in
    let passed = implies_off a.passed u.passed p.passed (not_off u.passed (m2.1)) in
    let live = last_on (a.null || a.gone) a.live formed.some (or_off a.null a.gone null gone) in
    let mark : (a.passed || a.usable) ≡ true = turn a.usable a.passed (sym formed.marks ∙ live) in
    let usable = last_on a.passed a.usable mark passed in
    and2 ((a.live || b.live) && not (a.null || b.null) && not (a.gone || b.gone)) ((a.usable || b.usable) && not (a.passed || b.passed))
    (and3 (a.live || b.live) (not (a.null || b.null)) (not (a.gone || b.gone)) (or_left a.live b.live live)
    (off_not (a.null || b.null) (or_off a.null b.null null (implies_off b.null u.null q.null (not_off u.null (v3.1)))))
    (off_not (a.gone || b.gone) (or_off a.gone b.gone gone (implies_off b.gone u.gone q.gone (not_off u.gone (v3.2))))))
    (and2 (a.usable || b.usable) (not (a.passed || b.passed)) (or_left a.usable b.usable usable)
    (off_not (a.passed || b.passed) (or_off a.passed b.passed passed (implies_off b.passed u.passed q.passed (not_off u.passed (m2.1))))))
  where
    turn : (x y : Bool) → (x || y) ≡ true → (y || x) ≡ true
    turn true true h = refl
    turn true false h = refl
    turn false true h = refl
    turn false false h = cc

at_least : (b c d : ℕ) (s t u : Classes) → (b == d && classes_leq s u) ≡ true → (c == d && classes_leq t u) ≡ true → (b == d && classes_leq (classes_join s t) u) ≡ true
at_least b c d s t u p q =
    let p2 = split2 (b == d) (classes_leq s u) p in
    let q2 = split2 (c == d) (classes_leq t u) q in
    and2 (b == d) (classes_leq (classes_join s t) u) (p2.0) (classes_least s t u (p2.1) (q2.1))

-- the end of b, and a bucket of c
end_least : (b c d : ℕ) (t u : Classes) → (b == d) ≡ true → (c == d && classes_leq t u) ≡ true → (b == d && classes_leq t u) ≡ true
end_least b c d t u p q = and2 (b == d) (classes_leq t u) p ((split2 (c == d) (classes_leq t u) q).1)

here_least : (x y v : CursorKnown) → cursor_leq x v ≡ true → cursor_leq y v ≡ true → cursor_leq (join_here x y) v ≡ true
here_least x y Unset p q = refl
here_least (Loose s h) (Loose t k) (Loose u l) p q =
    let p2 = split2 (classes_leq s u) (homes_leq h l) p in
    let q2 = split2 (classes_leq t u) (homes_leq k l) q in
    and2 (classes_leq (classes_join s t) u) (homes_leq (homes_join h k) l) (classes_least s t u (p2.0) (q2.0)) (homes_least h k l (p2.1) (q2.1))
here_least (In b s) (In c t) (In d u) p q = at_least b c d s t u p q
here_least (End b) (End c) (End d) p q = p
here_least (In b s) (In c t) (InOrEnd d u) p q = at_least b c d s t u p q
here_least (In b s) (End c) (InOrEnd d u) p q = p
here_least (In b s) (InOrEnd c t) (InOrEnd d u) p q = at_least b c d s t u p q
here_least (End b) (In c t) (InOrEnd d u) p q = end_least b c d t u p q
here_least (End b) (End c) (InOrEnd d u) p q = p
here_least (End b) (InOrEnd c t) (InOrEnd d u) p q = end_least b c d t u p q
here_least (InOrEnd b s) (In c t) (InOrEnd d u) p q = at_least b c d s t u p q
here_least (InOrEnd b s) (End c) (InOrEnd d u) p q = p
here_least (InOrEnd b s) (InOrEnd c t) (InOrEnd d u) p q = at_least b c d s t u p q
here_least Unset y (Loose u l) p q = cc
here_least Unset y (In d u) p q = cc
here_least Unset y (End d) p q = cc
here_least Unset y (InOrEnd d u) p q = cc
here_least x Unset v p q = cc
here_least x (Loose t k) v p q = cc
here_least x (In c t) v p q = cc
here_least x (End c) v p q = cc
here_least x (InOrEnd c t) v p q = cc

-- the brigade of a cursor is exactly usable
Hand : (ℕ → BrigadeKnown) → CursorKnown → Type 0
Hand brigades Unset = Unit {0}
Hand brigades (Loose s h) = Unit {0}
Hand brigades (In b s) = is_at_hand (brigades b) ≡ true
Hand brigades (End b) = is_at_hand (brigades b) ≡ true
Hand brigades (InOrEnd b s) = is_at_hand (brigades b) ≡ true

picked : (z v : CursorKnown) (t : Bool) → t ≡ true → cursor_leq z v ≡ true → cursor_leq (if t then z else Unset) v ≡ true
picked z v t e p = ap (λ b. cursor_leq (if b then z else Unset) v) e ∙ p

at_number : (brigades : ℕ → BrigadeKnown) (b d : ℕ) → (b == d) ≡ true → is_at_hand (brigades d) ≡ true → is_at_hand (brigades b) ≡ true
at_number brigades b d e h = ap (λ (n : ℕ). is_at_hand (brigades n)) (eqb-true b d e) ∙ h

number : (b d : ℕ) (s u : Classes) → (b == d && classes_leq s u) ≡ true → (b == d) ≡ true
number b d s u p = (split2 (b == d) (classes_leq s u) p).0

kept_least : (brigades : ℕ → BrigadeKnown) (z v : CursorKnown) → Hand brigades v → cursor_leq z v ≡ true → cursor_leq (kept_cursor brigades z) v ≡ true
unfolding Hand
kept_least brigades z Unset h p = refl
kept_least brigades (Loose s k) (Loose u l) h p = p
kept_least brigades (In b s) (In d u) h p = picked (In b s) (In d u) (is_at_hand (brigades b)) (at_number brigades b d (number b d s u p) h) p
kept_least brigades (In b s) (InOrEnd d u) h p = picked (In b s) (InOrEnd d u) (is_at_hand (brigades b)) (at_number brigades b d (number b d s u p) h) p
kept_least brigades (InOrEnd b s) (InOrEnd d u) h p = picked (InOrEnd b s) (InOrEnd d u) (is_at_hand (brigades b)) (at_number brigades b d (number b d s u p) h) p
kept_least brigades (End b) (End d) h p = picked (End b) (End d) (is_at_hand (brigades b)) (at_number brigades b d p h) p
kept_least brigades (End b) (InOrEnd d u) h p = picked (End b) (InOrEnd d u) (is_at_hand (brigades b)) (at_number brigades b d p h) p
kept_least brigades z (Loose u l) h p = cc
kept_least brigades z (In d u) h p = cc
kept_least brigades z (End d) h p = cc
kept_least brigades z (InOrEnd d u) h p = cc

-- both are at one place
pick : (x y v : CursorKnown) → cursor_leq x v ≡ true → cursor_leq y v ≡ true → is_set v ≡ true → cursor_leq (if place_of x == place_of y then join_here x y else Unset) v ≡ true
pick x y v p q set =
    let same : place_of x ≡ place_of y = leq_place x v p set ∙ sym (leq_place y v q set) in
    picked (join_here x y) v (place_of x == place_of y) (eq-eqb (place_of x) (place_of y) same) (here_least x y v p q)

cursor_join_least : (x y v : CursorKnown) → cursor_leq x v ≡ true → cursor_leq y v ≡ true → cursor_leq (cursor_join x y) v ≡ true
unfolding cursor_join
cursor_join_least x y Unset p q = refl
cursor_join_least x y (Loose u l) p q = pick x y (Loose u l) p q refl
cursor_join_least x y (In d u) p q = pick x y (In d u) p q refl
cursor_join_least x y (End d) p q = pick x y (End d) p q refl
cursor_join_least x y (InOrEnd d u) p q = pick x y (InOrEnd d u) p q refl

module _ (a b u : State) (of_a : IsFormed a) (of_u : IsFormed u) (au : Below a u) (bu : Below b u) where
  hand : (n : ℕ) → AtHand u n → is_at_hand (joined_brigades a b n) ≡ true
  hand n at =
      hand_joined (a.brigades n) (b.brigades n) (u.brigades n) (of_a.brigades n) (parts (a.brigades n) (u.brigades n) (au.brigades n (at.0)))
      (parts (b.brigades n) (u.brigades n) (bu.brigades n (at.0))) (at.1)

  hands : (v : CursorKnown) → FormedCursor u v → Hand (joined_brigades a b) v
  unfolding Hand
  hands Unset f = tt
  hands (Loose s h) f = tt
  hands (In n s) f = hand n (f.1)
  hands (End n) f = hand n f
  hands (InOrEnd n s) f = hand n (f.1)

  cursor_below : (c : ℕ) → c < 9 → cursor_leq (joined_cursors a b c) (u.cursors c) ≡ true
  cursor_below c h =
      kept_least (joined_brigades a b) (cursor_join (a.cursors c) (b.cursors c)) (u.cursors c) (hands (u.cursors c) (of_u.cursors c))
      (cursor_join_least (a.cursors c) (b.cursors c) (u.cursors c) (au.cursors c h) (bu.cursors c h))

  -- what u has written is known in the join
  fact_known : (c d : ℕ) → c < 9 → d < 9 → u.facts c d ≡ true → known (join a b) c d ≡ true
  unfolding known join facts_of
  fact_known c d first second h =
      let w3 = split3 (not (c == d) && is_set (u.cursors c)) (is_set (u.cursors d)) (not (is_apart (u.cursors c) (u.cursors d))) (of_u.facts c d h) in
      let w2 = split2 (not (c == d)) (is_set (u.cursors c)) (w3.0) in
      let x = joined_cursors a b c in
      let y = joined_cursors a b d in
      let set_c = leq_set x (u.cursors c) (cursor_below c first) (w2.1) in
      let set_d = leq_set y (u.cursors d) (cursor_below d second) (w3.1) in
      let kept = and2 (known a c d) (known b c d) (au.facts c d first second h) (bu.facts c d first second h) in
      and2 (not (c == d)) (facts_of (λ i j. known a i j && known b i j) (joined_cursors a b) c d || is_apart x y) (w2.0) (either (is_apart x y) refl set_c set_d kept (w2.0))
    where
      either : (t : Bool) → is_apart (joined_cursors a b c) (joined_cursors a b d) ≡ t → is_set (joined_cursors a b c) ≡ true → is_set (joined_cursors a b d) ≡ true
          → (known a c d && known b c d) ≡ true → not (c == d) ≡ true
          → (facts_of (λ i j. known a i j && known b i j) (joined_cursors a b) c d || is_apart (joined_cursors a b c) (joined_cursors a b d)) ≡ true
      either true e set_c set_d kept ne = or_right (facts_of (λ i j. known a i j && known b i j) (joined_cursors a b) c d) (is_apart (joined_cursors a b c) (joined_cursors a b d)) e
      either false e set_c set_d kept ne =
          or_left (facts_of (λ i j. known a i j && known b i j) (joined_cursors a b) c d) (is_apart (joined_cursors a b c) (joined_cursors a b d))
          (and3 (not (c == d) && (known a c d && known b c d) && is_set (joined_cursors a b c)) (is_set (joined_cursors a b d)) (not (is_apart (joined_cursors a b c) (joined_cursors a b d)))
          (and3 (not (c == d)) (known a c d && known b c d) (is_set (joined_cursors a b c)) ne kept set_c) set_d (ap not e))

  joined_below : Below (join a b) u
  unfolding join
  joined_below = record {
    variables = au.variables;
    sent = λ h. ⊎_elim au.sent bu.sent (or_either a.sent b.sent h);
    pools = λ q below. pool_least (a.pools q) (b.pools q) (u.pools q) (au.pools q below) (bu.pools q below);
    brigades = λ v below. brigade_least (a.brigades v) (b.brigades v) (u.brigades v) (parts (a.brigades v) (u.brigades v) (au.brigades v below))
        (parts (b.brigades v) (u.brigades v) (bu.brigades v below));
    cursors = cursor_below;
    facts = fact_known;
  }

pub join_least : JoinIsLeast
join_least a b u of_a of_u p q = leq_holds (join a b) u (joined_below a b u of_a of_u (leq_says a u p) (leq_says b u q))
