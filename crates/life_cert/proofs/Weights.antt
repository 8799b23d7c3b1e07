-- How much a state says may be: its weight rises with the order, and is bounded.
use Rattle.std.proofs.Common.{◌≡◌, ℕ, ◌+◌, ◌<◌, ◌≤◌, Bool, true, false, ◌&&◌, ◌||◌, not, ◌==◌, nat_le, inl, inr, refl, ap, sym, subst, ⊎_elim, arith, ne_eqb}
use Rattle.std.proofs.lemmas.Bool.{cases_eq, le-leb, leb-true, eq-eqb, eqb-true}
use Rattle.module_code.specs.declared.instr.PoolRef.TheVariants as pool
use Rattle.life_state.specs.declared.parts.Contents.{Contents}
use Rattle.life_state.specs.declared.parts.Contents.TheVariants.{Empty, Flushes, NoEos, NoLateData, Any}
use Rattle.life_state.specs.declared.parts.Classes.{Classes}
use Rattle.life_state.specs.declared.parts.PoolState.{PoolState}
use Rattle.life_state.specs.States.{Homes, BrigadeKnown, CursorKnown, Unset, Loose, In, End, InOrEnd, State}
use Rattle.life_state.specs.Facts.{is_apart, known}
use Rattle.life_state.specs.Order.{implies, all_below, rank, content_leq, classes_leq, pool_leq, homes_leq, variable_leq, marks_leq, brigade_leq, cursor_leq, same_variables, leq, join}
use Rattle.life_state.specs.Laws.{Below}
use Rattle.life_state.proofs.Below.{all_below_holds}
use Rattle.life_state.proofs.Tests.{split2, and2, split3, and3, or_left, implies_by, all_at}
use Rattle.life_state.proofs.OrderLaws.{leq_says, leq_holds, leq_trans, known_below}
use Rattle.life_state.proofs.JoinAbove.{join_above}
use Rattle.life_cert.proofs.Rises.{Climbs, Grows, Stays, both, map_back, raised, bit, bit_rises, bit_small, sum_to, sum_rises, sum_small}

abbrev class_weight : Classes → ℕ
class_weight t = bit t.bytes + bit t.flush + bit t.eos

abbrev home_weight : Homes → ℕ
home_weight h = bit h.call + bit h.dead + (bit (h.at pool.Req) + sum_to 8 (λ i. bit (h.at (pool.Own i))))

abbrev pool_weight : PoolState → ℕ
pool_weight v = bit v.null + bit v.gone + bit v.live

abbrev brigade_weight : BrigadeKnown → ℕ
brigade_weight v = bit v.null + bit v.gone + bit v.live + (bit v.usable + bit v.passed) + rank v.content + home_weight v.homes

abbrev cursor_weight : CursorKnown → ℕ
cursor_weight Unset = 20
cursor_weight (Loose s h) = class_weight s + home_weight h
cursor_weight (In b s) = class_weight s
cursor_weight (End b) = 0
cursor_weight (InOrEnd b s) = 4 + class_weight s

-- three bits that rise rise together
bits_rise : (a b c x y z : Bool) → (implies a x && implies b y && implies c z) ≡ true
    → Climbs (bit a + bit b + bit c) (bit x + bit y + bit z) ((implies x a && implies y b && implies z c) ≡ true)
bits_rise a b c x y z h =
    let h3 = split3 (implies a x) (implies b y) (implies c z) h in
    map_back (λ r. and3 (implies x a) (implies y b) (implies z c) r.0.0 r.0.1 r.1)
    (both (both (bit_rises a x (h3.0)) (bit_rises b y (h3.1))) (bit_rises c z (h3.2)))

classes_rise : (a b : Classes) → classes_leq a b ≡ true → Climbs (class_weight a) (class_weight b) (classes_leq b a ≡ true)
classes_rise a b = bits_rise a.bytes a.flush a.eos b.bytes b.flush b.eos

classes_small : (t : Classes) → class_weight t ≤ 3
classes_small t = let a = bit_small t.bytes in let b = bit_small t.flush in let c = bit_small t.eos in omega arith

pool_rises : (a b : PoolState) → pool_leq a b ≡ true → Climbs (pool_weight a) (pool_weight b) (pool_leq b a ≡ true)
pool_rises a b = bits_rise a.null a.gone a.live b.null b.gone b.live

pool_small : (v : PoolState) → pool_weight v ≤ 3
pool_small v = let a = bit_small v.null in let b = bit_small v.gone in let c = bit_small v.live in omega arith

homes_rise : (a b : Homes) → homes_leq a b ≡ true → Climbs (home_weight a) (home_weight b) (homes_leq b a ≡ true)
homes_rise a b h =
    let own : ℕ → Bool = λ i. implies (a.at (pool.Own i)) (b.at (pool.Own i)) in
    let back : ℕ → Bool = λ i. implies (b.at (pool.Own i)) (a.at (pool.Own i)) in
    let h3 = split3 (implies a.call b.call) (implies a.dead b.dead) (implies (a.at pool.Req) (b.at pool.Req) && all_below 8 own) h in
    let places = split2 (implies (a.at pool.Req) (b.at pool.Req)) (all_below 8 own) (h3.2) in
    map_back (λ c. and3 (implies b.call a.call) (implies b.dead a.dead) (implies (b.at pool.Req) (a.at pool.Req) && all_below 8 back) (c.0.0) (c.0.1)
    (and2 (implies (b.at pool.Req) (a.at pool.Req)) (all_below 8 back) (c.1.0) (all_below_holds 8 back (c.1.1))))
    (both (both (bit_rises a.call b.call (h3.0)) (bit_rises a.dead b.dead (h3.1)))
    (both (bit_rises (a.at pool.Req) (b.at pool.Req) (places.0))
    (sum_rises 8 (λ i. bit (a.at (pool.Own i))) (λ i. bit (b.at (pool.Own i))) (λ i. back i ≡ true) (λ i below. bit_rises (a.at (pool.Own i)) (b.at (pool.Own i)) (all_at 8 i own (places.1) below)))))

homes_small : (h : Homes) → home_weight h ≤ 11
homes_small h =
    let a = bit_small h.call in
    let b = bit_small h.dead in
    let c = bit_small (h.at pool.Req) in
    let own = sum_small 8 1 (λ i. bit (h.at (pool.Own i))) (λ i below. bit_small (h.at (pool.Own i))) in
    omega arith

content_rises : (a b : Contents) → content_leq a b ≡ true → Climbs (rank a) (rank b) (content_leq b a ≡ true)
content_rises a b h = by_order (rank a) (rank b) (leb-true (rank a) (rank b) h)
  where
    by_order : (m n : ℕ) → m ≤ n → Climbs m n (nat_le n m ≡ true)
    by_order m n h = elim (cases_eq m n) [ inl e ↦ Stays e (le-leb n m (omega arith)) | inr ne ↦ Grows (omega arith) ]

pub content_small : (a : Contents) → rank a ≤ 4
content_small Empty = omega arith
content_small Flushes = omega arith
content_small NoEos = omega arith
content_small NoLateData = omega arith
content_small Any = omega arith

brigade_rises : (a b : BrigadeKnown) → brigade_leq a b ≡ true → Climbs (brigade_weight a) (brigade_weight b) (brigade_leq b a ≡ true)
unfolding brigade_leq
brigade_rises a b h =
    let outer = split2 (variable_leq a b && marks_leq a b && content_leq a.content b.content) (homes_leq a.homes b.homes) h in
    let inner = split3 (variable_leq a b) (marks_leq a b) (content_leq a.content b.content) (outer.0) in
    let v = split3 (implies a.null b.null) (implies a.gone b.gone) (implies a.live b.live) (inner.0) in
    let m = split2 (implies a.usable b.usable) (implies a.passed b.passed) (inner.1) in
    map_back
    (λ c. and2 (variable_leq b a && marks_leq b a && content_leq b.content a.content) (homes_leq b.homes a.homes)
    (and3 (variable_leq b a) (marks_leq b a) (content_leq b.content a.content)
    (and3 (implies b.null a.null) (implies b.gone a.gone) (implies b.live a.live) (c.0.0.0.0.0) (c.0.0.0.0.1) (c.0.0.0.1))
    (and2 (implies b.usable a.usable) (implies b.passed a.passed) (c.0.0.1.0) (c.0.0.1.1))
    (c.0.1))
    (c.1))
    (both
    (both
    (both (both (both (bit_rises a.null b.null (v.0)) (bit_rises a.gone b.gone (v.1))) (bit_rises a.live b.live (v.2)))
    (both (bit_rises a.usable b.usable (m.0)) (bit_rises a.passed b.passed (m.1))))
    (content_rises a.content b.content (inner.2)))
    (homes_rise a.homes b.homes (outer.1)))

brigade_small : (v : BrigadeKnown) → brigade_weight v ≤ 20
brigade_small v =
    let a = bit_small v.null in
    let b = bit_small v.gone in
    let c = bit_small v.live in
    let d = bit_small v.usable in
    let e = bit_small v.passed in
    let f = content_small v.content in
    let g = homes_small v.homes in
    omega arith

cursor_small : (c : CursorKnown) → cursor_weight c ≤ 20
cursor_small Unset = omega arith
cursor_small (Loose s h) = let a = classes_small s in let b = homes_small h in omega arith
cursor_small (In b s) = let a = classes_small s in omega arith
cursor_small (End b) = omega arith
cursor_small (InOrEnd b s) = let a = classes_small s in omega arith

turned : (b c : ℕ) → (b == c) ≡ true → (c == b) ≡ true
turned b c h = eq-eqb c b (sym (eqb-true b c h))

-- at one brigade
here_rises : (b c : ℕ) (s t : Classes) → (b == c && classes_leq s t) ≡ true → Climbs (class_weight s) (class_weight t) ((c == b && classes_leq t s) ≡ true)
here_rises b c s t h =
    let h2 = split2 (b == c) (classes_leq s t) h in
    map_back (λ back. and2 (c == b) (classes_leq t s) (turned b c (h2.0)) back) (classes_rise s t (h2.1))

cursor_rises : (x y : CursorKnown) → cursor_leq x y ≡ true → Climbs (cursor_weight x) (cursor_weight y) (cursor_leq y x ≡ true)
cursor_rises Unset Unset h = Stays refl refl
cursor_rises (Loose s k) Unset h = let a = classes_small s in let b = homes_small k in Grows (omega arith)
cursor_rises (In b s) Unset h = let a = classes_small s in Grows (omega arith)
cursor_rises (End b) Unset h = Grows (omega arith)
cursor_rises (InOrEnd b s) Unset h = let a = classes_small s in Grows (omega arith)
cursor_rises (Loose s k) (Loose t l) h =
    let h2 = split2 (classes_leq s t) (homes_leq k l) h in
    map_back (λ c. and2 (classes_leq t s) (homes_leq l k) (c.0) (c.1)) (both (classes_rise s t (h2.0)) (homes_rise k l (h2.1)))
cursor_rises (In b s) (In c t) h = here_rises b c s t h
cursor_rises (In b s) (InOrEnd c t) h = let a = classes_small s in Grows (omega arith)
cursor_rises (End b) (End c) h = Stays refl (turned b c h)
cursor_rises (End b) (InOrEnd c t) h = Grows (omega arith)
cursor_rises (InOrEnd b s) (InOrEnd c t) h = raised 4 (here_rises b c s t h)
cursor_rises Unset (Loose t l) h = cc
cursor_rises Unset (In c t) h = cc
cursor_rises Unset (End c) h = cc
cursor_rises Unset (InOrEnd c t) h = cc
cursor_rises (Loose s k) (In c t) h = cc
cursor_rises (Loose s k) (End c) h = cc
cursor_rises (Loose s k) (InOrEnd c t) h = cc
cursor_rises (In b s) (Loose t l) h = cc
cursor_rises (In b s) (End c) h = cc
cursor_rises (End b) (Loose t l) h = cc
cursor_rises (End b) (In c t) h = cc
cursor_rises (InOrEnd b s) (Loose t l) h = cc
cursor_rises (InOrEnd b s) (In c t) h = cc
cursor_rises (InOrEnd b s) (End c) h = cc

-- which cursors are not known to be at two buckets, and of which it is not written that they differ from themselves
abbrev unknown_weight : State → ℕ
unknown_weight s = sum_to 9 (λ c. sum_to 9 (λ d. bit (not (known s c d))))

abbrev self_weight : State → ℕ
self_weight s = sum_to 9 (λ c. bit (not (s.facts c c)))

abbrev parts_weight : State → ℕ
parts_weight s = bit s.sent + sum_to 8 (λ q. pool_weight (s.pools q)) + sum_to 9 (λ v. brigade_weight (s.brigades v)) + sum_to 9 (λ c. cursor_weight (s.cursors c))

unfoldable pub weight : State → ℕ
weight s = parts_weight s + (unknown_weight s + self_weight s)

not_implies : (a b : Bool) → (b ≡ true → a ≡ true) → implies (not a) (not b) ≡ true
not_implies true b f = refl
not_implies false true f = let e = f refl in cc
not_implies false false f = refl

not_back : (a b : Bool) → implies (not b) (not a) ≡ true → a ≡ true → b ≡ true
not_back true true h e = refl
not_back true false h e = cc
not_back false b h e = cc

self_known : (s : State) (c : ℕ) → known s c c ≡ true → ⊥
unfolding known
self_known s c h =
    let two = split2 (not (c == c)) (s.facts c c || is_apart (s.cursors c) (s.cursors c)) h in
    no_self (c == c) (eq-eqb c c refl) (two.0)
  where
    no_self : (b : Bool) → b ≡ true → not b ≡ true → ⊥
    no_self true e h = cc
    no_self false e h = cc

written_known : (s : State) (c d : ℕ) → (c ≡ d → ⊥) → s.facts c d ≡ true → known s c d ≡ true
unfolding known
written_known s c d ne h =
    and2 (not (c == d)) (s.facts c d || is_apart (s.cursors c) (s.cursors d)) (ap not (ne_eqb c d ne)) (or_left (s.facts c d) (is_apart (s.cursors c) (s.cursors d)) h)

unknown_rises : (a b : State) → Below a b → Climbs (unknown_weight a) (unknown_weight b) ((c : ℕ) → c < 9 → (d : ℕ) → d < 9 → implies (not (known b c d)) (not (known a c d)) ≡ true)
unknown_rises a b h =
    sum_rises 9 (λ c. sum_to 9 (λ d. bit (not (known a c d)))) (λ c. sum_to 9 (λ d. bit (not (known b c d)))) (λ c. (d : ℕ) → d < 9 → implies (not (known b c d)) (not (known a c d)) ≡ true)
    (λ c first. sum_rises 9 (λ d. bit (not (known a c d))) (λ d. bit (not (known b c d))) (λ d. implies (not (known b c d)) (not (known a c d)) ≡ true)
    (λ d second. bit_rises (not (known a c d)) (not (known b c d)) (not_implies (known a c d) (known b c d) (known_below a b h c d first second))))

self_rises : (a b : State) → Below a b → Climbs (self_weight a) (self_weight b) ((c : ℕ) → c < 9 → implies (not (b.facts c c)) (not (a.facts c c)) ≡ true)
self_rises a b h =
    sum_rises 9 (λ c. bit (not (a.facts c c))) (λ c. bit (not (b.facts c c))) (λ c. implies (not (b.facts c c)) (not (a.facts c c)) ≡ true)
    (λ c below. bit_rises (not (a.facts c c)) (not (b.facts c c)) (not_implies (a.facts c c) (b.facts c c) (λ e. absurd (self_known a c (h.facts c c below below e)))))

sent_back : (x y : Bool) → implies x y ≡ true → x ≡ true → y ≡ true
sent_back true y h e = h
sent_back false y h e = cc

-- a state above another weighs more, or is also below it
pub weight_rises : (a b : State) → Below a b → Climbs (weight a) (weight b) (Below b a)
unfolding weight
weight_rises a b h =
    let counts = split2 (a.pool_count == b.pool_count) (a.brigade_count == b.brigade_count) h.variables in
    map_back
    (λ c. record {
      variables = and2 (b.pool_count == a.pool_count) (b.brigade_count == a.brigade_count) (turned a.pool_count b.pool_count (counts.0)) (turned a.brigade_count b.brigade_count (counts.1));
      sent = sent_back b.sent a.sent (c.0.0.0.0);
      pools = c.0.0.0.1;
      brigades = c.0.0.1;
      cursors = c.0.1;
      facts = λ i j first second e. facts_back i j first second e (c.1.0) (c.1.1);
    })
    (both
    (both (both (both (bit_rises a.sent b.sent (implies_by a.sent b.sent h.sent))
    (sum_rises 8 (λ q. pool_weight (a.pools q)) (λ q. pool_weight (b.pools q)) (λ q. pool_leq (b.pools q) (a.pools q) ≡ true) (λ q below. pool_rises (a.pools q) (b.pools q) (h.pools q below))))
    (sum_rises 9 (λ v. brigade_weight (a.brigades v)) (λ v. brigade_weight (b.brigades v)) (λ v. brigade_leq (b.brigades v) (a.brigades v) ≡ true)
    (λ v below. brigade_rises (a.brigades v) (b.brigades v) (h.brigades v below))))
    (sum_rises 9 (λ c. cursor_weight (a.cursors c)) (λ c. cursor_weight (b.cursors c)) (λ c. cursor_leq (b.cursors c) (a.cursors c) ≡ true)
    (λ c below. cursor_rises (a.cursors c) (b.cursors c) (h.cursors c below))))
    (both (unknown_rises a b h) (self_rises a b h)))
  where
    facts_back : (i j : ℕ) → i < 9 → j < 9 → a.facts i j ≡ true → ((c : ℕ) → c < 9 → (d : ℕ) → d < 9 → implies (not (known b c d)) (not (known a c d)) ≡ true)
        → ((c : ℕ) → c < 9 → implies (not (b.facts c c)) (not (a.facts c c)) ≡ true) → known b i j ≡ true
    facts_back i j first second e unknown self =
        ⊎_elim
        (λ (same : i ≡ j).
        let itself : a.facts i i ≡ true = subst (λ (k : ℕ). a.facts i k ≡ true) (sym same) e in
        let other : b.facts i i ≡ true = not_back (a.facts i i) (b.facts i i) (self i first) itself in
        absurd (self_known a i (h.facts i i first first other)))
        (λ (ne : i ≡ j → ⊥). not_back (known a i j) (known b i j) (unknown i first j second) (written_known a i j ne e))
        (cases_eq i j)

-- no state weighs more than 510
pub weight_small : (s : State) → weight s ≤ 510
unfolding weight
weight_small s =
    let sent = bit_small s.sent in
    let pools = sum_small 8 3 (λ q. pool_weight (s.pools q)) (λ q h. pool_small (s.pools q)) in
    let brigades = sum_small 9 20 (λ v. brigade_weight (s.brigades v)) (λ v h. brigade_small (s.brigades v)) in
    let cursors = sum_small 9 20 (λ c. cursor_weight (s.cursors c)) (λ c h. cursor_small (s.cursors c)) in
    let unknown = sum_small 9 9 (λ c. sum_to 9 (λ d. bit (not (known s c d)))) (λ c h. sum_small 9 1 (λ d. bit (not (known s c d))) (λ d k. bit_small (not (known s c d)))) in
    let self = sum_small 9 1 (λ c. bit (not (s.facts c c))) (λ c h. bit_small (not (s.facts c c))) in
    omega arith

-- a state that grows by a join weighs more
pub join_heavier : (a b : State) → same_variables a b ≡ true → leq b a ≡ false → weight a < weight (join a b)
join_heavier a b same apart = by_rise (weight_rises a (join a b) (leq_says a (join a b) ((join_above a b same).0)))
  where
    not_both : (x : Bool) → x ≡ true → x ≡ false → ⊥
    not_both true p q = cc
    not_both false p q = cc

    by_rise : Climbs (weight a) (weight (join a b)) (Below (join a b) a) → weight a < weight (join a b)
    by_rise (Grows p) = p
    by_rise (Stays p back) = absurd (not_both (leq b a) (leq_trans b (join a b) a ((join_above a b same).1) (leq_holds (join a b) a back)) apart)
