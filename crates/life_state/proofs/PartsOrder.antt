-- The parts of the order: each is reflexive and transitive, and what is joined is above both.
use Rattle.std.proofs.Common.{◌≡◌, ℕ, ◌+◌, ◌≤◌, Bool, true, ◌&&◌, ◌||◌, not, ◌==◌, refl, ap, ◌∙◌, ⊎_elim, arith}
use Rattle.std.proofs.lemmas.Bool.{leb-true, le-leb, eqb-true, eq-eqb}
use Rattle.module_code.specs.declared.instr.PoolRef.{PoolRef}
use Rattle.module_code.specs.declared.instr.PoolRef.TheVariants as pool
use Rattle.life_state.specs.declared.parts.Contents.{Contents}
use Rattle.life_state.specs.declared.parts.Classes.{Classes}
use Rattle.life_state.specs.declared.parts.PoolState.{PoolState}
use Rattle.life_state.specs.States.{Homes, BrigadeKnown, CursorKnown, Unset, Loose, In, End, InOrEnd}
use Rattle.life_state.specs.Facts.{is_set, is_end, place_of, is_apart}
use Rattle.life_state.specs.Order.{implies, all_below, rank, content_leq, classes_leq, classes_join, pool_leq, pool_join, places_leq, homes_leq, variable_leq, marks_leq, brigade_leq, cursor_leq}
use Rattle.life_state.proofs.Below.{all_below_holds}
use Rattle.life_state.proofs.Tests.{split2, and2, split3, and3, or_either, or_left, or_right, implies_same, implies_trans, implies_left, implies_right, all_at}

pub classes_same : (v : Classes) → classes_leq v v ≡ true
classes_same v =
    and3 (implies v.bytes v.bytes) (implies v.flush v.flush) (implies v.eos v.eos)
    (implies_same v.bytes) (implies_same v.flush) (implies_same v.eos)

pub classes_trans : (a b c : Classes) → classes_leq a b ≡ true → classes_leq b c ≡ true → classes_leq a c ≡ true
classes_trans a b c p q =
    let p3 = split3 (implies a.bytes b.bytes) (implies a.flush b.flush) (implies a.eos b.eos) p in
    let q3 = split3 (implies b.bytes c.bytes) (implies b.flush c.flush) (implies b.eos c.eos) q in
    and3 (implies a.bytes c.bytes) (implies a.flush c.flush) (implies a.eos c.eos)
    (implies_trans a.bytes b.bytes c.bytes (p3.0) (q3.0)) (implies_trans a.flush b.flush c.flush (p3.1) (q3.1)) (implies_trans a.eos b.eos c.eos (p3.2) (q3.2))

-- A pick gives one of two tests, and so one of two states' parts.
abbrev pub IsPick : (Bool → Bool → Bool) → Type 0
IsPick pick = (x y : Bool) → implies (pick x y) (x || y) ≡ true

pub classes_above : (pick : Bool → Bool → Bool) → IsPick pick → (a b : Classes)
    → classes_leq (record { bytes = pick a.bytes b.bytes; flush = pick a.flush b.flush; eos = pick a.eos b.eos }) (classes_join a b) ≡ true
classes_above pick up a b =
    and3 (implies (pick a.bytes b.bytes) (a.bytes || b.bytes)) (implies (pick a.flush b.flush) (a.flush || b.flush)) (implies (pick a.eos b.eos) (a.eos || b.eos))
    (up a.bytes b.bytes) (up a.flush b.flush) (up a.eos b.eos)

pub classes_left : (a b : Classes) → classes_leq a (classes_join a b) ≡ true
classes_left = classes_above (λ x y. x) implies_left

pub classes_right : (a b : Classes) → classes_leq b (classes_join a b) ≡ true
classes_right = classes_above (λ x y. y) implies_right

-- What a pool's variable may be is ordered as three classes are, and what a brigade's may be as a pool's.

abbrev as_classes : PoolState → Classes
as_classes v = record { bytes = v.null; flush = v.gone; eos = v.live }

pub pool_same : (v : PoolState) → pool_leq v v ≡ true
pool_same v = classes_same (as_classes v)

pub pool_trans : (a b c : PoolState) → pool_leq a b ≡ true → pool_leq b c ≡ true → pool_leq a c ≡ true
pool_trans a b c = classes_trans (as_classes a) (as_classes b) (as_classes c)

pub pool_left : (a b : PoolState) → pool_leq a (pool_join a b) ≡ true
pool_left a b = classes_left (as_classes a) (as_classes b)

pub pool_right : (a b : PoolState) → pool_leq b (pool_join a b) ≡ true
pool_right a b = classes_right (as_classes a) (as_classes b)

abbrev pub as_pool : BrigadeKnown → PoolState
as_pool v = record { null = v.null; gone = v.gone; live = v.live }

variable_same : (v : BrigadeKnown) → variable_leq v v ≡ true
variable_same v = pool_same (as_pool v)

variable_trans : (a b c : BrigadeKnown) → variable_leq a b ≡ true → variable_leq b c ≡ true → variable_leq a c ≡ true
variable_trans a b c = pool_trans (as_pool a) (as_pool b) (as_pool c)

pub content_same : (a : Contents) → content_leq a a ≡ true
content_same a = le-leb (rank a) (rank a) (omega arith)

pub content_trans : (a b c : Contents) → content_leq a b ≡ true → content_leq b c ≡ true → content_leq a c ≡ true
content_trans a b c p q =
    let first : rank a ≤ rank b = leb-true (rank a) (rank b) p in
    let second : rank b ≤ rank c = leb-true (rank b) (rank c) q in
    le-leb (rank a) (rank c) (omega arith)

places_same : (f : PoolRef → Bool) → places_leq f f ≡ true
places_same f =
    and2 (implies (f pool.Req) (f pool.Req)) (all_below 8 (λ i. implies (f (pool.Own i)) (f (pool.Own i)))) (implies_same (f pool.Req))
    (all_below_holds 8 (λ i. implies (f (pool.Own i)) (f (pool.Own i))) (λ k h. implies_same (f (pool.Own k))))

places_trans : (f g h : PoolRef → Bool) → places_leq f g ≡ true → places_leq g h ≡ true → places_leq f h ≡ true
places_trans f g h p q =
    let p2 = split2 (implies (f pool.Req) (g pool.Req)) (all_below 8 (λ i. implies (f (pool.Own i)) (g (pool.Own i)))) p in
    let q2 = split2 (implies (g pool.Req) (h pool.Req)) (all_below 8 (λ i. implies (g (pool.Own i)) (h (pool.Own i)))) q in
    and2 (implies (f pool.Req) (h pool.Req)) (all_below 8 (λ i. implies (f (pool.Own i)) (h (pool.Own i)))) (implies_trans (f pool.Req) (g pool.Req) (h pool.Req) (p2.0) (q2.0))
    (all_below_holds 8 (λ i. implies (f (pool.Own i)) (h (pool.Own i)))
    (λ k below. implies_trans (f (pool.Own k)) (g (pool.Own k)) (h (pool.Own k)) (all_at 8 k (λ i. implies (f (pool.Own i)) (g (pool.Own i))) (p2.1) below)
    (all_at 8 k (λ i. implies (g (pool.Own i)) (h (pool.Own i))) (q2.1) below)))

pub homes_same : (h : Homes) → homes_leq h h ≡ true
homes_same h = and3 (implies h.call h.call) (implies h.dead h.dead) (places_leq h.at h.at) (implies_same h.call) (implies_same h.dead) (places_same h.at)

pub homes_trans : (a b c : Homes) → homes_leq a b ≡ true → homes_leq b c ≡ true → homes_leq a c ≡ true
homes_trans a b c p q =
    let p3 = split3 (implies a.call b.call) (implies a.dead b.dead) (places_leq a.at b.at) p in
    let q3 = split3 (implies b.call c.call) (implies b.dead c.dead) (places_leq b.at c.at) q in
    and3 (implies a.call c.call) (implies a.dead c.dead) (places_leq a.at c.at) (implies_trans a.call b.call c.call (p3.0) (q3.0)) (implies_trans a.dead b.dead c.dead (p3.1) (q3.1))
    (places_trans a.at b.at c.at (p3.2) (q3.2))

marks_same : (v : BrigadeKnown) → marks_leq v v ≡ true
marks_same v = and2 (implies v.usable v.usable) (implies v.passed v.passed) (implies_same v.usable) (implies_same v.passed)

marks_trans : (a b c : BrigadeKnown) → marks_leq a b ≡ true → marks_leq b c ≡ true → marks_leq a c ≡ true
marks_trans a b c p q =
    let p2 = split2 (implies a.usable b.usable) (implies a.passed b.passed) p in
    let q2 = split2 (implies b.usable c.usable) (implies b.passed c.passed) q in
    and2 (implies a.usable c.usable) (implies a.passed c.passed) (implies_trans a.usable b.usable c.usable (p2.0) (q2.0)) (implies_trans a.passed b.passed c.passed (p2.1) (q2.1))

pub brigade_by : (a b : BrigadeKnown) → variable_leq a b ≡ true → marks_leq a b ≡ true → content_leq a.content b.content ≡ true → homes_leq a.homes b.homes ≡ true → brigade_leq a b ≡ true
unfolding brigade_leq
brigade_by a b variable marks content homes =
    and2 (variable_leq a b && marks_leq a b && content_leq a.content b.content) (homes_leq a.homes b.homes)
    (and3 (variable_leq a b) (marks_leq a b) (content_leq a.content b.content) variable marks content) homes

pub brigade_same : (v : BrigadeKnown) → brigade_leq v v ≡ true
brigade_same v = brigade_by v v (variable_same v) (marks_same v) (content_same v.content) (homes_same v.homes)

pub brigade_trans : (a b c : BrigadeKnown) → brigade_leq a b ≡ true → brigade_leq b c ≡ true → brigade_leq a c ≡ true
unfolding brigade_leq
brigade_trans a b c p q =
    let p2 = split2 (variable_leq a b && marks_leq a b && content_leq a.content b.content) (homes_leq a.homes b.homes) p in
    let q2 = split2 (variable_leq b c && marks_leq b c && content_leq b.content c.content) (homes_leq b.homes c.homes) q in
    let p3 = split3 (variable_leq a b) (marks_leq a b) (content_leq a.content b.content) (p2.0) in
    let q3 = split3 (variable_leq b c) (marks_leq b c) (content_leq b.content c.content) (q2.0) in
    brigade_by a c (variable_trans a b c (p3.0) (q3.0)) (marks_trans a b c (p3.1) (q3.1)) (content_trans a.content b.content c.content (p3.2) (q3.2))
    (homes_trans a.homes b.homes c.homes (p2.1) (q2.1))

same_number : (b : ℕ) → (b == b) ≡ true
same_number b = eq-eqb b b refl

number_trans : (b c d : ℕ) → (b == c) ≡ true → (c == d) ≡ true → (b == d) ≡ true
number_trans b c d p q = eq-eqb b d (eqb-true b c p ∙ eqb-true c d q)

at_trans : (b c d : ℕ) (s t u : Classes) → (b == c && classes_leq s t) ≡ true → (c == d && classes_leq t u) ≡ true → (b == d && classes_leq s u) ≡ true
at_trans b c d s t u p q =
    let p2 = split2 (b == c) (classes_leq s t) p in
    let q2 = split2 (c == d) (classes_leq t u) q in
    and2 (b == d) (classes_leq s u) (number_trans b c d (p2.0) (q2.0)) (classes_trans s t u (p2.1) (q2.1))

pub cursor_same : (v : CursorKnown) → cursor_leq v v ≡ true
cursor_same Unset = refl
cursor_same (Loose s h) = and2 (classes_leq s s) (homes_leq h h) (classes_same s) (homes_same h)
cursor_same (In b s) = and2 (b == b) (classes_leq s s) (same_number b) (classes_same s)
cursor_same (End b) = same_number b
cursor_same (InOrEnd b s) = and2 (b == b) (classes_leq s s) (same_number b) (classes_same s)

first_number : (b c : ℕ) (s t : Classes) → (b == c && classes_leq s t) ≡ true → (b == c) ≡ true
first_number b c s t p = (split2 (b == c) (classes_leq s t) p).0

pub cursor_trans : (a b c : CursorKnown) → cursor_leq a b ≡ true → cursor_leq b c ≡ true → cursor_leq a c ≡ true
cursor_trans a b Unset p q = refl
cursor_trans (Loose s h) (Loose t k) (Loose u l) p q =
    let p2 = split2 (classes_leq s t) (homes_leq h k) p in
    let q2 = split2 (classes_leq t u) (homes_leq k l) q in
    and2 (classes_leq s u) (homes_leq h l) (classes_trans s t u (p2.0) (q2.0)) (homes_trans h k l (p2.1) (q2.1))
cursor_trans (In b s) (In c t) (In d u) p q = at_trans b c d s t u p q
cursor_trans (In b s) (In c t) (InOrEnd d u) p q = at_trans b c d s t u p q
cursor_trans (In b s) (InOrEnd c t) (InOrEnd d u) p q = at_trans b c d s t u p q
cursor_trans (InOrEnd b s) (InOrEnd c t) (InOrEnd d u) p q = at_trans b c d s t u p q
cursor_trans (End b) (End c) (End d) p q = number_trans b c d p q
cursor_trans (End b) (End c) (InOrEnd d u) p q = number_trans b c d p q
cursor_trans (End b) (InOrEnd c t) (InOrEnd d u) p q = number_trans b c d p (first_number c d t u q)
cursor_trans a Unset c p q = cc
cursor_trans a (Loose t k) c p q = cc
cursor_trans a (In m t) c p q = cc
cursor_trans a (End m) c p q = cc
cursor_trans a (InOrEnd m t) c p q = cc

-- a cursor below one that is set is set, at the same place, and an end where that is one
pub leq_set : (x y : CursorKnown) → cursor_leq x y ≡ true → is_set y ≡ true → is_set x ≡ true
leq_set x Unset p q = cc
leq_set Unset y p q = cc
leq_set (Loose s h) y p q = refl
leq_set (In b s) y p q = refl
leq_set (End b) y p q = refl
leq_set (InOrEnd b s) y p q = refl

pub leq_end : (x y : CursorKnown) → cursor_leq x y ≡ true → is_end y ≡ true → is_end x ≡ true
leq_end (End b) y p q = refl
leq_end x Unset p q = cc
leq_end x (Loose t k) p q = cc
leq_end x (In c t) p q = cc
leq_end x (End c) p q = cc
leq_end x (InOrEnd c t) p q = cc

pub leq_place : (x y : CursorKnown) → cursor_leq x y ≡ true → is_set y ≡ true → place_of x ≡ place_of y
leq_place x Unset p q = cc
leq_place (Loose s h) (Loose t k) p q = refl
leq_place (In b s) (In c t) p q = ap (λ (n : ℕ). n + 1) (eqb-true b c (first_number b c s t p))
leq_place (In b s) (InOrEnd c t) p q = ap (λ (n : ℕ). n + 1) (eqb-true b c (first_number b c s t p))
leq_place (InOrEnd b s) (InOrEnd c t) p q = ap (λ (n : ℕ). n + 1) (eqb-true b c (first_number b c s t p))
leq_place (End b) (End c) p q = ap (λ (n : ℕ). n + 1) (eqb-true b c p)
leq_place (End b) (InOrEnd c t) p q = ap (λ (n : ℕ). n + 1) (eqb-true b c p)
leq_place x y p q = cc

-- what is apart in the greater state is apart in the smaller one
pub apart_below : (x y u v : CursorKnown) → cursor_leq x u ≡ true → cursor_leq y v ≡ true → is_apart u v ≡ true → is_apart x y ≡ true
apart_below x y u v p q h =
    let h3 = split3 (is_set u) (is_set v) (is_end u || is_end v || not (place_of u == place_of v)) h in
    let elsewhere : (is_end x || is_end y || not (place_of x == place_of y)) ≡ true =
    ⊎_elim
    (λ (ends : (is_end u || is_end v) ≡ true). or_left (is_end x || is_end y) (not (place_of x == place_of y))
    (⊎_elim (λ (e : is_end u ≡ true). or_left (is_end x) (is_end y) (leq_end x u p e)) (λ (e : is_end v ≡ true). or_right (is_end x) (is_end y) (leq_end y v q e))
    (or_either (is_end u) (is_end v) ends)))
    (λ (far : not (place_of u == place_of v) ≡ true). or_right (is_end x || is_end y) (not (place_of x == place_of y))
    (ap (λ (n : ℕ). not (n == place_of y)) (leq_place x u p (h3.0)) ∙ (ap (λ (n : ℕ). not (place_of u == n)) (leq_place y v q (h3.1)) ∙ far)))
    (or_either (is_end u || is_end v) (not (place_of u == place_of v)) (h3.2)) in
    and3 (is_set x) (is_set y) (is_end x || is_end y || not (place_of x == place_of y)) (leq_set x u p (h3.0)) (leq_set y v q (h3.1)) elsewhere
