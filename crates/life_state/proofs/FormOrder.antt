-- Of two states in form, each below the other, both say the same.
use Rattle.std.proofs.Common.{◌≡◌, ℕ, ◌<◌, ◌≤◌, Bool, true, false, ◌&&◌, ◌||◌, not, ◌==◌, if◌then◌else◌, refl, ap, ap₂, sym, ◌∙◌, ⊎_elim, arith, le_trans}
use Rattle.std.proofs.Math.Path.{fun_ext}
use Rattle.std.proofs.lemmas.Bool.{cases_lt, leb-true, eqb-true}
use Rattle.module_code.specs.declared.instr.PoolRef.{PoolRef}
use Rattle.module_code.specs.declared.instr.PoolRef.TheVariants as pool
use Rattle.life_state.specs.declared.parts.Contents.{Contents}
use Rattle.life_state.specs.declared.parts.Contents.TheVariants.{Empty, Flushes, NoEos, NoLateData, Any}
use Rattle.life_state.specs.declared.parts.Classes.{Classes}
use Rattle.life_state.specs.declared.parts.PoolState.{PoolState}
use Rattle.life_state.specs.States.{Homes, BrigadeKnown, CursorKnown, Unset, Loose, In, End, InOrEnd, State}
use Rattle.life_state.specs.Facts.{is_set, is_apart, known}
use Rattle.life_state.specs.Order.{implies, all_below, rank, content_leq, classes_leq, pool_leq, places_leq, homes_leq, cursor_leq}
use Rattle.life_state.specs.Form.{NamesDeclared, FormedCursor, IsFormed}
use Rattle.life_state.specs.Laws.{Below, LeqIsAntisymmetric}
use Rattle.life_state.proofs.Tests.{split2, split3, all_at, not_true, or_either}
use Rattle.life_state.proofs.OrderLaws.{leq_says}
use Rattle.life_state.proofs.JoinLeast.{BrigadeParts, parts}

same_test : (a b : Bool) → implies a b ≡ true → implies b a ≡ true → a ≡ b
same_test true true p q = refl
same_test true false p q = cc
same_test false true p q = cc
same_test false false p q = refl

-- two tests that follow from one another
same_by : (a b : Bool) → (a ≡ true → b ≡ true) → (b ≡ true → a ≡ true) → a ≡ b
same_by true b p q = sym (p refl)
same_by false true p q = q refl
same_by false false p q = refl

pool_both : (s t : PoolState) → pool_leq s t ≡ true → pool_leq t s ≡ true → s ≡ t
pool_both s t p q =
    let p3 = split3 (implies s.null t.null) (implies s.gone t.gone) (implies s.live t.live) p in
    let q3 = split3 (implies t.null s.null) (implies t.gone s.gone) (implies t.live s.live) q in
    λ i. record { null = same_test s.null t.null (p3.0) (q3.0) i; gone = same_test s.gone t.gone (p3.1) (q3.1) i; live = same_test s.live t.live (p3.2) (q3.2) i }

classes_both : (s t : Classes) → classes_leq s t ≡ true → classes_leq t s ≡ true → s ≡ t
classes_both s t p q =
    let p3 = split3 (implies s.bytes t.bytes) (implies s.flush t.flush) (implies s.eos t.eos) p in
    let q3 = split3 (implies t.bytes s.bytes) (implies t.flush s.flush) (implies t.eos s.eos) q in
    λ i. record { bytes = same_test s.bytes t.bytes (p3.0) (q3.0) i; flush = same_test s.flush t.flush (p3.1) (q3.1) i; eos = same_test s.eos t.eos (p3.2) (q3.2) i }

of_rank : ℕ → Contents
of_rank n = if n == 0 then Empty else (if n == 1 then Flushes else (if n == 2 then NoEos else (if n == 3 then NoLateData else Any)))

rank_of : (c : Contents) → of_rank (rank c) ≡ c
unfolding of_rank
rank_of Empty = refl
rank_of Flushes = refl
rank_of NoEos = refl
rank_of NoLateData = refl
rank_of Any = refl

content_both : (a b : Contents) → content_leq a b ≡ true → content_leq b a ≡ true → a ≡ b
content_both a b p q =
    let first : rank a ≤ rank b = leb-true (rank a) (rank b) p in
    let second : rank b ≤ rank a = leb-true (rank b) (rank a) q in
    let same : rank a ≡ rank b = omega arith in
    sym (rank_of a) ∙ (ap of_rank same ∙ rank_of b)

-- homes that name no variable beyond the last
Few : Homes → Type 0
Few h = (h.at pool.Conn ≡ false) × ((q : ℕ) → h.at (pool.Own q) ≡ true → q < 8)

none_past : (h : Homes) (q : ℕ) → Few h → 8 ≤ q → h.at (pool.Own q) ≡ false
unfolding Few
none_past h q few past = either (h.at (pool.Own q)) refl
  where
    either : (e : Bool) → h.at (pool.Own q) ≡ e → h.at (pool.Own q) ≡ false
    either true e = absurd (omega (arith, few.1 q e))
    either false e = e

homes_both : (h k : Homes) → Few h → Few k → homes_leq h k ≡ true → homes_leq k h ≡ true → h ≡ k
unfolding Few
homes_both h k few less p q =
    let p3 = split3 (implies h.call k.call) (implies h.dead k.dead) (places_leq h.at k.at) p in
    let q3 = split3 (implies k.call h.call) (implies k.dead h.dead) (places_leq k.at h.at) q in
    let p2 = split2 (implies (h.at pool.Req) (k.at pool.Req)) (all_below 8 (λ i. implies (h.at (pool.Own i)) (k.at (pool.Own i)))) (p3.2) in
    let q2 = split2 (implies (k.at pool.Req) (h.at pool.Req)) (all_below 8 (λ i. implies (k.at (pool.Own i)) (h.at (pool.Own i)))) (q3.2) in
    λ i. record { call = same_test h.call k.call (p3.0) (q3.0) i; dead = same_test h.dead k.dead (p3.1) (q3.1) i; at = fun_ext (each (p2.0) (q2.0) (p2.1) (q2.1)) i }
  where
    each : implies (h.at pool.Req) (k.at pool.Req) ≡ true → implies (k.at pool.Req) (h.at pool.Req) ≡ true
        → all_below 8 (λ i. implies (h.at (pool.Own i)) (k.at (pool.Own i))) ≡ true → all_below 8 (λ i. implies (k.at (pool.Own i)) (h.at (pool.Own i))) ≡ true
        → (x : PoolRef) → h.at x ≡ k.at x
    each a b c d pool.Conn = few.0 ∙ sym (less.0)
    each a b c d pool.Req = same_test (h.at pool.Req) (k.at pool.Req) a b
    each a b c d (pool.Own i) =
        ⊎_elim
        (λ (low : i < 8). same_test (h.at (pool.Own i)) (k.at (pool.Own i)) (all_at 8 i (λ i. implies (h.at (pool.Own i)) (k.at (pool.Own i))) c low)
        (all_at 8 i (λ i. implies (k.at (pool.Own i)) (h.at (pool.Own i))) d low))
        (λ (high : 8 ≤ i). none_past h i few high ∙ sym (none_past k i less high)) (cases_lt i 8)

brigade_both : (v w : BrigadeKnown) → Few v.homes → Few w.homes → BrigadeParts v w → BrigadeParts w v → v ≡ w
brigade_both v w few less p q =
    λ i. record {
      null = same_test v.null w.null p.null q.null i;
      gone = same_test v.gone w.gone p.gone q.gone i;
      live = same_test v.live w.live p.live q.live i;
      usable = same_test v.usable w.usable p.usable q.usable i;
      passed = same_test v.passed w.passed p.passed q.passed i;
      content = content_both v.content w.content p.content q.content i;
      homes = homes_both v.homes w.homes few less p.homes q.homes i;
    }

-- the homes of a cursor that is loose
FewAt : CursorKnown → Type 0
FewAt Unset = Unit {0}
FewAt (Loose t h) = Few h
FewAt (In b t) = Unit {0}
FewAt (End b) = Unit {0}
FewAt (InOrEnd b t) = Unit {0}

cursor_both : (x y : CursorKnown) → FewAt x → FewAt y → cursor_leq x y ≡ true → cursor_leq y x ≡ true → x ≡ y
unfolding FewAt
cursor_both Unset Unset f g p q = refl
cursor_both (Loose t h) (Loose u k) f g p q =
    let p2 = split2 (classes_leq t u) (homes_leq h k) p in
    let q2 = split2 (classes_leq u t) (homes_leq k h) q in
    ap₂ Loose (classes_both t u (p2.0) (q2.0)) (homes_both h k f g (p2.1) (q2.1))
cursor_both (In b t) (In c u) f g p q =
    let p2 = split2 (b == c) (classes_leq t u) p in
    ap₂ In (eqb-true b c (p2.0)) (classes_both t u (p2.1) ((split2 (c == b) (classes_leq u t) q).1))
cursor_both (End b) (End c) f g p q = ap End (eqb-true b c p)
cursor_both (InOrEnd b t) (InOrEnd c u) f g p q =
    let p2 = split2 (b == c) (classes_leq t u) p in
    ap₂ InOrEnd (eqb-true b c (p2.0)) (classes_both t u (p2.1) ((split2 (c == b) (classes_leq u t) q).1))
cursor_both x y f g p q = cc

few : (s : State) (h : Homes) → s.pool_count ≤ 8 → NamesDeclared s h → Few h
unfolding Few
few s h count named = (named.0, λ q e. le_trans (named.1 q e) count)

few_at : (s : State) (x : CursorKnown) → s.pool_count ≤ 8 → FormedCursor s x → FewAt x
unfolding FewAt
few_at s Unset count f = tt
few_at s (Loose t h) count f = few s h count (f.1)
few_at s (In b t) count f = tt
few_at s (End b) count f = tt
few_at s (InOrEnd b t) count f = tt

module _ (a b : State) (f : IsFormed a) (g : IsFormed b) (p : Below a b) (q : Below b a) where
  same_pools : (k : ℕ) → a.pools k ≡ b.pools k
  same_pools k =
      ⊎_elim (λ (low : k < 8). pool_both (a.pools k) (b.pools k) (p.pools k low) (q.pools k low))
      (λ (high : 8 ≤ k). f.no_pools k (le_trans f.pool_count high) ∙ sym (g.no_pools k (le_trans g.pool_count high))) (cases_lt k 8)

  same_brigades : (k : ℕ) → a.brigades k ≡ b.brigades k
  same_brigades k =
      ⊎_elim
      (λ (low : k < 9).
      brigade_both (a.brigades k) (b.brigades k) (few a (a.brigades k).homes f.pool_count (f.homes k)) (few b (b.brigades k).homes g.pool_count (g.homes k))
      (parts (a.brigades k) (b.brigades k) (p.brigades k low)) (parts (b.brigades k) (a.brigades k) (q.brigades k low)))
      (λ (high : 9 ≤ k). f.no_brigades k (omega (arith, f.brigade_count)) (omega arith) ∙ sym (g.no_brigades k (omega (arith, g.brigade_count)) (omega arith)))
      (cases_lt k 9)

  same_cursors : (k : ℕ) → a.cursors k ≡ b.cursors k
  same_cursors k =
      ⊎_elim
      (λ (low : k < 9).
      cursor_both (a.cursors k) (b.cursors k) (few_at a (a.cursors k) f.pool_count (f.cursors k)) (few_at b (b.cursors k) g.pool_count (g.cursors k)) (p.cursors k low) (q.cursors k low))
      (λ (high : 9 ≤ k). f.no_cursors k high ∙ sym (g.no_cursors k high)) (cases_lt k 9)

-- a cursor that is set is one of the nine
set_number : (s : State) (c : ℕ) → IsFormed s → is_set (s.cursors c) ≡ true → c < 9
set_number s c f h =
    ⊎_elim (λ (low : c < 9). low) (λ (high : 9 ≤ c). absurd (clash (sym (ap is_set (f.no_cursors c high)) ∙ h))) (cases_lt c 9)
  where
    clash : false ≡ true → ⊥
    clash e = cc

-- a fact that is written in one is written in the other
fact_too : (a b : State) → IsFormed a → ((k : ℕ) → a.cursors k ≡ b.cursors k) → Below b a → (c d : ℕ) → a.facts c d ≡ true → b.facts c d ≡ true
unfolding known
fact_too a b f same q c d h =
    let w3 = split3 (not (c == d) && is_set (a.cursors c)) (is_set (a.cursors d)) (not (is_apart (a.cursors c) (a.cursors d))) (f.facts c d h) in
    let first = set_number a c f ((split2 (not (c == d)) (is_set (a.cursors c)) (w3.0)).1) in
    let second = set_number a d f (w3.1) in
    let there = (split2 (not (c == d)) (b.facts c d || is_apart (b.cursors c) (b.cursors d)) (q.facts c d first second h)).1 in
    ⊎_elim (λ (written : b.facts c d ≡ true). written)
    (λ (apart : is_apart (b.cursors c) (b.cursors d) ≡ true). absurd (clash (sym (not_true (is_apart (a.cursors c) (a.cursors d)) (w3.2)) ∙ (ap₂ is_apart (same c) (same d) ∙ apart))))
    (or_either (b.facts c d) (is_apart (b.cursors c) (b.cursors d)) there)
  where
    clash : false ≡ true → ⊥
    clash e = cc

pub leq_both : LeqIsAntisymmetric
leq_both a b f g less more =
    let p = leq_says a b less in
    let q = leq_says b a more in
    let counts = split2 (a.pool_count == b.pool_count) (a.brigade_count == b.brigade_count) p.variables in
    let cursors = same_cursors a b f g p q in
    λ i. record {
      pool_count = eqb-true a.pool_count b.pool_count (counts.0) i;
      brigade_count = eqb-true a.brigade_count b.brigade_count (counts.1) i;
      sent = same_by a.sent b.sent p.sent q.sent i;
      pools = fun_ext (same_pools a b f g p q) i;
      brigades = fun_ext (same_brigades a b f g p q) i;
      cursors = fun_ext cursors i;
      facts = fun_ext (λ c. fun_ext (λ d. same_by (a.facts c d) (b.facts c d) (fact_too a b f cursors q c d) (fact_too b a g (λ k. sym (cursors k)) p c d))) i;
    }
