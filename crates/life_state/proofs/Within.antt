-- A state is below another, said of all indices; and what is made of both in the same way is so too.
use Rattle.std.proofs.Common.{rules, ◌≡◌, ℕ, ◌<◌, ◌≤◌, Bool, true, false, ◌&&◌, ◌||◌, not, ◌==◌, if◌then◌else◌, refl, ap, sym, subst, ◌∙◌, ⊎_elim, arith}
use Rattle.std.proofs.lemmas.Bool.{eqb-true, cases_lt}
use Rattle.run_model.specs.Indexed.{upd}
use Rattle.life_state.specs.declared.parts.PoolState.{PoolState}
use Rattle.life_state.specs.States.{only_null, BrigadeKnown, never_made, CursorKnown, Unset, State, set_pool, set_brigade}
use Rattle.life_state.specs.Facts.{is_set, is_apart, known, facts_of, moved, known_but, set_cursor, forgotten, move_bucket}
use Rattle.life_state.specs.Order.{pool_leq, brigade_leq, cursor_leq, same_variables, leq}
use Rattle.life_state.specs.Rules.{told}
use Rattle.life_state.specs.Form.{IsFormed}
use Rattle.life_state.proofs.Tests.{split2, and2, split3, and3, or_either, or_right}
use Rattle.life_state.proofs.PartsOrder.{pool_same, brigade_same, apart_below, leq_set}
use Rattle.life_state.proofs.OrderLaws.{leq_says, leq_holds}

pub record Within (a b : State) : Type 0 where
  pub variables : same_variables a b ≡ true
  pub sent : a.sent ≡ true → b.sent ≡ true
  pub pools : (q : ℕ) → pool_leq (a.pools q) (b.pools q) ≡ true
  pub brigades : (v : ℕ) → brigade_leq (a.brigades v) (b.brigades v) ≡ true
  pub cursors : (c : ℕ) → cursor_leq (a.cursors c) (b.cursors c) ≡ true
  pub facts : (c d : ℕ) → b.facts c d ≡ true → known a c d ≡ true

clash : false ≡ true → ⊥
clash e = cc

-- a fact is of two of the nine cursors
fact_of_nine : (s : State) (c : ℕ) → IsFormed s → is_set (s.cursors c) ≡ true → c < 9
fact_of_nine s c f h = ⊎_elim (λ (low : c < 9). low) (λ (high : 9 ≤ c). absurd (clash (sym (ap is_set (f.no_cursors c high)) ∙ h))) (cases_lt c 9)

pub within : (a b : State) → IsFormed a → IsFormed b → leq a b ≡ true → Within a b
within a b f g h =
    let less = leq_says a b h in
    record {
      variables = less.variables;
      sent = less.sent;
      pools = λ q. ⊎_elim (λ (low : q < 8). less.pools q low)
          (λ (high : 8 ≤ q). subst (λ v. pool_leq v (b.pools q) ≡ true) (sym (f.no_pools q (omega (arith, f.pool_count))))
          (subst (λ v. pool_leq only_null v ≡ true) (sym (g.no_pools q (omega (arith, g.pool_count)))) (pool_same only_null)))
          (cases_lt q 8);
      brigades = λ v. ⊎_elim (λ (low : v < 9). less.brigades v low)
          (λ (high : 9 ≤ v). subst (λ x. brigade_leq x (b.brigades v) ≡ true) (sym (f.no_brigades v (omega (arith, f.brigade_count)) (omega arith)))
          (subst (λ x. brigade_leq never_made x ≡ true) (sym (g.no_brigades v (omega (arith, g.brigade_count)) (omega arith))) (brigade_same never_made)))
          (cases_lt v 9);
      cursors = λ c. ⊎_elim (λ (low : c < 9). less.cursors c low) (λ (high : 9 ≤ c). ap (cursor_leq (a.cursors c)) (g.no_cursors c high)) (cases_lt c 9);
      facts = λ c d e. let w3 = split3 (not (c == d) && is_set (b.cursors c)) (is_set (b.cursors d)) (not (is_apart (b.cursors c) (b.cursors d))) (g.facts c d e) in
          less.facts c d (fact_of_nine b c g ((split2 (not (c == d)) (is_set (b.cursors c)) (w3.0)).1)) (fact_of_nine b d g (w3.1)) e;
    }

pub below : (a b : State) → Within a b → leq a b ≡ true
below a b w = leq_holds a b (record {
  variables = w.variables;
  sent = w.sent;
  pools = λ q low. w.pools q;
  brigades = λ v low. w.brigades v;
  cursors = λ c low. w.cursors c;
  facts = λ c d first second. w.facts c d;
})

-- what is known in the greater state is known in the smaller one
pub known_within : (a b : State) → Within a b → (c d : ℕ) → known b c d ≡ true → known a c d ≡ true
unfolding known
known_within a b w c d h =
    let h2 = split2 (not (c == d)) (b.facts c d || is_apart (b.cursors c) (b.cursors d)) h in
    ⊎_elim (λ (written : b.facts c d ≡ true). w.facts c d written)
    (λ (apart : is_apart (b.cursors c) (b.cursors d) ≡ true).
    and2 (not (c == d)) (a.facts c d || is_apart (a.cursors c) (a.cursors d)) (h2.0)
    (or_right (a.facts c d) (is_apart (a.cursors c) (a.cursors d)) (apart_below (a.cursors c) (a.cursors d) (b.cursors c) (b.cursors d) (w.cursors c) (w.cursors d) apart)))
    (or_either (b.facts c d) (is_apart (b.cursors c) (b.cursors d)) (h2.1))

-- Cursors.

abbrev pub CursorsWithin : (ℕ → CursorKnown) → (ℕ → CursorKnown) → Type 0
CursorsWithin f g = (k : ℕ) → cursor_leq (f k) (g k) ≡ true

-- what is written over cursors, is written or implied over smaller ones
kept_fact : (keep more : ℕ → ℕ → Bool) (f g : ℕ → CursorKnown) → CursorsWithin f g → ((c d : ℕ) → more c d ≡ true → keep c d ≡ true) → (c d : ℕ) → facts_of more g c d ≡ true
    → (not (c == d) && (facts_of keep f c d || is_apart (f c) (f d))) ≡ true
unfolding facts_of
kept_fact keep more f g less kept c d h =
    let h3 = split3 (not (c == d) && more c d && is_set (g c)) (is_set (g d)) (not (is_apart (g c) (g d))) h in
    let k3 = split3 (not (c == d)) (more c d) (is_set (g c)) (h3.0) in
    and2 (not (c == d)) (not (c == d) && keep c d && is_set (f c) && is_set (f d) && not (is_apart (f c) (f d)) || is_apart (f c) (f d)) (k3.0)
    (either (and3 (not (c == d) && keep c d) (is_set (f c)) (is_set (f d)) (and2 (not (c == d)) (keep c d) (k3.0) (kept c d (k3.1))) (leq_set (f c) (g c) (less c) (k3.2))
    (leq_set (f d) (g d) (less d) (h3.1))) (is_apart (f c) (f d)))
  where
    either : {x : Bool} → x ≡ true → (y : Bool) → (x && not y || y) ≡ true
    either {x} h true = or_right (x && false) true refl
    either {x} h false = ap (λ z. z && true || false) h

pub moved_within : (a b : State) (f g : ℕ → CursorKnown) → Within a b → CursorsWithin f g → Within (moved f a) (moved g b)
unfolding moved known
moved_within a b f g w less = record {
  variables = w.variables;
  sent = w.sent;
  pools = w.pools;
  brigades = w.brigades;
  cursors = less;
  facts = kept_fact (known a) (known b) f g less (known_within a b w);
}

-- what was kept
kept : (keep : ℕ → ℕ → Bool) (cursors : ℕ → CursorKnown) (c d : ℕ) → facts_of keep cursors c d ≡ true → keep c d ≡ true
unfolding facts_of
kept keep cursors c d h =
    (split3 (not (c == d)) (keep c d) (is_set (cursors c)) ((split3 (not (c == d) && keep c d && is_set (cursors c)) (is_set (cursors d)) (not (is_apart (cursors c) (cursors d))) h).0)).1

-- of the greater state alone more is forgotten
pub moved_over : (a b : State) (g : ℕ → CursorKnown) → Within a b → CursorsWithin a.cursors g → Within a (moved g b)
unfolding moved
moved_over a b g w less = record {
  variables = w.variables;
  sent = w.sent;
  pools = w.pools;
  brigades = w.brigades;
  cursors = less;
  facts = λ c d h. known_within a b w c d (kept (known b) g c d h);
}

pub upd_within : {X : Type 0} (R : X → X → Type 0) (f g : ℕ → X) (i : ℕ) (v u : X) → R v u → ((k : ℕ) → R (f k) (g k)) → (k : ℕ) → R (upd f i v k) (upd g i u k)
unfolding upd
upd_within R f g i v u here all k = pick (k == i)
  where
    pick : (e : Bool) → R (if e then v else f k) (if e then u else g k)
    pick true = here
    pick false = all k

abbrev IsLess : CursorKnown → CursorKnown → Type 0
IsLess x y = cursor_leq x y ≡ true

pub cursors_within : (a b : State) (c : ℕ) (v u : CursorKnown) → Within a b → cursor_leq v u ≡ true → CursorsWithin (upd a.cursors c v) (upd b.cursors c u)
cursors_within a b c v u w h = upd_within IsLess a.cursors b.cursors c v u h w.cursors

pub set_within : (a b : State) (c : ℕ) (v u : CursorKnown) (new more : ℕ → Bool) → Within a b → cursor_leq v u ≡ true → ((k : ℕ) → more k ≡ true → new k ≡ true)
    → Within (set_cursor c v new a) (set_cursor c u more b)
unfolding set_cursor known
set_within a b c v u new more w h others = record {
  variables = w.variables;
  sent = w.sent;
  pools = w.pools;
  brigades = w.brigades;
  cursors = cursors_within a b c v u w h;
  facts = kept_fact (known_but a c new) (known_but b c more) (upd a.cursors c v) (upd b.cursors c u) (cursors_within a b c v u w h) (λ i j. pick i j (i == c) (j == c));
}
  where
    pick : (i j : ℕ) (e g : Bool) → (if e then more j else (if g then more i else known b i j)) ≡ true → (if e then new j else (if g then new i else known a i j)) ≡ true
    pick i j true g k = others j k
    pick i j false true k = others i k
    pick i j false false k = known_within a b w i j k

pub told_within : (a b : State) (c : ℕ) (v u : CursorKnown) → Within a b → cursor_leq v u ≡ true → Within (told c v a) (told c u b)
told_within a b c v u w h = moved_within a b (upd a.cursors c v) (upd b.cursors c u) w (cursors_within a b c v u w h)

pub told_over : (a b : State) (c : ℕ) (u : CursorKnown) → Within a b → cursor_leq (a.cursors c) u ≡ true → Within a (told c u b)
unfolding upd
told_over a b c u w h = moved_over a b (upd b.cursors c u) w (λ k. pick k (k == c) refl)
  where
    pick : (k : ℕ) (e : Bool) → (k == c) ≡ e → cursor_leq (a.cursors k) (if e then u else b.cursors k) ≡ true
    pick k true e = subst (λ (n : ℕ). cursor_leq (a.cursors n) u ≡ true) (sym (eqb-true k c e)) h
    pick k false e = w.cursors k

forgotten_within : (a b : State) (c d : ℕ) → Within a b → cursor_leq (forgotten a c d) (forgotten b c d) ≡ true
forgotten_within a b c d w = pick (d == c) (known b c d) refl
  where
    pick : (e t : Bool) → known b c d ≡ t → cursor_leq (if e then a.cursors d else (if known a c d then a.cursors d else Unset)) (if e then b.cursors d else (if t then b.cursors d else Unset)) ≡ true
    pick true t h = w.cursors d
    pick false true h = ap (λ x. cursor_leq (if x then a.cursors d else Unset) (b.cursors d)) (known_within a b w c d h) ∙ w.cursors d
    pick false false h = refl

pub move_within : (a b : State) (c : ℕ) (v u : CursorKnown) → Within a b → cursor_leq v u ≡ true → Within (move_bucket c v a) (move_bucket c u b)
move_within a b c v u w h =
    moved_within a b (upd (forgotten a c) c v) (upd (forgotten b c) c u) w (upd_within IsLess (forgotten a c) (forgotten b c) c v u h (λ d. forgotten_within a b c d w))

-- Variables.

pub pool_within : (a b : State) (q : ℕ) (v u : PoolState) → Within a b → pool_leq v u ≡ true → Within (set_pool q v a) (set_pool q u b)
unfolding known
pool_within a b q v u w h = search (rules, upd_within (λ x y. pool_leq x y ≡ true) a.pools b.pools q v u h w.pools)

pub brigade_within : (a b : State) (n : ℕ) (v u : BrigadeKnown) → Within a b → brigade_leq v u ≡ true → Within (set_brigade n v a) (set_brigade n u b)
unfolding known
brigade_within a b n v u w h = search (rules, upd_within (λ x y. brigade_leq x y ≡ true) a.brigades b.brigades n v u h w.brigades)

pub sent_within : (a b : State) (x y : Bool) → Within a b → (x ≡ true → y ≡ true) → Within (record a { sent = x }) (record b { sent = y })
unfolding known
sent_within a b x y w h = search rules
