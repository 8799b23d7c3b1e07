-- States in form pass the test of form.
use Rattle.std.proofs.Common.{◌≡◌, ℕ, ◌<◌, ◌≤◌, Bool, true, false, ◌&&◌, ◌||◌, not, nat_lt, nat_le, inl, inr, ◌⊎◌, refl, sym, ap, subst, ◌∙◌, ◌≢◌}
use Rattle.std.proofs.Math.Dec.{eqb, ltb}
use Rattle.std.proofs.Math.Bool.{beq}
use Rattle.std.proofs.lemmas.Bool.{cases_lt, cases_eq, lt-ltb, le-leb, eq-eqb}
use Rattle.module_code.specs.declared.instr.PoolRef.TheVariants as pool
use Rattle.life_state.specs.declared.parts.PoolState.{PoolState}
use Rattle.life_state.specs.Order.{all_below, is_at_hand}
use Rattle.life_state.specs.Rules.{is_empty, some_class}
use Rattle.life_state.specs.States.{Homes, BrigadeKnown, CursorKnown, Unset, Loose, In, End, InOrEnd, State, is_live_brigade, never_made, no_homes, only_null}
use Rattle.life_state.specs.Form.{some_pool, FormedBrigade, AtHand, FormedCursor, is_to_write, IsFormed}
use Rattle.life_state.specs.FormTests.{NamesBelow, FormedPool, FormedPlace}
use Rattle.life_state.specs.InForm.{names_below, is_free, is_null, is_unmade, is_formed_pool, is_formed_brigade, is_formed_place, has_at_hand, is_formed_cursor, is_formed_fact, is_formed_at}
use Rattle.life_state.specs.InForm.{is_formed}
use Rattle.life_state.proofs.Below.{all_below_holds}
use Rattle.life_state.proofs.Tests.{and2, and3, or_left, or_right}

beq_same : (a b : Bool) → a ≡ b → beq a b ≡ true
beq_same true true h = refl
beq_same false false h = refl
beq_same true false h = cc h
beq_same false true h = cc h

-- one that holds, or the other does where it does not
or_else : (a b : Bool) → (a ≡ false → b ≡ true) → (a || b) ≡ true
or_else true b h = refl
or_else false b h = h refl

pub passes_brigade : (v : BrigadeKnown) (free : Bool) → (v.homes ≡ no_homes → free ≡ true) → FormedBrigade v
    → ((((v.null || v.gone) || v.live) && beq v.live (v.usable || v.passed)) && (v.usable || (is_empty v.content && free))) ≡ true
passes_brigade v free none f =
    and2 (((v.null || v.gone) || v.live) && beq v.live (v.usable || v.passed)) (v.usable || (is_empty v.content && free))
    (and2 ((v.null || v.gone) || v.live) (beq v.live (v.usable || v.passed)) f.some (beq_same v.live (v.usable || v.passed) f.marks))
    (or_else v.usable (is_empty v.content && free) (λ unused. let bare = f.bare unused in and2 (is_empty v.content) free (ap is_empty bare.0) (none bare.1)))

-- below the bound, or what holds from there on
below_or : (q n : ℕ) (b : Bool) → (n ≤ q → b ≡ true) → (ltb q n || b) ≡ true
below_or q n b h = at (cases_lt q n)
  where
    at : (q < n) ⊎ (n ≤ q) → (ltb q n || b) ≡ true
    at (inl k) = or_left (ltb q n) b (lt-ltb q n k)
    at (inr k) = or_right (ltb q n) b (h k)

-- one that is there only where it is low
pub low_or_none : (q n : ℕ) (b : Bool) → (b ≡ true → q < n) → (nat_lt q n || not b) ≡ true
low_or_none q n true h = or_left (nat_lt q n) false (lt-ltb q n (h refl))
low_or_none q n false h = or_right (nat_lt q n) true refl

pub passes_pool : (s : State) (q : ℕ) (v : PoolState) (null : Bool) → v ≡ s.pools q → (v ≡ only_null → null ≡ true) → FormedPool s q
    → (((v.null || v.gone) || v.live) && (ltb q s.pool_count || null)) ≡ true
passes_pool s q v null at is f =
    and2 ((v.null || v.gone) || v.live) (ltb q s.pool_count || null) (ap some_pool at ∙ f.0) (below_or q s.pool_count null (λ past. is (at ∙ f.1 past)))

pub passes_place : (s : State) (b : ℕ) (v : BrigadeKnown) (f d u : Bool) → v ≡ s.brigades b → (FormedBrigade v → f ≡ true) → (NamesBelow s.pool_count v.homes → d ≡ true) → (v ≡ never_made → u ≡ true)
    → FormedPlace s b → ((f && d) && ((eqb b 8 || ltb b s.brigade_count) || u)) ≡ true
passes_place s b v f d u at formed declared unmade h =
    and2 (f && d) ((eqb b 8 || ltb b s.brigade_count) || u)
    (and2 f d (formed (subst FormedBrigade (sym at) h.0)) (declared (subst (λ (w : BrigadeKnown). NamesBelow s.pool_count w.homes) (sym at) h.1.0)))
    (last (cases_eq b 8))
  where
    last : (b ≡ 8) ⊎ (b ≢ 8) → ((eqb b 8 || ltb b s.brigade_count) || u) ≡ true
    last (inl k) = or_left (eqb b 8 || ltb b s.brigade_count) u (or_left (eqb b 8) (ltb b s.brigade_count) (eq-eqb b 8 k))
    last (inr k) = at_other (cases_lt b s.brigade_count)
      where
        at_other : (b < s.brigade_count) ⊎ (s.brigade_count ≤ b) → ((eqb b 8 || ltb b s.brigade_count) || u) ≡ true
        at_other (inl j) = or_left (eqb b 8 || ltb b s.brigade_count) u (or_right (eqb b 8) (ltb b s.brigade_count) (lt-ltb b s.brigade_count j))
        at_other (inr j) = or_right (eqb b 8 || ltb b s.brigade_count) u (unmade (at ∙ h.1.1 j k))

-- no homes are none of any kind
pub passes_free : (h : Homes) (named : Bool) → (NamesBelow 0 h → named ≡ true) → h ≡ no_homes → (((not h.call && not h.dead) && not (h.at pool.Req)) && named) ≡ true
passes_free h named is none =
    and2 ((not h.call && not h.dead) && not (h.at pool.Req)) named (ap (λ (k : Homes). (not k.call && not k.dead) && not (k.at pool.Req)) none)
    (is (subst (NamesBelow 0) (sym none) (refl, λ q e. cc e)))

pub passes_in : (v : BrigadeKnown) (unmade : Bool) → (v ≡ never_made → unmade ≡ true) → (v ≡ never_made) ⊎ (is_live_brigade v ≡ true) → (unmade || ((v.live && not v.null) && not v.gone)) ≡ true
passes_in v unmade is (inl h) = or_left unmade ((v.live && not v.null) && not v.gone) (is h)
passes_in v unmade is (inr h) = or_right unmade ((v.live && not v.null) && not v.gone) (part v.live (not v.null) (not v.gone) h)
  where
    part : (a b c : Bool) → (a && b && c) ≡ true → ((a && b) && c) ≡ true
    part true true c h = h
    part true false c h = cc h
    part false b c h = cc h

-- The whole test.

pub passes_homes : (n : ℕ) (h : Homes) → NamesBelow n h → names_below n h ≡ true
passes_homes n h f =
    and2 (not (h.at pool.Conn)) (all_below 8 (λ q. nat_lt q n || not (h.at (pool.Own q)))) (ap not (f.0))
    (all_below_holds 8 (λ q. nat_lt q n || not (h.at (pool.Own q))) (λ q low. low_or_none q n (h.at (pool.Own q)) (f.1 q)))

passes_one : (v : BrigadeKnown) → FormedBrigade v → is_formed_brigade v ≡ true
passes_one v f = passes_brigade v (is_free v.homes) (λ e. passes_free v.homes (names_below 0 v.homes) (passes_homes 0 v.homes) e) f

passes_hand : (s : State) (b : ℕ) → AtHand s b → has_at_hand s b ≡ true
passes_hand s b h = and2 (nat_lt b 9) (is_at_hand (s.brigades b)) (lt-ltb b 9 (h.0)) (h.1)

passes_cursor : (s : State) (x : CursorKnown) → FormedCursor s x → is_formed_cursor s x ≡ true
passes_cursor s Unset f = refl
passes_cursor s (Loose t h) f = and2 (some_class t) (names_below s.pool_count h) (f.0) (passes_homes s.pool_count h (f.1))
passes_cursor s (In b t) f = and2 (some_class t) (has_at_hand s b) (f.0) (passes_hand s b (f.1))
passes_cursor s (End b) f = passes_hand s b f
passes_cursor s (InOrEnd b t) f = and2 (some_class t) (has_at_hand s b) (f.0) (passes_hand s b (f.1))

-- written only where it has to be
due_or_none : (due written : Bool) → (written ≡ true → due ≡ true) → (due || not written) ≡ true
due_or_none due true h = or_left due false (h refl)
due_or_none due false h = or_right due true refl

pub passes_form : (s : State) → IsFormed s → is_formed s ≡ true
unfolding is_formed
passes_form s f =
    and2 (counts && few && brought && all_below 8 (is_formed_pool s)) (all_below 9 (is_formed_at s))
    (and2 (counts && few && brought) (all_below 8 (is_formed_pool s))
    (and3 counts few brought (le-leb s.pool_count 8 f.pool_count) (le-leb s.brigade_count 8 f.brigade_count) (passes_in (s.brigades 8) (is_unmade (s.brigades 8)) (λ e. ap is_unmade e) f.brought))
    (all_below_holds 8 (is_formed_pool s) (λ q low. passes_pool s q (s.pools q) (is_null (s.pools q)) refl (λ e. ap is_null e) (f.pools q, f.no_pools q))))
    (all_below_holds 9 (is_formed_at s) at)
  where
    counts : Bool
    counts = nat_le s.pool_count 8

    few : Bool
    few = nat_le s.brigade_count 8

    brought : Bool
    brought = is_unmade (s.brigades 8) || is_live_brigade (s.brigades 8)

    place : (b : ℕ) → is_formed_place s b ≡ true
    place b =
        let v = s.brigades b in
        passes_place s b v (is_formed_brigade v) (names_below s.pool_count v.homes) (is_unmade v) refl (passes_one v) (passes_homes s.pool_count v.homes) (λ e. ap is_unmade e)
        (f.brigades b, (f.homes b, f.no_brigades b))

    fact : (c d : ℕ) → is_formed_fact s c d ≡ true
    fact c d = and2 (is_to_write s c d || not (s.facts c d)) (beq (s.facts c d) (s.facts d c)) (due_or_none (is_to_write s c d) (s.facts c d) (f.facts c d))
        (beq_same (s.facts c d) (s.facts d c) (f.symmetric c d))

    at : (k : ℕ) → k < 9 → is_formed_at s k ≡ true
    at k low =
        and3 (is_formed_place s k) (is_formed_cursor s (s.cursors k)) (all_below 9 (is_formed_fact s k)) (place k) (passes_cursor s (s.cursors k) (f.cursors k))
        (all_below_holds 9 (is_formed_fact s k) (λ d below. fact k d))
