-- The forms of brigades and homes, by what makes them.
use Rattle.std.proofs.Common.{◌≡◌, ℕ, ◌<◌, Bool, true, false, ◌&&◌, ◌||◌, not, ◌==◌, nat_lt, refl, ap, ap₂, sym, subst, ◌∙◌, ⊎_elim}
use Rattle.std.proofs.lemmas.Bool.{eqb-true, ltb-true}
use Rattle.module_code.specs.declared.instr.PoolRef.{PoolRef}
use Rattle.module_code.specs.declared.instr.PoolRef.TheVariants as pool
use Rattle.module_code.specs.Tables.{place_is_declared}
use Rattle.life_state.specs.declared.parts.Contents.{Contents}
use Rattle.life_state.specs.declared.parts.PoolState.{PoolState}
use Rattle.life_state.specs.States.{Homes, no_homes, only_call, home_in, homes_join, dead_where, ended_pool, BrigadeKnown, never_made, holds, passed_on, is_live_brigade, is_usable_alone}
use Rattle.life_state.specs.States.{ended_brigade, with_homes, State}
use Rattle.life_state.specs.Order.{content_join, brigade_join, is_at_hand}
use Rattle.life_state.specs.Rules.{brigade_not_null}
use Rattle.life_state.specs.Form.{some_pool, NamesDeclared, FormedBrigade}
use Rattle.life_state.proofs.ClearLaws.{none_dead}
use Rattle.life_state.proofs.Tests.{split2, or_either, or_false}

-- Homes.

pub no_named : (s : State) → NamesDeclared s no_homes
no_named s = (refl, λ q h. cc)

pub call_named : (s : State) → NamesDeclared s only_call
call_named s = (refl, λ q h. cc)

pub homes_join_named : (s : State) (h k : Homes) → NamesDeclared s h → NamesDeclared s k → NamesDeclared s (homes_join h k)
homes_join_named s h k a b =
    (ap₂ ◌||◌ (a.0) (b.0), λ q e. ⊎_elim (a.1 q) (b.1 q) (or_either (h.at (pool.Own q)) (k.at (pool.Own q)) e))

pub dead_named : (s : State) (under : PoolRef → Bool) (h : Homes) → NamesDeclared s h → NamesDeclared s (dead_where under h)
dead_named s under h a =
    (ap (λ x. x && not (under pool.Conn)) (a.0), λ q e. a.1 q ((split2 (h.at (pool.Own q)) (not (under (pool.Own q))) e).0))

-- a pool that is declared, and where it is a variable, of so many
pub home_named : (s : State) (q : PoolRef) → place_is_declared s.pool_count q ≡ true → NamesDeclared s (home_in q)
home_named s pool.Conn h = (refl, λ q e. cc)
home_named s pool.Req h = (refl, λ q e. cc)
home_named s (pool.Own i) h =
    (refl, λ q e. subst (λ (n : ℕ). n < s.pool_count) (eqb-true i q ((split2 (i == q) (nat_lt i 8) e).0)) (ltb-true i s.pool_count h))

-- Brigades.

pub holds_formed : (c : Contents) (h : Homes) → FormedBrigade (holds c h)
holds_formed c h = record { some = refl; marks = refl; bare = λ e. cc }

pub passed_formed : FormedBrigade passed_on
passed_formed = record { some = refl; marks = refl; bare = λ e. (refl, refl) }

pub never_formed : FormedBrigade never_made
never_formed = record { some = refl; marks = refl; bare = λ e. (refl, refl) }

-- what may be live may be gone
some_ended : (a b c : Bool) → (a || b || c) ≡ true → (a || (b || c) || false) ≡ true
some_ended true b c h = refl
some_ended false true c h = refl
some_ended false false true h = refl
some_ended false false false h = cc

pub ended_formed : (v : BrigadeKnown) → FormedBrigade v → FormedBrigade (ended_brigade v)
ended_formed v f = record { some = some_ended v.null v.gone v.live f.some; marks = refl; bare = λ e. (refl, refl) }

pub ended_some : (v : PoolState) → some_pool v ≡ true → some_pool (ended_pool v) ≡ true
ended_some v h = some_ended v.null v.gone v.live h

pub dead_formed : (under : PoolRef → Bool) (v : BrigadeKnown) → FormedBrigade v → FormedBrigade (with_homes (dead_where under) v)
dead_formed under v f = record {
  some = f.some;
  marks = f.marks;
  bare = λ e. ((f.bare e).0, ap (dead_where under) ((f.bare e).1) ∙ none_dead under);
}

-- the homes of a usable brigade are any
pub usable_formed : (change : Homes → Homes) (v : BrigadeKnown) → is_at_hand v ≡ true → FormedBrigade v → FormedBrigade (with_homes change v)
usable_formed change v hand f =
    let usable = (split2 v.usable (not v.passed) ((split2 (is_live_brigade v) (is_usable_alone v) hand).1)).0 in
    record { some = f.some; marks = f.marks; bare = λ e. absurd (clash (sym usable ∙ e)) }
  where
    clash : true ≡ false → ⊥
    clash h = cc

pub not_null_formed : (v : BrigadeKnown) → (v.gone || v.live) ≡ true → FormedBrigade v → FormedBrigade (brigade_not_null v)
not_null_formed v h f = record { some = h; marks = f.marks; bare = f.bare }

-- Of two.

pub some_left : (a b c d e f : Bool) → (a || b || c) ≡ true → ((a || d) || (b || e) || (c || f)) ≡ true
some_left true b c d e f h = refl
some_left false b c true e f h = refl
some_left false true c false e f h = refl
some_left false false c false true f h = refl
some_left false false true false false f h = refl
some_left false false false false false f h = cc

crossed : (a b c d : Bool) → ((a || b) || (c || d)) ≡ ((a || c) || (b || d))
crossed true b c d = refl
crossed false true true d = refl
crossed false true false d = refl
crossed false false true d = refl
crossed false false false d = refl

pub brigade_join_formed : (a b : BrigadeKnown) → FormedBrigade a → FormedBrigade b → FormedBrigade (brigade_join a b)
unfolding brigade_join
brigade_join_formed a b f g = record {
  some = some_left a.null a.gone a.live b.null b.gone b.live f.some;
  marks = ap₂ ◌||◌ f.marks g.marks ∙ crossed a.usable a.passed b.usable b.passed;
  bare = λ e. let off = or_false a.usable b.usable e in
      (ap₂ content_join ((f.bare (off.0)).0) ((g.bare (off.1)).0), ap₂ homes_join ((f.bare (off.0)).1) ((g.bare (off.1)).1));
}

-- what is live and usable is not null
pub hand_not_null : (v : BrigadeKnown) → is_at_hand v ≡ true → is_at_hand (brigade_not_null v) ≡ true
hand_not_null v h = part v.live (not v.null) (not v.gone) (is_usable_alone v) h
  where
    part : (a b c d : Bool) → (a && b && c && d) ≡ true → (a && true && c && d) ≡ true
    part true true c d h = h
    part true false c d h = cc
    part false b c d h = cc
