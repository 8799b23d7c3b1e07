-- What needs that are met say of a state in form.
use Rattle.std.proofs.Common.{◌≡◌, ℕ, ◌<◌, ◌≤◌, Bool, true, false, ◌&&◌, if◌then◌else◌, Option, Some, None, refl, ap, sym, ◌∙◌, ⊎_elim, arith}
use Rattle.std.proofs.lemmas.Bool.{cases_lt, lt-ltb}
use Rattle.module_code.specs.declared.instr.PoolRef.{PoolRef}
use Rattle.module_code.specs.declared.instr.PoolRef.TheVariants as pool
use Rattle.module_code.specs.Tables.{place_is_declared}
use Rattle.run_model.specs.declared.fault.FaultKind.{FaultKind}
use Rattle.run_model.specs.declared.fault.FaultKind.TheVariants.{F1, F2, F4, F7}
use Rattle.run_model.specs.Faults.{Need, OnBucket, OnLoose, InBrigade, end_fault, or_else}
use Rattle.life_state.specs.States.{is_live_alone, BrigadeKnown, is_live_brigade, is_usable_alone, CursorKnown, Unset, Loose, In, End, InOrEnd, State}
use Rattle.life_state.specs.Order.{is_at_hand}
use Rattle.life_state.specs.Rules.{cursor_need, pool_need, brigade_need, usable_need}
use Rattle.life_state.specs.Form.{AtHand, IsFormed}
use Rattle.life_state.proofs.FormSteps.{AtBucket}

pub or_none : (a b : Option FaultKind) → or_else a b ≡ None → (a ≡ None) × (b ≡ None)
or_none None b h = (refl, h)
or_none (Some k) b h = cc

if_none : (t : Bool) (k : FaultKind) → (if t then None else Some k) ≡ None → t ≡ true
if_none true k h = refl
if_none false k h = cc

both_none : (t u : Bool) (j k : FaultKind) → (if t then (if u then None else Some j) else Some k) ≡ None → (t && u) ≡ true
both_none true true j k h = refl
both_none true false j k h = cc
both_none false u j k h = cc

pub live_there : (v : BrigadeKnown) → brigade_need v ≡ None → is_live_brigade v ≡ true
live_there v h = if_none (is_live_brigade v) F2 h

-- a brigade that is at hand is one of the nine
pub hand_there : (s : State) (b : ℕ) → IsFormed s → usable_need (s.brigades b) ≡ None → AtHand s b
hand_there s b f h =
    let hand = both_none (is_live_brigade (s.brigades b)) (is_usable_alone (s.brigades b)) F7 F2 h in
    (⊎_elim (λ (low : b < 9). low) (λ (high : 9 ≤ b). absurd (clash (sym (ap is_at_hand (f.no_brigades b (omega (arith, f.brigade_count)) (omega arith))) ∙ hand))) (cases_lt b 9), hand)
  where
    clash : false ≡ true → ⊥
    clash e = cc

-- a pool that is live is declared
pub pool_there : (s : State) (q : ℕ) → IsFormed s → pool_need s (pool.Own q) ≡ None → q < s.pool_count
pool_there s q f h =
    ⊎_elim (λ (low : q < s.pool_count). low)
    (λ (high : s.pool_count ≤ q). absurd (clash (sym (ap is_live_alone (f.no_pools q high)) ∙ if_none (is_live_alone (s.pools q)) F1 h)))
    (cases_lt q s.pool_count)
  where
    clash : false ≡ true → ⊥
    clash e = cc

pub place_there : (s : State) (q : PoolRef) → IsFormed s → pool_need s q ≡ None → place_is_declared s.pool_count q ≡ true
place_there s pool.Conn f h = refl
place_there s pool.Req f h = refl
place_there s (pool.Own q) f h = lt-ltb q s.pool_count (pool_there s q f h)

-- Cursors.

bucket_there : (f : Need) (x : CursorKnown) → ((b : ℕ) → end_fault f b ≡ None → ⊥) → cursor_need f x ≡ None → AtBucket x
bucket_there f Unset ends h = cc
bucket_there f (Loose t k) ends h = tt
bucket_there f (In b t) ends h = tt
bucket_there f (End b) ends h = ends b h
bucket_there f (InOrEnd b t) ends h = ends b ((or_none _ _ h).0)

refused : (k : FaultKind) → Some k ≡ None → ⊥
refused k h = cc

pub on_bucket : (x : CursorKnown) → cursor_need OnBucket x ≡ None → AtBucket x
on_bucket x h = bucket_there OnBucket x (λ b. refused F4) h

pub on_loose : (x : CursorKnown) → cursor_need OnLoose x ≡ None → AtBucket x
on_loose x h = bucket_there OnLoose x (λ b. refused F4) h

pub in_brigade : (x : CursorKnown) → cursor_need InBrigade x ≡ None → AtBucket x
in_brigade x h = bucket_there InBrigade x (λ b. refused F4) h
