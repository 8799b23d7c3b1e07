-- A need that is met in a state is met in each one below it.
use Rattle.std.proofs.Common.{◌≡◌, ℕ, Bool, true, false, ◌&&◌, ◌||◌, not, ◌==◌, if◌then◌else◌, List, [], ◌∷◌, Option, Some, None, refl, ap, sym, ◌∙◌}
use Rattle.std.proofs.lemmas.Bool.{eqb-true}
use Rattle.module_code.specs.declared.instr.Instr.{Instr}
use Rattle.module_code.specs.declared.instr.Instr.TheVariants as instr
use Rattle.module_code.specs.declared.instr.PoolRef.{PoolRef}
use Rattle.module_code.specs.declared.instr.PoolRef.TheVariants as pool
use Rattle.run_model.specs.declared.fault.FaultKind.{FaultKind}
use Rattle.run_model.specs.declared.fault.FaultKind.TheVariants.{F1, F2, F5, F6, F7, F8, F10}
use Rattle.module_code.specs.Program.{Program}
use Rattle.run_model.specs.EffectOf.{effect_of, instr_with}
use Rattle.run_model.specs.Indexed.{any_below}
use Rattle.run_model.specs.Faults.{Need, Want, WPool, WBrigade, WUsable, WNew, WNewPool, WCursor, WHomes, WHome, WHomeAcross, WSend, WReturn, within_fault, end_fault, or_else, wants}
use Rattle.life_state.specs.declared.parts.Classes.{Classes}
use Rattle.life_state.specs.States.{is_live_alone, BrigadeKnown, is_live_brigade, is_usable_alone, CursorKnown, Unset, Loose, In, End, InOrEnd, State}
use Rattle.life_state.specs.Facts.{is_set}
use Rattle.life_state.specs.Order.{implies, content_leq, classes_leq, brigade_leq, cursor_leq}
use Rattle.life_state.specs.Rules.{cursor_need, pool_need, brigade_need, usable_need, homes_need, homes_at, send_limit, send_need, keeps_call, need, first_need}
use Rattle.life_state.specs.Form.{FormedBrigade, IsFormed}
use Rattle.life_state.proofs.FormNeeds.{or_none}
use Rattle.life_state.proofs.Tests.{split2, split3, and3, implies_says}
use Rattle.life_state.proofs.PartsOrder.{as_pool, content_trans}
use Rattle.life_state.proofs.JoinLeast.{BrigadeParts, parts}
use Rattle.life_state.proofs.Within.{Within}
use Rattle.life_state.proofs.WithinParts.{homes_call, homes_dead, any_more, alone_within, homes_at_within}

-- each need is met
unfoldable pub Met : State → List Want → Type 0
Met s [] = Unit {0}
Met s (w ∷ ws) = (need s w ≡ None) × Met s ws

pub met : (s : State) (ws : List Want) → first_need s ws ≡ None → Met s ws
unfolding Met
met s [] h = tt
met s (w ∷ ws) h = let both = or_none (need s w) (first_need s ws) h in (both.0, met s ws (both.1))

pub met_all : (s : State) (ws : List Want) → Met s ws → first_need s ws ≡ None
unfolding Met
met_all s [] h = refl
met_all s (w ∷ ws) h = ap (λ o. or_else o (first_need s ws)) (h.0) ∙ met_all s ws (h.1)

-- an instruction has all needs of the one that stands for its effect
pub needs_with : (p : Program) (i : Instr) (s : State) → first_need s (wants p i) ≡ None → first_need s (wants p (instr_with (effect_of i))) ≡ None
needs_with p (instr.Jump l) s none = refl
needs_with p i s none = cc

-- cursors whose homes are asked for are set
unfoldable pub Homed : State → List Want → Type 0
Homed s [] = Unit {0}
Homed s (WHome c ∷ ws) = (is_set (s.cursors c) ≡ true) × Homed s ws
Homed s (WPool q ∷ ws) = Homed s ws
Homed s (WBrigade b ∷ ws) = Homed s ws
Homed s (WUsable b ∷ ws) = Homed s ws
Homed s (WNew b ∷ ws) = Homed s ws
Homed s (WNewPool q ∷ ws) = Homed s ws
Homed s (WCursor c g ∷ ws) = Homed s ws
Homed s (WHomes b ∷ ws) = Homed s ws
Homed s (WHomeAcross b x ∷ ws) = Homed s ws
Homed s (WSend b ∷ ws) = Homed s ws
Homed s (WReturn ∷ ws) = Homed s ws

-- Tests that are met.

then_none : (t : Bool) (k : FaultKind) → (if t then None else Some k) ≡ None → t ≡ true
then_none true k h = refl
then_none false k h = cc

none_then : (t : Bool) (k : FaultKind) → t ≡ true → (if t then None else Some k) ≡ None
none_then t k h = ap (λ x. if x then None else Some k) h

-- a fault that does not arise under a weaker test
some_not : (t u : Bool) (k : FaultKind) → (u ≡ true → t ≡ true) → (if t then Some k else None) ≡ None → (if u then Some k else None) ≡ None
some_not t false k f h = refl
some_not true true k f h = h
some_not false true k f h = absurd (clash (f refl))
  where
    clash : false ≡ true → ⊥
    clash e = cc

place_need : (g : Need) (b c : ℕ) (f : Need → ℕ → Option FaultKind) → (b == c) ≡ true → f g c ≡ None → f g b ≡ None
place_need g b c f e h = ap (f g) (eqb-true b c e) ∙ h

number : (b c : ℕ) (s t : Classes) → (b == c && classes_leq s t) ≡ true → (b == c) ≡ true
number b c s t p = (split2 (b == c) (classes_leq s t) p).0

pub cursor_need_within : (g : Need) (x y : CursorKnown) → cursor_leq x y ≡ true → cursor_need g y ≡ None → cursor_need g x ≡ None
cursor_need_within g x Unset p h = cc
cursor_need_within g (Loose s h) (Loose t k) p n = n
cursor_need_within g (In b s) (In c t) p n = place_need g b c within_fault (number b c s t p) n
cursor_need_within g (In b s) (InOrEnd c t) p n = place_need g b c within_fault (number b c s t p) ((or_none (end_fault g c) (within_fault g c) n).1)
cursor_need_within g (InOrEnd b s) (InOrEnd c t) p n = place_need g b c (λ g i. or_else (end_fault g i) (within_fault g i)) (number b c s t p) n
cursor_need_within g (End b) (End c) p n = place_need g b c end_fault p n
cursor_need_within g (End b) (InOrEnd c t) p n = place_need g b c end_fault p ((or_none (end_fault g c) (within_fault g c) n).0)
cursor_need_within g x (Loose t k) p n = cc
cursor_need_within g x (In c t) p n = cc
cursor_need_within g x (End c) p n = cc
cursor_need_within g x (InOrEnd c t) p n = cc

-- a cursor that stands somewhere is set
pub there : (g : Need) (y : CursorKnown) → cursor_need g y ≡ None → is_set y ≡ true
there g Unset n = cc
there g (Loose t k) n = refl
there g (In c t) n = refl
there g (End c) n = refl
there g (InOrEnd c t) n = refl

limits : (x y : Bool) → (x ≡ true → y ≡ true) → content_leq (send_limit y) (send_limit x) ≡ true
limits true true f = refl
limits true false f = absurd (clash (f refl))
  where
    clash : false ≡ true → ⊥
    clash e = cc
limits false true f = refl
limits false false f = refl

none_above : (p q : Bool) → implies p q ≡ true → not q ≡ true → p ≡ false
none_above true true b d = cc
none_above true false b d = cc
none_above false q b d = refl

first_alone : (u p : Bool) → (u || p) ≡ true → p ≡ false → (u && not p) ≡ true
first_alone true p c none = ap not none
first_alone false p c none = cc

live_within : (v u : BrigadeKnown) → brigade_leq v u ≡ true → FormedBrigade v → is_live_brigade u ≡ true → is_live_brigade v ≡ true
live_within v u p f h =
    let of = parts v u p in
    alone_within (as_pool v) (as_pool u) (and3 (implies v.null u.null) (implies v.gone u.gone) (implies v.live u.live) of.null of.gone of.live) f.some h

usable_within : (v u : BrigadeKnown) → brigade_leq v u ≡ true → FormedBrigade v → is_live_brigade v ≡ true → is_usable_alone u ≡ true → is_usable_alone v ≡ true
usable_within v u p f live h =
    let of = parts v u p in
    first_alone v.usable v.passed (sym f.marks ∙ (split3 v.live (not v.null) (not v.gone) live).0)
    (none_above v.passed u.passed of.passed (split2 u.usable (not u.passed) h).1)

both_none : (t u : Bool) (j k : FaultKind) → (if t then (if u then None else Some j) else Some k) ≡ None → (t ≡ true) × (u ≡ true)
both_none true true j k h = (refl, refl)
both_none true false j k h = cc
both_none false u j k h = cc

none_both : (t u : Bool) (j k : FaultKind) → t ≡ true → u ≡ true → (if t then (if u then None else Some j) else Some k) ≡ None
none_both t u j k p q = ap (λ x. if x then (if u then None else Some j) else Some k) p ∙ ap (λ x. if x then None else Some j) q

module _ (s t : State) (f : IsFormed s) (w : Within s t) where
  pool_met : (q : PoolRef) → pool_need t q ≡ None → pool_need s q ≡ None
  pool_met pool.Conn h = refl
  pool_met pool.Req h = refl
  pool_met (pool.Own q) h = none_then (is_live_alone (s.pools q)) F1 (alone_within (s.pools q) (t.pools q) (w.pools q) (f.pools q) (then_none (is_live_alone (t.pools q)) F1 h))

  brigade_met : (b : ℕ) → brigade_need (t.brigades b) ≡ None → brigade_need (s.brigades b) ≡ None
  brigade_met b h = none_then (is_live_brigade (s.brigades b)) F2 (live_within (s.brigades b) (t.brigades b) (w.brigades b) (f.brigades b) (then_none (is_live_brigade (t.brigades b)) F2 h))

  usable_met : (b : ℕ) → usable_need (t.brigades b) ≡ None → usable_need (s.brigades b) ≡ None
  usable_met b h =
      let both = both_none (is_live_brigade (t.brigades b)) (is_usable_alone (t.brigades b)) F7 F2 h in
      let live = live_within (s.brigades b) (t.brigades b) (w.brigades b) (f.brigades b) (both.0) in
      none_both (is_live_brigade (s.brigades b)) (is_usable_alone (s.brigades b)) F7 F2 live (usable_within (s.brigades b) (t.brigades b) (w.brigades b) (f.brigades b) live (both.1))

  of : (b : ℕ) → BrigadeParts (s.brigades b) (t.brigades b)
  of b = parts (s.brigades b) (t.brigades b) (w.brigades b)

  homes_met : (b : ℕ) → homes_need (t.brigades b).homes ≡ None → homes_need (s.brigades b).homes ≡ None
  homes_met b = some_not (t.brigades b).homes.dead (s.brigades b).homes.dead F5 (homes_dead (s.brigades b).homes (t.brigades b).homes (of b).homes)

  home_met : (c : ℕ) → is_set (t.cursors c) ≡ true → homes_need (homes_at t (t.cursors c)) ≡ None → homes_need (homes_at s (s.cursors c)) ≡ None
  home_met c set =
      some_not (homes_at t (t.cursors c)).dead (homes_at s (s.cursors c)).dead F5
      (homes_dead (homes_at s (s.cursors c)) (homes_at t (t.cursors c)) (homes_at_within s t (s.cursors c) (t.cursors c) w.brigades set (w.cursors c)))

  send_met : (b : ℕ) → send_need t.sent (t.brigades b) ≡ None → send_need s.sent (s.brigades b) ≡ None
  send_met b h =
      none_then (content_leq (s.brigades b).content (send_limit s.sent)) F8
      (content_trans (s.brigades b).content (t.brigades b).content (send_limit s.sent) (of b).content
      (content_trans (t.brigades b).content (send_limit t.sent) (send_limit s.sent) (then_none (content_leq (t.brigades b).content (send_limit t.sent)) F8 h) (limits s.sent t.sent w.sent)))

  keeps : (b : ℕ) → keeps_call (s.brigades b) ≡ true → keeps_call (t.brigades b) ≡ true
  keeps b h =
      let v = s.brigades b in
      let u = t.brigades b in
      let h3 = split3 v.live v.usable v.homes.call h in
      and3 u.live u.usable u.homes.call (implies_says v.live u.live (of b).live (h3.0)) (implies_says v.usable u.usable (of b).usable (h3.1)) (homes_call v.homes u.homes (of b).homes (h3.2))

  pub needs_within : (ws : List Want) → Homed t ws → Met t ws → Met s ws
  unfolding Homed Met
  needs_within [] k h = tt
  needs_within (WPool q ∷ ws) k h = (pool_met q (h.0), needs_within ws k (h.1))
  needs_within (WBrigade b ∷ ws) k h = (brigade_met b (h.0), needs_within ws k (h.1))
  needs_within (WUsable b ∷ ws) k h = (usable_met b (h.0), needs_within ws k (h.1))
  needs_within (WNew b ∷ ws) k h = (some_not (t.brigades b).live (s.brigades b).live F10 (implies_says (s.brigades b).live (t.brigades b).live (of b).live) (h.0), needs_within ws k (h.1))
  needs_within (WNewPool q ∷ ws) k h = (
    some_not (t.pools q).live (s.pools q).live F10 (implies_says (s.pools q).live (t.pools q).live
        ((split3 (implies (s.pools q).null (t.pools q).null) (implies (s.pools q).gone (t.pools q).gone) (implies (s.pools q).live (t.pools q).live) (w.pools q)).2)) (h.0),
    needs_within ws k (h.1),
  )
  needs_within (WCursor c g ∷ ws) k h = (cursor_need_within g (s.cursors c) (t.cursors c) (w.cursors c) (h.0), needs_within ws k (h.1))
  needs_within (WHomes b ∷ ws) k h = (homes_met b (h.0), needs_within ws k (h.1))
  needs_within (WHome c ∷ ws) k h = (home_met c (k.0) (h.0), needs_within ws (k.1) (h.1))
  needs_within (WHomeAcross b x ∷ ws) k h = (homes_met b (h.0), needs_within ws k (h.1))
  needs_within (WSend b ∷ ws) k h = (send_met b (h.0), needs_within ws k (h.1))
  needs_within (WReturn ∷ ws) k h = (
    some_not (any_below 8 (λ b. keeps_call (t.brigades b))) (any_below 8 (λ b. keeps_call (s.brigades b))) F6
        (any_more 8 (λ b. keeps_call (s.brigades b)) (λ b. keeps_call (t.brigades b)) (λ b low. keeps b)) (h.0),
    needs_within ws k (h.1),
  )
