-- The rounds that are made are enough: each in which a state grows adds to what all states weigh together.
use Rattle.std.proofs.Common.{◌≡◌, ℕ, zero, suc, ◌+◌, ◌*◌, ◌<◌, ◌≤◌, Bool, true, false, if◌then◌else◌, List, [], ◌∷◌, ◌++◌, length, All, ◌⊎◌, inl, inr, Option, Some, None, refl, ap, sym, ◌∙◌, subst}
use Rattle.std.proofs.Common.{arith, ltb-true, length-append}
use Rattle.module_code.specs.Program.{Program, IsModule}
use Rattle.run_model.specs.Indexed.{upd}
use Rattle.run_model.proofs.Updates.{upd_at, upd_off}
use Rattle.life_state.specs.States.{State}
use Rattle.life_state.specs.Order.{leq, join}
use Rattle.life_check.specs.Certificates.{Certificate}
use Rattle.life_cert.specs.declared.fixpoint.StatePlace.{StatePlace}
use Rattle.life_cert.specs.declared.fixpoint.StatePlace.TheVariants as place
use Rattle.life_cert.specs.Rounds.{Arrival, FixpointState, state_at, with_state, handed_on, grow, merge_by, merge, arrived, round, begun, rounds, enough}
use Rattle.life_cert.specs.Fitting.{is_inside, IsFit, IsOf}
use Rattle.life_cert.specs.Laws.{RoundsEnd}
use Rattle.life_cert.proofs.Arriving.{merge_keeps}
use Rattle.life_cert.proofs.RoundsFit.{handed_on_fits, alike, forgotten, rounds_fit}
use Rattle.life_cert.proofs.Settled.{settled}
use Rattle.life_cert.proofs.Rises.{sum_to, sum_more, sum_small}
use Rattle.life_cert.proofs.Weights.{weight, weight_small, join_heavier}

height : Option State → ℕ
height None = 0
height (Some s) = suc (weight s)

height_small : (o : Option State) → height o ≤ 511
unfolding height
height_small None = omega arith
height_small (Some s) = let h = weight_small s in omega arith

-- what all states weigh together
abbrev load : Program → Certificate → ℕ
load p c = height c.idle + height c.ready + sum_to (length p.code) (λ k. height (c.at k))

load_small : (p : Program) (c : Certificate) → load p c ≤ 511 * (length p.code + 2)
load_small p c =
    let a = height_small c.idle in
    let b = height_small c.ready in
    let d = sum_small (length p.code) 511 (λ k. height (c.at k)) (λ k h. height_small (c.at k)) in
    omega arith

heavier : (p : Program) (w : StatePlace) (s : State) (c : Certificate) → is_inside (length p.code) w ≡ true → height (state_at c w) < height (Some s) → load p c < load p (with_state w s c)
heavier p place.Idle s c inside more = omega arith
heavier p place.Ready s c inside more = omega arith
heavier p (place.At pc) s c inside more =
    let here : height (c.at pc) < height (upd c.at pc (Some s) pc) = subst (λ (o : Option State). height (c.at pc) < height o) (sym (upd_at c.at pc (Some s))) more in
    let all = sum_more (length p.code) pc (λ k. height (c.at k)) (λ k. height (upd c.at pc (Some s) k)) (ltb-true pc (length p.code) inside) here
    (λ k below ne. ap height (sym (upd_off c.at pc k (Some s) ne))) in
    omega arith

-- Each growth is paid for.
abbrev Paid : Program → FixpointState → FixpointState → Type 0
Paid p g h = load p g.states + length h.changed ≤ load p h.states + length g.changed

grow_paid : (p : Program) (w : StatePlace) (s : State) (g : FixpointState) → is_inside (length p.code) w ≡ true → height (state_at g.states w) < height (Some s) → Paid p g (grow w s g)
grow_paid p w s g inside more =
    let load_more = heavier p w s g.states inside more in
    let one_more : length (g.changed ++ w ∷ []) ≡ length g.changed + 1 = length-append g.changed (w ∷ []) in
    omega arith

some_height : (s t : State) → weight s < weight t → height (Some s) < height (Some t)
unfolding height
some_height s t h = omega arith

none_height : (s : State) → height None < height (Some s)
unfolding height
none_height s = omega arith

paid_by : (p : Program) (a : Arrival) (g : FixpointState) (o : Option State) → state_at g.states a.place ≡ o → IsOf p g → IsFit p a → Paid p g (merge_by o a g)
paid_by p a g None e h fit = grow_paid p a.place a.state g fit.inside (subst (λ (o : Option State). height o < height (Some a.state)) (sym e) (none_height a.state))
paid_by p a g (Some t) e h fit = by_order (leq a.state t) refl
  where
    by_order : (b : Bool) → leq a.state t ≡ b → Paid p g (if b then g else grow a.place (join t a.state) g)
    by_order true below = omega arith
    by_order false apart =
        grow_paid p a.place (join t a.state) g fit.inside
        (subst (λ (o : Option State). height o < height (Some (join t a.state))) (sym e)
        (some_height t (join t a.state) (join_heavier t a.state (alike p t a.state (h.states a.place t e) fit.declared) apart)))

arrived_paid : (p : Program) (rest : List Arrival) (g : FixpointState) → IsOf p g → All (IsFit p) rest → Paid p g (arrived rest g)
unfolding arrived
arrived_paid p [] g h fit = omega arith
arrived_paid p (a ∷ rest) g h fit =
    let first : IsFit p a = fit 0 a (omega arith) in
    let now : Paid p g (merge a g) = paid_by p a g (state_at g.states a.place) refl h first in
    let later : Paid p (merge a g) (arrived rest (merge a g)) = arrived_paid p rest (merge a g) (merge_keeps p a g h first) (λ k d below. fit (suc k) d (omega arith)) in
    omega arith

round_paid : (p : Program) → IsModule p → (g : FixpointState) → IsOf p g → load p g.states + length (round p g).changed ≤ load p (round p g).states
round_paid p m g h =
    let paid : Paid p (record { states = g.states; changed = [] }) (round p g)
    = arrived_paid p (handed_on p g.states g.changed) (record { states = g.states; changed = [] }) (forgotten p g h) (handed_on_fits p m g.states g.changed h.states h.places) in
    omega arith

by_list : (p : Program) (g h : FixpointState) (n : ℕ) (ws : List StatePlace) → h.changed ≡ ws → n ≤ load p g.states → load p g.states + length h.changed ≤ load p h.states
    → (h.changed ≡ []) ⊎ (suc n ≤ load p h.states)
by_list p g h n [] e so_far paid = inl e
by_list p g h n (w ∷ ws) e so_far paid = let long = ap length e in inr (omega arith)

counted : (p : Program) → IsModule p → (n : ℕ) → ((rounds n p (begun p)).changed ≡ []) ⊎ (n ≤ load p (rounds n p (begun p)).states)
unfolding rounds
counted p m zero = inr (omega arith)
counted p m (suc n) =
    let g = rounds n p (begun p) in
    elim (counted p m n) [
      | inl none ↦ inl (ap (λ (h : FixpointState). h.changed) (settled p g none) ∙ none)
      | inr so_far ↦ by_list p g (round p g) n (round p g).changed refl so_far (round_paid p m g (rounds_fit p m n))
    ]

too_many : (p : Program) (n : ℕ) → enough p ≤ n → n ≤ 511 * (length p.code + 2) → ⊥
unfolding enough
too_many p n h k = omega arith

pub rounds_end : RoundsEnd
rounds_end p m =
    let last = rounds (enough p) p (begun p) in
    elim (counted p m (enough p)) [
      | inl none ↦ none
      | inr many ↦ absurd (too_many p (load p last.states) many (load_small p last.states))
    ]
