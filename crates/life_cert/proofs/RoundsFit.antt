-- The states of all rounds are of the module, and only grow.
use Rattle.std.proofs.Common.{◌≡◌, ℕ, zero, suc, ◌<◌, true, false, ◌==◌, if◌then◌else◌, List, [], ◌∷◌, length, All, inl, inr, Option, Some, None, slice_get, refl, sym, ◌∙◌, subst, arith, lt-ltb}
use Rattle.std.proofs.Common.{ltb-true, eq-eqb}
use Rattle.std.proofs.lemmas.List.Elements.{All-nil, All-cons, All-append}
use Rattle.module_code.specs.declared.instr.Instr.{Instr}
use Rattle.module_code.specs.Program.{Program, IsModule}
use Rattle.life_state.specs.States.{State}
use Rattle.life_state.specs.Order.{same_variables, leq, join}
use Rattle.life_state.proofs.JoinAbove.{join_above}
use Rattle.life_state.proofs.OrderLaws.{leq_trans}
use Rattle.life_state.proofs.Tests.{and2}
use Rattle.life_check.specs.Certificates.{Certificate}
use Rattle.life_cert.specs.declared.fixpoint.StatePlace.{StatePlace}
use Rattle.life_cert.specs.declared.fixpoint.StatePlace.TheVariants as place
use Rattle.life_cert.specs.Rounds.{Arrival, FixpointState, state_at, handed_by_line, handed_by, handed_on, grow, merge_by, merge, arrived, round, begun, rounds}
use Rattle.life_cert.specs.Fitting.{is_inside, IsDeclared, IsFit, IsOf}
use Rattle.life_cert.specs.Laws.{HasGrown, StatesOnlyGrow}
use Rattle.life_cert.proofs.Handed.{line_fits, ready_fits}
use Rattle.life_cert.proofs.Arriving.{read_written, merge_keeps, begun_fits}

-- What is handed on fits.

line_by : (p : Program) → IsModule p → (pc : ℕ) (s : State) (o : Option Instr) → slice_get p.code pc ≡ o → pc < length p.code → IsDeclared p s
    → All (IsFit p) (handed_by_line p pc (slice_get p.code pc) s)
line_by p m pc s None e inside h = subst (λ (o : Option Instr). All (IsFit p) (handed_by_line p pc o s)) (sym e) (All-nil (IsFit p))
line_by p m pc s (Some i) e inside h = line_fits p pc i s e inside (m.placed pc i e) h

handed_by_fits : (p : Program) → IsModule p → (w : StatePlace) (o : Option State) → is_inside (length p.code) w ≡ true → ((s : State) → o ≡ Some s → IsDeclared p s) → All (IsFit p) (handed_by p w o)
handed_by_fits p m w None inside h = All-nil (IsFit p)
handed_by_fits p m place.Idle (Some s) inside h =
    All-cons (IsFit p) (record { place = place.At p.init; state = s }) [] (record { inside = lt-ltb p.init (length p.code) m.inits; declared = h s refl }) (All-nil (IsFit p))
handed_by_fits p m place.Ready (Some s) inside h = ready_fits p s m.mains (h s refl)
handed_by_fits p m (place.At pc) (Some s) inside h = line_by p m pc s (slice_get p.code pc) refl (ltb-true pc (length p.code) inside) (h s refl)

pub handed_on_fits : (p : Program) → IsModule p → (c : Certificate) (ws : List StatePlace) → ((w : StatePlace) (s : State) → state_at c w ≡ Some s → IsDeclared p s)
    → All (λ w. is_inside (length p.code) w ≡ true) ws → All (IsFit p) (handed_on p c ws)
unfolding handed_on
handed_on_fits p m c [] h inside = All-nil (IsFit p)
handed_on_fits p m c (w ∷ ws) h inside =
    All-append (IsFit p) (handed_by p w (state_at c w)) (handed_on p c ws)
    (handed_by_fits p m w (state_at c w) (inside 0 w (omega arith)) (h w))
    (handed_on_fits p m c ws h (λ k d below. inside (suc k) d (omega arith)))

-- What has arrived.

pub grown_same : (o : Option State) → HasGrown o o
grown_same None = tt
grown_same (Some s) = inl refl

grown_on : (o q r : Option State) → HasGrown o q → HasGrown q r → HasGrown o r
grown_on None q r h k = tt
grown_on (Some s) None r h k = absurd h
grown_on (Some s) (Some t) None h k = absurd k
grown_on (Some s) (Some t) (Some u) h k =
    elim h [
      | inl e ↦ subst (λ (x : State). HasGrown (Some x) (Some u)) (sym e) k
      | inr le ↦ elim k [ inl e ↦ inr (subst (λ (x : State). leq s x ≡ true) e le) | inr more ↦ inr (leq_trans s t u le more) ]
    ]

pub alike : (p : Program) (s t : State) → IsDeclared p s → IsDeclared p t → same_variables s t ≡ true
alike p s t h k =
    and2 (s.pool_count == t.pool_count) (s.brigade_count == t.brigade_count) (eq-eqb s.pool_count t.pool_count (h.pools ∙ sym k.pools))
    (eq-eqb s.brigade_count t.brigade_count (h.brigades ∙ sym k.brigades))

grown_at : (w v : StatePlace) (s : State) (g : FixpointState) → HasGrown (state_at g.states w) (Some s) → HasGrown (state_at g.states v) (state_at (grow w s g).states v)
grown_at w v s g h =
    elim (read_written w v s g.states) [
      | inl here ↦ subst (HasGrown (state_at g.states v)) (sym (here.1)) (subst (λ (x : StatePlace). HasGrown (state_at g.states x) (Some s)) (sym (here.0)) h)
      | inr other ↦ subst (HasGrown (state_at g.states v)) (sym other) (grown_same (state_at g.states v))
    ]

grows_by : (p : Program) (a : Arrival) (g : FixpointState) (o : Option State) → state_at g.states a.place ≡ o → IsOf p g → IsFit p a → (v : StatePlace)
    → HasGrown (state_at g.states v) (state_at (merge_by o a g).states v)
grows_by p a g None e h fit v = grown_at a.place v a.state g (subst (λ (x : Option State). HasGrown x (Some a.state)) (sym e) tt)
grows_by p a g (Some t) e h fit v =
    elim (leq a.state t) as (λ b. HasGrown (state_at g.states v) (state_at (if b then g else grow a.place (join t a.state) g).states v)) [
      | true ↦ grown_same (state_at g.states v)
      | false ↦ grown_at a.place v (join t a.state) g
          (subst (λ (x : Option State). HasGrown x (Some (join t a.state))) (sym e) (inr ((join_above t a.state (alike p t a.state (h.states a.place t e) fit.declared)).0)))
    ]

arrived_fits : (p : Program) (rest : List Arrival) (g : FixpointState) → IsOf p g → All (IsFit p) rest → IsOf p (arrived rest g)
unfolding arrived
arrived_fits p [] g h fit = h
arrived_fits p (a ∷ rest) g h fit = arrived_fits p rest (merge a g) (merge_keeps p a g h (fit 0 a (omega arith))) (λ k d below. fit (suc k) d (omega arith))

pub arrived_grows : (p : Program) (rest : List Arrival) (g : FixpointState) → IsOf p g → All (IsFit p) rest → (v : StatePlace) → HasGrown (state_at g.states v) (state_at (arrived rest g).states v)
unfolding arrived
arrived_grows p [] g h fit v = grown_same (state_at g.states v)
arrived_grows p (a ∷ rest) g h fit v =
    let first : IsFit p a = fit 0 a (omega arith) in
    grown_on (state_at g.states v) (state_at (merge a g).states v) (state_at (arrived rest (merge a g)).states v)
    (grows_by p a g (state_at g.states a.place) refl h first v)
    (arrived_grows p rest (merge a g) (merge_keeps p a g h first) (λ k d below. fit (suc k) d (omega arith)) v)

-- Rounds.

pub forgotten : (p : Program) (g : FixpointState) → IsOf p g → IsOf p (record { states = g.states; changed = [] })
forgotten p g h = record { few = h.few; lines = h.lines; states = h.states; places = All-nil (λ w. is_inside (length p.code) w ≡ true) }

round_fits : (p : Program) → IsModule p → (g : FixpointState) → IsOf p g → IsOf p (round p g)
round_fits p m g h = arrived_fits p (handed_on p g.states g.changed) (record { states = g.states; changed = [] }) (forgotten p g h) (handed_on_fits p m g.states g.changed h.states h.places)

pub rounds_fit : (p : Program) → IsModule p → (n : ℕ) → IsOf p (rounds n p (begun p))
unfolding rounds
rounds_fit p m zero = begun_fits p m.pools m.opens
rounds_fit p m (suc n) = round_fits p m (rounds n p (begun p)) (rounds_fit p m n)

pub states_only_grow : StatesOnlyGrow
unfolding rounds
states_only_grow p m n w =
    let g = rounds n p (begun p) in
    let h = rounds_fit p m n in
    arrived_grows p (handed_on p g.states g.changed) (record { states = g.states; changed = [] }) (forgotten p g h) (handed_on_fits p m g.states g.changed h.states h.places) w
