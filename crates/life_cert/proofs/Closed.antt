-- After the rounds, what is handed on stands where it arrives.
use Rattle.std.proofs.Common.{◌≡◌, ℕ, zero, suc, Bool, true, false, if◌then◌else◌, List, [], ◌∷◌, ◌++◌, length, All, ◌⊎◌, inl, inr, Option, Some, None, refl, ap, sym, ◌∙◌, subst, arith}
use Rattle.std.proofs.lemmas.List.Elements.{All-nil, All-cons}
use Rattle.module_code.specs.Program.{Program, IsModule}
use Rattle.run_model.proofs.Updates.{upd_at}
use Rattle.life_state.specs.States.{State}
use Rattle.life_state.specs.Order.{leq, join}
use Rattle.life_state.specs.Rules.{at_open}
use Rattle.life_state.proofs.JoinAbove.{join_above}
use Rattle.life_state.proofs.OrderLaws.{leq_trans}
use Rattle.life_check.specs.Certificates.{Certificate}
use Rattle.life_check.specs.Typed.{is_below}
use Rattle.life_check.proofs.Completed.{below_itself}
use Rattle.life_cert.specs.declared.fixpoint.StatePlace.{StatePlace}
use Rattle.life_cert.specs.declared.fixpoint.StatePlace.TheVariants as place
use Rattle.life_cert.specs.Rounds.{Arrival, FixpointState, state_at, with_state, handed_by, handed_on, grow, merge_by, merge, arrived, round, nothing, begun, rounds, enough, made}
use Rattle.life_cert.specs.Fitting.{IsFit, IsOf}
use Rattle.life_cert.specs.Laws.{HasGrown, is_in_main, StatesAreClosed}
use Rattle.life_cert.proofs.Arriving.{read_written, merge_keeps}
use Rattle.life_cert.proofs.RoundsFit.{handed_on_fits, alike, forgotten, rounds_fit, arrived_grows}
use Rattle.life_cert.proofs.RoundsFormed.{Good, AllFormed, on_good, rounds_formed}
use Rattle.life_cert.proofs.Enough.{rounds_end}

abbrev UnderCert : Certificate → Arrival → Type 0
UnderCert c a = is_below a.state (state_at c a.place) ≡ true

pub under_grown : (s : State) (o q : Option State) → HasGrown o q → is_below s o ≡ true → is_below s q ≡ true
under_grown s None q h k = cc
under_grown s (Some t) None h k = absurd h
under_grown s (Some t) (Some u) h k = elim h [ inl e ↦ subst (λ (x : State). leq s x ≡ true) e k | inr le ↦ leq_trans s t u k le ]

written : (w : StatePlace) (s : State) (c : Certificate) → state_at (with_state w s c) w ≡ Some s
written place.Idle s c = refl
written place.Ready s c = refl
written (place.At pc) s c = upd_at c.at pc (Some s)

under_at : (s t : State) (o : Option State) → o ≡ Some t → leq s t ≡ true → is_below s o ≡ true
under_at s t o e h = ap (is_below s) e ∙ h

under_by : (p : Program) (a : Arrival) (g : FixpointState) (o : Option State) → state_at g.states a.place ≡ o → IsOf p g → IsFit p a → Good p a → UnderCert (merge_by o a g).states a
under_by p a g None e h fit good =
    under_at a.state a.state (state_at (with_state a.place a.state g.states) a.place) (written a.place a.state g.states) (below_itself p (is_in_main p a.place) a.state good)
under_by p a g (Some t) e h fit good = by_order (leq a.state t) refl
  where
    by_order : (b : Bool) → leq a.state t ≡ b → UnderCert (if b then g else grow a.place (join t a.state) g).states a
    by_order true below = under_at a.state t (state_at g.states a.place) e below
    by_order false apart =
        under_at a.state (join t a.state) (state_at (with_state a.place (join t a.state) g.states) a.place) (written a.place (join t a.state) g.states)
        ((join_above t a.state (alike p t a.state (h.states a.place t e) fit.declared)).1)

arrived_under : (p : Program) (rest : List Arrival) (g : FixpointState) → IsOf p g → All (IsFit p) rest → All (Good p) rest → All (UnderCert (arrived rest g).states) rest
unfolding arrived
arrived_under p [] g h fit good = All-nil (UnderCert g.states)
arrived_under p (a ∷ rest) g h fit good =
    let first : IsFit p a = fit 0 a (omega arith) in
    let next = merge_keeps p a g h first in
    let others : All (IsFit p) rest = λ k d below. fit (suc k) d (omega arith) in
    All-cons (UnderCert (arrived rest (merge a g)).states) a rest
    (under_grown a.state (state_at (merge a g).states a.place) (state_at (arrived rest (merge a g)).states a.place) (arrived_grows p rest (merge a g) next others a.place)
    (under_by p a g (state_at g.states a.place) refl h first (good 0 a (omega arith))))
    (arrived_under p rest (merge a g) next others (λ k d below. good (suc k) d (omega arith)))

-- Which places grew.

Has : StatePlace → List StatePlace → Type 0
Has v [] = ⊥
Has v (w ∷ ws) = (v ≡ w) ⊎ Has v ws

has_left : (v : StatePlace) (xs ys : List StatePlace) → Has v xs → Has v (xs ++ ys)
unfolding Has
has_left v [] ys h = absurd h
has_left v (x ∷ xs) ys h = elim h [ inl e ↦ inl e | inr more ↦ inr (has_left v xs ys more) ]

has_last : (v w : StatePlace) (xs : List StatePlace) → v ≡ w → Has v (xs ++ w ∷ [])
unfolding Has
has_last v w [] e = inl e
has_last v w (x ∷ xs) e = inr (has_last v w xs e)

grow_same : (v w : StatePlace) (s : State) (g : FixpointState) → Has v (grow w s g).changed ⊎ (state_at (grow w s g).states v ≡ state_at g.states v)
grow_same v w s g = elim (read_written w v s g.states) [ inl here ↦ inl (has_last v w g.changed (here.0)) | inr other ↦ inr other ]

same_by : (v : StatePlace) (a : Arrival) (g : FixpointState) (o : Option State) → Has v (merge_by o a g).changed ⊎ (state_at (merge_by o a g).states v ≡ state_at g.states v)
same_by v a g None = grow_same v a.place a.state g
same_by v a g (Some t) = elim (leq a.state t) as (λ b. Has v (if b then g else grow a.place (join t a.state) g).changed ⊎
    (state_at (if b then g else grow a.place (join t a.state) g).states v ≡ state_at g.states v)) [ true ↦ inr refl | false ↦ grow_same v a.place (join t a.state) g ]

still_by : (v : StatePlace) (a : Arrival) (g : FixpointState) (o : Option State) → Has v g.changed → Has v (merge_by o a g).changed
still_by v a g None h = has_left v g.changed (a.place ∷ []) h
still_by v a g (Some t) h = elim (leq a.state t) as (λ b. Has v (if b then g else grow a.place (join t a.state) g).changed) [ true ↦ h | false ↦ has_left v g.changed (a.place ∷ []) h ]

still : (v : StatePlace) (rest : List Arrival) (g : FixpointState) → Has v g.changed → Has v (arrived rest g).changed
unfolding arrived
still v [] g h = h
still v (a ∷ rest) g h = still v rest (merge a g) (still_by v a g (state_at g.states a.place) h)

arrived_same : (v : StatePlace) (rest : List Arrival) (g : FixpointState) → Has v (arrived rest g).changed ⊎ (state_at (arrived rest g).states v ≡ state_at g.states v)
unfolding arrived
arrived_same v [] g = inr refl
arrived_same v (a ∷ rest) g =
    elim (same_by v a g (state_at g.states a.place)) [
      | inl has ↦ inl (still v rest (merge a g) has)
      | inr same ↦ elim (arrived_same v rest (merge a g)) [ inl has ↦ inl has | inr later ↦ inr (later ∙ same) ]
    ]

-- What the places hand on that grew in the last round.

all_front : (Q : Arrival → Type 0) (xs ys : List Arrival) → All Q (xs ++ ys) → All Q xs
all_front Q [] ys h = All-nil Q
all_front Q (x ∷ xs) ys h = All-cons Q x xs (h 0 x (omega arith)) (all_front Q xs ys (λ k d below. h (suc k) d (omega arith)))

all_back : (Q : Arrival → Type 0) (xs ys : List Arrival) → All Q (xs ++ ys) → All Q ys
all_back Q [] ys h = h
all_back Q (x ∷ xs) ys h = all_back Q xs ys (λ k d below. h (suc k) d (omega arith))

has_handed : (p : Program) (c : Certificate) (Q : Arrival → Type 0) (v : StatePlace) (ws : List StatePlace) → Has v ws → All Q (handed_on p c ws) → All Q (handed_by p v (state_at c v))
unfolding Has handed_on
has_handed p c Q v [] has h = absurd has
has_handed p c Q v (w ∷ ws) has h =
    elim has [
      | inl e ↦ subst (λ (x : StatePlace). All Q (handed_by p x (state_at c x))) (sym e) (all_front Q (handed_by p w (state_at c w)) (handed_on p c ws) h)
      | inr more ↦ has_handed p c Q v ws more (all_back Q (handed_by p w (state_at c w)) (handed_on p c ws) h)
    ]

all_grown : (c d : Certificate) → ((v : StatePlace) → HasGrown (state_at c v) (state_at d v)) → (rest : List Arrival) → All (UnderCert c) rest → All (UnderCert d) rest
all_grown c d more [] h = All-nil (UnderCert d)
all_grown c d more (a ∷ rest) h =
    All-cons (UnderCert d) a rest (under_grown a.state (state_at c a.place) (state_at d a.place) (more a.place) (h 0 a (omega arith)))
    (all_grown c d more rest (λ k e below. h (suc k) e (omega arith)))

-- a place grew in the last round, or what it hands on stands where it arrives
abbrev ClosedBut : Program → FixpointState → StatePlace → Type 0
ClosedBut p g w = Has w g.changed ⊎ All (UnderCert g.states) (handed_by p w (state_at g.states w))

begun_closed : (p : Program) (w : StatePlace) → ClosedBut p (begun p) w
unfolding Has
begun_closed p w =
    elim (read_written (place.At 0) w (at_open (length p.pools) (length p.brigades)) (nothing p)) [
      | inl here ↦ inl (inl (here.0))
      | inr other ↦ inr (subst (λ (o : Option State). All (UnderCert (begun p).states) (handed_by p w o)) (sym (other ∙ nothing_at w)) (All-nil (UnderCert (begun p).states)))
    ]
  where
    nothing_at : (v : StatePlace) → state_at (nothing p) v ≡ None
    nothing_at place.Idle = refl
    nothing_at place.Ready = refl
    nothing_at (place.At pc) = refl

round_closed : (p : Program) → IsModule p → (g : FixpointState) → IsOf p g → AllFormed p g.states → ((w : StatePlace) → ClosedBut p g w) → (w : StatePlace) → ClosedBut p (round p g) w
round_closed p m g h formed closed w =
    let start : FixpointState = record { states = g.states; changed = [] } in
    let rest = handed_on p g.states g.changed in
    let of : IsOf p start = forgotten p g h in
    let fit : All (IsFit p) rest = handed_on_fits p m g.states g.changed h.states h.places in
    let good : All (Good p) rest = on_good p m g.states g.changed formed in
    elim (arrived_same w rest start) [
      | inl has ↦ inl has
      | inr same ↦ inr (subst (λ (o : Option State). All (UnderCert (round p g).states) (handed_by p w o)) (sym same)
          (elim (closed w) [
            | inl has ↦ has_handed p g.states (UnderCert (round p g).states) w g.changed has (arrived_under p rest start of fit good)
            | inr all ↦ all_grown g.states (round p g).states (arrived_grows p rest start of fit) (handed_by p w (state_at g.states w)) all
          ]))
    ]

rounds_closed : (p : Program) → IsModule p → (n : ℕ) (w : StatePlace) → ClosedBut p (rounds n p (begun p)) w
unfolding rounds
rounds_closed p m zero w = begun_closed p w
rounds_closed p m (suc n) w = round_closed p m (rounds n p (begun p)) (rounds_fit p m n) (rounds_formed p m n) (rounds_closed p m n) w

none_has : (w : StatePlace) (ws : List StatePlace) → ws ≡ [] → Has w ws → ⊥
unfolding Has
none_has w ws e h = subst (Has w) e h

pub states_are_closed : StatesAreClosed
unfolding made
states_are_closed p m w =
    elim (rounds_closed p m (enough p) w) [
      | inl has ↦ absurd (none_has w (rounds (enough p) p (begun p)).changed (rounds_end p m) has)
      | inr all ↦ all
    ]
