-- Each state of the rounds is below that of every certificate that is accepted.
use Rattle.std.proofs.Common.{◌≡◌, ℕ, zero, suc, ◌+◌, Bool, true, false, ◌&&◌, nat_lt, if◌then◌else◌, List, [], ◌∷◌, length, All, inl, inr, Option, Some, None, IfSome, unwrap_or, Result, slice_get}
use Rattle.std.proofs.Common.{refl, ap, sym, ◌∙◌, subst, arith}
use Rattle.std.proofs.lemmas.List.Elements.{All-nil, All-cons, All-append}
use Rattle.module_code.specs.declared.instr.Instr.{Instr}
use Rattle.module_code.specs.declared.instr.Instr.TheVariants as instr
use Rattle.module_code.specs.Program.{Program, IsModule, target}
use Rattle.run_model.specs.declared.fault.FaultKind.{FaultKind}
use Rattle.life_state.specs.States.{State}
use Rattle.life_state.specs.Order.{leq, join}
use Rattle.life_state.specs.Rules.{Edges, rule, at_open, at_main, at_return, at_end_of_request}
use Rattle.life_state.specs.Form.{IsFormed}
use Rattle.life_state.specs.Monotone.{edge_leq, LeadsBelow}
use Rattle.life_state.proofs.JoinLeast.{join_least}
use Rattle.life_state.proofs.WithinRules.{rules_are_monotone, entries_are_monotone}
use Rattle.life_check.specs.Certificates.{Certificate, AreFormed}
use Rattle.life_check.specs.Typed.{is_below, flows, main_from, request_end, left_by, exits, IsLed, IsTyped}
use Rattle.life_cert.specs.declared.fixpoint.StatePlace.{StatePlace}
use Rattle.life_cert.specs.declared.fixpoint.StatePlace.TheVariants as place
use Rattle.life_cert.specs.Rounds.{Arrival, FixpointState, state_at, arriving, left_place, returned, edges_arriving, handed_by_rule, handed_by_line, handed_by, handed_on, grow, merge_by, merge, arrived}
use Rattle.life_cert.specs.Rounds.{nothing, begun, rounds, enough, made}
use Rattle.life_check.proofs.Completed.{below_trans}
use Rattle.life_cert.specs.Least.{IsBelow}
use Rattle.life_cert.proofs.Arriving.{read_written}
use Rattle.life_cert.proofs.RoundsFormed.{AllFormed, Good, on_good, formed_by, rounds_formed}

abbrev pub CertUnder : Certificate → Arrival → Type 0
CertUnder c a = is_below a.state (state_at c a.place) ≡ true

join_under : (s t : State) (o : Option State) → IsFormed s → IfSome o IsFormed → is_below s o ≡ true → is_below t o ≡ true → is_below (join s t) o ≡ true
join_under s t None f g p q = cc
join_under s t (Some u) f g p q = join_least s t u f g p q

clash : false ≡ true → ⊥
clash e = cc

pub formed_at : (c : Certificate) → AreFormed c → (w : StatePlace) → IfSome (state_at c w) IsFormed
formed_at c f place.Idle = f.idle
formed_at c f place.Ready = f.ready
formed_at c f (place.At pc) = f.at pc

module _ (p : Program) (c : Certificate) (typed : IsTyped p c) (formed : AreFormed c) where
  -- What is handed on.

  edge_under : (w : StatePlace) (o q : Option State) → edge_leq o q ≡ true → flows q (state_at c w) ≡ true → All (CertUnder c) (arriving w o)
  edge_under w None q le h = All-nil (CertUnder c)
  edge_under w (Some a) None le h = absurd (clash le)
  edge_under w (Some a) (Some b) le h = All-cons (CertUnder c) (record { place = w; state = a }) [] (below_trans a b (state_at c w) le h) (All-nil (CertUnder c))

  left_at : (pc : ℕ) → state_at c (left_place p pc) ≡ left_by p c pc
  left_at pc = elim (nat_lt pc p.init) as (λ b. state_at c (if b then place.Idle else place.Ready) ≡ (if b then c.idle else c.ready)) [ true ↦ refl | false ↦ refl ]

  return_under : (pc : ℕ) (i : Instr) (s t : State) → IsFormed s → IsFormed t → leq s t ≡ true → exits p c pc i t ≡ true → All (CertUnder c) (arriving (left_place p pc) (returned i s))
  return_under pc (instr.Ret u) s t f g le h =
      All-cons (CertUnder c) (record { place = left_place p pc; state = at_return s }) []
      (below_trans (at_return s) (at_return t) (state_at c (left_place p pc)) (entries_are_monotone.returns s t f g le) (ap (is_below (at_return t)) (left_at pc) ∙ h)) (All-nil (CertUnder c))
  return_under pc _ s t f g le h = All-nil (CertUnder c)

  and_both : (x y : Bool) → (x && y) ≡ true → (x ≡ true) × (y ≡ true)
  and_both true y h = (refl, h)
  and_both false y h = cc

  led_under : (pc : ℕ) (i : Instr) (s t : State) → IsFormed s → IsFormed t → leq s t ≡ true → IsLed p c pc i t → All (CertUnder c) (handed_by_rule p pc i s (rule p i s))
  led_under pc i s t f g le h =
      let less : LeadsBelow p i s h.edges = rules_are_monotone p i s t h.edges f g le h.safe in
      let d = less.edges in
      let on = and_both (flows h.edges.next (c.at (pc + 1))) (flows h.edges.jump (c.at (unwrap_or (target i) 0))) h.leads in
      subst (λ (r : Result Edges FaultKind). All (CertUnder c) (handed_by_rule p pc i s r)) (sym less.safe)
      (All-append (CertUnder c) (edges_arriving pc i d) (arriving (left_place p pc) (returned i s))
      (All-append (CertUnder c) (arriving (place.At (pc + 1)) d.next) (arriving (place.At (unwrap_or (target i) 0)) d.jump)
      (edge_under (place.At (pc + 1)) d.next h.edges.next less.next (on.0)) (edge_under (place.At (unwrap_or (target i) 0)) d.jump h.edges.jump less.jump (on.1)))
      (return_under pc i s t f g le h.exits))

  line_under : (pc : ℕ) (s t : State) (o : Option Instr) → slice_get p.code pc ≡ o → c.at pc ≡ Some t → IsFormed s → IsFormed t → leq s t ≡ true → All (CertUnder c) (handed_by_line p pc o s)
  line_under pc s t None e here f g le = All-nil (CertUnder c)
  line_under pc s t (Some i) e here f g le = led_under pc i s t f g le (typed.lines pc i t e here)

  -- by the state of the certificate
  by_under : (w : StatePlace) (s : State) (q : Option State) → state_at c w ≡ q → IsFormed s → is_below s q ≡ true → All (CertUnder c) (handed_by p w (Some s))
  by_under w s None e f h = absurd (clash h)
  by_under place.Idle s (Some t) e f le =
      edge_under (place.At p.init) (Some s) c.idle (ap (edge_leq (Some s)) e ∙ le) typed.inits
  by_under place.Ready s (Some t) e f le =
      let g : IsFormed t = subst (λ (o : Option State). IfSome o IsFormed) e formed.ready in
      All-append (CertUnder c) (arriving (place.At p.main) (Some (at_main s))) (arriving place.Idle (Some (at_end_of_request p s)))
      (edge_under (place.At p.main) (Some (at_main s)) (main_from c.ready)
      (ap (λ (o : Option State). edge_leq (Some (at_main s)) (main_from o)) e ∙ entries_are_monotone.serves s t f g le) typed.serves)
      (edge_under place.Idle (Some (at_end_of_request p s)) (request_end p c.ready)
      (ap (λ (o : Option State). edge_leq (Some (at_end_of_request p s)) (request_end p o)) e ∙ entries_are_monotone.ends p s t f g le) typed.requests)
  by_under (place.At pc) s (Some t) e f le = line_under pc s t (slice_get p.code pc) refl e f (subst (λ (o : Option State). IfSome o IsFormed) e (formed.at pc)) le

  handed_under : (w : StatePlace) (o : Option State) → ((s : State) → o ≡ Some s → IsFormed s × (is_below s (state_at c w) ≡ true)) → All (CertUnder c) (handed_by p w o)
  handed_under w None h = All-nil (CertUnder c)
  handed_under w (Some s) h = let both = h s refl in by_under w s (state_at c w) refl (both.0) (both.1)

  on_under : (d : Certificate) (ws : List StatePlace) → AllFormed p d → IsBelow d c → All (CertUnder c) (handed_on p d ws)
  unfolding handed_on
  on_under d [] f h = All-nil (CertUnder c)
  on_under d (w ∷ ws) f h =
      All-append (CertUnder c) (handed_by p w (state_at d w)) (handed_on p d ws) (handed_under w (state_at d w) (λ s e. ((f.each w s e).formed, h w s e))) (on_under d ws f h)

  -- What arrives.

  grow_under : (w : StatePlace) (s : State) (g : FixpointState) → is_below s (state_at c w) ≡ true → IsBelow g.states c → IsBelow (grow w s g).states c
  grow_under w s g new h v t e =
      elim (read_written w v s g.states) [
        | inl here ↦ subst (λ (x : StatePlace). is_below t (state_at c x) ≡ true) (sym (here.0)) (subst (λ (x : State). is_below x (state_at c w) ≡ true) (some_is (sym (here.1) ∙ e)) new)
        | inr other ↦ h v t (sym other ∙ e)
      ]
    where
      some_is : {x y : State} → Some x ≡ Some y → x ≡ y
      some_is k = cc

  under_by : (a : Arrival) (g : FixpointState) (o : Option State) → state_at g.states a.place ≡ o → AllFormed p g.states → CertUnder c a → IsBelow g.states c → IsBelow (merge_by o a g).states c
  under_by a g None e f new h = grow_under a.place a.state g new h
  under_by a g (Some t) e f new h =
      elim (leq a.state t) as (λ b. IsBelow (if b then g else grow a.place (join t a.state) g).states c)
      [ true ↦ h | false ↦ grow_under a.place (join t a.state) g (join_under t a.state (state_at c a.place) (f.each a.place t e).formed (formed_at c formed a.place) (h a.place t e) new) h ]

  arrived_under : (rest : List Arrival) (g : FixpointState) → AllFormed p g.states → All (Good p) rest → All (CertUnder c) rest → IsBelow g.states c → IsBelow (arrived rest g).states c
  unfolding arrived
  arrived_under [] g f good new h = h
  arrived_under (a ∷ rest) g f good new h =
      arrived_under rest (merge a g) (formed_by p a g (state_at g.states a.place) refl f (good 0 a (omega arith))) (λ k d below. good (suc k) d (omega arith))
      (λ k d below. new (suc k) d (omega arith))
      (under_by a g (state_at g.states a.place) refl f (new 0 a (omega arith)) h)

  -- Rounds.

  none_under : (w : StatePlace) (s : State) → state_at (nothing p) w ≡ Some s → is_below s (state_at c w) ≡ true
  none_under place.Idle s e = cc
  none_under place.Ready s e = cc
  none_under (place.At pc) s e = cc

  rounds_under : IsModule p → (n : ℕ) → IsBelow (rounds n p (begun p)).states c
  unfolding rounds
  rounds_under m zero = grow_under (place.At 0) (at_open (length p.pools) (length p.brigades)) (record { states = nothing p; changed = [] }) typed.opens none_under
  rounds_under m (suc n) =
      let g = rounds n p (begun p) in
      let f = rounds_formed p m n in
      let h = rounds_under m n in
      arrived_under (handed_on p g.states g.changed) (record { states = g.states; changed = [] }) f (on_good p m g.states g.changed f) (on_under g.states g.changed f h) h

pub made_is_least : (p : Program) (c : Certificate) → IsModule p → AreFormed c → IsTyped p c → IsBelow (made p) c
unfolding made
made_is_least p c m formed typed = rounds_under p c typed formed m (enough p)
