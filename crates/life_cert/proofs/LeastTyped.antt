-- Where some certificate is accepted, that of the rounds is.
use Rattle.std.proofs.Common.{◌≡◌, ℕ, zero, suc, ◌+◌, ◌<◌, true, false, ◌&&◌, not, nat_lt, nat_le, if◌then◌else◌, List, [], ◌∷◌, ◌++◌, length, All, inl, inr, Option, Some, None, IfSome, unwrap_or}
use Rattle.std.proofs.Common.{Result, Ok, Err, slice_get, refl, ap, ap₂, sym, ◌∙◌, subst, arith}
use Rattle.std.proofs.lemmas.List.Elements.{All-nil, All-cons, All-append, All-head}
use Rattle.module_code.specs.declared.instr.Instr.{Instr}
use Rattle.module_code.specs.declared.instr.Instr.TheVariants as instr
use Rattle.module_code.specs.declared.instr.PoolRef.TheVariants as pool
use Rattle.module_code.specs.Program.{Program, IsModule, target}
use Rattle.run_model.specs.declared.fault.FaultKind.{FaultKind}
use Rattle.run_model.proofs.Updates.{upd_at}
use Rattle.life_state.specs.States.{Unset, State}
use Rattle.life_state.specs.Facts.{is_set, moved}
use Rattle.life_state.specs.Order.{leq, join, cursor_join, kept_cursor, joined_brigades}
use Rattle.life_state.specs.PoolOrder.{is_under}
use Rattle.life_state.specs.Rules.{Edges, rule, cleared_cursor, cleared_under, at_open, at_main, at_return, at_end_of_request}
use Rattle.life_state.specs.Form.{IsFormed}
use Rattle.life_state.specs.InForm.{is_formed}
use Rattle.life_state.specs.FormLaws.{IsFormedIn}
use Rattle.life_state.proofs.Below.{all_below_holds}
use Rattle.life_state.proofs.FormPasses.{passes_form}
use Rattle.life_state.proofs.Tests.{and2, and3}
use Rattle.life_state.proofs.WithinRules.{rules_are_monotone}
use Rattle.life_check.specs.Certificates.{Certificate, AreFormed}
use Rattle.life_check.specs.Typed.{is_below, flows, declares, has_in, has_no_cursor, fits_between, fits_line, fits_lines, has_shape, main_from, request_end, left_by, exits, leads_on, first_refusal, IsLed}
use Rattle.life_check.specs.Typed.{IsTyped}
use Rattle.life_check.proofs.Completed.{below_itself, declared, line_fits}
use Rattle.life_check.proofs.TypedLaws.{none_typed}
use Rattle.life_cert.specs.declared.fixpoint.StatePlace.{StatePlace}
use Rattle.life_cert.specs.declared.fixpoint.StatePlace.TheVariants as place
use Rattle.life_cert.specs.Rounds.{Arrival, FixpointState, state_at, with_state, arriving, left_place, returned, edges_arriving, handed_by_rule, handed_by_line, handed_by, handed_on, grow, merge_by, merge}
use Rattle.life_cert.specs.Rounds.{arrived, nothing, begun, rounds, enough, made}
use Rattle.life_cert.specs.Laws.{is_in_main}
use Rattle.life_cert.proofs.Arriving.{read_written}
use Rattle.life_cert.proofs.RoundsFit.{rounds_fit, states_only_grow}
use Rattle.life_cert.proofs.RoundsFormed.{begun_formed, rounds_formed}
use Rattle.life_cert.proofs.Closed.{under_grown, states_are_closed}
use Rattle.life_cert.proofs.Least.{CertUnder, made_is_least}

-- Between calls no cursor is set.

abbrev BareState : StatePlace → State → Type 0
BareState place.Idle s = (k : ℕ) → s.cursors k ≡ Unset
BareState place.Ready s = (k : ℕ) → s.cursors k ≡ Unset
BareState (place.At pc) s = Unit {0}

abbrev IsBareArrival : Arrival → Type 0
IsBareArrival a = BareState a.place a.state

AllBare : Certificate → Type 0
AllBare c = (w : StatePlace) (s : State) → state_at c w ≡ Some s → BareState w s

at_line : (pc : ℕ) (o : Option State) → All IsBareArrival (arriving (place.At pc) o)
at_line pc None = All-nil IsBareArrival
at_line pc (Some s) = All-cons IsBareArrival (record { place = place.At pc; state = s }) [] tt (All-nil IsBareArrival)

left_bare : (p : Program) (pc : ℕ) (s : State) → BareState (left_place p pc) (at_return s)
left_bare p pc s = elim (nat_lt pc p.init) as (λ b. BareState (if b then place.Idle else place.Ready) (at_return s)) [ true ↦ λ k. refl | false ↦ λ k. refl ]

return_bare : (p : Program) (pc : ℕ) (i : Instr) (s : State) → All IsBareArrival (arriving (left_place p pc) (returned i s))
return_bare p pc (instr.Ret u) s = All-cons IsBareArrival (record { place = left_place p pc; state = at_return s }) [] (left_bare p pc s) (All-nil IsBareArrival)
return_bare p pc _ s = All-nil IsBareArrival

line_bare : (p : Program) (pc : ℕ) (o : Option Instr) (s : State) → All IsBareArrival (handed_by_line p pc o s)
line_bare p pc None s = All-nil IsBareArrival
line_bare p pc (Some i) s = of (rule p i s)
  where
    of : (r : Result Edges FaultKind) → All IsBareArrival (handed_by_rule p pc i s r)
    of (Err k) = All-nil IsBareArrival
    of (Ok e) =
        All-append IsBareArrival (edges_arriving pc i e) (arriving (left_place p pc) (returned i s))
        (All-append IsBareArrival (arriving (place.At (pc + 1)) e.next) (arriving (place.At (unwrap_or (target i) 0)) e.jump) (at_line (pc + 1) e.next) (at_line (unwrap_or (target i) 0) e.jump))
        (return_bare p pc i s)

end_bare : (p : Program) (s : State) → ((k : ℕ) → s.cursors k ≡ Unset) → (k : ℕ) → (at_end_of_request p s).cursors k ≡ Unset
unfolding at_end_of_request cleared_under moved
end_bare p s h k = ap (cleared_cursor p (is_under p pool.Req)) (h k)

by_bare : (p : Program) (w : StatePlace) (o : Option State) → ((s : State) → o ≡ Some s → BareState w s) → All IsBareArrival (handed_by p w o)
by_bare p w None h = All-nil IsBareArrival
by_bare p place.Idle (Some s) h = at_line p.init (Some s)
by_bare p place.Ready (Some s) h =
    All-append IsBareArrival (arriving (place.At p.main) (Some (at_main s))) (arriving place.Idle (Some (at_end_of_request p s))) (at_line p.main (Some (at_main s)))
    (All-cons IsBareArrival (record { place = place.Idle; state = at_end_of_request p s }) [] (end_bare p s (h s refl)) (All-nil IsBareArrival))
by_bare p (place.At pc) (Some s) h = line_bare p pc (slice_get p.code pc) s

on_bare : (p : Program) (c : Certificate) (ws : List StatePlace) → AllBare c → All IsBareArrival (handed_on p c ws)
unfolding handed_on AllBare
on_bare p c [] h = All-nil IsBareArrival
on_bare p c (w ∷ ws) h = All-append IsBareArrival (handed_by p w (state_at c w)) (handed_on p c ws) (by_bare p w (state_at c w) (h w)) (on_bare p c ws h)

joined_unset : (s t : State) (k : ℕ) → s.cursors k ≡ Unset → t.cursors k ≡ Unset → (join s t).cursors k ≡ Unset
unfolding join cursor_join
joined_unset s t k a b = ap₂ (λ x y. kept_cursor (joined_brigades s t) (cursor_join x y)) a b

joined_bare : (w : StatePlace) (s t : State) → BareState w s → BareState w t → BareState w (join s t)
joined_bare place.Idle s t f g = λ k. joined_unset s t k (f k) (g k)
joined_bare place.Ready s t f g = λ k. joined_unset s t k (f k) (g k)
joined_bare (place.At pc) s t f g = tt

some_is : {x y : State} → Some x ≡ Some y → x ≡ y
some_is e = cc

grow_bare : (w : StatePlace) (s : State) (g : FixpointState) → AllBare g.states → BareState w s → AllBare (grow w s g).states
unfolding AllBare
grow_bare w s g h new v t e =
    elim (read_written w v s g.states) [
      | inl here ↦ subst (λ (x : StatePlace). BareState x t) (sym (here.0)) (subst (BareState w) (some_is (sym (here.1) ∙ e)) new)
      | inr other ↦ h v t (sym other ∙ e)
    ]

bare_by : (a : Arrival) (g : FixpointState) (o : Option State) → state_at g.states a.place ≡ o → AllBare g.states → IsBareArrival a → AllBare (merge_by o a g).states
unfolding AllBare
bare_by a g None e h new = grow_bare a.place a.state g h new
bare_by a g (Some t) e h new =
    elim (leq a.state t) as (λ b. AllBare (if b then g else grow a.place (join t a.state) g).states)
    [ true ↦ h | false ↦ grow_bare a.place (join t a.state) g h (joined_bare a.place t a.state (h a.place t e) new) ]

arrived_bare : (rest : List Arrival) (g : FixpointState) → AllBare g.states → All IsBareArrival rest → AllBare (arrived rest g).states
unfolding arrived
arrived_bare [] g h new = h
arrived_bare (a ∷ rest) g h new = arrived_bare rest (merge a g) (bare_by a g (state_at g.states a.place) refl h (new 0 a (omega arith))) (λ k d below. new (suc k) d (omega arith))

none_bare : (p : Program) → AllBare (nothing p)
unfolding AllBare
none_bare p place.Idle s e = cc
none_bare p place.Ready s e = cc
none_bare p (place.At pc) s e = tt

rounds_bare : (p : Program) (n : ℕ) → AllBare (rounds n p (begun p)).states
unfolding rounds
rounds_bare p zero = grow_bare (place.At 0) (at_open (length p.pools) (length p.brigades)) (record { states = nothing p; changed = [] }) (none_bare p) tt
rounds_bare p (suc n) =
    let g = rounds n p (begun p) in
    let h = rounds_bare p n in
    arrived_bare (handed_on p g.states g.changed) (record { states = g.states; changed = [] }) h (on_bare p g.states g.changed h)

-- `open` begins below the first state.
opens_under : (p : Program) → IsModule p → (n : ℕ) → is_below (at_open (length p.pools) (length p.brigades)) (state_at (rounds n p (begun p)).states (place.At 0)) ≡ true
unfolding rounds
opens_under p m zero = begins (at_open (length p.pools) (length p.brigades)) (nothing p) (below_itself p (is_in_main p (place.At 0)) (at_open (length p.pools) (length p.brigades))
    ((begun_formed p m).each (place.At 0) (at_open (length p.pools) (length p.brigades)) (upd_at (nothing p).at 0 (Some (at_open (length p.pools) (length p.brigades))))))
  where
    begins : (s : State) (d : Certificate) → leq s s ≡ true → is_below s (state_at (with_state (place.At 0) s d) (place.At 0)) ≡ true
    begins s d h = ap (is_below s) (upd_at d.at 0 (Some s)) ∙ h
opens_under p m (suc n) = under_grown (at_open (length p.pools) (length p.brigades)) (state_at (rounds n p (begun p)).states (place.At 0))
    (state_at (rounds (suc n) p (begun p)).states (place.At 0)) (states_only_grow p m n (place.At 0)) (opens_under p m n)

module _ (p : Program) (m : IsModule p) where
  each : (w : StatePlace) (s : State) → state_at (made p) w ≡ Some s → IsFormedIn p (is_in_main p w) s
  unfolding made
  each w s e = (rounds_formed p m (enough p)).each w s e

  bare : AllBare (made p)
  unfolding made
  bare = rounds_bare p (enough p)

  -- The shape.

  between : (o : Option State) → ((s : State) → o ≡ Some s → IsFormedIn p false s × ((k : ℕ) → s.cursors k ≡ Unset)) → fits_between p o ≡ true
  between None h = refl
  between (Some s) h =
      let both = h s refl in
      and2 (declares p s && not (has_in s) && has_no_cursor s) (is_formed s)
      (and3 (declares p s) (not (has_in s)) (has_no_cursor s) (declared p false s (both.0)) (ap not ((both.0).brought))
      (all_below_holds 9 (λ k. not (is_set (s.cursors k))) (λ k low. ap (λ x. not (is_set x)) ((both.1) k))))
      (passes_form s (both.0).formed)

  line_there : (pc : ℕ) (o : Option State) → pc < length p.code → ((s : State) → o ≡ Some s → IsFormedIn p (nat_le p.main pc) s) → fits_line p pc o ≡ true
  line_there pc None inside h = refl
  line_there pc (Some s) inside h = line_fits p pc (Some s) inside (h s refl)

  lines_are : (made p).lines ≡ length p.code
  unfolding made
  lines_are = (rounds_fit p m (enough p)).lines

  pub shaped : has_shape p (made p) ≡ true
  unfolding AllBare
  shaped =
      and3 (fits_between p (made p).idle) (fits_between p (made p).ready) (fits_lines p (made p))
      (between (made p).idle (λ s e. (each place.Idle s e, bare place.Idle s e))) (between (made p).ready (λ s e. (each place.Ready s e, bare place.Ready s e)))
      (all_below_holds (made p).lines (λ pc. fits_line p pc ((made p).at pc)) (λ pc low. line_there pc ((made p).at pc) (subst (λ (n : ℕ). pc < n) lines_are low) (λ s e. each (place.At pc) s e)))

  -- What is handed on has arrived.

  pub closed : (w : StatePlace) → All (CertUnder (made p)) (handed_by p w (state_at (made p) w))
  closed w = states_are_closed p m w

  flows_there : (w : StatePlace) (o : Option State) → All (CertUnder (made p)) (arriving w o) → flows o (state_at (made p) w) ≡ true
  flows_there w None h = refl
  flows_there w (Some s) h = All-head (CertUnder (made p)) (record { place = w; state = s }) [] h

  front : (xs ys : List Arrival) → All (CertUnder (made p)) (xs ++ ys) → All (CertUnder (made p)) xs
  front [] ys h = All-nil (CertUnder (made p))
  front (x ∷ xs) ys h = All-cons (CertUnder (made p)) x xs (h 0 x (omega arith)) (front xs ys (λ k d low. h (suc k) d (omega arith)))

  back : (xs ys : List Arrival) → All (CertUnder (made p)) (xs ++ ys) → All (CertUnder (made p)) ys
  back [] ys h = h
  back (x ∷ xs) ys h = back xs ys (λ k d low. h (suc k) d (omega arith))

  pub inits_there : (o : Option State) → All (CertUnder (made p)) (handed_by p place.Idle o) → flows o ((made p).at p.init) ≡ true
  inits_there None h = refl
  inits_there (Some s) h = flows_there (place.At p.init) (Some s) h

  pub serves_there : (o : Option State) → All (CertUnder (made p)) (handed_by p place.Ready o) → flows (main_from o) ((made p).at p.main) ≡ true
  serves_there None h = refl
  serves_there (Some s) h = flows_there (place.At p.main) (Some (at_main s)) (front (arriving (place.At p.main) (Some (at_main s))) (arriving place.Idle (Some (at_end_of_request p s))) h)

  pub requests_there : (o : Option State) → All (CertUnder (made p)) (handed_by p place.Ready o) → flows (request_end p o) (made p).idle ≡ true
  requests_there None h = refl
  requests_there (Some s) h = flows_there place.Idle (Some (at_end_of_request p s)) (back (arriving (place.At p.main) (Some (at_main s))) (arriving place.Idle (Some (at_end_of_request p s))) h)

  left_at : (pc : ℕ) → state_at (made p) (left_place p pc) ≡ left_by p (made p) pc
  left_at pc = elim (nat_lt pc p.init) as (λ b. state_at (made p) (if b then place.Idle else place.Ready) ≡ (if b then (made p).idle else (made p).ready)) [ true ↦ refl | false ↦ refl ]

  exits_there : (pc : ℕ) (i : Instr) (s : State) → All (CertUnder (made p)) (arriving (left_place p pc) (returned i s)) → exits p (made p) pc i s ≡ true
  exits_there pc (instr.Ret u) s h = ap (is_below (at_return s)) (sym (left_at pc)) ∙ flows_there (left_place p pc) (Some (at_return s)) h
  exits_there pc _ s h = refl

  -- An instruction that cannot have a fault is accepted.
  handed_all : (pc : ℕ) (i : Instr) (s : State) (d : Edges) → slice_get p.code pc ≡ Some i → (made p).at pc ≡ Some s → rule p i s ≡ Ok d → All (CertUnder (made p)) (handed_by_rule p pc i s (Ok d))
  handed_all pc i s d here line safe =
      subst (λ (r : Result Edges FaultKind). All (CertUnder (made p)) (handed_by_rule p pc i s r)) safe
      (subst (λ (o : Option Instr). All (CertUnder (made p)) (handed_by_line p pc o s)) here
      (subst (λ (o : Option State). All (CertUnder (made p)) (handed_by p (place.At pc) o)) line (closed (place.At pc))))

  pub led_to : (pc : ℕ) (i : Instr) (s : State) (d : Edges) → slice_get p.code pc ≡ Some i → (made p).at pc ≡ Some s → rule p i s ≡ Ok d → leads_on (made p) pc i d ≡ true
  led_to pc i s d here line safe =
      let on = front (edges_arriving pc i d) (arriving (left_place p pc) (returned i s)) (handed_all pc i s d here line safe) in
      let next = arriving (place.At (pc + 1)) d.next in
      let jump = arriving (place.At (unwrap_or (target i) 0)) d.jump in
      and2 (flows d.next ((made p).at (pc + 1))) (flows d.jump ((made p).at (unwrap_or (target i) 0))) (flows_there (place.At (pc + 1)) d.next (front next jump on))
      (flows_there (place.At (unwrap_or (target i) 0)) d.jump (back next jump on))

  pub exits_on : (pc : ℕ) (i : Instr) (s : State) (d : Edges) → slice_get p.code pc ≡ Some i → (made p).at pc ≡ Some s → rule p i s ≡ Ok d → exits p (made p) pc i s ≡ true
  exits_on pc i s d here line safe = exits_there pc i s (back (edges_arriving pc i d) (arriving (left_place p pc) (returned i s)) (handed_all pc i s d here line safe))

  pub open_there : is_below (at_open (length p.pools) (length p.brigades)) ((made p).at 0) ≡ true
  unfolding made
  open_there = opens_under p m (enough p)

module _ (p : Program) (c : Certificate) (m : IsModule p) (formed : AreFormed c) (typed : IsTyped p c) where
  -- An instruction that is accepted in a greater state is so in this one.
  led : (pc : ℕ) (i : Instr) (s : State) (q : Option State) → slice_get p.code pc ≡ Some i → (made p).at pc ≡ Some s → c.at pc ≡ q → is_below s q ≡ true → IsLed p (made p) pc i s
  led pc i s None here line e h = cc
  led pc i s (Some t) here line e le =
      let f = (each p m (place.At pc) s line).formed in
      let g : IsFormed t = subst (λ (o : Option State). IfSome o IsFormed) e (formed.at pc) in
      let of_t = typed.lines pc i t here e in
      let less = rules_are_monotone p i s t of_t.edges f g le of_t.safe in
      record { edges = less.edges; safe = less.safe; leads = led_to p m pc i s less.edges here line less.safe; exits = exits_on p m pc i s less.edges here line less.safe }

  typed_made : IsTyped p (made p)
  typed_made = record {
    shape = shaped p m;
    opens = open_there p m;
    inits = inits_there p m (made p).idle (closed p m place.Idle);
    serves = serves_there p m (made p).ready (closed p m place.Ready);
    lines = λ pc i s here line. led pc i s (c.at pc) here line refl (made_is_least p c m formed typed (place.At pc) s line);
    requests = requests_there p m (made p).ready (closed p m place.Ready);
  }

-- so where the rounds are refused, none is accepted
pub refuses_only_then : (p : Program) (c : Certificate) → IsModule p → AreFormed c → IsTyped p c → first_refusal p (made p) ≡ None
refuses_only_then p c m formed typed = none_typed p (made p) (typed_made p c m formed typed)
