-- The states of all rounds are in form, and have `in` in `main` alone.
use Rattle.std.proofs.Common.{◌≡◌, ℕ, zero, suc, ◌+◌, ◌<◌, Bool, true, false, nat_lt, nat_le, if◌then◌else◌, List, [], ◌∷◌, length, All, inl, inr, Option, Some, None, unwrap_or, Result, Ok, Err}
use Rattle.std.proofs.Common.{slice_get, refl, ap, sym, ◌∙◌, subst, arith}
use Rattle.std.proofs.lemmas.Bool.{le-leb, lt-leb}
use Rattle.std.proofs.lemmas.Option.{slice_get_within}
use Rattle.std.proofs.lemmas.List.Elements.{All-nil, All-cons, All-append}
use Rattle.module_code.specs.declared.instr.Instr.{Instr}
use Rattle.module_code.specs.declared.instr.Instr.TheVariants as instr
use Rattle.module_code.specs.Program.{Program, IsModule, target, goes_on}
use Rattle.run_model.specs.declared.fault.FaultKind.{FaultKind}
use Rattle.life_state.specs.States.{State}
use Rattle.life_state.specs.Order.{leq, join}
use Rattle.life_state.specs.Rules.{Edges, rule, edges, at_open, at_main, at_return, at_end_of_request}
use Rattle.life_state.specs.FormLaws.{IsFormedIn}
use Rattle.life_state.proofs.FormRules.{rules_keep_form}
use Rattle.life_state.proofs.FormJoins.{joins_keep_form}
use Rattle.life_state.proofs.FormEntries.{entries_are_formed}
use Rattle.life_check.specs.Certificates.{Certificate}
use Rattle.life_cert.specs.declared.fixpoint.StatePlace.{StatePlace}
use Rattle.life_cert.specs.declared.fixpoint.StatePlace.TheVariants as place
use Rattle.life_cert.specs.Rounds.{Arrival, FixpointState, state_at, arriving, left_place, returned, edges_arriving, handed_by_rule, handed_by_line, handed_by, handed_on, grow, merge_by, merge, arrived}
use Rattle.life_cert.specs.Rounds.{nothing, begun, rounds}
use Rattle.life_cert.specs.Laws.{is_in_main, StatesAreFormed}
use Rattle.life_check.proofs.EdgeLaws.{goes_on_next, rule_edges}
use Rattle.life_check.proofs.Sides.{same_side, if_some, target_side, next_side}
use Rattle.life_cert.proofs.Arriving.{read_written}

-- where instructions lead

jump_target : (p : Program) (i : Instr) (s t : State) → (edges p i s).jump ≡ Some t → (l : ℕ) × (target i ≡ Some l)
jump_target p (instr.BPart b x c l) s t h = (l, refl)
jump_target p (instr.JEmpty b l) s t h = (l, refl)
jump_target p (instr.Pass b l) s t h = (l, refl)
jump_target p (instr.JEnd c l) s t h = (l, refl)
jump_target p (instr.JKind c k l) s t h = (l, refl)
jump_target p (instr.Split c x l) s t h = (l, refl)
jump_target p (instr.Read c l) s t h = (l, refl)
jump_target p (instr.Get n x l) s t h = (l, refl)
jump_target p (instr.Put x l) s t h = (l, refl)
jump_target p (instr.JLt n x l) s t h = (l, refl)
jump_target p (instr.JEq n x l) s t h = (l, refl)
jump_target p (instr.JNull v l) s t h = (l, refl)
jump_target p (instr.JSent l) s t h = (l, refl)
jump_target p (instr.Jump l) s t h = (l, refl)
jump_target p _ s t h = cc

some_is : {X : Type 0} {x y : X} → Some x ≡ Some y → x ≡ y
some_is e = cc

-- What is handed on.

abbrev pub Good : Program → Arrival → Type 0
Good p a = IsFormedIn p (is_in_main p a.place) a.state

some_good : (p : Program) (w : StatePlace) (o : Option State) → ((s : State) → o ≡ Some s → IsFormedIn p (is_in_main p w) s) → All (Good p) (arriving w o)
some_good p w None h = All-nil (Good p)
some_good p w (Some s) h = All-cons (Good p) (record { place = w; state = s }) [] (h s refl) (All-nil (Good p))

left_outside : (p : Program) (pc : ℕ) → is_in_main p (left_place p pc) ≡ false
left_outside p pc = elim (nat_lt pc p.init) as (λ b. is_in_main p (if b then place.Idle else place.Ready) ≡ false) [ true ↦ refl | false ↦ refl ]

return_good : (p : Program) (pc : ℕ) (i : Instr) (s : State) (call : Bool) → IsFormedIn p call s → All (Good p) (arriving (left_place p pc) (returned i s))
return_good p pc (instr.Ret t) s call h =
    some_good p (left_place p pc) (Some (at_return s)) (λ r e. subst (IsFormedIn p (is_in_main p (left_place p pc))) (some_is e)
    (subst (λ (b : Bool). IsFormedIn p b (at_return s)) (sym (left_outside p pc)) (entries_are_formed.returns p call s h)))
return_good p pc _ s call h = All-nil (Good p)

rule_good : (p : Program) → IsModule p → (pc : ℕ) (i : Instr) (s : State) (a : Result Edges FaultKind) → rule p i s ≡ a → slice_get p.code pc ≡ Some i → pc < length p.code
    → IsFormedIn p (nat_le p.main pc) s
    → All (Good p) (handed_by_rule p pc i s a)
rule_good p m pc i s (Err k) e here inside h = All-nil (Good p)
rule_good p m pc i s (Ok f) e here inside h =
    let call = nat_le p.main pc in
    let keep = rules_keep_form p call i s f m (m.placed pc i here).fit h e in
    let same = rule_edges p i s f e in
    All-append (Good p) (edges_arriving pc i f) (arriving (left_place p pc) (returned i s))
    (All-append (Good p) (arriving (place.At (pc + 1)) f.next) (arriving (place.At (unwrap_or (target i) 0)) f.jump)
    (some_good p (place.At (pc + 1)) f.next (λ t n.
    let on : goes_on i ≡ true = goes_on_next p i s t (sym (ap (λ (g : Edges). g.next) same) ∙ n) in
    subst (λ (b : Bool). IsFormedIn p b t) (same_side p.main pc (pc + 1) (next_side p m pc i here on)) (if_some f.next t (IsFormedIn p call) n (keep.0))))
    (some_good p (place.At (unwrap_or (target i) 0)) f.jump (λ t n.
    let to = jump_target p i s t (sym (ap (λ (g : Edges). g.jump) same) ∙ n) in
    let at : nat_le p.main pc ≡ nat_le p.main (unwrap_or (target i) 0)
    = same_side p.main pc (to.0) (target_side p m pc (to.0) i here inside (to.1)) ∙ ap (λ (o : Option ℕ). nat_le p.main (unwrap_or o 0)) (sym (to.1)) in
    subst (λ (b : Bool). IsFormedIn p b t) at (if_some f.jump t (IsFormedIn p call) n (keep.1)))))
    (return_good p pc i s call h)

line_good : (p : Program) → IsModule p → (pc : ℕ) (s : State) (o : Option Instr) → slice_get p.code pc ≡ o → IsFormedIn p (nat_le p.main pc) s
    → All (Good p) (handed_by_line p pc (slice_get p.code pc) s)
line_good p m pc s None e h = subst (λ (o : Option Instr). All (Good p) (handed_by_line p pc o s)) (sym e) (All-nil (Good p))
line_good p m pc s (Some i) e h =
    subst (λ (o : Option Instr). All (Good p) (handed_by_line p pc o s)) (sym e) (rule_good p m pc i s (rule p i s) refl e (slice_get_within p.code pc i e) h)

by_good : (p : Program) → IsModule p → (w : StatePlace) (o : Option State) → ((s : State) → o ≡ Some s → IsFormedIn p (is_in_main p w) s) → All (Good p) (handed_by p w o)
by_good p m w None h = All-nil (Good p)
by_good p m place.Idle (Some s) h =
    let some = m.initial.some in
    some_good p (place.At p.init) (Some s)
    (λ t e. subst (IsFormedIn p (nat_le p.main p.init)) (some_is e) (subst (λ (b : Bool). IsFormedIn p b s) (sym (lt-leb p.main p.init (omega arith))) (h s refl)))
by_good p m place.Ready (Some s) h =
    All-append (Good p) (arriving (place.At p.main) (Some (at_main s))) (arriving place.Idle (Some (at_end_of_request p s)))
    (some_good p (place.At p.main) (Some (at_main s)) (λ t e. subst (IsFormedIn p (nat_le p.main p.main)) (some_is e)
    (subst (λ (b : Bool). IsFormedIn p b (at_main s)) (sym (le-leb p.main p.main (omega arith))) (entries_are_formed.serves p false s (h s refl)))))
    (some_good p place.Idle (Some (at_end_of_request p s)) (λ t e. subst (IsFormedIn p false) (some_is e) (entries_are_formed.ends p false s m (h s refl))))
by_good p m (place.At pc) (Some s) h = line_good p m pc s (slice_get p.code pc) refl (h s refl)

-- each state is in form, where it stands
pub record AllFormed (p : Program) (c : Certificate) : Type 0 where
  pub each : (w : StatePlace) (s : State) → state_at c w ≡ Some s → IsFormedIn p (is_in_main p w) s

pub on_good : (p : Program) → IsModule p → (c : Certificate) (ws : List StatePlace) → AllFormed p c → All (Good p) (handed_on p c ws)
unfolding handed_on
on_good p m c [] h = All-nil (Good p)
on_good p m c (w ∷ ws) h = All-append (Good p) (handed_by p w (state_at c w)) (handed_on p c ws) (by_good p m w (state_at c w) (h.each w)) (on_good p m c ws h)

-- What has arrived.

grow_formed : (p : Program) (w : StatePlace) (s : State) (g : FixpointState) → AllFormed p g.states → IsFormedIn p (is_in_main p w) s → AllFormed p (grow w s g).states
grow_formed p w s g h new = record {
  each = λ v t e. elim (read_written w v s g.states) [
    | inl here ↦ subst (λ (x : StatePlace). IsFormedIn p (is_in_main p x) t) (sym (here.0)) (subst (IsFormedIn p (is_in_main p w)) (some_is (sym (here.1) ∙ e)) new)
    | inr other ↦ h.each v t (sym other ∙ e)
  ];
}

pub formed_by : (p : Program) (a : Arrival) (g : FixpointState) (o : Option State) → state_at g.states a.place ≡ o → AllFormed p g.states → Good p a → AllFormed p (merge_by o a g).states
formed_by p a g None e h good = grow_formed p a.place a.state g h good
formed_by p a g (Some t) e h good =
    elim (leq a.state t) as (λ b. AllFormed p (if b then g else grow a.place (join t a.state) g).states)
    [ true ↦ h | false ↦ grow_formed p a.place (join t a.state) g h (joins_keep_form p (is_in_main p a.place) t a.state (h.each a.place t e) good) ]

arrived_formed : (p : Program) (rest : List Arrival) (g : FixpointState) → AllFormed p g.states → All (Good p) rest → AllFormed p (arrived rest g).states
unfolding arrived
arrived_formed p [] g h good = h
arrived_formed p (a ∷ rest) g h good =
    arrived_formed p rest (merge a g) (formed_by p a g (state_at g.states a.place) refl h (good 0 a (omega arith))) (λ k d below. good (suc k) d (omega arith))

-- Rounds.

none_formed : (p : Program) → AllFormed p (nothing p)
none_formed p = record { each = no_state }
  where
    no_state : (w : StatePlace) (s : State) → state_at (nothing p) w ≡ Some s → IsFormedIn p (is_in_main p w) s
    no_state place.Idle s e = cc
    no_state place.Ready s e = cc
    no_state (place.At pc) s e = cc

pub begun_formed : (p : Program) → IsModule p → AllFormed p (begun p).states
begun_formed p m =
    let first = m.opening.some in
    let second = m.initial.some in
    grow_formed p (place.At 0) (at_open (length p.pools) (length p.brigades)) (record { states = nothing p; changed = [] }) (none_formed p)
    (subst (λ (b : Bool). IsFormedIn p b (at_open (length p.pools) (length p.brigades))) (sym (lt-leb p.main 0 (omega arith))) (entries_are_formed.opens p m))

pub rounds_formed : (p : Program) → IsModule p → (n : ℕ) → AllFormed p (rounds n p (begun p)).states
unfolding rounds
rounds_formed p m zero = begun_formed p m
rounds_formed p m (suc n) =
    let g = rounds n p (begun p) in
    let h = rounds_formed p m n in
    arrived_formed p (handed_on p g.states g.changed) (record { states = g.states; changed = [] }) h (on_good p m g.states g.changed h)

pub states_are_formed : StatesAreFormed
states_are_formed p m n = (rounds_formed p m n).each
