-- What is handed on is for places of the module, and of its variables.
use Rattle.std.proofs.Common.{◌≡◌, ℕ, ◌+◌, ◌<◌, ◌≤◌, true, false, nat_lt, if◌then◌else◌, List, [], ◌∷◌, ◌++◌, length, All, Option, Some, None, IfSome, unwrap_or, Result, Ok, Err, slice_get, refl, ap}
use Rattle.std.proofs.Common.{sym, ◌∙◌, subst, arith, drop, get_or, append_assoc, add-one, drop-cons, lt-ltb}
use Rattle.std.proofs.lemmas.List.{append-nil, drop_all}
use Rattle.std.proofs.lemmas.List.Elements.{All-nil, All-cons, All-append}
use Rattle.module_code.specs.declared.instr.Instr.{Instr}
use Rattle.module_code.specs.declared.instr.Instr.TheVariants as instr
use Rattle.module_code.specs.Program.{Program, IsPlaced, target}
use Rattle.run_model.specs.declared.fault.FaultKind.{FaultKind}
use Rattle.life_state.specs.States.{State}
use Rattle.life_state.specs.Facts.{moved}
use Rattle.life_state.specs.Rules.{Edges, rule, edges, cleared_under, at_main, at_return, at_end_of_request}
use Rattle.life_check.specs.Certificates.{Certificate}
use Rattle.life_cert.specs.declared.fixpoint.StatePlace.{StatePlace}
use Rattle.life_cert.specs.declared.fixpoint.StatePlace.TheVariants as place
use Rattle.life_cert.specs.Rounds.{Arrival, state_at, arriving, left_place, returned, edges_arriving, handed_by_rule, handed_by_line, handed_by, handed_on}
use Rattle.life_cert.specs.Fitting.{is_inside, IsDeclared, IsFit}
use Rattle.life_check.proofs.EdgeLaws.{OfSameVariables, SomeAlike, edges_alike, goes_on_next, rule_edges}

-- a state that arrives, if there is one, fits
some_fits : (p : Program) (w : StatePlace) (o : Option State) → ((s : State) → o ≡ Some s → IsFit p (record { place = w; state = s })) → All (IsFit p) (arriving w o)
some_fits p w None h = All-nil (IsFit p)
some_fits p w (Some s) h = All-cons (IsFit p) (record { place = w; state = s }) [] (h s refl) (All-nil (IsFit p))

declared_on : (p : Program) (s t : State) → IsDeclared p s → OfSameVariables s t → IsDeclared p t
declared_on p s t h a = record { pools = a.pools ∙ h.pools; brigades = a.brigades ∙ h.brigades }

alike_at : (s t : State) (o : Option State) → SomeAlike s o → o ≡ Some t → OfSameVariables s t
alike_at s t o h e = subst (SomeAlike s) e h

target_inside : (p : Program) (pc : ℕ) (o : Option ℕ) → pc < length p.code → IfSome o (λ t. t < length p.code) → unwrap_or o 0 < length p.code
target_inside p pc None here h = omega arith
target_inside p pc (Some t) here h = h

left_inside : (p : Program) (pc n : ℕ) → is_inside n (left_place p pc) ≡ true
left_inside p pc n = elim (nat_lt pc p.init) as (λ b. is_inside n (if b then place.Idle else place.Ready) ≡ true) [ true ↦ refl | false ↦ refl ]

return_fits : (p : Program) (pc : ℕ) (i : Instr) (s : State) → IsDeclared p s → All (IsFit p) (arriving (left_place p pc) (returned i s))
return_fits p pc (instr.Ret t) s h =
    some_fits p (left_place p pc) (Some (at_return s))
    (λ r e. record { inside = left_inside p pc (length p.code); declared = subst (IsDeclared p) (some_is e) (record { pools = h.pools; brigades = h.brigades }) })
  where
    some_is : {r t : State} → Some t ≡ Some r → t ≡ r
    some_is e = cc
return_fits p pc _ s h = All-nil (IsFit p)

edges_fit : (p : Program) (pc : ℕ) (i : Instr) (s : State) → pc < length p.code → IsPlaced p pc i → IsDeclared p s → All (IsFit p) (edges_arriving pc i (edges p i s))
edges_fit p pc i s here placed h =
    let alike = edges_alike p i s in
    All-append (IsFit p) (arriving (place.At (pc + 1)) (edges p i s).next) (arriving (place.At (unwrap_or (target i) 0)) (edges p i s).jump)
    (some_fits p (place.At (pc + 1)) (edges p i s).next (λ t e. record {
      inside = lt-ltb (pc + 1) (length p.code) (placed.next (goes_on_next p i s t e));
      declared = declared_on p s t h (alike_at s t (edges p i s).next alike.next e);
    }))
    (some_fits p (place.At (unwrap_or (target i) 0)) (edges p i s).jump (λ t e. record {
      inside = lt-ltb (unwrap_or (target i) 0) (length p.code) (target_inside p pc (target i) here placed.jump);
      declared = declared_on p s t h (alike_at s t (edges p i s).jump alike.jump e);
    }))

rule_fits : (p : Program) (pc : ℕ) (i : Instr) (s : State) (a : Result Edges FaultKind) → rule p i s ≡ a → pc < length p.code → IsPlaced p pc i → IsDeclared p s
    → All (IsFit p) (handed_by_rule p pc i s a)
rule_fits p pc i s (Err k) e here placed h = All-nil (IsFit p)
rule_fits p pc i s (Ok f) e here placed h =
    All-append (IsFit p) (edges_arriving pc i f) (arriving (left_place p pc) (returned i s))
    (subst (λ (g : Edges). All (IsFit p) (edges_arriving pc i g)) (sym (rule_edges p i s f e)) (edges_fit p pc i s here placed h))
    (return_fits p pc i s h)

pub line_fits : (p : Program) (pc : ℕ) (i : Instr) (s : State) → slice_get p.code pc ≡ Some i → pc < length p.code → IsPlaced p pc i → IsDeclared p s
    → All (IsFit p) (handed_by_line p pc (slice_get p.code pc) s)
line_fits p pc i s at here placed h =
    subst (λ (o : Option Instr). All (IsFit p) (handed_by_line p pc o s)) (sym at) (rule_fits p pc i s (rule p i s) refl here placed h)

pub ready_fits : (p : Program) (s : State) → p.main < length p.code → IsDeclared p s → All (IsFit p) (handed_by p place.Ready (Some s))
unfolding at_end_of_request cleared_under moved
ready_fits p s main h =
    All-cons (IsFit p) (record { place = place.At p.main; state = at_main s }) (record { place = place.Idle; state = at_end_of_request p s } ∷ [])
    (record { inside = lt-ltb p.main (length p.code) main; declared = record { pools = h.pools; brigades = h.brigades } })
    (All-cons (IsFit p) (record { place = place.Idle; state = at_end_of_request p s }) [] (record { inside = refl; declared = record { pools = h.pools; brigades = h.brigades } }) (All-nil (IsFit p)))

-- One more place has handed on.

pub handed_more : (p : Program) (c : Certificate) (xs : List StatePlace) (i : ℕ) (d : StatePlace) (old new all : List Arrival) → i < length xs
    → old ++ handed_on p c (drop i xs) ≡ all → new ≡ old ++ handed_by p (get_or xs i d) (state_at c (get_or xs i d)) → new ++ handed_on p c (drop (i + 1) xs) ≡ all
unfolding handed_on
handed_more p c xs i d old new all inside so_far more =
    let w = get_or xs i d in
    ap (λ (hs : List Arrival). hs ++ handed_on p c (drop (i + 1) xs)) more
    ∙ (append_assoc old (handed_by p w (state_at c w)) (handed_on p c (drop (i + 1) xs))
    ∙ (ap (λ (k : ℕ). old ++ (handed_by p w (state_at c w) ++ handed_on p c (drop k xs))) (add-one i)
    ∙ (ap (λ (ws : List StatePlace). old ++ handed_on p c ws) (sym (drop-cons xs i d inside)) ∙ so_far)))

pub handed_all : (p : Program) (c : Certificate) (xs : List StatePlace) (i : ℕ) (old all : List Arrival) → length xs ≤ i
    → old ++ handed_on p c (drop i xs) ≡ all → old ≡ all
unfolding handed_on
handed_all p c xs i old all past so_far =
    sym (append-nil old) ∙ (ap (λ (ws : List StatePlace). old ++ handed_on p c ws) (sym (drop_all i xs past)) ∙ so_far)

pub fit_more : (p : Program) (old more new : List Arrival) → new ≡ old ++ more → All (IsFit p) old → All (IsFit p) more → All (IsFit p) new
fit_more p old more new e a b = subst (λ (hs : List Arrival). All (IsFit p) hs) (sym e) (All-append (IsFit p) old more a b)
