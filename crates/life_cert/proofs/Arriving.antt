-- What is true of growing states stays so.
use Rattle.std.proofs.Common.{◌≡◌, ℕ, suc, ◌+◌, ◌<◌, ◌≤◌, true, false, if◌then◌else◌, List, [], ◌∷◌, length, All, ◌⊎◌, inl, inr, Option, Some, None, refl, ap, sym, ◌∙◌, subst, drop, get_or, add-one}
use Rattle.std.proofs.Common.{drop-cons, lt-ltb}
use Rattle.std.proofs.Math.ListN.{get_or-map}
use Rattle.std.proofs.lemmas.List.{drop_all, length-map}
use Rattle.std.proofs.lemmas.List.Elements.{All-nil, All-cons, All-append}
use Rattle.module_code.specs.Program.{Program}
use Rattle.run_model.proofs.Updates.{upd_either}
use Rattle.life_state.specs.States.{State}
use Rattle.life_state.specs.Order.{leq, join}
use Rattle.life_state.specs.Rules.{at_open}
use Rattle.life_state.specs.Seen.{seen}
use Rattle.life_check.specs.Certificates.{Certificate}
use Rattle.life_check.specs.Seen.{seen_cert}
use Rattle.life_cert.specs.declared.fixpoint.Arrival as code
use Rattle.life_cert.specs.declared.fixpoint.Fixpoint.{Fixpoint}
use Rattle.life_cert.specs.declared.fixpoint.StatePlace.{StatePlace}
use Rattle.life_cert.specs.declared.fixpoint.StatePlace.TheVariants as place
use Rattle.life_cert.specs.Rounds.{Arrival, FixpointState, state_at, with_state, grow, merge_by, merge, arrived, nothing, begun}
use Rattle.life_cert.specs.Fitting.{is_inside, IsDeclared, IsFit, IsOf}
use Rattle.life_cert.specs.SeenGrowth.{seen_arrival, seen_arrivals, seen_growth}

-- what is read where one state was written
pub read_written : (w v : StatePlace) (s : State) (c : Certificate) → ((v ≡ w) × (state_at (with_state w s c) v ≡ Some s)) ⊎ (state_at (with_state w s c) v ≡ state_at c v)
read_written place.Idle place.Idle s c = inl (refl, refl)
read_written place.Idle place.Ready s c = inr refl
read_written place.Idle (place.At k) s c = inr refl
read_written place.Ready place.Idle s c = inr refl
read_written place.Ready place.Ready s c = inl (refl, refl)
read_written place.Ready (place.At k) s c = inr refl
read_written (place.At pc) place.Idle s c = inr refl
read_written (place.At pc) place.Ready s c = inr refl
read_written (place.At pc) (place.At k) s c = elim (upd_either c.at pc k (Some s)) [ inl h ↦ inl (ap place.At (h.0), h.1) | inr h ↦ inr (h.1) ]

lines_written : (w : StatePlace) (s : State) (c : Certificate) → (with_state w s c).lines ≡ c.lines
lines_written place.Idle s c = refl
lines_written place.Ready s c = refl
lines_written (place.At pc) s c = refl

some_is : {s t : State} → Some s ≡ Some t → s ≡ t
some_is e = cc

pub grow_keeps : (p : Program) (w : StatePlace) (s : State) (g : FixpointState) → IsOf p g → is_inside (length p.code) w ≡ true → IsDeclared p s → IsOf p (grow w s g)
grow_keeps p w s g h inside declared = record {
  few = h.few;
  lines = lines_written w s g.states ∙ h.lines;
  states = λ v t e. elim (read_written w v s g.states) [ inl new ↦ subst (IsDeclared p) (some_is (sym (new.1) ∙ e)) declared | inr old ↦ h.states v t (sym old ∙ e) ];
  places = All-append (λ v. is_inside (length p.code) v ≡ true) g.changed (w ∷ []) h.places
      (All-cons (λ v. is_inside (length p.code) v ≡ true) w [] inside (All-nil (λ v. is_inside (length p.code) v ≡ true)));
}

joined_declared : (p : Program) (s t : State) → IsDeclared p t → IsDeclared p (join t s)
unfolding join
joined_declared p s t h = record { pools = h.pools; brigades = h.brigades }

keeps_by : (p : Program) (a : Arrival) (g : FixpointState) (o : Option State) → state_at g.states a.place ≡ o → IsOf p g → IsFit p a → IsOf p (merge_by o a g)
keeps_by p a g None e h fit = grow_keeps p a.place a.state g h fit.inside fit.declared
keeps_by p a g (Some t) e h fit =
    elim (leq a.state t) as (λ b. IsOf p (if b then g else grow a.place (join t a.state) g))
    [ true ↦ h | false ↦ grow_keeps p a.place (join t a.state) g h fit.inside (joined_declared p a.state t (h.states a.place t e)) ]

pub merge_keeps : (p : Program) (a : Arrival) (g : FixpointState) → IsOf p g → IsFit p a → IsOf p (merge a g)
merge_keeps p a g h fit = keeps_by p a g (state_at g.states a.place) refl h fit

nothing_there : (p : Program) (w : StatePlace) (s : State) → state_at (nothing p) w ≡ Some s → IsDeclared p s
nothing_there p place.Idle s e = cc
nothing_there p place.Ready s e = cc
nothing_there p (place.At pc) s e = cc

pub begun_fits : (p : Program) → length p.pools ≤ 8 → 0 < length p.code → IsOf p (begun p)
begun_fits p few some =
    grow_keeps p (place.At 0) (at_open (length p.pools) (length p.brigades)) (record { states = nothing p; changed = [] })
    (record { few = few; lines = refl; states = nothing_there p; places = All-nil (λ v. is_inside (length p.code) v ≡ true) })
    (lt-ltb 0 (length p.code) some) (record { pools = refl; brigades = refl })

-- One more arrival of those that are handed on.

length_seen : (xs : List code.Arrival) → length (seen_arrivals xs) ≡ length xs
unfolding seen_arrivals
length_seen xs = length-map xs seen_arrival

at_seen : (xs : List code.Arrival) (i : ℕ) (d : code.Arrival) → get_or (seen_arrivals xs) i (seen_arrival d) ≡ seen_arrival (get_or xs i d)
unfolding seen_arrivals
at_seen xs i d = get_or-map seen_arrival xs i d

pub fit_at : (p : Program) (xs : List code.Arrival) (i : ℕ) (d : code.Arrival) → All (IsFit p) (seen_arrivals xs) → i < length xs → IsFit p (seen_arrival (get_or xs i d))
fit_at p xs i d fit inside = subst (IsFit p) (at_seen xs i d) (fit i (seen_arrival d) (subst (λ (n : ℕ). i < n) (sym (length_seen xs)) inside))

pub inside_at : (p : Program) (g : Fixpoint) (xs : List code.Arrival) (i : ℕ) (d : code.Arrival) → IsOf p (seen_growth g) → All (IsFit p) (seen_arrivals xs) → i < length xs
    → is_inside (length g.cert.at.items) (get_or xs i d).place ≡ true
inside_at p g xs i d h fit inside = subst (λ (n : ℕ). is_inside n (get_or xs i d).place ≡ true) (sym h.lines) (fit_at p xs i d fit inside).inside

pub pools_at : (p : Program) (g : Fixpoint) (xs : List code.Arrival) (i : ℕ) (d : code.Arrival) → IsOf p (seen_growth g) → All (IsFit p) (seen_arrivals xs) → i < length xs
    → (t : State) → state_at (seen_cert g.cert) (get_or xs i d).place ≡ Some t → t.pool_count ≡ (seen (get_or xs i d).state).pool_count
pools_at p g xs i d h fit inside t there = (h.states (get_or xs i d).place t there).pools ∙ sym (fit_at p xs i d fit inside).declared.pools

pub brigades_at : (p : Program) (g : Fixpoint) (xs : List code.Arrival) (i : ℕ) (d : code.Arrival) → IsOf p (seen_growth g) → All (IsFit p) (seen_arrivals xs) → i < length xs
    → (t : State) → state_at (seen_cert g.cert) (get_or xs i d).place ≡ Some t → t.brigade_count ≡ (seen (get_or xs i d).state).brigade_count
brigades_at p g xs i d h fit inside t there = (h.states (get_or xs i d).place t there).brigades ∙ sym (fit_at p xs i d fit inside).declared.brigades

pub arrived_more : (xs : List code.Arrival) (i : ℕ) (d : code.Arrival) (g h all : FixpointState) → i < length xs → arrived (drop i (seen_arrivals xs)) g ≡ all → h ≡ merge (seen_arrival (get_or xs i d)) g
    → arrived (drop (i + 1) (seen_arrivals xs)) h ≡ all
unfolding arrived
arrived_more xs i d g h all inside so_far more =
    let rest = drop (suc i) (seen_arrivals xs) in
    let next : drop i (seen_arrivals xs) ≡ seen_arrival (get_or xs i d) ∷ rest
    = drop-cons (seen_arrivals xs) i (seen_arrival d) (subst (λ (n : ℕ). i < n) (sym (length_seen xs)) inside) ∙ ap (λ (a : Arrival). a ∷ rest) (at_seen xs i d) in
    ap (λ (k : ℕ). arrived (drop k (seen_arrivals xs)) h) (add-one i)
    ∙ (ap (λ (k : FixpointState). arrived rest k) more ∙ (ap (λ (rs : List Arrival). arrived rs g) (sym next) ∙ so_far))

pub arrived_all : (xs : List code.Arrival) (i : ℕ) (g all : FixpointState) → length xs ≤ i → arrived (drop i (seen_arrivals xs)) g ≡ all → g ≡ all
unfolding arrived
arrived_all xs i g all past so_far =
    ap (λ (rest : List Arrival). arrived rest g) (sym (drop_all i (seen_arrivals xs) (subst (λ (n : ℕ). n ≤ i) (sym (length_seen xs)) past))) ∙ so_far
