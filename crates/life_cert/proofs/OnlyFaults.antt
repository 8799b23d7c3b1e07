-- The rounds are refused by a fault alone.
use Rattle.std.proofs.Common.{◌≡◌, ℕ, zero, suc, ◌<◌, length, Option, Some, None, Result, Ok, Err, slice_get, refl, ap, sym, subst, ◌∙◌, arith}
use Rattle.module_code.specs.declared.instr.Instr.{Instr}
use Rattle.module_code.specs.Program.{Program, IsModule}
use Rattle.run_model.specs.declared.fault.FaultKind.{FaultKind}
use Rattle.life_state.specs.States.{State}
use Rattle.life_state.specs.Rules.{Edges, rule}
use Rattle.life_check.specs.declared.refusal.CheckRefusal.{CheckRefusal}
use Rattle.life_check.specs.declared.refusal.Rule.{Rule}
use Rattle.life_check.specs.declared.refusal.Rule.TheVariants.{Shape, Entry, May, Flow, Exit, Request}
use Rattle.life_check.specs.Typed.{entry_refusal, exits, first_below, first_refusal, has_shape, inits, leads_on, line_refusal, opens, or_else, refusal, refusal_at, requests, serves, step_refusal, unless}
use Rattle.life_check.proofs.Firsts.{after_none, none_at, none_or, unless_holds}
use Rattle.life_cert.specs.declared.fixpoint.StatePlace.TheVariants as place
use Rattle.life_cert.specs.Made.{MayFaultFirst}
use Rattle.life_cert.specs.Rounds.{made}
use Rattle.life_cert.proofs.LeastTyped.{closed, exits_on, inits_there, led_to, open_there, requests_there, serves_there, shaped}

some_is : {x y : CheckRefusal} → Some x ≡ Some y → x ≡ y
some_is e = cc

none_some : {x : CheckRefusal} {a : Option CheckRefusal} → a ≡ None → a ≡ Some x → ⊥
none_some e f = cc

-- what refuses first is the first of the two, where the second refuses nothing
of_first : (a b : Option CheckRefusal) (x : CheckRefusal) → b ≡ None → or_else a b ≡ Some x → a ≡ Some x
of_first None b x e h = absurd (none_some e h)
of_first (Some r) b x e h = h

-- The first that refuses, of all below n.
record FirstOf (n : ℕ) (f : ℕ → Option CheckRefusal) (x : CheckRefusal) : Type 0 where
  at : ℕ
  below : at < n
  here : f at ≡ Some x
  before : (q : ℕ) → q < at → f q ≡ None

first_found : (n : ℕ) (f : ℕ → Option CheckRefusal) (x : CheckRefusal) → first_below n f ≡ Some x → FirstOf n f x
unfolding first_below
first_found zero f x h = cc
first_found (suc n) f x h = by (first_found n f x) (first_below n f) refl h where
  by : (first_below n f ≡ Some x → FirstOf n f x) → (a : Option CheckRefusal) → first_below n f ≡ a → or_else a (f n) ≡ Some x → FirstOf (suc n) f x
  by found None e k = record { at = n; below = omega arith; here = k; before = λ q low. none_at n q f e low }
  by found (Some r) e k =
      let g = found (e ∙ k) in
      let low = g.below in
      record { at = g.at; below = omega (arith, low); here = g.here; before = g.before }

module _ (p : Program) (m : IsModule p) where
  -- what refuses an instruction is its fault
  by_rule : (pc : ℕ) (i : Instr) (s : State) (a : Result Edges FaultKind) (x : CheckRefusal) → slice_get p.code pc ≡ Some i → (made p).at pc ≡ Some s → rule p i s ≡ a
      → step_refusal p (made p) pc i s a ≡ Some x → (k : FaultKind) × (refusal pc (May k) ≡ x) × (rule p i s ≡ Err k)
  by_rule pc i s (Err k) x here line e h = (k, some_is h, e)
  by_rule pc i s (Ok d) x here line e h =
      let leads : unless (leads_on (made p) pc i d) pc Flow ≡ None = unless_holds (leads_on (made p) pc i d) pc Flow (led_to p m pc i s d here line e) in
      absurd (none_some (none_or (unless (leads_on (made p) pc i d) pc Flow) (unless (exits p (made p) pc i s) pc Exit) leads (unless_holds (exits p (made p) pc i s) pc Exit (exits_on p m pc i s d here line e))) h)

  by_line : (pc : ℕ) (o : Option Instr) (q : Option State) (r : Rule) (at : ℕ) → slice_get p.code at ≡ o → (made p).at at ≡ q → line_refusal p (made p) at o q ≡ Some (refusal pc r)
      → ((j : ℕ) → j < at → refusal_at p (made p) j ≡ None) → (k : FaultKind) × (r ≡ May k) × MayFaultFirst p (made p) pc k
  by_line pc None q r at here line h before = cc
  by_line pc (Some i) None r at here line h before = cc
  by_line pc (Some i) (Some s) r at here line h before =
      let found = by_rule at i s (rule p i s) (refusal pc r) here line refl h in
      let k = found.0 in
      let there : at ≡ pc = ap (λ (x : CheckRefusal). x.pc) found.1 in (
        k,
        sym (ap (λ (x : CheckRefusal). x.rule) found.1),
        subst (λ (n : ℕ). MayFaultFirst p (made p) n k) there (record {
          instr = i;
          state = s;
          here = here;
          known = line;
          faulty = found.2;
          before = λ j d t low is has. passed j d t (rule p d t) is has refl (before j low);
        }),
      )
    where
      passed : (j : ℕ) (d : Instr) (t : State) (a : Result Edges FaultKind) → slice_get p.code j ≡ Some d → (made p).at j ≡ Some t → rule p d t ≡ a → refusal_at p (made p) j ≡ None
          → (e : Edges) × (rule p d t ≡ Ok e)
      passed j d t (Ok e) is has by none = (e, by)
      passed j d t (Err k) is has by none =
          let refuses : refusal_at p (made p) j ≡ Some (refusal j (May k)) =
          ap (λ (o : Option Instr). line_refusal p (made p) j o ((made p).at j)) is ∙ ap (λ (o : Option State). line_refusal p (made p) j (Some d) o) has
          ∙ ap (λ (a : Result Edges FaultKind). step_refusal p (made p) j d t a) by in
          absurd (none_some none refuses)

  pub refused_by_fault : (pc : ℕ) (r : Rule) → first_refusal p (made p) ≡ Some (refusal pc r) → (k : FaultKind) × (r ≡ May k) × MayFaultFirst p (made p) pc k
  unfolding first_refusal
  refused_by_fault pc r h =
      let c = made p in
      let entries : entry_refusal p c ≡ None =
      none_or (unless (opens p c) 0 Entry) (or_else (unless (inits p c) p.init Entry) (unless (serves p c) p.main Entry)) (unless_holds (opens p c) 0 Entry (open_there p m))
      (none_or (unless (inits p c) p.init Entry) (unless (serves p c) p.main Entry) (unless_holds (inits p c) p.init Entry (inits_there p m c.idle (closed p m place.Idle)))
      (unless_holds (serves p c) p.main Entry (serves_there p m c.ready (closed p m place.Ready)))) in
      let lines = first_below (length p.code) (refusal_at p c) in
      let ends = unless (requests p c) 0 Request in
      let rest : or_else lines ends ≡ Some (refusal pc r) =
      sym (after_none (unless (has_shape p c) 0 Shape) (or_else (entry_refusal p c) (or_else lines ends)) (unless_holds (has_shape p c) 0 Shape (shaped p m))
      ∙ after_none (entry_refusal p c) (or_else lines ends) entries) ∙ h in
      let first = first_found (length p.code) (refusal_at p c) (refusal pc r)
      (of_first lines ends (refusal pc r) (unless_holds (requests p c) 0 Request (requests_there p m c.ready (closed p m place.Ready))) rest) in
      by_line pc (slice_get p.code first.at) (c.at first.at) r first.at refl refl first.here first.before
