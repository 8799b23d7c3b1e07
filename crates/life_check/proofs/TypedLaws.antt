-- No refusal, and no rule that refuses.
use Rattle.std.proofs.Common.{◌≡◌, ℕ, zero, suc, ◌<◌, [], ◌∷◌, arith, List, length, subst, Option, Some, None, Result, Ok, Err, slice_get, refl, ap, sym, ◌∙◌}
use Rattle.std.proofs.lemmas.Option.{slice_get_within}
use Rattle.module_code.specs.declared.instr.Instr.{Instr}
use Rattle.module_code.specs.Program.{Program}
use Rattle.run_model.specs.declared.fault.FaultKind.{FaultKind}
use Rattle.life_state.specs.States.{State}
use Rattle.life_state.specs.Rules.{Edges, rule}
use Rattle.life_check.specs.declared.refusal.CheckRefusal.{CheckRefusal}
use Rattle.life_check.specs.declared.refusal.Rule.TheVariants.{Shape, Entry, Flow, Exit, Request}
use Rattle.life_check.specs.Certificates.{Certificate}
use Rattle.life_check.specs.Typed.{has_shape, opens, inits, serves, requests, exits, leads_on, unless, or_else, entry_refusal, first_below, step_refusal, line_refusal, refusal_at, first_refusal}
use Rattle.life_check.specs.Typed.{IsLed, IsTyped, IsAnswer}
use Rattle.life_check.proofs.Firsts.{unless_none, unless_holds, or_none, none_or, none_below, none_at}

-- by what the rule answers
led_by : (p : Program) (c : Certificate) (pc : ℕ) (i : Instr) (s : State) (a : Result Edges FaultKind) → rule p i s ≡ a → step_refusal p c pc i s a ≡ None → IsLed p c pc i s
led_by p c pc i s (Err k) e h = cc
led_by p c pc i s (Ok edges) e h =
    let both = or_none (unless (leads_on c pc i edges) pc Flow) (unless (exits p c pc i s) pc Exit) h in
    record {
      edges = edges;
      safe = e;
      leads = unless_none (leads_on c pc i edges) pc Flow (both.0);
      exits = unless_none (exits p c pc i s) pc Exit (both.1);
    }

led : (p : Program) (c : Certificate) (pc : ℕ) (i : Instr) (s : State) → slice_get p.code pc ≡ Some i → c.at pc ≡ Some s → refusal_at p c pc ≡ None → IsLed p c pc i s
led p c pc i s here line h =
    led_by p c pc i s (rule p i s) refl (sym (ap (λ x. line_refusal p c pc x (c.at pc)) here ∙ ap (λ x. line_refusal p c pc (Some i) x) line) ∙ h)

none_by : (p : Program) (c : Certificate) (pc : ℕ) (i : Instr) (s : State) → IsLed p c pc i s → step_refusal p c pc i s (rule p i s) ≡ None
none_by p c pc i s h =
    ap (step_refusal p c pc i s) h.safe
    ∙ none_or (unless (leads_on c pc i h.edges) pc Flow) (unless (exits p c pc i s) pc Exit) (unless_holds (leads_on c pc i h.edges) pc Flow h.leads) (unless_holds (exits p c pc i s) pc Exit h.exits)

none_of : (p : Program) (c : Certificate) (pc : ℕ) (i : Option Instr) (s : Option State) → ((j : Instr) (t : State) → i ≡ Some j → s ≡ Some t → IsLed p c pc j t) → line_refusal p c pc i s ≡ None
none_of p c pc None s h = refl
none_of p c pc (Some i) None h = refl
none_of p c pc (Some i) (Some s) h = none_by p c pc i s (h i s refl refl)

pub typed_of : (p : Program) (c : Certificate) → first_refusal p c ≡ None → IsTyped p c
unfolding first_refusal
typed_of p c h =
    let shaped = or_none (unless (has_shape p c) 0 Shape) (or_else (entry_refusal p c) (or_else (first_below (length p.code) (refusal_at p c)) (unless (requests p c) 0 Request))) h in
    let begun = or_none (entry_refusal p c) (or_else (first_below (length p.code) (refusal_at p c)) (unless (requests p c) 0 Request)) (shaped.1) in
    let ends = or_none (first_below (length p.code) (refusal_at p c)) (unless (requests p c) 0 Request) (begun.1) in
    let first = or_none (unless (opens p c) 0 Entry) (or_else (unless (inits p c) p.init Entry) (unless (serves p c) p.main Entry)) (begun.0) in
    let second = or_none (unless (inits p c) p.init Entry) (unless (serves p c) p.main Entry) (first.1) in
    record {
      shape = unless_none (has_shape p c) 0 Shape (shaped.0);
      opens = unless_none (opens p c) 0 Entry (first.0);
      inits = unless_none (inits p c) p.init Entry (second.0);
      serves = unless_none (serves p c) p.main Entry (second.1);
      lines = λ pc i s here line. led p c pc i s here line (none_at (length p.code) pc (refusal_at p c) (ends.0) (slice_get_within p.code pc i here));
      requests = unless_none (requests p c) 0 Request (ends.1);
    }

pub none_typed : (p : Program) (c : Certificate) → IsTyped p c → first_refusal p c ≡ None
unfolding first_refusal
none_typed p c t =
    none_or (unless (has_shape p c) 0 Shape) (or_else (entry_refusal p c) (or_else (first_below (length p.code) (refusal_at p c)) (unless (requests p c) 0 Request)))
    (unless_holds (has_shape p c) 0 Shape t.shape)
    (none_or (entry_refusal p c) (or_else (first_below (length p.code) (refusal_at p c)) (unless (requests p c) 0 Request))
    (none_or (unless (opens p c) 0 Entry) (or_else (unless (inits p c) p.init Entry) (unless (serves p c) p.main Entry))
    (unless_holds (opens p c) 0 Entry t.opens)
    (none_or (unless (inits p c) p.init Entry) (unless (serves p c) p.main Entry) (unless_holds (inits p c) p.init Entry t.inits) (unless_holds (serves p c) p.main Entry t.serves)))
    (none_or (first_below (length p.code) (refusal_at p c)) (unless (requests p c) 0 Request)
    (none_below (length p.code) (refusal_at p c) (λ k below. none_of p c k (slice_get p.code k) (c.at k) (λ i s here line. t.lines k i s here line)))
    (unless_holds (requests p c) 0 Request t.requests)))

pub none_past : (xs : List Instr) (i : ℕ) → slice_get xs i ≡ None → i < length xs → ⊥
none_past [] i e h = omega arith
none_past (x ∷ xs) zero e h = cc
none_past (x ∷ xs) (suc i) e h = none_past xs i e (omega arith)

told_by : (p : Program) (c : Certificate) (pc : ℕ) (s : State) (r : Result (Unit {0}) CheckRefusal) (o : Option Instr) → slice_get p.code pc ≡ o → pc < length p.code
    → ((i : Instr) → slice_get p.code pc ≡ Some i → IsAnswer (step_refusal p c pc i s (rule p i s)) r) → IsAnswer (line_refusal p c pc o (Some s)) r
told_by p c pc s r None e inside h = absurd (none_past p.code pc e inside)
told_by p c pc s r (Some i) e inside h = h i e

pub told : (p : Program) (c : Certificate) (pc : ℕ) (s : State) (r : Result (Unit {0}) CheckRefusal) → c.at pc ≡ Some s → pc < length p.code
    → ((i : Instr) → slice_get p.code pc ≡ Some i → IsAnswer (step_refusal p c pc i s (rule p i s)) r) → IsAnswer (refusal_at p c pc) r
told p c pc s r line inside h =
    subst (λ (o : Option State). IsAnswer (line_refusal p c pc (slice_get p.code pc) o) r) (sym line) (told_by p c pc s r (slice_get p.code pc) refl inside h)
