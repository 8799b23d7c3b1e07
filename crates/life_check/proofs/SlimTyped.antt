-- What is accepted is accepted in its slim form: each state of the completion is below the one that was given there.
use Rattle.std.proofs.Common.{◌≡◌, ℕ, zero, suc, ◌+◌, Bool, true, false, nat_le, if◌then◌else◌, length, Option, Some, None, IfSome, unwrap_or, Result, Ok, slice_get, refl, ap, sym, ◌∙◌, subst}
use Rattle.std.proofs.Common.{add-one}
use Rattle.std.proofs.lemmas.Option.{slice_get_within}
use Rattle.module_code.specs.declared.instr.Instr.{Instr}
use Rattle.module_code.specs.declared.instr.Instr.TheVariants as instr
use Rattle.module_code.specs.Program.{Program, IsModule, target}
use Rattle.run_model.specs.declared.fault.FaultKind.{FaultKind}
use Rattle.life_state.specs.States.{State}
use Rattle.life_state.specs.Order.{leq}
use Rattle.life_state.specs.Rules.{Edges, rule, at_open, at_return}
use Rattle.life_state.specs.Form.{IsFormed}
use Rattle.life_state.specs.FormLaws.{IsFormedIn}
use Rattle.life_state.specs.Monotone.{edge_leq, LeadsBelow}
use Rattle.life_state.proofs.Below.{all_below_holds}
use Rattle.life_state.proofs.Tests.{split2, split3, and2, and3}
use Rattle.life_state.proofs.WithinRules.{rules_are_monotone, entries_are_monotone}
use Rattle.life_check.specs.Certificates.{Certificate, AreFormed}
use Rattle.life_check.specs.Slim.{is_leader, next_of, handed_next, full_at, completion, slim_of, EndsWithLines, SlimIsTyped}
use Rattle.life_check.specs.Typed.{is_below, flows, main_from, fits_between, fits_line, fits_lines, has_shape, exits, left_by, IsLed, IsTyped}
use Rattle.life_check.proofs.Completed.{below_itself, below_trans, head_full, next_full, head_kept, only_formed, each_fits, full_formed, completion_shaped}
use Rattle.life_check.proofs.Targets.{target_head, first_head, head_at_init, head_at_main}

edge_flows : (o q t : Option State) → edge_leq o q ≡ true → flows q t ≡ true → flows o t ≡ true
edge_flows None q t le h = refl
edge_flows (Some a) None t le h = cc
edge_flows (Some a) (Some b) t le h = below_trans a b t le h

flows_itself : (p : Program) (call : Bool) (o : Option State) → IfSome o (IsFormedIn p call) → flows o o ≡ true
flows_itself p call None h = refl
flows_itself p call (Some s) h = below_itself p call s h

module _ (p : Program) (c : Certificate) (m : IsModule p) (formed : AreFormed c) (ends : EndsWithLines c) (typed : IsTyped p c) where
  abbrev slim : Certificate
  slim = slim_of p c

  fits : (pc : ℕ) → fits_line p pc (c.at pc) ≡ true
  fits = each_fits p c ends typed.shape

  slim_fits : (pc : ℕ) → fits_line p pc (slim.at pc) ≡ true
  slim_fits pc = elim (is_leader p pc) as (λ b. fits_line p pc (if b then c.at pc else None) ≡ true) [ true ↦ fits pc | false ↦ refl ]

  slim_formed : AreFormed slim
  slim_formed = record { idle = formed.idle; ready = formed.ready; at = λ pc. elim (is_leader p pc) as (λ b. IfSome (if b then c.at pc else None) IsFormed) [ true ↦ formed.at pc | false ↦ tt ] }

  pub slim_shaped : has_shape p slim ≡ true
  slim_shaped =
      let parts = split3 (fits_between p c.idle) (fits_between p c.ready) (fits_lines p c) typed.shape in
      and3 (fits_between p c.idle) (fits_between p c.ready) (fits_lines p slim) (parts.0) (parts.1) (all_below_holds c.lines (λ pc. fits_line p pc (slim.at pc)) (λ pc low. slim_fits pc))

  formed_there : (pc : ℕ) → IfSome (full_at p slim pc) (IsFormedIn p (nat_le p.main pc))
  formed_there = full_formed p slim m slim_formed slim_fits

  at_head : (pc : ℕ) → is_leader p pc ≡ true → full_at p slim pc ≡ c.at pc
  at_head pc h = head_full p slim pc h ∙ head_kept p c pc h

  -- a smaller state before an instruction
  module _ (pc : ℕ) (i : Instr) (s u : State) (here : slice_get p.code pc ≡ Some i) (e : c.at pc ≡ Some u) (f : IsFormed s) (le : leq s u ≡ true) where
    led : IsLed p c pc i u
    led = typed.lines pc i u here e

    formed_u : IsFormed u
    formed_u = subst (λ (o : Option State). IfSome o IsFormed) e (formed.at pc)

    less : LeadsBelow p i s led.edges
    less = rules_are_monotone p i s u led.edges f formed_u le led.safe

    led_on : (flows led.edges.next (c.at (pc + 1)) ≡ true) × (flows led.edges.jump (c.at (unwrap_or (target i) 0)) ≡ true)
    led_on = split2 (flows led.edges.next (c.at (pc + 1))) (flows led.edges.jump (c.at (unwrap_or (target i) 0))) led.leads

    next_under : flows less.edges.next (c.at (suc pc)) ≡ true
    next_under = edge_flows less.edges.next led.edges.next (c.at (suc pc)) less.next (subst (λ (n : ℕ). flows led.edges.next (c.at n) ≡ true) (add-one pc) led_on.0)

    jump_under : flows less.edges.jump (c.at (unwrap_or (target i) 0)) ≡ true
    jump_under = edge_flows less.edges.jump led.edges.jump (c.at (unwrap_or (target i) 0)) less.jump led_on.1

  -- Each state of the completion is below the one that was given.

  over_handed : (n : ℕ) (o : Option Instr) (q r : Option State) → slice_get p.code n ≡ o → IfSome q (IsFormedIn p (nat_le p.main n)) → c.at n ≡ r → flows q r ≡ true
      → flows (handed_next p o q) (c.at (suc n)) ≡ true
  over_handed n None q r here f e le = refl
  over_handed n (Some i) None r here f e le = refl
  over_handed n (Some i) (Some s) None here f e le = cc
  over_handed n (Some i) (Some s) (Some u) here f e le =
      ap (λ (a : Result Edges FaultKind). flows (next_of a) (c.at (suc n))) (less n i s u here e f.formed le).safe ∙ next_under n i s u here e f.formed le

  over : (pc : ℕ) → flows (full_at p slim pc) (c.at pc) ≡ true
  over zero = ap (λ (o : Option State). flows o (c.at 0)) (at_head 0 (first_head p 0 refl)) ∙ itself (c.at 0) (at_head 0 (first_head p 0 refl)) (formed_there 0)
    where
      itself : (o : Option State) → full_at p slim 0 ≡ o → IfSome (full_at p slim 0) (IsFormedIn p (nat_le p.main 0)) → flows o o ≡ true
      itself o e h = flows_itself p (nat_le p.main 0) o (subst (λ (x : Option State). IfSome x (IsFormedIn p (nat_le p.main 0))) e h)
  over (suc n) = by (is_leader p (suc n)) refl (over n)
    where
      by : (b : Bool) → is_leader p (suc n) ≡ b → flows (full_at p slim n) (c.at n) ≡ true → flows (full_at p slim (suc n)) (c.at (suc n)) ≡ true
      by true h below =
          let e = at_head (suc n) h in
          ap (λ (o : Option State). flows o (c.at (suc n))) e
          ∙ flows_itself p (nat_le p.main (suc n)) (c.at (suc n)) (subst (λ (x : Option State). IfSome x (IsFormedIn p (nat_le p.main (suc n)))) e (formed_there (suc n)))
      by false h below =
          ap (λ (o : Option State). flows o (c.at (suc n))) (next_full p slim n h)
          ∙ over_handed n (slice_get p.code n) (full_at p slim n) (c.at n) refl (formed_there n) refl below

  -- Each line again.

  returns_under : (pc : ℕ) (i : Instr) (s u : State) → IsFormed s → IsFormed u → leq s u ≡ true → exits p c pc i u ≡ true → exits p c pc i s ≡ true
  returns_under pc (instr.Ret t) s u f g le h = below_trans (at_return s) (at_return u) (left_by p c pc) (entries_are_monotone.returns s u f g le) h
  returns_under pc _ s u f g le h = refl

  next_there : (pc : ℕ) (i : Instr) (s : State) (e : Edges) → slice_get p.code pc ≡ Some i → full_at p slim pc ≡ Some s → rule p i s ≡ Ok e → flows e.next (c.at (suc pc)) ≡ true
      → (b : Bool) → is_leader p (suc pc) ≡ b → flows e.next (full_at p slim (suc pc)) ≡ true
  next_there pc i s e here line is under true h = ap (flows e.next) (at_head (suc pc) h) ∙ under
  next_there pc i s e here line is under false h =
      let same : full_at p slim (suc pc) ≡ e.next
      = next_full p slim pc h ∙ (ap (λ (o : Option Instr). handed_next p o (full_at p slim pc)) here ∙ (ap (handed_next p (Some i)) line ∙ ap next_of is)) in
      ap (flows e.next) same ∙ flows_itself p (nat_le p.main (suc pc)) e.next (subst (λ (x : Option State). IfSome x (IsFormedIn p (nat_le p.main (suc pc)))) same (formed_there (suc pc)))

  led_by : (pc : ℕ) (i : Instr) (s : State) (q : Option State) → slice_get p.code pc ≡ Some i → full_at p slim pc ≡ Some s → c.at pc ≡ q → IsFormed s → is_below s q ≡ true
      → IsLed p (completion p slim) pc i s
  led_by pc i s None here line e f le = cc
  led_by pc i s (Some u) here line e f le =
      let of_u = led pc i s u here e f le in
      let d = less pc i s u here e f le in
      let at = unwrap_or (target i) 0 in
      record {
        edges = d.edges;
        safe = d.safe;
        leads = and2 (flows d.edges.next (full_at p slim (pc + 1))) (flows d.edges.jump (full_at p slim at))
            (subst (λ (n : ℕ). flows d.edges.next (full_at p slim n) ≡ true) (sym (add-one pc))
            (next_there pc i s d.edges here line d.safe (next_under pc i s u here e f le) (is_leader p (suc pc)) refl))
            (ap (flows d.edges.jump) (at_head at (target_head p pc i here (slice_get_within p.code pc i here))) ∙ jump_under pc i s u here e f le);
        exits = returns_under pc i s u f (formed_u pc i s u here e f le) le of_u.exits;
      }

  slim_typed : IsTyped p (completion p slim)
  slim_typed = record {
    shape = completion_shaped p slim m slim_formed slim_fits slim_shaped;
    opens = ap (is_below (at_open (length p.pools) (length p.brigades))) (at_head 0 (first_head p 0 refl)) ∙ typed.opens;
    inits = ap (flows c.idle) (at_head p.init (head_at_init p)) ∙ typed.inits;
    serves = ap (flows (main_from c.ready)) (at_head p.main (head_at_main p)) ∙ typed.serves;
    lines = λ pc i s here line.
        led_by pc i s (c.at pc) here line refl (only_formed p (nat_le p.main pc) (Some s) (subst (λ (x : Option State). IfSome x (IsFormedIn p (nat_le p.main pc))) line (formed_there pc)))
        (subst (λ (x : Option State). flows x (c.at pc) ≡ true) line (over pc));
    requests = typed.requests;
  }

pub slim_is_typed : SlimIsTyped
slim_is_typed p c m formed ends typed = slim_typed p c m formed ends typed
