-- The completion of a slim certificate: each of its states is in form, and stands where it may.
use Rattle.std.proofs.Common.{◌≡◌, ℕ, zero, suc, ◌+◌, ◌<◌, Bool, true, false, ◌&&◌, not, ◌==◌, nat_lt, nat_le, if◌then◌else◌, length, inl, inr, Option, Some, None, IfSome, Result, Ok, Err, slice_get}
use Rattle.std.proofs.Common.{refl, ap, sym, ◌∙◌, subst, add-one, lt-ltb, eq-eqb}
use Rattle.std.proofs.lemmas.Bool.{cases_lt, eqb-true}
use Rattle.module_code.specs.declared.instr.Instr.{Instr}
use Rattle.module_code.specs.Program.{Program, IsModule, goes_on}
use Rattle.run_model.specs.declared.fault.FaultKind.{FaultKind}
use Rattle.life_state.specs.States.{State}
use Rattle.life_state.specs.Facts.{is_set, is_apart}
use Rattle.life_state.specs.Order.{leq}
use Rattle.life_state.specs.Rules.{Edges, rule}
use Rattle.life_state.specs.Form.{IsFormed}
use Rattle.life_state.specs.InForm.{is_formed}
use Rattle.life_state.specs.FormLaws.{IsFormedIn}
use Rattle.life_state.proofs.Below.{all_below_holds}
use Rattle.life_state.proofs.FormPasses.{passes_form}
use Rattle.life_state.proofs.FormRules.{rules_keep_form}
use Rattle.life_state.proofs.OrderLaws.{leq_same, leq_trans}
use Rattle.life_state.proofs.Tests.{split2, split3, and2, and3, all_at}
use Rattle.life_check.specs.Certificates.{Certificate, AreFormed}
use Rattle.life_check.specs.Slim.{is_leader, next_of, handed_next, full_at, completion, slim_of, EndsWithLines}
use Rattle.life_check.specs.Typed.{is_below, declares, has_in, fits_between, fits_line, fits_lines, has_shape}
use Rattle.life_check.proofs.EdgeLaws.{goes_on_next, rule_edges}
use Rattle.life_check.proofs.Sides.{same_side, next_side}

-- Orders.

-- a state in form is below itself
pub below_itself : (p : Program) (call : Bool) (s : State) → IsFormedIn p call s → leq s s ≡ true
below_itself p call s h = leq_same s (λ c. alone c (s.facts c c) refl)
  where
    no_self : (x y z u : Bool) → x ≡ true → (not x && y && z && u) ≡ true → ⊥
    no_self true y z u e w = cc
    no_self false y z u e w = cc

    alone : (c : ℕ) (b : Bool) → s.facts c c ≡ b → b ≡ false
    alone c true e = absurd (no_self (c == c) (is_set (s.cursors c)) (is_set (s.cursors c)) (not (is_apart (s.cursors c) (s.cursors c))) (eq-eqb c c refl) (h.formed.facts c c e))
    alone c false e = refl

pub below_trans : (s t : State) (o : Option State) → leq s t ≡ true → is_below t o ≡ true → is_below s o ≡ true
below_trans s t None p q = cc
below_trans s t (Some u) p q = leq_trans s t u p q

-- Where states are given, and where they are handed on.

pub head_full : (p : Program) (c : Certificate) (pc : ℕ) → is_leader p pc ≡ true → full_at p c pc ≡ c.at pc
unfolding full_at
head_full p c zero h = refl
head_full p c (suc n) h = ap (λ (b : Bool). if b then c.at (suc n) else handed_next p (slice_get p.code n) (full_at p c n)) h

pub next_full : (p : Program) (c : Certificate) (n : ℕ) → is_leader p (suc n) ≡ false → full_at p c (suc n) ≡ handed_next p (slice_get p.code n) (full_at p c n)
unfolding full_at
next_full p c n h = ap (λ (b : Bool). if b then c.at (suc n) else handed_next p (slice_get p.code n) (full_at p c n)) h

pub head_kept : (p : Program) (c : Certificate) (pc : ℕ) → is_leader p pc ≡ true → (slim_of p c).at pc ≡ c.at pc
head_kept p c pc h = ap (λ (b : Bool). if b then c.at pc else None) h

-- A line that stands where it may.

pub declared : (p : Program) (call : Bool) (s : State) → IsFormedIn p call s → declares p s ≡ true
declared p call s f =
    and2 (s.pool_count == length p.pools) (s.brigade_count == length p.brigades) (eq-eqb s.pool_count (length p.pools) f.pools) (eq-eqb s.brigade_count (length p.brigades) f.brigades)

in_part : (b : Bool) (s : State) → has_in s ≡ b → (if b then has_in s else not (has_in s)) ≡ true
in_part true s h = h
in_part false s h = ap not h

part_in : (b : Bool) (s : State) → (if b then has_in s else not (has_in s)) ≡ true → has_in s ≡ b
part_in true s h = h
part_in false s h = of (has_in s) h
  where
    of : (x : Bool) → not x ≡ true → x ≡ false
    of true e = cc
    of false e = refl

pub line_fits : (p : Program) (pc : ℕ) (o : Option State) → pc < length p.code → IfSome o (IsFormedIn p (nat_le p.main pc)) → fits_line p pc o ≡ true
line_fits p pc None inside h = refl
line_fits p pc (Some s) inside f =
    let part = if nat_le p.main pc then has_in s else not (has_in s) in
    and2 (declares p s && nat_lt pc (length p.code) && part) (is_formed s)
    (and3 (declares p s) (nat_lt pc (length p.code)) part (declared p (nat_le p.main pc) s f) (lt-ltb pc (length p.code) inside) (in_part (nat_le p.main pc) s f.brought)) (passes_form s f.formed)

line_formed : (p : Program) (pc : ℕ) (s : State) → fits_line p pc (Some s) ≡ true → IsFormed s → IsFormedIn p (nat_le p.main pc) s
line_formed p pc s h formed =
    let part = if nat_le p.main pc then has_in s else not (has_in s) in
    let front = split3 (declares p s) (nat_lt pc (length p.code)) part (split2 (declares p s && nat_lt pc (length p.code) && part) (is_formed s) h).0 in
    let counts = split2 (s.pool_count == length p.pools) (s.brigade_count == length p.brigades) (front.0) in
    record {
      formed = formed;
      pools = eqb-true s.pool_count (length p.pools) (counts.0);
      brigades = eqb-true s.brigade_count (length p.brigades) (counts.1);
      brought = part_in (nat_le p.main pc) s (front.2);
    }

pub only_formed : (p : Program) (call : Bool) (o : Option State) → IfSome o (IsFormedIn p call) → IfSome o IsFormed
only_formed p call None h = tt
only_formed p call (Some s) h = h.formed

-- each line fits, also where there is none
pub each_fits : (p : Program) (c : Certificate) → EndsWithLines c → has_shape p c ≡ true → (pc : ℕ) → fits_line p pc (c.at pc) ≡ true
each_fits p c ends shape pc =
    elim (cases_lt pc c.lines) [
      | inl low ↦ all_at c.lines pc (λ k. fits_line p k (c.at k)) (split3 (fits_between p c.idle) (fits_between p c.ready) (fits_lines p c) shape).2 low
      | inr past ↦ ap (fits_line p pc) (ends pc past)
    ]

module _ (p : Program) (c : Certificate) (m : IsModule p) (formed : AreFormed c) (fits : (pc : ℕ) → fits_line p pc (c.at pc) ≡ true) where
  pub given : (pc : ℕ) → IfSome (c.at pc) (IsFormedIn p (nat_le p.main pc))
  given pc = of (c.at pc) (fits pc) (formed.at pc)
    where
      of : (o : Option State) → fits_line p pc o ≡ true → IfSome o IsFormed → IfSome o (IsFormedIn p (nat_le p.main pc))
      of None h f = tt
      of (Some s) h f = line_formed p pc s h f

  handed_by : (n : ℕ) (i : Instr) (s : State) (r : Result Edges FaultKind) → slice_get p.code n ≡ Some i → rule p i s ≡ r → IsFormedIn p (nat_le p.main n) s
      → IfSome (next_of r) (IsFormedIn p (nat_le p.main (suc n)))
  handed_by n i s (Err k) here is f = tt
  handed_by n i s (Ok e) here is f = on e.next refl (rules_keep_form p (nat_le p.main n) i s e m (m.placed n i here).fit f is).0
    where
      on : (o : Option State) → e.next ≡ o → IfSome o (IsFormedIn p (nat_le p.main n)) → IfSome o (IsFormedIn p (nat_le p.main (suc n)))
      on None q h = tt
      on (Some t) q h =
          let goes : goes_on i ≡ true = goes_on_next p i s t (sym (ap (λ (x : Edges). x.next) (rule_edges p i s e is)) ∙ q) in
          subst (λ (b : Bool). IsFormedIn p b t) (same_side p.main n (n + 1) (next_side p m n i here goes) ∙ ap (nat_le p.main) (add-one n)) h

  handed : (n : ℕ) (o : Option Instr) (q : Option State) → slice_get p.code n ≡ o → IfSome q (IsFormedIn p (nat_le p.main n)) → IfSome (handed_next p o q) (IsFormedIn p (nat_le p.main (suc n)))
  handed n None q here h = tt
  handed n (Some i) None here h = tt
  handed n (Some i) (Some s) here h = handed_by n i s (rule p i s) here refl h

  pub full_formed : (pc : ℕ) → IfSome (full_at p c pc) (IsFormedIn p (nat_le p.main pc))
  unfolding full_at
  full_formed zero = given 0
  full_formed (suc n) =
      elim (is_leader p (suc n)) as (λ b. IfSome (if b then c.at (suc n) else handed_next p (slice_get p.code n) (full_at p c n)) (IsFormedIn p (nat_le p.main (suc n))))
      [ true ↦ given (suc n) | false ↦ handed n (slice_get p.code n) (full_at p c n) refl (full_formed n) ]

  pub full_fits : (pc : ℕ) → pc < length p.code → fits_line p pc (full_at p c pc) ≡ true
  full_fits pc inside = line_fits p pc (full_at p c pc) inside (full_formed pc)

  -- the completion has the shape
  pub completion_shaped : has_shape p c ≡ true → has_shape p (completion p c) ≡ true
  completion_shaped shape =
      let parts = split3 (fits_between p c.idle) (fits_between p c.ready) (fits_lines p c) shape in
      and3 (fits_between p c.idle) (fits_between p c.ready) (fits_lines p (completion p c)) (parts.0) (parts.1)
      (all_below_holds (length p.code) (λ pc. fits_line p pc (full_at p c pc)) full_fits)

  pub completion_formed : AreFormed (completion p c)
  completion_formed = record { idle = formed.idle; ready = formed.ready; at = λ pc. only_formed p (nat_le p.main pc) (full_at p c pc) (full_formed pc) }
