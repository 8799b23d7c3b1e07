-- What a certificate means, by whether it is slim.
use Rattle.std.proofs.Common.{◌≡◌, ℕ, suc, ◌+◌, ◌<◌, ◌≤◌, Bool, true, false, ◌&&◌, ◌||◌, not, ◌==◌, nat_le, nat_lt, is_some, unwrap_or, ap₂, add-one, if◌then◌else◌, length, Option, Some, None, IfSome}
use Rattle.std.proofs.Common.{Result, Ok, Err, slice_get, refl, ap, sym, ◌∙◌, subst, arith, IsOk, ◌↔◌, rules}
use Rattle.std.proofs.lemmas.Bool.{ltb-true}
use Rattle.std.proofs.lemmas.Option.{slice_get_past}
use Rattle.module_code.specs.declared.instr.Instr.{Instr}
use Rattle.module_code.specs.Program.{Program, IsModule, target}
use Rattle.life_state.specs.States.{State}
use Rattle.life_state.specs.Facts.{is_set, is_apart}
use Rattle.life_state.specs.Bounded.{IsBounded}
use Rattle.life_state.specs.Form.{IsFormed}
use Rattle.life_state.specs.FormLaws.{IsFormedIn}
use Rattle.life_state.specs.InForm.{is_formed}
use Rattle.life_state.specs.Rules.{Edges, rule}
use Rattle.life_state.proofs.Tests.{split2, split3}
use Rattle.life_check.specs.declared.cert.Cert.{Cert}
use Rattle.life_check.specs.declared.refusal.CheckRefusal.{CheckRefusal}
use Rattle.life_check.specs.declared.refusal.Rule.TheVariants.{Shape, Request}
use Rattle.life_check.specs.Certificates.{Certificate, IsBoundedSome, AllBounded, AreFormed}
use Rattle.life_check.specs.Seen.{seen_line, seen_cert}
use Rattle.life_check.specs.Versions.{names_shape}
use Rattle.life_check.specs.Slim.{is_leader, at_leaders, next_of, handed_next, completion, meant, is_slim_shape, states_refusal, cert_refusal, Accepts, EndsWithLines}
use Rattle.life_check.specs.Typed.{flows, leads_on, declares, has_in, fits_line, has_shape, refusal, unless, or_else, line_refusal, refusal_at, entry_refusal, first_below, requests, first_refusal}
use Rattle.life_check.specs.Typed.{IsAnswer}
use Rattle.life_check.proofs.Completed.{declared, head_full, next_full, each_fits, given, full_formed, completion_shaped, completion_formed}
use Rattle.life_check.proofs.Firsts.{unless_none, unless_holds, or_none, none_or, before_some, after_none}
use Rattle.life_check.proofs.TypedLaws.{typed_of, none_typed, none_past}

pub ends_with_lines : (c : Cert) → EndsWithLines (seen_cert c)
ends_with_lines c pc past = ap seen_line (slice_get_past c.at.items pc past)

pub slim_means : (p : Program) (c : Cert) → c.slim ≡ true → meant p c ≡ completion p (seen_cert c)
slim_means p c h = ap (λ (b : Bool). if b then completion p (seen_cert c) else seen_cert c) h

pub whole_means : (p : Program) (c : Cert) → c.slim ≡ false → meant p c ≡ seen_cert c
whole_means p c h = ap (λ (b : Bool). if b then completion p (seen_cert c) else seen_cert c) h

by_slim : (p : Program) (c : Cert) (P : Certificate → Type 0) → P (completion p (seen_cert c)) → P (seen_cert c) → P (meant p c)
by_slim p c P full whole = elim c.slim as (λ b. P (if b then completion p (seen_cert c) else seen_cert c)) [ true ↦ full | false ↦ whole ]

pub meant_idle : (p : Program) (c : Cert) → (meant p c).idle ≡ (seen_cert c).idle
meant_idle p c = by_slim p c (λ m. m.idle ≡ (seen_cert c).idle) refl refl

pub meant_ready : (p : Program) (c : Cert) → (meant p c).ready ≡ (seen_cert c).ready
meant_ready p c = by_slim p c (λ m. m.ready ≡ (seen_cert c).ready) refl refl

pub meant_head : (p : Program) (c : Cert) (pc : ℕ) → is_leader p pc ≡ true → (meant p c).at pc ≡ (seen_cert c).at pc
meant_head p c pc h = by_slim p c (λ m. m.at pc ≡ (seen_cert c).at pc) (head_full p (seen_cert c) pc h) refl

-- what flows into a head is what flows into what is given there
pub flows_meant : (p : Program) (c : Cert) (pc : ℕ) (from given : Option State) → from ≡ given → is_leader p pc ≡ true
    → flows given ((seen_cert c).at pc) ≡ flows from ((meant p c).at pc)
flows_meant p c pc from given same h = ap (λ o. flows o ((seen_cert c).at pc)) (sym same) ∙ ap (flows from) (sym (meant_head p c pc h))

pub meant_handed : (p : Program) (c : Cert) (pc : ℕ) → c.slim ≡ true → is_leader p (suc pc) ≡ false → (meant p c).at (suc pc) ≡ handed_next p (slice_get p.code pc) ((meant p c).at pc)
meant_handed p c pc h other =
    subst (λ (m : Certificate). m.at (suc pc) ≡ handed_next p (slice_get p.code pc) (m.at pc)) (sym (slim_means p c h)) (next_full p (seen_cert c) pc other)

-- Where the states that are given have the shape and are in form, so are those that are meant.

module _ (p : Program) (c : Cert) (m : IsModule p) (shape : has_shape p (seen_cert c) ≡ true) (formed : AreFormed (seen_cert c)) where
  pub meant_at : (pc : ℕ) → IfSome ((meant p c).at pc) (IsFormedIn p (nat_le p.main pc))
  meant_at pc =
      let fits = each_fits p (seen_cert c) (ends_with_lines c) shape in
      by_slim p c (λ d. IfSome (d.at pc) (IsFormedIn p (nat_le p.main pc))) (full_formed p (seen_cert c) m formed fits pc) (given p (seen_cert c) m formed fits pc)

  pub meant_shaped : has_shape p (meant p c) ≡ true
  meant_shaped = by_slim p c (λ d. has_shape p d ≡ true) (completion_shaped p (seen_cert c) m formed (each_fits p (seen_cert c) (ends_with_lines c) shape) shape) shape

  pub meant_formed : AreFormed (meant p c)
  meant_formed = by_slim p c AreFormed (completion_formed p (seen_cert c) m formed (each_fits p (seen_cert c) (ends_with_lines c) shape)) formed

  pub meant_declared : (pc : ℕ) (s : State) → (meant p c).at pc ≡ Some s → declares p s ≡ true
  meant_declared pc s e = declared p (nat_le p.main pc) s (subst (λ (o : Option State). IfSome o (IsFormedIn p (nat_le p.main pc))) e (meant_at pc))

-- A state in form is bounded.

bounded : (s : State) → IsFormed s → IsBounded s
bounded s f = record {
  pools = λ q le. f.no_pools q (omega (arith, f.pool_count));
  brigades = λ b le. f.no_brigades b (omega (arith, f.brigade_count)) (λ same. omega arith);
  cursors = λ c le. f.no_cursors c le;
  facts_from = λ c d le. from c d (s.facts c d) refl le;
  facts_to = λ c d le. f.symmetric c d ∙ from d c (s.facts d c) refl le;
}
  where
    no_set : (x y z u : Bool) → y ≡ false → (x && y && z && u) ≡ true → ⊥
    no_set true true z u e h = cc
    no_set true false z u e h = cc
    no_set false y z u e h = cc

    from : (c d : ℕ) (b : Bool) → s.facts c d ≡ b → 9 ≤ c → b ≡ false
    from c d false e le = refl
    from c d true e le =
        absurd (no_set (not (c == d)) (is_set (s.cursors c)) (is_set (s.cursors d)) (not (is_apart (s.cursors c) (s.cursors d))) (ap is_set (f.no_cursors c le)) (f.facts c d e))

bounded_some : (o : Option State) → IfSome o IsFormed → IsBoundedSome o
bounded_some None h = tt
bounded_some (Some s) h = bounded s h

pub all_bounded : (d : Certificate) → AreFormed d → AllBounded d
all_bounded d f = record { idle = bounded_some d.idle f.idle; ready = bounded_some d.ready f.ready; at = λ pc. bounded_some (d.at pc) (f.at pc) }

-- Refusals.

slim_shape : (p : Program) (c : Cert) → has_shape p (seen_cert c) ≡ true → (c.slim ≡ true → at_leaders p (seen_cert c) ≡ true) → is_slim_shape p c ≡ true
slim_shape p c shape leaders = of c.slim (has_shape p (seen_cert c)) (at_leaders p (seen_cert c)) shape leaders
  where
    of : (s x y : Bool) → x ≡ true → (s ≡ true → y ≡ true) → (not s || (x && y)) ≡ true
    of false x y e h = refl
    of true true y e h = h refl
    of true false y e h = cc

pub refused_as_meant : (p : Program) (c : Cert) (r : Result (Unit {0}) CheckRefusal) → has_shape p (seen_cert c) ≡ true → (c.slim ≡ true → at_leaders p (seen_cert c) ≡ true)
    → IsAnswer (first_refusal p (meant p c)) r → IsAnswer (states_refusal p c) r
refused_as_meant p c r shape leaders h =
    subst (λ (o : Option CheckRefusal). IsAnswer o r)
    (sym (after_none (unless (is_slim_shape p c) 0 Shape) (first_refusal p (meant p c)) (unless_holds (is_slim_shape p c) 0 Shape (slim_shape p c shape leaders)))) h

-- a state that is given where it may not stand
pub refused_by_heads : (p : Program) (c : Cert) → c.slim ≡ true → at_leaders p (seen_cert c) ≡ false → states_refusal p c ≡ Some (refusal 0 Shape)
refused_by_heads p c s h =
    ap (λ (b : Bool). or_else (unless b 0 Shape) (first_refusal p (meant p c))) (of c.slim (has_shape p (seen_cert c)) (at_leaders p (seen_cert c)) s h)
  where
    of : (s x y : Bool) → s ≡ true → y ≡ false → (not s || (x && y)) ≡ false
    of true true y e h = h
    of true false y e h = refl
    of false x y e h = cc

pub refused_by_shape : (p : Program) (c : Cert) → has_shape p (seen_cert c) ≡ false → states_refusal p c ≡ Some (refusal 0 Shape)
unfolding first_refusal
refused_by_shape p c h = by c.slim refl
  where
    of : (x y : Bool) → x ≡ false → (x && y) ≡ false
    of true y e = cc
    of false y e = refl

    by : (s : Bool) → c.slim ≡ s → states_refusal p c ≡ Some (refusal 0 Shape)
    by true e =
        ap (λ (b : Bool). or_else (unless b 0 Shape) (first_refusal p (meant p c)))
        (ap (λ (b : Bool). not b || (has_shape p (seen_cert c) && at_leaders p (seen_cert c))) e ∙ of (has_shape p (seen_cert c)) (at_leaders p (seen_cert c)) h)
    by false e =
        ap (λ (b : Bool). or_else (unless (not b || (has_shape p (seen_cert c) && at_leaders p (seen_cert c))) 0 Shape) (first_refusal p (if b then completion p (seen_cert c) else seen_cert c))) e
        ∙ ap (λ (b : Bool). or_else (unless b 0 Shape)
        (or_else (entry_refusal p (seen_cert c)) (or_else (first_below (length p.code) (refusal_at p (seen_cert c))) (unless (requests p (seen_cert c)) 0 Request)))) h

-- No refusal.

pub accepts_of : (p : Program) (c : Cert) → cert_refusal p c ≡ None → Accepts p c
accepts_of p c h =
    let named = or_none (unless (names_shape p c.version) 0 Shape) (states_refusal p c) h in
    let both = or_none (unless (is_slim_shape p c) 0 Shape) (first_refusal p (meant p c)) (named.1) in
    record { named = unless_none (names_shape p c.version) 0 Shape (named.0); given = unless_none (is_slim_shape p c) 0 Shape (both.0); typed = typed_of p (meant p c) (both.1) }

pub none_accepts : (p : Program) (c : Cert) → Accepts p c → cert_refusal p c ≡ None
none_accepts p c a = none_or (unless (names_shape p c.version) 0 Shape) (states_refusal p c) (unless_holds (names_shape p c.version) 0 Shape a.named)
    (none_or (unless (is_slim_shape p c) 0 Shape) (first_refusal p (meant p c)) (unless_holds (is_slim_shape p c) 0 Shape a.given) (none_typed p (meant p c) a.typed))

-- where the shape that is named is the module's, the first refusal is that of the states
pub named_refusal : (p : Program) (c : Cert) → names_shape p c.version ≡ true → cert_refusal p c ≡ states_refusal p c
named_refusal p c h = ap (λ (b : Bool). or_else (unless b 0 Shape) (states_refusal p c)) h

-- of a certificate that gives all states the first refusal is that of these
pub whole_refusal : (p : Program) (c : Cert) → names_shape p c.version ≡ true → c.slim ≡ false → cert_refusal p c ≡ first_refusal p (seen_cert c)
whole_refusal p c named w =
    named_refusal p c named
    ∙ ap (λ (b : Bool). or_else (unless (not b || (has_shape p (seen_cert c) && at_leaders p (seen_cert c))) 0 Shape) (first_refusal p (if b then completion p (seen_cert c) else seen_cert c))) w

apart : (r : CheckRefusal) → None ≡ Some r → ⊥
apart r h = cc

pub accepted : (p : Program) (c : Cert) (r : Result (Unit {0}) CheckRefusal) → IsAnswer (cert_refusal p c) r → IsOk r ↔ Accepts p c
accepted p c (Ok u) h = (λ o. accepts_of p c h, λ a. search)
accepted p c (Err r) h = (λ o. absurd (search rules), λ a. absurd (apart r (sym (none_accepts p c a) ∙ h)))

-- One line.

pub handed_none : (p : Program) (o : Option Instr) → handed_next p o None ≡ None
handed_none p None = refl
handed_none p (Some i) = refl

-- what the rule hands on where a state stands
pub handed_is : (p : Program) (pc : ℕ) (s : State) (q : Option State) (e : Edges) → pc < length p.code → q ≡ Some s → ((i : Instr) → slice_get p.code pc ≡ Some i → Ok e ≡ rule p i s)
    → e.next ≡ handed_next p (slice_get p.code pc) q
handed_is p pc s q e inside stands is = of (slice_get p.code pc) refl ∙ sym (ap (handed_next p (slice_get p.code pc)) stands)
  where
    of : (o : Option Instr) → slice_get p.code pc ≡ o → e.next ≡ handed_next p o (Some s)
    of None here = absurd (none_past p.code pc here inside)
    of (Some i) here = ap next_of (is i here)

-- an instruction without a state refuses nothing
pub none_stands : (p : Program) (c : Certificate) (pc : ℕ) → c.at pc ≡ None → refusal_at p c pc ≡ None
none_stands p c pc e = ap (line_refusal p c pc (slice_get p.code pc)) e ∙ of (slice_get p.code pc)
  where
    of : (o : Option Instr) → line_refusal p c pc o None ≡ None
    of None = refl
    of (Some i) = refl

-- the next state is given, or handed on
pub next_given : (p : Program) (c : Cert) (pc : ℕ) (b : Bool) → b ≡ is_leader p (pc + 1) → (not c.slim || b) ≡ true → (seen_cert c).at (pc + 1) ≡ (meant p c).at (pc + 1)
next_given p c pc b e h = by c.slim refl h
  where
    by : (s : Bool) → c.slim ≡ s → (not s || b) ≡ true → (seen_cert c).at (pc + 1) ≡ (meant p c).at (pc + 1)
    by false w h = ap (λ (m : Certificate). m.at (pc + 1)) (sym (whole_means p c w))
    by true w h = sym (meant_head p c (pc + 1) (sym e ∙ h))

pub next_handed : (p : Program) (c : Cert) (pc : ℕ) (b : Bool) → b ≡ is_leader p (pc + 1) → (not c.slim || b) ≡ false → handed_next p (slice_get p.code pc) ((meant p c).at pc) ≡ (meant p c).at (pc + 1)
next_handed p c pc b e h = by c.slim refl h
  where
    by : (s : Bool) → c.slim ≡ s → (not s || b) ≡ false → handed_next p (slice_get p.code pc) ((meant p c).at pc) ≡ (meant p c).at (pc + 1)
    by false w h = cc
    by true w h =
        let other : is_leader p (suc pc) ≡ false = subst (λ (n : ℕ). is_leader p n ≡ false) (add-one pc) (sym e ∙ h) in
        sym (ap (meant p c).at (add-one pc) ∙ meant_handed p c pc w other)

pub leads_is : (m : Certificate) (pc : ℕ) (i : Instr) (e : Edges) (x y : Bool) (n j : Option State) → x ≡ flows e.next n → y ≡ flows e.jump j → n ≡ m.at (pc + 1) → j ≡ m.at (unwrap_or (target i) 0)
    → (x && y) ≡ leads_on m pc i e
leads_is m pc i e x y n j a b next jump = ap₂ (λ (u v : Bool). u && v) (a ∙ ap (flows e.next) next) (b ∙ ap (flows e.jump) jump)

-- a line that fits stands before an instruction
pub line_inside : (p : Program) (c : Certificate) → EndsWithLines c → has_shape p c ≡ true → (pc : ℕ) → is_some (c.at pc) ≡ true → pc < length p.code
line_inside p c ends shape pc some = of (c.at pc) (each_fits p c ends shape pc) some
  where
    of : (o : Option State) → fits_line p pc o ≡ true → is_some o ≡ true → pc < length p.code
    of None h e = cc
    of (Some s) h e =
        let part = if nat_le p.main pc then has_in s else not (has_in s) in
        ltb-true pc (length p.code) (split3 (declares p s) (nat_lt pc (length p.code)) part (split2 (declares p s && nat_lt pc (length p.code) && part) (is_formed s) h).0).1

-- The first refusal of what is meant.

first_is : (p : Program) (m : Certificate) → has_shape p m ≡ true
    → first_refusal p m ≡ or_else (entry_refusal p m) (or_else (first_below (length p.code) (refusal_at p m)) (unless (requests p m) 0 Request))
unfolding first_refusal
first_is p m h = ap (λ (b : Bool). or_else (unless b 0 Shape) (or_else (entry_refusal p m) (or_else (first_below (length p.code) (refusal_at p m)) (unless (requests p m) 0 Request)))) h

pub entry_first : (p : Program) (m : Certificate) (r : CheckRefusal) → has_shape p m ≡ true → entry_refusal p m ≡ Some r → first_refusal p m ≡ Some r
entry_first p m r shape h = first_is p m shape ∙ before_some (entry_refusal p m) (or_else (first_below (length p.code) (refusal_at p m)) (unless (requests p m) 0 Request)) r h

pub lines_first : (p : Program) (m : Certificate) (r : CheckRefusal) → has_shape p m ≡ true → entry_refusal p m ≡ None → first_below (length p.code) (refusal_at p m) ≡ Some r
    → first_refusal p m ≡ Some r
lines_first p m r shape entry h =
    first_is p m shape
    ∙ (after_none (entry_refusal p m) (or_else (first_below (length p.code) (refusal_at p m)) (unless (requests p m) 0 Request)) entry
    ∙ before_some (first_below (length p.code) (refusal_at p m)) (unless (requests p m) 0 Request) r h)

pub last_first : (p : Program) (m : Certificate) (r : Result (Unit {0}) CheckRefusal) → has_shape p m ≡ true → entry_refusal p m ≡ None → first_below (length p.code) (refusal_at p m) ≡ None
    → IsAnswer (unless (requests p m) 0 Request) r → IsAnswer (first_refusal p m) r
last_first p m r shape entry lines h =
    let same : first_refusal p m ≡ unless (requests p m) 0 Request
    = first_is p m shape
    ∙ (after_none (entry_refusal p m) (or_else (first_below (length p.code) (refusal_at p m)) (unless (requests p m) 0 Request)) entry
    ∙ after_none (first_below (length p.code) (refusal_at p m)) (unless (requests p m) 0 Request) lines) in
    subst (λ (o : Option CheckRefusal). IsAnswer o r) (sym same) h
