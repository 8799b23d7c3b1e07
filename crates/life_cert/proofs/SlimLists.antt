-- The states that a slim form keeps.
use Rattle.std.proofs.Common.{◌≡◌, ℕ, ◌<◌, ◌≤◌, Bool, true, false, if◌then◌else◌, List, length, Option, None, slice_get, refl, ap, sym, ◌∙◌, subst, arith, ⊎_elim}
use Rattle.std.proofs.Math.Path.{fun_ext}
use Rattle.std.proofs.lemmas.Bool.{cases_lt}
use Rattle.std.proofs.lemmas.Option.{slice_get_past}
use Rattle.module_code.specs.Program.{Program, IsModule}
use Rattle.life_state.specs.declared.state.State as code
use Rattle.life_state.specs.Seen.{seen_some}
use Rattle.life_check.specs.declared.cert.Cert.{Cert}
use Rattle.life_check.specs.Seen.{seen_line, seen_cert}
use Rattle.life_check.specs.Slim.{is_leader, slim_of, slim_form}
use Rattle.life_check.proofs.Meant.{ends_with_lines}
use Rattle.life_check.proofs.Targets.{head_inside}

-- a slim certificate keeps all, any other the states at heads
pub kept_state : (p : Program) (c : Cert) (pc : ℕ) → c.slim ≡ true → (seen_cert c).at pc ≡ (slim_form p c).at pc
kept_state p c pc w = ap (λ (b : Bool). (if b then seen_cert c else slim_of p (seen_cert c)).at pc) (sym w)

pub head_state : (p : Program) (c : Cert) (pc : ℕ) → c.slim ≡ false → is_leader p pc ≡ true → (seen_cert c).at pc ≡ (slim_form p c).at pc
head_state p c pc w h =
    ap (λ (b : Bool). if b then (seen_cert c).at pc else None) (sym h) ∙ ap (λ (b : Bool). (if b then seen_cert c else slim_of p (seen_cert c)).at pc) (sym w)

pub no_state : (p : Program) (c : Cert) (pc : ℕ) → c.slim ≡ false → is_leader p pc ≡ false → None ≡ (slim_form p c).at pc
no_state p c pc w h =
    ap (λ (b : Bool). if b then (seen_cert c).at pc else None) (sym h) ∙ ap (λ (b : Bool). (if b then seen_cert c else slim_of p (seen_cert c)).at pc) (sym w)

pub no_head : (p : Program) (pc : ℕ) → IsModule p → 1025 ≤ pc → is_leader p pc ≡ false
no_head p pc m far = of (is_leader p pc) refl
  where
    of : (b : Bool) → is_leader p pc ≡ b → b ≡ false
    of false e = refl
    of true e = let inside = head_inside p pc m e in let size = m.size in absurd (omega (arith, inside, size, far))

-- behind its lines it has no state
past_form : (p : Program) (c : Cert) (pc : ℕ) → length c.at.items ≤ pc → (slim_form p c).at pc ≡ None
past_form p c pc past = of c.slim refl (is_leader p pc) refl
  where
    none : (seen_cert c).at pc ≡ None
    none = ends_with_lines c pc past

    of : (s : Bool) → c.slim ≡ s → (b : Bool) → is_leader p pc ≡ b → (slim_form p c).at pc ≡ None
    of true w b h = sym (kept_state p c pc w) ∙ none
    of false w true h = sym (head_state p c pc w h) ∙ none
    of false w false h = sym (no_state p c pc w h)

form_idle : (p : Program) (c : Cert) → (seen_cert c).idle ≡ (slim_form p c).idle
form_idle p c = elim c.slim as (λ b. (seen_cert c).idle ≡ (if b then seen_cert c else slim_of p (seen_cert c)).idle) [ true ↦ refl | false ↦ refl ]

form_ready : (p : Program) (c : Cert) → (seen_cert c).ready ≡ (slim_form p c).ready
form_ready p c = elim c.slim as (λ b. (seen_cert c).ready ≡ (if b then seen_cert c else slim_of p (seen_cert c)).ready) [ true ↦ refl | false ↦ refl ]

form_lines : (p : Program) (c : Cert) → (seen_cert c).lines ≡ (slim_form p c).lines
form_lines p c = elim c.slim as (λ b. (seen_cert c).lines ≡ (if b then seen_cert c else slim_of p (seen_cert c)).lines) [ true ↦ refl | false ↦ refl ]

-- the certificate of the states that are kept
pub slim_is : (p : Program) (c : Cert) (xs : List (Option code.State)) → length xs ≡ length c.at.items → ((k : ℕ) → k < length xs → seen_line (slice_get xs k) ≡ (slim_form p c).at k)
    → (record { idle = seen_some c.idle; ready = seen_some c.ready; at = λ pc. seen_line (slice_get xs pc); lines = length xs }) ≡ slim_form p c
slim_is p c xs long each = λ i. record { idle = form_idle p c i; ready = form_ready p c i; at = at i; lines = (long ∙ form_lines p c) i }
  where
    at : (λ pc. seen_line (slice_get xs pc)) ≡ (slim_form p c).at
    at = fun_ext (λ pc. ⊎_elim (λ (low : pc < length xs). each pc low)
        (λ (past : length xs ≤ pc). ap seen_line (slice_get_past xs pc past) ∙ sym (past_form p c pc (subst (λ (n : ℕ). n ≤ pc) long past))) (cases_lt pc (length xs)))
