-- The slim form of a certificate that is accepted is accepted.
use Rattle.std.proofs.Common.{◌≡◌, Bool, true, false, ◌&&◌, ◌||◌, not, if◌then◌else◌, Option, None, is_some, refl, ap, ap₂, sym, ◌∙◌, subst}
use Rattle.module_code.specs.Program.{Program, IsModule}
use Rattle.life_state.specs.States.{State}
use Rattle.life_state.proofs.Below.{all_below_holds}
use Rattle.life_state.proofs.Tests.{and2}
use Rattle.life_check.specs.declared.cert.Cert.{Cert}
use Rattle.life_check.specs.Certificates.{Certificate, AreFormed}
use Rattle.life_check.specs.Seen.{seen_cert}
use Rattle.life_check.specs.Versions.{names_shape}
use Rattle.life_check.specs.Slim.{is_leader, at_leaders, completion, slim_of, slim_form, Accepts}
use Rattle.life_check.specs.Typed.{has_shape, IsTyped}
use Rattle.life_check.proofs.Meant.{ends_with_lines, slim_means, whole_means}
use Rattle.life_check.proofs.SlimTyped.{slim_is_typed, slim_shaped}

slim_at_heads : (p : Program) (c : Certificate) → at_leaders p (slim_of p c) ≡ true
slim_at_heads p c = all_below_holds c.lines (λ pc. is_leader p pc || not (is_some ((slim_of p c).at pc))) (λ pc low. of (is_leader p pc) (c.at pc))
  where
    of : (b : Bool) (o : Option State) → (b || not (is_some (if b then o else None))) ≡ true
    of true o = refl
    of false o = refl

pub slim_accepts : (p : Program) (c d : Cert) → IsModule p → AreFormed (seen_cert c) → d.version ≡ c.version → d.slim ≡ true → seen_cert d ≡ slim_form p c → Accepts p c → Accepts p d
slim_accepts p c d m formed version slim is a = by c.slim refl
  where
    shape : Bool → Certificate → Bool
    shape b x = not b || (has_shape p x && at_leaders p x)

    form_of : Bool → Certificate
    form_of b = if b then seen_cert c else slim_of p (seen_cert c)

    by : (s : Bool) → c.slim ≡ s → Accepts p d
    by true w =
        let same : seen_cert d ≡ seen_cert c = is ∙ ap form_of w in
        record {
          named = ap (names_shape p) version ∙ a.named;
          given = ap₂ shape (slim ∙ sym w) same ∙ a.given;
          typed = subst (IsTyped p) (sym (slim_means p d slim ∙ (ap (completion p) same ∙ sym (slim_means p c w)))) a.typed;
        }
    by false w =
        let same : seen_cert d ≡ slim_of p (seen_cert c) = is ∙ ap form_of w in
        let whole : IsTyped p (seen_cert c) = subst (IsTyped p) (whole_means p c w) a.typed in
        record {
          named = ap (names_shape p) version ∙ a.named;
          given = ap₂ shape slim same
              ∙ and2 (has_shape p (slim_of p (seen_cert c))) (at_leaders p (slim_of p (seen_cert c))) (slim_shaped p (seen_cert c) m formed (ends_with_lines c) whole) (slim_at_heads p (seen_cert c));
          typed = subst (IsTyped p) (sym (slim_means p d slim ∙ ap (completion p) same)) (slim_is_typed p (seen_cert c) m formed (ends_with_lines c) whole);
        }
