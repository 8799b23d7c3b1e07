use Rattle.std.proofs.Common.{◌≡◌, ◌∙◌, ◌&&◌, not, ap, sym, inl, inr, arith, length, length-drop, drop}
use Rattle.std.proofs.lemmas.Bool.{cases_Bool}
use Rattle.author_text.specs.declared.escape.Spelled.TheVariants as spelled
use Rattle.author_text.specs.Escapes.{front_spelled}
use Rattle.author_text.specs.Scanning.{is_clean, is_wrong}
use Rattle.author_text.proofs.EscapeLaws.{clean_byte, front_short, short_byte}
use Rattle.author_text.proofs.ScanLaws.{kept_some}
use Rattle.author_text.proofs.scan.Scanner.check_text.Goals as goal

pub loop-preserved : goal.loop-preserved
loop-preserved c =
    let rest = c.loop.rest.now in
    let is : front_spelled rest ≡ spelled.Byte c.in-Byte.byte c.in-Byte.len = sym c.in-Byte.ensures in
    let short = short_byte (front_spelled rest) c.in-Byte.byte c.in-Byte.len is (front_short rest) in
    let clean = clean_byte rest c.in-Byte.byte c.in-Byte.len is in
    record {
      kept = λ r e. c.check_byte.ensures.kept r (c.loop.invariant.kept r e);
      rest = c.check_byte.ensures.rest ∙ c.loop.invariant.rest;
      state =
          elim c.loop.invariant.state [
            | inl h ↦
                elim (cases_Bool (is_wrong (spelled.Byte c.in-Byte.byte c.in-Byte.len))) [
                  | inl wrong ↦ inr (c.check_byte.ensures.found wrong, h.1 ∙ clean ∙ ap (λ v. not v && is_clean 0 (drop c.in-Byte.len rest)) wrong)
                  | inr right ↦
                      inl (c.check_byte.ensures.clear right ∙ h.0, h.1 ∙ clean ∙ ap (λ v. not v && is_clean 0 (drop c.in-Byte.len rest)) right ∙ ap (is_clean 0) (sym c.after-rest.ensures))
                ]
            | inr h ↦ inr (kept_some c.loop.self.faults c.check_byte.new.self.faults c.check_byte.ensures.kept h.0, h.1)
          ];
      shorter = omega (arith, ap length c.after-rest.ensures, length-drop c.in-Byte.len rest, short.0, c.loop.invariant.shorter);
    }
