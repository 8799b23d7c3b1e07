-- What is added in turn is added together.
use Rattle.std.proofs.Common.{◌≡◌, ℕ, List, ◌++◌, ap, ◌∙◌, append_assoc, subst}
use Rattle.author_text.specs.declared.print.Printer.{Printer}
use Rattle.author_text.specs.Adding.{AddsText}

pub adds_both : {a b c : Printer} {x y : List ℕ} → AddsText a b x → AddsText b c y → AddsText a c (x ++ y)
adds_both {a} {b} {c} {x} {y} p q = record {
  added = λ w. q.added w ∙ ap (λ t. t ++ y) (p.added (q.whole w)) ∙ append_assoc a.out.items x y;
  whole = λ w. p.whole (q.whole w);
}

pub adds_same : {a b : Printer} {x y : List ℕ} → AddsText a b x → x ≡ y → AddsText a b y
adds_same {a} {b} p e = subst (λ t. AddsText a b t) e p
