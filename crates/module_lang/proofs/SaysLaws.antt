-- What is known of a line that says something.
use Rattle.std.proofs.Common.{◌||◌, ◌≡◌, Bool, true, false, cond, List, ℕ, ◌==◌, not, length, Ok, Err, Option, Some, None, subst}
use Rattle.byte_text.specs.Bytes.{all_printable, begins, tail, unindented}
use Rattle.module_lang.specs.Codes.{unless}
use Rattle.module_lang.specs.Lines.{is_handler, label_read, item_read, unindented_read, line_read, or_no_label}
use Rattle.module_code.specs.Names.{name_of}
use Rattle.module_lang.specs.declared.draft.Draft.{Draft}
use Rattle.module_lang.specs.declared.lines.Line.{Line}
use Rattle.module_lang.specs.declared.lines.Line.TheVariants as line
use Rattle.module_lang.specs.declared.refusal.Code.TheVariants as code
use Rattle.module_lang.proofs.InverseLaws.{WordLine, Spelled, item_spelled}
use Rattle.module_lang.proofs.LineLaws.{bind_ok, unless_ok, not_false}

-- what is known of what a statement says
abbrev pub Says : Draft → List ℕ → Line → Type 0
Says d s line.Skipped = Unit {0}
Says d s (line.Label name) = is_handler d.part ≡ true
Says d s (line.Item w o) = WordLine d s w o

label_says : (d : Draft) (s bytes : List ℕ) (x : Line) → label_read d bytes ≡ Ok x → Says d s x
label_says d s bytes x h =
    let a = bind_ok (unless (not (is_handler d.part)) code.NotDue) (λ _. or_no_label (name_of bytes)) x h in
    label (name_of bytes) x a.2 (not_false (is_handler d.part) (unless_ok (not (is_handler d.part)) code.NotDue a.0 a.1))
  where
    label : (o : Option (List ℕ)) (x : Line) → or_no_label o ≡ Ok x → is_handler d.part ≡ true → Says d s x
    label None x e h = absurd (cc e)
    label (Some n) x e h = let z : line.Label n ≡ x = cc e in subst (λ y. Says d s y) z h

item_says : (d : Draft) (s : List ℕ) (x : Line) → Spelled d s x → Says d s x
item_says d s line.Skipped h = tt
item_says d s (line.Label n) h = h.4
item_says d s (line.Item w o) h = h

unindented_says : (d : Draft) (bytes : List ℕ) (x : Line) → unindented_read d bytes ≡ Ok x → Says d bytes x
unindented_says d bytes x h = skipped ((length bytes == 0) || begins 35 bytes) h
  where
    labelled : (b : Bool) → cond b (label_read d (tail bytes)) (item_read d bytes) ≡ Ok x → Says d bytes x
    labelled true h = label_says d bytes (tail bytes) x h
    labelled false h = item_says d bytes x (item_spelled d bytes x h)

    skipped : (b : Bool) → cond b (Ok line.Skipped) (cond (begins 58 bytes) (label_read d (tail bytes)) (item_read d bytes)) ≡ Ok x → Says d bytes x
    skipped true h = let s : line.Skipped ≡ x = cc h in subst (λ y. Says d bytes y) s tt
    skipped false h = labelled (begins 58 bytes) h

pub line_says : (d : Draft) (l : List ℕ) (x : Line) → line_read d l ≡ Ok x → Says d (unindented l) x
unfolding line_read
line_says d l x h = printable (not (all_printable l)) h
  where
    printable : (b : Bool) → cond b (Err code.BadByte) (unindented_read d (unindented l)) ≡ Ok x → Says d (unindented l) x
    printable true h = absurd (cc h)
    printable false h = unindented_says d (unindented l) x h
