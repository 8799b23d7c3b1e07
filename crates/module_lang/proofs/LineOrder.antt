-- The lines of a draft's handlers rise: in a handler, and from handler to handler.
use Rattle.std.proofs.Common.{◌≡◌, ℕ, ◌+◌, ◌≤◌, true, List, [], ◌∷◌, ◌++◌, length, Ok, refl, sym, subst, arith}
use Rattle.byte_text.specs.Bytes.{unindented}
use Rattle.module_lang.specs.Drafts.{empty_draft, label_added, step_added, with_line, with_more}
use Rattle.module_lang.specs.Entries.{entered, item_entered, step_texts}
use Rattle.module_lang.specs.Lines.{line_read}
use Rattle.module_code.specs.Tables.{is_due, is_handler}
use Rattle.module_lang.specs.declared.draft.Draft.{Draft}
use Rattle.module_lang.specs.declared.draft.HandlerLines.{HandlerLines}
use Rattle.module_lang.specs.declared.draft.Label.{Label}
use Rattle.module_code.specs.declared.part.Part.{Part}
use Rattle.module_code.specs.declared.part.Part.TheVariants as part
use Rattle.module_lang.specs.declared.draft.DraftStep.{DraftStep}
use Rattle.module_lang.specs.declared.lines.Line.{Line}
use Rattle.module_lang.specs.declared.lines.Line.TheVariants as line
use Rattle.module_code.specs.declared.operand.Operands.{Operands}
use Rattle.module_code.specs.declared.word.Op.{Op}
use Rattle.module_code.specs.declared.word.Word.{Word}
use Rattle.module_code.specs.declared.word.Word.TheVariants as word
use Rattle.module_lang.proofs.SaysLaws.{Says, line_says}

-- numbers rise from one number to another
abbrev pub LinesRise : {X : Type 0} → (X → ℕ) → ℕ → ℕ → List X → Type 0
LinesRise f k n [] = k ≤ n
LinesRise f k n (x ∷ xs) = (k ≤ f x) × LinesRise f (f x + 1) n xs

pub rises_le : {X : Type 0} (f : X → ℕ) (k n : ℕ) (xs : List X) → LinesRise f k n xs → k ≤ n
rises_le f k n [] h = h
rises_le f k n (x ∷ xs) h = let z = rises_le f (f x + 1) n xs h.1 in let y = h.0 in omega (arith, y, z)

rises_up : {X : Type 0} (f : X → ℕ) (k n : ℕ) (xs : List X) → LinesRise f k n xs → LinesRise f k (n + 1) xs
rises_up f k n [] h = omega (arith, h)
rises_up f k n (x ∷ xs) h = (h.0, rises_up f (f x + 1) n xs h.1)

rises_push : {X : Type 0} (f : X → ℕ) (k n : ℕ) (xs : List X) (y : X) → f y ≡ n → LinesRise f k n xs → LinesRise f k (n + 1) (xs ++ y ∷ [])
rises_push f k n [] y e h = (omega (arith, e, h), omega (arith, e))
rises_push f k n (x ∷ xs) y e h = (h.0, rises_push f (f x + 1) n xs y e h.1)

-- the lines of a handler stand behind its own, and before line n
pub record HasLines (n : ℕ) (h : HandlerLines) : Type 0 where
  pub labels : LinesRise (λ (l : Label). l.line) (h.line + 1) n h.labels
  pub steps : LinesRise (λ (s : DraftStep). s.line) (h.line + 1) n h.steps

pub record IsBlank (h : HandlerLines) : Type 0 where
  pub labels : h.labels ≡ []
  pub steps : h.steps ≡ []

more_lines : (n : ℕ) (h : HandlerLines) → HasLines n h → HasLines (n + 1) h
more_lines n h x = record { labels = rises_up (λ (l : Label). l.line) (h.line + 1) n h.labels x.labels; steps = rises_up (λ (s : DraftStep). s.line) (h.line + 1) n h.steps x.steps }

first_lines : (n : ℕ) (h : HandlerLines) → IsBlank h → HasLines (n + 1) (record h { line = n })
first_lines n h b = record {
  labels = subst (LinesRise (λ (l : Label). l.line) (n + 1) (n + 1)) (sym b.labels) (omega arith);
  steps = subst (LinesRise (λ (s : DraftStep). s.line) (n + 1) (n + 1)) (sym b.steps) (omega arith);
}

label_lines : (n : ℕ) (h : HandlerLines) (name : List ℕ) → HasLines n h → HasLines (n + 1) (with_line h n name)
label_lines n h name x = let m = more_lines n h x in record { labels = rises_push (λ (l : Label). l.line) (h.line + 1) n h.labels _ refl x.labels; steps = m.steps }

step_lines : (n : ℕ) (h : HandlerLines) (s : DraftStep) → s.line ≡ n → HasLines n h → HasLines (n + 1) (with_more h s)
step_lines n h s e x = let m = more_lines n h x in record { labels = m.labels; steps = rises_push (λ (s : DraftStep). s.line) (h.line + 1) n h.steps s e x.steps }

-- the handlers of a draft in a part, where line n comes next
abbrev pub Ordered : Part → ℕ → Draft → Type 0
Ordered part.Open n d = HasLines n d.open × IsBlank d.init × IsBlank d.main
Ordered part.Init n d = HasLines d.init.line d.open × HasLines n d.init × IsBlank d.main
Ordered part.Main n d = HasLines d.init.line d.open × HasLines d.main.line d.init × HasLines n d.main
Ordered part.End n d = HasLines d.init.line d.open × HasLines d.main.line d.init × ((m : ℕ) × HasLines m d.main)
Ordered _ n d = IsBlank d.open × IsBlank d.init × IsBlank d.main

abbrev pub IsOrdered : ℕ → Draft → Type 0
IsOrdered n d = Ordered d.part n d

skipped_ordered : (p : Part) (n : ℕ) (d : Draft) → Ordered p n d → Ordered p (n + 1) d
skipped_ordered part.Open n d h = (more_lines n d.open h.0, h.1, h.2)
skipped_ordered part.Init n d h = (h.0, more_lines n d.init h.1, h.2)
skipped_ordered part.Main n d h = (h.0, h.1, more_lines n d.main h.2)
skipped_ordered _ n d h = h

label_ordered : (p : Part) (n : ℕ) (d : Draft) (name : List ℕ) → p ≡ d.part → is_handler p ≡ true → Ordered p n d → IsOrdered (n + 1) (label_added p d n name)
label_ordered part.Open n d name e v h = subst (λ q. Ordered q (n + 1) (label_added part.Open d n name)) e (label_lines n d.open name h.0, h.1, h.2)
label_ordered part.Init n d name e v h = subst (λ q. Ordered q (n + 1) (label_added part.Init d n name)) e (h.0, label_lines n d.init name h.1, h.2)
label_ordered part.Main n d name e v h = subst (λ q. Ordered q (n + 1) (label_added part.Main d n name)) e (h.0, h.1, label_lines n d.main name h.2)
label_ordered _ n d name e v h = absurd (cc v)

step_ordered : (p : Part) (n : ℕ) (d : Draft) (ts : List (List ℕ)) (s : DraftStep) (i : Op) → s.line ≡ n → p ≡ d.part → is_due p (word.Op i) ≡ true → Ordered p n d
    → IsOrdered (n + 1) (step_added p (record d { texts = ts }) s)
step_ordered part.Open n d ts s i l e v h = subst (λ q. Ordered q (n + 1) (step_added part.Open (record d { texts = ts }) s)) e (step_lines n d.open s l h.0, h.1, h.2)
step_ordered part.Init n d ts s i l e v h = subst (λ q. Ordered q (n + 1) (step_added part.Init (record d { texts = ts }) s)) e (h.0, step_lines n d.init s l h.1, h.2)
step_ordered part.Main n d ts s i l e v h = subst (λ q. Ordered q (n + 1) (step_added part.Main (record d { texts = ts }) s)) e (h.0, h.1, step_lines n d.main s l h.2)
step_ordered _ n d ts s i l e v h = absurd (cc v)

op_ordered : (p : Part) (n : ℕ) (d : Draft) (bytes : List ℕ) (i : Op) (o : Operands) → p ≡ d.part → is_due p (word.Op i) ≡ true → Ordered p n d
    → IsOrdered (n + 1) (item_entered d n bytes (word.Op i) o)
op_ordered p n d bytes i o e v h =
    let s : DraftStep = record { line = n; op = i; operands = o; text = length d.texts } in
    let ts = d.texts ++ step_texts o bytes in
    subst (λ q. IsOrdered (n + 1) (step_added q (record d { texts = ts }) s)) e (step_ordered p n d ts s i refl e v h)

item_ordered : (p : Part) (n : ℕ) (d : Draft) (bytes : List ℕ) (w : Word) (o : Operands) → p ≡ d.part → is_due p w ≡ true → Ordered p n d → IsOrdered (n + 1) (item_entered d n bytes w o)
item_ordered part.Start n d bytes word.Module o e v h = h
item_ordered part.Pools n d bytes word.Pool o e v h = subst (λ q. Ordered q (n + 1) (item_entered d n bytes word.Pool o)) e h
item_ordered part.Pools n d bytes word.Brigade o e v h = h
item_ordered part.Brigades n d bytes word.Brigade o e v h = h
item_ordered part.Pools n d bytes word.Open o e v h = (first_lines n d.open h.0, h.1, h.2)
item_ordered part.Brigades n d bytes word.Open o e v h = (first_lines n d.open h.0, h.1, h.2)
item_ordered part.Open n d bytes word.Init o e v h = (h.0, first_lines n d.init h.1, h.2)
item_ordered part.Init n d bytes word.Main o e v h = (h.0, h.1, first_lines n d.main h.2)
item_ordered part.Main n d bytes word.End o e v h = (h.0, h.1, (n, h.2))
item_ordered part.Open n d bytes (word.Op i) o e v h = op_ordered part.Open n d bytes i o e v h
item_ordered part.Init n d bytes (word.Op i) o e v h = op_ordered part.Init n d bytes i o e v h
item_ordered part.Main n d bytes (word.Op i) o e v h = op_ordered part.Main n d bytes i o e v h
item_ordered _ n d bytes _ o e v h = absurd (cc v)

-- a line that is taken keeps the order
pub line_ordered : (d : Draft) (n : ℕ) (bytes : List ℕ) (x : Line) → line_read d bytes ≡ Ok x → IsOrdered n d → IsOrdered (n + 1) (entered d n bytes x)
line_ordered d n bytes x q h = by x (line_says d bytes x q)
  where
    by : (x : Line) → Says d (unindented bytes) x → IsOrdered (n + 1) (entered d n bytes x)
    by line.Skipped s = skipped_ordered d.part n d h
    by (line.Label name) s = label_ordered d.part n d name refl s h
    by (line.Item w o) s = item_ordered d.part n d bytes w o refl s.due h

pub blank_ordered : IsOrdered 1 empty_draft
blank_ordered = (record { labels = refl; steps = refl }, record { labels = refl; steps = refl }, record { labels = refl; steps = refl })
