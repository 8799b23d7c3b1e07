-- A text that is read as a draft is made of lines, whose statements the draft was read from.
use Rattle.std.proofs.Common.{◌≡◌, ℕ, ◌+◌, Bool, true, false, not, cond, eqb, List, [], ◌∷◌, ◌++◌, length, Result, Ok, Err, refl, sym, ◌∙◌, ap, subst, arith, append_assoc, append-nil}
use Rattle.std.specs.Prelude.{All}
use Rattle.std.proofs.lemmas.Bool.{eqb-true}
use Rattle.module_lang.specs.Assembling.{lines_read, lines_ended, is_end}
use Rattle.byte_text.specs.Bytes.{all_printable, begins, tail, unindented}
use Rattle.module_lang.specs.Codes.{◌>>=◌}
use Rattle.module_lang.specs.Entries.{entered}
use Rattle.module_lang.specs.Lines.{line_taken, taken, line_read, unindented_read, label_read, item_read}
use Rattle.module_lang.specs.Texts.{is_skipped, joined, statements}
use Rattle.module_lang.specs.declared.draft.Draft.{Draft}
use Rattle.module_lang.specs.declared.lines.Line.{Line}
use Rattle.module_lang.specs.declared.lines.Line.TheVariants as line
use Rattle.module_lang.specs.declared.refusal.AsmRefusal.{AsmRefusal}
use Rattle.module_lang.specs.declared.refusal.AsmRefusal.TheVariants.{Fault}
use Rattle.module_lang.specs.declared.refusal.Code.{Code}
use Rattle.module_lang.specs.declared.refusal.Code.TheVariants as code
use Rattle.module_lang.proofs.FoundLaws.{PartTold, on_line}
use Rattle.module_lang.proofs.InverseLaws.{Spelled, item_spelled, label_said}
use Rattle.module_lang.proofs.LineLaws.{bind_ok}
use Rattle.byte_text.proofs.ListLaws.{all_cons}
use Rattle.module_lang.proofs.QuoteLaws.{quote_unindented}
use Rattle.module_lang.proofs.RunLaws.{Fold}

-- the lines of a text that was read
pub record IsLines (long : Bool) (d : Draft) (n : ℕ) (cur bs : List ℕ) (e : Draft) : Type 0 where
  pub lines : List (List ℕ)
  pub whole : cur ++ bs ≡ joined lines
  pub fold : Fold d n lines e
  pub short : long ≡ false
  pub ended : is_end e.part ≡ true

pub no_bytes : (xs : List ℕ) → not (eqb (length xs) 0) ≡ false → xs ≡ []
no_bytes [] h = refl
no_bytes (x ∷ xs) h = absurd (none (eqb (length (x ∷ xs)) 0) refl h)
  where
    none : (b : Bool) → eqb (length (x ∷ xs)) 0 ≡ b → not b ≡ false → ⊥
    none false q h = cc h
    none true q h = let e = eqb-true (length (x ∷ xs)) 0 q in absurd (omega (arith, e))

abbrev fine : Result (Unit {0}) AsmRefusal
fine = Ok tt

ended_at : (long : Bool) (d : Draft) (n : ℕ) (cur : List ℕ) (e : Draft) → (lines_ended long d.part n cur >>= λ _. Ok d) ≡ Ok e → IsLines long d n cur [] e
unfolding lines_ended
ended_at true d n cur e h = absurd (cc h)
ended_at false d n cur e h = rest (not (eqb (length cur) 0)) refl h
  where
    last : (b : Bool) → is_end d.part ≡ b → not (eqb (length cur) 0) ≡ false → (cond (not b) (Err (Fault n code.NotDue)) fine >>= λ _. Ok d) ≡ Ok e → IsLines false d n cur [] e
    last false q m h = absurd (cc h)
    last true q m h =
        let same : d ≡ e = cc h in
        record { lines = []; whole = append-nil cur ∙ no_bytes cur m; fold = same; short = refl; ended = subst (λ (x : Draft). is_end x.part ≡ true) same q }

    rest : (b : Bool) → not (eqb (length cur) 0) ≡ b → (cond b (Err (Fault n code.BadByte)) (cond (not (is_end d.part)) (Err (Fault n code.NotDue)) fine) >>= λ _. Ok d) ≡ Ok e
        → IsLines false d n cur [] e
    rest true q h = absurd (cc h)
    rest false q h = last (is_end d.part) refl q h

pub cut_lines : (bs : List ℕ) (long : Bool) (d : Draft) (n : ℕ) (cur : List ℕ) (e : Draft) → lines_read long d n cur bs ≡ Ok e → IsLines long d n cur bs e
cut_lines [] long d n cur e h = ended_at long d n cur e h
cut_lines (b ∷ bs) long d n cur e h = byte (eqb b 10) refl (λ x. cut_lines bs long x (n + 1) [] e) (cut_lines bs long d n (cur ++ b ∷ []) e) h
  where
    byte : (x : Bool) → eqb b 10 ≡ x → ((y : Draft) → lines_read long y (n + 1) [] bs ≡ Ok e → IsLines long y (n + 1) [] bs e) → (lines_read long d n (cur ++ b ∷ []) bs ≡ Ok e
        → IsLines long d n (cur ++ b ∷ []) bs e) → cond x (line_taken d n cur >>= λ y. lines_read long y (n + 1) [] bs) (lines_read long d n (cur ++ b ∷ []) bs) ≡ Ok e
        → IsLines long d n cur (b ∷ bs) e
    byte true q next more h =
        let a = bind_ok (line_taken d n cur) (λ y. lines_read long y (n + 1) [] bs) e h in
        let r = next a.0 a.2 in
        record { lines = cur ∷ r.lines; whole = ap (λ y. cur ++ y ∷ bs) (eqb-true b 10 q) ∙ ap (λ ys. cur ++ 10 ∷ ys) r.whole; fold = (a.0, a.1, r.fold); short = r.short; ended = r.ended }
    byte false q next more h =
        let r = more h in
        record { lines = r.lines; whole = sym (append_assoc cur (b ∷ []) bs) ∙ r.whole; fold = r.fold; short = r.short; ended = r.ended }

-- what is known of a line that was taken
pub record LineRead (d : Draft) (n : ℕ) (l : List ℕ) (x : Draft) : Type 0 where
  pub clean : all_printable l ≡ true
  pub told : (ss : List (List ℕ)) → PartTold d.part d ss → PartTold x.part x (ss ++ cond (is_skipped (unindented l)) [] (unindented l ∷ []))

pub begun_with : (s : List ℕ) → begins 58 s ≡ true → s ≡ 58 ∷ tail s
begun_with [] h = absurd (cc h)
begun_with (b ∷ bs) h = ap (λ x. x ∷ bs) (eqb-true b 58 h)

pub spelled_of : (d : Draft) (s : List ℕ) (y : Line) → cond (begins 58 s) (label_read d (tail s)) (item_read d s) ≡ Ok y → Spelled d s y
spelled_of d s y h = colon (begins 58 s) refl h
  where
    colon : (b : Bool) → begins 58 s ≡ b → cond b (label_read d (tail s)) (item_read d s) ≡ Ok y → Spelled d s y
    colon true q h = subst (λ x. Spelled d x y) (sym (begun_with s q)) (label_said d (tail s) y h)
    colon false q h = item_spelled d s y h

pub line_known : (d : Draft) (n : ℕ) (l : List ℕ) (x : Draft) → line_taken d n l ≡ Ok x → LineRead d n l x
unfolding line_taken line_read
line_known d n l x h = printed (all_printable l) refl h
  where
    spelled : (r : Result Line Code) → cond (begins 58 (unindented l)) (label_read d (tail (unindented l))) (item_read d (unindented l)) ≡ r → taken d n l r ≡ Ok x → (ss : List (List ℕ))
        → PartTold d.part d ss → PartTold x.part x (ss ++ unindented l ∷ [])
    spelled (Err c) q h ss t = absurd (cc h)
    spelled (Ok y) q h ss t = let same : entered d n l y ≡ x = cc h in
        subst (λ (z : Draft). PartTold z.part z (ss ++ unindented l ∷ [])) same (on_line d n l ss (unindented l) y (quote_unindented l) (spelled_of d (unindented l) y q) t)

    skipped : (b : Bool) → taken d n l (cond b (Ok line.Skipped) (cond (begins 58 (unindented l)) (label_read d (tail (unindented l))) (item_read d (unindented l)))) ≡ Ok x → (ss : List (List ℕ))
        → PartTold d.part d ss → PartTold x.part x (ss ++ cond b [] (unindented l ∷ []))
    skipped true h ss t = let same : d ≡ x = cc h in rw (append-nil ss) (subst (λ (z : Draft). PartTold z.part z ss) same t)
    skipped false h ss t = spelled (cond (begins 58 (unindented l)) (label_read d (tail (unindented l))) (item_read d (unindented l))) refl h ss t

    printed : (b : Bool) → all_printable l ≡ b → taken d n l (cond (not b) (Err code.BadByte) (unindented_read d (unindented l))) ≡ Ok x → LineRead d n l x
    printed false q h = absurd (cc h)
    printed true q h = record { clean = q; told = skipped (is_skipped (unindented l)) h }

-- lines that were taken are clean, and their statements are told
pub fold_told : (lines : List (List ℕ)) (d : Draft) (n : ℕ) (e : Draft) (ss : List (List ℕ)) → Fold d n lines e → PartTold d.part d ss → All (λ l. all_printable l ≡ true) lines
    × PartTold e.part e (ss ++ statements lines)
fold_told [] d n e ss f t = (λ k z lt. absurd (omega arith), rw (append-nil ss) (subst (λ (z : Draft). PartTold z.part z ss) f t))
fold_told (l ∷ ls) d n e ss f t =
    let r = line_known d n l f.0 f.1 in
    let s = cond (is_skipped (unindented l)) [] (unindented l ∷ []) in
    let more = fold_told ls f.0 (n + 1) e (ss ++ s) f.2 (r.told ss t) in
    (all_cons (λ l. all_printable l ≡ true) l ls r.clean more.0, subst (λ x. PartTold e.part e x) (append_assoc ss s (statements ls) ∙ ap (λ x. ss ++ x) (both (is_skipped (unindented l)))) more.1)
  where
    both : (b : Bool) → cond b [] (unindented l ∷ []) ++ statements ls ≡ cond b (statements ls) (unindented l ∷ statements ls)
    both true = refl
    both false = refl
