-- A text is read as its lines have codes.
use Rattle.std.proofs.Common.{◌≡◌, ℕ, ◌+◌, ◌≤◌, Bool, true, false, ◌||◌, not, cond, eqb, List, [], ◌∷◌, ◌++◌, length, Option, Some, None, inl, inr, Result, Ok, Err, refl, ◌∙◌, ap, arith}
use Rattle.module_lang.specs.Assembling.{is_end, lines_ended, lines_read}
use Rattle.module_lang.specs.Codes.{◌>>=◌}
use Rattle.module_lang.specs.Lines.{line_taken, taken, line_read}
use Rattle.module_lang.specs.FirstFault.{LinesHaveCode, all_left, end_has_code, has_code, left, line_of, statement}
use Rattle.byte_text.specs.TextLines.{lines_from, rest_from}
use Rattle.module_lang.specs.declared.draft.Draft.{Draft}
use Rattle.module_lang.specs.declared.handler.LineFault.{LineFault}
use Rattle.module_lang.specs.declared.refusal.AsmRefusal.{AsmRefusal}
use Rattle.module_lang.specs.declared.refusal.AsmRefusal.TheVariants.{Fault}
use Rattle.module_lang.specs.declared.refusal.Code.{Code}
use Rattle.module_lang.specs.declared.refusal.Code.TheVariants as code
use Rattle.module_lang.proofs.FirstOf.{Here, TellsFirst, or_later, tells_here, tells_same}
use Rattle.module_lang.proofs.LineFaults.{line_is, told}
use Rattle.module_lang.proofs.LineOrder.{IsOrdered, line_ordered}

abbrev pub or_fault : {A : Type 0} → Option LineFault → A → Result A AsmRefusal
or_fault None x = Ok x
or_fault (Some f) x = Err (Fault f.line f.code)

-- the first line that has a code
abbrev pub text_fault : Bool → Draft → ℕ → List (List ℕ) → Option LineFault
text_fault more d n [] = or_later n (told (end_has_code more d.part)) None
text_fault more d n (l ∷ ls) = or_later n (told (has_code d l)) (text_fault more (left d n l) (n + 1) ls)

lines_low : (more : Bool) (d : Draft) (n : ℕ) (ls : List (List ℕ)) (m : ℕ) (c : Code) → LinesHaveCode more d n ls m c → n ≤ m
lines_low more d n [] m c h = let x = h.0 in omega (arith, x)
lines_low more d n (l ∷ ls) m c (inl h) = let x = h.0 in omega (arith, x)
lines_low more d n (l ∷ ls) m c (inr h) = let x = lines_low more (left d n l) (n + 1) ls m c h in omega (arith, x)

pub lines_tell : (more : Bool) (d : Draft) (n : ℕ) (ls : List (List ℕ)) → TellsFirst (text_fault more d n ls) (LinesHaveCode more d n ls)
lines_tell more d n [] =
    tells_same (text_fault more d n []) (Here n (end_has_code more d.part) (λ m c. ⊥)) (LinesHaveCode more d n []) here (λ m c h. inl h)
    (tells_here n (end_has_code more d.part) (λ m c. ⊥) None (λ m c h. absurd h) (λ m c h. h))
  where
    here : (m : ℕ) (c : Code) → Here n (end_has_code more d.part) (λ m c. ⊥) m c → LinesHaveCode more d n [] m c
    here m c (inl h) = h
    here m c (inr h) = absurd h
lines_tell more d n (l ∷ ls) =
    tells_here n (has_code d l) (LinesHaveCode more (left d n l) (n + 1) ls) (text_fault more (left d n l) (n + 1) ls)
    (λ m c h. let x = lines_low more (left d n l) (n + 1) ls m c h in omega (arith, x)) (lines_tell more (left d n l) (n + 1) ls)

-- the reader tells that line
line_taken_is : (d : Draft) (n : ℕ) (l : List ℕ) → line_taken d n l ≡ or_fault (or_later n (told (has_code d l)) None) (left d n l)
unfolding line_taken
line_taken_is d n l = ap (taken d n l) (line_is d l) ∙ by (told (has_code d l))
  where
    by : (r : Result (Unit {0}) Code) → taken d n l (r >>= λ _. Ok (line_of (statement l))) ≡ or_fault (or_later n r None) (left d n l)
    by (Ok u) = refl
    by (Err c) = refl

pub read_is : (bs : List ℕ) (long : Bool) (d : Draft) (n : ℕ) (cur : List ℕ)
    → lines_read long d n cur bs ≡ or_fault (text_fault (long || not (eqb (length (rest_from cur bs)) 0)) d n (lines_from cur bs)) (all_left d n (lines_from cur bs))
unfolding lines_ended
read_is [] long d n cur = ends (long || not (eqb (length cur) 0)) (is_end d.part)
  where
    fine : Result (Unit {0}) AsmRefusal
    fine = Ok tt

    ends : (more e : Bool) → (cond more (Err (Fault n code.BadByte)) (cond (not e) (Err (Fault n code.NotDue)) (fine)) >>= λ _. Ok d) ≡ or_fault
        (or_later n (cond more (Err code.BadByte) (cond (not e) (Err code.NotDue) (Ok tt))) None) d
    ends true e = refl
    ends false true = refl
    ends false false = refl
read_is (b ∷ bs) long d n cur = byte (eqb b 10) (read_is bs long (left d n cur) (n + 1) []) (read_is bs long d n (cur ++ b ∷ []))
  where
    more : List ℕ → Bool
    more rest = long || not (eqb (length rest) 0)

    line : (r : Result (Unit {0}) Code) → lines_read long (left d n cur) (n + 1) [] bs ≡ or_fault (text_fault (more (rest_from [] bs)) (left d n cur) (n + 1) (lines_from [] bs))
        (all_left (left d n cur) (n + 1) (lines_from [] bs)) → (or_fault (or_later n r None) (left d n cur) >>= λ y. lines_read long y (n + 1) [] bs) ≡ or_fault
        (or_later n r (text_fault (more (rest_from [] bs)) (left d n cur) (n + 1) (lines_from [] bs))) (all_left (left d n cur) (n + 1) (lines_from [] bs))
    line (Err c) e = refl
    line (Ok u) e = e

    byte : (x : Bool) → lines_read long (left d n cur) (n + 1) [] bs ≡ or_fault (text_fault (more (rest_from [] bs)) (left d n cur) (n + 1) (lines_from [] bs))
        (all_left (left d n cur) (n + 1) (lines_from [] bs)) → lines_read long d n (cur ++ b ∷ []) bs ≡ or_fault (text_fault (more (rest_from (cur ++ b ∷ []) bs)) d n
        (lines_from (cur ++ b ∷ []) bs)) (all_left d n (lines_from (cur ++ b ∷ []) bs)) → cond x (line_taken d n cur >>= λ y. lines_read long y (n + 1) [] bs)
        (lines_read long d n (cur ++ b ∷ []) bs) ≡ or_fault (text_fault (more (cond x (rest_from [] bs) (rest_from (cur ++ b ∷ []) bs))) d n
        (cond x (cur ∷ lines_from [] bs) (lines_from (cur ++ b ∷ []) bs))) (all_left d n (cond x (cur ∷ lines_from [] bs) (lines_from (cur ++ b ∷ []) bs)))
    byte true e f = ap (λ r. r >>= λ y. lines_read long y (n + 1) [] bs) (line_taken_is d n cur) ∙ line (told (has_code d cur)) e
    byte false e f = f

-- where no line has a code, the lines of the draft rise, and its last part is reached
pub lines_ordered : (more : Bool) (d : Draft) (n : ℕ) (ls : List (List ℕ)) → text_fault more d n ls ≡ None → IsOrdered n d → (k : ℕ) × IsOrdered k (all_left d n ls)
    × (is_end (all_left d n ls).part ≡ true)
lines_ordered more d n [] q o = (n, o, ended more (is_end d.part) q)
  where
    ended : (more e : Bool) → or_later n (cond more (Err code.BadByte) (cond (not e) (Err code.NotDue) (Ok tt))) None ≡ None → e ≡ true
    ended true e h = absurd (cc h)
    ended false true h = refl
    ended false false h = absurd (cc h)
lines_ordered more d n (l ∷ ls) q o = by (told (has_code d l)) refl q (λ h j. lines_ordered more (left d n l) (n + 1) ls h j)
  where
    by : (r : Result (Unit {0}) Code) → told (has_code d l) ≡ r → or_later n r (text_fault more (left d n l) (n + 1) ls) ≡ None → (text_fault more (left d n l) (n + 1) ls ≡ None
        → IsOrdered (n + 1) (left d n l) → (k : ℕ) × IsOrdered k (all_left (left d n l) (n + 1) ls) × (is_end (all_left (left d n l) (n + 1) ls).part ≡ true)) → (k : ℕ)
        × IsOrdered k (all_left (left d n l) (n + 1) ls) × (is_end (all_left (left d n l) (n + 1) ls).part ≡ true)
    by (Err c) e h next = absurd (cc h)
    by (Ok u) e h next =
        let s : line_read d l ≡ Ok (line_of (statement l)) = line_is d l ∙ ap (λ r. r >>= λ _. Ok (line_of (statement l))) e in
        next h (line_ordered d n l (line_of (statement l)) s o)
