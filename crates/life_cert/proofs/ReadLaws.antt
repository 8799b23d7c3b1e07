-- A text and its lines.
use Rattle.std.proofs.Common.{◌≡◌, ℕ, suc, ◌+◌, ◌≤◌, Bool, true, false, ◌||◌, not, cond, List, [], ◌∷◌, ◌++◌, length, take, Ok, Err, refl, sym, ap, subst, ◌∙◌, append_assoc, append-nil, arith, inl}
use Rattle.std.proofs.Common.{inr, eqb}
use Rattle.std.specs.Prelude.{Result, IfErr, nat_lt}
use Rattle.std.proofs.lemmas.Bool.{eqb-true, le-ltb}
use Rattle.std.proofs.lemmas.List.{take_all}
use Rattle.byte_text.specs.LineReading.{AreTaken, IsFirstRefused}
use Rattle.byte_text.specs.TextLines.{lines_from, rest_from}
use Rattle.module_lang.specs.Texts.{joined}
use Rattle.life_cert.specs.declared.draft.CertDraft.{CertDraft}
use Rattle.life_cert.specs.declared.due.Due.{Due}
use Rattle.life_cert.specs.declared.due.Due.TheVariants as due
use Rattle.life_cert.specs.declared.refusal.CertCode.{CertCode}
use Rattle.life_cert.specs.declared.refusal.CertRefusal.{CertRefusal}
use Rattle.life_cert.specs.declared.refusal.CertRefusal.TheVariants.{Fault, NoMemory}
use Rattle.life_cert.specs.Codes.{code_number}
use Rattle.life_cert.specs.CertText.{cert_text}
use Rattle.life_cert.specs.Reading.{Before, EndTold, IsCertificate, IsCertText, IsReported, IsToldBy, IsToldFirst, IsToldOf, CertLinesHaveCode, at_begin, goes_on, is_over, left, more_than}
use Rattle.life_cert.specs.Drafts.{Counts, IsLineAdded, IsCertDraft, IsRefused, LineAdded, before, seen_draft, text_so_far}

-- the text of lines that were taken
pub taken_text : (ls : List (List ℕ)) (d e : CertDraft) (n : ℕ) → AreTaken LineAdded d n ls e
    → text_so_far e.due e.version e.slim (seen_draft e) ≡ text_so_far d.due d.version d.slim (seen_draft d) ++ joined ls
taken_text [] d e n h = ap (λ (x : CertDraft). text_so_far x.due x.version x.slim (seen_draft x)) (sym h) ∙ sym (append-nil (text_so_far d.due d.version d.slim (seen_draft d)))
taken_text (l ∷ ls) d e n h =
    let one : IsLineAdded d l h.0 = h.1 in
    let t = text_so_far d.due d.version d.slim (seen_draft d) in
    taken_text ls h.0 e (n + 1) h.2 ∙ ap (λ x. x ++ joined ls) one.text ∙ append_assoc t (l ++ 10 ∷ []) (joined ls) ∙ ap (λ x. t ++ x) (append_assoc l (10 ∷ []) (joined ls))

-- a text is its lines and what stands behind them
pub text_lines : (text cur : List ℕ) → cur ++ text ≡ joined (lines_from cur text) ++ rest_from cur text
text_lines [] cur = append-nil cur
text_lines (b ∷ bs) cur = by (eqb b 10) refl (text_lines bs []) (text_lines bs (cur ++ b ∷ []))
  where
    by : (x : Bool) → eqb b 10 ≡ x → bs ≡ joined (lines_from [] bs) ++ rest_from [] bs → (cur ++ b ∷ []) ++ bs ≡ joined (lines_from (cur ++ b ∷ []) bs) ++ rest_from (cur ++ b ∷ []) bs
        → cur ++ b ∷ bs ≡ joined (cond x (cur ∷ lines_from [] bs) (lines_from (cur ++ b ∷ []) bs)) ++ cond x (rest_from [] bs) (rest_from (cur ++ b ∷ []) bs)
    by true e line on =
        ap (λ (z : ℕ). cur ++ z ∷ bs) (eqb-true b 10 e) ∙ ap (λ t. cur ++ 10 ∷ t) line
        ∙ sym (append_assoc cur (10 ∷ joined (lines_from [] bs)) (rest_from [] bs))
    by false e line on = sym (append_assoc cur (b ∷ []) bs) ∙ on

-- no line has a number below the first
low : (more : Bool) (d : Before) (n : ℕ) (ls : List (List ℕ)) (m : ℕ) (c : CertCode) → CertLinesHaveCode more d n ls m c → n ≤ m
low more d n [] m c h = let e = h.0 in omega (arith, e)
low more d n (l ∷ ls) m c (inl h) = let e = h.0 in omega (arith, e)
low more d n (l ∷ ls) m c (inr h) = let e = low more (left d l) (n + 1) ls m c h in omega (arith, e)

-- lines that were taken have no code: one that some line has is one of the others
behind : (more : Bool) (front tail : List (List ℕ)) (d s : CertDraft) (n : ℕ) (m : ℕ) (c : CertCode) → AreTaken LineAdded d n front s → CertLinesHaveCode more (before d) n (front ++ tail) m c
    → CertLinesHaveCode more (before s) (n + length front) tail m c
behind more [] tail d s n m c h k =
    let same : n ≡ n + 0 = omega arith in
    subst (λ (x : ℕ). CertLinesHaveCode more (before s) x tail m c) same (subst (λ (x : CertDraft). CertLinesHaveCode more (before x) n tail m c) h k)
behind more (l ∷ ls) tail d s n m c h (inl k) = let one : IsLineAdded d l h.0 = h.1 in absurd (one.right c k.1)
behind more (l ∷ ls) tail d s n m c h (inr k) =
    let one : IsLineAdded d l h.0 = h.1 in
    let same : n + 1 + length ls ≡ n + suc (length ls) = omega arith in
    subst (λ (x : ℕ). CertLinesHaveCode more (before s) x tail m c) same
    (behind more ls tail h.0 s (n + 1) m c h.2 (subst (λ (x : Before). CertLinesHaveCode more x (n + 1) (ls ++ tail) m c) (sym one.left) k))

-- and the others way round
ahead : (more : Bool) (front tail : List (List ℕ)) (d s : CertDraft) (n : ℕ) (m : ℕ) (c : CertCode) → AreTaken LineAdded d n front s → CertLinesHaveCode more (before s) (n + length front) tail m c
    → CertLinesHaveCode more (before d) n (front ++ tail) m c
ahead more [] tail d s n m c h k =
    let same : n + 0 ≡ n = omega arith in
    subst (λ (x : CertDraft). CertLinesHaveCode more (before x) n tail m c) (sym h) (subst (λ (x : ℕ). CertLinesHaveCode more (before s) x tail m c) same k)
ahead more (l ∷ ls) tail d s n m c h k =
    let one : IsLineAdded d l h.0 = h.1 in
    let same : n + suc (length ls) ≡ n + 1 + length ls = omega arith in
    inr (subst (λ (x : Before). CertLinesHaveCode more x (n + 1) (ls ++ tail) m c) one.left (ahead more ls tail h.0 s (n + 1) m c h.2 (subst (λ (x : ℕ). CertLinesHaveCode more (before s) x tail m c) same k)))

told_at : (more : Bool) (front after : List (List ℕ)) (line : List ℕ) (d s : CertDraft) (m : ℕ) (c : CertCode) → AreTaken LineAdded d 1 front s → m ≡ length front + 1 → IsRefused s line c
    → IsToldFirst (CertLinesHaveCode more (before d) 1 (front ++ line ∷ after)) m c
told_at more front after line d s m c taken at r = record {
  fits = ahead more front (line ∷ after) d s 1 m c taken (inl (omega (arith, at), r.fits));
  line = λ k e h. let first = low more (before s) (1 + length front) (line ∷ after) k e (behind more front (line ∷ after) d s 1 k e taken h) in omega (arith, at, first);
  lowest = λ e h. here e (behind more front (line ∷ after) d s 1 m e taken h);
}
  where
    here : (e : CertCode) → CertLinesHaveCode more (before s) (1 + length front) (line ∷ after) m e → code_number c ≤ code_number e
    here e (inl h) = r.lowest e h.1
    here e (inr h) = let past = low more (left (before s) line) (1 + length front + 1) after m e h in absurd (omega (arith, at, past))

-- a line is refused
pub refused_told : (more : Bool) (lines : List (List ℕ)) (d t : CertDraft) (e : CertRefusal) → before d ≡ at_begin → IsFirstRefused LineAdded d lines e t
    → IsToldBy (CertLinesHaveCode more at_begin 1 lines) e
refused_told more lines d t NoMemory at r = tt
refused_told more lines d t (Fault m c) at r =
    let told = told_at more r.before r.after r.line d r.state m c r.taken r.refused.0 r.refused.1 in
    subst (λ (u : Before). IsToldFirst (CertLinesHaveCode more u 1 lines) m c) at (subst (λ (ls : List (List ℕ)). IsToldFirst (CertLinesHaveCode more (before d) 1 ls) m c) (sym r.whole) told)

-- what stands behind the lines is refused
pub end_told : (more : Bool) (lines : List (List ℕ)) (d s : CertDraft) (n : ℕ) (e : CertRefusal) → before d ≡ at_begin → AreTaken LineAdded d 1 lines s → n ≡ length lines + 1
    → EndTold more s.due n (Err e) → IsToldBy (CertLinesHaveCode more at_begin 1 lines) e
end_told more lines d s n NoMemory at taken count r = tt
end_told more lines d s n (Fault m c) at taken count r =
    subst (λ (u : Before). IsToldFirst (CertLinesHaveCode more u 1 lines) m c) at (subst (λ (ls : List (List ℕ)). IsToldFirst (CertLinesHaveCode more (before d) 1 ls) m c) (append-nil lines) told)
  where
    told : IsToldFirst (CertLinesHaveCode more (before d) 1 (lines ++ [])) m c
    told = record {
      fits = ahead more lines [] d s 1 m c taken (omega (arith, count, r.0), r.1);
      line = λ k e h. let first = (behind more lines [] d s 1 k e taken h).0 in omega (arith, count, r.0, first);
      lowest = λ e h. r.2 e (behind more lines [] d s 1 m e taken h).1;
    }

or_there : (a b : Bool) → (a || b) ≡ false → (a ≡ false) × (b ≡ false)
or_there false b h = (refl, h)
or_there true b h = cc h

no_bytes : (xs : List ℕ) → not (eqb (length xs) 0) ≡ false → xs ≡ []
no_bytes [] h = refl
no_bytes (x ∷ xs) h = absurd (grind (arith, h))

over : (d : CertDraft) → IsCertDraft d → is_over d.due ≡ true → (d.due ≡ due.Nothing) × IsCertificate (seen_draft d)
over d h is = by d.due refl is
  where
    by : (u : Due) → d.due ≡ u → is_over u ≡ true → (d.due ≡ due.Nothing) × IsCertificate (seen_draft d)
    by due.Header e t = cc t
    by due.Vars e t = cc t
    by due.Code e t = cc t
    by due.Idle e t = cc t
    by due.Ready e t = cc t
    by (due.States n) e t = cc t
    by due.Nothing e t = (e, record { idle = h.idle; ready = h.ready; at = h.at; few = subst (λ (u : Due). Counts u (length d.at.items)) e h.counts; last = h.last })

-- the text is read to its end
pub read_whole : (long : Bool) (text : List ℕ) (d s : CertDraft) (n : ℕ) → before d ≡ at_begin → IsCertDraft s → AreTaken LineAdded d 1 (lines_from [] text) s
    → EndTold (more_than long (rest_from [] text)) s.due n (Ok tt) → length text ≤ 4194304 → (long ≡ false) × IsCertText text s.version s.slim (seen_draft s)
unfolding text_so_far
read_whole long text d s n at sound taken r small =
    let both = or_there long (not (eqb (length (rest_from [] text)) 0)) r.0 in
    let none = no_bytes (rest_from [] text) both.1 in
    let done = over s sound r.1 in
    let lines = joined (lines_from [] text) in
    let whole : text ≡ lines = text_lines text [] ∙ ap (λ t. lines ++ t) none ∙ append-nil lines in
    let text_is : cert_text s.version s.slim (seen_draft s) ≡ lines =
    ap (λ (u : Due). text_so_far u s.version s.slim (seen_draft s)) (sym done.0) ∙ taken_text (lines_from [] text) d s 1 taken
    ∙ ap (λ (w : Before). text_so_far w.due d.version d.slim (seen_draft d) ++ lines) at in
    (both.0, record { sound = done.1; named = sound.named; whole = whole ∙ sym text_is; small = small })

-- A text that is not too long is read whole.
told_short : (text : List ℕ) (e : CertRefusal) → length text ≤ 4194304 → IsToldOf false text e → IsReported text e
told_short text e short h =
    let cut = take 4194304 text in
    let whole : cut ≡ text = take_all 4194304 text short in
    let no : nat_lt 4194304 (length text) ≡ false = le-ltb 4194304 (length text) short in
    let on : more_than false (rest_from [] cut) ≡ goes_on text = ap (λ (b : Bool). b || not (eqb (length (rest_from [] cut)) 0)) (sym no) in
    subst (λ (b : Bool). IsToldBy (CertLinesHaveCode b at_begin 1 (lines_from [] cut)) e) on
    (subst (λ (t : List ℕ). IsToldBy (CertLinesHaveCode (more_than false (rest_from [] t)) at_begin 1 (lines_from [] t)) e) (sym whole) h)

pub all_told : {X : Type 0} (text : List ℕ) (r : Result X CertRefusal) → length text ≤ 4194304 → IfErr r (λ e. IsToldOf false text e) → IfErr r (λ e. IsReported text e)
all_told text (Ok x) short h = h
all_told text (Err e) short h = told_short text e short h
