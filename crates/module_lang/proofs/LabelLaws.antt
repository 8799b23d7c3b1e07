-- Labels that are spelled are found again.
use Rattle.std.proofs.Common.{◌≡◌, ◌≢◌, ℕ, zero, suc, ◌+◌, ◌-◌, true, false, ◌&&◌, cond, eqb, leb, nat_eq, List, [], ◌∷◌, ◌++◌, length, map, Option, Some, None, inl, inr, refl, sym, ◌∙◌, ap, subst}
use Rattle.std.proofs.Common.{arith, append_assoc}
use Rattle.std.specs.Prelude.{replicate, slice_index}
use Rattle.std.specs.List.{list_all}
use Rattle.std.specs.Cmp.Lexicographic.{pointwise, same_text}
use Rattle.std.proofs.lemmas.Bool.{and_parts, ne_eqb, lt-leb, false_from_ne_true}
use Rattle.std.proofs.lemmas.Cmp.{nat_list_eq_equiv}
use Rattle.module_lang.specs.Handlers.{has_name, is_named, label_fault, place_from}
use Rattle.module_code.specs.Names.{is_name, is_name_byte, is_letter, all_name_bytes}
use Rattle.module_lang.specs.Texts.{CodeLine, label, step, labels_from, AreDistinct, HasLabelsBelow, IsApart, IsLabel}
use Rattle.module_lang.specs.declared.draft.Label.{Label}
use Rattle.module_lang.proofs.BodyLaws.{mark, marks_from}
use Rattle.module_lang.proofs.SpellingLaws.{padded}

-- a name without the zeros behind it
abbrev pub stripped : List ℕ → List ℕ
stripped [] = []
stripped (b ∷ bs) = cond (eqb b 0) [] (b ∷ stripped bs)

zeros : (k : ℕ) → stripped (replicate k 0) ≡ []
zeros zero = refl
zeros (suc k) = refl

strip_bytes : (n : List ℕ) (k : ℕ) → list_all is_name_byte n ≡ true → stripped (n ++ replicate k 0) ≡ n
strip_bytes [] k h = zeros k
strip_bytes (b ∷ bs) k h =
    let a = and_parts (is_name_byte b) (list_all is_name_byte bs) h in
    let some : eqb b 0 ≡ false = ne_eqb b 0 (λ e. absurd (cc (sym a.0 ∙ ap is_name_byte e))) in
    rw some (ap (λ x. b ∷ x) (strip_bytes bs k a.1))

pub name_stripped : (n : List ℕ) → is_name n ≡ true → stripped (padded n) ≡ n
unfolding is_name all_name_bytes
name_stripped n h = strip_bytes n (16 - length n) (and_parts (leb 1 (length n) && leb (length n) 16 && is_letter (slice_index n 0)) (list_all is_name_byte n) h).1

-- two names that differ are told apart
pub other_name : (a b : List ℕ) → is_name a ≡ true → is_name b ≡ true → a ≢ b → pointwise nat_eq (padded a) (padded b) ≡ false
other_name a b x y apart =
    false_from_ne_true (pointwise nat_eq (padded a) (padded b)) (λ e. apart (sym (name_stripped a x) ∙ ap stripped (same_text (padded a) (padded b) (sym e)) ∙ name_stripped b y))

pub same_name : (a : List ℕ) → pointwise nat_eq a a ≡ true
same_name a = nat_list_eq_equiv.refl a

-- labels and what they spell: the same names, and places that begin at n
abbrev pub Marked : ℕ → List Label → List (List ℕ × ℕ) → Type 0
Marked n [] [] = Unit {0}
Marked n [] (x ∷ xs) = ⊥
Marked n (l ∷ ls) [] = ⊥
Marked n (l ∷ ls) (x ∷ xs) = (l.name ≡ padded x.0) × (n + l.place ≡ x.1) × Marked n ls xs

pub marked_from : (n m k : ℕ) (code : List CodeLine) (labels : List Label) → k ≡ n + m → map mark labels ≡ marks_from m code → Marked n labels (labels_from k code)
marked_from n m k [] [] q h = tt
marked_from n m k [] (l ∷ ls) q h = absurd (cc h)
marked_from n m k (label x ∷ code) [] q h = absurd (cc h)
marked_from n m k (label x ∷ code) (l ∷ ls) q h =
    let first : mark l ≡ (padded x, m) = cc h in
    let rest : map mark ls ≡ marks_from m code = cc h in
    let place : l.place ≡ m = ap (λ (z : List ℕ × ℕ). z.1) first in
    (ap (λ (z : List ℕ × ℕ). z.0) first, omega (arith, place), marked_from n m k code ls q rest)
marked_from n m k (step i x s ∷ code) labels q h = marked_from n (m + 1) (k + 1) code labels (omega arith) h

-- names of labels, wherever they stand
abbrev pub HaveThoseNames : List Label → List (List ℕ × ℕ) → Type 0
HaveThoseNames [] [] = Unit {0}
HaveThoseNames [] (x ∷ xs) = ⊥
HaveThoseNames (l ∷ ls) [] = ⊥
HaveThoseNames (l ∷ ls) (x ∷ xs) = (l.name ≡ padded x.0) × HaveThoseNames ls xs

pub named_of : (n : ℕ) (ls : List Label) (xs : List (List ℕ × ℕ)) → Marked n ls xs → HaveThoseNames ls xs
named_of n [] [] h = tt
named_of n [] (x ∷ xs) h = absurd h
named_of n (l ∷ ls) [] h = absurd h
named_of n (l ∷ ls) (x ∷ xs) h = (h.0, named_of n ls xs h.2)

pub named-append : (ls ms : List Label) (xs ys : List (List ℕ × ℕ)) → HaveThoseNames ls xs → HaveThoseNames ms ys → HaveThoseNames (ls ++ ms) (xs ++ ys)
named-append [] ms [] ys h j = j
named-append [] ms (x ∷ xs) ys h j = absurd h
named-append (l ∷ ls) ms [] ys h j = absurd h
named-append (l ∷ ls) ms (x ∷ xs) ys h j = (h.0, named-append ls ms xs ys h.1 j)

-- the labels have names
abbrev pub HaveLabelNames : List (List ℕ × ℕ) → Type 0
HaveLabelNames [] = Unit {0}
HaveLabelNames (x ∷ xs) = (is_name x.0 ≡ true) × HaveLabelNames xs

pub names_of : (to : ℕ) (xs : List (List ℕ × ℕ)) → HasLabelsBelow to xs → HaveLabelNames xs
names_of to [] h = tt
names_of to (x ∷ xs) h = (h.0, names_of to xs h.2)

pub HaveLabelNames-append : (xs ys : List (List ℕ × ℕ)) → HaveLabelNames xs → HaveLabelNames ys → HaveLabelNames (xs ++ ys)
HaveLabelNames-append [] ys h j = j
HaveLabelNames-append (x ∷ xs) ys h j = (h.0, HaveLabelNames-append xs ys h.1 j)

apart_at : (name : List ℕ) (bs : List (List ℕ × ℕ)) (y : List ℕ × ℕ) (rest : List (List ℕ × ℕ)) → IsApart name (bs ++ y ∷ rest) → name ≢ y.0
apart_at name [] y rest h = h.0
apart_at name (b ∷ bs) y rest h = apart_at name bs y rest h.1

-- a label that stands nowhere before is not named before
fresh : (before : List Label) (bs : List (List ℕ × ℕ)) (y : List ℕ × ℕ) (rest : List (List ℕ × ℕ)) → HaveThoseNames before bs → HaveLabelNames bs → is_name y.0 ≡ true → AreDistinct (bs ++ y ∷ rest)
    → is_named (padded y.0) before ≡ false
fresh [] [] y rest h v name d = refl
fresh [] (b ∷ bs) y rest h v name d = absurd h
fresh (l ∷ ls) [] y rest h v name d = absurd h
fresh (l ∷ ls) (b ∷ bs) y rest h v name d =
    let apart : pointwise nat_eq l.name (padded y.0) ≡ false = rw h.0 (other_name b.0 y.0 v.0 name (apart_at b.0 bs y rest d.0)) in
    rw apart (fresh ls bs y rest h.1 v.1 name d.1)

-- labels with names of their own, which instructions follow, have no fault
pub labels_right : (before labels : List Label) (bs xs : List (List ℕ × ℕ)) (n count : ℕ) → HaveThoseNames before bs → HaveLabelNames bs → Marked n labels xs → HasLabelsBelow (n + count) xs
    → AreDistinct (bs ++ xs)
    → label_fault before count labels ≡ None
labels_right before [] bs xs n count b v m r d = refl
labels_right before (l ∷ ls) bs [] n count b v m r d = absurd m
labels_right before (l ∷ ls) bs (x ∷ xs) n count b v m r d =
    let new : is_named l.name before ≡ false = rw m.0 (fresh before bs x xs b v r.0 d) in
    let low : leb count l.place ≡ false = lt-leb count l.place (omega (arith, m.1, r.1)) in
    let whole : (bs ++ x ∷ []) ++ xs ≡ bs ++ x ∷ xs = append_assoc bs (x ∷ []) xs in
    rw (new, low) (labels_right (before ++ l ∷ []) ls (bs ++ x ∷ []) xs n count (named-append before (l ∷ []) bs (x ∷ []) b (m.0, tt)) (HaveLabelNames-append bs (x ∷ []) v (r.0, tt)) m.2 r.2
    (rw whole d))

-- a name that no label has leaves the place that was found
kept : (f : Option ℕ) (name : List ℕ) (n : ℕ) (ls : List Label) (xs : List (List ℕ × ℕ)) → is_name name ≡ true → Marked n ls xs → HaveLabelNames xs → IsApart name xs
    → place_from f (padded name) ls ≡ f
kept f name n [] [] v m r a = refl
kept f name n [] (x ∷ xs) v m r a = absurd m
kept f name n (l ∷ ls) [] v m r a = absurd m
kept f name n (l ∷ ls) (x ∷ xs) v m r a =
    let apart : pointwise nat_eq l.name (padded name) ≡ false = rw m.0 (other_name x.0 name r.0 v (λ e. a.0 (sym e))) in
    rw apart (kept f name n ls xs v m.2 r.1 a.1)

-- the place of a label that is spelled
pub place_again : (f : Option ℕ) (name : List ℕ) (t n : ℕ) (ls : List Label) (xs : List (List ℕ × ℕ)) → Marked n ls xs → HaveLabelNames xs → AreDistinct xs → IsLabel name t xs → (k : ℕ) × (t ≡ n + k)
    × (place_from f (padded name) ls ≡ Some k)
place_again f name t n [] [] m r d h = absurd h
place_again f name t n [] (x ∷ xs) m r d h = absurd m
place_again f name t n (l ∷ ls) [] m r d h = absurd h
place_again f name t n (l ∷ ls) (x ∷ xs) m r d (inl e) =
    let same : pointwise nat_eq l.name (padded name) ≡ true = rw (m.0, e.0) (same_name (padded name)) in
    let v : is_name name ≡ true = ap is_name (sym e.0) ∙ r.0 in
    (l.place, sym (m.1 ∙ e.1), rw same (kept (Some l.place) name n ls xs v m.2 r.1 (subst (λ x. IsApart x xs) e.0 d.0)))
place_again f name t n (l ∷ ls) (x ∷ xs) m r d (inr e) = place_again (cond (has_name (padded name) l) (Some l.place) f) name t n ls xs m.2 r.1 d.1 e
