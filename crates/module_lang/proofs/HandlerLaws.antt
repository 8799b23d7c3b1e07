-- The labels of a handler by a map and a set, against the lists.
use Rattle.std.specs.Prelude.{All}
use Rattle.std.proofs.Common.{◌≡◌, ℕ, ◌+◌, ◌<◌, ◌≤◌, Bool, true, false, ◌||◌, not, cond, List, [], ◌∷◌, ◌++◌, length, get_or, drop, Option, Some, None, refl, sym, ◌∙◌, ap, add-one, subst, arith}
use Rattle.byte_text.proofs.ListLaws.{drop_here}
use Rattle.std.proofs.lemmas.List.Folds.{list_any-append}
use Rattle.std.proofs.lemmas.Bool.{le-leb, lt-leb}
use Rattle.std.specs.BTreeMap.{BTreeMap}
use Rattle.std.specs.BTreeMap as tree
use Rattle.std.specs.BTreeSet.{BTreeSet, contains}
use Rattle.std.specs.BTreeSet as set
use Rattle.std.specs.Cmp.Lexicographic.{slice_cmp, texts_ties}
use Rattle.std.specs.Ordering.{nat_cmp}
use Rattle.module_lang.specs.Handlers.{HasPlacesBelow, IsPlaces, IsSeen, place_from, has_name, is_named, fault, label_fault}
use Rattle.module_lang.specs.Labels.{place_of}
use Rattle.module_lang.specs.declared.draft.Label.{Label}
use Rattle.module_lang.specs.declared.refusal.Code.TheVariants as code

place_from-push : (f : Option ℕ) (q : List ℕ) (ls : List Label) (l : Label) → place_from f q (ls ++ l ∷ []) ≡ cond (has_name q l) (Some l.place) (place_from f q ls)
place_from-push f q [] l = refl
place_from-push f q (x ∷ xs) l = place_from-push (cond (has_name q x) (Some x.place) f) q xs l

pub places_none : (m : BTreeMap (List ℕ) ℕ) → tree.IsEmpty m → IsPlaces m []
unfolding IsPlaces place_of
places_none m e = λ q. rw e refl

-- one more label is one more place
pub places_more : (m n : BTreeMap (List ℕ) ℕ) (ls : List Label) (l : Label) → IsPlaces m ls → tree.Updates (slice_cmp nat_cmp) m n l.name (Some l.place) → IsPlaces n (ls ++ l ∷ [])
unfolding IsPlaces place_of
places_more m n ls l h u = λ q.
    let test = texts_ties l.name q in
    let more = place_from-push None q ls l in
    cc (test, more, u.0 q, h q)

pub place_found : (m : BTreeMap (List ℕ) ℕ) (ls : List Label) (q : List ℕ) → IsPlaces m ls → tree.get (slice_cmp nat_cmp) m q ≡ place_of q ls
unfolding IsPlaces
place_found m ls q h = h q

or_last : (a b : Bool) → (a || b) ≡ cond b true a
or_last true true = refl
or_last true false = refl
or_last false true = refl
or_last false false = refl

or_none : (b : Bool) → (b || false) ≡ b
or_none true = refl
or_none false = refl

twice : (b : Bool) → not (not b) ≡ b
twice true = refl
twice false = refl

seen_push : (q : List ℕ) (ls : List Label) (l : Label) → is_named q (ls ++ l ∷ []) ≡ cond (has_name q l) true (is_named q ls)
seen_push q ls l = list_any-append (has_name q) ls (l ∷ []) ∙ ap (λ b. is_named q ls || b) (or_none (has_name q l)) ∙ or_last (is_named q ls) (has_name q l)

-- one more label is one more name
pub seen_more : (m n : BTreeSet (List ℕ)) (ls : List Label) (l : Label) → IsSeen m ls → set.Updates (slice_cmp nat_cmp) m n l.name true → IsSeen n (ls ++ l ∷ [])
unfolding IsSeen
seen_more m n ls l h u = λ q.
    let test = texts_ties l.name q in
    let more = seen_push q ls l in
    cc (test, more, u.0 q, h q)

-- a name that is not new stands before, a new one does not
pub named_before : (m : BTreeSet (List ℕ)) (ls : List Label) (q : List ℕ) (added : Bool) → IsSeen m ls → added ≡ not (contains (slice_cmp nat_cmp) m q) → is_named q ls ≡ not added
unfolding IsSeen
named_before m ls q added h e = sym (h q) ∙ sym (twice (contains (slice_cmp nat_cmp) m q)) ∙ ap not (sym e)

pub fault_doubled : (before ls : List Label) (count i : ℕ) (d : Label) → i < length ls → is_named (get_or ls i d).name before ≡ true
    → label_fault before count (drop i ls) ≡ fault (get_or ls i d).line code.DoubledLabel
fault_doubled before ls count i d h e = rw (drop_here ls i d h, e) refl

pub fault_lost : (before ls : List Label) (count i : ℕ) (d : Label) → i < length ls → is_named (get_or ls i d).name before ≡ false → count ≤ (get_or ls i d).place
    → label_fault before count (drop i ls) ≡ fault (get_or ls i d).line code.LostLabel
fault_lost before ls count i d h e low = rw (drop_here ls i d h, e, le-leb count (get_or ls i d).place low) refl

pub fault_on : (before ls : List Label) (count i : ℕ) (d : Label) → i < length ls → is_named (get_or ls i d).name before ≡ false → (get_or ls i d).place < count
    → label_fault before count (drop i ls) ≡ label_fault (before ++ get_or ls i d ∷ []) count (drop (i + 1) ls)
fault_on before ls count i d h e low = rw (drop_here ls i d h, e, lt-leb count (get_or ls i d).place low) refl

-- where each label stands below a number, so does each place that is found
pub place_from-below : (n : ℕ) (f : Option ℕ) (q : List ℕ) (ls : List Label) → ((p : ℕ) → f ≡ Some p → p < n) → All (λ l. l.place < n) ls → (p : ℕ) → place_from f q ls ≡ Some p → p < n
place_from-below n f q [] hf h p e = hf p e
place_from-below n f q (l ∷ ls) hf h p e =
    place_from-below n (cond (has_name q l) (Some l.place) f) q ls (either (has_name q l))
    (λ k d lt. let e : get_or (l ∷ ls) (k + 1) d ≡ get_or ls k d = rw add-one refl in subst (λ x. x.place < n) e (h (k + 1) d (omega arith))) p e
  where
    either : (b : Bool) (p : ℕ) → cond b (Some l.place) f ≡ Some p → p < n
    either true p e = let s : l.place ≡ p = cc e in subst (λ x. x < n) s (h 0 l (omega arith))
    either false p e = hf p e

pub below : (m : BTreeMap (List ℕ) ℕ) (ls : List Label) (n : ℕ) → IsPlaces m ls → All (λ l. l.place < n) ls → n ≤ 1024 → HasPlacesBelow m 1024
unfolding IsPlaces place_of HasPlacesBelow
below m ls n h all small = λ q p e.
    let lt = place_from-below n None q ls (λ p e. absurd (cc e)) all p (sym (h q) ∙ e) in omega arith
