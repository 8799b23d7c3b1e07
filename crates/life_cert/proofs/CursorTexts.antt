-- Cursors and facts, taken from the front of a text.
use Rattle.std.proofs.Common.{◌≡◌, ℕ, ◌+◌, ◌-◌, ◌<◌, Bool, true, false, cond, List, [], ◌∷◌, ◌++◌, codes, refl, sym, ap, subst, ◌∙◌, eqb, append_assoc, arith, inl, inr, ne_eqb}
use Rattle.std.proofs.lemmas.Bool.{eqb-true, eq-eqb}
use Rattle.life_state.specs.declared.parts.Classes.{Classes}
use Rattle.life_state.specs.States.{CursorKnown, Unset, Loose, In, End, InOrEnd}
use Rattle.life_state.specs.Facts.{is_set}
use Rattle.life_cert.specs.StateText.{where_holds, classes_text, homes, homes_text, cursor_name, brigade_name, place_text_of, cursor_text}
use Rattle.life_cert.specs.StateFromText.{at_past, at_read, behind, classes_past, classes_read, cursor_past, cursor_read, homes_from, homes_past, homes_read, key, loose_past, loose_read, number_in}
use Rattle.life_cert.specs.StateFromText.{past, place_past, place_read, starts}
use Rattle.life_cert.proofs.Taking.{TextEnded, ThreeTaken, behind_self, brigade_first, brigade_named, classes_taken, one, second_of, starts_self}
use Rattle.life_cert.proofs.HomeTexts.{bits, homes_taken}

pub same_classes : (s : Classes) (m t : List ℕ) → ThreeTaken 100 102 101 s.bytes s.flush s.eos m t → classes_read t ≡ s
same_classes s m t h =
    ap (λ (b : Bool). (let c : Classes = record { bytes = b; flush = starts (one 102) (past (one 100) t); eos = starts (one 101) (past (one 102) (past (one 100) t)) } in c)) h.first
    ∙ ap (λ (b : Bool). (let c : Classes = record { bytes = s.bytes; flush = b; eos = starts (one 101) (past (one 102) (past (one 100) t)) } in c)) h.second
    ∙ ap (λ (b : Bool). (let c : Classes = record { bytes = s.bytes; flush = s.flush; eos = b } in c)) h.third

-- the number that the second byte of a name tells
pub number_told : (eight a c : ℕ) (m : List ℕ) → 56 < eight → c < 9 → number_in eight (a ∷ (second_of eight c ∷ m)) ≡ c
number_told eight a c m high below = by (eqb c 8) refl
  where
    by : (x : Bool) → eqb c 8 ≡ x → cond (eqb (cond x eight (48 + c)) eight) 8 (cond x eight (48 + c) - 48) ≡ c
    by true e = ap (λ (y : Bool). cond y 8 (eight - 48)) (eq-eqb eight eight refl) ∙ sym (eqb-true c 8 e)
    by false e = ap (λ (y : Bool). cond y 8 (48 + c - 48)) (ne_eqb (48 + c) eight (λ same. omega (arith, same))) ∙ omega arith

-- what a text can say of a cursor
abbrev pub CanSay : CursorKnown → Type 0
CanSay Unset = Unit {0}
CanSay (Loose s h) = homes_from (bits h homes) ≡ h
CanSay (In b s) = b < 9
CanSay (End b) = b < 9
CanSay (InOrEnd b s) = b < 9

pub record PlaceTaken (v : CursorKnown) (m t : List ℕ) : Type 0 where
  pub read : place_read t ≡ v
  pub more : place_past t ≡ m

not_loose : (b : ℕ) (m : List ℕ) → starts (codes "loose/") (brigade_first b ∷ m) ≡ false
not_loose b m = by (eqb b 8)
  where
    by : (x : Bool) → starts (codes "loose/") (cond x 105 98 ∷ m) ≡ false
    by true = refl
    by false = refl

-- behind a brigade's name stands what tells the place
named_place : (b : ℕ) (v : CursorKnown) (r m : List ℕ) → b < 9 → at_read b r ≡ v → at_past r ≡ m → PlaceTaken v m (brigade_name b ++ r)
unfolding place_read place_past
named_place b v r m below read more =
    let t = brigade_first b ∷ (second_of 110 b ∷ r) in
    let is : brigade_name b ++ r ≡ t = ap (λ n. n ++ r) (brigade_named b below) in
    let no = not_loose b (second_of 110 b ∷ r) in
    let high : 56 < 110 = omega arith in
    record {
      read = ap place_read is ∙ ap (λ (x : Bool). cond x (loose_read (behind (codes "loose/") t)) (at_read (number_in 110 t) r)) no
          ∙ ap (λ (k : ℕ). at_read k r) (number_told 110 (brigade_first b) b r high below) ∙ read;
      more = ap place_past is ∙ ap (λ (x : Bool). cond x (loose_past (behind (codes "loose/") t)) (at_past r)) no ∙ more;
    }

again_at : (v : CursorKnown) (m t u : List ℕ) → t ≡ u → PlaceTaken v m u → PlaceTaken v m t
again_at v m t u is h = subst (PlaceTaken v m) (sym is) h

pub place_taken : (v : CursorKnown) (m : List ℕ) → is_set v ≡ true → CanSay v → TextEnded m → PlaceTaken v m (place_text_of v ++ m)
unfolding place_read place_past at_read at_past
place_taken Unset m set say e = cc set
place_taken (Loose s h) m set say e =
    let r = homes_text h ++ m in
    let t = (classes_text s ++ (47 ∷ homes_text h)) ++ m in
    let is : t ≡ classes_text s ++ (47 ∷ r) = append_assoc (classes_text s) (47 ∷ homes_text h) m in
    let taken = subst (ThreeTaken 100 102 101 s.bytes s.flush s.eos (47 ∷ r)) (sym is) (classes_taken s (47 ∷ r) (inr (inl refl))) in
    let there = homes_taken h m say e in
    record {
      read = ap (λ (c : Classes). (let k : CursorKnown = Loose c (homes_read (behind (codes "/") (classes_past t))) in k)) (same_classes s (47 ∷ r) t taken)
          ∙ ap (λ x. (let k : CursorKnown = Loose s (homes_read (behind (codes "/") x)) in k)) taken.more
          ∙ ap (λ x. (let k : CursorKnown = Loose s x in k)) there.0;
      more = ap (λ x. homes_past (behind (codes "/") x)) taken.more ∙ there.1;
    }
place_taken (In b s) m set say e =
    let taken = classes_taken s m e in
    again_at (In b s) m (place_text_of (In b s) ++ m) (brigade_name b ++ (47 ∷ (classes_text s ++ m))) (append_assoc (brigade_name b) (47 ∷ classes_text s) m)
    (named_place b (In b s) (47 ∷ (classes_text s ++ m)) m say (ap (λ (c : Classes). (let k : CursorKnown = In b c in k)) (same_classes s m (classes_text s ++ m) taken)) taken.more)
place_taken (End b) m set say e =
    again_at (End b) m (place_text_of (End b) ++ m) (brigade_name b ++ (36 ∷ m)) (append_assoc (brigade_name b) (36 ∷ []) m) (named_place b (End b) (36 ∷ m) m say refl refl)
place_taken (InOrEnd b s) m set say e =
    let taken = classes_taken s m e in
    again_at (InOrEnd b s) m (place_text_of (InOrEnd b s) ++ m) (brigade_name b ++ (63 ∷ (47 ∷ (classes_text s ++ m)))) (append_assoc (brigade_name b) (63 ∷ (47 ∷ classes_text s)) m)
    (named_place b (InOrEnd b s) (63 ∷ (47 ∷ (classes_text s ++ m))) m say (ap (λ (c : Classes). (let k : CursorKnown = InOrEnd b c in k)) (same_classes s m (classes_text s ++ m) taken)) taken.more)

pub record CursorTaken (c : ℕ) (v : CursorKnown) (m t : List ℕ) : Type 0 where
  pub read : cursor_read c t ≡ v
  pub more : cursor_past c t ≡ m

pub cursor_taken : (c : ℕ) (v : CursorKnown) (m : List ℕ) → CanSay v → TextEnded m → starts (key c) m ≡ false → CursorTaken c v m (cursor_text c v ++ m)
cursor_taken c v m say e none = by (is_set v) refl
  where
    unset : (v : CursorKnown) → is_set v ≡ false → v ≡ Unset
    unset Unset h = refl
    unset (Loose s k) h = cc h
    unset (In b s) h = cc h
    unset (End b) h = cc h
    unset (InOrEnd b s) h = cc h

    by : (x : Bool) → is_set v ≡ x → CursorTaken c v m (where_holds x (codes " " ++ (cursor_name c ++ (codes "=" ++ place_text_of v))) ++ m)
    by true set =
        let r = place_text_of v ++ m in
        let t = (32 ∷ (cursor_name c ++ (61 ∷ place_text_of v))) ++ m in
        let is : t ≡ key c ++ r = ap (λ x. 32 ∷ x) (append_assoc (cursor_name c) (61 ∷ place_text_of v) m ∙ sym (append_assoc (cursor_name c) (61 ∷ []) r)) in
        let at = ap (starts (key c)) is ∙ starts_self (key c) r in
        let on = ap (behind (key c)) is ∙ behind_self (key c) r in
        let place = place_taken v m set say e in
        record {
          read = ap (λ (b : Bool). cond b (place_read (behind (key c) t)) Unset) at ∙ ap place_read on ∙ place.read;
          more = ap (λ (b : Bool). cond b (place_past (behind (key c) t)) t) at ∙ ap place_past on ∙ place.more;
        }
    by false set = record {
      read = ap (λ (b : Bool). cond b (place_read (behind (key c) m)) Unset) none ∙ sym (unset v set);
      more = ap (λ (b : Bool). cond b (place_past (behind (key c) m)) m) none;
    }
